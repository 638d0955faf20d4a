-- The stages of commands, from what their parts say.
use Rattle.std.proofs.Common.{◌≡◌, inl, inr, ℕ, ◌<◌, ◌≤◌, List, [], ◌∷◌, ◌++◌, length, Option, Some, None, refl, sym, ap, subst, ◌∙◌, codes}
use Rattle.std.specs.Prelude.{⊤}
use Rattle.pg_base.specs.Base.{BaseParts}
use Rattle.pg_base.specs.Limits.{most_script_bytes, most_document_bytes, most_variables_bytes}
use Rattle.pg_io.specs.Files.{Told}
use Rattle.rel_model.specs.declared.tables.Tables.{Tables}
use Rattle.schema_build.specs.Sdl.{sdl_of}
use Rattle.request_core.specs.Load.{Loads, IsLoadFault}
use Rattle.request_core.specs.Request.{Request, asked}
use Rattle.request_core.specs.Answer.{IsAnswer}
use Rattle.request_core.specs.Explained.{IsExplained}
use Rattle.request_core.specs.declared.explaining.Explanation.{Explanation}
use Rattle.command_words.specs.Commands.{check, schema, query, explain}
use Rattle.command_words.specs.Commands as words
use Rattle.graphile_prog.specs.Told.{Outside, outside, IfHeld, IfGiven, CountsStay}
use Rattle.graphile_prog.specs.Stages.{Stage, AreRefused, ArePassed, OrMemory}
use Rattle.graphile_prog.specs.Commands.{IsSomeScript, IsRefusedBy, IsSchemaText, IsResponse, IsPlanText, script_stage, script_stages, variables_stages, request_stages, file_stage, size_stage, task_of}
use Rattle.graphile_prog.specs.Parts.{read_stages, IsRead, IsLoadedBy, IsLoaded, IsGivenAs, AreReadFor, AreRead, IsAnsweredBy, IsPlanOf, IsPassed}
use Rattle.graphile_prog.specs.declared.status.Status.{Status}
use Rattle.graphile_prog.specs.declared.status.Status.TheVariants as status
use Rattle.graphile_prog.proofs.Order.{refused_first, refused_later, passed_both}
use Rattle.graphile_prog.proofs.Held.{held_map, asked_map, all_held, read_there, read_short, read_holds}

-- ---- the script's file

pub script_unread : (o : Outside) (name : List ℕ) (s : Status) → OrMemory (AreRefused (read_stages o name most_script_bytes)) s → OrMemory (AreRefused (script_stages o name)) s
script_unread o name s (inl m) = inl m
script_unread o name s (inr r) = inr (refused_first (read_stages o name most_script_bytes) (script_stage (o.file name) ∷ []) s r)

pub script_refused : (o : Outside) (name bytes : List ℕ) (s : Status) → IsRead (o.file name) most_script_bytes bytes
    → OrMemory (IsRefusedBy bytes) s → OrMemory (AreRefused (script_stages o name)) s
script_refused o name bytes s read (inl m) = inl m
script_refused o name bytes s read (inr r) =
    inr (refused_later (read_stages o name most_script_bytes) (script_stage (o.file name) ∷ []) s
    (read_there (o.file name) most_script_bytes bytes read, (read_short (o.file name) most_script_bytes bytes read, tt))
    (inl (record {
      fault = r.0;
      named = r.1;
      cause = read_holds (o.file name) most_script_bytes bytes (λ b. IsLoadFault b r.0) (λ b. IsLoadFault b r.0) (λ held short f. f) r.2 read;
    })))

pub script_loaded : (told : Told) (bytes : List ℕ) (base : BaseParts) (tables : Tables) → IsRead told most_script_bytes bytes → Loads bytes base tables → IsLoaded told base tables
script_loaded told bytes base tables read loads =
    read_holds told most_script_bytes bytes (λ b. Loads b base tables) (IsLoadedBy base tables) (λ held short l. (short, l)) loads read

pub script_passed : (o : Outside) (name : List ℕ) (base : BaseParts) (tables : Tables) → IsLoaded (o.file name) base tables → ArePassed (script_stages o name)
script_passed o name base tables loaded = (
  held_map (o.file name) (IsLoadedBy base tables) (λ _. ⊤) (λ b l. tt) loaded,
  (
    held_map (o.file name) (IsLoadedBy base tables) (λ b. length b ≤ most_script_bytes) (λ b l. l.0) loaded,
    (held_map (o.file name) (IsLoadedBy base tables) IsSomeScript (λ b l. (base, tables, l.1)) loaded, tt),
  ),
)

pub checked : (o : Outside) (name : List ℕ) (base : BaseParts) (tables : Tables) (text : List ℕ) → IsLoaded (o.file name) base tables → text ≡ codes "ok\n" → IsPassed o (check name) text
checked o name base tables text loaded is = record { stages = script_passed o name base tables loaded; due = is }

pub described : (o : Outside) (name : List ℕ) (base : BaseParts) (tables : Tables) (text : List ℕ) → IsLoaded (o.file name) base tables → text ≡ sdl_of base.schema → IsPassed o (schema name) text
described o name base tables text loaded is = record {
  stages = script_passed o name base tables loaded;
  due = held_map (o.file name) (IsLoadedBy base tables) (IsSchemaText text) (λ b l. record { base = base; tables = tables; loads = l.1; shown = is }) loaded;
}

-- ---- the variables' file, where one is named

pub given_passed : (o : Outside) (name given : Option (List ℕ)) → IsGivenAs o name given → ArePassed (variables_stages o name)
given_passed o None given g = tt
given_passed o (Some name) given g =
    (read_there (o.file name) most_variables_bytes g.0 g.2, (read_short (o.file name) most_variables_bytes g.0 g.2, tt))

-- what holds of what was read
given_holds : (o : Outside) (name given : Option (List ℕ)) (P : Option (List ℕ) → Type 0) → P given → IsGivenAs o name given → IfGiven o name P
given_holds o None given P p g = subst P g p
given_holds o (Some name) given P p g =
    read_holds (o.file name) most_variables_bytes g.0 (λ b. P (Some b)) (λ b. P (Some b)) (λ b short x. x) (subst P g.1 p) g.2

abbrev Beside : words.Request → List ℕ → (Request → Type 0) → Option (List ℕ) → Type 0
Beside q document P variables = P (asked document q.operation variables)

-- ---- from a document's file on

document_read : (o : Outside) (q : words.Request) (document : List ℕ) → IsRead (o.file q.document) most_document_bytes document → ArePassed (read_stages o q.document most_document_bytes)
document_read o q document read =
    (read_there (o.file q.document) most_document_bytes document read, (read_short (o.file q.document) most_document_bytes document read, tt))

pub files_unread : (o : Outside) (q : words.Request) (s : Status) → OrMemory (AreRefused (read_stages o q.document most_document_bytes)) s → OrMemory (AreRefused (request_stages o q)) s
files_unread o q s (inl m) = inl m
files_unread o q s (inr r) = inr (refused_first (read_stages o q.document most_document_bytes) (variables_stages o q.variables) s r)

over_read : (o : Outside) (q : words.Request) (document : List ℕ) (given : Option (List ℕ)) → IsRead (o.file q.document) most_document_bytes document
    → IsGivenAs o q.variables given → AreRead o q document given
over_read o q document given read g = record {
  passed = passed_both (read_stages o q.document most_document_bytes) (variables_stages o q.variables) (document_read o q document read) (given_passed o q.variables given g);
  due = read_holds (o.file q.document) most_document_bytes document (λ d. d ≡ document)
      (λ d. IfGiven o q.variables (Beside q d (λ r. r ≡ asked document q.operation given)))
      (λ held short e. given_holds o q.variables given (Beside q held (λ r. r ≡ asked document q.operation given))
      (ap (λ (d : List ℕ). asked d q.operation given) e) g) refl read;
}

-- two moments of a run with the same files and counts
module _ (file mid_file : List ℕ → Told) (before mid now : List ℕ → ℕ) (kept : (name : List ℕ) → mid_file name ≡ file name)
    (stay : CountsStay before mid) where
  same_outside : outside mid_file mid now ≡ outside file before now
  same_outside = λ i. outside (λ n. kept n i) (λ n. stay n i) now

  moved : (P : Outside → Type 0) → P (outside mid_file mid now) → P (outside file before now)
  moved P p = subst P same_outside p

  pub files_refused : (q : words.Request) (document : List ℕ) (s : Status) → IsRead (file q.document) most_document_bytes document
      → OrMemory (AreRefused (variables_stages (outside mid_file mid now) q.variables)) s → OrMemory (AreRefused (request_stages (outside file before now) q)) s
  files_refused q document s read (inl m) = inl m
  files_refused q document s read (inr r) =
      inr (refused_later (read_stages (outside file before now) q.document most_document_bytes) (variables_stages (outside file before now) q.variables) s
      (document_read (outside file before now) q document read) (moved (λ o. AreRefused (variables_stages o q.variables) s) r))

  pub files_read : (q : words.Request) (document : List ℕ) (given : Option (List ℕ)) → IsRead (file q.document) most_document_bytes document
      → IsGivenAs (outside mid_file mid now) q.variables given → AreRead (outside file before now) q document given
  files_read q document given read g = over_read (outside file before now) q document given read (moved (λ o. IsGivenAs o q.variables given) g)

-- ---- what is done with what was read

module _ (o : Outside) (q : words.Request) (document : List ℕ) (given : Option (List ℕ)) (read : AreRead o q document given) where
  read_for : (P : Request → Type 0) → P (asked document q.operation given) → AreReadFor o q P
  read_for P p = record {
    passed = read.passed;
    due = asked_map o q (λ request. request ≡ asked document q.operation given) P (λ request e. subst P (sym e) p) read.due;
  }

  pub answered_by : (base : BaseParts) (tables : Tables) (text : List ℕ) → IsAnswer base tables (asked document q.operation given) text → IsAnsweredBy o q base tables text
  answered_by base tables text answer = read_for (λ request. IsAnswer base tables request text) answer

  pub explained_by : (base : BaseParts) (x : Explanation) → IsExplained base (asked document q.operation given) x → AreReadFor o q (λ request. IsExplained base request x)
  explained_by base x explained = read_for (λ request. IsExplained base request x) explained

-- ---- a whole query, or what is to be explained

pub query_unloaded : (o : Outside) (q : words.Request) (s : Status) → OrMemory (AreRefused (script_stages o q.script)) s → OrMemory (AreRefused (task_of o (query q)).stages) s
query_unloaded o q s (inl m) = inl m
query_unloaded o q s (inr r) = inr (refused_first (script_stages o q.script) (request_stages o q) s r)

loaded_passed : (o : Outside) (q : words.Request) (base : BaseParts) (tables : Tables) (response text : List ℕ) → IsLoaded (o.file q.script) base tables
    → IsAnsweredBy o q base tables response → text ≡ response ++ 10 ∷ [] → IsPassed o (query q) text
loaded_passed o q base tables response text loaded a is = record {
  stages = passed_both (script_stages o q.script) (request_stages o q) (script_passed o q.script base tables loaded) a.passed;
  due = all_held o q (IsLoadedBy base tables) (λ r. IsAnswer base tables r response) (IsResponse text)
      (λ script request l x. record { base = base; tables = tables; response = response; loads = l.1; answer = x; shown = is }) loaded a.due;
}

loaded_explained : (o : Outside) (q : words.Request) (base : BaseParts) (tables : Tables) (text : List ℕ) → IsLoaded (o.file q.script) base tables
    → IsPlanOf o q base text → IsPassed o (explain q) text
loaded_explained o q base tables text loaded a = record {
  stages = passed_both (script_stages o q.script) (request_stages o q) (script_passed o q.script base tables loaded) a.explained.passed;
  due = all_held o q (IsLoadedBy base tables) (λ r. IsExplained base r a.explanation) (IsPlanText text)
      (λ script request l x. record { base = base; tables = tables; explanation = a.explanation; loads = l.1; explained = x; shown = a.shown }) loaded a.explained.due;
}

module _ (file mid_file : List ℕ → Told) (before mid now : List ℕ → ℕ) (q : words.Request) (base : BaseParts) (tables : Tables)
    (loaded : IsLoaded (file q.script) base tables) (kept : (name : List ℕ) → mid_file name ≡ file name) (stay : CountsStay before mid) where
  pub query_unanswered : (s : Status) → OrMemory (AreRefused (request_stages (outside mid_file mid now) q)) s
      → OrMemory (AreRefused (task_of (outside file before now) (query q)).stages) s
  query_unanswered s (inl m) = inl m
  query_unanswered s (inr r) =
      inr (refused_later (script_stages (outside file before now) q.script) (request_stages (outside file before now) q) s
      (script_passed (outside file before now) q.script base tables loaded) (moved file mid_file before mid now kept stay (λ o. AreRefused (request_stages o q) s) r))

  pub query_passed : (response text : List ℕ) → IsAnsweredBy (outside mid_file mid now) q base tables response → text ≡ response ++ 10 ∷ []
      → IsPassed (outside file before now) (query q) text
  query_passed response text a is =
      loaded_passed (outside file before now) q base tables response text loaded
      (moved file mid_file before mid now kept stay (λ o. IsAnsweredBy o q base tables response) a) is

  pub plan_passed : (text : List ℕ) → IsPlanOf (outside mid_file mid now) q base text → IsPassed (outside file before now) (explain q) text
  plan_passed text a =
      loaded_explained (outside file before now) q base tables text loaded (moved file mid_file before mid now kept stay (λ o. IsPlanOf o q base text) a)
