-- Each row of a walk that has no fault has a value, where each argument takes one value at a use.
use Rattle.std.proofs.Common.{◌≡◌, ◌∙◌, ℕ, Bool, cond, true, false, zero, suc, is_some, refl, sym, ap₂, subst, List, [], ◌∷◌, ◌++◌, length, drop, Option, Some, None, ◌&&◌}
use Rattle.std.specs.List.{find, fold}
use Rattle.std.specs.Option.{option_map_or}
use Rattle.std.specs.Prelude.{encode_utf8, option_and_then, slice_get}
use Rattle.std.specs.Str.{bytes_eq, chars}
use Rattle.clap.specs.Lexer.{long_of, short_of}
use Rattle.clap.specs.Facts.{explicit_source, unwrap_or_range}
use Rattle.clap.specs.Walk.{Held, Names, Outcome, Row, Rule, Step, Text, Waiting, Walk, action_of, after_flag, after_step, arg_by_id, arg_by_index, arg_by_long, arg_by_short, at_row, attached_value, bundle_met, bundle_step, default_rows, done, flag_met, has_row, idle, is_pending, long_met, long_or_other, more_values, most_values, next, option, option_met, option_word, plain, plain_word, positional, reacted, reading_by, refused, settled, settled_rows, short_met, short_or_plain, subcommand, subcommand_met, subcommand_or_other, takes_several, takes_values, to_positional, trailing, used, used_as, used_by_id, value, waits, walk_from, walked, walked_from, with_default, with_values, without, word_met, first_of, nothing_held, rows_after, walk}
use Rattle.clap.specs.Simple.{Shape}
use Rattle.clap.specs.Takes.{is_given}
use Rattle.clap.specs.Kinds.{Kinds, or_else, range_kinds}
use Rattle.clap.specs.Faults.{action_fault, check_fault, bundle_step_fault, flag_word_fault, flags_fault, level_fault, long_fault, option_fault, other_fault, positional_fault, react_fault, settle_fault, short_fault, step_fault, stray_fault, turn_fault, use_fault, walk_fault, word_fault}
use Rattle.clap.specs.declared.builder.action.ArgAction.{ArgAction}
use Rattle.clap.specs.declared.builder.action.ArgAction.TheVariants.{Set}
use Rattle.clap.specs.declared.builder.value_parser.Reading.{Reading}
use Rattle.clap.specs.declared.error.kind.ErrorKind.{ErrorKind}
use Rattle.clap.specs.declared.parser.matches.ValueSource.{ValueSource}
use Rattle.clap.specs.declared.parser.matches.ValueSource.TheVariants.{CommandLine, DefaultValue}

-- ---- choices

pub choose : {A : Type 0} (P : A → Type 0) (b : Bool) (x y : A) → P x → P y → P (cond b x y)
choose P true x y at_x at_y = at_x
choose P false x y at_x at_y = at_y

pub no_kind : (a b : Kinds) → or_else a b ≡ [] → (a ≡ []) × (b ≡ [])
no_kind [] b e = (refl, e)
no_kind (k ∷ ks) b e = absurd (let bad : k ∷ ks ≡ [] = e in cc)

-- ---- rows

abbrev pub has_value : Row → Bool
has_value r = is_some (slice_get r.values 0)

abbrev pub Full : List Row → Type 0
Full [] = Unit {0}
Full (r ∷ rs) = (has_value r ≡ true) × Full rs

full_append : (xs ys : List Row) → Full xs → Full ys → Full (xs ++ ys)
full_append [] ys p q = q
full_append (x ∷ xs) ys p q = (p.0, full_append xs ys p.1 q)

full_at : (id : Text) (change : Row → List Row) (missing : List Row) (rows : List Row) → ((r : Row) → has_value r ≡ true → Full (change r)) → Full missing → Full rows
    → Full (at_row id change missing rows)
full_at id change missing [] each m full = m
full_at id change missing (r ∷ rs) each m full = choose Full (bytes_eq r.id id) (change r ++ rs) (r ∷ at_row id change missing rs)
    (full_append (change r) rs (each r full.0) full.1) (full.0, full_at id change missing rs each m full.1)

more_value : (xs : List Text) (v : Text) (vs : List Text) → is_some (slice_get (xs ++ v ∷ vs) 0) ≡ true
more_value [] v vs = refl
more_value (x ∷ xs) v vs = refl

with_full : (id : Text) (how : Reading) (s : ValueSource) (v : Text) (vs : List Text) (rows : List Row) → Full rows → Full (with_values id how s (v ∷ vs) rows)
with_full id how s v vs rows full =
    let each : (r : Row) → has_value r ≡ true → Full (more_values s (v ∷ vs) r) = λ r _. (more_value r.values v vs, tt) in
    full_at id (more_values s (v ∷ vs)) (record { id = id; values = v ∷ vs; count = None; source = Some s; reading = how } ∷ []) rows each (refl, tt) full

without_full : (id : Text) (rows : List Row) → Full rows → Full (without id rows)
without_full id rows full =
    let each : (r : Row) → has_value r ≡ true → Full [] = λ r _. tt in
    let empty : Full [] = tt in
    full_at id (λ _. []) [] rows each empty full

-- ---- arguments

-- the argument takes one value at a use
pub record IsOne (a : Rule) : Type 0 where
  pub action : action_of a ≡ Set
  pub least : (unwrap_or_range a.range).start_inclusive ≡ 1
  pub most : most_values a ≡ 1

abbrev pub Ones : List Rule → Type 0
Ones [] = Unit {0}
Ones (a ∷ rest) = IsOne a × Ones rest

abbrev pub MaybeOne : Option Rule → Type 0
MaybeOne None = Unit {0}
MaybeOne (Some a) = IsOne a

found_one : (test : Rule → Bool) (c : List Rule) → Ones c → MaybeOne (find test c)
found_one test [] ones = tt
found_one test (a ∷ rest) ones = choose MaybeOne (test a) (Some a) (find test rest) ones.0 (found_one test rest ones.1)

used_full : (again : Bool) (a : Rule) (values : List Text) (rows : List Row) → IsOne a → use_fault again a values rows ≡ [] → Full rows → Full (used a values rows)
used_full again a [] rows one e full =
    let same = ap₂ (λ x y. or_else (range_kinds x y 0) (action_fault (action_of a) again a a.missing rows)) one.least one.most in
    absurd (let bad = sym same ∙ e in cc)
used_full again a (v ∷ vs) rows one e full =
    subst (λ (x : ArgAction). Full (used_as x a.id (reading_by a) (v ∷ vs) rows)) (sym one.action)
    (with_full a.id (reading_by a) CommandLine v vs _ (without_full a.id rows full))

used_by_full : (again : Bool) (o : Option Rule) (values : List Text) (rows : List Row) → MaybeOne o → option_map_or (λ a. use_fault again a values rows) o [] ≡ []
    → Full rows → Full (used_by_id o values rows)
used_by_full again None values rows one e full = full
used_by_full again (Some a) values rows one e full = used_full again a values rows one e full

module _ (c : List Rule) (again : Bool) (ones : Ones c) where
  settled_at : (p : Option (Text × List Text)) (rows : List Row) → option_map_or (λ q. option_map_or (λ a. use_fault again a q.1 rows) (arg_by_id c q.0) []) p [] ≡ []
      → Full rows → Full (settled_rows c p rows)
  settled_at None rows e full = full
  settled_at (Some q) rows e full = used_by_full again (arg_by_id c q.0) q.1 rows (found_one _ c ones) e full

  settled_full : (h : Held) → settle_fault c again h ≡ [] → Full h.rows → Full (settled c h).rows
  settled_full h e full = settled_at h.pending h.rows e full

  reacted_full : (a : Rule) (values : List Text) (h : Held) → IsOne a → react_fault c again a values h ≡ [] → Full h.rows → Full (reacted c a values h).rows
  reacted_full a values h one e full =
      let parts = no_kind _ _ e in
      used_full again a values (settled c h).rows one parts.1 (settled_full h parts.0 full)

  option_full : (a : Rule) (v : Option Text) (h : Held) → IsOne a → option_fault c again a v h ≡ [] → Full h.rows → Full (option_met c a v h).0.rows
  option_full a (Some v) h one e full = reacted_full a (v ∷ []) h one e full
  option_full a None h one e full = settled_full h e full

  flag_full : (a : Rule) (v : Option Text) (h : Held) (k : ErrorKind) → IsOne a → cond (is_some v) (k ∷ []) (react_fault c again a [] h) ≡ [] → Full h.rows
      → Full (flag_met c a v h).0.rows
  flag_full a (Some v) h k one e full = full
  flag_full a None h k one e full = reacted_full a [] h one e full

  long_at : (b : Bool) (a : Rule) (v : Option Text) (h : Held) (k : ErrorKind) → IsOne a
      → cond b (option_fault c again a v h) (cond (is_some v) (k ∷ []) (react_fault c again a [] h)) ≡ [] → Full h.rows
      → Full (cond b (option_met c a v h) (flag_met c a v h)).0.rows
  long_at true a v h k one e full = option_full a v h one e full
  long_at false a v h k one e full = flag_full a v h k one e full

  long_full : (o : Option Rule) (v : Option Text) (h : Held) → MaybeOne o → long_fault c again o v h ≡ [] → Full h.rows → Full (long_met c o v h).0.rows
  long_full None v h one e full = full
  long_full (Some a) v h one e full = long_at (takes_values a) a v h _ one e full

  short_at : (b : Bool) (a : Rule) (v : Option Text) (h : Held) (next_fault : Held → Kinds) (next_met : Held → Held × Outcome) → IsOne a
      → ((g : Held) → next_fault g ≡ [] → Full g.rows → Full (next_met g).0.rows)
      → cond b (option_fault c again a v h) (or_else (react_fault c again a [] h) (next_fault (reacted c a [] h))) ≡ [] → Full h.rows
      → Full (cond b (option_met c a v h) (next_met (reacted c a [] h))).0.rows
  short_at true a v h next_fault next_met one goes_on e full = option_full a v h one e full
  short_at false a v h next_fault next_met one goes_on e full =
      let parts = no_kind _ _ e in
      goes_on (reacted c a [] h) parts.1 (reacted_full a [] h one parts.0 full)

  short_full : (o : Option Rule) (rest : Text) (h : Held) (next_fault : Held → Kinds) (next_met : Held → Held × Outcome) → MaybeOne o
      → ((g : Held) → next_fault g ≡ [] → Full g.rows → Full (next_met g).0.rows)
      → short_fault c again o rest h next_fault ≡ [] → Full h.rows → Full (short_met c o rest h next_met).0.rows
  short_full None rest h next_fault next_met one goes_on e full = full
  short_full (Some a) rest h next_fault next_met one goes_on e full = short_at (takes_values a) a (attached_value rest) h next_fault next_met one goes_on e full

  step_full : (x : Option ℕ) (flags : Text) (skip : ℕ) (so_far : Outcome) (h : Held) (next_fault : Text → ℕ → Held → Kinds)
      (next_met : Text → ℕ → Outcome → Held → Held × Outcome)
      → ((text : Text) (n : ℕ) (o : Outcome) (g : Held) → next_fault text n g ≡ [] → Full g.rows → Full (next_met text n o g).0.rows)
      → bundle_step_fault c again x flags skip h next_fault ≡ [] → Full h.rows → Full (bundle_step c x flags skip so_far h next_met).0.rows
  step_full None flags skip so_far h next_fault next_met goes_on e full = full
  step_full (Some x) flags zero so_far h next_fault next_met goes_on e full =
      let rest = drop (length (encode_utf8 x)) flags in
      short_full (arg_by_short c x) rest h (next_fault rest 0) (next_met rest 0 done) (found_one _ c ones) (λ g. goes_on rest 0 done g) e full
  step_full (Some x) flags (suc skip) so_far h next_fault next_met goes_on e full = goes_on _ skip so_far h e full

  bundle_full : (k : ℕ) (flags : Text) (skip : ℕ) (so_far : Outcome) (h : Held) → flags_fault c again k flags skip h ≡ [] → Full h.rows
      → Full (bundle_met c k flags skip so_far h).0.rows
  unfolding flags_fault bundle_met
  bundle_full zero flags skip so_far h e full = full
  bundle_full (suc k) flags skip so_far h e full =
      step_full (slice_get (chars flags) 0) flags skip so_far h (flags_fault c again k) (bundle_met c k) (λ text n o g. bundle_full k text n o g) e full

  option_word_full : (o : Option Rule) (id word : Text) (h : Held) → Full h.rows → Full (option_word o id word h).0.rows
  option_word_full None id word h full = full
  option_word_full (Some a) id word h full = full

  plain_full : (waiting : Waiting) (word : Text) (h : Held) → Full h.rows → Full (plain_word c waiting word h).0.rows
  plain_full idle word h full = full
  plain_full positional word h full = full
  plain_full (option id) word h full = option_word_full (arg_by_id c id) id word h full

  after_flag_full : (waiting : Waiting) (word : Text) (h : Held) (o : Outcome) → Full h.rows → Full (after_flag c waiting word h o).0.rows
  after_flag_full waiting word h done full = full
  after_flag_full waiting word h (waits id) full = full
  after_flag_full waiting word h plain full = plain_full waiting word h full
  after_flag_full waiting word h refused full = plain_full waiting word h full

  short_word_full : (o : Option Text) (waiting : Waiting) (word : Text) (h : Held)
      → option_map_or (λ flags. flags_fault c again (length flags) flags h.skip (record h { skip = 0 })) o [] ≡ []
      → Full h.rows → Full (short_or_plain c waiting word o h).0.rows
  short_word_full None waiting word h e full = plain_full waiting word h full
  short_word_full (Some flags) waiting word h e full =
      after_flag_full waiting word _ _ (bundle_full (length flags) flags h.skip plain (record h { skip = 0 }) e full)

  flag_word_full : (o : Option (Text × Option Text)) (waiting : Waiting) (word : Text) (h : Held) → flag_word_fault c again o word h ≡ []
      → Full h.rows → Full (long_or_other c waiting word o h).0.rows
  flag_word_full None waiting word h e full = short_word_full (short_of word) waiting word h e full
  flag_word_full (Some p) waiting word h e full = after_flag_full waiting word _ _ (long_full (arg_by_long c p.0) p.1 h (found_one _ c ones) e full)

  minus_full : (b : Bool) (waiting : Waiting) (position : ℕ) (word : Text) (h : Held) → cond b [] (flag_word_fault c again (long_of word) word h) ≡ []
      → Full h.rows → Full (cond b (h, trailing position) (long_or_other c waiting word (long_of word) h)).0.rows
  minus_full true waiting position word h e full = full
  minus_full false waiting position word h e full = flag_word_full (long_of word) waiting word h e full

  pushed_at : (b : Bool) (h : Held) → cond b [] (settle_fault c again h) ≡ [] → Full h.rows → Full (cond b h (settled c h)).rows
  pushed_at true h e full = full
  pushed_at false h e full = settled_full h e full

  to_full : (o : Option Rule) (word : Text) (w : Walk) (h : Held) (stray : Kinds) → option_map_or (λ a. positional_fault c again a h) o stray ≡ [] → Full h.rows
      → Full (to_positional c o word w h).held.rows
  to_full None word w h stray e full = full
  to_full (Some a) word w h stray e full = pushed_at (is_pending a h.pending && takes_several a) h e full

-- ---- the walk

module _ (s : Shape) (names : Names) (ones : Ones s.rules) where
  met_full : (o : Option Text) (waiting : Waiting) (position : ℕ) (word : Text) (h : Held) → other_fault s o word h ≡ [] → Full h.rows
      → Full (subcommand_or_other s.rules o waiting position word h).0.rows
  met_full (Some name) waiting position word h e full = full
  met_full None waiting position word h e full =
      minus_full s.rules s.args_override_self ones (bytes_eq word (45 ∷ 45 ∷ [])) waiting position word h e full

  word_full : (is_trailing : Bool) (waiting : Waiting) (position : ℕ) (word : Text) (h : Held) → word_fault s names is_trailing waiting word h ≡ [] → Full h.rows
      → Full (word_met s.rules names is_trailing waiting position word h).0.rows
  word_full true waiting position word h e full = full
  word_full false waiting position word h e full = met_full (subcommand_met names waiting word) waiting position word h e full

  after_full : (word : Text) (w : Walk) (h : Held) (step : Step) → step_fault s w.position h step ≡ [] → Full h.rows → Full (after_step s.rules word w h step).held.rows
  after_full word w h (next waiting) e full = full
  after_full word w h (trailing position) e full = full
  after_full word w h (subcommand name) e full = full
  after_full word w h value e full = to_full s.rules s.args_override_self ones (arg_by_index s.rules w.position) word w h (stray_fault s) e full

  turn_at : (stopped : Option (Text × List Text)) (w : Walk) (word : Text)
      → cond (is_some stopped) [] (or_else (word_fault s names w.is_trailing w.waiting word w.held)
      (step_fault s w.position (word_met s.rules names w.is_trailing w.waiting w.position word w.held).0 (word_met s.rules names w.is_trailing w.waiting w.position word w.held).1)) ≡ []
      → Full w.held.rows → Full (walked_from s.rules names stopped w word).held.rows
  turn_at (Some p) w word e full = full
  turn_at None w word e full =
      let parts = no_kind _ _ e in
      after_full word w _ _ parts.1 (word_full w.is_trailing w.waiting w.position word w.held parts.0 full)

  turn_full : (w : Walk) (word : Text) → turn_fault s names w word ≡ [] → Full w.held.rows → Full (walked s.rules names w word).held.rows
  unfolding walked
  turn_full w word e full = turn_at w.stopped w word e full

  walk_full : (w : Walk) (words : List Text) → walk_fault s names w words ≡ [] → Full w.held.rows → Full (fold (walked s.rules names) w words).held.rows
  unfolding walk_fault
  walk_full w [] e full = full
  walk_full w (word ∷ rest) e full =
      let parts = no_kind _ _ e in
      walk_full (walked s.rules names w word) rest parts.1 (turn_full w word parts.0 full)

default_full : (id : Text) (how : Reading) (values : List Text) (rows : List Row) → Full rows → Full (default_rows id how values rows)
default_full id how [] rows full = full
default_full id how (v ∷ vs) rows full = with_full id how DefaultValue v vs rows full

defaults_full : (c : List Rule) (rows : List Row) → Full rows → Full (fold with_default rows c)
defaults_full [] rows full = full
defaults_full (a ∷ rest) rows full =
    defaults_full rest _ (choose Full (has_row a.id rows) rows (default_rows a.id (reading_by a) a.defaults rows) full
    (default_full a.id (reading_by a) a.defaults rows full))

-- ---- what is given

abbrev MaybeFull : Option Row → Type 0
MaybeFull None = Unit {0}
MaybeFull (Some r) = has_value r ≡ true

found_full : (test : Row → Bool) (rows : List Row) → Full rows → MaybeFull (find test rows)
found_full test [] full = tt
found_full test (r ∷ rs) full = choose MaybeFull (test r) (Some r) (find test rs) full.0 (found_full test rs full.1)

given_at : (o : Option Row) → MaybeFull o → option_map_or (λ r. explicit_source r.source) o false ≡ true → is_some (option_and_then (λ r. slice_get r.values 0) o) ≡ true
given_at None full e = absurd (let bad : false ≡ true = e in cc)
given_at (Some r) full e = full

-- what is given has a first value
pub given_first : (id : Text) (rows : List Row) → Full rows → is_given id rows ≡ true → is_some (first_of id rows) ≡ true
given_first id rows full e = given_at (find (λ r. bytes_eq r.id id) rows) (found_full _ rows full) e

-- ---- a level

-- a level with no fault has a value in each row, and what is required stands there
pub level_full : (s : Shape) (names : Names) (words : List Text) (has : Bool) (below : Kinds) → Ones s.rules → level_fault s names nothing_held words has below ≡ []
    → (below ≡ []) × Full (rows_after s.rules names words) × (check_fault s (rows_after s.rules names words) has ≡ [])
level_full s names words has below ones e =
    let parts = no_kind _ _ e in
    let more = no_kind below _ parts.1 in
    let settles = no_kind _ _ more.1 in
    let ends = no_kind _ _ settles.1 in
    let held = (walk s.rules names nothing_held words).held in (
      more.0,
      defaults_full s.rules (settled s.rules held).rows
          (settled_full s.rules s.args_override_self ones held settles.0 (walk_full s names ones (walk_from nothing_held) words parts.0 tt)),
      ends.1,
    )
