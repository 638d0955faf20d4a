-- The commands: their stages in order, and what they write.
use Rattle.std.specs.Prelude.{◌≡◌, ◌⊎◌, ℕ, ◌<◌, ◌≤◌, List, [], ◌∷◌, ◌++◌, length, Option, Some, None, Ok, Err, ⊤, codes}
use Rattle.pg_base.specs.Base.{BaseParts}
use Rattle.pg_base.specs.Limits.{most_script_bytes, most_document_bytes, most_variables_bytes}
use Rattle.pg_io.specs.Files.{Told}
use Rattle.pg_io.specs.Streams.{Rose, Delivers}
use Rattle.pg_io.specs.declared.streams.Failed.{Failed}
use Rattle.rel_model.specs.declared.tables.Tables.{Tables}
use Rattle.schema_build.specs.Sdl.{sdl_of}
use Rattle.request_core.specs.Load.{Loads, IsLoadFault}
use Rattle.request_core.specs.Request.{Request}
use Rattle.request_core.specs.Answer.{IsAnswer}
use Rattle.request_core.specs.Explained.{IsExplained, lines_of}
use Rattle.request_core.specs.declared.explaining.Explanation.{Explanation}
use Rattle.request_core.specs.declared.loading.LoadFault.{LoadFault}
use Rattle.command_words.specs.Commands.{Command, check, schema, query, explain}
use Rattle.command_words.specs.Commands as words
use Rattle.graphile_prog.specs.Told.{Outside, Output, IfHeld, IfAllHeld, RoseAlone}
use Rattle.graphile_prog.specs.Stages.{Stage, Because}
use Rattle.graphile_prog.specs.declared.status.Status.{Status}
use Rattle.graphile_prog.specs.declared.status.Status.TheVariants as status

-- ---- what the files may hold

-- a script that gives some catalog and tables
abbrev pub IsSomeScript : List ℕ → Type 0
IsSomeScript script = (base : BaseParts) × (tables : Tables) × Loads script base tables

-- ---- the stages

-- the file of the name can be read
abbrev pub file_stage : Outside → List ℕ → Stage
file_stage o name = record {
  passed = IfHeld (o.file name) (λ _. ⊤);
  refuses = Because status.FileFault (RoseAlone o name);
}

-- the file has n bytes at most
abbrev pub size_stage : Told → ℕ → Stage
size_stage told n = record {
  passed = IfHeld told (λ bytes. length bytes ≤ n);
  refuses = Because status.TooLarge (IfHeld told (λ bytes. n < length bytes));
}

-- the status names the fault, which is the script's first
pub record IsRefused (script : Told) (answered : Status) : Type 0 where
  pub fault : LoadFault
  pub named : answered ≡ status.ScriptRefused fault
  pub cause : IfHeld script (λ bytes. IsLoadFault bytes fault)

-- the same of the script's bytes
abbrev pub IsRefusedBy : List ℕ → Status → Type 0
IsRefusedBy script answered = (fault : LoadFault) × (answered ≡ status.ScriptRefused fault) × IsLoadFault script fault

-- the script gives a catalog and tables
abbrev pub script_stage : Told → Stage
script_stage script = record { passed = IfHeld script IsSomeScript; refuses = IsRefused script }

-- from a script's file to its catalog and tables
abbrev pub script_stages : Outside → List ℕ → List Stage
script_stages o script =
    file_stage o script
    ∷ size_stage (o.file script) most_script_bytes
    ∷ script_stage (o.file script)
    ∷ []

-- the file of the variables, where one is named
abbrev pub variables_stages : Outside → Option (List ℕ) → List Stage
variables_stages o None = []
variables_stages o (Some name) =
    file_stage o name
    ∷ size_stage (o.file name) most_variables_bytes
    ∷ []

-- the other files of a query, or of what is to be explained
abbrev pub request_stages : Outside → words.Request → List Stage
request_stages o q =
    file_stage o q.document
    ∷ size_stage (o.file q.document) most_document_bytes
    ∷ variables_stages o q.variables

-- ---- what is written

-- the text is that of the schema of what the script gives
pub record IsSchemaText (text script : List ℕ) : Type 0 where
  pub base : BaseParts
  pub tables : Tables
  pub loads : Loads script base tables
  pub shown : text ≡ sdl_of base.schema

-- the text is the response to the request over what the script gives, and LF
pub record IsResponse (text script : List ℕ) (request : Request) : Type 0 where
  pub base : BaseParts
  pub tables : Tables
  pub response : List ℕ
  pub loads : Loads script base tables
  pub answer : IsAnswer base tables request response
  pub shown : text ≡ response ++ 10 ∷ []

-- the text explains the request over what the script gives: its first refusal and LF, or the lines of its plan
pub record IsPlanText (text script : List ℕ) (request : Request) : Type 0 where
  pub base : BaseParts
  pub tables : Tables
  pub explanation : Explanation
  pub loads : Loads script base tables
  pub explained : IsExplained base request explanation
  pub shown : text ≡ lines_of explanation

-- ---- commands

-- what a command does before its end, in order, and what it writes
pub record Task : Type 1 where
  pub stages : List Stage
  pub writes : List ℕ → Type 0

abbrev pub task_of : Outside → Command → Task
task_of o (check script) = record {
  stages = script_stages o script;
  writes = λ text. text ≡ codes "ok\n";
}
task_of o (schema script) = record {
  stages = script_stages o script;
  writes = λ text. IfHeld (o.file script) (IsSchemaText text);
}
task_of o (query q) = record {
  stages = script_stages o q.script ++ request_stages o q;
  writes = λ text. IfAllHeld o q (IsResponse text);
}
task_of o (explain q) = record {
  stages = script_stages o q.script ++ request_stages o q;
  writes = λ text. IfAllHeld o q (IsPlanText text);
}

abbrev pub given_files : Option (List ℕ) → List (List ℕ)
given_files None = []
given_files (Some name) = name ∷ []

-- the names of a command's files
abbrev pub files_of : Command → List (List ℕ)
files_of (check script) = script ∷ []
files_of (schema script) = script ∷ []
files_of (query q) = q.script ∷ q.document ∷ given_files q.variables
files_of (explain q) = q.script ∷ q.document ∷ given_files q.variables

-- ---- the end

-- the sink has taken the text, or the front of it
abbrev pub TookAll : List ℕ → Output → Type 0
TookAll text out = Delivers {A = Unit {0}} out.taken out.taken_now (Ok tt) text

abbrev pub TookFront : List ℕ → Output → Type 0
TookFront text out = (failed : Failed) × Delivers {A = Unit {0}} out.taken out.taken_now (Err failed) text

-- the sink has taken the text, or where it failed the front of it
abbrev pub Delivered : List ℕ → Output → Status → Type 0
Delivered text out answered =
    Because status.Done (TookAll text out × (out.faults_now ≡ out.faults)) answered
    ⊎ Because status.WriteFault (TookFront text out × Rose out.faults out.faults_now) answered

-- a text that the command writes was delivered
pub record Wrote (writes : List ℕ → Type 0) (out : Output) (answered : Status) : Type 0 where
  pub text : List ℕ
  pub due : writes text
  pub delivered : Delivered text out answered
