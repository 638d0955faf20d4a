-- What the parts of a command owe to one another.
use Rattle.std.specs.Prelude.{◌≡◌, ◌≢◌, ℕ, ◌⊎◌, ◌≤◌, Bool, if◌then◌else◌, List, [], ◌∷◌, ◌++◌, length, Option, Some, None}
use Rattle.pg_base.specs.Base.{BaseParts}
use Rattle.pg_base.specs.Limits.{most_script_bytes, most_document_bytes, most_variables_bytes}
use Rattle.pg_io.specs.Files.{Told}
use Rattle.rel_model.specs.declared.tables.Tables.{Tables}
use Rattle.request_core.specs.Load.{Loads}
use Rattle.request_core.specs.Request.{Request, asked}
use Rattle.request_core.specs.Answer.{IsAnswer}
use Rattle.request_core.specs.Explained.{IsExplained, lines_of}
use Rattle.request_core.specs.declared.explaining.Explanation.{Explanation}
use Rattle.command_words.specs.Commands as words
use Rattle.command_words.specs.declared.fault.WordsFault.{WordsFault}
use Rattle.command_words.specs.declared.fault.WordsFault.TheVariants as words_fault
use Rattle.graphile_prog.specs.Told.{Outside, IfHeld, IfGiven, IfAsked, CountsStay}
use Rattle.graphile_prog.specs.Stages.{Stage, ArePassed}
use Rattle.graphile_prog.specs.Commands.{file_stage, size_stage, variables_stages, request_stages, task_of}
use Rattle.graphile_prog.specs.declared.commands.Page.{Page}
use Rattle.graphile_prog.specs.declared.status.Status.{Status}
use Rattle.graphile_prog.specs.declared.status.Status.TheVariants as status

-- the file is read, and has n bytes at most
abbrev pub read_stages : Outside → List ℕ → ℕ → List Stage
read_stages o name n = file_stage o name ∷ size_stage (o.file name) n ∷ []

-- the bytes are the file's, where they are told
abbrev pub IsRead : Told → ℕ → List ℕ → Type 0
IsRead told n bytes = IfHeld told (λ held. (bytes ≡ held) × (length held ≤ n))

-- the script's file gives this catalog with its schema and these tables
abbrev pub IsLoadedBy : BaseParts → Tables → List ℕ → Type 0
IsLoadedBy base tables bytes = (length bytes ≤ most_script_bytes) × Loads bytes base tables

abbrev pub IsLoaded : Told → BaseParts → Tables → Type 0
IsLoaded told base tables = IfHeld told (IsLoadedBy base tables)

-- what was read of the file that is named, if one is
abbrev pub IsGivenAs : Outside → Option (List ℕ) → Option (List ℕ) → Type 0
IsGivenAs o None given = given ≡ None
IsGivenAs o (Some name) given =
    (bytes : List ℕ) × (given ≡ Some bytes) × IsRead (o.file name) most_variables_bytes bytes

-- ---- from a document's file on

-- the files of a request were read, and this holds of what they ask
pub record AreReadFor (o : Outside) (q : words.Request) (P : Request → Type 0) : Type 0 where
  pub passed : ArePassed (request_stages o q)
  pub due : IfAsked o q P

-- what was read of them
abbrev pub AreRead : Outside → words.Request → List ℕ → Option (List ℕ) → Type 0
AreRead o q document given = AreReadFor o q (λ request. request ≡ asked document q.operation given)

-- the text answers their request over the tables
abbrev pub IsAnsweredBy : Outside → words.Request → BaseParts → Tables → List ℕ → Type 0
IsAnsweredBy o q base tables text = AreReadFor o q (λ request. IsAnswer base tables request text)

-- the same with LF
pub record IsLineOf (o : Outside) (q : words.Request) (base : BaseParts) (tables : Tables) (text : List ℕ)
    : Type 0 where
  pub response : List ℕ
  pub answered : IsAnsweredBy o q base tables response
  pub shown : text ≡ response ++ 10 ∷ []

-- the text explains their request
pub record IsPlanOf (o : Outside) (q : words.Request) (base : BaseParts) (text : List ℕ) : Type 0 where
  pub explanation : Explanation
  pub explained : AreReadFor o q (λ request. IsExplained base request explanation)
  pub shown : text ≡ lines_of explanation

abbrev pub ending : Bool → List ℕ
ending line_feed = if line_feed then 10 ∷ [] else []

-- what is written
abbrev pub written : Page → List ℕ
written page = page.text ++ ending page.line_feed

-- all stages are passed, and the command is to write the text
pub record IsPassed (o : Outside) (c : words.Command) (text : List ℕ) : Type 0 where
  pub stages : ArePassed (task_of o c).stages
  pub due : (task_of o c).writes text

-- how a run ends whose words give no command
abbrev pub words_status : WordsFault → Status
words_status words_fault.BadWords = status.BadWords
words_status words_fault.Memory = status.Memory

-- a count changes only where a file could not be read
abbrev pub CountsStayBut : (List ℕ → ℕ) → (List ℕ → ℕ) → Status → Type 0
CountsStayBut before now answered = answered ≢ status.FileFault → CountsStay before now

-- the status is told as itself; the line of a refused script takes memory, which can run out
abbrev pub Tells : Status → Status → Type 0
Tells (status.ScriptRefused f) told = (told ≡ status.ScriptRefused f) ⊎ (told ≡ status.Memory)
Tells status.Done told = told ≡ status.Done
Tells status.BadWords told = told ≡ status.BadWords
Tells status.FileFault told = told ≡ status.FileFault
Tells status.WriteFault told = told ≡ status.WriteFault
Tells status.TooLarge told = told ≡ status.TooLarge
Tells status.Memory told = told ≡ status.Memory
