-- What is told of the outside of a run, and what it counts.
use Rattle.std.specs.Prelude.{◌≡◌, ℕ, List, Option, Some, None, ⊤}
use Rattle.pg_io.specs.Files.{Told, Untold, Absent, Holds, OthersStay}
use Rattle.pg_io.specs.Streams.{Rose}
use Rattle.request_core.specs.Request.{Request, asked}
use Rattle.command_words.specs.Commands as words

-- what is told of the files of a run, and how often calls had failed for each name before it and have now
pub record Outside : Type 0 where
  pub file : List ℕ → Told
  pub before : List ℕ → ℕ
  pub now : List ℕ → ℕ

-- what a run's sink had taken and how often it had failed before it, and both now
pub record Output : Type 0 where
  pub taken : Option (List ℕ)
  pub taken_now : Option (List ℕ)
  pub faults : ℕ
  pub faults_now : ℕ

abbrev pub outside : (List ℕ → Told) → (List ℕ → ℕ) → (List ℕ → ℕ) → Outside
outside file before now = record { file = file; before = before; now = now }

abbrev pub output : Option (List ℕ) → Option (List ℕ) → ℕ → ℕ → Output
output taken taken_now faults faults_now =
    record { taken = taken; taken_now = taken_now; faults = faults; faults_now = faults_now }

-- this holds of the file's bytes, where they are told; a file that is told not to be there has none
abbrev pub IfHeld : Told → (List ℕ → Type 0) → Type 0
IfHeld Untold P = ⊤
IfHeld Absent P = ⊥
IfHeld (Holds bytes) P = P bytes

-- this holds of the bytes of the file that is named, where they are told; of none, where none is named
abbrev pub IfGiven : Outside → Option (List ℕ) → (Option (List ℕ) → Type 0) → Type 0
IfGiven o None P = P None
IfGiven o (Some name) P = IfHeld (o.file name) (λ bytes. P (Some bytes))

-- this holds of what the files of a request ask, where they are told
abbrev pub IfAsked : Outside → words.Request → (Request → Type 0) → Type 0
IfAsked o q P = IfHeld (o.file q.document) (λ document.
    IfGiven o q.variables (λ variables. P (asked document q.operation variables)))

-- this holds of the script's bytes and of what the other files ask
abbrev pub IfAllHeld : Outside → words.Request → (List ℕ → Request → Type 0) → Type 0
IfAllHeld o q P = IfHeld (o.file q.script) (λ script. IfAsked o q (P script))

-- the count of the name has risen, and no other
pub record RoseAlone (o : Outside) (name : List ℕ) : Type 0 where
  pub rose : Rose (o.before name) (o.now name)
  pub others : OthersStay o.before o.now name

-- no count has changed
abbrev pub CountsStay : (List ℕ → ℕ) → (List ℕ → ℕ) → Type 0
CountsStay before now = (name : List ℕ) → now name ≡ before name
