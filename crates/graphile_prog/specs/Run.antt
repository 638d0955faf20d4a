-- What a run owes for its words, its files and its sink.
use Rattle.std.specs.Prelude.{◌≡◌, ◌≢◌, ◌⊎◌, ℕ, Bool, true, false, List, Option, Some, None, Result, ⊤}
use Rattle.pg_base.specs.Lists.{Each}
use Rattle.pg_io.specs.Files.{Told, Untold, Absent, Holds}
use Rattle.pg_io.specs.Streams.{Rose, HasCause, Delivers}
use Rattle.pg_io.specs.declared.streams.Failed.{Failed}
use Rattle.command_words.specs.Commands.{Command}
use Rattle.graphile_prog.specs.Told.{Outside, Output}
use Rattle.graphile_prog.specs.Stages.{Ends, ArePassed, OrMemory}
use Rattle.graphile_prog.specs.Commands.{task_of, files_of, Wrote}
use Rattle.graphile_prog.specs.declared.status.Status.{Status}
use Rattle.graphile_prog.specs.declared.status.Status.TheVariants as status

-- words that are accepted are never refused; others are, unless memory runs out before
abbrev pub RefusesWords : Bool → Status → Type 0
RefusesWords true answered = answered ≢ status.BadWords
RefusesWords false answered = OrMemory (λ s. s ≡ status.BadWords) answered

-- the first stage of the command that isn't passed gives the status, and where all are passed the command itself
abbrev pub HasEnd : Option Command → Outside → Output → Status → Type 0
HasEnd None o out answered = OrMemory (λ s. s ≡ status.BadWords) answered
HasEnd (Some c) o out answered = OrMemory (Ends (task_of o c).stages (Wrote (task_of o c).writes out)) answered

-- the status has a line of its own
abbrev pub HasLine : Status → Type 0
HasLine status.Done = ⊥
HasLine status.BadWords = ⊤
HasLine (status.ScriptRefused f) = ⊤
HasLine status.FileFault = ⊤
HasLine status.WriteFault = ⊥
HasLine status.TooLarge = ⊤
HasLine status.Memory = ⊤

-- the sink has taken the line, or where it failed the front of it
pub record TookLine (line : List ℕ) (out : Output) : Type 0 where
  pub outcome : Result (Unit {0}) Failed
  pub taken : Delivers out.taken out.taken_now outcome line
  pub cause : HasCause out.faults out.faults_now outcome

abbrev pub IsTold : Told → Type 0
IsTold Untold = ⊥
IsTold Absent = ⊥
IsTold (Holds bytes) = ⊤

-- the file is told, and could be read
abbrev pub IsSafe : Outside → List ℕ → Type 0
IsSafe o name = IsTold (o.file name) × ¬ (Rose (o.before name) (o.now name))

-- the command's files are told and pass the stages, and nothing has failed
pub record IsUnhindered (o : Outside) (out : Output) (c : Command) : Type 0 where
  pub safe : Each (IsSafe o) (files_of c)
  pub passed : ArePassed (task_of o c).stages
  pub written : ¬ (Rose out.faults out.faults_now)

-- a run that nothing hinders is done, or memory ran out
abbrev pub IsComplete : Option Command → Outside → Output → Status → Type 0
IsComplete None o out answered = ⊤
IsComplete (Some c) o out answered =
    IsUnhindered o out c → (answered ≡ status.Done) ⊎ (answered ≡ status.Memory)
