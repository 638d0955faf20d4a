-- The line and the exit status of each status.
use Rattle.std.specs.Prelude.{ℕ, List, [], ◌∷◌, ◌++◌, codes}
use Rattle.request_core.specs.FaultLines as fault
use Rattle.graphile_prog.specs.declared.status.Status.{Status}
use Rattle.graphile_prog.specs.declared.status.Status.TheVariants as status

-- the line with its LF; none where the status has none
abbrev pub line_of : Status → List ℕ
line_of status.Done = []
line_of status.WriteFault = []
line_of status.BadWords = codes "bad words\n"
line_of (status.ScriptRefused f) = fault.line_of f ++ 10 ∷ []
line_of status.FileFault = codes "file fault\n"
line_of status.TooLarge = codes "too large\n"
line_of status.Memory = codes "out of memory\n"

-- the number that the program exits with
abbrev pub exit_of : Status → ℕ
exit_of status.Done = 0
exit_of status.BadWords = 2
exit_of (status.ScriptRefused f) = 3
exit_of status.FileFault = 4
exit_of status.WriteFault = 6
exit_of status.TooLarge = 7
exit_of status.Memory = 9
