use Rattle.std.proofs.Common.{◌≡◌, ◌++◌, drop}
use Rattle.list_execution.proofs.fields.copied_rows.Given as goal

abbrev pub invariant-loop-row : goal.invariant-loop-row
invariant-loop-row l = l.copy ++ drop l.row-index l.rows ≡ l.rows
