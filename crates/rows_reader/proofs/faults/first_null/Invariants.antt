use Rattle.std.proofs.Common.{◌≡◌, drop}
use Rattle.rows_reader.specs.Faults.{first_null}
use Rattle.rows_reader.proofs.faults.first_null.Given as goal

abbrev pub invariant-loop-i : goal.invariant-loop-i
invariant-loop-i l = first_null (drop l.i l.columns) (drop l.i l.cells) ≡ first_null l.columns l.cells
