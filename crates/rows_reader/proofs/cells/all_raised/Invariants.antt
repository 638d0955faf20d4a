use Rattle.std.proofs.Common.{◌≡◌, ◌++◌, drop}
use Rattle.rows_reader.specs.Rows as spec
use Rattle.rows_reader.proofs.cells.all_raised.Given as goal

abbrev pub invariant-loop-i : goal.invariant-loop-i
invariant-loop-i l = l.all.items ++ spec.all_raised (drop l.i l.columns) (drop l.i l.counters) (drop l.i l.cells) ≡ spec.all_raised l.columns l.counters l.cells
