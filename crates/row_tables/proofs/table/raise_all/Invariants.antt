use Rattle.std.proofs.Common.{◌≡◌, ◌++◌, drop}
use Rattle.row_tables.specs.Rows as spec
use Rattle.row_tables.proofs.table.raise_all.Given as goal

abbrev pub invariant-loop-i : goal.invariant-loop-i
invariant-loop-i l = l.all.items ++ spec.all_raised (drop l.i l.identities) (drop l.i l.counters) (drop l.i l.cells) ≡ spec.all_raised l.identities l.counters l.cells
