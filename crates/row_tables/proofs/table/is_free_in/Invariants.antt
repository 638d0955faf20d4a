use Rattle.std.proofs.Common.{◌≡◌, drop}
use Rattle.row_tables.specs.Rows as spec
use Rattle.row_tables.proofs.table.is_free_in.Given as goal

abbrev pub invariant-loop-slot : goal.invariant-loop-slot
invariant-loop-slot l = spec.is_free_in l.places l.row (drop l.slot-index l.run) ≡ spec.is_free_in l.places l.row l.run
