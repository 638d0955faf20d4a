use Rattle.std.proofs.Common.{◌≡◌, drop, []}
use Rattle.rel_model.specs.Picked.{passes}
use Rattle.row_tables.specs.Rows.{first}
use Rattle.row_tables.proofs.table.found_in.Given as goal

abbrev pub invariant-loop-slot : goal.invariant-loop-slot
invariant-loop-slot l = first (passes l.places l.cells []) (drop l.slot-index l.run) ≡ first (passes l.places l.cells []) l.run
