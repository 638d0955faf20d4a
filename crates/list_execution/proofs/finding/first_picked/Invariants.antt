use Rattle.std.proofs.Common.{◌≡◌, [], drop}
use Rattle.rel_model.specs.Picked as picked
use Rattle.place_tree.specs.Exec as spec
use Rattle.list_execution.proofs.finding.first_picked.Given as goal

abbrev pub invariant-loop-row : goal.invariant-loop-row
invariant-loop-row l = spec.first_row (picked.picked_from l.by l.key [] (drop l.row-index l.rows)) ≡ spec.first_row (picked.picked_from l.by l.key [] l.rows)
