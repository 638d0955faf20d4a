use Rattle.std.proofs.Common.{◌≡◌, ◌++◌, drop, map}
use Rattle.rel_model.specs.Picked as spec
use Rattle.list_execution.proofs.finding.picked_from.Given as goal

abbrev pub invariant-loop-row : goal.invariant-loop-row
invariant-loop-row l = map (λ r. r.now) l.found.items ++ spec.picked_from l.by l.key l.condition (drop l.row-index l.rows) ≡ spec.picked_from l.by l.key l.condition l.rows
