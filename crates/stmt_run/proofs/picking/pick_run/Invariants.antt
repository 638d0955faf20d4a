use Rattle.std.proofs.Common.{◌≡◌, ◌++◌, drop, map}
use Rattle.rel_model.specs.Picked as spec
use Rattle.stmt_run.proofs.picking.pick_run.Given as goal

abbrev pub invariant-loop-slot : goal.invariant-loop-slot
invariant-loop-slot l =
    map (λ r. r.now) l.found.items ++ spec.picked_from l.by l.key l.condition (drop l.slot-index l.run)
    ≡ map (λ r. r.now) l.fn.found.items ++ spec.picked_from l.by l.key l.condition l.run
