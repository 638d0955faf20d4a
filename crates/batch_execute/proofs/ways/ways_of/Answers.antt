use Rattle.std.proofs.Common.{◌++◌, ◌∷◌, [], ap, ◌∙◌}
use Rattle.batch_execute.proofs.Steps.{ways_on}
use Rattle.batch_execute.proofs.ways.ways_of.Goals as goal

pub loop-k-preserved : goal.loop-k-preserved
loop-k-preserved c =
    ways_on c.args.steps.now c.loop-k.ways c.loop-k.k c.loop-k-test.true c.loop-k.invariant c.push.new.self
    (c.in_ok-push.ensures.ok ∙ ap (λ w. c.loop-k.ways ++ w ∷ []) c.way_of.ensures)
