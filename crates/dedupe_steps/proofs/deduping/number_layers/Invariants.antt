use Rattle.dedupe_steps.proofs.NumbersGrown.{LayersNumbered}
use Rattle.dedupe_steps.proofs.deduping.number_layers.Given as goal

abbrev pub invariant-loop-y : goal.invariant-loop-y
invariant-loop-y l = LayersNumbered l.to l.plan.layers l.y l.numbers
