use Rattle.dedupe_steps.proofs.NumbersGrown.{StepsNumbered}
use Rattle.dedupe_steps.proofs.deduping.number_steps.Given as goal

abbrev pub invariant-loop-k : goal.invariant-loop-k
invariant-loop-k l = StepsNumbered l.base l.tree l.constraints l.plan l.k l.numbers
