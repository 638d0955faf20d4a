use Rattle.std.proofs.Common.{◌≡◌, ◌++◌, drop, map}
use Rattle.plan_steps.specs.Filled as spec
use Rattle.batch_execute.proofs.filling.filled_equals.Given as goal

abbrev pub invariant-loop-equal : goal.invariant-loop-equal
invariant-loop-equal l = l.equals ++ map (spec.filled_equal l.base l.vars l.table) (drop l.equal-index l.condition) ≡ map (spec.filled_equal l.base l.vars l.table) l.condition
