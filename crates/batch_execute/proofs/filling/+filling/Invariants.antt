use Rattle.std.proofs.Common.{◌≡◌, ◌++◌, drop, map}
use Rattle.plan_steps.specs.Filled as spec
use Rattle.batch_execute.proofs.filling.+filling.Given as goal

abbrev pub invariant-children_of-loop-fetch : goal.invariant-children_of-loop-fetch
invariant-children_of-loop-fetch l = l.children ++ map (spec.child_of l.base l.vars) (drop l.fetch-index l.fetches) ≡ map (spec.child_of l.base l.vars) l.fetches
