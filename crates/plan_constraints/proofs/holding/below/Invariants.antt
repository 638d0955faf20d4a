use Rattle.std.proofs.Common.{◌≡◌, drop, Some}
use Rattle.plan_constraints.specs.Path as path_of
use Rattle.plan_constraints.proofs.holding.below.Given as goal

abbrev pub invariant-loop-part : goal.invariant-loop-part
invariant-loop-part l = path_of.below (Some l.at) (drop l.part-index l.path) ≡ path_of.below (Some l.fn.value) l.path
