use Rattle.std.proofs.Common.{◌≡◌, drop}
use Rattle.plan_steps.specs.Check as spec
use Rattle.plan_steps.proofs.fetches.+fitting.Given as goal

abbrev pub invariant-children_fit-loop-child : goal.invariant-children_fit-loop-child
invariant-children_fit-loop-child l = spec.children_fit l.catalog l.width (drop l.child-index l.children) ≡ spec.children_fit l.catalog l.width l.children
