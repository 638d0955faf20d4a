use Rattle.std.proofs.Common.{◌≡◌, ◌++◌, drop}
use Rattle.pg_base.specs.Behaviors as spec
use Rattle.step_plan.proofs.names.columns_with.Given as goal

abbrev pub invariant-loop-i : goal.invariant-loop-i
invariant-loop-i l = l.places ++ spec.columns_with l.behavior l.i (drop l.i l.columns) ≡ spec.columns_with l.behavior 0 l.columns
