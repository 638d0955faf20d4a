use Rattle.std.proofs.Common.{◌≡◌, ◌+◌, drop}
use Rattle.plan_steps.specs.Check as spec
use Rattle.plan_steps.proofs.layers.overs_fit.Given as goal

abbrev pub invariant-loop-i : goal.invariant-loop-i
invariant-loop-i l = spec.overs_fit l.plan (l.i + 1) (drop l.i l.others) ≡ spec.overs_fit l.plan 1 l.others
