use Rattle.std.proofs.Common.{◌≡◌, drop}
use Rattle.plan_steps.specs.Check as spec
use Rattle.plan_steps.proofs.outs.places_differ.Given as goal

abbrev pub invariant-loop-i : goal.invariant-loop-i
invariant-loop-i l = spec.places_differ (drop l.i l.outs) ≡ spec.places_differ l.outs
