use Rattle.std.proofs.Common.{◌≡◌, drop}
use Rattle.std.specs.List.{position_from}
use Rattle.plan_steps.specs.Chains.{is_in}
use Rattle.plan_steps.specs.Named as spec
use Rattle.plan_steps.proofs.chains.layer_of.Given as goal

abbrev pub invariant-loop-i : goal.invariant-loop-i
invariant-loop-i l = position_from (λ x. is_in x.steps l.step) l.i (drop l.i l.layers) ≡ spec.layer_of l.layers l.step
