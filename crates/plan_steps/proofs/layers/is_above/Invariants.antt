use Rattle.std.proofs.Common.{◌≡◌, ◌-◌, length}
use Rattle.plan_steps.specs.Chains.{chain, or_nothing, is_in}
use Rattle.plan_steps.specs.Named as named
use Rattle.plan_steps.specs.Check as spec
use Rattle.plan_steps.proofs.layers.is_above.Given as goal

abbrev pub invariant-loop-turn : goal.invariant-loop-turn
invariant-loop-turn l = is_in (or_nothing (chain (named.layer_above l.layers) (length l.layers - l.turn)) l.above) l.wanted ≡ spec.is_above l.layers l.fn.layer l.wanted
