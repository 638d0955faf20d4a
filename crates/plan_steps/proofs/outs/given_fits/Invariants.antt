use Rattle.std.proofs.Common.{◌≡◌, ◌-◌, length}
use Rattle.std.specs.Prelude.{slice_get}
use Rattle.std.specs.List.{list_all}
use Rattle.plan_steps.specs.Chains.{chain, or_nothing}
use Rattle.plan_steps.specs.Check as spec
use Rattle.plan_steps.specs.Named as named
use Rattle.plan_steps.proofs.outs.given_fits.Given as goal

abbrev pub invariant-loop-turn : goal.invariant-loop-turn
invariant-loop-turn l =
    list_all (λ k. spec.takes_given l.base l.places l.steps l.out.place (slice_get l.steps k)) (or_nothing (chain (named.named_at l.steps) (length l.steps - l.turn)) l.used)
    ≡ spec.given_fits l.base l.places l.steps l.out
