use Rattle.std.proofs.Common.{◌≡◌, ◌-◌, length}
use Rattle.std.specs.Prelude.{Some}
use Rattle.plan_steps.specs.Chains.{chain, or_nothing, is_in}
use Rattle.plan_steps.specs.Under as under
use Rattle.batch_execute.proofs.asking.is_below.Given as goal

abbrev pub invariant-loop-turn : goal.invariant-loop-turn
invariant-loop-turn l = is_in (or_nothing (chain (under.above l.places) (length l.places - l.turn)) l.above) l.root ≡ under.is_below l.places (Some l.root) l.fn.place
