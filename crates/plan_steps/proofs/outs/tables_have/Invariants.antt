use Rattle.std.proofs.Common.{◌≡◌, ◌-◌, length}
use Rattle.std.specs.List.{list_all}
use Rattle.plan_steps.specs.Chains.{chain, or_nothing}
use Rattle.plan_steps.specs.Check as spec
use Rattle.plan_steps.specs.Under as under
use Rattle.plan_steps.proofs.outs.tables_have.Given as goal

abbrev pub invariant-loop-turn : goal.invariant-loop-turn
invariant-loop-turn l =
    list_all (λ j. spec.table_has l.base.catalog l.columns (under.mutated_at l.base.schema l.places j)) (or_nothing (chain (under.above l.places) (length l.places - l.turn)) l.above)
    ≡ spec.tables_have l.base l.places l.fn.place l.columns
