use Rattle.std.proofs.Common.{◌≡◌, drop}
use Rattle.std.specs.Prelude.{flat_map}
use Rattle.plan_constraints.specs.Noted as spec
use Rattle.plan_constraints.specs.Same.{with_constraints}
use Rattle.step_plan.proofs.noting.note_places.Given as goal

abbrev pub invariant-loop-place : goal.invariant-loop-place
invariant-loop-place l =
    with_constraints l.list (flat_map (spec.noted_at l.base l.vars) (drop l.place-index l.places)) ≡ with_constraints l.fn.list (flat_map (spec.noted_at l.base l.vars) l.places)
