use Rattle.std.proofs.Common.{◌≡◌, map, drop}
use Rattle.plan_constraints.specs.Noted as spec
use Rattle.plan_constraints.specs.Same.{with_constraints}
use Rattle.step_plan.proofs.noting.note_asked.Given as goal

abbrev pub invariant-loop-name : goal.invariant-loop-name
invariant-loop-name l =
    with_constraints l.list (map (spec.whole_of l.vars) (drop l.name-index l.asked)) ≡ with_constraints l.fn.list (map (spec.whole_of l.vars) l.asked)
