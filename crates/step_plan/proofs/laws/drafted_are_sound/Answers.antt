use Rattle.plan_constraints.proofs.Repeats.{all_noted}
use Rattle.plan_constraints.specs.Noted.{noted}
use Rattle.plan_steps.proofs.Few.{fetches_sound}
use Rattle.plan_steps.proofs.TypedTrees.{typed_trees}
use Rattle.step_plan.specs.Drafted.{drafted}
use Rattle.step_plan.proofs.PlainPlan.{drafted_plain}
use Rattle.step_plan.proofs.Plannable.{planned_is}
use Rattle.step_plan.proofs.Whole.{drafted_checked}
use Rattle.step_plan.proofs.laws.drafted_are_sound.Goals as goal

pub returns : goal.returns
returns c base tree vars h =
    let planned = planned_is base tree vars h.base_ h.catalog h.tree_ in
    let constraints = noted base vars tree in
    fetches_sound base (drafted base tree vars) tree constraints
    (typed_trees base planned.kinds planned.root tree h.catalog (record { query = planned.query; fields = planned.leads }) planned.is_tree planned.named)
    (drafted_checked base tree vars planned constraints (λ other hold. all_noted base vars other tree hold))
    (drafted_plain base tree vars planned constraints (λ other hold. all_noted base vars other tree hold)).fetches
