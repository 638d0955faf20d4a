use Rattle.plan_steps.proofs.TypedTrees.{typed_trees}
use Rattle.step_plan.proofs.Plannable.{planned_is}
use Rattle.step_plan.proofs.laws.plannable_trees_stand_over_bases.Goals as goal

pub returns : goal.returns
returns c base tree vars h =
    let planned = planned_is base tree vars h.base_ h.catalog h.tree_ in
    typed_trees base planned.kinds planned.root tree h.catalog (record { query = planned.query; fields = planned.leads }) planned.is_tree planned.named
