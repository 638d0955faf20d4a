use Rattle.std.proofs.Common.{◌∙◌}
use Rattle.step_plan.proofs.Members.{slots_over}
use Rattle.step_plan.proofs.slots.condition_over.Goals as goal

pub returns-in_ok-equals-in-Object : goal.returns-in_ok-equals-in-Object
returns-in_ok-equals-in-Object c =
    c.in_ok-equals-in-Object.ensures
    ∙ slots_over c.args.schema.now c.args.vars.now c.args.inputs.now c.args.columns.now c.args.condition.now _ _ c.in-Object.is c.as_slice-members.ensures
