use Rattle.plan_constraints.proofs.Repeats.{all_noted}
use Rattle.plan_constraints.specs.Noted.{noted}
use Rattle.step_plan.proofs.PlainPlan.{drafted_plain}
use Rattle.step_plan.proofs.Plannable.{planned_is}
use Rattle.step_plan.proofs.laws.drafted_are_plain.Goals as goal

pub returns : goal.returns
returns c base tree vars h = drafted_plain base tree vars (planned_is base tree vars h.base_ h.catalog h.tree_) (noted base vars tree) (λ other hold. all_noted base vars other tree hold)
