use Rattle.std.proofs.Common.{sym, subst}
use Rattle.pg_base.specs.Base.{BaseParts}
use Rattle.planned_response.specs.Plans.{IsMadeFor}
use Rattle.step_plan.specs.Planned.{IsPlannable}
use Rattle.request_core.proofs.PlanTexts.{text_new}
use Rattle.request_core.proofs.Refused.{if_ok}
use Rattle.request_core.proofs.explaining.new_text.Goals as goal

pub plan_of-requires : goal.plan_of-requires
plan_of-requires g c = subst (λ (b : BaseParts). IsPlannable b c.args.tree c.args.vars.now) (sym c.shared_base.ensures) c.requires.plannable

pub returns-in-Ok-clause-text : goal.returns-in-Ok-clause-text
returns-in-Ok-clause-text g c =
    let made = subst (λ (b : BaseParts). IsMadeFor b c.args.tree c.args.vars.now c.in-Ok.ready) c.shared_base.ensures c.in-Ok.ensures.made in
    if_ok c.ready_text.result _ _ (λ x e. text_new c.args.house.now.base c.args.vars.now c.args.tree c.in-Ok.ready c.args.needs x c.ready_text.ensures.sound made c.requires.needs e) c.ready_text.ensures.text
