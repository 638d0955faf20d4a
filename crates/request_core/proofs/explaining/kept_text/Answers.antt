use Rattle.std.proofs.Common.{ap, ◌∙◌}
use Rattle.std.specs.Arc.{arc_value}
use Rattle.kept_responses.specs.Kept.{KeptParts}
use Rattle.request_core.proofs.PlanTexts.{text_at}
use Rattle.request_core.proofs.Refused.{if_ok}
use Rattle.request_core.proofs.explaining.kept_text.Goals as goal

pub returns-clause-text : goal.returns-clause-text
returns-clause-text c vars tree count =
    if_ok c.ready_text.result _ _ (λ x e. text_at c.args.house.now.base vars tree c.ready.result.now (arc_value c.args.kept.now).planned c.args.needs x
    (c.ready.ensures ∙ ap (λ (k : KeptParts). k.planned) c.deref-2.ensures) c.ready_text.ensures.sound c.requires count e) c.ready_text.ensures.text
