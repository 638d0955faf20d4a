use Rattle.std.proofs.Common.{[], Err, ap, ◌∙◌}
use Rattle.request_core.specs.Asked.{asked_parts}
use Rattle.request_core.specs.Explained.{Refuses, ExplainsNew}
use Rattle.request_core.specs.Request.{request_of}
use Rattle.request_core.proofs.AskedTrees.{ends_of, ends_bad}
use Rattle.request_core.proofs.Housed.{shows_nothing}
use Rattle.request_core.proofs.PlanTexts.{explains_new}
use Rattle.request_core.proofs.Refused.{if_ok}
use Rattle.request_core.proofs.asking.explain_own.Goals as goal

pub returns-in-Ok : goal.returns-in-Ok
returns-in-Ok g c =
    let base = c.args.house.now.base in
    let a = asked_parts c.in-Ok.asked in
    if_ok c.explained.result _ _ (λ x e. ends_of base.schema (Refuses x) (ExplainsNew base x) (request_of c.args.request) a c.in-Ok.ensures.asked (explains_new base a x e))
    (c.explained.ensures.text [] (shows_nothing c.args.house.now.shelf c.requires))

pub returns-in-Err-NoVariables : goal.returns-in-Err-NoVariables
returns-in-Err-NoVariables g c =
    let base = c.args.house.now.base in
    if_ok c.bad_explanation.result _ _ (λ x e. ends_bad base.schema (Refuses x) (ExplainsNew base x) (request_of c.args.request) (c.asked_of.ensures.refused (c.in-Err-NoVariables.is ∙ ap (λ e. Err e) c.in-Err-NoVariables.field-0-is)) e) c.bad_explanation.ensures
