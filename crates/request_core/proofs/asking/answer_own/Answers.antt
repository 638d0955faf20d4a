use Rattle.std.proofs.Common.{◌≡◌, Err, ap, ◌∙◌}
use Rattle.request_core.specs.Answer.{Executes}
use Rattle.request_core.specs.Asked.{asked_parts}
use Rattle.request_core.specs.Request.{request_of}
use Rattle.request_core.proofs.AskedTrees.{ends_of, ends_bad}
use Rattle.request_core.proofs.Refused.{if_ok}
use Rattle.request_core.proofs.asking.answer_own.Goals as goal

pub returns-in-Ok : goal.returns-in-Ok
returns-in-Ok g c tables told last =
    let base = c.args.house.now.base in
    if_ok c.answer_asked.result _ _ (λ text a. ends_of base.schema (λ refused. text ≡ refused) (Executes base tables text) (request_of c.args.request) (asked_parts c.in-Ok.asked) c.in-Ok.ensures.asked a)
    (c.answer_asked.ensures tables told last)

pub returns-in-Err-NoVariables : goal.returns-in-Err-NoVariables
returns-in-Err-NoVariables g c tables told last =
    let base = c.args.house.now.base in
    if_ok c.bad_body.result _ _ (λ text e. ends_bad base.schema (λ refused. text ≡ refused) (Executes base tables text) (request_of c.args.request) (c.asked_of.ensures.refused (c.in-Err-NoVariables.is ∙ ap (λ e. Err e) c.in-Err-NoVariables.field-0-is)) e) c.bad_body.ensures
