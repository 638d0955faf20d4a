use Rattle.std.proofs.Common.{subst}
use Rattle.std.specs.Arc.{arc_value}
use Rattle.pg_base.specs.Base.{BaseParts}
use Rattle.request_core.specs.Prepared.{IsPrepared}
use Rattle.request_core.specs.Request.{request_of}
use Rattle.request_core.proofs.Answered.{refused_over, accepted_over}
use Rattle.request_core.proofs.Refused.{if_ok}
use Rattle.request_core.proofs.answer.answer_request.Goals as goal

pub returns-in-Refused-clause-answer : goal.returns-in-Refused-clause-answer
returns-in-Refused-clause-answer g c =
    let request = request_of c.args.request in
    let prepared = c.in_ok-prepared.prepared in
    let ends = subst (λ (b : BaseParts). IsPrepared b request prepared) c.deref.ensures c.in_ok-prepared.ensures.prepared in
    refused_over (arc_value c.args.base.now) _ c.in-Refused.text _ request prepared c.in-Refused.is ends

pub returns-in-Accepted-clause-answer : goal.returns-in-Accepted-clause-answer
returns-in-Accepted-clause-answer g c =
    let request = request_of c.args.request in
    let prepared = c.in_ok-prepared.prepared in
    let ends = subst (λ (b : BaseParts). IsPrepared b request prepared) c.deref.ensures c.in_ok-prepared.ensures.prepared in
    if_ok c.tree_answer.result _ _
    (λ text run. accepted_over (arc_value c.args.base.now) _ text _ _ request prepared c.in-Accepted.tree c.in-Accepted.vars c.in-Accepted.is run ends) c.tree_answer.ensures.run
