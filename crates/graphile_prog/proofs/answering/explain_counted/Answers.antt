use Rattle.std.proofs.Common.{subst}
use Rattle.pg_base.specs.Base.{BaseParts}
use Rattle.request_core.specs.Explained.{IsExplained}
use Rattle.request_core.specs.Request.{request_of}
use Rattle.request_core.proofs.Refused.{if_ok}
use Rattle.graphile_prog.proofs.answering.explain_counted.Goals as goal

pub returns : goal.returns
returns g c =
    let request = request_of c.args.request in
    if_ok c.explain_own.result _ _ (λ x e. subst (λ (b : BaseParts). IsExplained b request x) c.in_ok-house.ensures.base e) c.explain_own.ensures
