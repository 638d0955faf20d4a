use Rattle.std.proofs.Common.{◌≡◌, None, refl, sym, subst}
use Rattle.pg_base.specs.Base.{BaseParts}
use Rattle.pg_base.specs.SchemaFaults.{build_fault}
use Rattle.request_core.specs.Asked.{asked_parts}
use Rattle.request_core.specs.Prepared.{IsPreparedFor, MayServe}
use Rattle.request_core.proofs.PlanTexts.{explains_refused, explains_accepted}
use Rattle.request_core.proofs.Refused.{if_ok}
use Rattle.request_core.proofs.explaining.explained.Goals as goal

pub prepare_asked-requires : goal.prepare_asked-requires
prepare_asked-requires g c = record { faultless = subst (λ (b : BaseParts). build_fault b.catalog ≡ None) (sym c.base.ensures) c.know.ensures.faultless }

pub tree_text-requires : goal.tree_text-requires
tree_text-requires g c =
    let a = asked_parts c.args.asked.now in
    record {
      may = subst (MayServe c.args.house.now.base a) c.in-Accepted.is
          (subst (λ (b : BaseParts). MayServe b a c.in_ok-prepared.prepared) c.base.ensures c.in_ok-prepared.ensures.may);
    }

pub returns-in-Refused-clause-text : goal.returns-in-Refused-clause-text
returns-in-Refused-clause-text g c history shows =
    let a = asked_parts c.args.asked.now in
    explains_refused c.args.house.now.base a history _ c.in_ok-prepared.prepared c.in-Refused.text c.in-Refused.is refl
    (subst (λ (b : BaseParts). IsPreparedFor b a c.in_ok-prepared.prepared) c.base.ensures c.in_ok-prepared.ensures.prepared)

pub returns-in-Accepted-clause-text : goal.returns-in-Accepted-clause-text
returns-in-Accepted-clause-text g c history shows =
    let a = asked_parts c.args.asked.now in
    if_ok c.tree_text.result _ _ (λ x t. explains_accepted c.args.house.now.base a history x c.in_ok-prepared.prepared c.in-Accepted.tree c.in-Accepted.vars c.in-Accepted.is t
    (subst (λ (b : BaseParts). IsPreparedFor b a c.in_ok-prepared.prepared) c.base.ensures c.in_ok-prepared.ensures.prepared))
    (c.tree_text.ensures.text history shows)
