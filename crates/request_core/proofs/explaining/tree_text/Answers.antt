use Rattle.std.proofs.Common.{inl, inr, Option, IfSome, subst}
use Rattle.std.specs.Prelude.{option_map}
use Rattle.std.specs.Arc.{arc_value}
use Rattle.plan_cache.specs.Shelf.{Look}
use Rattle.kept_responses.specs.Kept.{key_for}
use Rattle.request_core.specs.Asked.{asked_parts, wanted_with}
use Rattle.request_core.proofs.PlanTexts.{IsBased}
use Rattle.request_core.proofs.Refused.{if_ok}
use Rattle.request_core.proofs.explaining.tree_text.Goals as goal

pub kept_text-requires : goal.kept_text-requires
kept_text-requires g c = subst (λ f. IfSome f (λ kept. IsBased c.args.house.now.base (arc_value kept))) c.in-Some.is c.in_ok-found.ensures.base

pub returns-in-Some-clause-text : goal.returns-in-Some-clause-text
returns-in-Some-clause-text g c history shows =
    let wanted = wanted_with (asked_parts c.args.asked.now) c.args.vars.now in
    let look = subst (λ f. Look key_for wanted history (option_map arc_value f)) c.in-Some.is (c.in_ok-found.ensures.look history shows) in
    if_ok c.kept_text.result _ _ (λ x is. inl (record { kept = arc_value c.in-Some.kept; look = look; fits = c.kept_text.ensures.fits; is = is })) (c.kept_text.ensures.text c.args.vars.now c.args.tree c.in_ok-needs.ensures)

pub returns-in-None-clause-text : goal.returns-in-None-clause-text
returns-in-None-clause-text g c history shows =
    let wanted = wanted_with (asked_parts c.args.asked.now) c.args.vars.now in
    let look = subst (λ f. Look key_for wanted history (option_map arc_value f)) c.in-None.is (c.in_ok-found.ensures.look history shows) in
    if_ok c.new_text.result _ _ (λ x new. inr (record { look = look; new = new })) c.new_text.ensures.text
