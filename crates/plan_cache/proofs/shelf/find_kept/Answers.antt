use Rattle.std.proofs.Common.{option_map, Some, None, sym, subst, arith}
use Rattle.plan_cache.specs.Shelf as spec
use Rattle.plan_cache.proofs.Oldest.{older_passed, first_answers}
use Rattle.plan_cache.proofs.shelf.find_kept.Goals as goal

-- src/shelf.rt:59:13
pub returns-then-answers : goal.returns-then-answers
returns-then-answers g c =
    c.loop-one.invariant.2 (Some c.in-Some.one.now)
    (subst (λ ks. spec.IsOldest (λ k. spec.key_of k.key.text k.key.operation k.key.constraints)
    (spec.asked_for c.args.text.now (option_map (λ name. name.now) c.args.operation) c.args.vars.now) ks
    (Some c.in-Some.one.now)) (sym c.in-Some.ensures.steps)
    (first_answers (λ k. spec.key_of k.key.text k.key.operation k.key.constraints)
    (spec.asked_for c.args.text.now (option_map (λ name. name.now) c.args.operation) c.args.vars.now)
    c.in-Some.one.now c.next.new.self (c.answers.ensures.0 c.if-answers.true)))

-- src/shelf.rt:57:5
pub loop-one-preserved : goal.loop-one-preserved
loop-one-preserved g c = (
  tt,
  tt,
  λ found oldest. c.loop-one.invariant.2 found
      (subst (λ ks. spec.IsOldest (λ k. spec.key_of k.key.text k.key.operation k.key.constraints)
      (spec.asked_for c.args.text.now (option_map (λ name. name.now) c.args.operation) c.args.vars.now) ks found)
      (sym c.in-Some.ensures.steps)
      (older_passed (λ k. spec.key_of k.key.text k.key.operation k.key.constraints)
      (spec.asked_for c.args.text.now (option_map (λ name. name.now) c.args.operation) c.args.vars.now)
      c.in-Some.one.now c.next.new.self found (λ h. grind (arith, c.if-answers.ensures.1 h)) oldest)),
)

-- src/shelf.rt:47:1
pub returns : goal.returns
returns g c =
    c.loop-one.invariant.2 None
    (subst (λ ks. spec.NoneAnswers (λ k. spec.key_of k.key.text k.key.operation k.key.constraints)
    (spec.asked_for c.args.text.now (option_map (λ name. name.now) c.args.operation) c.args.vars.now) ks)
    (sym c.in-None.ensures.steps.0) tt)
