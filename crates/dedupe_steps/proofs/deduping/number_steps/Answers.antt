use Rattle.std.proofs.Common.{◌≡◌, length, Some, ap, ◌∙◌, arith, rules}
use Rattle.std.specs.Prelude.{slice_get}
use Rattle.dedupe_steps.specs.Sights.{key_with}
use Rattle.dedupe_steps.specs.Words.{key_words}
use Rattle.dedupe_steps.proofs.Steady.{steps_first, steps_on, there_is, ends}
use Rattle.dedupe_steps.proofs.deduping.number_steps.Goals as goal

pub loop-k-init : goal.loop-k-init
loop-k-init c = steps_first c.args.base.now c.args.tree.now c.args.constraints.now c.args.plan.now c.new-numbers.result c.requires.checked c.requires.flat c.new-numbers.ensures

pub loop-k-preserved : goal.loop-k-preserved
loop-k-preserved c =
    let there = there_is c.args.plan.now.steps c.as_slice-steps.result.now c.loop-k.k c.index-steps-k.result c.as_slice-steps.ensures c.loop-k-test.true c.index-steps-k.is in
    steps_on c.args.base.now c.args.tree.now c.args.constraints.now c.args.plan.now c.in_ok-sights.sights c.loop-k.k c.index-steps-k.result c.loop-k.numbers c.add.new.self c.in_ok-key.key
    c.requires.checked c.requires.flat c.in_ok-sights.ensures there c.loop-k.invariant
    (c.in_ok-key.ensures ∙ ap (λ to. key_words (key_with c.args.tree.now c.args.constraints.now c.args.plan.now c.in_ok-sights.sights to c.loop-k.k c.index-steps-k.result)) c.to.ensures)
    c.in_ok-add.ensures

pub returns : goal.returns
returns c =
    let long = ap length c.as_slice-steps.ensures in
    let e : c.loop-k.k ≡ length c.args.plan.now.steps = omega (arith, long) in
    ends c.loop-k.k (length c.args.plan.now.steps) _ _ e c.loop-k.invariant.numbered
