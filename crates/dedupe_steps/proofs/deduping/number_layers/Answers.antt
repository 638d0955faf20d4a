use Rattle.std.proofs.Common.{◌≡◌, length, Some, ap, arith, rules}
use Rattle.std.specs.Prelude.{slice_get}
use Rattle.dedupe_steps.proofs.Steady.{layers_first, layers_on, there_is, ends}
use Rattle.dedupe_steps.proofs.deduping.number_layers.Goals as goal

pub loop-y-init : goal.loop-y-init
loop-y-init c = layers_first c.args.to.now c.args.plan.now.layers c.new-numbers.result c.new-numbers.ensures

pub loop-y-preserved : goal.loop-y-preserved
loop-y-preserved c =
    let there = there_is c.args.plan.now.layers c.as_slice-layers.result.now c.loop-y.y c.index-layers-y.result c.as_slice-layers.ensures c.loop-y-test.true c.index-layers-y.is in
    layers_on c.args.to.now c.args.plan.now.layers c.loop-y.y c.index-layers-y.result c.loop-y.numbers c.add.new.self c.in_ok-key.key there
    c.loop-y.invariant c.in_ok-key.ensures c.in_ok-add.ensures

pub returns : goal.returns
returns c =
    let long = ap length c.as_slice-layers.ensures in
    let e : c.loop-y.y ≡ length c.args.plan.now.layers = omega (arith, long) in
    ends c.loop-y.y (length c.args.plan.now.layers) _ _ e c.loop-y.invariant.numbered
