use Rattle.dedupe_steps.proofs.Steady.{is_quotient, firsts_below, below_same}
use Rattle.dedupe_steps.proofs.deduping.merge.Goals as goal

pub renamed-requires-clause-firsts : goal.renamed-requires-clause-firsts
renamed-requires-clause-firsts c = below_same _ _ _ c.firsts-firsts.ensures (firsts_below _ _ _ c.in_ok-steps.ensures)

pub returns : goal.returns
returns c =
    is_quotient c.args.base.now c.args.tree.now c.args.constraints.now c.args.plan.now c.in_ok-merged.merged c.in_ok-steps.steps c.in_ok-layers.layers
    c.to-to.result.now c.firsts-firsts.result.now c.to-to_layer.result.now c.firsts.result.now
    c.in_ok-steps.ensures c.to-to.ensures c.firsts-firsts.ensures c.in_ok-layers.ensures c.to-to_layer.ensures c.firsts.ensures c.in_ok-merged.ensures
