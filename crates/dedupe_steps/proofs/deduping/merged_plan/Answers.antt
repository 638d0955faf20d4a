use Rattle.dedupe_steps.proofs.Steady.{quotient_of}
use Rattle.dedupe_steps.proofs.deduping.merged_plan.Goals as goal

pub returns : goal.returns
returns c =
    quotient_of c.args.draft.now c.base.result.now c.tree.result.now c.constraints.result.now c.plan.result.now c.in_ok-merged.merged
    c.base.ensures c.tree.ensures c.constraints.ensures c.plan.ensures c.in_ok-merged.ensures
