use Rattle.dedupe_steps.proofs.Rebuilt.{new_on}
use Rattle.dedupe_steps.proofs.quotient.new_steps.Goals as goal

pub loop-first-preserved : goal.loop-first-preserved
loop-first-preserved c =
    new_on c.args.to.now c.args.firsts.now c.args.steps.now c.in_ok-flags.flags c.loop-first.first-index _ _ _ _ _ _ c.loop-first-test.true c.requires c.in_ok-flags.ensures
    c.number_at.ensures c.flag_at-rows.ensures c.in_ok-step.ensures c.in_ok-push.ensures.ok c.loop-first.invariant
