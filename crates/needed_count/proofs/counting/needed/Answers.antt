use Rattle.needed_count.proofs.Walked.{all_counted}
use Rattle.needed_count.proofs.counting.needed.Goals as goal

pub returns : goal.returns
returns c =
    all_counted c.args.base.now c.args.vars.now c.args.tree.now c.as_slice-places.result.now c.loop-place.walk c.loop-place.place-index c.count.result
    c.as_slice-places.ensures c.count.ensures c.loop-place-test.false c.loop-place.invariant
