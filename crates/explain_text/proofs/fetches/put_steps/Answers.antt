use Rattle.std.proofs.lemmas.Slice.Zip.{zip_end}
use Rattle.explain_text.proofs.Ended.{all_lines}
use Rattle.explain_text.proofs.fetches.put_steps.Goals as goal

pub returns : goal.returns
returns c =
    let ended = zip_end c.args.steps.now c.args.how.now c.loop-step.yielded _ _ c.next.new.self _ (cc) (cc) c.loop-step.yielded_by c.in-None.is c.next.ensures.steps in
    all_lines c.args.catalog.now c.args.steps.now c.args.how.now _ _ _ ended c.loop-step.invariant
