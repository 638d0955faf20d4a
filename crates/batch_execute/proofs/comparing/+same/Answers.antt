use Rattle.std.proofs.Common.{sym, ◌∙◌}
use Rattle.batch_execute.proofs.SameLists.{ends_short, ends_both}
use Rattle.batch_execute.proofs.comparing.+same.Goals as goal

pub are_same_fetches-returns-then-i-b : goal.are_same_fetches-returns-then-i-b
are_same_fetches-returns-then-i-b t c =
    sym (ends_short c.args.a.now c.args.b.now c.loop-i.i c.loop-i-test.true c.if-i-b.true) ∙ c.loop-i.invariant.same

pub are_same_fetches-returns : goal.are_same_fetches-returns
are_same_fetches-returns t c =
    ends_both c.args.a.now c.args.b.now c.loop-i.i c.loop-i-test.false c.loop-i.auto.i-end c.loop-i.invariant.within ∙ c.loop-i.invariant.same
