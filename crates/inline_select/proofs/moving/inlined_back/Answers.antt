use Rattle.std.proofs.Common.{rules, ◌≡◌, length, sym, subst}
use Rattle.inline_select.specs.Lists.{empty_lists}
use Rattle.inline_select.proofs.Waiting.{AreWaiting, waiting_first, waiting_turn}
use Rattle.inline_select.proofs.moving.inlined_back.Goals as goal

pub loop-more-init : goal.loop-more-init
loop-more-init c =
    let steps = c.args.steps.now in
    subst (λ below. AreWaiting steps below c.new-done.result) (sym c.in_ok-below.ensures)
    (subst (λ done. AreWaiting steps (empty_lists steps) done) (sym c.new-done.ensures) (waiting_first steps))

pub loop-more-preserved : goal.loop-more-preserved
loop-more-preserved c =
    let steps = c.args.steps.now in
    let counted : c.len.result ≡ length c.pop.new.self.items = search rules in
    subst (λ done. AreWaiting steps c.put_step.new.below.items done) (sym c.in_ok-push.ensures.ok)
    (waiting_turn steps c.loop-more.below.items c.pop.new.self.items c.in-Some.more c.loop-more.done c.in-Some.ensures.items c.loop-more.invariant
    c.len.result counted c.index-steps-len.result c.index-steps-len.is c.in_ok-step.step c.in_ok-step.ensures c.put_step.new.below.items c.in_ok-put_step.ensures)
