use Rattle.std.proofs.Common.{rules, arith}
use Rattle.std.proofs.lemmas.Grind.{common_steps}
use Rattle.cursor_text.proofs.Turns.{items_begin, items_close, items_go_on, items_end}
use Rattle.cursor_text.proofs.read.later_values.Goals as goal

pub loop-turn-init : goal.loop-turn-init
loop-turn-init c = items_begin _ _ _ _

pub returns-then-eat : goal.returns-then-eat
returns-then-eat c = items_close _ _ _ _ _ _ c.loop-turn.invariant c.loop-turn-test.true _ (c.eat.ensures.taken c.if-eat.true)

pub returns-in_err-later_value : goal.returns-in_err-later_value
returns-in_err-later_value c =
    let e = items_go_on _ _ _ _ _ _ c.loop-turn.invariant c.loop-turn-test.true _ (c.eat.ensures.missing c.if-eat.false) (c.eat.ensures.same c.if-eat.false) in
    first_of (search rules, grind (arith, common_steps))

pub loop-turn-preserved : goal.loop-turn-preserved
loop-turn-preserved c =
    let e = items_go_on _ _ _ _ _ _ c.loop-turn.invariant c.loop-turn-test.true _ (c.eat.ensures.missing c.if-eat.false) (c.eat.ensures.same c.if-eat.false) in
    first_of (search rules, grind (arith, common_steps))

pub returns : goal.returns
returns c = items_end _ _ _ _ _ _ c.loop-turn.invariant c.loop-turn-test.false
