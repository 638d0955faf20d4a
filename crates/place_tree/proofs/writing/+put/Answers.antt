use Rattle.std.proofs.Common.{sym, ◌∙◌}
use Rattle.place_tree.proofs.WrittenLemmas.{written_below}
use Rattle.place_tree.proofs.writing.+put.Goals as goal

pub put_members-loop-i-preserved : goal.put_members-loop-i-preserved
put_members-loop-i-preserved g t c =
    written_below (g.A.Asker.asked c.args.asker.now) c.args.places.now c.loop-i.i _ c.loop-i-test.true c.index-places-i.is c.args.parent c.args.state.now _ _ c.loop-i.invariant
    (sym c.is_below.ensures ∙ c.if-not-is_below.false) _ c.in_ok-put_member.ensures
