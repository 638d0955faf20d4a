use Rattle.std.proofs.Common.{sym, ◌∙◌}
use Rattle.place_tree.proofs.SpentLemmas.{spent_goes, spent_stops}
use Rattle.place_tree.proofs.WrittenLemmas.{written_below}
use Rattle.place_tree.proofs.counting.+visit.Goals as goal

pub visit_members-returns-in-Err-clause-spent : goal.visit_members-returns-in-Err-clause-spent
visit_members-returns-in-Err-clause-spent g t c =
    spent_stops (g.A.Asker.asked c.args.asker.now) (g.A.Coster.costs c.args.asker.now) c.args.places.now c.loop-i.i _ c.loop-i-test.true c.index-places-i.is c.args.parent c.args.state.now
    (sym c.is_below.ensures ∙ c.if-not-is_below.false) _ _ _ c.loop-i.invariant.spent _ c.visit_member.result _ c.visit_member.ensures.spent c.in-Err.is

pub visit_members-loop-i-preserved : goal.visit_members-loop-i-preserved
visit_members-loop-i-preserved g t c =
    record {
      spent = spent_goes (g.A.Asker.asked c.args.asker.now) (g.A.Coster.costs c.args.asker.now) c.args.places.now c.loop-i.i _ c.loop-i-test.true c.index-places-i.is c.args.parent c.args.state.now
          (sym c.is_below.ensures ∙ c.if-not-is_below.false) _ _ _ c.loop-i.invariant.spent _ c.in-Ok.ensures.spent;
      written = written_below (g.A.Asker.asked c.args.asker.now) c.args.places.now c.loop-i.i _ c.loop-i-test.true c.index-places-i.is c.args.parent c.args.state.now _ _ c.loop-i.invariant.written
          (sym c.is_below.ensures ∙ c.if-not-is_below.false) _ c.in-Ok.ensures.written;
    }
