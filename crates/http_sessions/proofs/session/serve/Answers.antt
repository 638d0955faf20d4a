use Rattle.std.proofs.Common.{◌≡◌, ◌≤◌, ℕ, List, [], length, take, drop, refl, sym, ap, ◌∙◌, subst, rules, arith}
use Rattle.http_sessions.proofs.TurnSteps.{so_none, so_more, so_few, so_ends, so_memory, so_kept, report_is}
use Rattle.http_sessions.proofs.session.serve.Goals as goal

pub turns-init : goal.turns-init
turns-init g c = record {
  window = record { ordered = omega arith; within = omega arith };
  out = c.requires.room;
  few = omega arith;
  count = ap length c.new-notes.ensures.items;
  so_far = so_none g.P.Responder.front g.P.Responder.responds c.args.responder.now _ _ _ c.new-notes.result.items refl c.new-notes.ensures.items;
  read = refl;
  wrote = refl;
}

pub returns-then-is_err-clause-session : goal.returns-then-is_err-clause-session
returns-then-is_err-clause-session g c =
    report_is g.P.Responder.front g.P.Responder.responds _ _ _ _ c.report.ensures.end c.report.ensures.notes (so_memory g.P.Responder.front g.P.Responder.responds c.turns.invariant.so_far c.reserve.ensures.items)

pub returns-in-Some-clause-session : goal.returns-in-Some-clause-session
returns-in-Some-clause-session g c =
    let so = so_kept g.P.Responder.front g.P.Responder.responds _ c.reserve.new.self.items c.reserve.ensures.items c.turns.invariant.so_far in
    report_is g.P.Responder.front g.P.Responder.responds _ _ _ _ c.report-in-Some.ensures.end c.report-in-Some.ensures.notes (so_ends g.P.Responder.front g.P.Responder.responds c.in-Some.end so c.in-Some.ensures.turn)

pub turns-preserved : goal.turns-preserved
turns-preserved g c =
    let i = c.turns.invariant in
    let e = c.in-None.ensures in
    let so = so_kept g.P.Responder.front g.P.Responder.responds _ c.reserve.new.self.items c.reserve.ensures.items i.so_far in
    let few = so_few g.P.Responder.front g.P.Responder.responds c.turns._turn (ap length c.reserve.ensures.items ∙ i.count) i.few e.turn in
    record {
      window = e.window;
      out = e.room;
      few = few.0;
      count = few.1;
      so_far = so_more g.P.Responder.front g.P.Responder.responds so e.turn;
      read = e.read_cause ∙ i.read;
      wrote = e.write_cause ∙ i.wrote;
    }
