use Rattle.std.proofs.Common.{◌≡◌, ℕ, List, length, take, drop, refl, sym, ap, ◌∙◌, subst, rules, arith}
use Rattle.http_sessions.proofs.Sends.{passed_all}
use Rattle.http_sessions.proofs.TurnSteps.{unworded_at, inside_at, turn_answered}
use Rattle.http_sessions.proofs.session.answer_body.Goals as goal

pub returns-in-Err-clause-turn : goal.returns-in-Err-clause-turn
returns-in-Err-clause-turn g c =
    unworded_at g.P.Responder.front g.P.Responder.responds c.args.responder.now _ _ _ _ c.args.notes.now.items c.args.body.head c.args.body.size c.args.body.closes c.args.continues _ c.in-Err.ensures.asked c.requires.asks c.in-Err.ensures.bytes

pub returns-in-Err-fill-clause-turn : goal.returns-in-Err-fill-clause-turn
returns-in-Err-fill-clause-turn g c =
    let b = c.args.body in
    let e = c.in-Err-fill.ensures in
    inside_at g.P.Responder.front g.P.Responder.responds b.head b.size b.closes c.args.continues e.came c.requires.head c.requires.asks _ _ c.args.responder.now _ _ c.args.notes.now.items c.in-Err-fill.halt c.end_inside.result c.end_inside.ensures e.filled.0 e.filled.1 (passed_all _ _ _ _ c.in-Ok.ensures.bytes)

pub returns-clause-turn : goal.returns-clause-turn
returns-clause-turn g c =
    let b = c.args.body in
    let e = c.in-Ok-fill.ensures in
    turn_answered g.P.Responder.front g.P.Responder.responds b.head b.size b.closes c.args.continues e.came c.requires.head c.requires.asks e.filled.0 _ c.answer.result (passed_all _ _ _ _ c.in-Ok.ensures.bytes) c.answer.ensures.answered
