use Rattle.std.proofs.Common.{◌≡◌, ◌+◌, ◌-◌, ◌≤◌, ℕ, List, length, take, drop, refl, sym, ap, ◌∙◌, subst, rules, arith}
use Rattle.http_sessions.proofs.Received.{came_none}
use Rattle.http_sessions.proofs.TurnSteps.{refused_at, refused_front, front_bytes}
use Rattle.http_sessions.proofs.session.answer_head.Goals as goal

pub returns-in-Refuses-clause-turn : goal.returns-in-Refuses-clause-turn
returns-in-Refuses-clause-turn g c =
    let w = c.args.window.now in
    let e = front_bytes c.args.room.now w c.args.extent c.requires.window c.requires.head in
    refused_at g.P.Responder.front g.P.Responder.responds c.args.responder.now _ _ c.args.notes.now.items c.in-Refuses.refusal c.refuse.result c.front.result c.front.ensures (came_none _ _ _) (refused_front _ _ c.args.extent.end c.in-Refuses.refusal e c.in-Refuses.ensures.value) c.refuse.ensures.bytes
