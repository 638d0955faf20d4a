use Rattle.std.proofs.Common.{◌≡◌, ◌+◌, ◌-◌, ◌≤◌, ℕ, List, length, take, drop, refl, sym, ap, ◌∙◌, subst, rules, arith}
use Rattle.http_sessions.proofs.Received.{window_len}
use Rattle.http_sessions.proofs.TurnSteps.{answered_so}
use Rattle.http_sessions.proofs.session.answer.Goals as goal

pub returns-clause-answered : goal.returns-clause-answered
returns-clause-answered g c =
    let w = c.args.window.now in
    let size = window_len c.args.room.now w c.requires.window in
    let whole : c.args.body.head + c.args.body.size ≤ w.held - w.start = let k = c.requires.whole in omega (arith, k, size) in
    let r = c.respond-reply.ensures in
    let count : length c.as_slice-count.result.now ≡ length c.push_note.new.notes.items = ap length c.as_slice-count.ensures.value in
    answered_so g.P.Responder.front g.P.Responder.responds c.args.room.now w.start w.held c.args.body.head c.args.body.size (length c.as_slice-count.result.now) c.args.body.closes c.respond-reply.result _ c.requires.window.ordered whole refl r.step r.front r.rises r.status c.push_note.ensures.items count c.reply_to.ensures.bytes
