use Rattle.std.proofs.Common.{◌≡◌, ℕ, List, true, ap, ◌∙◌, subst}
use Rattle.http_sessions.specs.Turns.{TookFront}
use Rattle.http_sessions.specs.ReplyText.{reply_text, refusal_text}
use Rattle.http_sessions.proofs.Sends.{took_front, refusal_same}
use Rattle.http_sessions.proofs.sending.refuse.Goals as goal

pub returns-in-Err-clause-bytes : goal.returns-in-Err-clause-bytes
returns-in-Err-clause-bytes g c =
    let e = refusal_same c.args.refusal c.args.front c.status-status.result c.body.result.now c.status-status.ensures c.body.ensures in
    subst (λ (text : List ℕ). TookFront (g.K.Sink.taken c.args.sink.now) (g.K.Sink.taken c.send.new.sink) text) e (took_front (g.K.Sink.taken c.args.sink.now) (g.K.Sink.taken c.send.new.sink) _ (reply_text true c.status-status.result c.args.front c.body.result.now) c.in-Err.ensures.bytes)
