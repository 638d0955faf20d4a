use Rattle.std.proofs.Common.{◌≡◌, ◌==◌, ◌||◌, ℕ, List, Bool, ap, ◌∙◌, subst}
use Rattle.pg_base.specs.Limits.{most_replies}
use Rattle.http_sessions.specs.Turns.{TookFront}
use Rattle.http_sessions.specs.ReplyText.{reply_text, reply_of}
use Rattle.http_sessions.proofs.Sends.{took_front, reply_same}
use Rattle.http_sessions.proofs.sending.reply_to.Goals as goal

pub returns-in-Err-clause-bytes : goal.returns-in-Err-clause-bytes
returns-in-Err-clause-bytes g c =
    let e = reply_same c.is_last-last.result _ c.args.reply.now.status c.args.reply.now.front c.bytes-text.result.now _ c.is_last-last.ensures c.bytes-text.ensures in
    subst (λ (text : List ℕ). TookFront (g.K.Sink.taken c.args.sink.now) (g.K.Sink.taken c.send.new.sink) text) e (took_front (g.K.Sink.taken c.args.sink.now) (g.K.Sink.taken c.send.new.sink) _ (reply_text c.is_last-last.result c.args.reply.now.status c.args.reply.now.front c.bytes-text.result.now) c.in-Err.ensures.bytes)
