use Rattle.http_sessions.proofs.Sends.{delivers_front, delivers_two}
use Rattle.http_sessions.proofs.sending.write_both.Goals as goal

pub returns-in-Err-clause-bytes : goal.returns-in-Err-clause-bytes
returns-in-Err-clause-bytes g c = delivers_front _ _ _ c.args.first.now c.args.second.now c.in-Err.ensures.bytes

pub returns-in-Ok-clause-bytes : goal.returns-in-Ok-clause-bytes
returns-in-Ok-clause-bytes g c = delivers_two _ _ _ _ _ c.args.first.now c.args.second.now c.in-Ok.ensures.bytes c.write_all-in-Ok.ensures.bytes
