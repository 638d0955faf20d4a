use Rattle.std.proofs.Common.{◌≡◌, ◌∙◌, rules, take, map}
use Rattle.http_sessions.proofs.HeadLines.{no_request, bad_head, read_so}
use Rattle.http_sessions.proofs.wants.read_lines.Goals as goal

pub returns-in-Ok-Complete-clause-value : goal.returns-in-Ok-Complete-clause-value
returns-in-Ok-Complete-clause-value c = read_so c.args.lines.now c.parse_request.new.headers c.in-Ok-Complete.spans c.wants_of.result (search rules) (search rules)

pub returns-in-Err-clause-value : goal.returns-in-Err-clause-value
returns-in-Err-clause-value c = bad_head c.args.lines.now (no_request c.args.lines.now c.requires c.in-Err.ensures.no_room)
