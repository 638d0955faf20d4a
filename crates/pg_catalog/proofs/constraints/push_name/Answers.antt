use Rattle.std.proofs.Common.{rules}
use Rattle.pg_catalog.proofs.TextFacts.{IsUtf8-named, pushed}
use Rattle.pg_catalog.proofs.constraints.push_name.Goals as goal

pub returns-clause-text : goal.returns-clause-text
returns-clause-text c =
    IsUtf8-named c.args.bytes.now.items _ c.args.name.now (pushed _ _ _ _ 95 c.in_ok-push.ensures.items (search rules)) c.requires c.bytes.ensures.utf8
