use Rattle.std.proofs.Common.{rules}
use Rattle.pg_catalog.proofs.TextFacts.{IsUtf8-ended}
use Rattle.pg_catalog.proofs.constraints.default_name.Goals as goal

pub of_bytes-requires : goal.of_bytes-requires
of_bytes-requires c = IsUtf8-ended c.loop-column.bytes.items _ c.args.ending.now (search rules) c.loop-column.invariant.text c.utf8.ending
