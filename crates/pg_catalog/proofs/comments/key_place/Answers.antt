use Rattle.std.proofs.Common.{rules}
use Rattle.pg_catalog.proofs.CommentIndexes.{key_position}
use Rattle.pg_catalog.proofs.comments.key_place.Goals as goal

pub returns : goal.returns
returns c = key_position c.args.name.now c.args.table.now.keys c.key_at.result (search rules)
