use Rattle.std.proofs.Common.{rules}
use Rattle.pg_catalog.proofs.CommentIndexes.{link_position}
use Rattle.pg_catalog.proofs.comments.link_place.Goals as goal

pub returns : goal.returns
returns c = link_position c.args.name.now c.args.table.now.links c.link_at.result (search rules)
