use Rattle.pg_catalog.specs.declared.part.Part.TheVariants.{Comment}
use Rattle.pg_catalog.proofs.Steps.{comment_passes, made}
use Rattle.pg_catalog.proofs.growing.Growing.add_comment.Goals as goal

pub returns : goal.returns
returns c = made c.args.self (Comment c.args.part.now) c.in_ok-grown.grown (comment_passes c.args.self c.args.part.now) c.in_ok-grown.ensures
