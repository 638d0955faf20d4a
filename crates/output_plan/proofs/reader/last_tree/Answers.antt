use Rattle.std.proofs.Common.{◌∙◌}
use Rattle.output_plan.proofs.ShownLeaves.{last_at}
use Rattle.output_plan.proofs.reader.last_tree.Goals as goal

pub returns : goal.returns
returns c = c.last.ensures.value ∙ last_at c.args.rows.now
