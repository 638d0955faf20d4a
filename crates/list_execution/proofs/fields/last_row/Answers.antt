use Rattle.std.proofs.Common.{◌∙◌}
use Rattle.list_execution.proofs.Found.{last_get}
use Rattle.list_execution.proofs.fields.last_row.Goals as goal

pub returns : goal.returns
returns c = c.last.ensures.value ∙ last_get c.args.rows.now
