use Rattle.row_tables.proofs.Unique.{list_rows}
use Rattle.row_tables.proofs.laws.sets_have_rows.Goals as goal

pub returns : goal.returns
returns c = list_rows c.args.set.now c.args.table
