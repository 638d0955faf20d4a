use Rattle.row_tables.proofs.Unique.{free_unique}
use Rattle.row_tables.proofs.laws.free_rows_keep_keys.Goals as goal

pub returns : goal.returns
returns c = free_unique c.args.places.now c.args.row.now c.args.rows.now c.requires.numbers c.requires.unique c.requires.free
