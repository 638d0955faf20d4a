use Rattle.row_tables.proofs.Unique.{valid_form}
use Rattle.row_tables.proofs.laws.valid_tables_have_form.Goals as goal

pub returns : goal.returns
returns c = λ catalog valid. valid_form catalog c.args.tables.now valid
