use Rattle.pg_catalog.proofs.ValidAll.{added_valid}
use Rattle.pg_catalog.proofs.laws.added_is_valid.Goals as goal

pub returns : goal.returns
returns c = added_valid
