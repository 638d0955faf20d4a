use Rattle.pg_catalog.proofs.ValidAll.{catalog_valid}
use Rattle.pg_catalog.proofs.laws.catalog_is_valid.Goals as goal

pub returns : goal.returns
returns c = catalog_valid
