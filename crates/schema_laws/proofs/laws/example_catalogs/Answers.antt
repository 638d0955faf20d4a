use Rattle.schema_laws.proofs.ExampleCatalogs.{all_valid, none_valid}
use Rattle.schema_laws.proofs.laws.example_catalogs.Goals as goal

pub returns : goal.returns
returns c = record { valid = all_valid; invalid = none_valid }
