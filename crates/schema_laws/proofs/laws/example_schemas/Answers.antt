use Rattle.schema_laws.proofs.WorkedSchemas.{worked_schemas}
use Rattle.schema_laws.proofs.laws.example_schemas.Goals as goal

pub returns : goal.returns
returns c = worked_schemas
