use Rattle.schema_laws.proofs.WorkedSchemas.{worked_faults}
use Rattle.schema_laws.proofs.laws.example_faults.Goals as goal

pub returns : goal.returns
returns c = worked_faults
