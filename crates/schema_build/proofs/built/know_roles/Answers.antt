use Rattle.schema_build.proofs.Whole.{few_roles}
use Rattle.schema_build.proofs.built.know_roles.Goals as goal

pub returns : goal.returns
returns c = few_roles c.args.catalog.now c.fields_lead_to_their_types.ensures.valid
