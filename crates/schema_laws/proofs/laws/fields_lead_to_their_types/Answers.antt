use Rattle.schema_laws.proofs.Numbers.{is_numbered}
use Rattle.schema_laws.proofs.Leading.{are_kinds, mutation_kind}
use Rattle.schema_laws.proofs.Shaped.{have_shapes}
use Rattle.schema_laws.proofs.Valid.{is_valid}
use Rattle.schema_laws.proofs.laws.fields_lead_to_their_types.Goals as goal

pub returns : goal.returns
returns c =
    let catalog = c.args.catalog.now in
    let valid = c.know.ensures in
    record { valid = is_valid catalog valid; kinds = are_kinds catalog valid (is_numbered catalog valid); mutation = mutation_kind catalog; shapes = have_shapes catalog }
