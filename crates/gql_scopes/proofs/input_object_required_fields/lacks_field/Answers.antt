use Rattle.std.specs.Prelude.{option_map}
use Rattle.gql_types.specs.Positions.{ty_if}
use Rattle.gql_scopes.proofs.RequiredFields.{lacks_is}
use Rattle.gql_scopes.proofs.input_object_required_fields.lacks_field.Goals as goal

pub returns-in-Object : goal.returns-in-Object
returns-in-Object c =
    lacks_is c.args.schema.now (ty_if c.args.ty) c.args.value.now.kind _ _ (option_map (λ d. d.now) c.inputs_at.result) c.lacks_any.result c.in-Object.is c.as_slice.ensures c.inputs_at.ensures c.lacks_any.ensures
