-- 5.6.4 Input Object Required Fields.
use Rattle.std.specs.Prelude.{ℕ, Bool, true, false, ◌&&◌, ◌||◌, not, List, Option}
use Rattle.std.specs.Str.{bytes_eq}
use Rattle.std.specs.List.{list_any}
use Rattle.pg_base.specs.declared.schema.ArgDef.{ArgDef}
use Rattle.pg_base.specs.Schema.{SchemaParts}
use Rattle.gql_reader.specs.declared.tree.ValueKind.{ValueKind, Variable, Int, Float, String, Boolean, Null, Enum}
use Rattle.gql_reader.specs.declared.tree.ValueKind.{List', Object'}
use Rattle.gql_reader.specs.declared.tree.ValueKind.{Row_of-ObjectField, end_of-ObjectField, more_of-ObjectField}
use Rattle.gql_types.specs.Types.{Ty, inputs_at}
use Rattle.gql_nodes.specs.Nodes.{Node}
use Rattle.gql_scopes.specs.Conditions.{if_some}
use Rattle.gql_scopes.specs.Sorts.{on_value}

abbrev pub is_null : ValueKind → Bool
is_null (Variable name) = false
is_null (Int text) = false
is_null (Float text) = false
is_null (String text) = false
is_null (Boolean b) = false
is_null Null = true
is_null (Enum name) = false
is_null (List' n items) = false
is_null (Object' n fields) = false

-- a field of the name is given, and not as the literal null
abbrev pub gives : {n : _} → Row_of-ObjectField n → List ℕ → Bool
gives end_of-ObjectField name = false
gives (more_of-ObjectField other kind place pos rest) name =
    (bytes_eq other name && not (is_null kind)) || gives rest name

abbrev pub lacks : {n : _} → Row_of-ObjectField n → List ArgDef → Bool
lacks fields defs = list_any (λ d. d.ty.not_null && not (gives fields d.name)) defs

abbrev pub lacks_field : SchemaParts → Option Ty → ValueKind → Bool
lacks_field schema ty (Variable name) = false
lacks_field schema ty (Int text) = false
lacks_field schema ty (Float text) = false
lacks_field schema ty (String text) = false
lacks_field schema ty (Boolean b) = false
lacks_field schema ty Null = false
lacks_field schema ty (Enum name) = false
lacks_field schema ty (List' n items) = false
lacks_field schema ty (Object' n fields) = if_some (lacks fields) (inputs_at schema ty)

-- the object has no field, or the literal null, where the input type has a non-null one
abbrev pub breaks : SchemaParts → Node → Bool
breaks schema x = on_value (lacks_field schema) x
