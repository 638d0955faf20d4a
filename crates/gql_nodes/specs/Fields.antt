-- Types, fields and arguments of the schema as the selections of a document name them. Section numbers are of the
-- GraphQL specification (October 2021).
use Rattle.std.specs.Prelude.{ℕ, true, false, if◌then◌else◌, List, [], ◌∷◌, Option, Some, None, codes, find}
use Rattle.std.specs.Prelude.{option_map, option_and_then, ◌||◌}
use Rattle.std.specs.Str.{bytes_eq}
use Rattle.gql_reader.specs.declared.tree.OperationKind.{OperationKind}
use Rattle.gql_reader.specs.declared.tree.OperationKind.TheVariants as operation
use Rattle.pg_base.specs.declared.schema.ArgDef.{ArgDef}
use Rattle.pg_base.specs.declared.schema.FieldDef.{FieldDef}
use Rattle.pg_base.specs.declared.schema.TypeRef.{TypeRef}
use Rattle.pg_base.specs.Schema.{SchemaParts, fields_of, kind_at, string, boolean}
use Rattle.gql_types.specs.Types.{object_at, object_named}

-- ---- parent types

-- the root type of an operation, if there is one (3.3.1); here there is none for subscriptions
abbrev pub root_of : SchemaParts → OperationKind → Option ℕ
root_of schema operation.Query = Some schema.query
root_of schema operation.Mutation = schema.mutation
root_of schema operation.Subscription = None

-- the parent type within an inline fragment: its type condition's, or the type around it where it has none
abbrev pub within_condition : SchemaParts → Option ℕ → Option (List ℕ) → Option ℕ
within_condition schema parent None = parent
within_condition schema parent (Some name) = object_named schema name

-- ---- fields (3.6)

-- what rules ask of a field: its arguments and its type
pub record Known : Type 0 where
  pub args : List ArgDef
  pub ty : TypeRef

abbrev pub known_of : FieldDef → Known
known_of f = record { args = f.args; ty = f.ty }

-- a type that is never null
abbrev pub required : ℕ → TypeRef
required name = record { name = name; list = false; item_not_null = false; not_null = true }

-- `__typename: String!`, of each object type (4.4)
abbrev pub typename_field : Known
typename_field = record { args = []; ty = required string }

abbrev pub field_among : List FieldDef → List ℕ → Option Known
field_among fields name = option_map known_of (find (λ f. bytes_eq f.name name) fields)

abbrev pub field_named : SchemaParts → ℕ → List ℕ → Option Known
field_named schema parent name =
    if bytes_eq name (codes "__typename") then Some typename_field
    else field_among (fields_of (kind_at schema parent)) name

-- the field of the name, where the parent type is known and has it
abbrev pub field_of : SchemaParts → Option ℕ → List ℕ → Option Known
field_of schema parent name = option_and_then (λ place. field_named schema place name) parent

-- the parent type of the selection set below a field: none below a leaf, or where the field isn't known
abbrev pub below : SchemaParts → Option Known → Option ℕ
below schema known = option_and_then (λ k. object_at schema k.ty.name) known

abbrev pub args_of : Option Known → Option (List ArgDef)
args_of known = option_map (λ k. k.args) known

-- ---- directives (3.13): `skip` and `include`, each with `if: Boolean!`

abbrev pub if_args : List ArgDef
if_args = record { name = codes "if"; ty = required boolean } ∷ []

abbrev pub directive_args : List ℕ → Option (List ArgDef)
directive_args name =
    if bytes_eq name (codes "skip") || bytes_eq name (codes "include") then Some if_args else None
