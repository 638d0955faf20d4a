-- Types where they are used, as documents and schemas write them: sections 2.11 and 3 of the GraphQL specification
-- (October 2021).
use Rattle.std.specs.Prelude.{ℕ, Bool, if◌then◌else◌, List}
use Rattle.std.specs.Prelude.{Option, Some, None, codes, find, position, option_map, option_and_then}
use Rattle.std.specs.Str.{bytes_eq}
use Rattle.gql_reader.specs.declared.tree.Type.{«Type» as TypeWritten, Named, List', more_of-Type, end_of-Type}
use Rattle.pg_base.specs.declared.schema.ArgDef.{ArgDef}
use Rattle.pg_base.specs.declared.schema.TypeRef.{TypeRef}
use Rattle.pg_base.specs.declared.schema.TypeDef.{TypeDef}
use Rattle.pg_base.specs.declared.schema.TypeKind.{TypeKind}
use Rattle.pg_base.specs.declared.schema.TypeKind.TheVariants as kind
use Rattle.pg_base.specs.Schema.{SchemaParts, kind_at, is_object, int, string, boolean}

-- ---- types where they are used

-- a type of the schema by its number, or a list, each perhaps without null
pub data Ty : Type 0 where
  named : ℕ → Bool → Ty
  list_of : Ty → Bool → Ty

-- the number of the type inside all lists
abbrev pub innermost : Ty → ℕ
innermost (named name non_null) = name
innermost (list_of item non_null) = innermost item

abbrev pub is_not_null : Ty → Bool
is_not_null (named name non_null) = non_null
is_not_null (list_of item non_null) = non_null

-- the type of a list's items
abbrev pub item_of : Ty → Option Ty
item_of (named name non_null) = None
item_of (list_of item non_null) = Some item

-- ---- types that the schema writes

abbrev pub ty_of : TypeRef → Ty
ty_of t = if t.list then list_of (named t.name t.item_not_null) t.not_null else named t.name t.not_null

-- ---- types that a document writes

-- the place of the first type with the name
abbrev pub place_named : List TypeDef → List ℕ → Option ℕ
place_named types name = position (λ t. bytes_eq t.name name) types

-- the type with the name, the built-in ones included
abbrev pub type_named : SchemaParts → List ℕ → Option ℕ
type_named schema name =
    if bytes_eq name (codes "Int") then Some int
    else (if bytes_eq name (codes "String") then Some string
    else (if bytes_eq name (codes "Boolean") then Some boolean
    else place_named schema.types name))

-- the name inside all lists
abbrev pub innermost_name : TypeWritten → List ℕ
innermost_name (Named name non_null) = name
innermost_name (List' _ (more_of-Type item end_of-Type) non_null) = innermost_name item

-- the type as it is written, whose innermost name is of the type with this number
abbrev pub ty_as : ℕ → TypeWritten → Ty
ty_as place (Named name non_null) = named place non_null
ty_as place (List' _ (more_of-Type item end_of-Type) non_null) = list_of (ty_as place item) non_null

-- the type that a document writes, where the schema has its name
abbrev pub ty_written : SchemaParts → TypeWritten → Option Ty
ty_written schema ty = option_map (λ place. ty_as place ty) (type_named schema (innermost_name ty))

-- the type, where it is an object type
abbrev pub object_at : SchemaParts → ℕ → Option ℕ
object_at schema place = if is_object (kind_at schema place) then Some place else None

-- the object type with the name
abbrev pub object_named : SchemaParts → List ℕ → Option ℕ
object_named schema name = option_and_then (object_at schema) (type_named schema name)

-- ---- arguments and input fields

-- the first one with the name
abbrev pub arg_named : List ArgDef → List ℕ → Option ArgDef
arg_named defs name = find (λ d. bytes_eq d.name name) defs

abbrev pub inputs_in : TypeKind → Option (List ArgDef)
inputs_in kind.Scalar = None
inputs_in (kind.Object fields) = None
inputs_in (kind.Enum cases) = None
inputs_in (kind.Input fields) = Some fields

-- The fields of an object that stands where the type is expected. What stands where a list is expected is an item of
-- it.
abbrev pub inputs_at : SchemaParts → Option Ty → Option (List ArgDef)
inputs_at schema ty = option_and_then (λ t. inputs_in (kind_at schema (innermost t))) ty

-- the type that is expected for an argument or an input field, where it is known
abbrev pub expected : Option (List ArgDef) → List ℕ → Option Ty
expected defs name = option_map (λ d. ty_of d.ty) (option_and_then (λ ds. arg_named ds name) defs)
