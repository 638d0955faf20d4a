-- Schemas: what stands at their places, and what makes one valid.
use Rattle.std.specs.Prelude.{◌≡◌, ◌⊎◌, ◌<◌, ◌≤◌, ◌^◌, ℕ, Bool, true, false, ◌||◌, ◌==◌}
use Rattle.std.specs.Prelude.{List, [], length, Option, Some, None, slice_get, IsSomeAnd, IfSome}
use Rattle.pg_base.specs.Lists.{Each}
use Rattle.pg_base.specs.declared.schema.FieldDef.{FieldDef}
use Rattle.pg_base.specs.declared.schema.ArgDef.{ArgDef}
use Rattle.pg_base.specs.declared.schema.TypeKind.{TypeKind}
use Rattle.pg_base.specs.declared.schema.TypeKind.TheVariants as kind
use Rattle.pg_base.specs.declared.schema.TypeDef.{TypeDef}

pub record SchemaParts : Type 0 where
  pub types : List TypeDef
  pub query : ℕ
  pub mutation : Option ℕ

-- ---- the built-in types, which stand in no list

abbrev pub int : ℕ
int = 4294967293

abbrev pub string : ℕ
string = 4294967294

abbrev pub boolean : ℕ
boolean = 4294967295

abbrev pub is_built_in : ℕ → Bool
is_built_in ty = (ty == int || ty == string) || ty == boolean

-- ---- what a type has

abbrev pub fields_of : TypeKind → List FieldDef
fields_of kind.Scalar = []
fields_of (kind.Object fields) = fields
fields_of (kind.Enum cases) = []
fields_of (kind.Input args) = []

abbrev pub inputs_of : TypeKind → List ArgDef
inputs_of kind.Scalar = []
inputs_of (kind.Object fields) = []
inputs_of (kind.Enum cases) = []
inputs_of (kind.Input args) = args

abbrev pub cases_of : TypeKind → List (List ℕ)
cases_of kind.Scalar = []
cases_of (kind.Object fields) = []
cases_of (kind.Enum cases) = cases
cases_of (kind.Input args) = []

-- ---- what stands at a place

abbrev pub kind_of : Option TypeDef → TypeKind
kind_of None = kind.Scalar
kind_of (Some t) = t.kind

abbrev pub kind_at : SchemaParts → ℕ → TypeKind
kind_at schema ty = kind_of (slice_get schema.types ty)

abbrev pub name_of : Option TypeDef → List ℕ
name_of None = []
name_of (Some t) = t.name

abbrev pub type_name_at : SchemaParts → ℕ → List ℕ
type_name_at schema ty = name_of (slice_get schema.types ty)

-- the field of an object type
abbrev pub field_at : SchemaParts → ℕ → ℕ → Option FieldDef
field_at schema ty field = slice_get (fields_of (kind_at schema ty)) field

-- ---- where types may stand

abbrev pub is_object : TypeKind → Bool
is_object kind.Scalar = false
is_object (kind.Object fields) = true
is_object (kind.Enum cases) = false
is_object (kind.Input args) = false

-- an input type, and an output type (GraphQL October 2021, section 3.4.2)
abbrev pub is_input : TypeKind → Bool
is_input kind.Scalar = true
is_input (kind.Object fields) = false
is_input (kind.Enum cases) = true
is_input (kind.Input args) = true

abbrev pub is_output : TypeKind → Bool
is_output kind.Scalar = true
is_output (kind.Object fields) = true
is_output (kind.Enum cases) = true
is_output (kind.Input args) = false

-- a type is there that passes the test; a built-in one is a scalar
abbrev pub IsTypeFor : (TypeKind → Bool) → SchemaParts → ℕ → Type 0
IsTypeFor test schema ty = (is_built_in ty ≡ true) ⊎ IsSomeAnd (slice_get schema.types ty) (λ t. test t.kind ≡ true)

abbrev pub IsObjectAt : SchemaParts → ℕ → Type 0
IsObjectAt schema ty = IsSomeAnd (slice_get schema.types ty) (λ t. is_object t.kind ≡ true)

-- ---- valid schemas

-- each of these has a number of 32 bits
abbrev pub AreFew : {A : Type 0} → List A → Type 0
AreFew xs = length xs < 2 ^ 32

abbrev pub IsValidArg : SchemaParts → ArgDef → Type 0
IsValidArg schema a = IsTypeFor is_input schema a.ty.name

pub record IsValidField (schema : SchemaParts) (f : FieldDef) : Type 0 where
  pub ty : IsTypeFor is_output schema f.ty.name
  pub args : Each (IsValidArg schema) f.args
  pub few : AreFew f.args

pub record IsValidType (schema : SchemaParts) (t : TypeDef) : Type 0 where
  pub fields : Each (IsValidField schema) (fields_of t.kind)
  pub inputs : Each (IsValidArg schema) (inputs_of t.kind)
  pub few_fields : AreFew (fields_of t.kind)
  pub few_inputs : AreFew (inputs_of t.kind)
  pub few_cases : AreFew (cases_of t.kind)

-- no place is the number of a built-in type
pub record IsValidSchema (schema : SchemaParts) : Type 0 where
  pub numbered : length schema.types ≤ int
  pub query : IsObjectAt schema schema.query
  pub mutation : IfSome schema.mutation (IsObjectAt schema)
  pub types : Each (IsValidType schema) schema.types
