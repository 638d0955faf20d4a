-- What holds of the names of a schema without faults.
use Rattle.std.specs.Prelude.{◌≡◌, ◌+◌, ◌≤◌, ℕ, false, List, [], ◌∷◌, map, length, IsTrue, codes}
use Rattle.pg_base.specs.Limits.{most_fields}
use Rattle.pg_base.specs.Lists.{Each, AreDistinct}
use Rattle.pg_base.specs.Schema.{fields_of}
use Rattle.pg_base.specs.declared.schema.TypeDef.{TypeDef}
use Rattle.pg_base.specs.declared.schema.TypeKind.{TypeKind}
use Rattle.pg_base.specs.declared.schema.TypeKind.TheVariants as kind
use Rattle.pg_base.specs.SchemaFaults.{is_name, is_empty}

-- the names of a type's fields, input fields or cases
abbrev pub part_names : TypeKind → List (List ℕ)
part_names kind.Scalar = []
part_names (kind.Object fields) = map (λ f. f.name) fields
part_names (kind.Enum cases) = cases
part_names (kind.Input args) = map (λ a. a.name) args

-- the names of the arguments of each of its fields
abbrev pub argument_names : TypeKind → List (List (List ℕ))
argument_names kind.Scalar = []
argument_names (kind.Object fields) = map (λ f. map (λ a. a.name) f.args) fields
argument_names (kind.Enum cases) = []
argument_names (kind.Input args) = []

-- a name of GraphQL
abbrev pub IsSchemaName : List ℕ → Type 0
IsSchemaName name = IsTrue (is_name name)

-- names of GraphQL, of which no two that stand in one type, or in one field's arguments, are equal
pub record IsNamed (t : TypeDef) : Type 0 where
  pub name : IsSchemaName t.name
  pub parts : Each IsSchemaName (part_names t.kind)
  pub arguments : Each (Each IsSchemaName) (argument_names t.kind)
  pub distinct_parts : AreDistinct (part_names t.kind)
  pub distinct_arguments : Each AreDistinct (argument_names t.kind)
  pub some : is_empty t.kind ≡ false

-- the fields of all object types together
abbrev pub field_count : List TypeDef → ℕ
field_count [] = 0
field_count (t ∷ types) = length (fields_of t.kind) + field_count types

-- the types' names, and those of the types that stand in no list
abbrev pub all_type_names : List TypeDef → List (List ℕ)
all_type_names types = codes "Boolean" ∷ codes "String" ∷ codes "Int" ∷ map (λ t. t.name) types

pub record AreNamed (types : List TypeDef) : Type 0 where
  pub distinct : AreDistinct (all_type_names types)
  pub each : Each IsNamed types
  pub few_fields : field_count types ≤ most_fields
