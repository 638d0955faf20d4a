-- Why a catalog has no schema: the faults of its names, and what its types have too much or too little of.
use Rattle.std.specs.Prelude.{ℕ, ◌+◌, suc, Bool, false, not, ◌&&◌, ◌||◌, ◌==◌, nat_lt}
use Rattle.std.specs.Prelude.{List, [], ◌∷◌, ◌++◌, Option, Some, None, map, filter, flat_map, length, slice_get, codes}
use Rattle.std.specs.List.{list_all}
use Rattle.std.specs.Char.{is_ascii_alphabetic}
use Rattle.std.specs.Str.{bytes_eq}
use Rattle.name_rules.specs.Parts.{is_underscore}
use Rattle.name_rules.specs.Names.{is_name_character}
use Rattle.pg_base.specs.Limits.{most_fields}
use Rattle.pg_base.specs.Catalog.{CatalogParts}
use Rattle.pg_base.specs.Schema.{fields_of}
use Rattle.pg_base.specs.declared.schema.ArgDef.{ArgDef}
use Rattle.pg_base.specs.declared.schema.FieldDef.{FieldDef}
use Rattle.pg_base.specs.declared.schema.TypeKind.{TypeKind}
use Rattle.pg_base.specs.declared.schema.TypeKind.TheVariants as kind
use Rattle.pg_base.specs.declared.schema.TypeDef.{TypeDef}
use Rattle.pg_base.specs.declared.build_fault.Origin.{Origin}
use Rattle.pg_base.specs.declared.build_fault.Origin.TheVariants as origin
use Rattle.pg_base.specs.declared.build_fault.BuildFault.{BuildFault}
use Rattle.pg_base.specs.declared.build_fault.BuildFault.TheVariants as fault
use Rattle.pg_base.specs.Listing.{when, map_at}
use Rattle.pg_base.specs.SchemaOf.{schema_of}

-- ---- names

-- a name of GraphQL (October 2021, section 2.1.9) that introspection doesn't keep for itself (section 4.1)
abbrev pub is_name : List ℕ → Bool
is_name [] = false
is_name (c ∷ []) = is_ascii_alphabetic c || is_underscore c
is_name (c ∷ d ∷ cs) =
    ((is_ascii_alphabetic c || is_underscore c) && not (is_underscore c && is_underscore d))
    && list_all is_name_character (d ∷ cs)

-- a name, and where it stands
pub record Named : Type 0 where
  pub name : List ℕ
  pub origin : Origin

abbrev pub named : List ℕ → Origin → Named
named name place = record { name = name; origin = place }

abbrev pub not_names : List Named → List BuildFault
not_names names = flat_map (λ n. when (not (is_name n.name)) (fault.NotAName n.name)) names

-- a name meets each earlier one that is equal
abbrev pub meetings : Option (List ℕ) → List Named → Named → List BuildFault
meetings owner earlier n =
    map (λ e. fault.NamesMeet owner n.name e.origin n.origin) (filter (λ e. bytes_eq e.name n.name) earlier)

abbrev pub all_meetings : Option (List ℕ) → List Named → List Named → List BuildFault
all_meetings owner earlier [] = []
all_meetings owner earlier (n ∷ names) = meetings owner earlier n ++ all_meetings owner (n ∷ earlier) names

-- ---- a type's fields, input fields or cases

-- one of them, with its arguments
pub record Part : Type 0 where
  pub own : Named
  pub args : List Named

abbrev pub part : Named → List Named → Part
part own args = record { own = own; args = args }

abbrev pub field_part : ℕ → ℕ → FieldDef → Part
field_part ty place f =
    part (named f.name (origin.Field ty place)) (map_at (λ i a. named a.name (origin.Argument ty place i)) 0 f.args)

abbrev pub parts_of : ℕ → TypeKind → List Part
parts_of ty kind.Scalar = []
parts_of ty (kind.Object fields) = map_at (field_part ty) 0 fields
parts_of ty (kind.Enum cases) = map_at (λ i c. part (named c (origin.Field ty i)) []) 0 cases
parts_of ty (kind.Input args) = map_at (λ i a. part (named a.name (origin.Field ty i)) []) 0 args

-- their names, each before those of its arguments
abbrev pub names_of_parts : List Part → List Named
names_of_parts parts = flat_map (λ p. p.own ∷ p.args) parts

-- where the names of parts meet, and after each part where those of its own arguments do
abbrev pub part_meetings : Option (List ℕ) → List Named → List Part → List BuildFault
part_meetings owner earlier [] = []
part_meetings owner earlier (p ∷ parts) =
    meetings owner earlier p.own ++ all_meetings owner [] p.args ++ part_meetings owner (p.own ∷ earlier) parts

abbrev pub is_empty : TypeKind → Bool
is_empty kind.Scalar = false
is_empty (kind.Object fields) = length fields == 0
is_empty (kind.Enum cases) = length cases == 0
is_empty (kind.Input args) = length args == 0

-- ---- the faults in the order in which they are looked for

-- the faults of the type at a place, after these types, where objects have so far this number of fields with its own
abbrev pub type_faults : List Named → ℕ → ℕ → TypeDef → List BuildFault
type_faults earlier ty fields t =
    when (nat_lt most_fields fields) fault.TooManyFields
    ++ not_names (named t.name (origin.Type ty) ∷ [])
    ++ when (is_empty t.kind) (fault.NoFields t.name)
    ++ not_names (names_of_parts (parts_of ty t.kind))
    ++ meetings None earlier (named t.name (origin.Type ty))
    ++ part_meetings (Some t.name) [] (parts_of ty t.kind)

-- type by type, from a place and a number of fields on
abbrev pub faults_from : List Named → ℕ → ℕ → List TypeDef → List BuildFault
faults_from earlier ty fields [] = []
faults_from earlier ty fields (t ∷ types) =
    type_faults earlier ty (fields + length (fields_of t.kind)) t
    ++ faults_from (named t.name (origin.Type ty) ∷ earlier) (suc ty) (fields + length (fields_of t.kind)) types

-- the names of the types that stand in no list
abbrev pub built_in_names : List Named
built_in_names =
    map (λ name. named name origin.BuiltIn) (codes "Int" ∷ codes "String" ∷ codes "Boolean" ∷ [])

abbrev pub faults_of : List TypeDef → List BuildFault
faults_of types = faults_from built_in_names 0 0 types

-- the first fault that is found, where there is one
unfoldable pub build_fault : CatalogParts → Option BuildFault
build_fault catalog = slice_get (faults_of (schema_of catalog).types) 0
