-- The text of a schema in GraphQL's language for type systems (October 2021, section 3).
use Rattle.std.specs.Prelude.{ℕ, Bool, ◌==◌, if◌then◌else◌, List, [], ◌∷◌, ◌++◌, Option, Some, None, flat_map, codes}
use Rattle.json_out.specs.JsonText.{json_text}
use Rattle.pg_base.specs.Schema.{SchemaParts, int, string, boolean, type_name_at}
use Rattle.pg_base.specs.declared.schema.TypeRef.{TypeRef}
use Rattle.pg_base.specs.declared.schema.ArgDef.{ArgDef}
use Rattle.pg_base.specs.declared.schema.FieldDef.{FieldDef}
use Rattle.pg_base.specs.declared.schema.TypeKind.{TypeKind}
use Rattle.pg_base.specs.declared.schema.TypeKind.TheVariants as kind
use Rattle.pg_base.specs.declared.schema.TypeDef.{TypeDef}

-- ---- types where they are used (section 3.4.1)

abbrev pub type_name : SchemaParts → ℕ → List ℕ
type_name schema ty =
    if ty == int then codes "Int" else
    (if ty == string then codes "String" else
    (if ty == boolean then codes "Boolean" else type_name_at schema ty))

-- what takes no null
abbrev pub bang : Bool → List ℕ
bang not_null = if not_null then codes "!" else []

abbrev pub list_or_one : SchemaParts → TypeRef → List ℕ
list_or_one schema ty =
    if ty.list then codes "[" ++ type_name schema ty.name ++ bang ty.item_not_null ++ codes "]"
    else type_name schema ty.name

abbrev pub type_text : SchemaParts → TypeRef → List ℕ
type_text schema ty = list_or_one schema ty ++ bang ty.not_null

-- ---- arguments (section 3.6.1)

abbrev pub argument : SchemaParts → ArgDef → List ℕ
argument schema a = a.name ++ codes ": " ++ type_text schema a.ty

abbrev pub arguments : SchemaParts → List ArgDef → List ℕ
arguments schema [] = []
arguments schema (a ∷ args) =
    codes "(" ++ argument schema a ++ flat_map (λ other. codes ", " ++ argument schema other) args ++ codes ")"

-- ---- lines of a type

-- the reason is a text with JSON's escapes, which are GraphQL's too (section 3.13.3)
abbrev pub deprecation : Option (List ℕ) → List ℕ
deprecation None = []
deprecation (Some reason) = codes " @deprecated(reason: " ++ json_text reason ++ codes ")"

abbrev pub field_line : SchemaParts → FieldDef → List ℕ
field_line schema f =
    codes "  " ++ f.name ++ arguments schema f.args ++ codes ": " ++ type_text schema f.ty
    ++ deprecation f.deprecated ++ codes "\n"

abbrev pub input_line : SchemaParts → ArgDef → List ℕ
input_line schema a = codes "  " ++ argument schema a ++ codes "\n"

abbrev pub case_line : List ℕ → List ℕ
case_line c = codes "  " ++ c ++ codes "\n"

-- ---- types (sections 3.5, 3.6, 3.9, 3.10)

abbrev pub opening : List ℕ → List ℕ → List ℕ
opening word name = word ++ codes " " ++ name ++ codes " {\n"

abbrev pub braced : List ℕ → List ℕ → List ℕ → List ℕ
braced word name lines = opening word name ++ lines ++ codes "}\n"

abbrev pub kind_definition : SchemaParts → List ℕ → TypeKind → List ℕ
kind_definition schema name kind.Scalar = codes "scalar " ++ name ++ codes "\n"
kind_definition schema name (kind.Object fields) = braced (codes "type") name (flat_map (field_line schema) fields)
kind_definition schema name (kind.Enum cases) = braced (codes "enum") name (flat_map case_line cases)
kind_definition schema name (kind.Input args) = braced (codes "input") name (flat_map (input_line schema) args)

abbrev pub definition : SchemaParts → TypeDef → List ℕ
definition schema t = kind_definition schema t.name t.kind

-- the types in their order, with an empty line between two
abbrev pub definitions : SchemaParts → List TypeDef → List ℕ
definitions schema [] = []
definitions schema (t ∷ types) =
    definition schema t ++ flat_map (λ other. codes "\n" ++ definition schema other) types

unfoldable pub sdl_of : SchemaParts → List ℕ
sdl_of schema = definitions schema schema.types
