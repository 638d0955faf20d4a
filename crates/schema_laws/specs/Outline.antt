-- A schema in short, a line for each type, so that examples can be read: `type T { id: Int! }`.
use Rattle.std.specs.Prelude.{ℕ, ◌==◌, if◌then◌else◌, List, [], ◌∷◌, ◌++◌, Option, Some, None, map, flat_map}
use Rattle.std.specs.Prelude.{codes}
use Rattle.pg_base.specs.Schema.{SchemaParts, int, string, boolean, type_name_at}
use Rattle.pg_base.specs.declared.schema.TypeRef.{TypeRef}
use Rattle.pg_base.specs.declared.schema.ArgDef.{ArgDef}
use Rattle.pg_base.specs.declared.schema.FieldDef.{FieldDef}
use Rattle.pg_base.specs.declared.schema.TypeKind.{TypeKind}
use Rattle.pg_base.specs.declared.schema.TypeKind.TheVariants as kind
use Rattle.pg_base.specs.Listing.{all_when}

abbrev pub type_name : SchemaParts → ℕ → List ℕ
type_name schema ty =
    if ty == int then codes "Int" else
    (if ty == string then codes "String" else
    (if ty == boolean then codes "Boolean" else type_name_at schema ty))

abbrev pub item_text : SchemaParts → TypeRef → List ℕ
item_text schema r = type_name schema r.name ++ all_when r.item_not_null (codes "!")

abbrev pub ref_text : SchemaParts → TypeRef → List ℕ
ref_text schema r =
    (if r.list then codes "[" ++ item_text schema r ++ codes "]" else type_name schema r.name)
    ++ all_when r.not_null (codes "!")

abbrev pub arg_text : SchemaParts → ArgDef → List ℕ
arg_text schema a = a.name ++ codes ": " ++ ref_text schema a.ty

abbrev pub args_text : SchemaParts → List ArgDef → List ℕ
args_text schema [] = []
args_text schema (a ∷ args) =
    codes "(" ++ arg_text schema a ++ flat_map (λ b. codes ", " ++ arg_text schema b) args ++ codes ")"

abbrev pub reason_text : Option (List ℕ) → List ℕ
reason_text None = []
reason_text (Some reason) = codes " @deprecated(" ++ reason ++ codes ")"

abbrev pub field_text : SchemaParts → FieldDef → List ℕ
field_text schema f =
    f.name ++ args_text schema f.args ++ codes ": " ++ ref_text schema f.ty ++ reason_text f.deprecated

-- the word, the name, and each part after a space
abbrev pub block_text : List ℕ → List ℕ → List (List ℕ) → List ℕ
block_text word name parts = word ++ codes " " ++ name ++ codes " {" ++ flat_map (λ p. codes " " ++ p) parts
    ++ codes " }"

abbrev pub kind_text : SchemaParts → List ℕ → TypeKind → List ℕ
kind_text schema name kind.Scalar = codes "scalar " ++ name
kind_text schema name (kind.Object fields) = block_text (codes "type") name (map (field_text schema) fields)
kind_text schema name (kind.Enum cases) = block_text (codes "enum") name cases
kind_text schema name (kind.Input args) = block_text (codes "input") name (map (arg_text schema) args)

abbrev pub outline : SchemaParts → List (List ℕ)
outline schema = map (λ t. kind_text schema t.name t.kind) schema.types
