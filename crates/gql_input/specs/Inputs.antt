-- What is read where a type of the schema is expected (section 3.4.2 of the GraphQL specification, October 2021).
use Rattle.std.specs.Prelude.{ℕ, ◌==◌, Bool, true, false, if◌then◌else◌, List, codes}
use Rattle.std.specs.Str.{bytes_eq}
use Rattle.pg_base.specs.declared.schema.ArgDef.{ArgDef}
use Rattle.pg_base.specs.declared.schema.TypeKind.{TypeKind}
use Rattle.pg_base.specs.declared.schema.TypeKind.TheVariants as kind
use Rattle.pg_base.specs.Schema.{SchemaParts, kind_at, type_name_at, int as int_type, string as string_type}
use Rattle.pg_base.specs.Schema.{boolean as boolean_type}
use Rattle.gql_input.specs.declared.input.Input.{Input}
use Rattle.gql_input.specs.declared.input.Input.TheVariants as code

-- an integer of 32 or of 64 bits, a text, true or false, a case of an enum, the fields of an object; nothing is read
-- where an object type is expected
pub data Reads : Type 0 where
  int : Reads
  big_int : Reads
  text : Reads
  boolean : Reads
  cases : List (List ℕ) → Reads
  fields : List ArgDef → Reads
  nothing : Reads

-- the scalars that stand among the schema's types: BigInt, and Cursor, which is read as a text
abbrev pub scalar_named : List ℕ → Reads
scalar_named name =
    if bytes_eq name (codes "BigInt") then big_int else (if bytes_eq name (codes "Cursor") then text else nothing)

abbrev pub reads_of : TypeKind → List ℕ → Reads
reads_of kind.Scalar name = scalar_named name
reads_of (kind.Object of) name = nothing
reads_of (kind.Enum names) name = cases names
reads_of (kind.Input args) name = fields args

abbrev pub reads_at : SchemaParts → ℕ → Reads
reads_at schema ty =
    if ty == int_type then int
    else (if ty == string_type then text
    else (if ty == boolean_type then boolean
    else reads_of (kind_at schema ty) (type_name_at schema ty)))

abbrev pub has_fields : Reads → Bool
has_fields int = false
has_fields big_int = false
has_fields text = false
has_fields boolean = false
has_fields (cases names) = false
has_fields (fields args) = true
has_fields nothing = false

-- the same, as the code holds it
abbrev pub reads : Input → Reads
reads code.Int = int
reads code.BigInt = big_int
reads code.Text = text
reads code.Boolean = boolean
reads (code.Enum names) = cases names.now
reads (code.Object args) = fields args.now
reads code.Nothing = nothing
