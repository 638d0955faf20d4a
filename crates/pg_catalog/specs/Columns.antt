-- The columns of a table as they stand in the catalog: what literal is a cell of what kind.
use Rattle.std.specs.Prelude.{ℕ, ℤ, pos, neg_ℤ, int_le, ◌-◌, ◌^◌, Bool, true, false, ◌&&◌, nat_le, nat_lt, List, length, Option, None, Some, is_some, if◌then◌else◌, slice_get, option_and_then, option_map}
use Rattle.std.specs.Str.{chars}
use Rattle.pg_base.specs.Limits.{most_text_bytes}
use Rattle.pg_base.specs.Tags.{no_tags}
use Rattle.pg_base.specs.declared.cell.Cell.{Cell}
use Rattle.pg_base.specs.declared.cell.Cell.TheVariants as cell
use Rattle.pg_base.specs.declared.kind.Kind.{Kind}
use Rattle.pg_base.specs.declared.kind.Kind.TheVariants as kind
use Rattle.pg_base.specs.declared.enum_def.EnumDef.{EnumDef}
use Rattle.pg_base.specs.declared.table_def.ColumnDef.{ColumnDef}
use Rattle.pg_catalog.specs.declared.part.ColumnPart.{ColumnPart}
use Rattle.pg_catalog.specs.declared.part.Literal.{Literal}
use Rattle.pg_catalog.specs.declared.part.Literal.TheVariants as literal
use Rattle.pg_catalog.specs.Names.{place_of}

-- a text that a row may hold, of at most this many characters
abbrev pub is_text : ℕ → List ℕ → Bool
is_text most t = nat_le (length t) most_text_bytes && nat_le (length (chars t)) most

-- a string of at most this many characters, in a text column
abbrev pub text_cell : ℕ → Literal → Option Cell
text_cell most literal.Null = None
text_cell most (literal.Int n) = None
text_cell most literal.LongInt = None
text_cell most (literal.Bool b) = None
text_cell most (literal.Text t) = if is_text most t then Some (cell.Text t) else None

-- a number from the one to the other
abbrev pub is_between : ℤ → ℤ → ℤ → Bool
is_between low high n = int_le low n && int_le n high

abbrev pub int_cell : ℤ → ℤ → Literal → Option Cell
int_cell low high literal.Null = None
int_cell low high (literal.Int n) = if is_between low high n then Some (cell.Int n) else None
int_cell low high literal.LongInt = None
int_cell low high (literal.Bool b) = None
int_cell low high (literal.Text t) = None

abbrev pub bool_cell : Literal → Option Cell
bool_cell literal.Null = None
bool_cell (literal.Int n) = None
bool_cell literal.LongInt = None
bool_cell (literal.Bool b) = Some (cell.Bool b)
bool_cell (literal.Text t) = None

-- a string that is a label of the enum
abbrev pub case_cell : EnumDef → Literal → Option Cell
case_cell e literal.Null = None
case_cell e (literal.Int n) = None
case_cell e literal.LongInt = None
case_cell e (literal.Bool b) = None
case_cell e (literal.Text t) = option_map (λ place. cell.EnumCase place) (place_of e.cases t)

-- the same of the enum at the place
abbrev pub enum_cell : List EnumDef → ℕ → Literal → Option Cell
enum_cell enums place l = option_and_then (λ e. case_cell e l) (slice_get enums place)

-- the cell that the literal is in a column of the kind, beside these enums
abbrev pub cell_of : List EnumDef → Kind → Literal → Option Cell
cell_of enums kind.Text l = text_cell most_text_bytes l
cell_of enums (kind.Varchar n) l = text_cell n l
cell_of enums kind.Int l = int_cell (neg_ℤ (pos (2 ^ 31))) (pos (2 ^ 31 - 1)) l
cell_of enums kind.BigInt l = int_cell (neg_ℤ (pos (2 ^ 63))) (pos (2 ^ 63 - 1)) l
cell_of enums kind.Bool l = bool_cell l
cell_of enums (kind.Enum place) l = enum_cell enums place l

-- the literal is NULL, or a cell of the kind
abbrev pub is_default : List EnumDef → Kind → Literal → Bool
is_default enums k literal.Null = true
is_default enums k (literal.Int n) = is_some (cell_of enums k (literal.Int n))
is_default enums k literal.LongInt = is_some (cell_of enums k literal.LongInt)
is_default enums k (literal.Bool b) = is_some (cell_of enums k (literal.Bool b))
is_default enums k (literal.Text t) = is_some (cell_of enums k (literal.Text t))

-- without a DEFAULT, as with one that is of the kind
abbrev pub has_default_of_kind : List EnumDef → Kind → Option Literal → Bool
has_default_of_kind enums k None = true
has_default_of_kind enums k (Some l) = is_default enums k l

-- a kind that stands: a length from 1 to the most, an enum so far
abbrev pub is_kind : List EnumDef → Kind → Bool
is_kind enums kind.Text = true
is_kind enums (kind.Varchar n) = nat_le 1 n && nat_le n most_text_bytes
is_kind enums kind.Int = true
is_kind enums kind.BigInt = true
is_kind enums kind.Bool = true
is_kind enums (kind.Enum place) = nat_lt place (length enums)

-- a kind in which an identity counts
abbrev pub can_count : Kind → Bool
can_count kind.Text = false
can_count (kind.Varchar n) = false
can_count kind.Int = true
can_count kind.BigInt = true
can_count kind.Bool = false
can_count (kind.Enum place) = false

-- an identity counts only in integers
abbrev pub fits_identity : Kind → Bool → Bool
fits_identity k true = can_count k
fits_identity k false = true

-- its kind stands, and its DEFAULT and its identity are of it
abbrev pub is_sound : List EnumDef → ColumnPart → Bool
is_sound enums column =
    is_kind enums column.kind && fits_identity column.kind column.identity
    && has_default_of_kind enums column.kind column.default

-- the cell of a DEFAULT; NULL is none
abbrev pub default_of : List EnumDef → Kind → Option Literal → Option Cell
default_of enums k default = option_and_then (cell_of enums k) default

-- the column as it stands in a new table
abbrev pub column_of : List EnumDef → ColumnPart → ColumnDef
column_of enums column = record {
  name = column.name;
  kind = column.kind;
  not_null = column.not_null;
  default = default_of enums column.kind column.default;
  identity = column.identity;
  tags = no_tags;
}
