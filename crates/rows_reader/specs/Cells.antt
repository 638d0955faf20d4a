-- Which values a column takes, and the cells that they become.
use Rattle.std.specs.Prelude.{ℕ, ℤ, pos, neg_ℤ, int_le, int_lt, ◌+ℤ◌, ◌-◌, ◌^◌, Bool, true, false, not, ◌&&◌, ◌||◌, nat_lt, List, length, Option, None, Some, is_some, unwrap_or, if◌then◌else◌, position, slice_get, option_and_then, option_map}
use Rattle.std.specs.List.{list_all}
use Rattle.std.specs.Char.{digit_value}
use Rattle.std.specs.Str.{chars, bytes_eq}
use Rattle.std.specs.Str.Parse.{signed_digits_value, without_leading_sign}
use Rattle.pg_base.specs.Limits.{most_text_bytes}
use Rattle.pg_base.specs.declared.cell.Cell.{Cell}
use Rattle.pg_base.specs.declared.cell.Cell.TheVariants as cell
use Rattle.pg_base.specs.declared.kind.Kind.{Kind}
use Rattle.pg_base.specs.declared.kind.Kind.TheVariants as kind
use Rattle.pg_base.specs.declared.enum_def.EnumDef.{EnumDef}
use Rattle.pg_base.specs.declared.table_def.ColumnDef.{ColumnDef}
use Rattle.rel_model.specs.Tables.{greatest}
use Rattle.ddl_reader.specs.declared.script.Literal.{Literal}
use Rattle.ddl_reader.specs.declared.script.Literal.TheVariants as literal

-- ---- numbers

-- one digit or more, and nothing else
abbrev pub is_numeral : List ℕ → Bool
is_numeral digits = nat_lt 0 (length digits) && list_all (λ c. nat_lt (digit_value c) 10) digits

abbrev pub is_between : ℤ → ℤ → ℤ → Bool
is_between low high n = int_le low n && int_le n high

-- the number that a sign and digits write, where it lies between these
abbrev pub number_between : ℤ → ℤ → List ℕ → Option ℤ
number_between low high text =
    if is_numeral (without_leading_sign text) && is_between low high (signed_digits_value 10 text)
    then Some (signed_digits_value 10 text) else None

-- the number of 32 bits, and that of 64
abbrev pub int_number : List ℕ → Option ℤ
int_number text = number_between (neg_ℤ (pos (2 ^ 31))) (pos (2 ^ 31 - 1)) text

abbrev pub bigint_number : List ℕ → Option ℤ
bigint_number text = number_between (neg_ℤ (pos (2 ^ 63))) (pos (2 ^ 63 - 1)) text

-- ---- literals

abbrev pub is_int : Literal → Bool
is_int (literal.Number text) = is_some (int_number text)
is_int (literal.Str text) = false
is_int literal.True = false
is_int literal.False = false
is_int literal.Null = false
is_int literal.Default = false

abbrev pub is_bigint : Literal → Bool
is_bigint (literal.Number text) = is_some (bigint_number text)
is_bigint (literal.Str text) = false
is_bigint literal.True = false
is_bigint literal.False = false
is_bigint literal.Null = false
is_bigint literal.Default = false

abbrev pub is_string : Literal → Bool
is_string (literal.Number text) = false
is_string (literal.Str text) = true
is_string literal.True = false
is_string literal.False = false
is_string literal.Null = false
is_string literal.Default = false

abbrev pub is_truth : Literal → Bool
is_truth (literal.Number text) = false
is_truth (literal.Str text) = false
is_truth literal.True = true
is_truth literal.False = true
is_truth literal.Null = false
is_truth literal.Default = false

-- a number within the range of an integer column, a string for texts and enums, TRUE or FALSE for truth values
abbrev pub is_of_kind : Kind → Literal → Bool
is_of_kind kind.Text l = is_string l
is_of_kind (kind.Varchar n) l = is_string l
is_of_kind kind.Int l = is_int l
is_of_kind kind.BigInt l = is_bigint l
is_of_kind kind.Bool l = is_truth l
is_of_kind (kind.Enum place) l = is_string l

-- the identity has given its last value
abbrev pub is_spent : ColumnDef → ℤ → Bool
is_spent c counter = c.identity && int_le (pos (greatest c.kind)) counter

-- 1: a literal of another kind, or an omitted identity value past its end
unfoldable pub is_bad : ColumnDef → ℤ → Literal → Bool
is_bad c counter (literal.Number text) = not (is_of_kind c.kind (literal.Number text))
is_bad c counter (literal.Str text) = not (is_of_kind c.kind (literal.Str text))
is_bad c counter literal.True = not (is_of_kind c.kind literal.True)
is_bad c counter literal.False = not (is_of_kind c.kind literal.False)
is_bad c counter literal.Null = false
is_bad c counter literal.Default = is_spent c counter

-- the place of a label among those of an enum
abbrev pub case_of : List EnumDef → ℕ → List ℕ → Option ℕ
case_of enums place label = option_and_then (λ e. position (bytes_eq label) e.cases) (slice_get enums place)

abbrev pub lacks_case : List EnumDef → Kind → List ℕ → Bool
lacks_case enums kind.Text text = false
lacks_case enums (kind.Varchar n) text = false
lacks_case enums kind.Int text = false
lacks_case enums kind.BigInt text = false
lacks_case enums kind.Bool text = false
lacks_case enums (kind.Enum place) text = not (is_some (case_of enums place text))

-- 7: a string that is no case of the column's enum
unfoldable pub has_no_case : List EnumDef → ColumnDef → Literal → Bool
has_no_case enums c (literal.Number text) = false
has_no_case enums c (literal.Str text) = lacks_case enums c.kind text
has_no_case enums c literal.True = false
has_no_case enums c literal.False = false
has_no_case enums c literal.Null = false
has_no_case enums c literal.Default = false

-- more bytes than a text may have, or more characters than the column takes
abbrev pub passes_length : Kind → List ℕ → Bool
passes_length kind.Text text = nat_lt most_text_bytes (length text)
passes_length (kind.Varchar n) text = nat_lt most_text_bytes (length text) || nat_lt n (length (chars text))
passes_length kind.Int text = false
passes_length kind.BigInt text = false
passes_length kind.Bool text = false
passes_length (kind.Enum place) text = false

-- 8: a text that is too long for its column
unfoldable pub is_too_long : ColumnDef → Literal → Bool
is_too_long c (literal.Number text) = false
is_too_long c (literal.Str text) = passes_length c.kind text
is_too_long c literal.True = false
is_too_long c literal.False = false
is_too_long c literal.Null = false
is_too_long c literal.Default = false

-- ---- cells

abbrev pub cell_of_number : List ℕ → Cell
cell_of_number text = unwrap_or (option_map (λ n. cell.Int n) (bigint_number text)) cell.Null

abbrev pub cell_of_label : List EnumDef → ℕ → List ℕ → Cell
cell_of_label enums place label = unwrap_or (option_map (λ at. cell.EnumCase at) (case_of enums place label)) cell.Null

abbrev pub cell_of_string : List EnumDef → Kind → List ℕ → Cell
cell_of_string enums kind.Text text = cell.Text text
cell_of_string enums (kind.Varchar n) text = cell.Text text
cell_of_string enums kind.Int text = cell.Null
cell_of_string enums kind.BigInt text = cell.Null
cell_of_string enums kind.Bool text = cell.Null
cell_of_string enums (kind.Enum place) text = cell_of_label enums place text

-- the next identity value, else the column's default, else null
abbrev pub default_cell : ColumnDef → ℤ → Cell
default_cell c counter = if c.identity then cell.Int (counter +ℤ pos 1) else unwrap_or c.default cell.Null

-- the cell that a value becomes, where it is none of those above
unfoldable pub cell_of : List EnumDef → ColumnDef → ℤ → Literal → Cell
cell_of enums c counter (literal.Number text) = cell_of_number text
cell_of enums c counter (literal.Str text) = cell_of_string enums c.kind text
cell_of enums c counter literal.True = cell.Bool true
cell_of enums c counter literal.False = cell.Bool false
cell_of enums c counter literal.Null = cell.Null
cell_of enums c counter literal.Default = default_cell c counter

-- the last identity value of a column, moved up to a greater one
abbrev pub raised : Bool → ℤ → Cell → ℤ
raised true counter (cell.Int n) = if int_lt counter n then n else counter
raised true counter cell.Null = counter
raised true counter (cell.Bool b) = counter
raised true counter (cell.Text t) = counter
raised true counter (cell.EnumCase place) = counter
raised false counter value = counter
