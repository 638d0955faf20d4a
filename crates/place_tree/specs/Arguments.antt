-- The arguments of a place: their values, the order, condition and window that they make, and the first error in them.
use Rattle.std.specs.Prelude.{ℕ, ◌+◌, ℤ, pos, negsuc, Bool, true, false, ◌==◌, ◌&&◌, ◌||◌, not, if◌then◌else◌, List, [], ◌∷◌, ◌++◌, Option, Some, None, slice_get, unwrap_or, filter_map, codes}
use Rattle.std.specs.Option.{option_and_then}
use Rattle.std.specs.Str.{bytes_eq}
use Rattle.std.specs.Cmp.Lexicographic.{pointwise}
use Rattle.pg_base.specs.Catalog.{CatalogParts}
use Rattle.pg_base.specs.declared.cell.Cell.{Cell}
use Rattle.pg_base.specs.declared.cell.Cell.TheVariants as cell
use Rattle.pg_base.specs.declared.cell.Mark.{Mark}
use Rattle.pg_base.specs.declared.table_def.ColumnDef.{ColumnDef}
use Rattle.rel_model.specs.declared.window.By.{By}
use Rattle.rel_model.specs.declared.window.Equal.{Equal}
use Rattle.rel_model.specs.declared.window.Window.{Window}
use Rattle.pg_base.specs.declared.value.Value.{Value, List', Object', Row_of-Value, end_of-Value, more_of-Value, Row_of-Member, end_of-Member, more_of-Member}
use Rattle.pg_base.specs.declared.value.Value.TheVariants as value
use Rattle.pg_base.specs.declared.value.Member.{Member}
use Rattle.gql_input.specs.declared.argument.ArgValue.{ArgValue}
use Rattle.pg_base.specs.declared.vars.Vars.{Vars}
use Rattle.pg_base.specs.declared.schema.TypeRef.{TypeRef}
use Rattle.pg_base.specs.declared.schema.ArgDef.{ArgDef}
use Rattle.pg_base.specs.Schema.{SchemaParts}
use Rattle.gql_input.specs.Arguments.{value_with}
use Rattle.pg_base.specs.Value.{items_of, members_of, is_null}
use Rattle.pg_base.specs.Schema.{kind_at, inputs_of, cases_of}
use Rattle.place_tree.specs.declared.place.PlaceArg.{PlaceArg}
use Rattle.place_tree.specs.declared.place.Place.{Place}
use Rattle.pg_base.specs.Behaviors.{columns_with, ordering, filtering}
use Rattle.place_tree.specs.Fields.{place_named, arg_names, by_case}
use Rattle.cursor_text.specs.declared.cursor.Cursor.{Cursor}
use Rattle.cursor_text.specs.Reading.{cursor_at}
use Rattle.place_tree.specs.Cursors.{mark_of_cursor}

-- what is written for an argument
abbrev pub written : List PlaceArg → ℕ → Option ArgValue
written [] arg = None
written (a ∷ args) arg = if a.arg == arg then Some a.value else written args arg

-- what is given for it (6.4.1), or none
abbrev pub argument : Vars → Place → ℕ → Option Value
argument vars p arg = option_and_then (value_with vars) (written p.args arg)

-- whether an argument is given and isn't null
abbrev pub is_given : Option Value → Bool
is_given None = false
is_given (Some v) = not (is_null v)

-- the places of a connection's arguments
abbrev pub first : ℕ
first = 0

abbrev pub last : ℕ
last = 1

abbrev pub offset : ℕ
offset = 2

abbrev pub before : ℕ
before = 3

abbrev pub after : ℕ
after = 4

abbrev pub order_by : ℕ
order_by = 5

abbrev pub condition : ℕ
condition = 6

-- ---- numbers and texts: what an argument is, where it is one

abbrev pub natural_of : ℤ → Option ℕ
natural_of (pos n) = Some n
natural_of (negsuc n) = None

abbrev pub value_number : Value → Option ℕ
value_number (value.Int n) = natural_of n
value_number _ = None

-- a number from 0
abbrev pub number_of : Option Value → Option ℕ
number_of None = None
number_of (Some v) = value_number v

abbrev pub is_below_zero : ℤ → Bool
is_below_zero (pos n) = false
is_below_zero (negsuc n) = true

abbrev pub is_negative_value : Value → Bool
is_negative_value (value.Int n) = is_below_zero n
is_negative_value _ = false

abbrev pub is_negative : Option Value → Bool
is_negative None = false
is_negative (Some v) = is_negative_value v

abbrev pub value_text : Value → Option (List ℕ)
value_text (value.Text t) = Some t
value_text _ = None

abbrev pub text_of : Option Value → Option (List ℕ)
text_of None = None
text_of (Some v) = value_text v

-- ---- cells

-- the cell that a value is, at a position of this type
abbrev pub cell_of : SchemaParts → TypeRef → Value → Cell
cell_of schema ty value.Null = cell.Null
cell_of schema ty (value.Int n) = cell.Int n
cell_of schema ty (value.Bool b) = cell.Bool b
cell_of schema ty (value.Text t) = cell.Text t
cell_of schema ty (value.Case c) = cell.EnumCase (unwrap_or (place_named (cases_of (kind_at schema ty.name)) c) 0)
cell_of schema ty (List' _ items) = cell.Null
cell_of schema ty (Object' _ members) = cell.Null

abbrev pub cell_or_null : SchemaParts → TypeRef → Option Value → Cell
cell_or_null schema ty None = cell.Null
cell_or_null schema ty (Some v) = cell_of schema ty v

-- ---- the order

-- the case that a value is, where it is one
abbrev pub case_name : Value → Option (List ℕ)
case_name (value.Case c) = Some c
case_name _ = None

-- NATURAL adds nothing to an order
abbrev pub but_natural : Option (List ℕ) → Option (List ℕ)
but_natural None = None
but_natural (Some name) = if bytes_eq name (codes "NATURAL") then None else Some name

abbrev pub named_case : Value → Option (List ℕ)
named_case v = but_natural (case_name v)

abbrev pub items_or_none : Option Value → List Value
items_or_none None = []
items_or_none (Some v) = items_of v

-- the names of an order, in their order; none where it is absent or null
abbrev pub order_names : Option Value → List (List ℕ)
order_names given = filter_map named_case (items_or_none given)

-- what a name stands for, over the cases of the order's type and the columns that rows can be ordered by
abbrev pub by_place : List ℕ → Option ℕ → Option By
by_place columns None = None
by_place columns (Some case) = by_case columns case

abbrev pub by_name : List (List ℕ) → List ℕ → List ℕ → Option By
by_name cases columns name = by_place columns (place_named cases name)

-- what the names stand for, over the columns of the order's table
abbrev pub order_of : List (List ℕ) → List ColumnDef → List (List ℕ) → List By
order_of cases columns names = filter_map (by_name cases (columns_with ordering 0 columns)) names

-- ---- the condition

abbrev pub equal_at : Option ℕ → Option ArgDef → SchemaParts → Value → Option Equal
equal_at None input schema v = None
equal_at (Some column) None schema v = None
equal_at (Some column) (Some a) schema v = Some (record { column = column; cell = cell_of schema a.ty v })

abbrev pub equal_from : SchemaParts → List ArgDef → List ℕ → Option ℕ → Value → Option Equal
equal_from schema inputs columns None v = None
equal_from schema inputs columns (Some place) v = equal_at (slice_get columns place) (slice_get inputs place) schema v

-- A given field is an equality: the field's place in the input type is that of its column among those that rows can be
-- filtered by.
abbrev pub equal_of : SchemaParts → List ArgDef → List ℕ → Member → Option Equal
equal_of schema inputs columns m = equal_from schema inputs columns (place_named (arg_names inputs) m.name) m.value

abbrev pub members_or_none : Option Value → List Member
members_or_none None = []
members_or_none (Some v) = members_of v

abbrev pub condition_of : SchemaParts → List ArgDef → List ColumnDef → Option Value → List Equal
condition_of schema inputs columns given =
    filter_map (equal_of schema inputs (columns_with filtering 0 columns)) (members_or_none given)

-- ---- the window

abbrev pub mark_read : CatalogParts → List ColumnDef → List By → Option Cursor → Option Mark
mark_read catalog columns order None = None
mark_read catalog columns order (Some c) = mark_of_cursor catalog.enums columns order c

abbrev pub mark_in : CatalogParts → List ColumnDef → List By → Option (List ℕ) → Option Mark
mark_in catalog columns order None = None
mark_in catalog columns order (Some t) = mark_read catalog columns order (cursor_at t)

-- the mark that an argument's cursor names
abbrev pub mark_given : CatalogParts → List ColumnDef → List By → Option Value → Option Mark
mark_given catalog columns order given = mark_in catalog columns order (text_of given)

abbrev pub window_of : CatalogParts → List ColumnDef → List By → Vars → Place → Window
window_of catalog columns order vars p = record {
  first = number_of (argument vars p first);
  last = number_of (argument vars p last);
  offset = unwrap_or (number_of (argument vars p offset)) 0;
  before = mark_given catalog columns order (argument vars p before);
  after = mark_given catalog columns order (argument vars p after);
}

-- whether a part of the list is asked for
abbrev pub is_windowed : Vars → Place → Bool
is_windowed vars p =
    is_given (argument vars p first) || is_given (argument vars p last) || is_given (argument vars p offset)
    || is_given (argument vars p before) || is_given (argument vars p after)

-- ---- nulls at non-null positions

abbrev pub item_type : TypeRef → TypeRef
item_type ty = record { name = ty.name; list = false; item_not_null = false; not_null = ty.item_not_null }

-- a type that takes nulls
abbrev pub nullable : TypeRef
nullable = record { name = 0; list = false; item_not_null = false; not_null = false }

abbrev pub type_in : List ArgDef → List ℕ → TypeRef
type_in [] name = nullable
type_in (a ∷ args) name = if bytes_eq a.name name then a.ty else type_in args name

abbrev mutual
  -- a null at a non-null position of a value of the type
  pub has_null : SchemaParts → TypeRef → Value → Bool
  has_null schema ty value.Null = ty.not_null
  has_null schema ty (value.Int n) = false
  has_null schema ty (value.Bool b) = false
  has_null schema ty (value.Text t) = false
  has_null schema ty (value.Case c) = false
  has_null schema ty (List' _ items) = item_has_null schema (item_type ty) items
  has_null schema ty (Object' _ members) = member_has_null schema (inputs_of (kind_at schema ty.name)) members

  pub item_has_null : {n : _} → SchemaParts → TypeRef → Row_of-Value n → Bool
  item_has_null schema ty end_of-Value = false
  item_has_null schema ty (more_of-Value v rest) = has_null schema ty v || item_has_null schema ty rest

  pub member_has_null : {n : _} → SchemaParts → List ArgDef → Row_of-Member n → Bool
  member_has_null schema inputs end_of-Member = false
  member_has_null schema inputs (more_of-Member name v rest) =
      has_null schema (type_in inputs name) v || member_has_null schema inputs rest

abbrev pub given_null : SchemaParts → TypeRef → Option Value → Bool
given_null schema ty None = false
given_null schema ty (Some v) = has_null schema ty v

-- ---- errors

abbrev pub or_else : Option (List ℕ) → Option (List ℕ) → Option (List ℕ)
or_else None other = other
or_else (Some e) other = Some e

abbrev pub error_if : Bool → List ℕ → Option (List ℕ)
error_if true e = Some e
error_if false e = None

-- the first argument, from a place on, that has a null at a non-null position
abbrev pub null_error : SchemaParts → Vars → Place → ℕ → List ArgDef → Option (List ℕ)
null_error schema vars p arg [] = None
null_error schema vars p arg (a ∷ args) =
    or_else (error_if (given_null schema a.ty (argument vars p arg)) (codes "null for argument " ++ a.name))
    (null_error schema vars p (arg + 1) args)

abbrev pub same_names : List (List ℕ) → List (List ℕ) → Bool
same_names xs ys = pointwise bytes_eq xs ys

abbrev pub mark_error : Option Mark → Option (List ℕ)
mark_error None = Some (codes "bad cursor")
mark_error (Some m) = None

abbrev pub read_error : CatalogParts → List ColumnDef → List (List ℕ) → List By → Option Cursor → Option (List ℕ)
read_error catalog columns names order None = Some (codes "bad cursor")
read_error catalog columns names order (Some c) =
    if same_names c.order names then mark_error (mark_of_cursor catalog.enums columns order c)
    else Some (codes "cursor of another order")

abbrev pub cursor_error :
    CatalogParts → List ColumnDef → List (List ℕ) → List By → Option (List ℕ) → Option (List ℕ)
cursor_error catalog columns names order None = None
cursor_error catalog columns names order (Some t) = read_error catalog columns names order (cursor_at t)

-- of how many rows are asked for
abbrev pub count_error : Option Value → Option Value → Option Value → Option (List ℕ)
count_error first_given last_given offset_given =
    or_else (error_if (is_negative first_given) (codes "first is negative"))
    (or_else (error_if (is_negative last_given) (codes "last is negative"))
    (or_else (error_if (is_negative offset_given) (codes "offset is negative"))
    (or_else (error_if (is_given first_given && is_given last_given) (codes "first with last"))
    (error_if (is_given offset_given && is_given last_given) (codes "offset with last")))))

-- the first error of a window's arguments
abbrev pub window_error : CatalogParts → List ColumnDef → List (List ℕ) → List By → Vars → Place → Option (List ℕ)
window_error catalog columns names order vars p =
    or_else (count_error (argument vars p first) (argument vars p last) (argument vars p offset))
    (or_else (cursor_error catalog columns names order (text_of (argument vars p after)))
    (cursor_error catalog columns names order (text_of (argument vars p before))))
