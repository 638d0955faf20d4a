-- The slots of a fetch: what the arguments of a row field give, where that is known when it is planned, and else the
-- path of its variable.
use Rattle.std.specs.Prelude.{ℕ, ◌+◌, Bool, true, false, List, [], ◌∷◌, map, Option, Some, None, slice_get, unwrap_or, is_some, filter_map}
use Rattle.std.specs.List.{cons_option}
use Rattle.gql_input.specs.Arguments.{value_with}
use Rattle.gql_input.specs.declared.argument.ArgValue.{ArgValue, Variable, Null, Int, Bool as BoolOf, Text, Case, List', Object'}
use Rattle.gql_input.specs.declared.argument.ArgValue.{Row_of-ArgMember, end_of-ArgMember, more_of-ArgMember}
use Rattle.pg_base.specs.Behaviors.{columns_with, filtering}
use Rattle.pg_base.specs.Schema.{SchemaParts, kind_at, cases_of}
use Rattle.pg_base.specs.Vars.{variable}
use Rattle.pg_base.specs.declared.cell.Cell.{Cell}
use Rattle.pg_base.specs.declared.cell.Cell.TheVariants as cell
use Rattle.pg_base.specs.declared.schema.ArgDef.{ArgDef}
use Rattle.pg_base.specs.declared.schema.TypeRef.{TypeRef}
use Rattle.pg_base.specs.declared.table_def.ColumnDef.{ColumnDef}
use Rattle.pg_base.specs.declared.vars.Vars.{Vars}
use Rattle.place_tree.specs.Arguments.{written, is_given, members_or_none, first, last, offset, before, after}
use Rattle.place_tree.specs.Fields.{place_named, arg_names}
use Rattle.place_tree.specs.declared.place.Place.{Place}
use Rattle.plan_constraints.specs.Noted.{by_variable}
use Rattle.plan_constraints.specs.Path.{to_variable, to_field}
use Rattle.plan_steps.specs.declared.plan.Slot.{Slot}
use Rattle.plan_steps.specs.declared.plan.Slot.TheVariants as slot
use Rattle.plan_steps.specs.declared.plan.SlotEqual.{SlotEqual}
use Rattle.plan_steps.specs.declared.plan.SlotWindow.{SlotWindow}
use Rattle.step_plan.specs.declared.names.Compared.{Compared}

-- ---- cells

-- the cell that a literal is, at a position of this type
abbrev pub literal_cell : SchemaParts → TypeRef → ArgValue → Cell
literal_cell schema ty (Variable name) = cell.Null
literal_cell schema ty Null = cell.Null
literal_cell schema ty (Int n) = cell.Int n
literal_cell schema ty (BoolOf b) = cell.Bool b
literal_cell schema ty (Text t) = cell.Text t
literal_cell schema ty (Case name) =
    cell.EnumCase (unwrap_or (place_named (cases_of (kind_at schema ty.name)) name) 0)
literal_cell schema ty (List' _ items) = cell.Null
literal_cell schema ty (Object' _ members) = cell.Null

abbrev pub cell_slot : SchemaParts → TypeRef → ArgValue → Slot
cell_slot schema ty a =
    by_variable (λ name. slot.Var (to_variable name)) (λ literal. slot.Const (literal_cell schema ty literal)) a

abbrev pub slot_or_null : SchemaParts → TypeRef → Option ArgValue → Slot
slot_or_null schema ty None = slot.Const cell.Null
slot_or_null schema ty (Some a) = cell_slot schema ty a

-- the slots of a key's arguments, from a place on
abbrev pub key_slots : SchemaParts → Place → ℕ → List ArgDef → List Slot
key_slots schema p arg [] = []
key_slots schema p arg (a ∷ args) =
    slot_or_null schema a.ty (written p.args arg) ∷ key_slots schema p (arg + 1) args

-- ---- the condition

abbrev pub compared_at : Option ℕ → Option ArgDef → Option Compared
compared_at None input = None
compared_at (Some column) None = None
compared_at (Some column) (Some a) = Some (record { column = column; ty = a.ty })

abbrev pub compared_from : List ArgDef → List ℕ → Option ℕ → Option Compared
compared_from inputs columns None = None
compared_from inputs columns (Some place) = compared_at (slice_get columns place) (slice_get inputs place)

-- the column that a field of a condition stands for, by its name, and the field's type
abbrev pub compared : List ArgDef → List ℕ → List ℕ → Option Compared
compared inputs columns name = compared_from inputs columns (place_named (arg_names inputs) name)

abbrev pub equal_slot_at : Option Compared → (TypeRef → Slot) → Option SlotEqual
equal_slot_at None f = None
equal_slot_at (Some c) f = Some (record { column = c.column; slot = f c.ty })

-- the equality of a field of a condition, with the slot that it has at its type
abbrev pub equal_slot : List ArgDef → List ℕ → List ℕ → (TypeRef → Slot) → Option SlotEqual
equal_slot inputs columns name f = equal_slot_at (compared inputs columns name) f

-- a field of the variable that is the condition, by its path
abbrev pub field_slot : List ArgDef → List ℕ → List ℕ → List ℕ → Option SlotEqual
field_slot inputs columns name field = equal_slot inputs columns field (λ ty. slot.Var (to_field name field))

abbrev pub if_given : Bool → Option SlotEqual → Option SlotEqual
if_given true e = e
if_given false e = None

-- a written field, unless it is a variable that has no entry
abbrev pub member_slot : SchemaParts → Vars → List ArgDef → List ℕ → List ℕ → ArgValue → Option SlotEqual
member_slot schema vars inputs columns name a =
    if_given (is_some (value_with vars a)) (equal_slot inputs columns name (λ ty. cell_slot schema ty a))

abbrev pub member_slots : {n : _} → SchemaParts → Vars → List ArgDef → List ℕ → Row_of-ArgMember n → List SlotEqual
member_slots schema vars inputs columns end_of-ArgMember = []
member_slots schema vars inputs columns (more_of-ArgMember name a rest) =
    cons_option (member_slot schema vars inputs columns name a) (member_slots schema vars inputs columns rest)

-- the names of the fields that the variable of a condition holds
abbrev pub names_held : Vars → List ℕ → List (List ℕ)
names_held vars name = map (λ m. m.name) (members_or_none (variable vars name))

-- over the columns that rows can be filtered by
abbrev pub condition_over : SchemaParts → Vars → List ArgDef → List ℕ → Option ArgValue → List SlotEqual
condition_over schema vars inputs columns None = []
condition_over schema vars inputs columns (Some (Variable name)) =
    filter_map (field_slot inputs columns name) (names_held vars name)
condition_over schema vars inputs columns (Some Null) = []
condition_over schema vars inputs columns (Some (Int n)) = []
condition_over schema vars inputs columns (Some (BoolOf b)) = []
condition_over schema vars inputs columns (Some (Text t)) = []
condition_over schema vars inputs columns (Some (Case name)) = []
condition_over schema vars inputs columns (Some (List' _ items)) = []
condition_over schema vars inputs columns (Some (Object' _ members)) = member_slots schema vars inputs columns members

abbrev pub condition_slots : SchemaParts → Vars → List ArgDef → List ColumnDef → Option ArgValue → List SlotEqual
condition_slots schema vars inputs columns condition =
    condition_over schema vars inputs (columns_with filtering 0 columns) condition

-- ---- the window

abbrev pub variable_slot : Bool → List ℕ → Option Slot
variable_slot true name = Some (slot.Var (to_variable name))
variable_slot false name = None

-- a number or a cursor; none for a null, and for a variable that holds none
abbrev pub window_slot : Vars → Option ArgValue → Option Slot
window_slot vars None = None
window_slot vars (Some (Variable name)) = variable_slot (is_given (variable vars name)) name
window_slot vars (Some Null) = None
window_slot vars (Some (Int n)) = Some (slot.Const (cell.Int n))
window_slot vars (Some (BoolOf b)) = None
window_slot vars (Some (Text t)) = Some (slot.Const (cell.Text t))
window_slot vars (Some (Case name)) = None
window_slot vars (Some (List' _ items)) = None
window_slot vars (Some (Object' _ members)) = None

abbrev pub window_slots : Vars → Place → SlotWindow
window_slots vars p = record {
  first = window_slot vars (written p.args first);
  last = window_slot vars (written p.args last);
  offset = window_slot vars (written p.args offset);
  before = window_slot vars (written p.args before);
  after = window_slot vars (written p.args after);
}

abbrev pub no_window : SlotWindow
no_window = record { first = None; last = None; offset = None; before = None; after = None }
