-- A fetch with its slots filled from the variables, as the statement that it sends.
use Rattle.std.specs.Prelude.{ℕ, List, [], ◌∷◌, map, Option, Some, None, slice_get, unwrap_or, option_map}
use Rattle.pg_base.specs.Base.{BaseParts}
use Rattle.pg_base.specs.declared.cell.Cell.{Cell}
use Rattle.pg_base.specs.declared.cell.Cell.TheVariants as cell
use Rattle.pg_base.specs.declared.kind.Kind.{Kind}
use Rattle.pg_base.specs.declared.kind.Kind.TheVariants as kind
use Rattle.pg_base.specs.declared.role.Role.TheVariants as role
use Rattle.pg_base.specs.declared.table_def.ColumnDef.{ColumnDef}
use Rattle.pg_base.specs.declared.value.Value.{Value, List', Object'}
use Rattle.pg_base.specs.declared.value.Value.TheVariants as value
use Rattle.pg_base.specs.declared.vars.Vars.{Vars}
use Rattle.pg_base.specs.Roles.{roles_of, place_of}
use Rattle.pg_base.specs.Schema.{kind_at, cases_of}
use Rattle.rel_model.specs.declared.window.By.{By}
use Rattle.rel_model.specs.declared.window.Equal.{Equal}
use Rattle.rel_model.specs.declared.window.Window.{Window}
use Rattle.place_tree.specs.Arguments.{number_of, mark_given}
use Rattle.place_tree.specs.Cursors.{int_cell, bool_cell}
use Rattle.place_tree.specs.Fields.{columns_of, place_named}
use Rattle.plan_constraints.specs.Path.{value_at}
use Rattle.stmt_tree.specs.declared.stmt.Stmt.{Stmt}
use Rattle.stmt_tree.specs.declared.stmt.Child.{Child}
use Rattle.stmt_tree.specs.declared.stmt.Child.TheViews.{roll-Stmt, roll-Child, out-Child}
use Rattle.plan_steps.specs.declared.plan.Slot.{Slot}
use Rattle.plan_steps.specs.declared.plan.Slot.TheVariants.{Const, Var}
use Rattle.plan_steps.specs.declared.plan.SlotEqual.{SlotEqual}
use Rattle.plan_steps.specs.declared.plan.SlotWindow.{SlotWindow}
use Rattle.plan_steps.specs.declared.plan.FetchStep.{FetchStep, FetchStep-F, fold-FetchStep}

-- ---- cells

abbrev pub plain_text : Kind → List ℕ → Option Cell
plain_text kind.Text t = Some (cell.Text t)
plain_text (kind.Varchar size) t = Some (cell.Text t)
plain_text kind.Int t = None
plain_text kind.BigInt t = None
plain_text kind.Bool t = None
plain_text (kind.Enum e) t = None

-- the names that the cases of an enum have in the schema
abbrev pub enum_cases : BaseParts → ℕ → List (List ℕ)
enum_cases base e = cases_of (kind_at base.schema (place_of (roles_of base.catalog) (role.Enum e)))

-- a case goes by its name in the schema, and not by its label
abbrev pub named_cell : BaseParts → Kind → List ℕ → Option Cell
named_cell base kind.Text name = None
named_cell base (kind.Varchar size) name = None
named_cell base kind.Int name = None
named_cell base kind.BigInt name = None
named_cell base kind.Bool name = None
named_cell base (kind.Enum e) name = option_map (λ k. cell.EnumCase k) (place_named (enum_cases base e) name)

-- the cell that a value is in a column of this kind, or none where it doesn't fit
abbrev pub kind_cell : BaseParts → Kind → Value → Option Cell
kind_cell base k value.Null = None
kind_cell base k (value.Int n) = int_cell k n
kind_cell base k (value.Bool b) = bool_cell k b
kind_cell base k (value.Text t) = plain_text k t
kind_cell base k (value.Case name) = named_cell base k name
kind_cell base k (List' s items) = None
kind_cell base k (Object' s members) = None

abbrev pub column_cell : BaseParts → Option ColumnDef → Option Value → Cell
column_cell base None v = cell.Null
column_cell base (Some c) None = cell.Null
column_cell base (Some c) (Some v) = unwrap_or (kind_cell base c.kind v) cell.Null

-- the cell of a slot at a column: null where there is none, or none that fits
abbrev pub slot_cell : BaseParts → Vars → ℕ → ℕ → Slot → Cell
slot_cell base vars table column (Const c) = c
slot_cell base vars table column (Var path) =
    column_cell base (slice_get (columns_of base.catalog table) column) (value_at vars path)

abbrev pub filled_equal : BaseParts → Vars → ℕ → SlotEqual → Equal
filled_equal base vars table e = record { column = e.column; cell = slot_cell base vars table e.column e.slot }

-- the key's cells, one for each column that they are compared with
abbrev pub filled_key : BaseParts → Vars → ℕ → List ℕ → List Slot → List Cell
filled_key base vars table [] key = []
filled_key base vars table (column ∷ by) [] = []
filled_key base vars table (column ∷ by) (s ∷ key) =
    slot_cell base vars table column s ∷ filled_key base vars table by key

-- ---- windows

-- what a constant is in a window: a number or a text
abbrev pub const_value : Cell → Option Value
const_value cell.Null = None
const_value (cell.Int n) = Some (value.Int n)
const_value (cell.Bool b) = None
const_value (cell.Text t) = Some (value.Text t)
const_value (cell.EnumCase k) = None

-- what a slot of a window holds, or none where it isn't given
abbrev pub slot_value : Vars → Option Slot → Option Value
slot_value vars None = None
slot_value vars (Some (Const c)) = const_value c
slot_value vars (Some (Var path)) = value_at vars path

-- a value that doesn't fit its place counts as not given
abbrev pub filled_window : BaseParts → Vars → ℕ → List By → SlotWindow → Window
filled_window base vars table order w = record {
  first = number_of (slot_value vars w.first);
  last = number_of (slot_value vars w.last);
  offset = unwrap_or (number_of (slot_value vars w.offset)) 0;
  before = mark_given base.catalog (columns_of base.catalog table) order (slot_value vars w.before);
  after = mark_given base.catalog (columns_of base.catalog table) order (slot_value vars w.after);
}

-- ---- statements

-- the statement of a fetch, from those of its children
abbrev pub stmt_from : BaseParts → Vars → FetchStep-F Child → Stmt
stmt_from base vars f = roll-Stmt (record {
  table = f.table;
  by = f.by;
  condition = map (filled_equal base vars f.table) f.condition;
  order = f.order;
  window = filled_window base vars f.table f.order f.window;
  rows = f.rows;
  children = f.children;
})

abbrev pub child_from : BaseParts → Vars → FetchStep-F Child → Child
child_from base vars f = roll-Child (record { parent_columns = f.parent_columns; stmt = stmt_from base vars f })

-- a fetch as a statement below another one
abbrev pub child_of : BaseParts → Vars → FetchStep → Child
child_of base vars = fold-FetchStep Child (child_from base vars)

-- the statement that it sends
abbrev pub stmt_of : BaseParts → Vars → FetchStep → Stmt
stmt_of base vars f = (out-Child (child_of base vars f)).stmt
