-- What a row field asks of the tables. It depends on its arguments and the variables, and not on the row above.
use Rattle.std.specs.Prelude.{ℕ, ◌+◌, Bool, true, false, List, [], ◌∷◌, Option, Some, None, slice_get}
use Rattle.pg_base.specs.declared.cell.Cell.{Cell}
use Rattle.pg_base.specs.declared.table_def.LinkDef.{LinkDef}
use Rattle.pg_base.specs.declared.table_def.KeyDef.{KeyDef}
use Rattle.rel_model.specs.declared.window.By.{By}
use Rattle.rel_model.specs.declared.window.Equal.{Equal}
use Rattle.rel_model.specs.declared.window.Window.{Window}
use Rattle.pg_base.specs.declared.vars.Vars.{Vars}
use Rattle.pg_base.specs.Base.{BaseParts}
use Rattle.pg_base.specs.declared.schema.ArgDef.{ArgDef}
use Rattle.pg_base.specs.declared.schema.FieldDef.{FieldDef}
use Rattle.pg_base.specs.declared.does.Does.{Does}
use Rattle.pg_base.specs.declared.does.Does.TheVariants as does
use Rattle.pg_base.specs.Schema.{SchemaParts}
use Rattle.pg_base.specs.Schema.{kind_at, inputs_of, cases_of}
use Rattle.place_tree.specs.declared.place.Place.{Place}
use Rattle.place_tree.specs.declared.fetch.Fetch.{Fetch}
use Rattle.place_tree.specs.declared.fetch.KeyCells.{KeyCells}
use Rattle.place_tree.specs.declared.fetch.KeyCells.TheVariants as key_cells_are
use Rattle.place_tree.specs.declared.fetch.Shape.{Shape}
use Rattle.place_tree.specs.declared.fetch.Shape.TheVariants as shape
use Rattle.place_tree.specs.Fields.{field_of, columns_of, key_at, link_at, finds_one}
use Rattle.place_tree.specs.Arguments.{argument, order_by, condition, cell_or_null, order_names, order_of, condition_of, window_of, null_error, window_error, or_else}

abbrev pub whole : Window
whole = record { first = None; last = None; offset = 0; before = None; after = None }

-- one row of a table
abbrev pub row_fetch : ℕ → List ℕ → KeyCells → Fetch
row_fetch table by key = record {
  table = table;
  by = by;
  key = key;
  shape = shape.Row;
  condition = [];
  names = [];
  order = [];
  window = whole;
}

-- ---- a connection

-- the type of an argument, by its place
abbrev pub arg_type : Option ArgDef → ℕ
arg_type None = 0
arg_type (Some a) = a.ty.name

abbrev pub type_of_arg : List ArgDef → ℕ → ℕ
type_of_arg args arg = arg_type (slice_get args arg)

abbrev pub cases_of_arg : BaseParts → FieldDef → ℕ → List (List ℕ)
cases_of_arg base f arg = cases_of (kind_at base.schema (type_of_arg f.args arg))

abbrev pub inputs_of_arg : BaseParts → FieldDef → ℕ → List ArgDef
inputs_of_arg base f arg = inputs_of (kind_at base.schema (type_of_arg f.args arg))

abbrev pub list_names : Vars → Place → List (List ℕ)
list_names vars p = order_names (argument vars p order_by)

abbrev pub list_order : BaseParts → FieldDef → Vars → ℕ → Place → List By
list_order base f vars table p =
    order_of (cases_of_arg base f order_by) (columns_of base.catalog table) (list_names vars p)

abbrev pub list_condition : BaseParts → FieldDef → Vars → ℕ → Place → List Equal
list_condition base f vars table p =
    condition_of base.schema (inputs_of_arg base f condition) (columns_of base.catalog table)
    (argument vars p condition)

abbrev pub list_window : BaseParts → Vars → ℕ → List By → Place → Window
list_window base vars table order p = window_of base.catalog (columns_of base.catalog table) order vars p

-- the rows of a table, with the order, condition and window of the arguments
abbrev pub list_fetch : BaseParts → FieldDef → Vars → Place → ℕ → List ℕ → KeyCells → Fetch
list_fetch base f vars p table by key = record {
  table = table;
  by = by;
  key = key;
  shape = shape.List;
  condition = list_condition base f vars table p;
  names = list_names vars p;
  order = list_order base f vars table p;
  window = list_window base vars table (list_order base f vars table p) p;
}

-- ---- each row field

-- the cells of a key's arguments, from a place on
abbrev pub key_cells : SchemaParts → Vars → Place → ℕ → List ArgDef → List Cell
key_cells schema vars p arg [] = []
key_cells schema vars p arg (a ∷ args) =
    cell_or_null schema a.ty (argument vars p arg) ∷ key_cells schema vars p (arg + 1) args

abbrev pub key_fetch : BaseParts → FieldDef → Vars → Place → ℕ → Option KeyDef → Option Fetch
key_fetch base f vars p table None = None
key_fetch base f vars p table (Some k) =
    Some (row_fetch table k.columns (key_cells_are.Given (key_cells base.schema vars p 0 f.args)))

abbrev pub forward_fetch : Option LinkDef → Option Fetch
forward_fetch None = None
forward_fetch (Some l) = Some (row_fetch l.target l.target_columns (key_cells_are.OfParent l.columns))

abbrev pub backward_fetch : BaseParts → FieldDef → Vars → Place → ℕ → LinkDef → Bool → Fetch
backward_fetch base f vars p table link true =
    row_fetch table link.columns (key_cells_are.OfParent link.target_columns)
backward_fetch base f vars p table link false =
    list_fetch base f vars p table link.columns (key_cells_are.OfParent link.target_columns)

abbrev pub referring_fetch : BaseParts → FieldDef → Vars → Place → ℕ → Option LinkDef → Option Fetch
referring_fetch base f vars p table None = None
referring_fetch base f vars p table (Some l) =
    Some (backward_fetch base f vars p table l (finds_one (slice_get base.catalog.tables table) l))

abbrev pub fetch_by : BaseParts → FieldDef → Vars → Place → Does → Option Fetch
fetch_by base f vars p (does.Column table column) = None
fetch_by base f vars p (does.Forward table link) = forward_fetch (link_at base.catalog table link)
fetch_by base f vars p (does.Backward table link) =
    referring_fetch base f vars p table (link_at base.catalog table link)
fetch_by base f vars p (does.All table) = Some (list_fetch base f vars p table [] (key_cells_are.Given []))
fetch_by base f vars p (does.ByKey table key) = key_fetch base f vars p table (key_at base.catalog table key)
fetch_by base f vars p (does.Create table) = None
fetch_by base f vars p (does.Update table key) = None
fetch_by base f vars p (does.Delete table key) = None
fetch_by base f vars p does.Nodes = None
fetch_by base f vars p does.Edges = None
fetch_by base f vars p does.PageInfo = None
fetch_by base f vars p does.Total = None
fetch_by base f vars p does.Node = None
fetch_by base f vars p does.Cursor = None
fetch_by base f vars p does.HasNext = None
fetch_by base f vars p does.HasPrevious = None
fetch_by base f vars p does.Start = None
fetch_by base f vars p does.End = None
fetch_by base f vars p does.ClientId = None
fetch_by base f vars p does.Payload = None

abbrev pub fetch_in : BaseParts → Vars → Place → Option FieldDef → Option Fetch
fetch_in base vars p None = None
fetch_in base vars p (Some f) = fetch_by base f vars p f.does

-- what the place asks, and none where it is no row field
unfoldable pub fetch_of : BaseParts → Vars → Place → Option Fetch
fetch_of base vars p = fetch_in base vars p (field_of base.schema p)

-- ---- the error of a field's arguments

abbrev pub shape_error : BaseParts → Vars → Place → Fetch → Shape → Option (List ℕ)
shape_error base vars p fetch shape.Row = None
shape_error base vars p fetch shape.List =
    window_error base.catalog (columns_of base.catalog fetch.table) fetch.names fetch.order vars p

abbrev pub fetch_error : BaseParts → Vars → Place → Option Fetch → Option (List ℕ)
fetch_error base vars p None = None
fetch_error base vars p (Some fetch) = shape_error base vars p fetch fetch.shape

abbrev pub args_error : BaseParts → Vars → Place → Option FieldDef → Option (List ℕ)
args_error base vars p None = None
args_error base vars p (Some f) = null_error base.schema vars p 0 f.args

-- a null at a non-null position, then what is wrong with the window of a connection
abbrev pub error_with : BaseParts → Vars → Place → Option Fetch → Option (List ℕ)
error_with base vars p fetch =
    or_else (args_error base vars p (field_of base.schema p)) (fetch_error base vars p fetch)

-- the message of the first error, or none
unfoldable pub argument_error : BaseParts → Vars → Place → Option (List ℕ)
argument_error base vars p = error_with base vars p (fetch_of base vars p)
