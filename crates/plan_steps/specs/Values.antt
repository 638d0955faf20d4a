-- The values of steps at a path.
use Rattle.std.specs.Prelude.{ℕ, Bool, true, false, ◌==◌, if◌then◌else◌, nat_lt, List, [], ◌∷◌, ◌++◌, map, Option, Some, None, slice_get, codes}
use Rattle.pg_base.specs.Base.{BaseParts}
use Rattle.pg_base.specs.declared.cell.Cell.{Cell}
use Rattle.pg_base.specs.declared.cell.Cell.TheVariants as cell
use Rattle.pg_base.specs.declared.table_def.ColumnDef.{ColumnDef}
use Rattle.pg_base.specs.declared.value.Value.{Value}
use Rattle.pg_base.specs.declared.value.Value.TheVariants as value
use Rattle.pg_base.specs.declared.vars.Vars.{Vars}
use Rattle.pg_base.specs.EnumCases.{case_of_label}
use Rattle.pg_base.specs.Naming.{column_called}
use Rattle.rel_model.specs.declared.tables.Row.{Row}
use Rattle.rel_model.specs.declared.tables.Tables.{Tables}
use Rattle.rel_model.specs.declared.window.By.{By}
use Rattle.rel_model.specs.Tables.{cells_at}
use Rattle.rel_model.specs.Picked.{cell_at}
use Rattle.place_tree.specs.declared.answer.Leaf.{Leaf}
use Rattle.place_tree.specs.declared.answer.Leaf.TheVariants.{Null as null, Truth as truth}
use Rattle.place_tree.specs.Fields.{columns_of}
use Rattle.place_tree.specs.Exec.{first_row, last_row, number_leaf, row_cursor}
use Rattle.plan_constraints.specs.Path.{value_at}
use Rattle.stmt_tree.specs.declared.found.RowTree.{RowTree}
use Rattle.stmt_tree.specs.declared.found.Found.{Found}
use Rattle.stmt_tree.specs.declared.found.Found.TheViews.{out-Found, out-RowTree}
use Rattle.stmt_tree.specs.Meaning.{found_for}
use Rattle.plan_steps.specs.declared.plan.FetchStep.{FetchStep, out-FetchStep}
use Rattle.plan_steps.specs.declared.plan.Step.{Step}
use Rattle.plan_steps.specs.declared.plan.Step.TheVariants as step
use Rattle.plan_steps.specs.Built.{built}
use Rattle.plan_steps.specs.Filled.{filled_key, stmt_of}
use Rattle.plan_steps.specs.Named.{fetch_at, item_at}

-- Over what a plan runs: the tables, the variables, and the row that a mutation gave.
pub record Moment : Type 0 where
  pub base : BaseParts
  pub tables : Tables
  pub vars : Vars
  pub given : Option Row

-- What a fetch found for a key, without what is below its rows.
pub record Listing : Type 0 where
  pub total : ℕ
  pub from : ℕ
  pub to : ℕ
  pub rows : List Row

abbrev pub row_of : RowTree → Row
row_of tree = let t = out-RowTree tree in record { number = t.number; cells = t.cells }

abbrev pub plain : Found → Listing
plain found =
    let f = out-Found found in record { total = f.total; from = f.from; to = f.to; rows = map row_of f.rows }

abbrev pub nothing : Listing
nothing = record { total = 0; from = 0; to = 0; rows = [] }

-- The value of a step at a path.
pub data Val : Type 0 where
  NoVal : Val
  InputVal : Value → Val
  RowVal : Row → Val
  ListVal : Listing → Val
  CellVal : Cell → Val
  LeafVal : Leaf → Val

-- A path: the row of each fetch step that it goes through, the last one at the end.
pub record Standing : Type 0 where
  pub step : ℕ
  pub row : Row

abbrev pub Path : Type 0
Path = List Standing

abbrev pub val_of_row : Option Row → Val
val_of_row None = NoVal
val_of_row (Some row) = RowVal row

abbrev pub later : {A : Type 0} → Option A → Option A → Option A
later None other = other
later (Some a) other = Some a

-- the last row of a step on a path
abbrev pub row_on : Path → ℕ → Option Row
row_on [] at = None
row_on (s ∷ path) at = later (row_on path at) (if s.step == at then Some s.row else None)

abbrev pub val_or_none : Option Val → Val
val_or_none None = NoVal
val_or_none (Some v) = v

abbrev pub val_at : List Val → ℕ → Val
val_at vals at = val_or_none (slice_get vals at)

abbrev pub row_in : Val → Option Row
row_in NoVal = None
row_in (InputVal v) = None
row_in (RowVal row) = Some row
row_in (ListVal l) = None
row_in (CellVal c) = None
row_in (LeafVal l) = None

abbrev pub listing_in : Val → Listing
listing_in NoVal = nothing
listing_in (InputVal v) = nothing
listing_in (RowVal row) = nothing
listing_in (ListVal l) = l
listing_in (CellVal c) = nothing
listing_in (LeafVal l) = nothing

-- ---- fetches

-- the key of a fetch, and none where the row that it is taken from isn't there
abbrev pub key_from : List ℕ → Option Row → Option (List Cell)
key_from columns None = None
key_from columns (Some row) = Some (cells_at columns row.cells)

abbrev pub key_by : Moment → FetchStep → List Val → Option ℕ → Option (List Cell)
key_by m f vals None =
    Some (filled_key m.base m.vars (out-FetchStep f).table (out-FetchStep f).by (out-FetchStep f).key)
key_by m f vals (Some p) = key_from (out-FetchStep f).parent_columns (row_in (val_at vals p))

abbrev pub key_at : Moment → FetchStep → List Val → Option (List Cell)
key_at m f vals = key_by m f vals (out-FetchStep f).parent

abbrev pub listing_for : Moment → FetchStep → Option (List Cell) → Listing
listing_for m f None = nothing
listing_for m f (Some key) = plain (found_for m.tables (stmt_of m.base m.vars f) key)

-- ---- cursors

-- the name of a column in an order: a case of the table's order type
abbrev pub direction : Bool → List ℕ
direction true = codes "_DESC"
direction false = codes "_ASC"

abbrev pub order_name : Option ColumnDef → Bool → List ℕ
order_name None descending = []
order_name (Some c) descending = case_of_label (column_called c) ++ direction descending

-- the names of an order of a table
abbrev pub order_names : BaseParts → ℕ → List By → List (List ℕ)
order_names base table order =
    map (λ b. order_name (slice_get (columns_of base.catalog table) b.column) b.descending) order

-- the cursor of a row of a fetch
abbrev pub row_cursor_of : BaseParts → FetchStep → Row → Leaf
row_cursor_of base fetch row =
    let f = out-FetchStep fetch in
    row_cursor base.catalog f.table (order_names base f.table f.order) f.order row

abbrev pub fetch_cursor : BaseParts → Option FetchStep → Option Row → Leaf
fetch_cursor base None row = null
fetch_cursor base (Some f) None = null
fetch_cursor base (Some f) (Some row) = row_cursor_of base f row

-- the cursor of an Item, from its fetch
abbrev pub item_cursor : BaseParts → List Step → Option ℕ → Option Row → Leaf
item_cursor base steps None row = null
item_cursor base steps (Some s) row = fetch_cursor base (fetch_at steps s) row

-- ---- pages

-- the parts: hasNextPage, hasPreviousPage, startCursor, endCursor
abbrev pub page : BaseParts → Option FetchStep → Listing → ℕ → Leaf
page base f l part =
    if part == 0 then truth (nat_lt l.to l.total)
    else (if part == 1 then truth (nat_lt 0 l.from)
    else (if part == 2 then fetch_cursor base f (first_row l.rows)
    else fetch_cursor base f (last_row l.rows)))

-- ---- steps

abbrev pub input_or_null : Option Value → Value
input_or_null None = value.Null
input_or_null (Some v) = v

abbrev pub cell_in : Option Row → ℕ → Cell
cell_in None column = cell.Null
cell_in (Some row) column = cell_at row.cells column

-- a step's value, from those of the steps before it
abbrev pub step_val : Moment → List Step → Path → List Val → Step → Val
step_val m steps path vals (step.Const v) = InputVal v
step_val m steps path vals (step.Var p) = InputVal (input_or_null (value_at m.vars p))
step_val m steps path vals step.Given = val_of_row m.given
step_val m steps path vals (step.Fetch f) = ListVal (listing_for m f (key_at m f vals))
step_val m steps path vals (step.Item s) = val_of_row (row_on path s)
step_val m steps path vals (step.Column i c) = CellVal (cell_in (row_in (val_at vals i)) c)
step_val m steps path vals (step.Count s) = LeafVal (number_leaf (listing_in (val_at vals s)).total)
step_val m steps path vals (step.Page s part) =
    LeafVal (page m.base (fetch_at steps s) (listing_in (val_at vals s)) part)
step_val m steps path vals (step.CursorOf i) =
    LeafVal (item_cursor m.base steps (item_at steps i) (row_in (val_at vals i)))

-- the values of all steps at a path
abbrev pub all_vals : Moment → List Step → Path → List Val
all_vals m steps path = built (step_val m steps path) [] steps
