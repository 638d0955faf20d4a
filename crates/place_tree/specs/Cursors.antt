-- The mark that a cursor names in an order, and the labels of the enum cases in a mark.
use Rattle.std.specs.Prelude.{ℕ, ℤ, Bool, List, [], ◌∷◌, Option, Some, None, slice_get, option_map}
use Rattle.pg_base.specs.declared.cell.Cell.{Cell}
use Rattle.pg_base.specs.declared.cell.Cell.TheVariants as cell
use Rattle.pg_base.specs.declared.cell.Mark.{Mark}
use Rattle.pg_base.specs.declared.kind.Kind.{Kind}
use Rattle.pg_base.specs.declared.kind.Kind.TheVariants as kind
use Rattle.pg_base.specs.declared.enum_def.EnumDef.{EnumDef}
use Rattle.pg_base.specs.declared.table_def.ColumnDef.{ColumnDef}
use Rattle.rel_model.specs.declared.window.By.{By}
use Rattle.pg_base.specs.declared.value.Value.{Value, List', Object'}
use Rattle.pg_base.specs.declared.value.Value.TheVariants as value
use Rattle.cursor_text.specs.declared.cursor.Cursor.{Cursor}
use Rattle.place_tree.specs.Fields.{place_named}

-- the labels of an enum's cases
abbrev pub labels_in : Option EnumDef → List (List ℕ)
labels_in None = []
labels_in (Some e) = e.cases

-- ---- from a cursor's values to cells: a null, or a value of its column's kind; an integer may have any 64 bits

abbrev pub int_cell : Kind → ℤ → Option Cell
int_cell kind.Text n = None
int_cell (kind.Varchar size) n = None
int_cell kind.Int n = Some (cell.Int n)
int_cell kind.BigInt n = Some (cell.Int n)
int_cell kind.Bool n = None
int_cell (kind.Enum e) n = None

abbrev pub bool_cell : Kind → Bool → Option Cell
bool_cell kind.Text b = None
bool_cell (kind.Varchar size) b = None
bool_cell kind.Int b = None
bool_cell kind.BigInt b = None
bool_cell kind.Bool b = Some (cell.Bool b)
bool_cell (kind.Enum e) b = None

-- the case that has the label
abbrev pub case_cell : List (List ℕ) → List ℕ → Option Cell
case_cell labels t = option_map (λ k. cell.EnumCase k) (place_named labels t)

abbrev pub text_cell : List EnumDef → Kind → List ℕ → Option Cell
text_cell enums kind.Text t = Some (cell.Text t)
text_cell enums (kind.Varchar size) t = Some (cell.Text t)
text_cell enums kind.Int t = None
text_cell enums kind.BigInt t = None
text_cell enums kind.Bool t = None
text_cell enums (kind.Enum e) t = case_cell (labels_in (slice_get enums e)) t

abbrev pub cursor_cell : List EnumDef → Kind → Value → Option Cell
cursor_cell enums k value.Null = Some cell.Null
cursor_cell enums k (value.Int n) = int_cell k n
cursor_cell enums k (value.Bool b) = bool_cell k b
cursor_cell enums k (value.Text t) = text_cell enums k t
cursor_cell enums k (value.Case c) = None
cursor_cell enums k (List' _ items) = None
cursor_cell enums k (Object' _ members) = None

abbrev pub column_cell : List EnumDef → Option ColumnDef → Value → Option Cell
column_cell enums None v = None
column_cell enums (Some c) v = cursor_cell enums c.kind v

abbrev pub with_cell : Option Cell → Option (List Cell) → Option (List Cell)
with_cell None cells = None
with_cell (Some c) None = None
with_cell (Some c) (Some cells) = Some (c ∷ cells)

-- the cells of a cursor's values in these columns, where each is one of its column and there is one for each
abbrev pub cursor_cells : List EnumDef → List ColumnDef → List By → List Value → Option (List Cell)
cursor_cells enums columns [] [] = Some []
cursor_cells enums columns [] (v ∷ values) = None
cursor_cells enums columns (b ∷ order) [] = None
cursor_cells enums columns (b ∷ order) (v ∷ values) =
    with_cell (column_cell enums (slice_get columns b.column) v) (cursor_cells enums columns order values)

abbrev pub mark_with : ℕ → Option (List Cell) → Option Mark
mark_with number None = None
mark_with number (Some cells) = Some (record { values = cells; number = number })

abbrev pub mark_of_cursor : List EnumDef → List ColumnDef → List By → Cursor → Option Mark
mark_of_cursor enums columns order c = mark_with c.number (cursor_cells enums columns order c.values)

-- ---- the labels of a mark's enum cases, in their order

abbrev pub label_or_none : Option (List ℕ) → List ℕ
label_or_none None = []
label_or_none (Some label) = label

abbrev pub label_of : List EnumDef → Kind → ℕ → List ℕ
label_of enums kind.Text k = []
label_of enums (kind.Varchar size) k = []
label_of enums kind.Int k = []
label_of enums kind.BigInt k = []
label_of enums kind.Bool k = []
label_of enums (kind.Enum e) k = label_or_none (slice_get (labels_in (slice_get enums e)) k)

abbrev pub label_at : List EnumDef → Option ColumnDef → ℕ → List ℕ
label_at enums None k = []
label_at enums (Some c) k = label_of enums c.kind k

-- the case that a cell is, where it is one
abbrev pub case_in : Cell → Option ℕ
case_in cell.Null = None
case_in (cell.Int n) = None
case_in (cell.Bool b) = None
case_in (cell.Text t) = None
case_in (cell.EnumCase k) = Some k

abbrev pub with_label : List EnumDef → Option ColumnDef → Option ℕ → List (List ℕ) → List (List ℕ)
with_label enums c None labels = labels
with_label enums c (Some k) labels = label_at enums c k ∷ labels

abbrev pub labels_of : List EnumDef → List ColumnDef → List By → List Cell → List (List ℕ)
labels_of enums columns [] cells = []
labels_of enums columns (b ∷ order) [] = []
labels_of enums columns (b ∷ order) (c ∷ cells) =
    with_label enums (slice_get columns b.column) (case_in c) (labels_of enums columns order cells)
