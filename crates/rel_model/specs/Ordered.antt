-- The order of cells, of marks and of rows, and rows in their order.
use Rattle.std.specs.Prelude.{ℕ, ℤ, pos, Bool, true, false, List, [], ◌∷◌, map, if◌then◌else◌}
use Rattle.std.specs.declared.cmp.Ordering.{Ordering}
use Rattle.std.specs.declared.cmp.Ordering.TheVariants.{Equal}
use Rattle.std.specs.Ordering.{nat_cmp, int_cmp, ordering_then, ordering_reverse, then_cmp, on, is_lt, is_gt}
use Rattle.std.specs.Cmp.Lexicographic.{slice_cmp}
use Rattle.pg_base.specs.declared.cell.Cell.{Cell}
use Rattle.pg_base.specs.declared.cell.Cell.TheVariants as cell
use Rattle.pg_base.specs.declared.cell.Mark.{Mark}
use Rattle.rel_model.specs.declared.tables.Row.{Row}
use Rattle.rel_model.specs.declared.window.By.{By}
use Rattle.rel_model.specs.Picked.{cell_at}

-- Null is last; cells of other variants stand in the order of these. A column of valid tables has one of them, and
-- nulls.
abbrev pub rank : Cell → ℕ
rank (cell.Int n) = 0
rank (cell.Bool b) = 1
rank (cell.Text t) = 2
rank (cell.EnumCase k) = 3
rank cell.Null = 4

-- integers stand by value, false before true, enum cases by declaration
abbrev pub number : Cell → ℤ
number (cell.Int n) = n
number (cell.Bool b) = pos (if b then 1 else 0)
number (cell.Text t) = pos 0
number (cell.EnumCase k) = pos k
number cell.Null = pos 0

-- texts stand by bytes
abbrev pub bytes : Cell → List ℕ
bytes (cell.Text t) = t
bytes (cell.Int n) = []
bytes (cell.Bool b) = []
bytes (cell.EnumCase k) = []
bytes cell.Null = []

-- ascending
unfoldable pub cell_order : Cell → Cell → Ordering
cell_order = then_cmp (on rank nat_cmp) (then_cmp (on number int_cmp) (on bytes (slice_cmp nat_cmp)))

-- descending is the reverse, for nulls too
abbrev pub turned : Bool → Ordering → Ordering
turned true r = ordering_reverse r
turned false r = r

abbrev pub first_cell : List Cell → Cell
first_cell [] = cell.Null
first_cell (c ∷ cells) = c

abbrev pub other_cells : List Cell → List Cell
other_cells [] = []
other_cells (c ∷ cells) = cells

-- by the first pair of cells that differ; either list has one cell for each column of the order
abbrev pub cells_order : List By → List Cell → List Cell → Ordering
cells_order [] xs ys = Equal
cells_order (b ∷ order) xs ys =
    ordering_then (turned b.descending (cell_order (first_cell xs) (first_cell ys)))
    (cells_order order (other_cells xs) (other_cells ys))

-- ties go by the row's number, ascending, so no two rows of a table stand alike
abbrev pub mark_order : List By → Mark → Mark → Ordering
mark_order order m n = ordering_then (cells_order order m.values n.values) (nat_cmp m.number n.number)

-- the cells by which a row is ordered
abbrev pub cells_by : List By → List Cell → List Cell
cells_by order cells = map (λ b. cell_at cells b.column) order

-- the ascending order by these columns
abbrev pub ascending : List ℕ → List By
ascending columns = map (λ c. record { column = c; descending = false }) columns

-- a row's place in the order
abbrev pub mark_of : List By → Row → Mark
mark_of order row = record { values = cells_by order row.cells; number = row.number }

abbrev pub row_order : List By → Row → Row → Ordering
row_order order r s = mark_order order (mark_of order r) (mark_of order s)

abbrev pub stands_before : List By → Mark → Row → Bool
stands_before order mark row = is_lt (mark_order order (mark_of order row) mark)

abbrev pub stands_after : List By → Mark → Row → Bool
stands_after order mark row = is_gt (mark_order order (mark_of order row) mark)

abbrev pub precedes : List By → Row → Row → Bool
precedes order r s = is_lt (row_order order r s)

-- ---- insertion sort

-- after the items that are less
abbrev pub inserted : {X : Type 0} → (X → X → Bool) → X → List X → List X
inserted lt x [] = x ∷ []
inserted lt x (y ∷ ys) = if lt y x then y ∷ inserted lt x ys else x ∷ y ∷ ys

abbrev pub sorted_by : {X : Type 0} → (X → X → Bool) → List X → List X
sorted_by lt [] = []
sorted_by lt (x ∷ xs) = inserted lt x (sorted_by lt xs)

-- the rows, with none after one that it precedes
abbrev pub ordered : List By → List Row → List Row
ordered order rows = sorted_by (precedes order) rows
