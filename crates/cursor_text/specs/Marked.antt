-- The cursor of a mark in an order.
use Rattle.std.specs.Prelude.{ℕ, zero, suc, List, [], ◌∷◌}
use Rattle.pg_base.specs.declared.cell.Cell.{Cell}
use Rattle.pg_base.specs.declared.cell.Cell.TheVariants as cell
use Rattle.pg_base.specs.declared.cell.Mark.{Mark}
use Rattle.pg_base.specs.declared.value.Value.{Value}
use Rattle.pg_base.specs.declared.value.Value.TheVariants as value
use Rattle.cursor_text.specs.declared.cursor.Cursor.{Cursor}

-- ---- labels, one for each case in the order of the cells

abbrev pub first_label : List (List ℕ) → List ℕ
first_label [] = []
first_label (label ∷ labels) = label

abbrev pub other_labels : List (List ℕ) → List (List ℕ)
other_labels [] = []
other_labels (label ∷ labels) = labels

-- the labels that are left after a cell
abbrev pub labels_after : Cell → List (List ℕ) → List (List ℕ)
labels_after cell.Null labels = labels
labels_after (cell.Int n) labels = labels
labels_after (cell.Bool b) labels = labels
labels_after (cell.Text t) labels = labels
labels_after (cell.EnumCase k) labels = other_labels labels

-- how many of the cells are cases
abbrev pub case_count : List Cell → ℕ
case_count [] = zero
case_count (cell.Null ∷ cells) = case_count cells
case_count (cell.Int n ∷ cells) = case_count cells
case_count (cell.Bool b ∷ cells) = case_count cells
case_count (cell.Text t ∷ cells) = case_count cells
case_count (cell.EnumCase k ∷ cells) = suc (case_count cells)

-- ---- values

-- a cell as a value of a cursor; a case is its label, the first of these
abbrev pub value_of : Cell → List (List ℕ) → Value
value_of cell.Null labels = value.Null
value_of (cell.Int n) labels = value.Int n
value_of (cell.Bool b) labels = value.Bool b
value_of (cell.Text t) labels = value.Text t
value_of (cell.EnumCase k) labels = value.Text (first_label labels)

abbrev pub values_of : List Cell → List (List ℕ) → List Value
values_of [] labels = []
values_of (c ∷ cells) labels = value_of c labels ∷ values_of cells (labels_after c labels)

abbrev pub cursor_of : List (List ℕ) → Mark → List (List ℕ) → Cursor
cursor_of order mark labels = record { order = order; values = values_of mark.values labels; number = mark.number }
