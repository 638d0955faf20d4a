-- Rows that are put into a table, left out of it and looked for, worked out.
use Rattle.std.specs.Prelude.{◌≡◌, ℕ, pos, true, false, List, [], ◌∷◌, Some, None, codes}
use Rattle.pg_base.specs.declared.cell.Cell.{Cell}
use Rattle.pg_base.specs.declared.cell.Cell.TheVariants as cell
use Rattle.rel_model.specs.declared.tables.Row.{Row}
use Rattle.rel_model.specs.declared.tables.TableRows.{TableRows}
use Rattle.row_tables.specs.declared.columns.KeptColumns.{KeptColumns}
use Rattle.row_tables.specs.Rows.{raised, is_free_in}
use Rattle.row_tables.specs.Set.{SetParts, list_with, list_without, row_with_key}

abbrev number : ℕ → Cell
number n = cell.Int (pos n)

abbrev word : List ℕ → Cell
word text = cell.Text text

abbrev row : ℕ → Cell → Cell → Row
row n one other = record { number = n; cells = one ∷ other ∷ [] }

abbrev ann : Row
ann = row 1 (number 1) (word (codes "ann"))

abbrev ben : Row
ben = row 2 (number 2) (word (codes "ben"))

abbrev nameless : Row
nameless = row 3 (number 3) cell.Null

-- a table whose first column has identity, with a key on each of its two columns
abbrev kept : KeptColumns
kept = record { keys = (0 ∷ []) ∷ (1 ∷ []) ∷ []; identities = true ∷ false ∷ [] }

abbrev table : List Row → ℕ → ℕ → TableRows
table rows next counter = record { rows = rows; next_number = next; counters = pos counter ∷ pos 0 ∷ [] }

abbrev people : SetParts
people = record { tables = record { lists = table (ann ∷ ben ∷ nameless ∷ []) 4 3 ∷ [] }; kept = kept ∷ [] }

pub record AreWorked : Type 0 where
  -- a counter is raised to a written number that is greater, of a column with identity alone
  pub greater : raised true (pos 3) (number 7) ≡ pos 7
  pub lesser : raised true (pos 3) (number 2) ≡ pos 3
  pub no_number : raised true (pos 3) cell.Null ≡ pos 3
  pub no_identity : raised false (pos 3) (number 7) ≡ pos 3
  -- a row with a new number comes last, and raises the next number and the counter
  pub last : list_with kept (row 4 (number 9) (word (codes "cy"))) (table (ann ∷ ben ∷ []) 3 2)
      ≡ table (ann ∷ ben ∷ row 4 (number 9) (word (codes "cy")) ∷ []) 5 9
  -- a row with the number of one that stands takes its place, with its own cells
  pub in_place : list_with kept (row 1 (number 1) (word (codes "eve"))) (table (ann ∷ ben ∷ []) 3 2)
      ≡ table (row 1 (number 1) (word (codes "eve")) ∷ ben ∷ []) 3 2
  pub in_place_greater : list_with kept (row 1 (number 8) cell.Null) (table (ann ∷ ben ∷ []) 3 2)
      ≡ table (row 1 (number 8) cell.Null ∷ ben ∷ []) 3 8
  -- without a row, the next number and the counters stay
  pub without_last : list_without 2 (table (ann ∷ ben ∷ []) 3 2) ≡ table (ann ∷ []) 3 2
  pub without_first : list_without 1 (table (ann ∷ ben ∷ []) 3 2) ≡ table (ben ∷ []) 3 2
  pub without_none : list_without 5 (table (ann ∷ ben ∷ []) 3 2) ≡ table (ann ∷ ben ∷ []) 3 2
  -- a row is found by the columns of the key that is asked for
  pub by_first : row_with_key people 0 0 (number 2 ∷ []) ≡ Some ben
  pub by_second : row_with_key people 0 1 (word (codes "ben") ∷ []) ≡ Some ben
  pub by_other : row_with_key people 0 1 (number 2 ∷ []) ≡ None
  pub by_no_key : row_with_key people 0 2 (number 2 ∷ []) ≡ None
  pub in_no_table : row_with_key people 1 0 (number 2 ∷ []) ≡ None
  -- a null finds nothing, nor does a key of another length
  pub by_null : row_with_key people 0 1 (cell.Null ∷ []) ≡ None
  pub by_two : row_with_key people 0 0 (number 2 ∷ word (codes "ben") ∷ []) ≡ None
  -- a key is free where no other row has it; a null is always free
  pub taken : is_free_in (1 ∷ []) (row 4 (number 4) (word (codes "ben"))) (ann ∷ ben ∷ []) ≡ false
  pub free : is_free_in (1 ∷ []) (row 4 (number 4) (word (codes "cy"))) (ann ∷ ben ∷ []) ≡ true
  pub own : is_free_in (1 ∷ []) (row 2 (number 4) (word (codes "ben"))) (ann ∷ ben ∷ []) ≡ true
  pub null_free : is_free_in (1 ∷ []) (row 4 (number 4) cell.Null) (ann ∷ nameless ∷ []) ≡ true
  pub both_columns : is_free_in (0 ∷ 1 ∷ []) (row 4 (number 1) (word (codes "ben"))) (ann ∷ ben ∷ []) ≡ true
