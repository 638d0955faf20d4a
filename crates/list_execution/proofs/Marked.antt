-- The cells of a cursor, and the labels of a row's.
use Rattle.std.proofs.Common.{◌≡◌, ℕ, ◌+◌, ◌<◌, ◌≤◌, min, zero, suc, List, [], ◌∷◌, ◌++◌, length, drop, get_or, Option, Some, None, false, refl, sym, ap, ◌∙◌, append_assoc, append-nil, arith}
use Rattle.std.specs.Prelude.{slice_get}
use Rattle.pg_base.proofs.ListSteps.{drop-item, drop-past}
use Rattle.pg_base.specs.declared.cell.Cell.{Cell}
use Rattle.pg_base.specs.declared.cell.Cell.TheVariants as cell
use Rattle.pg_base.specs.declared.enum_def.EnumDef.{EnumDef}
use Rattle.pg_base.specs.declared.table_def.ColumnDef.{ColumnDef}
use Rattle.pg_base.specs.declared.value.Value.{Value}
use Rattle.rel_model.specs.declared.window.By.{By}
use Rattle.rel_model.specs.Ordered.{cells_by}
use Rattle.rel_model.specs.Picked.{cell_at}
use Rattle.cursor_text.specs.Marked.{case_count}
use Rattle.place_tree.specs.Cursors.{with_cell, column_cell, cursor_cells, case_in, with_label, label_at, labels_of}

-- the column by which rows are ordered at a place
abbrev pub by_at : List By → ℕ → By
by_at order i = get_or order i (record { column = 0; descending = false })

by_here : (order : List By) (i : ℕ) → i < length order → by_at order i ≡ get_or order i (by_at order i)
by_here [] i below = absurd (omega (arith, below))
by_here (b ∷ order) zero below = refl
by_here (b ∷ order) (suc i) below = by_here order i (omega (arith, below))

-- ---- from a cursor's values to cells

abbrev pub joined : List Cell → Option (List Cell) → Option (List Cell)
joined cells None = None
joined cells (Some more) = Some (cells ++ more)

with_none : (c : Option Cell) → with_cell c None ≡ None
with_none None = refl
with_none (Some c) = refl

joined_with : (cells : List Cell) (c : Cell) (rest : Option (List Cell)) → joined (cells ++ c ∷ []) rest ≡ joined cells (with_cell (Some c) rest)
joined_with cells c None = refl
joined_with cells c (Some more) = ap (λ l. Some l) (append_assoc cells (c ∷ []) more)

module _ (enums : List EnumDef) (columns : List ColumnDef) where
  -- a cursor of another number of values has no mark
  pub none_unlike : (order : List By) (values : List Value) → (length values ≡ length order → ⊥) → cursor_cells enums columns order values ≡ None
  none_unlike [] [] h = absurd (h refl)
  none_unlike [] (v ∷ values) h = refl
  none_unlike (b ∷ order) [] h = refl
  none_unlike (b ∷ order) (v ∷ values) h =
      ap (with_cell (column_cell enums (slice_get columns b.column) v)) (none_unlike order values (λ e. h (ap suc e)))
      ∙ with_none (column_cell enums (slice_get columns b.column) v)

  module _ (order : List By) (values : List Value) (i : ℕ) (cells : List Cell) (all : Option (List Cell))
      (so : joined cells (cursor_cells enums columns (drop i order) (drop i values)) ≡ all) where
    module _ (v : Value) (below : i < length order) (within : i < length values) (is_v : v ≡ get_or values i v) (c : Option Cell)
        (e : c ≡ column_cell enums (slice_get columns (by_at order i).column) v) where
      here : cursor_cells enums columns (drop i order) (drop i values) ≡ with_cell c (cursor_cells enums columns (drop (i + 1) order) (drop (i + 1) values))
      here =
          ap (λ l. cursor_cells enums columns l (drop i values)) (drop-item order i (by_at order i) below (by_here order i below))
          ∙ ap (λ l. cursor_cells enums columns (by_at order i ∷ drop (i + 1) order) l) (drop-item values i v within is_v)
          ∙ ap (λ o. with_cell o (cursor_cells enums columns (drop (i + 1) order) (drop (i + 1) values))) (sym e)

      pub stops_here : c ≡ None → None ≡ all
      stops_here none =
          sym (ap (joined cells) (here ∙ ap (λ o. with_cell o (cursor_cells enums columns (drop (i + 1) order) (drop (i + 1) values))) none)) ∙ so

      pub goes_on : (d : Cell) (new : List Cell) → c ≡ Some d → new ≡ cells ++ d ∷ [] → joined new (cursor_cells enums columns (drop (i + 1) order) (drop (i + 1) values)) ≡ all
      goes_on d new some push =
          ap (λ l. joined l (cursor_cells enums columns (drop (i + 1) order) (drop (i + 1) values))) push
          ∙ joined_with cells d (cursor_cells enums columns (drop (i + 1) order) (drop (i + 1) values))
          ∙ sym (ap (joined cells) (here ∙ ap (λ o. with_cell o (cursor_cells enums columns (drop (i + 1) order) (drop (i + 1) values))) some))
          ∙ so

  -- ---- the labels of cells

  no_cells : (order : List By) → labels_of enums columns order [] ≡ []
  no_cells [] = refl
  no_cells (b ∷ order) = refl

  labels_past : (order : List By) (cells : List Cell) (i : ℕ) → min (length order) (length cells) ≤ i
      → labels_of enums columns (drop i order) (drop i cells) ≡ []
  labels_past [] cells i past = ap (λ l. labels_of enums columns l (drop i cells)) (drop-past [] i (omega arith))
  labels_past (b ∷ order) [] i past =
      ap (labels_of enums columns (drop i (b ∷ order))) (drop-past [] i (omega arith)) ∙ no_cells (drop i (b ∷ order))
  labels_past (b ∷ order) (c ∷ cells) zero past = absurd (omega arith)
  labels_past (b ∷ order) (c ∷ cells) (suc i) past = labels_past order cells i (omega (arith, past))

  module _ (order : List By) (cells : List Cell) (i : ℕ) (labels all : List (List ℕ))
      (so : labels ++ labels_of enums columns (drop i order) (drop i cells) ≡ all) where
    module _ (c : Cell) (below : i < length order) (within : i < length cells) (is_c : c ≡ get_or cells i c) (case : Option ℕ) (e : case ≡ case_in c) where
      labels_here : labels_of enums columns (drop i order) (drop i cells)
          ≡ with_label enums (slice_get columns (by_at order i).column) case (labels_of enums columns (drop (i + 1) order) (drop (i + 1) cells))
      labels_here =
          ap (λ l. labels_of enums columns l (drop i cells)) (drop-item order i (by_at order i) below (by_here order i below))
          ∙ ap (λ l. labels_of enums columns (by_at order i ∷ drop (i + 1) order) l) (drop-item cells i c within is_c)
          ∙ ap (λ o. with_label enums (slice_get columns (by_at order i).column) o (labels_of enums columns (drop (i + 1) order) (drop (i + 1) cells))) (sym e)

      pub labels_skip : case ≡ None → labels ++ labels_of enums columns (drop (i + 1) order) (drop (i + 1) cells) ≡ all
      labels_skip none =
          sym (ap (λ l. labels ++ l) (labels_here
          ∙ ap (λ o. with_label enums (slice_get columns (by_at order i).column) o (labels_of enums columns (drop (i + 1) order) (drop (i + 1) cells))) none))
          ∙ so

      pub labels_go : (k : ℕ) (label : List ℕ) (new : List (List ℕ)) → case ≡ Some k → label ≡ label_at enums (slice_get columns (by_at order i).column) k
          → new ≡ labels ++ label ∷ [] → new ++ labels_of enums columns (drop (i + 1) order) (drop (i + 1) cells) ≡ all
      labels_go k label new some is push =
          ap (λ l. l ++ labels_of enums columns (drop (i + 1) order) (drop (i + 1) cells)) (push ∙ ap (λ t. labels ++ t ∷ []) is)
          ∙ append_assoc labels (label_at enums (slice_get columns (by_at order i).column) k ∷ []) (labels_of enums columns (drop (i + 1) order) (drop (i + 1) cells))
          ∙ sym (ap (λ l. labels ++ l) (labels_here
          ∙ ap (λ o. with_label enums (slice_get columns (by_at order i).column) o (labels_of enums columns (drop (i + 1) order) (drop (i + 1) cells))) some))
          ∙ so

    pub labels_end : min (length order) (length cells) ≤ i → labels ≡ all
    labels_end past = sym (append-nil labels) ∙ sym (ap (λ l. labels ++ l) (labels_past order cells i past)) ∙ so

  -- ---- one label for each case

  label_count : (c : Cell) (column : Option ColumnDef) (labels : List (List ℕ)) (cells : List Cell) → length labels ≡ case_count cells
      → length (with_label enums column (case_in c) labels) ≡ case_count (c ∷ cells)
  label_count cell.Null column labels cells e = e
  label_count (cell.Int n) column labels cells e = e
  label_count (cell.Bool b) column labels cells e = e
  label_count (cell.Text t) column labels cells e = e
  label_count (cell.EnumCase k) column labels cells e = ap (λ n. suc n) e

  pub label_each : (order : List By) (above : List Cell) → length (labels_of enums columns order (cells_by order above)) ≡ case_count (cells_by order above)
  label_each [] above = refl
  label_each (b ∷ order) above =
      label_count (cell_at above b.column) (slice_get columns b.column) (labels_of enums columns order (cells_by order above)) (cells_by order above) (label_each order above)
