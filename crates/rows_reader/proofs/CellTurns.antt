-- Loops over the columns of a row.
use Rattle.std.proofs.Common.{◌≡◌, ℕ, ℤ, pos, ◌+◌, ◌<◌, List, [], ◌∷◌, ◌++◌, length, get_or, drop, Bool, true, false, cond, None, Some, refl, sym, ap, ◌∙◌, append_assoc}
use Rattle.std.specs.Prelude.{find, slice_index_or}
use Rattle.pg_base.proofs.ListSteps.{drop-item}
use Rattle.pg_base.specs.declared.cell.Cell.{Cell}
use Rattle.pg_base.specs.declared.enum_def.EnumDef.{EnumDef}
use Rattle.pg_base.specs.declared.table_def.ColumnDef.{ColumnDef}
use Rattle.ddl_reader.specs.declared.script.RowText.{RowText}
use Rattle.rows_reader.specs.Cells.{cell_of}
use Rattle.rows_reader.specs.Rows.{Slot, value_at, slots_from, cells_of}

pub find_none : {A : Type 0} (p : A → Bool) (x : A) (xs : List A) → find p (x ∷ xs) ≡ None → (p x ≡ false) × (find p xs ≡ None)
find_none p x xs e = by (p x) refl e
  where
    by : (b : Bool) → p x ≡ b → cond b (Some x) (find p xs) ≡ None → (p x ≡ false) × (find p xs ≡ None)
    by true t h = absurd (cc)
    by false t h = (t, h)

module _ (columns : List ColumnDef) (counters : List ℤ) (row : RowText) (i : ℕ) (column : ColumnDef) (lt : i < length columns) (at : column ≡ get_or columns i column) where
  abbrev slot : Slot
  slot = record { column = column; counter = slice_index_or counters i (pos 0); value = value_at row i }

  pub slots_step : slots_from i (drop i columns) counters row ≡ slot ∷ slots_from (i + 1) (drop (i + 1) columns) counters row
  slots_step = ap (λ (l : List ColumnDef). slots_from i l counters row) (drop-item columns i column lt at)

  pub kinds_turn : (p : Slot → Bool) → find p (slots_from i (drop i columns) counters row) ≡ None → (p slot ≡ false) × (find p (slots_from (i + 1) (drop (i + 1) columns) counters row) ≡ None)
  kinds_turn p e = find_none p slot (slots_from (i + 1) (drop (i + 1) columns) counters row) (sym (ap (λ (l : List Slot). find p l) slots_step) ∙ e)

  pub cells_turn : (enums : List EnumDef) (value : Cell) (cells more due : List Cell) → value ≡ cell_of enums column (slice_index_or counters i (pos 0)) (value_at row i) → more ≡ cells ++ value ∷ []
      → cells ++ cells_of enums (slots_from i (drop i columns) counters row) ≡ due → more ++ cells_of enums (slots_from (i + 1) (drop (i + 1) columns) counters row) ≡ due
  cells_turn enums value cells more due is pushed so_far =
      let rest = cells_of enums (slots_from (i + 1) (drop (i + 1) columns) counters row) in
      ap (λ (l : List Cell). l ++ rest) pushed
      ∙ append_assoc cells (value ∷ []) rest
      ∙ ap (λ (l : List Cell). cells ++ l) (ap (λ (v : Cell). v ∷ rest) is ∙ sym (ap (cells_of enums) slots_step))
      ∙ so_far
