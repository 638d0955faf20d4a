-- A loop that looks through rows.
use Rattle.std.proofs.Common.{◌≡◌, ℕ, ◌+◌, ◌<◌, List, length, get_or, drop, Bool, true, false, ◌||◌, sym, ap, ◌∙◌}
use Rattle.pg_base.proofs.ListSteps.{drop-item}
use Rattle.pg_base.specs.declared.cell.Cell.{Cell}
use Rattle.rel_model.specs.declared.tables.Row.{Row}
use Rattle.rel_model.specs.Tables.{cells_at}
use Rattle.rows_reader.specs.Keys.{same_cells, stands, keys_at}

module _ (places : List ℕ) (rows : List Row) (key other : List Cell) (i : ℕ) (row : Row) (lt : i < length rows) (at : row ≡ get_or rows i row) (is : other ≡ cells_at places row.cells) (due : Bool) (so_far : stands (keys_at places (drop i rows)) key ≡ due) where
  step : (same_cells key other || stands (keys_at places (drop (i + 1) rows)) key) ≡ due
  step =
      ap (λ (k : List Cell). same_cells key k || stands (keys_at places (drop (i + 1) rows)) key) is
      ∙ sym (ap (λ (l : List Row). stands (keys_at places l) key) (drop-item rows i row lt at))
      ∙ so_far

  pub finds : true ≡ same_cells key other → true ≡ due
  finds e = ap (λ (b : Bool). b || stands (keys_at places (drop (i + 1) rows)) key) e ∙ step

  pub goes_on : false ≡ same_cells key other → stands (keys_at places (drop (i + 1) rows)) key ≡ due
  goes_on e = ap (λ (b : Bool). b || stands (keys_at places (drop (i + 1) rows)) key) e ∙ step
