-- A loop over columns and cells.
use Rattle.std.proofs.Common.{◌≡◌, ℕ, zero, suc, ◌≤◌, min, List, [], ◌∷◌, length, drop, Option, None, refl, sym, ◌∙◌, arith}
use Rattle.pg_base.specs.declared.cell.Cell.{Cell}
use Rattle.pg_base.specs.declared.table_def.ColumnDef.{ColumnDef}
use Rattle.rows_reader.specs.Faults.{first_null}

no_cells : (columns : List ColumnDef) → first_null columns [] ≡ None
no_cells [] = refl
no_cells (c ∷ columns) = refl

ends : (columns : List ColumnDef) (cells : List Cell) (i : ℕ) → min (length columns) (length cells) ≤ i → first_null (drop i columns) (drop i cells) ≡ None
ends [] cells zero le = refl
ends [] cells (suc i) le = refl
ends (c ∷ columns) [] zero le = refl
ends (c ∷ columns) [] (suc i) le = no_cells (drop i columns)
ends (c ∷ columns) (value ∷ cells) zero le = absurd (omega arith)
ends (c ∷ columns) (value ∷ cells) (suc i) le = ends columns cells i (omega arith)

pub null_ends : (columns : List ColumnDef) (cells : List Cell) (i n : ℕ) (due : Option (List ℕ)) → n ≡ min (length columns) (length cells) → n ≤ i → first_null (drop i columns) (drop i cells) ≡ due → None ≡ due
null_ends columns cells i n due is le so_far = sym (ends columns cells i (omega (arith, is, le))) ∙ so_far
