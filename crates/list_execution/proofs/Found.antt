-- What is found at a place of a list.
use Rattle.std.proofs.Common.{◌≡◌, ℕ, ◌-◌, suc, List, [], ◌∷◌, length, Option, Some, None, refl, sym, ap, ◌∙◌, arith}
use Rattle.std.specs.Prelude.{slice_get, option_map}
use Rattle.std.specs.List.{ItemBy}
use Rattle.std.proofs.lemmas.Option.{slice_get_past, slice_get-get_or}
use Rattle.rel_model.specs.declared.tables.Row.{Row}
use Rattle.place_tree.specs.Exec.{last_row}

pub found_at : {R X : Type 0} (now : R → X) (xs : List X) (i : ℕ) (r : Option R) → ItemBy now xs i i r → option_map now r ≡ slice_get xs i
found_at now xs i None h = sym (slice_get_past xs i h.3)
found_at now xs i (Some x) h = ap (λ y. Some y) h.1 ∙ sym (slice_get-get_or xs i (now x) h.3.0)

-- the last of some rows
pub last_get : (rows : List Row) → slice_get rows (length rows - 1) ≡ last_row rows
last_get [] = refl
last_get (row ∷ []) = refl
last_get (row ∷ other ∷ rows) =
    let here : length (row ∷ other ∷ rows) - 1 ≡ suc (length rows) = omega arith in
    let there : length (other ∷ rows) - 1 ≡ length rows = omega arith in
    ap (slice_get (row ∷ other ∷ rows)) here ∙ sym (ap (slice_get (other ∷ rows)) there) ∙ last_get (other ∷ rows)
