-- A turn of a loop over an order.
use Rattle.std.proofs.Common.{◌≡◌, ℕ, zero, suc, ◌+◌, ◌<◌, ◌≤◌, min, subst, List, [], ◌∷◌, length, get_or, drop, true, false, refl, sym, ap, ◌∙◌, arith, add-one}
use Rattle.std.specs.declared.cmp.Ordering.{Ordering}
use Rattle.std.specs.declared.cmp.Ordering.TheVariants.{Less, Equal, Greater}
use Rattle.std.specs.Ordering.{is_ne, ordering_then}
use Rattle.pg_base.specs.declared.cell.Cell.{Cell}
use Rattle.pg_base.proofs.ListSteps.{drop-past}
use Rattle.rel_model.specs.declared.window.By.{By}
use Rattle.rel_model.specs.Picked.{cell_at, has_key}
use Rattle.rel_model.specs.Ordered.{cell_order, turned, first_cell, other_cells, cells_order, cells_by}

cell_first : (xs : List Cell) (i : ℕ) → first_cell (drop i xs) ≡ cell_at xs i
cell_first [] zero = refl
cell_first [] (suc i) = refl
cell_first (x ∷ xs) zero = refl
cell_first (x ∷ xs) (suc i) = cell_first xs i

others_after : (xs : List Cell) (i : ℕ) → other_cells (drop i xs) ≡ drop (suc i) xs
others_after [] zero = refl
others_after [] (suc i) = refl
others_after (x ∷ xs) zero = refl
others_after (x ∷ xs) (suc i) = others_after xs i

others_next : (xs : List Cell) (i : ℕ) → other_cells (drop i xs) ≡ drop (i + 1) xs
others_next xs i = rw add-one (others_after xs i)

then_stops : (r s : Ordering) → is_ne r ≡ true → ordering_then r s ≡ r
then_stops Less s h = refl
then_stops Equal s h = cc
then_stops Greater s h = refl

then_goes : (r s : Ordering) → is_ne r ≡ false → ordering_then r s ≡ s
then_goes Less s h = cc
then_goes Equal s h = refl
then_goes Greater s h = cc

item_after : {A : Type 0} (xs : List A) (i : ℕ) (d : A) → i < length xs → drop i xs ≡ get_or xs i d ∷ drop (suc i) xs
item_after [] i d lt = absurd (omega arith)
item_after (x ∷ xs) zero d lt = refl
item_after (x ∷ xs) (suc i) d lt = item_after xs i d (omega arith)

item_at : {A : Type 0} (xs : List A) (i : ℕ) (d : A) → i < length xs → drop i xs ≡ get_or xs i d ∷ drop (i + 1) xs
item_at xs i d lt = rw add-one (item_after xs i d lt)

module _ (order : List By) (i : ℕ) (d : By) (lt : i < length order) (r : Ordering) where
  abbrev b : By
  b = get_or order i d

  -- a row with values that stand for themselves
  module _ (cells ys : List Cell) (h : r ≡ turned b.descending (cell_order (cell_at cells b.column) (cell_at ys i))) where
    values_here : cells_order (drop i order) (cells_by (drop i order) cells) (drop i ys) ≡ ordering_then r (cells_order (drop (i + 1) order) (cells_by (drop (i + 1) order) cells) (drop (i + 1) ys))
    values_here =
        ap (λ o. cells_order o (cells_by o cells) (drop i ys)) (item_at order i d lt)
        ∙ ap (λ c. ordering_then (turned b.descending (cell_order (cell_at cells b.column) c)) (cells_order (drop (i + 1) order) (cells_by (drop (i + 1) order) cells) (other_cells (drop i ys)))) (cell_first ys i)
        ∙ ap (λ v. ordering_then v (cells_order (drop (i + 1) order) (cells_by (drop (i + 1) order) cells) (other_cells (drop i ys)))) (sym h)
        ∙ ap (λ l. ordering_then r (cells_order (drop (i + 1) order) (cells_by (drop (i + 1) order) cells) l)) (others_next ys i)

    pub values_stop : (total : Ordering) → cells_order (drop i order) (cells_by (drop i order) cells) (drop i ys) ≡ total → is_ne r ≡ true → r ≡ total
    values_stop total e n = sym (then_stops r _ n) ∙ sym values_here ∙ e

    pub values_go : (total : Ordering) → cells_order (drop i order) (cells_by (drop i order) cells) (drop i ys) ≡ total → is_ne r ≡ false → cells_order (drop (i + 1) order) (cells_by (drop (i + 1) order) cells) (drop (i + 1) ys) ≡ total
    values_go total e n = sym (then_goes r _ n) ∙ sym values_here ∙ e

  -- two rows
  module _ (xs ys : List Cell) (h : r ≡ turned b.descending (cell_order (cell_at xs b.column) (cell_at ys b.column))) where
    both_here : cells_order (drop i order) (cells_by (drop i order) xs) (cells_by (drop i order) ys) ≡ ordering_then r (cells_order (drop (i + 1) order) (cells_by (drop (i + 1) order) xs) (cells_by (drop (i + 1) order) ys))
    both_here =
        ap (λ o. cells_order o (cells_by o xs) (cells_by o ys)) (item_at order i d lt)
        ∙ ap (λ v. ordering_then v (cells_order (drop (i + 1) order) (cells_by (drop (i + 1) order) xs) (cells_by (drop (i + 1) order) ys))) (sym h)

    pub both_stop : (total : Ordering) → cells_order (drop i order) (cells_by (drop i order) xs) (cells_by (drop i order) ys) ≡ total → is_ne r ≡ true → r ≡ total
    both_stop total e n = sym (then_stops r _ n) ∙ sym both_here ∙ e

    pub both_go : (total : Ordering) → cells_order (drop i order) (cells_by (drop i order) xs) (cells_by (drop i order) ys) ≡ total → is_ne r ≡ false → cells_order (drop (i + 1) order) (cells_by (drop (i + 1) order) xs) (cells_by (drop (i + 1) order) ys) ≡ total
    both_go total e n = sym (then_goes r _ n) ∙ sym both_here ∙ e

-- a key is met where either list ends
pub key_ends : (by : List ℕ) (key cells : List Cell) (m : ℕ) → min (length by) (length key) ≤ m → has_key (drop m by) (drop m key) cells ≡ true
key_ends [] key cells m le = subst (λ b. has_key b (drop m key) cells ≡ true) (sym (drop-past [] m (omega arith))) refl
key_ends (p ∷ by) [] cells m le = subst (λ k. has_key (drop m (p ∷ by)) k cells ≡ true) (sym (drop-past [] m (omega arith))) (no_key (drop m (p ∷ by)))
  where
    no_key : (by : List ℕ) → has_key by [] cells ≡ true
    no_key [] = refl
    no_key (p ∷ by) = refl
key_ends (p ∷ by) (v ∷ key) cells zero le = absurd (omega (arith, le))
key_ends (p ∷ by) (v ∷ key) cells (suc m) le = key_ends by key cells m (omega (arith, le))
