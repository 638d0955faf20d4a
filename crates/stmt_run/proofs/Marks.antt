-- Rows that are put in order by their marks and cells are in the order of their cells.
use Rattle.std.proofs.Common.{◌≡◌, ℕ, ℤ, pos, negsuc, ◌-◌, ◌<◌, ◌≤◌, ◌^◌, List, [], ◌∷◌, map, Bool, true, false, refl, sym, ap, ◌∙◌, subst, arith}
use Rattle.std.specs.Prelude.{if◌then◌else◌}
use Rattle.std.specs.declared.cmp.Ordering.{Ordering}
use Rattle.std.specs.declared.cmp.Ordering.TheVariants.{Less, Equal, Greater}
use Rattle.std.specs.Prelude.{◌<ℤ◌}
use Rattle.std.specs.Ordering.{nat_cmp, int_cmp, ordering_then, ordering_reverse, is_lt}
use Rattle.std.specs.Cmp.{IsTotalOrder, int_cmp_is}
use Rattle.std.proofs.lemmas.Bool.Decides.{nat_tests}
use Rattle.std.proofs.lemmas.Int.{ints}
use Rattle.std.proofs.lemmas.Cmp.{on_total, then_total, nat_cmp_total}
use Rattle.pg_base.specs.declared.cell.Cell.{Cell}
use Rattle.pg_base.specs.declared.cell.Cell.TheVariants as cell
use Rattle.pg_base.specs.Lists.{Each}
use Rattle.rel_model.specs.declared.tables.Row.{Row}
use Rattle.rel_model.specs.declared.window.By.{By}
use Rattle.rel_model.specs.Ordered.{cell_order, cells_order, cells_by, first_cell, other_cells, ascending, inserted, sorted_by}
use Rattle.rel_model.proofs.Orders.{cell_order_total, cells_order_total}
use Rattle.rel_model.proofs.Sorting.{sorted_by-map}
use Rattle.stmt_run.specs.declared.placing.Placed.{Placed}
use Rattle.stmt_run.specs.Grouped.{comes_before, grouped}
use Rattle.stmt_run.specs.Marks.{int_mark, cell_mark, key_mark, row_mark, placed_order, placed_before, IsMarked}

pub placed_total : (order : List By) → IsTotalOrder (placed_order order)
placed_total order = then_total (on_total (λ (p : Placed). p.mark) nat_cmp_total) (on_total (λ (p : Placed). cells_by order p.row.now.cells) (cells_order_total order))

-- ---- the marks tell no other order than the cells

abbrev Tells : ℕ → ℕ → Ordering → Type 0
Tells m n r = ordering_then (nat_cmp m n) r ≡ r

-- where a mark is less, the cell stands before
tells : (m n : ℕ) (r : Ordering) → (nat_cmp m n ≡ Less → r ≡ Less) → (nat_cmp m n ≡ Greater → r ≡ Greater) → Tells m n r
tells m n r less greater = by (nat_cmp m n) refl
  where
    by : (o : Ordering) → nat_cmp m n ≡ o → Tells m n r
    by Less e = ap (λ o. ordering_then o r) e ∙ sym (less e)
    by Equal e = ap (λ o. ordering_then o r) e
    by Greater e = ap (λ o. ordering_then o r) e ∙ sym (greater e)

pub less_than : (m n : ℕ) → nat_cmp m n ≡ Less → m < n
less_than m n e = grind (arith, nat_tests)

pub more_than : (m n : ℕ) → nat_cmp m n ≡ Greater → n < m
more_than m n e = grind (arith, nat_tests)

int_less : (m n : ℤ) → int_mark m < int_mark n → int_cmp m n ≡ Less
int_less (pos m) (pos n) lt = let k : m < n = omega (arith, lt) in sym (int_cmp_is (pos m) (pos n) Less (let h : pos m <ℤ pos n = omega (arith, ints, k) in h))
int_less (pos m) (negsuc n) lt = absurd (omega (arith, lt))
int_less (negsuc m) (pos n) lt = sym (int_cmp_is (negsuc m) (pos n) Less (let h : negsuc m <ℤ pos n = omega (arith, ints) in h))
int_less (negsuc m) (negsuc n) lt = let k : n < m = omega (arith, lt) in sym (int_cmp_is (negsuc m) (negsuc n) Less (let h : negsuc m <ℤ negsuc n = omega (arith, ints, k) in h))

int_most : (n : ℤ) → int_mark n ≤ 2 ^ 64 - 1
int_most (pos n) = omega arith
int_most (negsuc n) = omega arith

mark_most : (c : Cell) → cell_mark c ≤ 2 ^ 64 - 1
mark_most (cell.Int n) = int_most n
mark_most (cell.Bool b) = omega arith
mark_most (cell.Text t) = omega arith
mark_most (cell.EnumCase place) = omega arith
mark_most cell.Null = omega arith

cell_less : (a b : Cell) → cell_mark a < cell_mark b → cell_order a b ≡ Less
unfolding cell_order
cell_less (cell.Int m) (cell.Int n) lt = ap (λ o. ordering_then o Equal) (int_less m n lt)
cell_less (cell.Int m) (cell.Bool b) lt = refl
cell_less (cell.Int m) (cell.Text t) lt = refl
cell_less (cell.Int m) (cell.EnumCase place) lt = refl
cell_less (cell.Int m) cell.Null lt = refl
cell_less (cell.Bool b) c lt = absurd (let k = mark_most c in omega (arith, lt, k))
cell_less (cell.Text t) c lt = absurd (let k = mark_most c in omega (arith, lt, k))
cell_less (cell.EnumCase place) c lt = absurd (let k = mark_most c in omega (arith, lt, k))
cell_less cell.Null c lt = absurd (let k = mark_most c in omega (arith, lt, k))

pub keys_tell : (columns : List ℕ) (xs ys : List Cell) → ordering_then (nat_cmp (key_mark columns xs) (key_mark columns ys)) (cells_order (ascending columns) xs ys) ≡ cells_order (ascending columns) xs ys
keys_tell [] xs ys = refl
keys_tell (column ∷ columns) xs ys =
    let x = first_cell xs in let y = first_cell ys in
    let rest = cells_order (ascending columns) (other_cells xs) (other_cells ys) in
    tells (cell_mark x) (cell_mark y) (ordering_then (cell_order x y) rest)
    (λ e. ap (λ o. ordering_then o rest) (cell_less x y (less_than (cell_mark x) (cell_mark y) e)))
    (λ e. ap (λ o. ordering_then o rest)
    (cell_order_total.antisymm x y ∙ ap ordering_reverse (cell_less y x (more_than (cell_mark x) (cell_mark y) e))))

-- ---- two tests that agree sort alike

module _ {X : Type 0} (lt lt' : X → X → Bool) (P : X → Type 0) (same : (a b : X) → P a → P b → lt a b ≡ lt' a b) where
  each_inserted : (x : X) (ys : List X) → P x → Each P ys → Each P (inserted lt x ys)
  each_inserted x [] p h = (p, tt)
  each_inserted x (y ∷ ys) p h = elim (lt y x) as (λ b. Each P (if b then y ∷ inserted lt x ys else x ∷ y ∷ ys)) [ true ↦ (h.0, each_inserted x ys p h.1) | false ↦ (p, h) ]

  pub each_sorted : (xs : List X) → Each P xs → Each P (sorted_by lt xs)
  each_sorted [] h = tt
  each_sorted (x ∷ xs) h = each_inserted x (sorted_by lt xs) h.0 (each_sorted xs h.1)

  same_inserted : (x : X) (ys : List X) → P x → Each P ys → inserted lt x ys ≡ inserted lt' x ys
  same_inserted x [] p h = refl
  same_inserted x (y ∷ ys) p h =
      ap (λ b. if b then y ∷ inserted lt x ys else x ∷ y ∷ ys) (same y x h.0 p)
      ∙ ap (λ l. if lt' y x then y ∷ l else x ∷ y ∷ ys) (same_inserted x ys p h.1)

  pub same_sorted : (xs : List X) → Each P xs → sorted_by lt xs ≡ sorted_by lt' xs
  same_sorted [] h = refl
  same_sorted (x ∷ xs) h = same_inserted x (sorted_by lt xs) h.0 (each_sorted xs h.1) ∙ ap (inserted lt' x) (same_sorted xs h.1)

abbrev row_of : Placed → Row
row_of p = p.row.now

module _ (columns : List ℕ) (order : List By) (is : order ≡ ascending columns) (old : List Placed) (marked : Each (IsMarked columns) old) where
  agree : (a b : Placed) → IsMarked columns a → IsMarked columns b → placed_before order a b ≡ comes_before order a.row.now b.row.now
  agree a b p q =
      let r = cells_order (ascending columns) (cells_by (ascending columns) a.row.now.cells) (cells_by (ascending columns) b.row.now.cells) in
      subst (λ o. placed_before o a b ≡ comes_before o a.row.now b.row.now) (sym is)
      (ap (λ m. is_lt (ordering_then (nat_cmp m b.mark) r)) p
      ∙ ap (λ n. is_lt (ordering_then (nat_cmp (row_mark columns a.row.now) n) r)) q
      ∙ ap is_lt (keys_tell columns (cells_by (ascending columns) a.row.now.cells) (cells_by (ascending columns) b.row.now.cells)))

  pub placed_grouped : (new : List Placed) → new ≡ sorted_by (placed_before order) old → map (λ p. p.row.now) new ≡ grouped order (map (λ p. p.row.now) old)
  placed_grouped new e =
      ap (map row_of) e
      ∙ ap (map row_of) (same_sorted (placed_before order) (λ (a b : Placed). comes_before order a.row.now b.row.now) (IsMarked columns) agree old marked)
      ∙ sym (sorted_by-map row_of (comes_before order) old)

  marks_are : (ps : List Placed) → Each (IsMarked columns) ps → map (λ p. p.mark) ps ≡ map (row_mark columns) (map (λ p. p.row.now) ps)
  marks_are [] h = refl
  marks_are (p ∷ ps) h = ap (λ m. m ∷ map (λ (q : Placed). q.mark) ps) h.0 ∙ ap (λ l. row_mark columns p.row.now ∷ l) (marks_are ps h.1)

  pub placed_marks : (new : List Placed) → new ≡ sorted_by (placed_before order) old → map (λ p. p.mark) new ≡ map (row_mark columns) (map (λ p. p.row.now) new)
  placed_marks new e =
      marks_are new (subst (Each (IsMarked columns)) (sym e) (each_sorted (placed_before order) (λ (a b : Placed). comes_before order a.row.now b.row.now) (IsMarked columns) agree old marked))
