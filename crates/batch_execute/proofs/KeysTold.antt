-- The keys of rows: each is that of some row, each row has one, and they ascend.
use Rattle.std.proofs.Common.{◌≡◌, ◌⊎◌, List, [], ◌∷◌, map, Option, Some, None, Bool, true, false, cond, inl, inr, refl, sym, ap, ◌∙◌, subst}
use Rattle.std.specs.declared.cmp.Ordering.{Ordering}
use Rattle.std.specs.declared.cmp.Ordering.TheVariants.{Less, Equal, Greater}
use Rattle.std.specs.Ordering.{is_lt, ordering_reverse}
use Rattle.std.specs.Cmp.{IsTotalOrder}
use Rattle.std.proofs.lemmas.List.Sorted.{ranks_by}
use Rattle.pg_base.specs.declared.cell.Cell.{Cell}
use Rattle.pg_base.specs.Lists.{Each}
use Rattle.rel_model.specs.declared.window.By.{By}
use Rattle.rel_model.specs.Ordered.{cells_by, cells_order, inserted, sorted_by}
use Rattle.rel_model.proofs.Orders.{cells_order_total}
use Rattle.rel_model.proofs.Sorting.{NoneLess, Rises, rises_sorted}
use Rattle.plan_steps.specs.Values.{row_of}
use Rattle.stmt_tree.specs.declared.found.Key.{Key}
use Rattle.stmt_tree.specs.declared.found.RowTree.{RowTree}
use Rattle.batch_execute.specs.Fetched.{AreAscending}
use Rattle.batch_execute.specs.Keys.{key_of, tree_cells, stands_before, is_new, firsts, distinct, keys_in}
use Rattle.batch_execute.proofs.Items.{IsIn, in_map, in_mapped}
use Rattle.batch_execute.proofs.CellsEqual.{alike_equal}

-- ---- a sorted list has the same items

module _ {A : Type 0} (lt : A → A → Bool) (x : A) where
  into_inserted : (y : A) (ys : List A) → IsIn x (y ∷ ys) → IsIn x (inserted lt y ys)
  into_inserted y [] h = h
  into_inserted y (z ∷ ys) h = by (lt z y) (into_inserted y ys) h where
    by : (b : Bool) → (IsIn x (y ∷ ys) → IsIn x (inserted lt y ys)) → IsIn x (y ∷ z ∷ ys) → IsIn x (cond b (z ∷ inserted lt y ys) (y ∷ z ∷ ys))
    by true later (inl e) = inr (later (inl e))
    by true later (inr (inl e)) = inl e
    by true later (inr (inr k)) = inr (later (inr k))
    by false later h = h

  out_of_inserted : (y : A) (ys : List A) → IsIn x (inserted lt y ys) → IsIn x (y ∷ ys)
  out_of_inserted y [] h = h
  out_of_inserted y (z ∷ ys) h = by (lt z y) (out_of_inserted y ys) h where
    by : (b : Bool) → (IsIn x (inserted lt y ys) → IsIn x (y ∷ ys)) → IsIn x (cond b (z ∷ inserted lt y ys) (y ∷ z ∷ ys)) → IsIn x (y ∷ z ∷ ys)
    by true later (inl e) = inr (inl e)
    by true later (inr k) = elim (later k) [ inl e ↦ inl e | inr m ↦ inr (inr m) ]
    by false later h = h

  pub into_sorted : (ys : List A) → IsIn x ys → IsIn x (sorted_by lt ys)
  into_sorted [] h = h
  into_sorted (y ∷ ys) (inl e) = into_inserted y (sorted_by lt ys) (inl e)
  into_sorted (y ∷ ys) (inr h) = into_inserted y (sorted_by lt ys) (inr (into_sorted ys h))

  pub out_of_sorted : (ys : List A) → IsIn x (sorted_by lt ys) → IsIn x ys
  out_of_sorted [] h = h
  out_of_sorted (y ∷ ys) h = elim (out_of_inserted y (sorted_by lt ys) h) [ inl e ↦ inl e | inr k ↦ inr (out_of_sorted ys k) ]

-- ---- the first of those that are the same

module _ (order : List By) where
  abbrev R : List Cell → List Cell → Ordering
  R = cells_order order

  abbrev before : List Cell → List Cell → Bool
  before = stands_before order

  total : IsTotalOrder (cells_order order)
  total = cells_order_total order

  -- neither stands before the other
  level : (x y : List Cell) (r : Ordering) → R x y ≡ r → before x y ≡ false → before y x ≡ false → R x y ≡ Equal
  level x y Less e h k = absurd (let z : is_lt Less ≡ false = sym (ap is_lt e) ∙ h in cc)
  level x y Equal e h k = e
  level x y Greater e h k = absurd (let back : R y x ≡ Less = total.antisymm y x ∙ ap ordering_reverse e in let z : is_lt Less ≡ false = sym (ap is_lt back) ∙ k in cc)

  before_less : (x y : List Cell) (r : Ordering) → R x y ≡ r → before x y ≡ true → R x y ≡ Less
  before_less x y Less e h = e
  before_less x y Equal e h = absurd (let z : is_lt Equal ≡ true = sym (ap is_lt e) ∙ h in cc)
  before_less x y Greater e h = absurd (let z : is_lt Greater ≡ true = sym (ap is_lt e) ∙ h in cc)

  of_firsts : (c : List Cell) (last : Option (List Cell)) (cells : List (List Cell)) → IsIn c (firsts order last cells) → IsIn c cells
  of_firsts c last [] h = h
  of_firsts c last (x ∷ cells) h = by (is_new order last x) (of_firsts c (Some x) cells) h where
    by : (b : Bool) → (IsIn c (firsts order (Some x) cells) → IsIn c cells) → IsIn c (cond b (x ∷ firsts order (Some x) cells) (firsts order (Some x) cells)) → IsIn c (x ∷ cells)
    by true later (inl e) = inl e
    by true later (inr k) = inr (later k)
    by false later k = inr (later k)

  -- what is the same as the one before stands for it
  abbrev StandsFor : Option (List Cell) → List Cell → Type 0
  StandsFor None c = ⊥
  StandsFor (Some last) c = R last c ≡ Equal

  abbrev NotBefore : Option (List Cell) → List (List Cell) → Type 0
  NotBefore None cells = Unit {0}
  NotBefore (Some last) cells = NoneLess before last cells

  -- the cells of some row
  abbrev OfRow : List Cell → Type 0
  OfRow c = (cells : List Cell) × (c ≡ cells_by order cells)

  same : (x y : List Cell) → OfRow x → OfRow y → R x y ≡ Equal → x ≡ y
  same x y a b e =
      let there : R (cells_by order a.0) (cells_by order b.0) ≡ Equal = subst (λ u. R u (cells_by order b.0) ≡ Equal) a.1 (subst (λ v. R x v ≡ Equal) b.1 e) in
      a.1 ∙ alike_equal order a.0 b.0 there ∙ sym b.1

  module _ (c : List Cell) (of_row : OfRow c) where
    has_first : (last : Option (List Cell)) (cells : List (List Cell)) → Each OfRow cells → Rises before cells → NotBefore last cells → IsIn c cells → IsIn c (firsts order last cells) ⊎ StandsFor last c
    has_first last [] all up low h = absurd h
    has_first last (x ∷ cells) all up low h = by (is_new order last x) refl (has_first (Some x) cells all.1 up.1 up.0) h where
      old : (last : Option (List Cell)) → NotBefore last (x ∷ cells) → is_new order last x ≡ false → (c : List Cell) → R x c ≡ Equal → StandsFor last c
      old None low e c k = cc
      old (Some b) low e c k = total.congr b x c (level b x (R b x) refl e low.0) ∙ k

      itself : R x x ≡ Equal
      itself = by_turn (R x x) (total.antisymm x x) where
        by_turn : (r : Ordering) → r ≡ ordering_reverse r → r ≡ Equal
        by_turn Less e = cc
        by_turn Equal e = refl
        by_turn Greater e = cc

      by : (b : Bool) → is_new order last x ≡ b → (IsIn c cells → IsIn c (firsts order (Some x) cells) ⊎ StandsFor (Some x) c) → IsIn c (x ∷ cells) → IsIn c (cond b (x ∷ firsts order (Some x) cells) (firsts order (Some x) cells)) ⊎ StandsFor last c
      by true e later (inl q) = inl (inl q)
      by true e later (inr k) = elim (later k) [ inl m ↦ inl (inr m) | inr m ↦ inl (inl (same x c all.0 of_row m)) ]
      by false e later (inl q) = inr (old last low e c (subst (λ y. R x y ≡ Equal) q itself))
      by false e later (inr k) = elim (later k) [ inl m ↦ inl m | inr m ↦ inr (old last low e c m) ]

  abbrev After : List Cell → List (List Cell) → Type 0
  After b cells = Each (λ c. R b c ≡ Less) cells

  abbrev Climb : List (List Cell) → Type 0
  Climb [] = Unit {0}
  Climb (c ∷ cells) = After c cells × Climb cells

  after_less : (a b : List Cell) (cells : List (List Cell)) → R a b ≡ Less → After b cells → After a cells
  after_less a b [] h k = tt
  after_less a b (c ∷ cells) h k = (total.trans a b c h k.0, after_less a b cells h k.1)

  after_level : (a b : List Cell) (cells : List (List Cell)) → R a b ≡ Equal → After b cells → After a cells
  after_level a b [] h k = tt
  after_level a b (c ∷ cells) h k = (total.congr a b c h ∙ k.0, after_level a b cells h k.1)

  after_last : (b : List Cell) (cells : List (List Cell)) → Rises before cells → NoneLess before b cells → After b (firsts order (Some b) cells)
  after_last b [] up low = tt
  after_last b (x ∷ cells) up low = by (before b x) refl (after_last x cells up.1 up.0) where
    by : (t : Bool) → before b x ≡ t → After x (firsts order (Some x) cells) → After b (cond t (x ∷ firsts order (Some x) cells) (firsts order (Some x) cells))
    by true e later = let less = before_less b x (R b x) refl e in (less, after_less b x (firsts order (Some x) cells) less later)
    by false e later = after_level b x (firsts order (Some x) cells) (level b x (R b x) refl e low.0) later

  firsts_climb : (last : Option (List Cell)) (cells : List (List Cell)) → Rises before cells → Climb (firsts order last cells)
  firsts_climb last [] up = tt
  firsts_climb last (x ∷ cells) up = by (is_new order last x) (firsts_climb (Some x) cells up.1) where
    by : (b : Bool) → Climb (firsts order (Some x) cells) → Climb (cond b (x ∷ firsts order (Some x) cells) (firsts order (Some x) cells))
    by true later = (after_last x cells up.1 up.0, later)
    by false later = later

  -- ---- keys

  keys_after : (c : List Cell) (cells : List (List Cell)) → After c cells → Each (λ (j : Key). R c j.cells ≡ Less) (map key_of cells)
  keys_after c [] h = tt
  keys_after c (d ∷ cells) h = (h.0, keys_after c cells h.1)

  keys_climb : (cells : List (List Cell)) → Climb cells → AreAscending order (map key_of cells)
  keys_climb [] h = tt
  keys_climb (c ∷ cells) h = (keys_after c cells h.0, keys_climb cells h.1)

  rising : (cells : List (List Cell)) → Rises before (sorted_by before cells)
  rising cells = rises_sorted before (ranks_by total (λ (c : List Cell). c)) cells

  pub keys_ascend : (trees : List RowTree) → AreAscending order (keys_in order trees)
  keys_ascend trees = keys_climb (distinct order (map (tree_cells order) trees)) (firsts_climb None (sorted_by before (map (tree_cells order) trees)) (rising (map (tree_cells order) trees)))

  -- each is that of a row
  pub record IsKeyOf (key : Key) (trees : List RowTree) : Type 0 where
    pub tree : RowTree
    pub among : IsIn tree trees
    pub is : key.cells ≡ tree_cells order tree

  pub key_from : (key : Key) (trees : List RowTree) → IsIn key (keys_in order trees) → IsKeyOf key trees
  key_from key trees h =
      let made = in_mapped key_of key (distinct order (map (tree_cells order) trees)) h in
      let sorted = of_firsts made.from None (sorted_by before (map (tree_cells order) trees)) made.among in
      let plain = out_of_sorted before made.from (map (tree_cells order) trees) sorted in
      let row = in_mapped (tree_cells order) made.from trees plain in
      record { tree = row.from; among = row.among; is = ap (λ (k : Key). k.cells) (sym made.is) ∙ sym row.is }

  rows_of_cells : (trees : List RowTree) → Each OfRow (map (tree_cells order) trees)
  rows_of_cells [] = tt
  rows_of_cells (t ∷ trees) = (((row_of t).cells, refl), rows_of_cells trees)

  each_in : (P : List Cell → Type 0) (xs ys : List (List Cell)) → Each P ys → ((x : List Cell) → IsIn x xs → IsIn x ys) → Each P xs
  each_in P [] ys h sub = tt
  each_in P (x ∷ xs) ys h sub = (at ys h (sub x (inl refl)), each_in P xs ys h (λ z i. sub z (inr i))) where
    at : (ys : List (List Cell)) → Each P ys → IsIn x ys → P x
    at [] h i = absurd i
    at (y ∷ ys) h (inl e) = subst P e h.0
    at (y ∷ ys) h (inr i) = at ys h.1 i

  -- each row has one
  pub key_there : (tree : RowTree) (trees : List RowTree) → IsIn tree trees → IsIn (key_of (tree_cells order tree)) (keys_in order trees)
  key_there tree trees h =
      let cells = map (tree_cells order) trees in
      let sorted = sorted_by before cells in
      let there : IsIn (tree_cells order tree) sorted = into_sorted before (tree_cells order tree) cells (in_map (tree_cells order) tree trees h) in
      let rows : Each OfRow sorted = each_in OfRow sorted cells (rows_of_cells trees) (λ z i. out_of_sorted before z cells i) in
      elim (has_first (tree_cells order tree) ((row_of tree).cells, refl) None sorted rows (rising cells) tt there) [
        | inl k ↦ in_map key_of (tree_cells order tree) (distinct order cells) k
        | inr k ↦ absurd k
      ]
