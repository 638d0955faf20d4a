-- Ordered lists and intervals: what they hold, and where they end.
use Rattle.std.proofs.Common.{◌≡◌, cond, ap, ◌∙◌, refl, ℕ, ◌+◌, ◌≤◌, min, max, List, [], ◌∷◌, length, Option, Some, None, Bool, true, false, arith, le_refl}
use Rattle.std.specs.Prelude.{if◌then◌else◌, not}
use Rattle.std.specs.List.Sorted.{IsPermutation}
use Rattle.std.proofs.lemmas.List.Sorted.{IsPermutation-refl, IsPermutation-cons, IsPermutation-trans, IsPermutation-swap, length_permutation, sum_by-IsPermutation}
use Rattle.std.proofs.lemmas.List.Sums.{count_by-le-length}
use Rattle.pg_base.specs.declared.cell.Mark.{Mark}
use Rattle.rel_model.specs.declared.tables.Row.{Row}
use Rattle.rel_model.specs.declared.window.By.{By}
use Rattle.rel_model.specs.declared.window.Window.{Window}
use Rattle.rel_model.specs.Ordered.{inserted, sorted_by, precedes, ordered, stands_before, stands_after}
use Rattle.rel_model.specs.Interval.{begin_after, end_before, end_of_first, begin_of_last, windowed, interval_of}

module _ {X : Type 0} (lt : X → X → Bool) where
  inserted_permutes : (x : X) (ys : List X) → IsPermutation (x ∷ ys) (inserted lt x ys)
  inserted_permutes x [] = IsPermutation-refl (x ∷ [])
  inserted_permutes x (y ∷ ys) = by (lt y x) (inserted_permutes x ys)
    where
      by : (b : Bool) → IsPermutation (x ∷ ys) (inserted lt x ys) → IsPermutation (x ∷ y ∷ ys) (if b then y ∷ inserted lt x ys else x ∷ y ∷ ys)
      by true h = IsPermutation-trans _ (y ∷ x ∷ ys) _ (IsPermutation-swap (x ∷ y ∷ ys) (y ∷ x ∷ ys) 0 1 (omega arith) (omega arith) refl) (IsPermutation-cons y _ _ h)
      by false h = IsPermutation-refl (x ∷ y ∷ ys)

  pub sorted_permutes : (xs : List X) → IsPermutation xs (sorted_by lt xs)
  sorted_permutes [] = IsPermutation-refl []
  sorted_permutes (x ∷ xs) = IsPermutation-trans _ (x ∷ sorted_by lt xs) _ (IsPermutation-cons x xs (sorted_by lt xs) (sorted_permutes xs)) (inserted_permutes x (sorted_by lt xs))

-- an order only moves rows
pub ordered_permutes : (order : List By) (rows : List Row) → IsPermutation rows (ordered order rows)
ordered_permutes order rows = sorted_permutes (precedes order) rows

pub length-ordered : (order : List By) (rows : List Row) → length (ordered order rows) ≡ length rows
length-ordered order rows = length_permutation rows (ordered order rows) (ordered_permutes order rows)

-- ---- intervals

after_within : (order : List By) (m : Option Mark) (list : List Row) → begin_after order m list ≤ length list
after_within order None list = omega arith
after_within order (Some mark) list = count_by-le-length (λ row. not (stands_after order mark row)) list

before_within : (order : List By) (m : Option Mark) (list : List Row) → end_before order m list ≤ length list
before_within order None list = le_refl (length list)
before_within order (Some mark) list = count_by-le-length (stands_before order mark) list

first_within : (f : Option ℕ) (a b : ℕ) → a ≤ b → (a ≤ end_of_first f a b) × (end_of_first f a b ≤ b)
first_within None a b h = (h, le_refl b)
first_within (Some count) a b h = (omega arith, omega arith)

last_within : (l : Option ℕ) (a b : ℕ) → a ≤ b → begin_of_last l a b ≤ b
last_within None a b h = h
last_within (Some count) a b h = omega arith

-- an interval ends within its list, and not before it begins
pub interval_within : (order : List By) (w : Window) (list : List Row) → ((interval_of order w list).0 ≤ (interval_of order w list).1) × ((interval_of order w list).1 ≤ length list)
interval_within order w list =
    let n = length list in
    let a = begin_after order w.after list in
    let e = end_before order w.before list in
    let b : ℕ = max a e in
    let c : ℕ = min b (a + w.offset) in
    let ha : a ≤ n = after_within order w.after list in
    let he : e ≤ n = before_within order w.before list in
    let hb : b ≤ n = omega arith in
    let hc : c ≤ b = omega arith in
    let d = first_within w.first c b hc in
    let hd : end_of_first w.first c b ≤ n = omega (arith, d.1) in
    (last_within w.last c (end_of_first w.first c b) d.0, hd)

-- ---- what a window asks for doesn't hang on the order of the list

after_moved : (order : List By) (m : Option Mark) (xs ys : List Row) → IsPermutation xs ys → begin_after order m ys ≡ begin_after order m xs
after_moved order None xs ys h = refl
after_moved order (Some mark) xs ys h = sum_by-IsPermutation (λ row. cond (not (stands_after order mark row)) 1 0) xs ys h

before_moved : (order : List By) (m : Option Mark) (xs ys : List Row) → IsPermutation xs ys → end_before order m ys ≡ end_before order m xs
before_moved order None xs ys h = length_permutation xs ys h
before_moved order (Some mark) xs ys h = sum_by-IsPermutation (λ row. cond (stands_before order mark row) 1 0) xs ys h

pub interval_moved : (order : List By) (w : Window) (xs ys : List Row) → IsPermutation xs ys → interval_of order w ys ≡ interval_of order w xs
interval_moved order w xs ys h =
    ap (λ a. windowed a (end_before order w.before ys) w) (after_moved order w.after xs ys h)
    ∙ ap (λ e. windowed (begin_after order w.after xs) e w) (before_moved order w.before xs ys h)

pub interval_unordered : (order : List By) (w : Window) (rows : List Row) → interval_of order w (ordered order rows) ≡ interval_of order w rows
interval_unordered order w rows = interval_moved order w rows (ordered order rows) (ordered_permutes order rows)
