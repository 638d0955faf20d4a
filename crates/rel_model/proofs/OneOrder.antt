-- Of rows with numbers of their own there is one list that is sorted and has just these rows.
use Rattle.std.proofs.Common.{◌≡◌, ℕ, zero, suc, ◌<◌, get_or, replicate, add-one, List, [], ◌∷◌, length, Bool, true, false, cond, not, ◌&&◌, refl, sym, ap, ◌∙◌, arith}
use Rattle.std.specs.Prelude.{filter}
use Rattle.std.specs.declared.cmp.Ordering.{Ordering}
use Rattle.std.specs.declared.cmp.Ordering.TheVariants.{Less, Equal, Greater}
use Rattle.std.specs.Ordering.{nat_cmp, ordering_then, ordering_reverse, is_lt}
use Rattle.std.specs.List.Sorted.{IsPermutation, IsSortedBy, ties}
use Rattle.std.proofs.lemmas.List.Sorted.{sorted_far, ranks_by, sum_by-IsPermutation, All-permutation}
use Rattle.std.proofs.lemmas.List.Elements.{All-nil, All-cons, All-head, All-tail}
use Rattle.std.specs.List.{All}
use Rattle.std.proofs.lemmas.List.Sums.{length-filter}
use Rattle.std.proofs.lemmas.Bool.Decides.{nat_tests}
use Rattle.pg_base.specs.Lists.{Each, AreDistinct}
use Rattle.rel_model.specs.declared.tables.Row.{Row}
use Rattle.rel_model.specs.declared.window.By.{By}
use Rattle.rel_model.specs.Picked.{numbers_of}
use Rattle.rel_model.specs.Ordered.{cells_order, mark_of, row_order, precedes, ordered}
use Rattle.rel_model.proofs.Orders.{mark_order_total}
use Rattle.rel_model.proofs.Sorting.{NoneLess, Rises, one_sorting, rises_from, rises_sorted, not_both, head_is, tail_is, when_true, when_false}
use Rattle.rel_model.proofs.Listed.{ordered_permutes}

-- ---- rows that stand alike have one number

cmp_same : (m n : ℕ) → nat_cmp m n ≡ Equal → m ≡ n
cmp_same m n h = grind (arith, nat_tests, h)

then_equal : (r s : Ordering) → ordering_then r s ≡ Equal → s ≡ Equal
then_equal Less s h = cc
then_equal Equal s h = h
then_equal Greater s h = cc

pub alike_number : (order : List By) (r s : Row) → row_order order r s ≡ Equal → r.number ≡ s.number
alike_number order r s h = cmp_same r.number s.number (then_equal (cells_order order (mark_of order r).values (mark_of order s).values) (nat_cmp r.number s.number) h)

neither : (r s : Ordering) → r ≡ ordering_reverse s → (not (is_lt r) && not (is_lt s)) ≡ true → r ≡ Equal
neither Less s e h = cc
neither Equal s e h = refl
neither Greater Less e h = cc
neither Greater Equal e h = cc
neither Greater Greater e h = cc

tied_number : (order : List By) (r s : Row) → ties (precedes order) r s ≡ true → r.number ≡ s.number
tied_number order r s h =
    alike_number order r s (neither (row_order order r s) (row_order order s r) ((mark_order_total order).antisymm (mark_of order r) (mark_of order s)) h)

-- ---- one row at most passes such a test

none_pass : (order : List By) (z x : Row) (rows : List Row) → z.number ≡ x.number → Each (λ n. ¬ (x.number ≡ n)) (numbers_of rows) → filter (ties (precedes order) z) rows ≡ []
none_pass order z x [] e h = refl
none_pass order z x (r ∷ rows) e h = by (ties (precedes order) z r) refl (none_pass order z x rows e h.1)
  where
    by : (b : Bool) → ties (precedes order) z r ≡ b → filter (ties (precedes order) z) rows ≡ [] → filter (ties (precedes order) z) (r ∷ rows) ≡ []
    by true t below = absurd (h.0 (sym e ∙ tied_number order z r t))
    by false t below = when_false (ties (precedes order) z r) (r ∷ filter (ties (precedes order) z) rows) (filter (ties (precedes order) z) rows) t ∙ below

module _ {X : Type 0} (p : X → Bool) (a : X) where
  abbrev IsThis : X → Type 0
  IsThis x = p x ≡ true → x ≡ a

  none_is : (xs : List X) → filter p xs ≡ [] → All IsThis xs
  none_is [] h = All-nil IsThis
  none_is (x ∷ xs) h = by (p x) refl (none_is xs)
    where
      by : (b : Bool) → p x ≡ b → (filter p xs ≡ [] → All IsThis xs) → All IsThis (x ∷ xs)
      by true t below = absurd (let e = sym (when_true (p x) (x ∷ filter p xs) (filter p xs) t) ∙ h in cc)
      by false t below =
          All-cons IsThis x xs (λ e. absurd (not_both (p x) e t)) (below (sym (when_false (p x) (x ∷ filter p xs) (filter p xs) t) ∙ h))

  one_is : (xs : List X) → filter p xs ≡ a ∷ [] → All IsThis xs
  one_is [] h = All-nil IsThis
  one_is (x ∷ xs) h = by (p x) refl (one_is xs)
    where
      by : (b : Bool) → p x ≡ b → (filter p xs ≡ a ∷ [] → All IsThis xs) → All IsThis (x ∷ xs)
      by true t below =
          let e = sym (when_true (p x) (x ∷ filter p xs) (filter p xs) t) ∙ h in
          All-cons IsThis x xs (λ _. head_is x a (filter p xs) [] e) (none_is xs (tail_is x a (filter p xs) [] e))
      by false t below =
          All-cons IsThis x xs (λ e. absurd (not_both (p x) e t)) (below (sym (when_false (p x) (x ∷ filter p xs) (filter p xs) t) ∙ h))

  -- a list of what is one item is known by its length
  these : (n : ℕ) (xs : List X) → All IsThis xs → length (filter p xs) ≡ n → filter p xs ≡ replicate n a
  these n [] all h = ap (λ m. replicate m a) h
  these n (x ∷ xs) all h = by (p x) refl (λ m. these m xs (All-tail IsThis x xs all))
    where
      by : (b : Bool) → p x ≡ b → ((m : ℕ) → length (filter p xs) ≡ m → filter p xs ≡ replicate m a) → filter p (x ∷ xs) ≡ replicate n a
      by true t below =
          let e = when_true (p x) (x ∷ filter p xs) (filter p xs) t in
          e ∙ ap (λ l. x ∷ l) (below (length (filter p xs)) refl)
          ∙ ap (λ y. y ∷ replicate (length (filter p xs)) a) (All-head IsThis x xs all t)
          ∙ ap (λ m. replicate m a) (sym (ap length e) ∙ h)
      by false t below =
          let e = when_false (p x) (x ∷ filter p xs) (filter p xs) t in
          e ∙ below n (sym (ap length e) ∙ h)

  same_length : (xs ys : List X) → IsPermutation xs ys → length (filter p ys) ≡ length (filter p xs)
  same_length xs ys moved = length-filter p ys ∙ sum_by-IsPermutation (λ x. cond (p x) 1 0) xs ys moved ∙ sym (length-filter p xs)

  none_moved : (xs ys : List X) → IsPermutation xs ys → filter p xs ≡ [] → filter p ys ≡ []
  none_moved xs ys moved h = these 0 ys (All-permutation IsThis xs ys moved (none_is xs h)) (same_length xs ys moved ∙ ap length h)

  one_moved : (xs ys : List X) → IsPermutation xs ys → filter p xs ≡ a ∷ [] → filter p ys ≡ a ∷ []
  one_moved xs ys moved h = these 1 ys (All-permutation IsThis xs ys moved (one_is xs h)) (same_length xs ys moved ∙ ap length h)

-- rows that tie with one stand alike in each list of the same rows
module _ (order : List By) (z : Row) where
  abbrev tied : Row → Bool
  tied = ties (precedes order) z

  moved_alike : (rows all ys : List Row) → AreDistinct (numbers_of rows) → filter tied all ≡ filter tied rows → IsPermutation all ys → filter tied ys ≡ filter tied all
  moved_alike [] all ys distinct e moved = none_moved tied z all ys moved e ∙ sym e
  moved_alike (r ∷ rows) all ys distinct e moved = by (tied r) refl (moved_alike rows all ys distinct.1)
    where
      by : (b : Bool) → tied r ≡ b → (filter tied all ≡ filter tied rows → IsPermutation all ys → filter tied ys ≡ filter tied all) → filter tied ys ≡ filter tied all
      by true t below =
          let one : filter tied all ≡ r ∷ [] =
          e ∙ when_true (tied r) (r ∷ filter tied rows) (filter tied rows) t ∙ ap (λ l. r ∷ l) (none_pass order z r rows (tied_number order z r t) distinct.0) in
          one_moved tied r all ys moved one ∙ sym one
      by false t below = below (e ∙ when_false (tied r) (r ∷ filter tied rows) (filter tied rows) t) moved

-- the law: the ordered list is the one sorted list of these rows
pub ordered_is_the_one : (order : List By) (rows sorted : List Row) → AreDistinct (numbers_of rows) → IsPermutation rows sorted → IsSortedBy (precedes order) sorted → sorted ≡ ordered order rows
ordered_is_the_one order rows sorted distinct moved up =
    let ranks = ranks_by (mark_order_total order) (mark_of order) in
    one_sorting (precedes order) ranks sorted (ordered order rows) (rises_from (precedes order) ranks sorted (sorted_far (precedes order) ranks sorted up)) (rises_sorted (precedes order) ranks rows)
    (λ z. moved_alike order z rows rows sorted distinct refl moved ∙ sym (moved_alike order z rows rows (ordered order rows) distinct refl (ordered_permutes order rows)))

-- ---- the ordered list is sorted

pub none_less_at : {X : Type 0} (lt : X → X → Bool) (x : X) (ys : List X) (k : ℕ) (d : X) → k < length ys → NoneLess lt x ys → lt (get_or ys k d) x ≡ false
none_less_at lt x [] k d h n = absurd (omega arith)
none_less_at lt x (y ∷ ys) zero d h n = n.0
none_less_at lt x (y ∷ ys) (suc k) d h n = none_less_at lt x ys k d (omega arith) n.1

pub rises_adjacent : {X : Type 0} (lt : X → X → Bool) (xs : List X) (k : ℕ) (d : X) → suc k < length xs → Rises lt xs → lt (get_or xs (suc k) d) (get_or xs k d) ≡ false
rises_adjacent lt [] k d h r = absurd (omega arith)
rises_adjacent lt (x ∷ xs) zero d h r = none_less_at lt x xs 0 d (omega arith) r.0
rises_adjacent lt (x ∷ xs) (suc k) d h r = rises_adjacent lt xs k d (omega arith) r.1

pub ordered_sorted : (order : List By) (rows : List Row) → IsSortedBy (precedes order) (ordered order rows)
ordered_sorted order rows k d low high =
    let ranks = ranks_by (mark_order_total order) (mark_of order) in
    rw add-one (rises_adjacent (precedes order) (ordered order rows) k d (omega (arith, high)) (rises_sorted (precedes order) ranks rows))
