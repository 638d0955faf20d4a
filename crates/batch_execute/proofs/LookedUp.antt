-- What a search among keys that ascend finds is what is looked up.
use Rattle.std.proofs.Common.{◌≡◌, ℕ, zero, suc, ◌+◌, ◌<◌, ◌≤◌, List, [], ◌∷◌, length, Some, None, Ok, Err, false, cond, inl, inr, refl, sym, ap, ◌∙◌, subst, arith}
use Rattle.std.specs.Prelude.{slice_get, slice_index_or}
use Rattle.std.specs.declared.cmp.Ordering.{Ordering}
use Rattle.std.specs.declared.cmp.Ordering.TheVariants.{Less, Equal, Greater}
use Rattle.std.specs.Ordering.{is_eq, is_lt, ordering_reverse}
use Rattle.std.specs.Cmp.{IsTotalOrder}
use Rattle.std.specs.List.Sorted.{IsSortedBy, IsBinarySearchResult, IsSearchInRange}
use Rattle.std.proofs.lemmas.Bool.{cases_lt}
use Rattle.std.proofs.lemmas.List.Sorted.{searchable_from_sorted}
use Rattle.pg_base.specs.declared.cell.Cell.{Cell}
use Rattle.pg_base.specs.Lists.{Each}
use Rattle.rel_model.specs.declared.window.By.{By}
use Rattle.rel_model.specs.Ordered.{cells_by, cells_order}
use Rattle.rel_model.proofs.Orders.{cells_order_total}
use Rattle.stmt_tree.specs.declared.found.Found.{Found}
use Rattle.stmt_tree.specs.declared.found.Key.{Key}
use Rattle.batch_execute.specs.Fetched.{AreAscending}
use Rattle.batch_execute.specs.Reading.{looked_up}

module _ (order : List By) (cells : List Cell) where
  abbrev own : List Cell
  own = cells_by order cells

  abbrev stands : Key → Ordering
  stands k = cells_order order k.cells own

  total : IsTotalOrder (cells_order order)
  total = cells_order_total order

  turned : (k : Key) (r : Ordering) → stands k ≡ r → cells_order order own k.cells ≡ ordering_reverse r
  turned k r e = total.antisymm own k.cells ∙ ap ordering_reverse e

  passed : (k : Key) → is_eq (cells_order order own k.cells) ≡ false → (keys : List Key) (f : Found) (found : List Found) → looked_up order cells (k ∷ keys) (f ∷ found) ≡ looked_up order cells keys found
  passed k e keys f found = ap (λ b. cond b (Some f) (looked_up order cells keys found)) e

  -- each stands before the one that was found
  before_found : (k : Key) (keys : List Key) (p : ℕ) → p < length keys → Each (λ j. cells_order order k.cells j.cells ≡ Less) keys → stands (slice_index_or keys p k) ≡ Equal → stands k ≡ Less
  before_found k [] p lt up e = absurd (omega (arith, lt))
  before_found k (j ∷ keys) zero lt up e =
      let same : cells_order order j.cells k.cells ≡ cells_order order own k.cells = total.congr j.cells own k.cells e in
      let back : cells_order order j.cells k.cells ≡ Greater = total.antisymm j.cells k.cells ∙ ap ordering_reverse up.0 in
      total.antisymm k.cells own ∙ ap ordering_reverse (sym same ∙ back)
  before_found k (j ∷ keys) (suc p) lt up e = before_found k keys p (omega (arith, lt)) up.1 e

  found_at_place : (keys : List Key) (found : List Found) (p : ℕ) → p < length keys → AreAscending order keys → ((d : Key) → stands (slice_index_or keys p d) ≡ Equal) → looked_up order cells keys found ≡ slice_get found p
  found_at_place [] found p lt up at = absurd (omega (arith, lt))
  found_at_place (k ∷ keys) [] zero lt up at = refl
  found_at_place (k ∷ keys) [] (suc p) lt up at = refl
  found_at_place (k ∷ keys) (f ∷ found) zero lt up at =
      ap (λ b. cond b (Some f) (looked_up order cells keys found)) (ap is_eq (turned k Equal (at k)))
  found_at_place (k ∷ keys) (f ∷ found) (suc p) lt up at =
      let less = before_found k keys p (omega (arith, lt)) up.0 (at k) in
      passed k (ap is_eq (turned k Less less)) keys f found
      ∙ found_at_place keys found p (omega (arith, lt)) up.1 at

  -- ---- nothing stands there

  unlike : (k : Key) (r : Ordering) → stands k ≡ r → (r ≡ Equal → ⊥) → is_eq (cells_order order own k.cells) ≡ false
  unlike k Less e not = ap is_eq (turned k Less e)
  unlike k Equal e not = absurd (not refl)
  unlike k Greater e not = ap is_eq (turned k Greater e)

  none_there : (keys : List Key) (found : List Found) → ((i : ℕ) (d : Key) → i < length keys → stands (slice_index_or keys i d) ≡ Equal → ⊥) → looked_up order cells keys found ≡ None
  none_there [] found h = refl
  none_there (k ∷ keys) [] h = refl
  none_there (k ∷ keys) (f ∷ found) h =
      passed k (unlike k (stands k) refl (λ e. h 0 k (omega arith) e)) keys f found
      ∙ none_there keys found (λ i d lt e. h (suc i) d (omega (arith, lt)) e)

  no_less : (keys : List Key) → AreAscending order keys → (k : ℕ) (d : Key) → suc k < length keys → is_lt (cells_order order (slice_index_or keys (suc k) d).cells (slice_index_or keys k d).cells) ≡ false
  no_less [] up k d lt = absurd (omega (arith, lt))
  no_less (a ∷ []) up k d lt = absurd (omega (arith, lt))
  no_less (a ∷ b ∷ keys) up zero d lt = ap is_lt (total.antisymm b.cells a.cells ∙ ap ordering_reverse up.0.0)
  no_less (a ∷ b ∷ keys) up (suc k) d lt = no_less (b ∷ keys) up.1 k d (omega (arith, lt))

  rises : (keys : List Key) → AreAscending order keys → IsSortedBy (λ a b. is_lt (cells_order order a.cells b.cells)) keys
  rises keys up k d le lt =
      let e : suc k ≡ k + 1 = omega arith in
      subst (λ n. is_lt (cells_order order (slice_index_or keys n d).cells (slice_index_or keys k d).cells) ≡ false) e (no_less keys up k d (omega (arith, lt)))

  pub searched : (keys : List Key) (found : List Found) → AreAscending order keys → (p : ℕ) → IsSearchInRange (Ok p) (length keys) → IsBinarySearchResult (λ k. cells_order order k.cells (cells_by order cells)) keys (Ok p) → slice_get found p ≡ looked_up order cells keys found
  searched keys found up p lt at = sym (found_at_place keys found p lt up at)

  pub missed : (keys : List Key) (found : List Found) → AreAscending order keys → (p : ℕ) → IsBinarySearchResult (λ k. cells_order order k.cells (cells_by order cells)) keys (Err p) → looked_up order cells keys found ≡ None
  missed keys found up p at =
      let parts = at (searchable_from_sorted total (λ (k : Key). k.cells) keys own (rises keys up)) in
      none_there keys found (λ i d lt e. by_side i d lt e (parts.0 i d) (parts.1 i d)) where
        by_side : (i : ℕ) (d : Key) → i < length keys → stands (slice_index_or keys i d) ≡ Equal → (0 ≤ i → i < p → stands (slice_index_or keys i d) ≡ Less) → (p ≤ i → i < length keys → stands (slice_index_or keys i d) ≡ Greater) → ⊥
        by_side i d lt e left right = elim (cases_lt i p) [
          | inl less ↦ (let z : Equal ≡ Less = sym e ∙ left (omega arith) less in cc)
          | inr more ↦ (let z : Equal ≡ Greater = sym e ∙ right more lt in cc)
        ]
