-- What stands in the table of the next places.
use Rattle.std.proofs.Common.{◌≡◌, ℕ, zero, suc, ◌+◌, ◌<◌, ◌≤◌, List, [], ◌∷◌, drop, get_or, length, Option, Some, Bool, true, false, cond, ap, ◌∙◌, arith}
use Rattle.std.specs.Prelude.{slice_get}
use Rattle.pg_base.proofs.ListSteps.{drop-item}
use Rattle.place_tree.specs.declared.place.Place.{Place}
use Rattle.place_tree.specs.Fold.{same_place}
use Rattle.place_tree.proofs.Lists.{get_drop}
use Rattle.batch_execute.specs.Nexts.{next_from, nexts_from, next_or}

-- the item at a place
pub there : {A : Type 0} (xs : List A) (i : ℕ) (x : A) → i < length xs → x ≡ get_or xs i x → slice_get xs i ≡ Some x
there xs i x lt is = get_drop xs (drop (i + 1) xs) i x (drop-item xs i x lt is)

pub next_least : (parent : Option ℕ) (k : ℕ) (ps : List Place) → k ≤ next_from parent k ps
next_least parent k [] = omega arith
next_least parent k (p ∷ ps) = by (same_place p.parent parent) (next_least parent (k + 1) ps) where
  by : (b : Bool) → k + 1 ≤ next_from parent (k + 1) ps → k ≤ cond b k (next_from parent (k + 1) ps)
  by true h = omega arith
  by false h = omega (arith, h)

pub next_at : (ps : List Place) (k j n : ℕ) (p : Place) → n ≡ k + j + 1 → slice_get ps j ≡ Some p → slice_get (nexts_from k ps) j ≡ Some (next_from p.parent n (drop (suc j) ps))
next_at [] k j n p e at = cc
next_at (q ∷ ps) k zero n p e at =
    let same : q ≡ p = cc in
    let more : k + 1 ≡ n = omega (arith, e) in
    ap (λ (r : Place). Some (next_from r.parent (k + 1) ps)) same ∙ ap (λ m. Some (next_from p.parent m ps)) more
next_at (q ∷ ps) k (suc j) n p e at = next_at ps (k + 1) j n p (omega (arith, e)) at

module _ (places : List Place) (nexts : List ℕ) (linked : nexts ≡ nexts_from 0 places) (i : ℕ) (p : Place) (lt : i < length places) (is : p ≡ get_or places i p) where
  pub next_is : next_or i (slice_get nexts i) ≡ next_from p.parent (i + 1) (drop (i + 1) places)
  next_is =
      let e : suc i ≡ i + 1 = omega arith in
      ap (λ l. next_or i (slice_get l i)) linked
      ∙ ap (next_or i) (next_at places 0 i (i + 1) p (omega arith) (there places i p lt is))
      ∙ ap (λ n. next_from p.parent (i + 1) (drop n places)) e

  pub next_after : (n : ℕ) → n ≡ next_or i (slice_get nexts i) → i + 1 ≤ n
  next_after n e = let l = next_least p.parent (i + 1) (drop (i + 1) places) in omega (arith, l, e, next_is)
