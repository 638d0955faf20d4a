-- The first places below each, place by place from the last one on.
use Rattle.std.proofs.Common.{◌≡◌, ℕ, zero, suc, ◌+◌, ◌<◌, List, [], ◌∷◌, ◌++◌, drop, length, get_or, reverse, Option, Some, None, Bool, true, false, cond, refl, sym, ap, ◌∙◌, subst, arith, eq-eqb}
use Rattle.std.specs.Prelude.{slice_get, slice_set, replicate, IfSome}
use Rattle.std.proofs.lemmas.List.{reverse-append}
use Rattle.pg_base.proofs.ListSteps.{drop-item}
use Rattle.place_tree.specs.declared.place.Place.{Place}
use Rattle.place_tree.specs.Fold.{same_place}
use Rattle.place_tree.proofs.Folds.{same_place_true}
use Rattle.batch_execute.specs.Firsts.{slot_of, AreFirsts}
use Rattle.batch_execute.specs.Nexts.{next_from, nexts_from}

-- ---- at the end

same_all : (n k i : ℕ) → IfSome (slice_get (replicate k n) i) (λ m. m ≡ n)
same_all n zero i = tt
same_all n (suc k) zero = refl
same_all n (suc k) (suc i) = same_all n k i

pub none_yet : (firsts : List ℕ) (k n : ℕ) → firsts ≡ replicate k n → AreFirsts firsts n []
none_yet firsts k n e parent = subst (λ l. IfSome (slice_get l (slot_of parent)) (λ m. m ≡ n)) (sym e) (same_all n k (slot_of parent))

-- ---- one place before

set_there : (xs : List ℕ) (i x : ℕ) → IfSome (slice_get (slice_set xs i x) i) (λ m. m ≡ x)
set_there [] i x = tt
set_there (y ∷ xs) zero x = refl
set_there (y ∷ xs) (suc i) x = set_there xs i x

set_apart : (xs : List ℕ) (i k x : ℕ) → (i ≡ k → ⊥) → slice_get (slice_set xs i x) k ≡ slice_get xs k
set_apart [] i k x h = refl
set_apart (y ∷ xs) zero zero x h = absurd (h refl)
set_apart (y ∷ xs) zero (suc k) x h = refl
set_apart (y ∷ xs) (suc i) zero x h = refl
set_apart (y ∷ xs) (suc i) (suc k) x h = set_apart xs i k x (λ e. h (ap suc e))

slots_apart : (a b : Option ℕ) → same_place a b ≡ false → slot_of a ≡ slot_of b → ⊥
slots_apart None None h e = cc
slots_apart None (Some y) h e = omega (arith, e)
slots_apart (Some x) None h e = omega (arith, e)
slots_apart (Some x) (Some y) h e = let same : x ≡ y = omega (arith, e) in let equal = eq-eqb x y same in cc

pub first_put : (firsts : List ℕ) (i : ℕ) (p : Place) (ps : List Place) → AreFirsts firsts (i + 1) ps → AreFirsts (slice_set firsts (slot_of p.parent) i) i (p ∷ ps)
first_put firsts i p ps are parent = by (same_place p.parent parent) refl where
  by : (b : Bool) → same_place p.parent parent ≡ b → IfSome (slice_get (slice_set firsts (slot_of p.parent) i) (slot_of parent)) (λ n. n ≡ next_from parent i (p ∷ ps))
  by true h =
      subst (λ q. IfSome (slice_get (slice_set firsts (slot_of p.parent) i) (slot_of q)) (λ n. n ≡ next_from parent i (p ∷ ps))) (same_place_true p.parent parent h)
      (subst (λ m. IfSome (slice_get (slice_set firsts (slot_of p.parent) i) (slot_of p.parent)) (λ n. n ≡ m)) (sym (ap (λ b. cond b i (next_from parent (i + 1) ps)) h)) (set_there firsts (slot_of p.parent) i))
  by false h =
      subst (λ o. IfSome o (λ n. n ≡ next_from parent i (p ∷ ps))) (sym (set_apart firsts (slot_of p.parent) (slot_of parent) i (slots_apart p.parent parent h)))
      (subst (λ m. IfSome (slice_get firsts (slot_of parent)) (λ n. n ≡ m)) (sym (ap (λ b. cond b i (next_from parent (i + 1) ps)) h)) (are parent))

-- ---- a turn

module _ (places : List Place) (i : ℕ) (p : Place) (lt : i < length places) (is : p ≡ get_or places i p) where
  pub firsts_on : (firsts next : List ℕ) → AreFirsts firsts (i + 1) (drop (i + 1) places) → next ≡ slice_set firsts (slot_of p.parent) i → AreFirsts next i (drop i places)
  firsts_on firsts next are made =
      subst (λ l. AreFirsts next i l) (sym (drop-item places i p lt is))
      (subst (λ f. AreFirsts f i (p ∷ drop (i + 1) places)) (sym made) (first_put firsts i p (drop (i + 1) places) are))

  pub nexts_on : (nexts next : List ℕ) (n : ℕ) → reverse nexts ≡ nexts_from (i + 1) (drop (i + 1) places) → next ≡ nexts ++ n ∷ [] → n ≡ next_from p.parent (i + 1) (drop (i + 1) places)
      → reverse next ≡ nexts_from i (drop i places)
  nexts_on nexts next n so made e =
      ap reverse made ∙ reverse-append nexts (n ∷ []) ∙ ap (λ l. n ∷ l) so
      ∙ ap (λ m. m ∷ nexts_from (i + 1) (drop (i + 1) places)) e
      ∙ sym (ap (nexts_from i) (drop-item places i p lt is))
