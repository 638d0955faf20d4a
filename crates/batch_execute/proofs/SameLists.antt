-- Where a comparison of two lists ends.
use Rattle.std.proofs.Common.{◌≡◌, ℕ, zero, suc, ◌<◌, ◌≤◌, List, [], ◌∷◌, map, drop, length, Bool, true, false, inl, inr, refl, arith, sym, ap, ◌∙◌, eqb-true, eq-eqb}
use Rattle.std.proofs.lemmas.Bool.{cases_lt}
use Rattle.std.specs.Prelude.{◌==◌}
use Rattle.plan_steps.specs.declared.plan.FetchStep.{FetchStep}
use Rattle.plan_steps.specs.Same.{same_fetch, all_same}

drop_none : (i : ℕ) → drop {A = FetchStep} i [] ≡ []
drop_none zero = refl
drop_none (suc i) = refl

-- the second list is at its end
pub ends_short : (a b : List FetchStep) (i : ℕ) → i < length a → length b ≤ i → all_same (map same_fetch (drop i a)) (drop i b) ≡ false
ends_short [] b i lt le = absurd (omega (arith, lt))
ends_short (x ∷ a) [] zero lt le = refl
ends_short (x ∷ a) [] (suc i) lt le = ap (all_same (map same_fetch (drop i a))) (sym (drop_none i)) ∙ ends_short a [] i (omega (arith, lt)) (omega arith)
ends_short (x ∷ a) (y ∷ b) zero lt le = absurd (omega (arith, le))
ends_short (x ∷ a) (y ∷ b) (suc i) lt le = ends_short a b i (omega (arith, lt)) (omega (arith, le))

-- the first one is, and both are as long
ends_equal : (a b : List FetchStep) (i : ℕ) → length a ≤ i → i ≤ length a → length a ≡ length b → all_same (map same_fetch (drop i a)) (drop i b) ≡ true
ends_equal [] [] zero le ge e = refl
ends_equal [] (y ∷ b) zero le ge e = absurd (omega (arith, e))
ends_equal [] b (suc i) le ge e = absurd (omega (arith, ge))
ends_equal (x ∷ a) b zero le ge e = absurd (omega (arith, le))
ends_equal (x ∷ a) [] (suc i) le ge e = absurd (omega (arith, e))
ends_equal (x ∷ a) (y ∷ b) (suc i) le ge e = ends_equal a b i (omega (arith, le)) (omega (arith, ge)) (omega (arith, e))

-- the second one is longer
ends_longer : (a b : List FetchStep) (i : ℕ) → length a ≤ i → i ≤ length a → length a < length b → all_same (map same_fetch (drop i a)) (drop i b) ≡ false
ends_longer [] [] zero le ge lt = absurd (omega (arith, lt))
ends_longer [] (y ∷ b) zero le ge lt = refl
ends_longer [] b (suc i) le ge lt = absurd (omega (arith, ge))
ends_longer (x ∷ a) b zero le ge lt = absurd (omega (arith, le))
ends_longer (x ∷ a) [] (suc i) le ge lt = absurd (omega (arith, lt))
ends_longer (x ∷ a) (y ∷ b) (suc i) le ge lt = ends_longer a b i (omega (arith, le)) (omega (arith, ge)) (omega (arith, lt))

pub ends_both : (a b : List FetchStep) (i : ℕ) → length a ≤ i → i ≤ length a → i ≤ length b → (length a == length b) ≡ all_same (map same_fetch (drop i a)) (drop i b)
ends_both a b i le ge lt = by (length a == length b) refl where
  by : (r : Bool) → (length a == length b) ≡ r → r ≡ all_same (map same_fetch (drop i a)) (drop i b)
  by true e = sym (ends_equal a b i le ge (eqb-true (length a) (length b) e))
  by false e = elim (cases_lt (length a) (length b)) [
    | inl longer ↦ sym (ends_longer a b i le ge longer)
    | inr short ↦ absurd (let same : length a ≡ length b = omega (arith, short, ge, lt, le) in let z : false ≡ true = sym e ∙ eq-eqb (length a) (length b) same in cc)
  ]
