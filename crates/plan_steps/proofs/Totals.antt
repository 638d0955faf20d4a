-- Totals over the places of a list.
use Rattle.std.proofs.Common.{◌≡◌, ◌≢◌, ℕ, zero, suc, ◌+◌, ◌≤◌, List, [], ◌∷◌, ◌++◌, length, Some, None, refl, ap, ◌∙◌, arith, inl, inr}
use Rattle.std.specs.Prelude.{slice_get}
use Rattle.plan_steps.specs.Sent.{total, places_from}
use Rattle.plan_steps.proofs.Bools.{same_or}

pub total_both : {A : Type 0} (f : A → ℕ) (xs ys : List A) → total f (xs ++ ys) ≡ total f xs + total f ys
total_both f [] ys = omega arith
total_both f (x ∷ xs) ys = omega (arith, total_both f xs ys)

pub total_same : {A : Type 0} (f g : A → ℕ) → ((x : A) → f x ≡ g x) → (xs : List A) → total f xs ≡ total g xs
total_same f g h [] = refl
total_same f g h (x ∷ xs) = omega (arith, h x, total_same f g h xs)

pub total_sum : {A : Type 0} (f g : A → ℕ) (xs : List A) → total (λ x. f x + g x) xs ≡ total f xs + total g xs
total_sum f g [] = refl
total_sum f g (x ∷ xs) = omega (arith, total_sum f g xs)

-- a total in which all from a place on are nothing
pub total_zero : {A : Type 0} (f : ℕ → ℕ) (k : ℕ) (xs : List A) → ((j : ℕ) → k ≤ j → f j ≡ 0) → total f (places_from k xs) ≡ 0
total_zero f k [] h = refl
total_zero f k (x ∷ xs) h = let a = h k (omega arith) in let b = total_zero f (k + 1) xs (λ j le. h j (omega arith)) in omega (arith, a, b)

-- and one in which all but one are
pub total_one : {A : Type 0} (f : ℕ → ℕ) (one c : ℕ) (k : ℕ) (xs : List A) → ((j : ℕ) → j ≢ one → f j ≡ 0) → f one ≤ c → total f (places_from k xs) ≤ c
total_one f one c k [] h le = omega arith
total_one f one c k (x ∷ xs) h le =
    elim (same_or k one) [
      | inl e ↦ let a = ap f e in let b = total_zero f (k + 1) xs (λ j l. h j (λ q. absurd (omega (arith, q, e, l)))) in omega (arith, a, b, le)
      | inr n ↦ let a = h k n in let b = total_one f one c (k + 1) xs h le in omega (arith, a, b)
    ]

pub total_length : {A : Type 0} (f : A → ℕ) → ((x : A) → f x ≡ 1) → (xs : List A) → total f xs ≡ length xs
total_length f h [] = refl
total_length f h (x ∷ xs) = let a = h x in let b = total_length f h xs in omega (arith, a, b)

-- ---- places

pub places_at : {A : Type 0} (n : ℕ) (xs : List A) (k : ℕ) (x : A) → slice_get xs k ≡ Some x → slice_get (places_from n xs) k ≡ Some (n + k)
places_at n [] k x h = cc
places_at n (a ∷ xs) zero x h = ap (λ m. Some m) (let e : n ≡ n + 0 = omega arith in e)
places_at n (a ∷ xs) (suc k) x h = places_at (n + 1) xs k x h ∙ ap (λ m. Some m) (let e : n + 1 + k ≡ n + suc k = omega arith in e)

pub places_past : {A : Type 0} (n : ℕ) (xs : List A) (k : ℕ) → slice_get xs k ≡ None → slice_get (places_from n xs) k ≡ None
places_past n [] k h = refl
places_past n (a ∷ xs) zero h = cc
places_past n (a ∷ xs) (suc k) h = places_past (n + 1) xs k h
