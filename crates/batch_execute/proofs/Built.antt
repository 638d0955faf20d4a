-- Lists that are built step by step, and counts over them.
use Rattle.std.proofs.Common.{◌≡◌, ℕ, zero, suc, ◌+◌, ◌<◌, ◌≤◌, List, [], ◌∷◌, ◌++◌, length, take, Some, refl, ap, ◌∙◌, subst, arith, length-append, append_assoc, append-nil}
use Rattle.std.proofs.Math.Seq.{take-append_seam}
use Rattle.std.specs.Prelude.{slice_get}
use Rattle.plan_steps.specs.Built.{built}
use Rattle.plan_steps.specs.Sent.{places_from, total}

pub place_from : {A : Type 0} (xs : List A) (n k : ℕ) → k < length xs → slice_get (places_from n xs) k ≡ Some (n + k)
place_from [] n k lt = absurd (omega arith)
place_from (x ∷ xs) n zero lt = let e : n ≡ n + 0 = omega arith in ap (λ j. Some j) e
place_from (x ∷ xs) n (suc k) lt = let e : n + 1 + k ≡ n + suc k = omega arith in place_from xs (n + 1) k (omega (arith, lt)) ∙ ap (λ j. Some j) e

pub place_at : {A : Type 0} (xs : List A) (k : ℕ) → k < length xs → slice_get (places_from 0 xs) k ≡ Some k
place_at xs k lt = let e : 0 + k ≡ k = omega arith in place_from xs 0 k lt ∙ ap (λ j. Some j) e

pub places_length : {A : Type 0} (n : ℕ) (xs : List A) → length (places_from n xs) ≡ length xs
places_length n [] = refl
places_length n (x ∷ xs) = ap suc (places_length (n + 1) xs)

module _ {A B : Type 0} (next : List B → A → B) where
  pub built_length : (rest : List A) (made : List B) → length (built next made rest) ≡ length made + length rest
  built_length [] made = omega arith
  built_length (a ∷ rest) made =
      let e = built_length rest (made ++ next made a ∷ []) in
      let n : length (made ++ next made a ∷ []) ≡ length made + 1 = length-append made (next made a ∷ []) in
      omega (arith, e, n)

  more_built : (rest : List A) (made : List B) → (more : List B) × (built next made rest ≡ made ++ more)
  more_built [] made = ([], simp append-nil)
  more_built (a ∷ rest) made =
      let g = more_built rest (made ++ next made a ∷ []) in
      (next made a ∷ g.0, g.1 ∙ simp append_assoc)

  -- what was made is the front of the whole
  pub front_built : (rest : List A) (made : List B) → take (length made) (built next made rest) ≡ made
  front_built rest made = let g = more_built rest made in ap (take (length made)) g.1 ∙ take-append_seam made g.0

-- a sum over a list is bounded by the sum of what bounds each item, by its place
pub total_places : {A B : Type 0} (g : A → ℕ) (h : ℕ → ℕ) (n : ℕ) (xs : List A) (ys : List B) → length xs ≡ length ys → ((k : ℕ) (x : A) → slice_get xs k ≡ Some x → g x ≤ h (n + k)) → total g xs ≤ total h (places_from n ys)
total_places g h n [] [] e each = omega arith
total_places g h n [] (y ∷ ys) e each = absurd (omega (arith, e))
total_places g h n (x ∷ xs) [] e each = absurd (omega (arith, e))
total_places g h n (x ∷ xs) (y ∷ ys) e each =
    let here : g x ≤ h n = (let z : n + 0 ≡ n = omega arith in subst (λ j. g x ≤ h j) z (each 0 x refl)) in
    let rest : total g xs ≤ total h (places_from (n + 1) ys) = total_places g h (n + 1) xs ys (let l : length xs ≡ length ys = omega (arith, e) in l) (λ k z at. let m : n + suc k ≡ n + 1 + k = omega arith in subst (λ j. g z ≤ h j) m (each (suc k) z at)) in
    omega (arith, here, rest)

-- sums that agree place by place
pub total_same : {A : Type 0} (g h : ℕ → ℕ) (n : ℕ) (xs : List A) → ((k : ℕ) → k < length xs → g (n + k) ≡ h (n + k)) → total g (places_from n xs) ≡ total h (places_from n xs)
total_same g h n [] each = refl
total_same g h n (x ∷ xs) each =
    let here : g n ≡ h n = (let z : n + 0 ≡ n = omega arith in subst (λ j. g j ≡ h j) z (each 0 (omega arith))) in
    let rest : total g (places_from (n + 1) xs) ≡ total h (places_from (n + 1) xs) = total_same g h (n + 1) xs (λ k lt. let m : n + suc k ≡ n + 1 + k = omega arith in subst (λ j. g j ≡ h j) m (each (suc k) (omega (arith, lt)))) in
    omega (arith, here, rest)
