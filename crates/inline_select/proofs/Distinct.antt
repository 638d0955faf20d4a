-- Numbers that each have a place of their own in a list are no more than the list's different items.
use Rattle.std.proofs.Common.{◌≡◌, ℕ, zero, suc, ◌+◌, ◌-◌, ◌<◌, ◌≤◌, List, [], ◌∷◌, length, Some, Bool, true, false, cond, refl, sym, ap, ◌∙◌, subst, arith, eqb-true, ne_eqb}
use Rattle.std.proofs.lemmas.Option.{slice_get_within}
use Rattle.std.specs.Prelude.{slice_get, ◌==◌, ◌&&◌, not}
use Rattle.std.specs.List.{list_any}
use Rattle.std.specs.Cmp.{first_so, second_so}
use Rattle.place_tree.specs.Needs.{distinct}
use Rattle.plan_steps.specs.Sent.{total, one_if, places_from}
use Rattle.plan_steps.proofs.Checked.{any_some}

total_nothing : {B : Type 0} (f : ℕ → ℕ) (n : ℕ) (ys : List B) → ((k : ℕ) → n ≤ k → f k ≡ 0) → total f (places_from n ys) ≡ 0
total_nothing f n [] h = refl
total_nothing f n (y ∷ ys) h = let a = h n (omega arith) in let b = total_nothing f (n + 1) ys (λ k le. h k (omega (arith, le))) in omega (arith, a, b)

one_off : (b : Bool) → (b ≡ true → ⊥) → one_if b ≡ 0
one_off true h = absurd (h refl)
one_off false h = refl

-- of which one at most is
total_single : {B : Type 0} (D : ℕ → Bool) (n : ℕ) (ys : List B) → ((i j : ℕ) → D i ≡ true → D j ≡ true → i ≡ j) → total (λ k. one_if (D k)) (places_from n ys) ≤ 1
total_single D n [] h = omega arith
total_single D n (y ∷ ys) h = by_head (D n) refl (total_single D (n + 1) ys h) where
  by_head : (b : Bool) → D n ≡ b → total (λ k. one_if (D k)) (places_from (n + 1) ys) ≤ 1 → one_if (D n) + total (λ k. one_if (D k)) (places_from (n + 1) ys) ≤ 1
  by_head true e rest =
      let a = ap one_if e in
      let b = total_nothing (λ k. one_if (D k)) (n + 1) ys (λ k le. one_off (D k) (λ on. let same = h n k e on in absurd (omega (arith, same, le)))) in
      omega (arith, a, b)
  by_head false e rest = let a = ap one_if e in omega (arith, a, rest)

split_le : {B : Type 0} (T A D : ℕ → Bool) (n : ℕ) (ys : List B) → ((k : ℕ) → one_if (T k) ≤ one_if (A k) + one_if (D k)) → total (λ k. one_if (T k)) (places_from n ys) ≤ total (λ k. one_if (A k)) (places_from n ys) + total (λ k. one_if (D k)) (places_from n ys)
split_le T A D n [] h = omega arith
split_le T A D n (y ∷ ys) h = let a = h n in let b = split_le T A D (n + 1) ys h in omega (arith, a, b)

-- numbers that each have a place of their own in a list, where no two places hold the same, are no more than the list's different items
module _ {A B : Type 0} (same : A → A → Bool) (same_true : (x y : A) → same x y ≡ true → x ≡ y) (ys : List B) (n : ℕ) where
  pub few_distinct : (xs : List A) (T : ℕ → Bool) (at : ℕ → ℕ) → ((k : ℕ) → T k ≡ true → at k < length xs) → ((i j : ℕ) → T i ≡ true → T j ≡ true → slice_get xs (at i) ≡ slice_get xs (at j) → i ≡ j) →
      total (λ k. one_if (T k)) (places_from n ys) ≤ distinct same xs
  few_distinct [] T at within apart = let z = total_nothing (λ k. one_if (T k)) n ys (λ k le. one_off (T k) (λ on. let lt = within k on in absurd (omega (arith, lt)))) in omega (arith, z)
  few_distinct (x ∷ xs) T at within apart =
      by_again (list_any (same x) xs) refl
      (few_distinct xs (λ k. T k && not (at k == 0)) (λ k. at k - 1)
      (λ k on. let lt = within k (first_so (T k) _ on) in let nz = not_zero (at k) (second_so (T k) _ on) in omega (arith, lt, nz))
      (λ i j on off e. apart i j (first_so (T i) _ on) (first_so (T j) _ off)
      (get_next x xs (at i) (second_so (T i) _ on) ∙ e ∙ sym (get_next x xs (at j) (second_so (T j) _ off)))))
      (λ m lt e. few_distinct xs T (λ k. cond (at k == 0) m (at k - 1))
      (λ k on. let w = within k on in in_next (at k) m lt w)
      (λ i j on off same_. apart i j on off (get_other x xs (at i) m e ∙ same_ ∙ sym (get_other x xs (at j) m e))))
    where
      not_zero : (k : ℕ) → not (k == 0) ≡ true → 0 < k
      not_zero zero h = cc
      not_zero (suc k) h = omega arith

      get_next : (x : A) (xs : List A) (k : ℕ) → not (k == 0) ≡ true → slice_get (x ∷ xs) k ≡ slice_get xs (k - 1)
      get_next x xs zero h = cc
      get_next x xs (suc k) h = let e : suc k - 1 ≡ k = omega arith in ap (slice_get xs) (sym e)

      get_other : (x : A) (xs : List A) (k m : ℕ) → slice_get xs m ≡ Some x → slice_get (x ∷ xs) k ≡ slice_get xs (cond (k == 0) m (k - 1))
      get_other x xs zero m e = sym e
      get_other x xs (suc k) m e =
          let q : suc k - 1 ≡ k = omega arith in
          let off : (suc k == 0) ≡ false = ne_eqb (suc k) 0 (λ h. absurd (omega (arith, h))) in
          ap (slice_get xs) (sym q) ∙ ap (λ b. slice_get xs (cond b m (suc k - 1))) (sym off)

      in_next : (k m : ℕ) → m < length xs → k < length (x ∷ xs) → cond (k == 0) m (k - 1) < length xs
      in_next zero m lt w = lt
      in_next (suc k) m lt w =
          let off : (suc k == 0) ≡ false = ne_eqb (suc k) 0 (λ h. absurd (omega (arith, h))) in
          subst (λ b. cond b m (suc k - 1) < length xs) (sym off) (omega (arith, w))

      by_again : (b : Bool) → list_any (same x) xs ≡ b → total (λ k. one_if (T k && not (at k == 0))) (places_from n ys) ≤ distinct same xs →
          ((m : ℕ) → m < length xs → slice_get xs m ≡ Some x → total (λ k. one_if (T k)) (places_from n ys) ≤ distinct same xs) →
          total (λ k. one_if (T k)) (places_from n ys) ≤ cond b (distinct same xs) (distinct same xs + 1)
      by_again true e less again =
          let z = any_some (same x) xs e in
          let is : slice_get xs z.0 ≡ Some x = z.2 ∙ ap (λ v. Some v) (sym (same_true x z.1 z.3)) in
          again z.0 (slice_get_within xs z.0 x is) is
      by_again false e less again =
          let D : ℕ → Bool = λ k. T k && (at k == 0) in
          let s = split_le T (λ k. T k && not (at k == 0)) D n ys (λ k. parts (T k) (at k == 0)) in
          let one = total_single D n ys (λ i j on off. apart i j (first_so (T i) _ on) (first_so (T j) _ off) (ap (slice_get (x ∷ xs)) (eqb-true (at i) 0 (second_so (T i) _ on) ∙ sym (eqb-true (at j) 0 (second_so (T j) _ off))))) in
          omega (arith, s, one, less)
        where
          parts : (t z : Bool) → one_if t ≤ one_if (t && not z) + one_if (t && z)
          parts true true = omega arith
          parts true false = omega arith
          parts false z = omega arith
