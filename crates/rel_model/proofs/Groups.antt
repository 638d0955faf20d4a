-- Sorted lists, in which what stands at a key lies side by side.
use Rattle.std.proofs.Common.{◌≡◌, ℕ, zero, suc, ◌+◌, ◌-◌, ◌<◌, ◌≤◌, List, [], ◌∷◌, length, get_or, take, drop, Bool, true, false, cond, not, refl, sym, ap, ◌∙◌, subst, arith, add-one}
use Rattle.std.specs.Prelude.{filter, ⊤, if◌then◌else◌}
use Rattle.std.specs.List.{prefix_len}
use Rattle.std.specs.declared.cmp.Ordering.{Ordering}
use Rattle.std.specs.declared.cmp.Ordering.TheVariants.{Less, Equal, Greater}
use Rattle.std.specs.Ordering.{is_lt, is_eq, is_gt, ordering_index, ordering_reverse}
use Rattle.std.specs.Cmp.{IsTotalOrder}
use Rattle.std.specs.List.Sorted.{IsSortedBy, IsNonDecreasingBy}
use Rattle.std.proofs.lemmas.List.Sorted.{ranks_by, searchable_from_sorted}
use Rattle.pg_base.specs.Lists.{Each}
use Rattle.rel_model.specs.Ordered.{inserted, sorted_by}
use Rattle.rel_model.proofs.Sorting.{rises_sorted, when_true, when_false, not_both}
use Rattle.rel_model.proofs.OneOrder.{rises_adjacent}

-- ---- sorting keeps what a test finds in its order, where no two that pass are one less than the other

module _ {X : Type 0} (lt : X → X → Bool) (q : X → Bool) (level : (a b : X) → q a ≡ true → q b ≡ true → lt b a ≡ false) where
  filter_inserted : (x : X) (ys : List X) → filter q (inserted lt x ys) ≡ filter q (x ∷ ys)
  filter_inserted x [] = refl
  filter_inserted x (y ∷ ys) = by (lt y x) refl (filter_inserted x ys)
    where
      swapped : (a b : Bool) → q x ≡ a → q y ≡ b → lt y x ≡ true → (l : List X) → cond b (y ∷ cond a (x ∷ l) l) (cond a (x ∷ l) l) ≡ cond a (x ∷ cond b (y ∷ l) l) (cond b (y ∷ l) l)
      swapped true true p r h l = absurd (not_both (lt y x) h (level x y p r))
      swapped true false p r h l = refl
      swapped false true p r h l = refl
      swapped false false p r h l = refl

      by : (b : Bool) → lt y x ≡ b → filter q (inserted lt x ys) ≡ filter q (x ∷ ys) → filter q (if lt y x then y ∷ inserted lt x ys else x ∷ y ∷ ys) ≡ filter q (x ∷ y ∷ ys)
      by true t below =
          ap (filter q) (when_true (lt y x) (y ∷ inserted lt x ys) (x ∷ y ∷ ys) t)
          ∙ ap (λ l. cond (q y) (y ∷ l) l) below
          ∙ swapped (q x) (q y) refl refl t (filter q ys)
      by false t below = ap (filter q) (when_false (lt y x) (y ∷ inserted lt x ys) (x ∷ y ∷ ys) t)

  pub filter_sorted : (xs : List X) → filter q (sorted_by lt xs) ≡ filter q xs
  filter_sorted [] = refl
  filter_sorted (x ∷ xs) = filter_inserted x (sorted_by lt xs) ∙ ap (λ l. cond (q x) (x ∷ l) l) (filter_sorted xs)

-- ---- a list that climbs to what is looked for, and past it

abbrev Climbs : {X : Type 0} → (X → ℕ) → List X → Type 0
Climbs n [] = ⊤
Climbs n (x ∷ xs) = Each (λ y. n x ≤ n y) xs × Climbs n xs

each_index : {X : Type 0} (P : X → Type 0) (xs : List X) → ((j : ℕ) (d : X) → j < length xs → P (get_or xs j d)) → Each P xs
each_index P [] h = tt
each_index P (x ∷ xs) h = (h zero x (omega arith), each_index P xs (λ j d lt. h (suc j) d (omega (arith, lt))))

climbs_from : {X : Type 0} (n : X → ℕ) (xs : List X) → IsNonDecreasingBy n xs → Climbs n xs
climbs_from n [] h = tt
climbs_from n (x ∷ xs) h = (
  each_index (λ y. n x ≤ n y) xs (λ j d lt. h zero (suc j) d (omega arith) (omega (arith, lt))),
  climbs_from n xs (λ i j d le lt. h (suc i) (suc j) d (omega (arith, le)) (omega (arith, lt))),
)

one_more : (n : ℕ) → 1 + n ≡ suc n
one_more n = omega arith

both_less : (a b : ℕ) → suc a - suc b ≡ a - b
both_less a b = omega arith

nothing_less : (a : ℕ) → a - 0 ≡ a
nothing_less a = omega arith

module _ {X : Type 0} (c : X → Ordering) where
  abbrev pub lower : List X → ℕ
  lower xs = prefix_len (λ r. is_lt (c r)) xs

  abbrev pub upper : List X → ℕ
  upper xs = prefix_len (λ r. not (is_gt (c r))) xs

  none_lower : (xs : List X) → Each (λ y. 1 ≤ ordering_index (c y)) xs → lower xs ≡ 0
  none_lower [] h = refl
  none_lower (x ∷ xs) h = by (c x) refl
    where
      by : (o : Ordering) → c x ≡ o → lower (x ∷ xs) ≡ 0
      by Less e = absurd (let k : 1 ≤ 0 = subst (λ o. 1 ≤ ordering_index o) e h.0 in omega (arith, k))
      by Equal e = rw e refl
      by Greater e = rw e refl

  none_equal : (xs : List X) → Each (λ y. 2 ≤ ordering_index (c y)) xs → filter (λ r. is_eq (c r)) xs ≡ []
  none_equal [] h = refl
  none_equal (x ∷ xs) h = by (c x) refl (none_equal xs h.1)
    where
      by : (o : Ordering) → c x ≡ o → filter (λ r. is_eq (c r)) xs ≡ [] → filter (λ r. is_eq (c r)) (x ∷ xs) ≡ []
      by Less e below = absurd (let k : 2 ≤ 0 = subst (λ o. 2 ≤ ordering_index o) e h.0 in omega (arith, k))
      by Equal e below = absurd (let k : 2 ≤ 1 = subst (λ o. 2 ≤ ordering_index o) e h.0 in omega (arith, k))
      by Greater e below = rw e below

  pub record IsRange (xs : List X) : Type 0 where
    pub order : lower xs ≤ upper xs
    pub within : upper xs ≤ length xs
    pub is : take (upper xs - lower xs) (drop (lower xs) xs) ≡ filter (λ r. is_eq (c r)) xs

  ranged : (xs : List X) → Climbs (λ r. ordering_index (c r)) xs → IsRange xs
  ranged [] h = record { order = omega arith; within = omega arith; is = refl }
  ranged (x ∷ xs) h = by (c x) refl (ranged xs h.1)
    where
      by : (o : Ordering) → c x ≡ o → IsRange xs → IsRange (x ∷ xs)
      by Less e below = record {
        order = rw (e, one_more) (let k = below.order in omega (arith, k));
        within = rw (e, one_more) (let k = below.within in omega (arith, k));
        is = rw (e, one_more (lower xs), one_more (upper xs), both_less (upper xs) (lower xs)) below.is;
      }
      by Equal e below =
          let none : lower xs ≡ 0 = none_lower xs (subst (λ o. Each (λ y. ordering_index o ≤ ordering_index (c y)) xs) e h.0) in
          let rest : take (upper xs) xs ≡ filter (λ r. is_eq (c r)) xs = sym (ap (λ n. take n xs) (nothing_less (upper xs))) ∙ ap (λ n. take (upper xs - n) (drop n xs)) (sym none) ∙ below.is in
          record {
            order = rw (e, one_more) (omega arith);
            within = rw (e, one_more) (let k = below.within in omega (arith, k));
            is = rw (e, one_more, nothing_less) (ap (λ l. x ∷ l) rest);
          }
      by Greater e below =
          let none = none_equal xs (subst (λ o. Each (λ y. ordering_index o ≤ ordering_index (c y)) xs) e h.0) in
          record { order = rw e (omega arith); within = rw e (omega arith); is = rw e (sym none) }

-- what a sorted list has at a key
module _ {K X : Type 0} {R : K → K → Ordering} (o : IsTotalOrder R) (f : X → K) (k : K) where
  abbrev place : X → Ordering
  place r = R (f r) k

  abbrev before : X → X → Bool
  before a b = is_lt (R (f a) (f b))

  sorted_list : (xs : List X) → IsSortedBy before (sorted_by before xs)
  sorted_list xs j d low high = rw add-one (rises_adjacent before (sorted_by before xs) j d (omega (arith, high)) (rises_sorted before (ranks_by o f) xs))

  pub climbing : (xs : List X) → IsNonDecreasingBy (λ r. ordering_index (place r)) (sorted_by before xs)
  climbing xs = searchable_from_sorted o f (sorted_by before xs) k (sorted_list xs)

  pub range_of : (xs : List X) → IsRange place (sorted_by before xs)
  range_of xs = ranged place (sorted_by before xs) (climbs_from (λ r. ordering_index (place r)) (sorted_by before xs) (climbing xs))

  is_equal : (r : Ordering) → is_eq r ≡ true → r ≡ Equal
  is_equal Less e = cc
  is_equal Equal e = refl
  is_equal Greater e = cc

  level_at : (a b : X) → is_eq (place a) ≡ true → is_eq (place b) ≡ true → before b a ≡ false
  level_at a b p q =
      let e : R (f b) (f a) ≡ R k (f a) = o.congr (f b) k (f a) (is_equal (place b) q) in
      ap is_lt (e ∙ o.antisymm k (f a) ∙ ap ordering_reverse (is_equal (place a) p))

  pub sorted_keeps : (xs : List X) → filter (λ r. is_eq (place r)) (sorted_by before xs) ≡ filter (λ r. is_eq (place r)) xs
  sorted_keeps xs = filter_sorted before (λ r. is_eq (place r)) level_at xs
