-- Insertion sort is the one list that is sorted and keeps what ties in its order.
use Rattle.std.proofs.Common.{◌≡◌, ℕ, zero, suc, ◌<◌, ◌≤◌, List, [], ◌∷◌, map, length, get_or, Bool, true, false, cond, not, ◌&&◌, refl, sym, ap, ◌∙◌, subst, arith}
use Rattle.std.specs.Prelude.{filter, ⊤, if◌then◌else◌}
use Rattle.std.specs.Cmp.{IsStrictWeakOrder}
use Rattle.std.specs.List.Sorted.{IsSortedBy, IsStableBy, ties}
use Rattle.std.proofs.lemmas.List.Sorted.{sorted_far}
use Rattle.rel_model.specs.Ordered.{inserted, sorted_by}

-- none of them is less than x
abbrev pub NoneLess : {X : Type 0} → (X → X → Bool) → X → List X → Type 0
NoneLess lt x [] = ⊤
NoneLess lt x (y ∷ ys) = (lt y x ≡ false) × NoneLess lt x ys

-- each has none less after it
abbrev pub Rises : {X : Type 0} → (X → X → Bool) → List X → Type 0
Rises lt [] = ⊤
Rises lt (x ∷ xs) = NoneLess lt x xs × Rises lt xs

-- two lists in which what ties stands alike
abbrev TieAlike : {X : Type 0} → (X → X → Bool) → List X → List X → Type 0
TieAlike {X} lt xs ys = (x : X) → filter (ties lt x) xs ≡ filter (ties lt x) ys

pub not_both : (b : Bool) → b ≡ true → b ≡ false → ⊥
not_both true p q = cc
not_both false p q = cc

both_ties : (a b : Bool) → a ≡ false → b ≡ false → (not a && not b) ≡ true
both_ties true b p q = cc
both_ties false true p q = cc
both_ties false false p q = refl

pub when_false : {A : Type 0} (b : Bool) (x y : A) → b ≡ false → cond b x y ≡ y
when_false true x y h = cc
when_false false x y h = refl

pub when_true : {A : Type 0} (b : Bool) (x y : A) → b ≡ true → cond b x y ≡ x
when_true true x y h = refl
when_true false x y h = cc

pub head_is : {X : Type 0} (x y : X) (xs ys : List X) → x ∷ xs ≡ y ∷ ys → x ≡ y
head_is x y xs ys h = ap (λ l. get_or l 0 x) h

tail_of : {X : Type 0} → List X → List X
tail_of [] = []
tail_of (x ∷ xs) = xs

pub tail_is : {X : Type 0} (x y : X) (xs ys : List X) → x ∷ xs ≡ y ∷ ys → xs ≡ ys
unfolding tail_of
tail_is x y xs ys h = ap tail_of h

module _ {X : Type 0} (lt : X → X → Bool) (order : IsStrictWeakOrder lt) where
  itself : (x : X) → lt x x ≡ false
  itself x = by (lt x x) refl
    where
      by : (b : Bool) → lt x x ≡ b → b ≡ false
      by true e = sym e ∙ order.one_way x x e
      by false e = refl

  ties_itself : (x : X) → ties lt x x ≡ true
  ties_itself x = both_ties (lt x x) (lt x x) (itself x) (itself x)

  -- what stands among the items isn't less
  found_not_less : (x y : X) (ys rest : List X) (p : X → Bool) → NoneLess lt x ys → filter p ys ≡ y ∷ rest → lt y x ≡ false
  found_not_less x y [] rest p h e = cc
  found_not_less x y (z ∷ ys) rest p h e = by (p z) refl (λ k. found_not_less x y ys rest p h.1 k)
    where
      by : (b : Bool) → p z ≡ b → (filter p ys ≡ y ∷ rest → lt y x ≡ false) → lt y x ≡ false
      by true q below = subst (λ v. lt v x ≡ false) (head_is z y _ rest (sym (when_true (p z) (z ∷ filter p ys) (filter p ys) q) ∙ e)) h.0
      by false q below = below (sym (when_false (p z) (z ∷ filter p ys) (filter p ys) q) ∙ e)

  -- the first of what ties with an item that is there
  first_tied : (y : X) (ys : List X) → filter (ties lt y) (y ∷ ys) ≡ y ∷ filter (ties lt y) ys
  first_tied y ys = when_true (ties lt y y) (y ∷ filter (ties lt y) ys) (filter (ties lt y) ys) (ties_itself y)

  tails_alike : (x : X) (xs ys : List X) → TieAlike lt (x ∷ xs) (x ∷ ys) → TieAlike lt xs ys
  tails_alike x xs ys h z = by (ties lt z x) refl
    where
      by : (b : Bool) → ties lt z x ≡ b → filter (ties lt z) xs ≡ filter (ties lt z) ys
      by true q = tail_is x x _ _ (sym (when_true (ties lt z x) (x ∷ filter (ties lt z) xs) (filter (ties lt z) xs) q) ∙ h z ∙ when_true (ties lt z x) (x ∷ filter (ties lt z) ys) (filter (ties lt z) ys) q)
      by false q = sym (when_false (ties lt z x) (x ∷ filter (ties lt z) xs) (filter (ties lt z) xs) q) ∙ h z ∙ when_false (ties lt z x) (x ∷ filter (ties lt z) ys) (filter (ties lt z) ys) q

  pub one_sorting : (xs ys : List X) → Rises lt xs → Rises lt ys → TieAlike lt xs ys → xs ≡ ys
  one_sorting [] [] r s h = refl
  one_sorting [] (y ∷ ys) r s h = let e = h y ∙ first_tied y ys in cc
  one_sorting (x ∷ xs) [] r s h = let e = sym (first_tied x xs) ∙ h x in cc
  one_sorting (x ∷ xs) (y ∷ ys) r s h =
      let up : lt x y ≡ false = found_not_less y x (y ∷ ys) (filter (ties lt x) xs) (ties lt x) (itself y, s.0) (sym (h x) ∙ first_tied x xs) in
      let down : lt y x ≡ false = found_not_less x y (x ∷ xs) (filter (ties lt y) ys) (ties lt y) (itself x, r.0) (h y ∙ first_tied y ys) in
      let tied : ties lt x y ≡ true = both_ties (lt x y) (lt y x) up down in
      let same : x ≡ y = head_is x y _ _ (sym (first_tied x xs) ∙ h x ∙ when_true (ties lt x y) (y ∷ filter (ties lt x) ys) (filter (ties lt x) ys) tied) in
      ap (λ v. v ∷ xs) same ∙ ap (λ l. y ∷ l) (one_sorting xs ys r.1 s.1 (tails_alike y xs ys (subst (λ v. TieAlike lt (v ∷ xs) (y ∷ ys)) same h)))

  -- ---- what insertion gives

  none_less_inserted : (z x : X) (ys : List X) → lt x z ≡ false → NoneLess lt z ys → NoneLess lt z (inserted lt x ys)
  none_less_inserted z x [] h n = (h, tt)
  none_less_inserted z x (y ∷ ys) h n = by (lt y x) refl (none_less_inserted z x ys h n.1)
    where
      by : (b : Bool) → lt y x ≡ b → NoneLess lt z (inserted lt x ys) → NoneLess lt z (if lt y x then y ∷ inserted lt x ys else x ∷ y ∷ ys)
      by true q below = subst (NoneLess lt z) (sym (when_true (lt y x) (y ∷ inserted lt x ys) (x ∷ y ∷ ys) q)) (n.0, below)
      by false q below = subst (NoneLess lt z) (sym (when_false (lt y x) (y ∷ inserted lt x ys) (x ∷ y ∷ ys) q)) (h, n)

  none_less_far : (x y : X) (ys : List X) → lt y x ≡ false → NoneLess lt y ys → NoneLess lt x ys
  none_less_far x y [] h n = tt
  none_less_far x y (z ∷ ys) h n = (order.chain z y x n.0 h, none_less_far x y ys h n.1)

  rises_inserted : (x : X) (ys : List X) → Rises lt ys → Rises lt (inserted lt x ys)
  rises_inserted x [] r = (tt, tt)
  rises_inserted x (y ∷ ys) r = by (lt y x) refl (rises_inserted x ys r.1)
    where
      by : (b : Bool) → lt y x ≡ b → Rises lt (inserted lt x ys) → Rises lt (if lt y x then y ∷ inserted lt x ys else x ∷ y ∷ ys)
      by true q below = subst (Rises lt) (sym (when_true (lt y x) (y ∷ inserted lt x ys) (x ∷ y ∷ ys) q)) (none_less_inserted y x ys (order.one_way y x q) r.0, below)
      by false q below = subst (Rises lt) (sym (when_false (lt y x) (y ∷ inserted lt x ys) (x ∷ y ∷ ys) q)) ((q, none_less_far x y ys q r.0), r)

  pub rises_sorted : (xs : List X) → Rises lt (sorted_by lt xs)
  rises_sorted [] = tt
  rises_sorted (x ∷ xs) = rises_inserted x (sorted_by lt xs) (rises_sorted xs)

  -- where y is less than x, the two don't tie with one item
  apart : (x y z : X) → lt y x ≡ true → ties lt z x ≡ true → ties lt z y ≡ false
  apart x y z h t = by (ties lt z y) refl
    where
      lt_x : (a b : Bool) → (not a && not b) ≡ true → (a ≡ false) × (b ≡ false)
      lt_x true b e = cc
      lt_x false true e = cc
      lt_x false false e = (refl, refl)

      by : (b : Bool) → ties lt z y ≡ b → b ≡ false
      by true q =
          let tx = lt_x (lt z x) (lt x z) t in
          let ty = lt_x (lt z y) (lt y z) q in
          absurd (not_both (lt y x) h (order.chain y z x ty.1 tx.0))
      by false q = refl

  ties_inserted : (z x : X) (ys : List X) → filter (ties lt z) (inserted lt x ys) ≡ filter (ties lt z) (x ∷ ys)
  ties_inserted z x [] = refl
  ties_inserted z x (y ∷ ys) = by (lt y x) refl (ties_inserted z x ys)
    where
      swapped : (a b : Bool) → ties lt z x ≡ a → ties lt z y ≡ b → lt y x ≡ true → (l : List X) → cond b (y ∷ cond a (x ∷ l) l) (cond a (x ∷ l) l) ≡ cond a (x ∷ cond b (y ∷ l) l) (cond b (y ∷ l) l)
      swapped true true p q h l = absurd (not_both (ties lt z y) q (apart x y z h p))
      swapped true false p q h l = refl
      swapped false true p q h l = refl
      swapped false false p q h l = refl

      by : (b : Bool) → lt y x ≡ b → filter (ties lt z) (inserted lt x ys) ≡ filter (ties lt z) (x ∷ ys) → filter (ties lt z) (if lt y x then y ∷ inserted lt x ys else x ∷ y ∷ ys) ≡ filter (ties lt z) (x ∷ y ∷ ys)
      by true q below =
          ap (filter (ties lt z)) (when_true (lt y x) (y ∷ inserted lt x ys) (x ∷ y ∷ ys) q)
          ∙ ap (λ l. cond (ties lt z y) (y ∷ l) l) below
          ∙ swapped (ties lt z x) (ties lt z y) refl refl q (filter (ties lt z) ys)
      by false q below = ap (filter (ties lt z)) (when_false (lt y x) (y ∷ inserted lt x ys) (x ∷ y ∷ ys) q)

  stable_sorted : (xs : List X) (z : X) → filter (ties lt z) (sorted_by lt xs) ≡ filter (ties lt z) xs
  stable_sorted [] z = refl
  stable_sorted (x ∷ xs) z = ties_inserted z x (sorted_by lt xs) ∙ ap (λ l. cond (ties lt z x) (x ∷ l) l) (stable_sorted xs z)

  -- ---- what std's sorts promise

  later_not_less : (x : X) (xs : List X) → ((j : ℕ) (d : X) → j < length xs → lt (get_or xs j d) x ≡ false) → NoneLess lt x xs
  later_not_less x [] h = tt
  later_not_less x (y ∷ ys) h = (h zero x (omega arith), later_not_less x ys (λ j d l. h (suc j) d (omega arith)))

  pub rises_from : (xs : List X) → ((i j : ℕ) (d : X) → i ≤ j → j < length xs → lt (get_or xs j d) (get_or xs i d) ≡ false) → Rises lt xs
  rises_from [] h = tt
  rises_from (x ∷ xs) h = (later_not_less x xs (λ j d l. h zero (suc j) d (omega arith) (omega arith)), rises_from xs (λ i j d l b. h (suc i) (suc j) d (omega arith) (omega arith)))

  -- a stable sort gives what insertion gives
  pub sorted_is : (xs ys : List X) → IsSortedBy lt ys → IsStableBy lt xs ys → ys ≡ sorted_by lt xs
  sorted_is xs ys up stable =
      one_sorting ys (sorted_by lt xs) (rises_from ys (sorted_far lt order ys up)) (rises_sorted xs) (λ x. stable x ∙ sym (stable_sorted xs x))

-- ---- sorting by what is made of the items

inserted-map : {X Y : Type 0} (f : X → Y) (lt : Y → Y → Bool) (x : X) (ys : List X) → inserted lt (f x) (map f ys) ≡ map f (inserted (λ a b. lt (f a) (f b)) x ys)
inserted-map f lt x [] = refl
inserted-map f lt x (y ∷ ys) = by (lt (f y) (f x)) refl (inserted-map f lt x ys)
  where
    by : (b : Bool) → lt (f y) (f x) ≡ b → inserted lt (f x) (map f ys) ≡ map f (inserted (λ a b. lt (f a) (f b)) x ys) → inserted lt (f x) (map f (y ∷ ys)) ≡ map f (inserted (λ a b. lt (f a) (f b)) x (y ∷ ys))
    by true q below =
        when_true (lt (f y) (f x)) (f y ∷ inserted lt (f x) (map f ys)) (f x ∷ f y ∷ map f ys) q
        ∙ ap (λ l. f y ∷ l) below
        ∙ ap (map f) (sym (when_true (lt (f y) (f x)) (y ∷ inserted (λ a b. lt (f a) (f b)) x ys) (x ∷ y ∷ ys) q))
    by false q below =
        when_false (lt (f y) (f x)) (f y ∷ inserted lt (f x) (map f ys)) (f x ∷ f y ∷ map f ys) q
        ∙ ap (map f) (sym (when_false (lt (f y) (f x)) (y ∷ inserted (λ a b. lt (f a) (f b)) x ys) (x ∷ y ∷ ys) q))

pub sorted_by-map : {X Y : Type 0} (f : X → Y) (lt : Y → Y → Bool) (xs : List X) → sorted_by lt (map f xs) ≡ map f (sorted_by (λ a b. lt (f a) (f b)) xs)
sorted_by-map f lt [] = refl
sorted_by-map f lt (x ∷ xs) = ap (inserted lt (f x)) (sorted_by-map f lt xs) ∙ inserted-map f lt x (sorted_by (λ a b. lt (f a) (f b)) xs)
