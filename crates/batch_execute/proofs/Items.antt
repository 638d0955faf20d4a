-- What is among the items of a list.
use Rattle.std.proofs.Common.{◌≡◌, ◌⊎◌, ℕ, zero, suc, ◌<◌, List, [], ◌∷◌, ◌++◌, map, length, Some, inl, inr, refl, ap, arith}
use Rattle.std.specs.Prelude.{slice_get}

abbrev pub IsIn : {A : Type 0} → A → List A → Type 0
IsIn x [] = ⊥
IsIn x (y ∷ ys) = (y ≡ x) ⊎ IsIn x ys

module _ {A : Type 0} (x : A) where
  pub in_left : (xs ys : List A) → IsIn x xs → IsIn x (xs ++ ys)
  in_left [] ys h = absurd h
  in_left (y ∷ xs) ys (inl e) = inl e
  in_left (y ∷ xs) ys (inr h) = inr (in_left xs ys h)

  pub in_right : (xs ys : List A) → IsIn x ys → IsIn x (xs ++ ys)
  in_right [] ys h = h
  in_right (y ∷ xs) ys h = inr (in_right xs ys h)

  pub in_either : (xs ys : List A) → IsIn x (xs ++ ys) → IsIn x xs ⊎ IsIn x ys
  in_either [] ys h = inr h
  in_either (y ∷ xs) ys (inl e) = inl (inl e)
  in_either (y ∷ xs) ys (inr h) = elim (in_either xs ys h) [ inl k ↦ inl (inr k) | inr k ↦ inr k ]

  pub in_got : (xs : List A) (k : ℕ) → slice_get xs k ≡ Some x → IsIn x xs
  in_got [] k e = cc
  in_got (y ∷ xs) zero e = inl cc
  in_got (y ∷ xs) (suc k) e = inr (in_got xs k e)

pub in_map : {A B : Type 0} (f : A → B) (x : A) (xs : List A) → IsIn x xs → IsIn (f x) (map f xs)
in_map f x [] h = absurd h
in_map f x (y ∷ xs) (inl e) = inl (ap f e)
in_map f x (y ∷ xs) (inr h) = inr (in_map f x xs h)

-- an item of a list that is made from another one
pub record IsMade {A B : Type 0} (f : A → B) (y : B) (xs : List A) : Type 0 where
  pub from : A
  pub among : IsIn from xs
  pub is : f from ≡ y

pub in_mapped : {A B : Type 0} (f : A → B) (y : B) (xs : List A) → IsIn y (map f xs) → IsMade f y xs
in_mapped f y [] h = absurd h
in_mapped f y (x ∷ xs) (inl e) = record { from = x; among = inl refl; is = e }
in_mapped f y (x ∷ xs) (inr h) = let m = in_mapped f y xs h in record { from = m.from; among = inr m.among; is = m.is }

pub get_map : {A B : Type 0} (f : A → B) (xs : List A) (k : ℕ) (x : A) → slice_get xs k ≡ Some x → slice_get (map f xs) k ≡ Some (f x)
get_map f [] k x h = cc
get_map f (a ∷ xs) zero x h = let e : a ≡ x = cc in ap (λ y. Some (f y)) e
get_map f (a ∷ xs) (suc k) x h = get_map f xs k x h

pub get_there : {A : Type 0} (xs : List A) (k : ℕ) → k < length xs → (x : A) × (slice_get xs k ≡ Some x)
get_there [] k lt = absurd (omega arith)
get_there (x ∷ xs) zero lt = (x, refl)
get_there (x ∷ xs) (suc k) lt = get_there xs k (omega (arith, lt))
