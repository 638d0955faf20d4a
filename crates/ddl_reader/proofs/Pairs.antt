-- Lists whose items go together, place by place.
use Rattle.std.proofs.Common.{◌≡◌, ℕ, zero, suc, List, [], ◌∷◌, ◌++◌, Some, refl, subst}
use Rattle.std.specs.List.{slice_get}
use Rattle.pg_base.specs.Lists.{EachPair}

module _ {A B : Type 0} where
  pub pairs_more : (R : A → B → Type 0) (xs : List A) (ys : List B) (x : A) (y : B) → EachPair R xs ys → R x y → EachPair R (xs ++ x ∷ []) (ys ++ y ∷ [])
  pairs_more R [] [] x y h r = (r, tt)
  pairs_more R [] (b ∷ ys) x y h r = absurd h
  pairs_more R (a ∷ xs) [] x y h r = absurd h
  pairs_more R (a ∷ xs) (b ∷ ys) x y h r = (h.0, pairs_more R xs ys x y h.1 r)

  pub pairs_map : (R S : A → B → Type 0) → ((x : A) (y : B) → R x y → S x y) → (xs : List A) (ys : List B) → EachPair R xs ys → EachPair S xs ys
  pairs_map R S f [] [] h = tt
  pairs_map R S f [] (b ∷ ys) h = absurd h
  pairs_map R S f (a ∷ xs) [] h = absurd h
  pairs_map R S f (a ∷ xs) (b ∷ ys) h = (f a b h.0, pairs_map R S f xs ys h.1)

  -- what goes with the item at a place
  pub pairs_get : (R : A → B → Type 0) (xs : List A) (ys : List B) (i : ℕ) (y : B) → EachPair R xs ys → slice_get ys i ≡ Some y → (x : A) × (slice_get xs i ≡ Some x) × R x y
  pairs_get R [] [] i y h e = absurd (cc)
  pairs_get R [] (b ∷ ys) i y h e = absurd h
  pairs_get R (a ∷ xs) [] i y h e = absurd h
  pairs_get R (a ∷ xs) (b ∷ ys) zero y h e = let same : b ≡ y = cc in let P : B → Type 0 = λ z. R a z in (a, refl, subst P same h.0)
  pairs_get R (a ∷ xs) (b ∷ ys) (suc i) y h e = pairs_get R xs ys i y h.1 e
