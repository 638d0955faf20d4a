-- Lists and pairs of lists at a place.
use Rattle.pg_base.proofs.ListSteps.{take_item}
use Rattle.std.proofs.lemmas.List.{take_all}
use Rattle.std.proofs.Common.{◌≡◌, ℕ, zero, suc, ◌+◌, ◌<◌, ◌≤◌, List, [], ◌∷◌, ◌++◌, length, get_or, set, take, map, refl, sym, ap, subst, arith}
use Rattle.std.specs.Prelude.{Some, slice_get}
use Rattle.pg_base.specs.Lists.{Each, EachPair}

pub Each_append : {A : Type 0} (P : A → Type 0) (xs : List A) (x : A) → Each P xs → P x → Each P (xs ++ x ∷ [])
Each_append P [] x h p = (p, tt)
Each_append P (y ∷ ys) x h p = (h.0, Each_append P ys x h.1 p)

pub Each_map : {A : Type 0} (P Q : A → Type 0) (f : (x : A) → P x → Q x) (xs : List A) → Each P xs → Each Q xs
Each_map P Q f [] h = tt
Each_map P Q f (x ∷ xs) h = (f x h.0, Each_map P Q f xs h.1)

-- each item, given what holds of each by two facts
pub Each_both : {A : Type 0} (P Q R : A → Type 0) (f : (x : A) → P x → Q x → R x) (xs : List A) → Each P xs → Each Q xs → Each R xs
Each_both P Q R f [] h k = tt
Each_both P Q R f (x ∷ xs) h k = (f x h.0 k.0, Each_both P Q R f xs h.1 k.1)

pub Each_at : {A : Type 0} (P : A → Type 0) (xs : List A) (i : ℕ) (x : A) → Each P xs → slice_get xs i ≡ Some x → P x
Each_at P [] i x h e = absurd (cc)
Each_at P (y ∷ ys) zero x h e = let s : y ≡ x = cc in subst P s h.0
Each_at P (y ∷ ys) (suc i) x h e = Each_at P ys i x h.1 e

-- the item at a place that the list has
pub item_is : {A : Type 0} (xs : List A) (i : ℕ) (x d : A) → slice_get xs i ≡ Some x → get_or xs i d ≡ x
item_is [] i x d e = absurd (cc)
item_is (y ∷ ys) zero x d e = cc
item_is (y ∷ ys) (suc i) x d e = item_is ys i x d e

pub get_is : {A : Type 0} (xs : List A) (i : ℕ) (d : A) → i < length xs → slice_get xs i ≡ Some (get_or xs i d)
get_is [] i d lt = absurd (omega arith)
get_is (y ∷ ys) zero d lt = refl
get_is (y ∷ ys) (suc i) d lt = get_is ys i d (omega arith)

module _ {A B : Type 0} (R : A → B → Type 0) where
  pub pair_at : (xs : List A) (ys : List B) (i : ℕ) (x : A) (d : B) → EachPair R xs ys → slice_get xs i ≡ Some x → R x (get_or ys i d)
  pair_at [] ys i x d h e = absurd (cc)
  pair_at (a ∷ xs) [] i x d h e = absurd h
  pair_at (a ∷ xs) (b ∷ ys) zero x d h e = let s : a ≡ x = cc in subst (λ t. R t b) s h.0
  pair_at (a ∷ xs) (b ∷ ys) (suc i) x d h e = pair_at xs ys i x d h.1 e

  pub pair_set : (xs : List A) (ys : List B) (i : ℕ) (x : A) (y : B) → EachPair R xs ys → slice_get xs i ≡ Some x → R x y → EachPair R xs (set ys i y)
  pair_set [] ys i x y h e p = absurd (cc)
  pair_set (a ∷ xs) [] i x y h e p = absurd h
  pair_set (a ∷ xs) (b ∷ ys) zero x y h e p = let s : a ≡ x = cc in (subst (λ t. R t y) (sym s) p, h.1)
  pair_set (a ∷ xs) (b ∷ ys) (suc i) x y h e p = (h.0, pair_set xs ys i x y h.1 e p)

  pub pair_length : (xs : List A) (ys : List B) → EachPair R xs ys → length xs ≡ length ys
  pair_length [] [] h = refl
  pair_length [] (b ∷ ys) h = absurd h
  pair_length (a ∷ xs) [] h = absurd h
  pair_length (a ∷ xs) (b ∷ ys) h = ap suc (pair_length xs ys h.1)

  pub pair_made : (f : A → B) → (P : A → Type 0) → ((x : A) → P x → R x (f x)) → (xs : List A) → Each P xs → EachPair R xs (map f xs)
  pair_made f P g [] h = tt
  pair_made f P g (x ∷ xs) h = (g x h.0, pair_made f P g xs h.1)

pub pair_map : {A B : Type 0} (R S : A → B → Type 0) → ((x : A) (y : B) → R x y → S x y) → (xs : List A) (ys : List B) → EachPair R xs ys → EachPair S xs ys
pair_map R S f [] [] h = tt
pair_map R S f [] (y ∷ ys) h = absurd h
pair_map R S f (x ∷ xs) [] h = absurd h
pair_map R S f (x ∷ xs) (y ∷ ys) h = (f x y h.0, pair_map R S f xs ys h.1)

pub pair_both : {A B : Type 0} (R S T : A → B → Type 0) → ((x : A) (y : B) → R x y → S x y → T x y) → (xs : List A) (ys : List B) → EachPair R xs ys → EachPair S xs ys → EachPair T xs ys
pair_both R S T f [] [] h k = tt
pair_both R S T f [] (y ∷ ys) h k = absurd h
pair_both R S T f (x ∷ xs) [] h k = absurd h
pair_both R S T f (x ∷ xs) (y ∷ ys) h k = (f x y h.0 k.0, pair_both R S T f xs ys h.1 k.1)

-- a loop's turn, and its end
pub Each_more : {A : Type 0} (P : A → Type 0) (xs : List A) (i : ℕ) (x : A) → i < length xs → x ≡ get_or xs i x → Each P (take i xs) → P x → Each P (take (i + 1) xs)
Each_more P xs i x lt e h p = subst (λ l. Each P l) (sym (take_item xs i x lt e)) (Each_append P (take i xs) x h p)

pub Each_all : {A : Type 0} (P : A → Type 0) (xs : List A) (i : ℕ) → length xs ≤ i → Each P (take i xs) → Each P xs
Each_all P xs i le h = subst (λ l. Each P l) (take_all i xs le) h
