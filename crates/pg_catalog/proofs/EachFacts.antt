-- What holds of each item of a list.
use Rattle.std.proofs.Common.{◌≡◌, ℕ, zero, suc, ◌+◌, ◌<◌, ◌≤◌, List, [], ◌∷◌, ◌++◌, Some, length, get_or, take, map, sym, subst}
use Rattle.std.proofs.lemmas.List.{take_all}
use Rattle.std.specs.List.{slice_get}
use Rattle.pg_base.specs.Lists.{Each}
use Rattle.pg_base.proofs.ListSteps.{take_item}

pub Each-append : {A : Type 0} (P : A → Type 0) (xs ys : List A) → Each P xs → Each P ys → Each P (xs ++ ys)
Each-append P [] ys h k = k
Each-append P (x ∷ xs) ys h k = (h.0, Each-append P xs ys h.1 k)

pub Each-pushed : {A : Type 0} (P : A → Type 0) (xs : List A) (x : A) → Each P xs → P x → Each P (xs ++ x ∷ [])
Each-pushed P xs x h p = Each-append P xs (x ∷ []) h (p, tt)

-- a loop's turn, and its end
pub Each-more : {A : Type 0} (P : A → Type 0) (xs : List A) (i : ℕ) (x : A) → i < length xs → x ≡ get_or xs i x → Each P (take i xs) → P x → Each P (take (i + 1) xs)
Each-more P xs i x lt e h p = subst (λ l. Each P l) (sym (take_item xs i x lt e)) (Each-pushed P (take i xs) x h p)

pub Each-all : {A : Type 0} (P : A → Type 0) (xs : List A) (i : ℕ) → length xs ≤ i → Each P (take i xs) → Each P xs
Each-all P xs i le h = subst (λ l. Each P l) (take_all i xs le) h

pub Each-get : {A : Type 0} (P : A → Type 0) (xs : List A) (i : ℕ) (x : A) → Each P xs → slice_get xs i ≡ Some x → P x
Each-get P [] i x h e = absurd (cc)
Each-get P (y ∷ ys) zero x h e = let s : y ≡ x = cc in subst P s h.0
Each-get P (y ∷ ys) (suc i) x h e = Each-get P ys i x h.1 e

pub Each-map : {A : Type 0} (P Q : A → Type 0) (f : (x : A) → P x → Q x) (xs : List A) → Each P xs → Each Q xs
Each-map P Q f [] h = tt
Each-map P Q f (x ∷ xs) h = (f x h.0, Each-map P Q f xs h.1)

-- of the items made from others
pub Each-made : {A B : Type 0} (Q : B → Type 0) (g : A → B) (P : A → Type 0) (f : (x : A) → P x → Q (g x)) (xs : List A) → Each P xs → Each Q (map g xs)
Each-made Q g P f [] h = tt
Each-made Q g P f (x ∷ xs) h = (f x h.0, Each-made Q g P f xs h.1)
