-- Names that differ, as a loop over them meets them, and what holds of the item at a place.
use Rattle.std.proofs.Common.{◌≡◌, ◌≢◌, ℕ, zero, suc, ◌<◌, Bool, true, false, ◌||◌, List, [], ◌∷◌, map, length, get_or, take, Some, refl, sym, ap, ◌∙◌}
use Rattle.std.specs.List.{slice_get}
use Rattle.std.specs.Str.{bytes_eq}
use Rattle.std.proofs.lemmas.Slice.Eq.{bytes_eq-Decides}
use Rattle.std.proofs.lemmas.Option.{slice_get-get_or}
use Rattle.pg_base.specs.Lists.{Each, AreDistinct}
use Rattle.pg_catalog.specs.Names.{stands}
use Rattle.pg_catalog.proofs.EachFacts.{Each-get}

-- the item at a place, as a loop or an index gives it
pub item_at : {A : Type 0} (xs : List A) (i : ℕ) (x : A) → i < length xs → x ≡ get_or xs i x → slice_get xs i ≡ Some x
item_at {A} xs i x lt e = slice_get-get_or xs i x lt ∙ ap (λ (y : A). Some y) (sym e)

pub Each-at : {A : Type 0} (P : A → Type 0) (xs : List A) (i : ℕ) (x : A) → i < length xs → x ≡ get_or xs i x → Each P xs → P x
Each-at P xs i x lt e h = Each-get P xs i x h (item_at xs i x lt e)

Each-mapped : {A B : Type 0} (P : B → Type 0) (f : A → B) (xs : List A) → Each P (map f xs) → Each (λ a. P (f a)) xs
Each-mapped P f [] h = tt
Each-mapped P f (x ∷ xs) h = (h.0, Each-mapped P f xs h.1)

differ : (x y : List ℕ) → y ≢ x → (b : Bool) → bytes_eq x y ≡ b → bytes_eq x y ≡ false
differ x y apart true e = absurd (apart (sym ((bytes_eq-Decides x y).0 e)))
differ x y apart false e = e

neither : (a b : Bool) → a ≡ false → b ≡ false → (a || b) ≡ false
neither true b x y = x
neither false b x y = y

-- none of the items before it has its name
fresh_among : {A : Type 0} (f : A → List ℕ) (xs : List A) → AreDistinct (map f xs) → (i : ℕ) (x : A) → slice_get xs i ≡ Some x → stands (map f (take i xs)) (f x) ≡ false
fresh_among f [] d i x e = absurd (cc)
fresh_among f (y ∷ ys) d zero x e = refl
fresh_among f (y ∷ ys) d (suc i) x e =
    let apart = Each-get (λ z. f y ≢ f z) ys i x (Each-mapped (λ name. f y ≢ name) f ys d.0) e in
    neither (bytes_eq (f x) (f y)) (stands (map f (take i ys)) (f x)) (differ (f x) (f y) apart (bytes_eq (f x) (f y)) refl) (fresh_among f ys d.1 i x e)

pub fresh_at : {A : Type 0} (f : A → List ℕ) (xs : List A) → AreDistinct (map f xs) → (i : ℕ) (x : A) → i < length xs → x ≡ get_or xs i x → (made : List (List ℕ)) → made ≡ map f (take i xs) → stands made (f x) ≡ false
fresh_at f xs d i x lt e made is = ap (λ (l : List (List ℕ)). stands l (f x)) is ∙ fresh_among f xs d i x (item_at xs i x lt e)
