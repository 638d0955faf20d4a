-- An element of a list by its place.
use Rattle.std.proofs.Common.{◌≡◌, ℕ, zero, suc, ◌+◌, List, [], ◌∷◌, drop, Some, arith}
use Rattle.std.specs.Prelude.{slice_get}

pub get_drop : {X : Type 0} (xs ys : List X) (k : ℕ) (x : X) → drop k xs ≡ x ∷ ys → slice_get xs k ≡ Some x
get_drop [] ys zero x h = cc
get_drop [] ys (suc k) x h = cc
get_drop (a ∷ xs) ys zero x h = cc
get_drop (a ∷ xs) ys (suc k) x h = get_drop xs ys k x h

pub drop_next : {X : Type 0} (xs ys : List X) (k : ℕ) (x : X) → drop k xs ≡ x ∷ ys → drop (k + 1) xs ≡ ys
drop_next [] ys zero x h = cc
drop_next [] ys (suc k) x h = cc
drop_next (a ∷ xs) ys zero x h = cc
drop_next (a ∷ xs) ys (suc k) x h = let e : suc k + 1 ≡ suc (k + 1) = omega arith in rw e (drop_next xs ys k x h)
