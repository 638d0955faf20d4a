-- Which items of a list are the same as items of another one, told by what is known of each by its place.
use Rattle.std.specs.Prelude.{ℕ, ◌+◌, Bool, true, false, List, [], ◌∷◌, slice_set}

-- the item at the place is met, if it is the same; else nothing more is known
abbrev pub put_met : List Bool → ℕ → Bool → List Bool
put_met met place true = slice_set met place true
put_met met place false = met

-- what is known once x is compared with each of the ys, which begin at the place
abbrev pub with_met : {A : Type 0} → (A → A → Bool) → A → List Bool → ℕ → List A → List Bool
with_met same x met place [] = met
with_met same x met place (y ∷ ys) = with_met same x (put_met met place (same x y)) (place + 1) ys
