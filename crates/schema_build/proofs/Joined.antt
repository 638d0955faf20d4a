-- Names joined by `And`, as a loop over them meets them.
use Rattle.std.proofs.Common.{◌≡◌, ℕ, List, [], ◌∷◌, ◌++◌, map, flat_map, codes, refl, arith}
use Rattle.std.proofs.lemmas.Grind.{common_steps}
use Rattle.pg_base.specs.Naming.{joined_by_and}
use Rattle.schema_build.specs.Joined.{joined_names}

pub joined_first : {A : Type 0} (f : A → List ℕ) (x : A) (xs : List A)
    → joined_by_and (map f (x ∷ xs)) ≡ f x ++ flat_map (λ y. codes "And" ++ f y) xs
joined_first f x [] = grind (arith, common_steps)
joined_first f x (y ∷ ys) =
    let e = joined_first f y ys in
    grind (arith, common_steps, e)

pub joined_all : {A : Type 0} (f : A → List ℕ) (xs : List A) → joined_by_and (map f xs) ≡ joined_names f xs
joined_all f [] = refl
joined_all f (x ∷ xs) = joined_first f x xs
