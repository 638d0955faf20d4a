-- Names joined by `And`.
use Rattle.std.specs.Prelude.{ℕ, List, [], ◌∷◌, ◌++◌, flat_map, codes}

-- the first item's name, and each other one after `And`
abbrev pub joined_names : {A : Type 0} → (A → List ℕ) → List A → List ℕ
joined_names name [] = []
joined_names name (x ∷ xs) = name x ++ flat_map (λ y. codes "And" ++ name y) xs
