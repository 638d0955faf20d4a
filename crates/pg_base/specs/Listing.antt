-- Lists that are made from lists with the places of their items.
use Rattle.std.specs.Prelude.{ℕ, suc, Bool, if◌then◌else◌, List, [], ◌∷◌, ◌++◌}

abbrev pub when : {A : Type 0} → Bool → A → List A
when test x = if test then x ∷ [] else []

abbrev pub all_when : {A : Type 0} → Bool → List A → List A
all_when test xs = if test then xs else []

-- what each item with its place gives; the places count from a number on
abbrev pub map_at : {A B : Type 0} → (ℕ → A → B) → ℕ → List A → List B
map_at f from [] = []
map_at f from (x ∷ xs) = f from x ∷ map_at f (suc from) xs

-- what each item with its place gives, one after the other
abbrev pub each_at : {A B : Type 0} → (ℕ → A → List B) → ℕ → List A → List B
each_at f from [] = []
each_at f from (x ∷ xs) = f from x ++ each_at f (suc from) xs
