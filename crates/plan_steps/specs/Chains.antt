-- Numbers that follow one another.
use Rattle.std.specs.Prelude.{ℕ, zero, suc, Bool, ◌==◌, List, [], ◌∷◌, Option, Some, None}
use Rattle.std.specs.List.{list_any}

abbrev pub or_nothing : {A B : Type 0} → (A → List B) → Option A → List B
or_nothing f None = []
or_nothing f (Some a) = f a

-- a number, the one that follows it, and so on, but no more than so many in all
abbrev pub chain : (ℕ → Option ℕ) → ℕ → ℕ → List ℕ
chain next zero k = []
chain next (suc n) k = k ∷ or_nothing (chain next n) (next k)

abbrev pub is_in : List ℕ → ℕ → Bool
is_in numbers k = list_any (λ j. j == k) numbers
