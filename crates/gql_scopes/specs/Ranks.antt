-- Ranks of definitions, which rise from each definition to those that it spreads.
use Rattle.std.specs.Prelude.{ℕ, ◌+◌, Bool, true, ◌&&◌, nat_lt, List, [], ◌∷◌, slice_get, unwrap_or}
use Rattle.std.specs.List.{list_all}
use Rattle.gql_nodes.specs.Reached.{IsIn, ReachedBy}

-- the rank of a place, and 0 past the end
abbrev pub rank : List ℕ → ℕ → ℕ
rank ranks place = unwrap_or (slice_get ranks place) 0

-- the rank of the place is less than that of each target
abbrev pub rises : List ℕ → ℕ → List ℕ → Bool
rises ranks place targets = list_all (λ target. nat_lt (rank ranks place) (rank ranks target)) targets

-- the same of rows of targets; places are counted from n
abbrev pub rises_from : List ℕ → ℕ → List (List ℕ) → Bool
rises_from ranks n [] = true
rises_from ranks n (targets ∷ rows) = rises ranks n targets && rises_from ranks (n + 1) rows

-- no step leads to what leads back
abbrev pub HasNoCycle : (ℕ → List ℕ) → Type 0
HasNoCycle next = (place target : ℕ) → IsIn (next place) target → ReachedBy (target ∷ []) next place → ⊥
