-- What is reached from some places by steps.
use Rattle.std.specs.Prelude.{◌≡◌, ◌⊎◌, List, [], ◌∷◌}

-- the item stands in the list
abbrev pub IsIn : {A : Type 0} → List A → A → Type 0
IsIn [] x = ⊥
IsIn (y ∷ ys) x = (y ≡ x) ⊎ IsIn ys x

pub data Reached {N : Type 0} (Starts : N → Type 0) (Next : N → N → Type 0) : N → Type 0 where
  starts : {n : N} → Starts n → Reached Starts Next n
  goes_on : {m n : N} → Reached Starts Next m → Next m n → Reached Starts Next n

-- the same of lists
abbrev pub ReachedBy : {N : Type 0} → List N → (N → List N) → N → Type 0
ReachedBy first next = Reached (IsIn first) (λ m. IsIn (next m))

-- the list has what is reached, and nothing else
pub record IsClosure {N : Type 0} (first : List N) (next : N → List N) (found : List N) : Type 0 where
  pub reached : (n : N) → IsIn found n → ReachedBy first next n
  pub complete : (n : N) → ReachedBy first next n → IsIn found n
