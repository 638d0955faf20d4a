-- What the places of a tree cost, by the same recursion, and what a count of it answers.
use Rattle.std.specs.Prelude.{◌≡◌, ◌<◌, ℕ, ◌+◌, List, [], ◌∷◌, Option, Some, Ok, Err, ⊤}
use Rattle.std.specs.Prelude.{Result}
use Rattle.place_tree.specs.declared.place.Place.{Place}
use Rattle.place_tree.specs.declared.counting.CountFault.{CountFault}
use Rattle.place_tree.specs.declared.counting.CountFault.TheVariants.{TooMany, Memory}
use Rattle.place_tree.specs.Fold.{Answer, Shows, Fails, One, Many, fold}

abbrev pub total : List ℕ → ℕ
total [] = 0
total (n ∷ ns) = n + total ns

abbrev pub answer_cost : Answer ℕ → ℕ
answer_cost (Shows l) = 0
answer_cost (Fails message) = 0
answer_cost (One n) = n
answer_cost (Many ns) = total ns

-- the sum of what the places of a parent cost at a state; a place costs by what it gives there
abbrev pub spent : {S : Type 0} → (ℕ → Place → S → Answer S) → (ℕ → Place → Answer S → ℕ) → List Place → ℕ
    → Option ℕ → S → ℕ
spent ask cost places i parent s =
    fold ask (λ i p s a rest. cost i p (ask i p s) + answer_cost a + rest) 0 places i parent s

-- ---- of the place at i, with the places after it

abbrev pub state_spent : {S : Type 0} → (ℕ → Place → S → Answer S) → (ℕ → Place → Answer S → ℕ) → List Place → ℕ
    → S → ℕ
state_spent ask cost behind i s = spent ask cost behind (i + 1) (Some i) s

abbrev pub states_spent : {S : Type 0} → (ℕ → Place → S → Answer S) → (ℕ → Place → Answer S → ℕ) → List Place → ℕ
    → List S → ℕ
states_spent ask cost behind i [] = 0
states_spent ask cost behind i (s ∷ ss) = state_spent ask cost behind i s + states_spent ask cost behind i ss

abbrev pub answer_spent : {S : Type 0} → (ℕ → Place → S → Answer S) → (ℕ → Place → Answer S → ℕ) → List Place → ℕ
    → Answer S → ℕ
answer_spent ask cost behind i (Shows l) = 0
answer_spent ask cost behind i (Fails message) = 0
answer_spent ask cost behind i (One s) = state_spent ask cost behind i s
answer_spent ask cost behind i (Many ss) = states_spent ask cost behind i ss

abbrev pub member_spent : {S : Type 0} → (ℕ → Place → S → Answer S) → (ℕ → Place → Answer S → ℕ) → List Place → ℕ
    → Place → S → ℕ
member_spent ask cost behind i p s = cost i p (ask i p s) + answer_spent ask cost behind i (ask i p s)

-- n are taken from what is left; too many, exactly where n are more
abbrev pub Spends : {A : Type 0} → ℕ → ℕ → ℕ → Result A CountFault → Type 0
Spends before now n (Ok x) = now + n ≡ before
Spends before now n (Err TooMany) = before < n
Spends before now n (Err Memory) = ⊤
