-- What the code makes of a plan and two renamings, part by part.
use Rattle.std.specs.Prelude.{◌≡◌, ◌<◌, ℕ, ◌+◌, if◌then◌else◌, List, [], ◌∷◌, length, Option, Some, None, option_map, slice_get}
use Rattle.place_tree.specs.Fold.{same_place}
use Rattle.plan_steps.specs.declared.plan.Layer.{Layer}
use Rattle.plan_steps.specs.declared.plan.FetchStep.{FetchStep, out-FetchStep}
use Rattle.plan_steps.specs.declared.plan.Step.{Step}
use Rattle.plan_steps.specs.declared.plan.Step.TheVariants as step
use Rattle.dedupe_steps.specs.Numbered.{at}
use Rattle.dedupe_steps.specs.Quotient.{ground_at}
use Rattle.dedupe_steps.specs.Sights.{at_or}

-- the numbers of the first things are below a count
abbrev pub AreWithin : List ℕ → ℕ → List ℕ → Type 0
AreWithin to count firsts = (m k : ℕ) → slice_get firsts m ≡ Some k → at to k < count

-- they are places of a list
abbrev pub AreBelow : ℕ → List ℕ → Type 0
AreBelow count firsts = (m k : ℕ) → slice_get firsts m ≡ Some k → k < count

-- the first things have the numbers in their order
abbrev pub AreInOrder : List ℕ → List ℕ → Type 0
AreInOrder to firsts = (m k : ℕ) → slice_get firsts m ≡ Some k → at to k ≡ m

-- no fetch has another one below it
abbrev pub AreFlat : List Step → Type 0
AreFlat steps = (k : ℕ) (f : FetchStep) → slice_get steps k ≡ Some (step.Fetch f) → (out-FetchStep f).children ≡ []

-- the new steps from a number on whose layer, as it was found, gets the number
abbrev pub laid_in : List (Option ℕ) → List ℕ → ℕ → ℕ → List ℕ → List ℕ
laid_in laid to x m [] = []
laid_in laid to x m (k ∷ firsts) =
    if same_place (option_map (at to) (at_or None laid k)) (Some x) then m ∷ laid_in laid to x (m + 1) firsts
    else laid_in laid to x (m + 1) firsts

-- the new layers from a number on, with lists of their steps
abbrev pub layers_made : List ℕ → List Layer → List (List ℕ) → ℕ → List ℕ → List Layer
layers_made to layers lists m [] = []
layers_made to layers lists m (y ∷ firsts) =
    record { over = ground_at to layers y; steps = at_or [] lists m } ∷ layers_made to layers lists (m + 1) firsts
