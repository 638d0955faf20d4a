-- Fetches that wait, in a list for each step, until the step is made to which they move: the latest fetch first.
use Rattle.std.specs.Prelude.{ℕ, List, [], ◌∷◌, ◌++◌, Option, Some, None, slice_get, slice_set}
use Rattle.plan_steps.specs.declared.plan.FetchStep.{FetchStep}
use Rattle.plan_steps.specs.declared.plan.Step.{Step}
use Rattle.inline_select.specs.Inlined.{target}

abbrev pub empty_lists : List Step → List (List FetchStep)
empty_lists [] = []
empty_lists (s ∷ steps) = [] ∷ empty_lists steps

abbrev pub put_at : List (List FetchStep) → ℕ → Option (List FetchStep) → FetchStep → List (List FetchStep)
put_at lists place None child = lists
put_at lists place (Some list) child = slice_set lists place (list ++ child ∷ [])

-- one fetch more at the end of the list at a place
abbrev pub with_child : List (List FetchStep) → ℕ → FetchStep → List (List FetchStep)
with_child lists place child = put_at lists place (slice_get lists place) child

-- a fetch more where it moves
abbrev pub with_moved : Option ℕ → FetchStep → List (List FetchStep) → List (List FetchStep)
with_moved None child lists = lists
with_moved (Some place) child lists = with_child lists place child

abbrev pub with_step : List Step → Option FetchStep → List (List FetchStep) → List (List FetchStep)
with_step steps None lists = lists
with_step steps (Some f) lists = with_moved (target steps f) f lists
