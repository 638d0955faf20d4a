-- How the rows of each fetch of a plan are come by.
use Rattle.std.specs.Prelude.{ℕ, ◌+◌, List, [], ◌∷◌, Option, Some, None, position}
use Rattle.plan_steps.specs.declared.plan.FetchStep.{FetchStep, out-FetchStep}
use Rattle.plan_steps.specs.declared.plan.Step.{Step}
use Rattle.plan_steps.specs.Named.{fetch_at, item_at}
use Rattle.plan_steps.specs.Same.{same_fetch}
use Rattle.plan_steps.specs.Sent.{children_of}
use Rattle.batch_execute.specs.declared.way.Way.{Way}
use Rattle.batch_execute.specs.declared.way.Way.TheVariants.{Other, Once, Sent, Read}

-- the fetch on whose row a fetch hangs that has this parent, if one
abbrev pub fetch_above : List Step → Option ℕ → Option ℕ
fetch_above steps None = None
fetch_above steps (Some p) = item_at steps p

abbrev pub way_found : ℕ → Option ℕ → Way
way_found above None = Sent above
way_found above (Some child) = Read above child

-- read where it stands among the children of the fetch above
abbrev pub way_among : FetchStep → ℕ → List FetchStep → Way
way_among f above children = way_found above (position (same_fetch f) children)

abbrev pub way_by : List Step → FetchStep → Option ℕ → Way
way_by steps f None = Once
way_by steps f (Some above) = way_among f above (children_of (fetch_at steps above))

abbrev pub way_in : List Step → Option FetchStep → Way
way_in steps None = Other
way_in steps (Some f) = way_by steps f (fetch_above steps (out-FetchStep f).parent)

-- that of the step at a place
abbrev pub way_of : List Step → ℕ → Way
way_of steps k = way_in steps (fetch_at steps k)

-- those of all steps, which count from a number on
abbrev pub ways_from : List Step → ℕ → List Step → List Way
ways_from all k [] = []
ways_from all k (s ∷ steps) = way_of all k ∷ ways_from all (k + 1) steps

abbrev pub ways_of : List Step → List Way
ways_of steps = ways_from steps 0 steps
