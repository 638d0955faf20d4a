-- A plan whose fetches stand, where they are free to move, among the children of the fetches on whose rows they hang.
use Rattle.std.specs.Prelude.{ℕ, ◌+◌, Bool, true, false, if◌then◌else◌, List, [], ◌∷◌, ◌++◌, Option, Some, None}
use Rattle.place_tree.specs.Fold.{same_place}
use Rattle.plan_steps.specs.declared.plan.FetchStep.{FetchStep, out-FetchStep, roll-FetchStep}
use Rattle.plan_steps.specs.declared.plan.Plan.{Plan}
use Rattle.plan_steps.specs.declared.plan.Step.{Step}
use Rattle.plan_steps.specs.declared.plan.Step.TheVariants as step
use Rattle.plan_steps.specs.Fetches.{has_window}
use Rattle.plan_steps.specs.Named.{fetch_in, item_at}

-- ---- children

-- a fetch with these children
abbrev pub with_children : List FetchStep → FetchStep → FetchStep
with_children children fetch = let f = out-FetchStep fetch in roll-FetchStep (record {
  table = f.table;
  by = f.by;
  parent = f.parent;
  parent_columns = f.parent_columns;
  condition = f.condition;
  key = f.key;
  order = f.order;
  window = f.window;
  rows = f.rows;
  children = children;
})

-- a fetch with more children, after its own
abbrev pub with_more : List FetchStep → FetchStep → FetchStep
with_more more fetch = with_children ((out-FetchStep fetch).children ++ more) fetch

abbrev pub step_with : List FetchStep → Step → Step
step_with more (step.Const v) = step.Const v
step_with more (step.Var path) = step.Var path
step_with more step.Given = step.Given
step_with more (step.Fetch f) = step.Fetch (with_more more f)
step_with more (step.Item s) = step.Item s
step_with more (step.Column i c) = step.Column i c
step_with more (step.Count s) = step.Count s
step_with more (step.Page s part) = step.Page s part
step_with more (step.CursorOf i) = step.CursorOf i

-- ---- where fetches move

-- the fetch on whose row hangs what has this parent; none above what stands at the root or under the row of a mutation
abbrev pub row_above : List Step → Option ℕ → Option ℕ
row_above steps None = None
row_above steps (Some p) = item_at steps p

-- A fetch that hangs on a row of another one, and asks for no part of a list, is free to move there. Any other stays.
abbrev pub target : List Step → FetchStep → Option ℕ
target steps f = if has_window (out-FetchStep f).window then None else row_above steps (out-FetchStep f).parent

abbrev pub target_at : List Step → Option FetchStep → Option ℕ
target_at steps None = None
target_at steps (Some f) = target steps f

-- a fetch goes before the others that move to the one at k, where it moves there too
abbrev pub joined : Bool → Option FetchStep → List FetchStep → List FetchStep
joined true (Some f) others = f ∷ others
joined true None others = others
joined false f others = others

abbrev pub moves_to : List Step → ℕ → Option FetchStep → Bool
moves_to steps k f = same_place (target_at steps f) (Some k)

-- those of a list of steps that move to the fetch at k
abbrev pub moved_to : List Step → ℕ → List Step → List FetchStep
moved_to steps k [] = []
moved_to steps k (s ∷ later) =
    joined (moves_to steps k (fetch_in (Some s))) (fetch_in (Some s)) (moved_to steps k later)

-- ---- plans

-- The steps from the one at k on. What hangs on a fetch comes later: each fetch has those that move to it, with theirs.
abbrev pub inlined_from : List Step → ℕ → List Step → List Step
inlined_from steps k [] = []
inlined_from steps k (s ∷ later) =
    let rest = inlined_from steps (k + 1) later in step_with (moved_to steps k rest) s ∷ rest

-- Each fetch that is free stands among the children of the one on whose row it hangs, and keeps its step, which is then
-- read from those rows. Steps, layers and places keep their numbers.
abbrev pub inlined : Plan → Plan
inlined plan = record {
  steps = inlined_from plan.steps 0 plan.steps;
  layers = plan.layers;
  out = plan.out;
}
