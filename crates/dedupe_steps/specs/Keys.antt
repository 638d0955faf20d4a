-- What tells steps apart, once the steps before them are numbered anew.
use Rattle.std.specs.Prelude.{ℕ, Bool, true, false, if◌then◌else◌, nat_lt, List, Option, Some, None, slice_get, option_map, unwrap_or}
use Rattle.pg_base.specs.Base.{BaseParts}
use Rattle.place_tree.specs.declared.place.Place.{Place}
use Rattle.place_tree.specs.declared.place.Tree.{Tree}
use Rattle.plan_constraints.specs.declared.constraint.Constraint.{Constraint}
use Rattle.plan_steps.specs.declared.plan.FetchStep.{FetchStep, out-FetchStep, roll-FetchStep}
use Rattle.plan_steps.specs.declared.plan.Plan.{Plan}
use Rattle.plan_steps.specs.declared.plan.Step.{Step}
use Rattle.plan_steps.specs.declared.plan.Step.TheVariants as step
use Rattle.plan_steps.specs.Fetches.{bare}
use Rattle.plan_steps.specs.Named.{is_given, over}
use Rattle.dedupe_steps.specs.Numbered.{at}
use Rattle.dedupe_steps.specs.Orders.{OrderTold, Told, order_told}
use Rattle.dedupe_steps.specs.Roots.{Mark, Unshown, Within, Several, roots, root_at, mutates, mark_of, field_for}

-- ---- steps under new numbers

-- the same fetch on another row, with rows where it is said
abbrev pub hung : Option ℕ → Bool → FetchStep → FetchStep
hung parent rows fetch = let f = out-FetchStep fetch in roll-FetchStep (record {
  table = f.table;
  by = f.by;
  parent = parent;
  parent_columns = f.parent_columns;
  condition = f.condition;
  key = f.key;
  order = f.order;
  window = f.window;
  rows = rows;
  children = f.children;
})

-- the step with what it names under its new number; a fetch with rows where it is said
abbrev pub moved : List ℕ → Bool → Step → Step
moved to rows (step.Const v) = step.Const v
moved to rows (step.Var path) = step.Var path
moved to rows step.Given = step.Given
moved to rows (step.Fetch f) = step.Fetch (hung (option_map (at to) (out-FetchStep f).parent) rows f)
moved to rows (step.Item s) = step.Item (at to s)
moved to rows (step.Column i c) = step.Column (at to i) c
moved to rows (step.Count s) = step.Count (at to s)
moved to rows (step.Page s part) = step.Page (at to s) part
moved to rows (step.CursorOf i) = step.CursorOf (at to i)

-- ---- what a step has beside its place

-- a fetch without the row on which it hangs, and without whether it asks for rows
abbrev pub content : List ℕ → Step → Step
content to (step.Const v) = step.Const v
content to (step.Var path) = step.Var path
content to step.Given = step.Given
content to (step.Fetch f) = step.Fetch (bare f)
content to (step.Item s) = step.Item (at to s)
content to (step.Column i c) = step.Column (at to i) c
content to (step.Count s) = step.Count (at to s)
content to (step.Page s part) = step.Page (at to s) part
content to (step.CursorOf i) = step.CursorOf (at to i)

-- on what a fetch hangs: nothing, the row that a mutation gave, or the row of a fetch
pub data Hook : Type 0 where
  Loose : Hook
  OnGivenRow : Hook
  OnRowOf : ℕ → Hook

abbrev pub hook_on : List ℕ → List Step → Option ℕ → Hook
hook_on to steps None = Loose
hook_on to steps (Some p) = if is_given steps p then OnGivenRow else OnRowOf (at to p)

abbrev pub hook : List ℕ → List Step → Step → Hook
hook to steps (step.Const v) = Loose
hook to steps (step.Var path) = Loose
hook to steps step.Given = Loose
hook to steps (step.Fetch f) = hook_on to steps (out-FetchStep f).parent
hook to steps (step.Item s) = Loose
hook to steps (step.Column i c) = Loose
hook to steps (step.Count s) = Loose
hook to steps (step.Page s part) = Loose
hook to steps (step.CursorOf i) = Loose

-- ---- where it stands

-- over what its layer stands: nothing, a fetch that is numbered anew by then, or one that isn't
pub data Ground : Type 0 where
  OverNothing : Ground
  Numbered : ℕ → Ground
  Later : ℕ → Ground

abbrev pub ground_of : List ℕ → ℕ → Option ℕ → Ground
ground_of to k None = OverNothing
ground_of to k (Some s) = if nat_lt s k then Numbered (at to s) else Later s

-- ---- for which places it stands

-- Anywhere, or for places under one mutation field, or for its own places alone.
pub data Reach : Type 0 where
  Anywhere : Reach
  Under : Option ℕ → Reach
  Alone : ℕ → Reach

-- in a mutation a constant or a variable is shared by places under one mutation field
abbrev pub reach_by : Bool → ℕ → Mark → Reach
reach_by false k mark = Anywhere
reach_by true k Unshown = Anywhere
reach_by true k (Within None) = Alone k
reach_by true k (Within (Some root)) = Under (Some root)
reach_by true k Several = Alone k

abbrev pub root_of : List (Option ℕ) → Option ℕ → Option ℕ
root_of roots None = None
root_of roots (Some i) = root_at roots i

-- A fetch reaches as far as the mutation field of its row field; the row that a mutation gave is shared with no other;
-- what names another step goes by that.
abbrev pub reach : BaseParts → Tree → Plan → ℕ → Step → Reach
reach base tree plan k (step.Const v) =
    reach_by (mutates base.schema tree.places) k (mark_of (roots base.schema tree.places) plan.out k)
reach base tree plan k (step.Var path) =
    reach_by (mutates base.schema tree.places) k (mark_of (roots base.schema tree.places) plan.out k)
reach base tree plan k step.Given = Alone k
reach base tree plan k (step.Fetch f) = Under (root_of (roots base.schema tree.places) (field_for base tree plan k))
reach base tree plan k (step.Item s) = Anywhere
reach base tree plan k (step.Column i c) = Anywhere
reach base tree plan k (step.Count s) = Anywhere
reach base tree plan k (step.Page s part) = Anywhere
reach base tree plan k (step.CursorOf i) = Anywhere

-- ---- the order of its row field

abbrev pub order_in : List Constraint → Option Place → OrderTold
order_in constraints None = Told false
order_in constraints (Some p) = order_told constraints p

abbrev pub order_at : List Constraint → Tree → Option ℕ → OrderTold
order_at constraints tree None = Told false
order_at constraints tree (Some i) = order_in constraints (slice_get tree.places i)

abbrev pub order_for : BaseParts → Tree → List Constraint → Plan → ℕ → Step → OrderTold
order_for base tree constraints plan k (step.Const v) = Told false
order_for base tree constraints plan k (step.Var path) = Told false
order_for base tree constraints plan k step.Given = Told false
order_for base tree constraints plan k (step.Fetch f) = order_at constraints tree (field_for base tree plan k)
order_for base tree constraints plan k (step.Item s) = Told false
order_for base tree constraints plan k (step.Column i c) = Told false
order_for base tree constraints plan k (step.Count s) = Told false
order_for base tree constraints plan k (step.Page s part) = Told false
order_for base tree constraints plan k (step.CursorOf i) = Told false

-- ---- keys

-- steps of one key are one
pub record Key : Type 0 where
  pub content : Step
  pub hook : Hook
  pub stand : Ground
  pub reach : Reach
  pub order : OrderTold

abbrev pub key_of : BaseParts → Tree → List Constraint → Plan → List ℕ → ℕ → Step → Key
key_of base tree constraints plan to k s = record {
  content = content to s;
  hook = hook to plan.steps s;
  stand = ground_of to k (over plan.layers k);
  reach = reach base tree plan k s;
  order = order_for base tree constraints plan k s;
}

-- the step at a place, and a row of no use where there is none
abbrev pub step_at : List Step → ℕ → Step
step_at steps k = unwrap_or (slice_get steps k) step.Given

abbrev pub key_at : BaseParts → Tree → List Constraint → Plan → List ℕ → ℕ → Key
key_at base tree constraints plan to k = key_of base tree constraints plan to k (step_at plan.steps k)
