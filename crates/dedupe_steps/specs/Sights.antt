-- What keys are made of, as it is found by passes over a plan.
use Rattle.std.specs.Prelude.{◌≡◌, ◌<◌, ◌<◌, ℕ, Bool, true, false, List, [], ◌∷◌, length, Option, Some, None, slice_get, unwrap_or}
use Rattle.pg_base.specs.Base.{BaseParts}
use Rattle.gql_input.specs.declared.argument.ArgValue.{ArgValue}
use Rattle.place_tree.specs.declared.place.Tree.{Tree}
use Rattle.plan_constraints.specs.declared.constraint.Constraint.{Constraint}
use Rattle.plan_steps.specs.declared.plan.Plan.{Plan}
use Rattle.plan_steps.specs.declared.plan.Step.{Step}
use Rattle.plan_steps.specs.declared.plan.Step.TheVariants as step
use Rattle.plan_steps.specs.Named.{layer_of, over_at}
use Rattle.dedupe_steps.specs.declared.sights.Sights.{Sights}
use Rattle.dedupe_steps.specs.Keys.{Reach, Anywhere, Under, Alone, reach_by, root_of, order_at, Key, content, hook, ground_of}
use Rattle.dedupe_steps.specs.Orders.{OrderTold, Told, either_of, null_item}
use Rattle.dedupe_steps.specs.Roots.{Mark, Unshown, roots, mutates, mark_of, field_for}

-- what stands at a place of a list, and else a value
abbrev pub at_or : {A : Type 0} → A → List A → ℕ → A
at_or other list k = unwrap_or (slice_get list k) other

-- the arrays have for each step what is said of it
pub record AreSights (base : BaseParts) (tree : Tree) (plan : Plan) (s : Sights) : Type 0 where
  pub mutates : s.mutates ≡ mutates base.schema tree.places
  pub roots : s.roots ≡ roots base.schema tree.places
  pub marks : (k : ℕ) → k < length plan.steps → at_or Unshown s.marks k ≡ mark_of s.roots plan.out k
  pub fields : (k : ℕ) → k < length plan.steps → at_or None s.fields k ≡ field_for base tree plan k
  pub layers : (k : ℕ) → k < length plan.steps → at_or None s.layers k ≡ layer_of plan.layers k

-- how far a step reaches, from what is said of it
abbrev pub reach_with : Bool → Mark → Option ℕ → ℕ → Step → Reach
reach_with mutates mark root k (step.Const v) = reach_by mutates k mark
reach_with mutates mark root k (step.Var path) = reach_by mutates k mark
reach_with mutates mark root k step.Given = Alone k
reach_with mutates mark root k (step.Fetch f) = Under root
reach_with mutates mark root k (step.Item s) = Anywhere
reach_with mutates mark root k (step.Column i c) = Anywhere
reach_with mutates mark root k (step.Count s) = Anywhere
reach_with mutates mark root k (step.Page s part) = Anywhere
reach_with mutates mark root k (step.CursorOf i) = Anywhere

-- the order of its row field
abbrev pub order_with : List Constraint → Tree → Option ℕ → Step → OrderTold
order_with constraints tree field (step.Const v) = Told false
order_with constraints tree field (step.Var path) = Told false
order_with constraints tree field step.Given = Told false
order_with constraints tree field (step.Fetch f) = order_at constraints tree field
order_with constraints tree field (step.Item s) = Told false
order_with constraints tree field (step.Column i c) = Told false
order_with constraints tree field (step.Count s) = Told false
order_with constraints tree field (step.Page s part) = Told false
order_with constraints tree field (step.CursorOf i) = Told false

abbrev pub key_with : Tree → List Constraint → Plan → Sights → List ℕ → ℕ → Step → Key
key_with tree constraints plan s to k found = record {
  content = content to found;
  hook = hook to plan.steps found;
  stand = ground_of to k (over_at plan.layers (at_or None s.layers k));
  reach = reach_with s.mutates (at_or Unshown s.marks k) (root_of s.roots (at_or None s.fields k)) k found;
  order = order_with constraints tree (at_or None s.fields k) found;
}

-- whether an item of a list is null, over the list that the code goes through
abbrev pub each_null : List Constraint → List ArgValue → Option Bool
each_null constraints [] = Some false
each_null constraints (a ∷ items) = either_of (null_item constraints a) (each_null constraints items)
