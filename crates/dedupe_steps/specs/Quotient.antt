-- The plan in which steps of one key are one.
use Rattle.std.specs.Prelude.{◌≡◌, ℕ, ◌+◌, Bool, false, ◌==◌, ◌&&◌, ◌||◌, if◌then◌else◌, List, [], ◌∷◌, map, length, Option, Some, slice_get, option_map}
use Rattle.pg_base.specs.Base.{BaseParts}
use Rattle.place_tree.specs.declared.place.Tree.{Tree}
use Rattle.place_tree.specs.Fold.{same_place}
use Rattle.plan_constraints.specs.declared.constraint.Constraint.{Constraint}
use Rattle.plan_steps.specs.declared.plan.FetchStep.{out-FetchStep}
use Rattle.plan_steps.specs.declared.plan.Layer.{Layer}
use Rattle.plan_steps.specs.declared.plan.OutPlace.{OutPlace}
use Rattle.plan_steps.specs.declared.plan.Plan.{Plan}
use Rattle.plan_steps.specs.declared.plan.Step.{Step}
use Rattle.plan_steps.specs.declared.plan.Step.TheVariants as step
use Rattle.plan_steps.specs.Named.{layer_of, over_in}
use Rattle.dedupe_steps.specs.Keys.{moved, step_at, key_at}
use Rattle.dedupe_steps.specs.Numbered.{Renaming, IsNumbered, at}

-- ---- steps

abbrev pub asks : Step → Bool
asks (step.Const v) = false
asks (step.Var path) = false
asks step.Given = false
asks (step.Fetch f) = (out-FetchStep f).rows
asks (step.Item s) = false
asks (step.Column i c) = false
asks (step.Count s) = false
asks (step.Page s part) = false
asks (step.CursorOf i) = false

-- one of the steps of a new number asks for rows
abbrev pub some_asks : List ℕ → ℕ → ℕ → List Step → Bool
some_asks to m k [] = false
some_asks to m k (s ∷ steps) = ((at to k == m) && asks s) || some_asks to m (k + 1) steps

-- the step that stands for those of its number
abbrev pub new_step : List Step → List ℕ → ℕ → Step
new_step steps to k = moved to (some_asks to (at to k) 0 steps) (step_at steps k)

-- ---- layers

-- the new number of the layer that has a step
abbrev pub new_layer_of : List Layer → List ℕ → ℕ → Option ℕ
new_layer_of layers to k = option_map (at to) (layer_of layers k)

-- the new steps from a number on whose layer gets the number
abbrev pub steps_in : List Layer → List ℕ → ℕ → ℕ → List ℕ → List ℕ
steps_in layers to x m [] = []
steps_in layers to x m (k ∷ firsts) =
    if same_place (new_layer_of layers to k) (Some x) then m ∷ steps_in layers to x (m + 1) firsts
    else steps_in layers to x (m + 1) firsts

-- over what a layer stands, by the new number
abbrev pub ground_at : List ℕ → List Layer → ℕ → Option ℕ
ground_at to layers y = option_map (at to) (over_in (slice_get layers y))

abbrev pub new_layer : Plan → Renaming → Renaming → ℕ → Layer
new_layer plan r l y =
    record { over = ground_at r.to plan.layers y; steps = steps_in plan.layers l.to (at l.to y) 0 r.firsts }

-- ---- plans

abbrev pub new_out : List ℕ → List ℕ → OutPlace → OutPlace
new_out to to_layer o = record { place = o.place; layer = at to_layer o.layer; step = at to o.step }

-- the plan whose steps and layers are renamed
abbrev pub quotient : Plan → Renaming → Renaming → Plan
quotient plan r l = record {
  steps = map (new_step plan.steps r.to) r.firsts;
  layers = map (new_layer plan r l) l.firsts;
  out = map (new_out r.to l.to) plan.out;
}

-- Steps are one where they have one key, and layers where they stand over one new step.
pub record IsQuotient (base : BaseParts) (tree : Tree) (constraints : List Constraint) (plan merged : Plan) : Type 0
  where
    pub steps : Renaming
    pub layers : Renaming
    pub numbered : IsNumbered (length plan.steps) (key_at base tree constraints plan steps.to) steps
    pub laid : IsNumbered (length plan.layers) (ground_at steps.to plan.layers) layers
    pub is : merged ≡ quotient plan steps layers
