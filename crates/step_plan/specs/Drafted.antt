-- The plan of a tree, place by place.
use Rattle.std.specs.Prelude.{ℕ, zero, suc, ◌+◌, Bool, true, false, List, [], ◌∷◌, ◌++◌, length, Option, Some, None, slice_get, unwrap_or}
use Rattle.pg_base.specs.Base.{BaseParts}
use Rattle.pg_base.specs.declared.vars.Vars.{Vars}
use Rattle.place_tree.specs.Exec.{needs_rows}
use Rattle.place_tree.specs.declared.place.Place.{Place}
use Rattle.place_tree.specs.declared.place.Tree.{Tree}
use Rattle.plan_steps.specs.declared.plan.Layer.{Layer}
use Rattle.plan_steps.specs.declared.plan.OutPlace.{OutPlace}
use Rattle.plan_steps.specs.declared.plan.Plan.{Plan}
use Rattle.plan_steps.specs.declared.plan.Step.{Step}
use Rattle.plan_steps.specs.declared.plan.Step.TheVariants as step
use Rattle.step_plan.specs.Added.{added}
use Rattle.step_plan.specs.declared.making.Added.{Added}
use Rattle.step_plan.specs.declared.making.Added.TheVariants as adds
use Rattle.step_plan.specs.declared.making.Below.{Below}
use Rattle.step_plan.specs.declared.making.Footing.{Footing}
use Rattle.step_plan.specs.declared.making.Footing.TheVariants as on

-- A plan in the making, with what the places below each place so far stand on.
pub record Making : Type 0 where
  pub steps : List Step
  pub layers : List Layer
  pub out : List OutPlace
  pub belows : List Below

abbrev pub making : List Step → List Layer → List OutPlace → List Below → Making
making steps layers out belows = record { steps = steps; layers = layers; out = out; belows = belows }

abbrev pub at_root : Below
at_root = record { footing = on.Nothing; layer = 0 }

-- what stands below the place above
abbrev pub below_of : List Below → Option ℕ → Below
below_of belows None = at_root
below_of belows (Some place) = unwrap_or (slice_get belows place) at_root

-- ---- one place more

-- the layers with a step in one of them
abbrev pub into : List Layer → ℕ → ℕ → List Layer
into [] l k = []
into (layer ∷ layers) zero k = record { over = layer.over; steps = layer.steps ++ k ∷ [] } ∷ layers
into (layer ∷ layers) (suc l) k = layer ∷ into layers l k

-- the Item of a fetch, in a layer of its own
abbrev pub layer_over : ℕ → ℕ → Layer
layer_over fetch item = record { over = Some fetch; steps = item ∷ [] }

-- the steps that are added, from a number on
abbrev pub steps_added : ℕ → Added → List Step
steps_added at (adds.Leaf s) = s ∷ []
steps_added at (adds.List f) = step.Fetch f ∷ []
steps_added at (adds.Row f) = step.Fetch f ∷ step.Item at ∷ []
steps_added at (adds.Item edge fetch) = step.Item fetch ∷ []
steps_added at (adds.Shows k footing) = []
steps_added at adds.Given = step.Given ∷ []

-- the layers with them, where a step that isn't an Item stands in the layer of the place
abbrev pub layers_with : List Layer → ℕ → ℕ → Added → List Layer
layers_with layers layer at (adds.Leaf s) = into layers layer at
layers_with layers layer at (adds.List f) = into layers layer at
layers_with layers layer at (adds.Row f) = into layers layer at ++ layer_over at (at + 1) ∷ []
layers_with layers layer at (adds.Item edge fetch) = layers ++ layer_over fetch at ∷ []
layers_with layers layer at (adds.Shows k footing) = layers
layers_with layers layer at adds.Given = into layers layer at

-- the step that the place shows
abbrev pub step_shown : ℕ → Added → ℕ
step_shown at (adds.Leaf s) = at
step_shown at (adds.List f) = at
step_shown at (adds.Row f) = at
step_shown at (adds.Item edge fetch) = fetch
step_shown at (adds.Shows k footing) = k
step_shown at adds.Given = at

abbrev pub edge_or_row : Bool → ℕ → ℕ → Footing
edge_or_row true fetch item = on.Edge fetch item
edge_or_row false fetch item = on.Row fetch item

-- on what the places below it stand
abbrev pub footing_with : ℕ → Added → Footing
footing_with at (adds.Leaf s) = on.Nothing
footing_with at (adds.List f) = on.List at
footing_with at (adds.Row f) = on.Row at (at + 1)
footing_with at (adds.Item edge fetch) = edge_or_row edge fetch at
footing_with at (adds.Shows k footing) = footing
footing_with at adds.Given = on.Payload at

-- and the layer of their steps: a new one, or that of the place
abbrev pub layer_with : ℕ → ℕ → Added → ℕ
layer_with layer new (adds.Leaf s) = layer
layer_with layer new (adds.List f) = layer
layer_with layer new (adds.Row f) = new
layer_with layer new (adds.Item edge fetch) = new
layer_with layer new (adds.Shows k footing) = layer
layer_with layer new adds.Given = layer

abbrev pub out_of : ℕ → ℕ → ℕ → Added → OutPlace
out_of i layer at a = record { place = i; layer = layer; step = step_shown at a }

abbrev pub below_with : ℕ → ℕ → ℕ → Added → Below
below_with layer new at a = record { footing = footing_with at a; layer = layer_with layer new a }

-- the plan with what the place at i adds, whose steps stand in a layer
abbrev pub grown : Making → ℕ → ℕ → Added → Making
grown m i layer a = record {
  steps = m.steps ++ steps_added (length m.steps) a;
  layers = layers_with m.layers layer (length m.steps) a;
  out = m.out ++ out_of i layer (length m.steps) a ∷ [];
  belows = m.belows ++ below_with layer (length m.layers) (length m.steps) a ∷ [];
}

-- the plan with the place at i, where it is told whether its rows are shown
abbrev pub with_shown : BaseParts → Vars → List Place → Bool → Making → ℕ → Place → Making
with_shown base vars places shown m i p =
    let above = below_of m.belows p.parent in grown m i above.layer (added base vars places p shown above.footing)

abbrev pub with_place : BaseParts → Vars → Tree → Making → ℕ → Place → Making
with_place base vars tree m i p =
    with_shown base vars tree.places (needs_rows base.schema tree.places i) m i p

-- ---- all places

abbrev pub with_places : BaseParts → Vars → Tree → Making → ℕ → List Place → Making
with_places base vars tree m i [] = m
with_places base vars tree m i (p ∷ places) =
    with_places base vars tree (with_place base vars tree m i p) (i + 1) places

-- the root layer, which stands over nothing
abbrev pub root_layer : Layer
root_layer = record { over = None; steps = [] }

abbrev pub nothing_made : Making
nothing_made = making [] (root_layer ∷ []) [] []

abbrev pub made : BaseParts → Tree → Vars → Making
made base tree vars = with_places base vars tree nothing_made 0 tree.places

abbrev pub plan_of : Making → Plan
plan_of m = record { steps = m.steps; layers = m.layers; out = m.out }

-- the plan of a tree
abbrev pub drafted : BaseParts → Tree → Vars → Plan
drafted base tree vars = plan_of (made base tree vars)
