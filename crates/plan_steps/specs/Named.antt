-- What steps name, and where they stand.
use Rattle.std.specs.Prelude.{ℕ, ◌==◌, Bool, true, false, if◌then◌else◌, List, [], ◌∷◌, length, Option, Some, None, is_some, slice_get}
use Rattle.std.specs.List.{position_from}
use Rattle.plan_steps.specs.declared.plan.FetchStep.{FetchStep, out-FetchStep}
use Rattle.plan_steps.specs.declared.plan.Step.{Step}
use Rattle.plan_steps.specs.declared.plan.Step.TheVariants as step
use Rattle.plan_steps.specs.declared.plan.Layer.{Layer}
use Rattle.plan_steps.specs.declared.plan.OutPlace.{OutPlace}
use Rattle.plan_steps.specs.Chains.{chain, is_in}

-- ---- steps that name steps

-- the step that a step names, if one
abbrev pub named_by : Step → Option ℕ
named_by (step.Const v) = None
named_by (step.Var path) = None
named_by step.Given = None
named_by (step.Fetch f) = (out-FetchStep f).parent
named_by (step.Item s) = Some s
named_by (step.Column i c) = Some i
named_by (step.Count s) = Some s
named_by (step.Page s part) = Some s
named_by (step.CursorOf i) = Some i

abbrev pub named_in : Option Step → Option ℕ
named_in None = None
named_in (Some s) = named_by s

abbrev pub named_at : List Step → ℕ → Option ℕ
named_at steps k = named_in (slice_get steps k)

-- a step, the one that it names, and so on: what is used where the step is shown
abbrev pub used_by : List Step → ℕ → List ℕ
used_by steps k = chain (named_at steps) (length steps) k

-- ---- of which kind a step is

abbrev pub fetch_in : Option Step → Option FetchStep
fetch_in (Some (step.Fetch f)) = Some f
fetch_in _ = None

-- the fetch at a place
abbrev pub fetch_at : List Step → ℕ → Option FetchStep
fetch_at steps k = fetch_in (slice_get steps k)

abbrev pub is_fetch : List Step → ℕ → Bool
is_fetch steps k = is_some (fetch_at steps k)

abbrev pub is_given_in : Option Step → Bool
is_given_in (Some step.Given) = true
is_given_in _ = false

abbrev pub is_given : List Step → ℕ → Bool
is_given steps k = is_given_in (slice_get steps k)

abbrev pub item_in : Option Step → Option ℕ
item_in (Some (step.Item s)) = Some s
item_in _ = None

-- the place of the fetch whose row a step is, where it is an Item
abbrev pub item_at : List Step → ℕ → Option ℕ
item_at steps k = item_in (slice_get steps k)

-- ---- layers

-- the place of the layer that has the step
abbrev pub layer_of : List Layer → ℕ → Option ℕ
layer_of layers k = position_from (λ l. is_in l.steps k) 0 layers

abbrev pub over_in : Option Layer → Option ℕ
over_in None = None
over_in (Some l) = l.over

-- the fetch over which a layer stands, if one
abbrev pub over_at : List Layer → Option ℕ → Option ℕ
over_at layers None = None
over_at layers (Some l) = over_in (slice_get layers l)

-- the fetch over which the layer of a step stands
abbrev pub over : List Layer → ℕ → Option ℕ
over layers k = over_at layers (layer_of layers k)

abbrev pub layer_or_none : List Layer → Option ℕ → Option ℕ
layer_or_none layers None = None
layer_or_none layers (Some s) = layer_of layers s

-- the layer that a layer stands over: that of its fetch
abbrev pub layer_above : List Layer → ℕ → Option ℕ
layer_above layers l = layer_or_none layers (over_at layers (Some l))

-- a layer, the one that it stands over, and so on
abbrev pub layers_above : List Layer → ℕ → List ℕ
layers_above layers l = chain (layer_above layers) (length layers) l

-- ---- places that show steps

-- the step of the first entry for a place
abbrev pub step_for : List OutPlace → ℕ → Option ℕ
step_for [] place = None
step_for (o ∷ out) place = if o.place == place then Some o.step else step_for out place
