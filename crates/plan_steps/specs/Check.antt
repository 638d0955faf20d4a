-- Whether a plan is well formed for a base and a tree.
use Rattle.std.specs.Prelude.{ℕ, ◌+◌, nat_lt, Bool, true, false, ◌==◌, ◌&&◌, ◌||◌, not, List, [], ◌∷◌, length, Option, Some, None, slice_get, is_some}
use Rattle.std.specs.List.{list_all, list_any}
use Rattle.pg_base.specs.Base.{BaseParts}
use Rattle.pg_base.specs.Catalog.{CatalogParts}
use Rattle.rel_model.specs.declared.window.By.{By}
use Rattle.place_tree.specs.declared.place.Place.{Place}
use Rattle.place_tree.specs.declared.place.Tree.{Tree}
use Rattle.place_tree.specs.Fields.{columns_of}
use Rattle.place_tree.specs.Fold.{same_place}
use Rattle.plan_steps.specs.declared.plan.FetchStep.{FetchStep, FetchStep-F, out-FetchStep, fold-FetchStep}
use Rattle.plan_steps.specs.declared.plan.SlotEqual.{SlotEqual}
use Rattle.plan_steps.specs.declared.plan.Step.{Step}
use Rattle.plan_steps.specs.declared.plan.Step.TheVariants as step
use Rattle.plan_steps.specs.declared.plan.Layer.{Layer}
use Rattle.plan_steps.specs.declared.plan.OutPlace.{OutPlace}
use Rattle.plan_steps.specs.declared.plan.Plan.{Plan}
use Rattle.plan_steps.specs.Chains.{is_in}
use Rattle.plan_steps.specs.Named.{named_by, used_by, fetch_at, is_fetch, is_given, item_at, layer_of, over, layers_above}
use Rattle.plan_steps.specs.Under.{places_above, mutated_at}

abbrev pub are_below : ℕ → List ℕ → Bool
are_below width columns = list_all (λ column. nat_lt column width) columns

-- how many columns a table has
abbrev pub width_of : CatalogParts → ℕ → ℕ
width_of catalog table = length (columns_of catalog table)

-- ---- fetches

abbrev pub conditions_fit : ℕ → List SlotEqual → Bool
conditions_fit width condition = list_all (λ e. nat_lt e.column width) condition

abbrev pub orders_fit : ℕ → List By → Bool
orders_fit width order = list_all (λ b. nat_lt b.column width) order

-- a fetch's own table and columns are in range
abbrev pub own_fits : {A : Type 0} → CatalogParts → FetchStep-F A → Bool
own_fits catalog f =
    nat_lt f.table (length catalog.tables) && (are_below (width_of catalog f.table) f.by
    && (conditions_fit (width_of catalog f.table) f.condition && orders_fit (width_of catalog f.table) f.order))

-- a key that is taken from a row of so many columns
abbrev pub key_below : {A : Type 0} → ℕ → FetchStep-F A → Bool
key_below width f = (length f.parent_columns == length f.by) && are_below width f.parent_columns

abbrev pub child_layer : CatalogParts → FetchStep-F (ℕ → Bool) → ℕ → Bool
child_layer catalog f width =
    key_below width f && (own_fits catalog f && list_all (λ test. test (width_of catalog f.table)) f.children)

-- a fetch below a row of so many columns, with those below it
abbrev pub child_fits : CatalogParts → FetchStep → ℕ → Bool
child_fits catalog = fold-FetchStep (ℕ → Bool) (child_layer catalog)

abbrev pub children_fit : CatalogParts → ℕ → List FetchStep → Bool
children_fit catalog width children = list_all (λ child. child_fits catalog child width) children

-- without a parent the key is in the slots, else in columns of the parent
abbrev pub has_key : FetchStep → Option ℕ → Bool
has_key f None = length (out-FetchStep f).key == length (out-FetchStep f).by
has_key f (Some p) = length (out-FetchStep f).parent_columns == length (out-FetchStep f).by

-- ---- rows whose columns are named

abbrev pub fetch_has : CatalogParts → List ℕ → Option FetchStep → Bool
fetch_has catalog columns None = false
fetch_has catalog columns (Some f) = are_below (width_of catalog (out-FetchStep f).table) columns

abbrev pub item_has : CatalogParts → List Step → List ℕ → Option ℕ → Bool
item_has catalog steps columns None = false
item_has catalog steps columns (Some s) = fetch_has catalog columns (fetch_at steps s)

-- The step is a row: an Item, whose table has the columns, or the row that a mutation gives, whose columns are judged
-- for each place that uses them.
abbrev pub row_has : CatalogParts → List Step → List ℕ → ℕ → Bool
row_has catalog steps columns k = is_given steps k || item_has catalog steps columns (item_at steps k)

abbrev pub parent_has : CatalogParts → List Step → FetchStep → Option ℕ → Bool
parent_has catalog steps f None = true
parent_has catalog steps f (Some p) = row_has catalog steps (out-FetchStep f).parent_columns p

abbrev pub fetch_fits : CatalogParts → List Step → FetchStep → Bool
fetch_fits catalog steps f =
    own_fits catalog (out-FetchStep f)
    && (children_fit catalog (width_of catalog (out-FetchStep f).table) (out-FetchStep f).children
    && (has_key f (out-FetchStep f).parent && parent_has catalog steps f (out-FetchStep f).parent))

-- ---- steps

abbrev pub item_fits : Plan → ℕ → ℕ → Bool
item_fits plan k s = is_fetch plan.steps s && same_place (over plan.layers k) (Some s)

-- what a step names is of the kind that it takes
abbrev pub step_fits : CatalogParts → Plan → ℕ → Step → Bool
step_fits catalog plan k (step.Const v) = true
step_fits catalog plan k (step.Var path) = true
step_fits catalog plan k step.Given = true
step_fits catalog plan k (step.Fetch f) = fetch_fits catalog plan.steps f
step_fits catalog plan k (step.Item s) = item_fits plan k s
step_fits catalog plan k (step.Column i c) = row_has catalog plan.steps (c ∷ []) i
step_fits catalog plan k (step.Count s) = is_fetch plan.steps s
step_fits catalog plan k (step.Page s part) = is_fetch plan.steps s && nat_lt part 4
step_fits catalog plan k (step.CursorOf i) = is_some (item_at plan.steps i)

-- the second layer is the first one, or one over which that stands
abbrev pub is_above : List Layer → ℕ → ℕ → Bool
is_above layers l m = is_in (layers_above layers l) m

abbrev pub stands_over : List Layer → Option ℕ → Option ℕ → Bool
stands_over layers None m = false
stands_over layers (Some l) None = false
stands_over layers (Some l) (Some m) = is_above layers l m

-- what a step names is earlier, and stands in its layer or in one over which that stands
abbrev pub name_fits : Plan → ℕ → Option ℕ → Bool
name_fits plan k None = true
name_fits plan k (Some j) =
    nat_lt j k && stands_over plan.layers (layer_of plan.layers k) (layer_of plan.layers j)

abbrev pub steps_fit : CatalogParts → Plan → ℕ → List Step → Bool
steps_fit catalog plan k [] = true
steps_fit catalog plan k (s ∷ steps) =
    (step_fits catalog plan k s && name_fits plan k (named_by s)) && steps_fit catalog plan (k + 1) steps

-- ---- layers

abbrev pub is_before : Option ℕ → ℕ → Bool
is_before None n = false
is_before (Some m) n = nat_lt m n

-- over a fetch of an earlier layer
abbrev pub over_fits : Plan → ℕ → Option ℕ → Bool
over_fits plan n None = false
over_fits plan n (Some s) = is_fetch plan.steps s && is_before (layer_of plan.layers s) n

abbrev pub overs_fit : Plan → ℕ → List Layer → Bool
overs_fit plan n [] = true
overs_fit plan n (l ∷ layers) = over_fits plan n l.over && overs_fit plan (n + 1) layers

-- the first layer, and no other, stands over nothing
abbrev pub first_fits : Plan → List Layer → Bool
first_fits plan [] = false
first_fits plan (l ∷ layers) = not (is_some l.over) && overs_fit plan 1 layers

-- some layer has the step
abbrev pub is_laid : List Layer → ℕ → Bool
is_laid layers k = list_any (λ l. is_in l.steps k) layers

abbrev pub differ : List ℕ → Bool
differ [] = true
differ (k ∷ ks) = not (is_in ks k) && differ ks

-- no step stands twice
abbrev pub are_apart : List Layer → Bool
are_apart [] = true
are_apart (l ∷ layers) = differ l.steps && (list_all (λ k. not (is_laid layers k)) l.steps && are_apart layers)

-- each step stands in some layer
abbrev pub all_laid : List Layer → ℕ → List Step → Bool
all_laid layers k [] = true
all_laid layers k (s ∷ steps) = is_laid layers k && all_laid layers (k + 1) steps

abbrev pub layers_fit : Plan → Bool
layers_fit plan =
    first_fits plan plan.layers && (list_all (λ l. are_below (length plan.steps) l.steps) plan.layers
    && (are_apart plan.layers && all_laid plan.layers 0 plan.steps))

-- ---- what places show

-- the table of a mutation field has the columns
abbrev pub table_has : CatalogParts → List ℕ → Option ℕ → Bool
table_has catalog columns None = true
table_has catalog columns (Some table) = are_below (width_of catalog table) columns

-- the table of each mutation field above the place has the columns
abbrev pub tables_have : BaseParts → List Place → ℕ → List ℕ → Bool
tables_have base places i columns =
    list_all (λ j. table_has base.catalog columns (mutated_at base.schema places j)) (places_above places i)

-- what a step takes from the row that a mutation gives is there, for a place that uses the step
abbrev pub column_takes : BaseParts → List Place → List Step → ℕ → ℕ → ℕ → Bool
column_takes base places steps i row column = not (is_given steps row) || tables_have base places i (column ∷ [])

abbrev pub fetch_takes : BaseParts → List Place → List Step → ℕ → FetchStep → Option ℕ → Bool
fetch_takes base places steps i f None = true
fetch_takes base places steps i f (Some parent) =
    not (is_given steps parent) || tables_have base places i (out-FetchStep f).parent_columns

abbrev pub takes_given : BaseParts → List Place → List Step → ℕ → Option Step → Bool
takes_given base places steps i (Some (step.Column row column)) = column_takes base places steps i row column
takes_given base places steps i (Some (step.Fetch f)) = fetch_takes base places steps i f (out-FetchStep f).parent
takes_given base places steps i _ = true

-- so it is for each step that the place uses
abbrev pub given_fits : BaseParts → List Place → List Step → OutPlace → Bool
given_fits base places steps o =
    list_all (λ k. takes_given base places steps o.place (slice_get steps k)) (used_by steps o.step)

-- the place, its step and its layer are in range, and the step stands in the layer or in one over which that stands
abbrev pub out_fits : BaseParts → Tree → Plan → OutPlace → Bool
out_fits base tree plan o =
    nat_lt o.place (length tree.places) && (nat_lt o.step (length plan.steps)
    && (nat_lt o.layer (length plan.layers)
    && (stands_over plan.layers (Some o.layer) (layer_of plan.layers o.step)
    && given_fits base tree.places plan.steps o)))

-- no place has two entries
abbrev pub places_differ : List OutPlace → Bool
places_differ [] = true
places_differ (o ∷ out) = not (list_any (λ p. p.place == o.place) out) && places_differ out

abbrev pub outs_fit : BaseParts → Tree → Plan → Bool
outs_fit base tree plan = list_all (out_fits base tree plan) plan.out && places_differ plan.out

abbrev pub is_checked : BaseParts → Tree → Plan → Bool
is_checked base tree plan =
    steps_fit base.catalog plan 0 plan.steps && (layers_fit plan && outs_fit base tree plan)
