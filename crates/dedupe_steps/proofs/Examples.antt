-- The plan of `{ a: allTs { totalCount } b: allTs { nodes { id } edges { node { id } } } }` and its quotient.
use Rattle.std.proofs.Common.{◌≡◌, ℕ, List, [], ◌∷◌, Option, Some, None, true, false, refl, sym, ap, ◌∙◌}
use Rattle.std.specs.Prelude.{option_map}
use Rattle.pg_base.specs.Base.{BaseParts}
use Rattle.pg_base.specs.Catalog.{CatalogParts}
use Rattle.pg_base.specs.Schema.{SchemaParts}
use Rattle.pg_base.specs.declared.does.Does.{Does}
use Rattle.pg_base.specs.declared.does.Does.TheVariants as does
use Rattle.pg_base.specs.declared.schema.FieldDef.{FieldDef}
use Rattle.pg_base.specs.declared.schema.TypeDef.{TypeDef}
use Rattle.pg_base.specs.declared.schema.TypeKind.TheVariants.{Object}
use Rattle.pg_base.specs.declared.tags.Tags.{Tags}
use Rattle.place_tree.specs.declared.place.Place.{Place}
use Rattle.place_tree.specs.declared.place.Tree.{Tree}
use Rattle.plan_steps.specs.declared.plan.FetchStep.{FetchStep, out-FetchStep, roll-FetchStep, out-roll-FetchStep}
use Rattle.plan_steps.specs.declared.plan.Layer.{Layer}
use Rattle.plan_steps.specs.declared.plan.OutPlace.{OutPlace}
use Rattle.plan_steps.specs.declared.plan.Plan.{Plan}
use Rattle.plan_steps.specs.declared.plan.Step.TheVariants as step
use Rattle.plan_steps.specs.Fetches.{bare}
use Rattle.dedupe_steps.specs.Keys.{hung, hook_on, OverNothing, Under, key_at}
use Rattle.dedupe_steps.specs.Numbered.{Renaming, at}
use Rattle.dedupe_steps.specs.Orders.{Told}
use Rattle.dedupe_steps.specs.Quotient.{quotient, new_step, some_asks}
use Rattle.dedupe_steps.proofs.Merging.{asks_at, out_hung, bare_hung}

-- ---- one table, with the types of a query, a list, an edge and a row

abbrev tags : Tags
tags = record { name = None; field_name = None; foreign_field_name = None; deprecated = None; description = None; behavior = [] }

abbrev one_table : CatalogParts
one_table = record { enums = []; tables = record { name = []; columns = []; keys = []; links = []; tags = tags } ∷ [] }

abbrev field : Does → ℕ → FieldDef
field does ty = record { name = []; args = []; ty = record { name = ty; list = false; item_not_null = false; not_null = false }; does = does; deprecated = None }

abbrev object : List FieldDef → TypeDef
object fields = record { name = []; kind = Object fields }

abbrev four_types : SchemaParts
four_types = record {
  types =
      object (field (does.All 0) 1 ∷ [])
      ∷ object (field does.Total 4 ∷ field does.Nodes 3 ∷ field does.Edges 2 ∷ [])
      ∷ object (field does.Node 3 ∷ [])
      ∷ object (field (does.Column 0 0) 4 ∷ []) ∷ [];
  query = 0;
  mutation = None;
}

abbrev base : BaseParts
base = record { catalog = one_table; schema = four_types }

abbrev place : Option ℕ → ℕ → ℕ → Place
place parent ty field = record { parent = parent; key = []; ty = ty; field = field; args = []; pos = record { line = 1; column = 1 } }

abbrev tree : Tree
tree = record {
  places =
      place None 0 0 ∷ place (Some 0) 1 0
      ∷ place None 0 0 ∷ place (Some 2) 1 1 ∷ place (Some 3) 3 0 ∷ place (Some 2) 1 2 ∷ place (Some 5) 2 0 ∷ place (Some 6) 3 0 ∷ [];
  asked = [];
}

-- ---- the plan, whose first fetch asks for no rows

abbrev first : FetchStep
first = roll-FetchStep (record {
  table = 0;
  by = [];
  parent = None;
  parent_columns = [];
  condition = [];
  key = [];
  order = [];
  window = record { first = None; last = None; offset = None; before = None; after = None };
  rows = false;
  children = [];
})

abbrev second : FetchStep
second = hung None true first

abbrev out : ℕ → ℕ → ℕ → OutPlace
out place layer step = record { place = place; layer = layer; step = step }

abbrev layer : Option ℕ → List ℕ → Layer
layer over steps = record { over = over; steps = steps }

abbrev plan : Plan
plan = record {
  steps =
      step.Fetch first ∷ step.Count 0
      ∷ step.Fetch second ∷ step.Item 2 ∷ step.Column 3 0 ∷ step.Item 2 ∷ step.Column 5 0 ∷ [];
  layers = layer None (0 ∷ 1 ∷ 2 ∷ []) ∷ layer (Some 2) (3 ∷ 4 ∷ []) ∷ layer (Some 2) (5 ∷ 6 ∷ []) ∷ [];
  out = out 0 0 0 ∷ out 1 0 1 ∷ out 2 0 2 ∷ out 3 0 2 ∷ out 4 1 4 ∷ out 5 0 2 ∷ out 6 2 5 ∷ out 7 2 6 ∷ [];
}

abbrev steps : Renaming
steps = record { to = 0 ∷ 1 ∷ 0 ∷ 2 ∷ 3 ∷ 2 ∷ 3 ∷ []; firsts = 0 ∷ 1 ∷ 3 ∷ 4 ∷ [] }

abbrev layers : Renaming
layers = record { to = 0 ∷ 1 ∷ 1 ∷ []; firsts = 0 ∷ 1 ∷ [] }

-- one fetch, which asks for rows, and one Item for nodes and edges
abbrev merged : Plan
merged = record {
  steps = step.Fetch second ∷ step.Count 0 ∷ step.Item 0 ∷ step.Column 2 0 ∷ [];
  layers = layer None (0 ∷ 1 ∷ []) ∷ layer (Some 0) (2 ∷ 3 ∷ []) ∷ [];
  out = out 0 0 0 ∷ out 1 0 1 ∷ out 2 0 0 ∷ out 3 0 0 ∷ out 4 1 3 ∷ out 5 0 0 ∷ out 6 1 2 ∷ out 7 1 3 ∷ [];
}

-- ---- the keys

no_parent : (out-FetchStep first).parent ≡ None
no_parent = ap (λ z. z.parent) (out-roll-FetchStep _)

none_either : (out-FetchStep second).parent ≡ None
none_either = ap (λ z. z.parent) (out_hung None true first)

fetches_alike : key_at base tree [] plan steps.to 0 ≡ key_at base tree [] plan steps.to 2
fetches_alike =
    let bares : step.Fetch (bare first) ≡ step.Fetch (bare second) = ap (λ f. step.Fetch f) (sym (bare_hung None true first)) in
    let hooks = ap (hook_on steps.to plan.steps) no_parent ∙ sym (ap (hook_on steps.to plan.steps) none_either) in
    λ n. record { content = bares n; hook = hooks n; stand = OverNothing; reach = Under None; order = Told false }

items_alike : key_at base tree [] plan steps.to 3 ≡ key_at base tree [] plan steps.to 5
items_alike = refl

columns_alike : key_at base tree [] plan steps.to 4 ≡ key_at base tree [] plan steps.to 6
columns_alike = refl

-- ---- the plan that they make

layers_merged : (quotient plan steps layers).layers ≡ merged.layers
layers_merged = refl

out_merged : (quotient plan steps layers).out ≡ merged.out
out_merged = refl

one_asks : some_asks steps.to 0 0 plan.steps ≡ true
one_asks = asks_at steps.to 0 0 plan.steps 2 (step.Fetch second) refl refl (ap (λ z. z.rows) (out_hung None true first))

first_merged : new_step plan.steps steps.to 0 ≡ step.Fetch second
first_merged =
    ap (λ p. step.Fetch (hung (option_map (at steps.to) p) (some_asks steps.to 0 0 plan.steps) first)) no_parent
    ∙ ap (λ rows. step.Fetch (hung None rows first)) one_asks

steps_merged : (quotient plan steps layers).steps ≡ merged.steps
steps_merged = ap (λ s. s ∷ step.Count 0 ∷ step.Item 0 ∷ step.Column 2 0 ∷ []) first_merged
