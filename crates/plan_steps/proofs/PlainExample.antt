-- A plan of `{ allTs { nodes { id } } }` is plain, whatever the constraints are.
use Rattle.std.proofs.Common.{◌≡◌, ℕ, zero, suc, List, [], ◌∷◌, map, Option, Some, None, true, false, refl, sym, ap, ◌∙◌, subst}
use Rattle.std.specs.Prelude.{slice_get, is_some}
use Rattle.pg_base.specs.Base.{BaseParts}
use Rattle.pg_base.specs.Catalog.{CatalogParts}
use Rattle.pg_base.specs.Schema.{SchemaParts}
use Rattle.pg_base.specs.declared.does.Does.{Does}
use Rattle.pg_base.specs.declared.does.Does.TheVariants as does
use Rattle.pg_base.specs.declared.schema.FieldDef.{FieldDef}
use Rattle.pg_base.specs.declared.schema.TypeDef.{TypeDef}
use Rattle.pg_base.specs.declared.schema.TypeKind.TheVariants.{Object}
use Rattle.pg_base.specs.declared.tags.Tags.{Tags}
use Rattle.pg_base.specs.declared.vars.Vars.{Vars}
use Rattle.place_tree.specs.declared.fetch.Fetch.{Fetch}
use Rattle.place_tree.specs.declared.fetch.KeyCells.TheVariants.{Given}
use Rattle.place_tree.specs.declared.place.Place.{Place}
use Rattle.place_tree.specs.declared.place.Tree.{Tree}
use Rattle.place_tree.specs.Fetch.{list_fetch, fetch_of, argument_error}
use Rattle.place_tree.specs.Fields.{does_of, is_row_field}
use Rattle.place_tree.specs.Needs.{is_mutation}
use Rattle.plan_constraints.specs.declared.constraint.Constraint.{Constraint}
use Rattle.plan_steps.specs.declared.plan.FetchStep.{FetchStep, FetchStep-F, out-FetchStep, roll-FetchStep, out-roll-FetchStep}
use Rattle.plan_steps.specs.declared.plan.Plan.{Plan}
use Rattle.plan_steps.specs.declared.plan.Step.TheVariants as step
use Rattle.plan_steps.specs.Fetches.{IsFieldOf, HangsOn, IsBelowFetch, StandsWith, ShowsRows, bare, TellsWindows, IsPlain}
use Rattle.plan_steps.specs.Filled.{filled_equal, filled_key, filled_window}
use Rattle.plan_steps.specs.Serves.{Basis, OnNothing, OnRow, OnList, OnPayload, below_fetch, FetchServes, RowFieldServes, basis_above, Serves, ServesAll}
use Rattle.plan_steps.proofs.Plain.{HasOwnFetches, plain_query}
use Rattle.plan_steps.proofs.Served.{each_at}

-- ---- one table, with the types of a query, a list and a row

abbrev tags : Tags
tags = record { name = None; field_name = None; foreign_field_name = None; deprecated = None; description = None; behavior = [] }

abbrev one_table : CatalogParts
one_table = record { enums = []; tables = record { name = []; columns = []; keys = []; links = []; tags = tags } ∷ [] }

abbrev field : Does → ℕ → FieldDef
field does ty = record { name = []; args = []; ty = record { name = ty; list = false; item_not_null = false; not_null = false }; does = does; deprecated = None }

abbrev object : FieldDef → TypeDef
object f = record { name = []; kind = Object (f ∷ []) }

abbrev three_types : SchemaParts
three_types = record {
  types = object (field (does.All 0) 1) ∷ object (field does.Nodes 2) ∷ object (field (does.Column 0 0) 3) ∷ [];
  query = 0;
  mutation = None;
}

abbrev base : BaseParts
base = record { catalog = one_table; schema = three_types }

abbrev place : Option ℕ → ℕ → Place
place parent ty = record { parent = parent; key = []; ty = ty; field = 0; args = []; pos = record { line = 1; column = 1 } }

abbrev tree : Tree
tree = record { places = place None 0 ∷ place (Some 0) 1 ∷ place (Some 1) 2 ∷ []; asked = [] }

-- ---- the plan

abbrev parts : FetchStep-F FetchStep
parts = record {
  table = 0;
  by = [];
  parent = None;
  parent_columns = [];
  condition = [];
  key = [];
  order = [];
  window = record { first = None; last = None; offset = None; before = None; after = None };
  rows = true;
  children = [];
}

abbrev fetch : FetchStep
fetch = roll-FetchStep parts

abbrev plan : Plan
plan = record {
  steps = step.Fetch fetch ∷ step.Item 0 ∷ step.Column 1 0 ∷ [];
  layers = record { over = None; steps = 0 ∷ [] } ∷ record { over = Some 0; steps = 1 ∷ 2 ∷ [] } ∷ [];
  out = record { place = 0; layer = 0; step = 0 } ∷ record { place = 1; layer = 0; step = 0 } ∷ record { place = 2; layer = 1; step = 2 } ∷ [];
}

abbrev bases : ℕ → Basis
bases zero = OnList 0
bases (suc zero) = OnRow 0
bases (suc (suc n)) = OnNothing

parts_are : out-FetchStep fetch ≡ parts
parts_are = out-roll-FetchStep parts

-- ---- what serves the list

abbrev due_for : Vars → Fetch
due_for vars = list_fetch base (field (does.All 0) 1) vars (place None 0) 0 [] (Given [])

asks_list : (vars : Vars) → fetch_of base vars (place None 0) ≡ Some (due_for vars)
unfolding fetch_of
asks_list vars = refl

fetch_serves : (vars : Vars) → FetchServes plan.steps OnNothing base tree vars 0 fetch (due_for vars)
fetch_serves vars = record {
  table = ap (λ o. o.table) parts_are;
  by = ap (λ o. o.by) parts_are;
  key = (ap (λ o. o.parent) parts_are, ap (λ o. filled_key base vars o.table o.by o.key) parts_are);
  condition = ap (λ o. map (filled_equal base vars o.table) o.condition) parts_are;
  order = ap (λ o. o.order) parts_are;
  window = ap (λ o. filled_window base vars o.table o.order o.window) parts_are;
  names = refl;
  rows = λ needs. ap (λ o. o.rows) parts_are;
  one = λ row. ap (λ o. o.rows) parts_are;
}

list_serves : (constraints : List Constraint) → RowFieldServes base tree constraints plan.steps 0 (place None 0) OnNothing (OnList 0) 0
list_serves constraints = record {
  fetch = fetch;
  is_fetch = refl;
  serves = λ vars due fit hold is fine.
      let same : due_for vars ≡ due = due_is vars due is in
      subst (λ d. FetchServes plan.steps OnNothing base tree vars 0 fetch d × (OnList 0 ≡ below_fetch d.shape 0)) same (fetch_serves vars, refl);
}
  where
    due_is : (vars : Vars) (due : Fetch) → fetch_of base vars (place None 0) ≡ Some due → due_for vars ≡ due
    due_is vars due is = let e = asks_list vars in cc

-- ---- what serves each place

serves_place : (constraints : List Constraint) (i : ℕ) (p : Place) → slice_get tree.places i ≡ Some p → Serves base tree constraints plan bases i p
serves_place constraints zero p at =
    let same : place None 0 ≡ p = cc in
    subst (Serves base tree constraints plan bases 0) same (record { at = 0; is_out = refl; fits = list_serves constraints })
serves_place constraints (suc zero) p at =
    let same : place (Some 0) 1 ≡ p = cc in
    subst (Serves base tree constraints plan bases 1) same (record { at = 0; is_out = refl; fits = (refl, refl) })
serves_place constraints (suc (suc zero)) p at =
    let same : place (Some 1) 2 ≡ p = cc in
    subst (Serves base tree constraints plan bases 2) same (record { at = 2; is_out = refl; fits = (1, refl, refl) })
serves_place constraints (suc (suc (suc i))) p at = cc

no_mutation : (i : ℕ) (p : Place) → slice_get tree.places i ≡ Some p → is_mutation (does_of base.schema p) ≡ false
no_mutation i p at = each_at (λ p. is_mutation (does_of base.schema p) ≡ false) tree.places i p (refl, (refl, (refl, tt))) at

no_payload : (i : ℕ) (p : Place) → slice_get tree.places i ≡ Some p → is_mutation (does_of base.schema p) ≡ true → bases i ≡ OnPayload
no_payload i p at m = let z = sym m ∙ no_mutation i p at in cc

abbrev serves_all : (constraints : List Constraint) → ServesAll base tree constraints plan
serves_all constraints = record {
  bases = bases;
  payloads = no_payload;
  each = λ i p at m. serves_place constraints i p at;
}

-- ---- the one fetch

row_field : (k i : ℕ) → (field : IsFieldOf base tree plan k i) → (i ≡ 0) × (k ≡ 0) × (place None 0 ≡ field.place)
row_field k zero field = let at = field.is_place in let out = field.is_out in (refl, (let e : k ≡ 0 = cc in e), (let e : place None 0 ≡ field.place = cc in e))
row_field k (suc zero) field =
    let at = field.is_place in
    let same : field.place ≡ place (Some 0) 1 = cc in
    let row = subst (λ q. is_row_field (does_of base.schema q) ≡ true) same field.is_field in
    cc
row_field k (suc (suc zero)) field =
    let at = field.is_place in
    let same : field.place ≡ place (Some 1) 2 = cc in
    let row = subst (λ q. is_row_field (does_of base.schema q) ≡ true) same field.is_field in
    cc
row_field k (suc (suc (suc i))) field = let at = field.is_place in cc

one_fetch : (k : ℕ) (f : FetchStep) → slice_get plan.steps k ≡ Some (step.Fetch f) → (k ≡ 0) × (fetch ≡ f)
one_fetch zero f at = (refl, (let e : fetch ≡ f = cc in e))
one_fetch (suc zero) f at = cc
one_fetch (suc (suc zero)) f at = cc
one_fetch (suc (suc (suc k))) f at = cc

no_given : (k : ℕ) → slice_get plan.steps k ≡ Some step.Given → ⊥
no_given zero at = cc
no_given (suc zero) at = cc
no_given (suc (suc zero)) at = cc
no_given (suc (suc (suc k))) at = cc

parts_of : (k : ℕ) (f : FetchStep) → slice_get plan.steps k ≡ Some (step.Fetch f) → out-FetchStep f ≡ parts
parts_of k f at = subst (λ g. out-FetchStep g ≡ parts) (one_fetch k f at).1 parts_are

only : (k : ℕ) (f : FetchStep) → slice_get plan.steps k ≡ Some (step.Fetch f) → (i : ℕ) × (field : IsFieldOf base tree plan k i) × ((out-FetchStep f).rows ≡ true → ShowsRows base tree i field.place)
only zero f at = (0, record { place = place None 0; is_place = refl; is_field = refl; is_out = refl }, λ rows vars due is list. refl)
only (suc k) f at = let z = (one_fetch (suc k) f at).0 in cc

hangs : (k i : ℕ) (f : FetchStep) (field : IsFieldOf base tree plan k i) → slice_get plan.steps k ≡ Some (step.Fetch f) → HangsOn plan.steps (basis_above bases field.place.parent) (out-FetchStep f).parent × IsBelowFetch k (bases i)
hangs k i f field at =
    let z = row_field k i field in
    let hung : (out-FetchStep f).parent ≡ None = ap (λ o. o.parent) (parts_of k f at) in
    (subst (λ q. HangsOn plan.steps (basis_above bases q.parent) (out-FetchStep f).parent) z.2 hung, subst (λ n. IsBelowFetch k (bases n)) (sym z.0) (sym z.1))

-- no fetch hangs on a row
tells : (constraints : List Constraint) → TellsWindows base tree constraints plan
tells constraints vars fit hold k i item f field at hung = let none = ap (λ o. o.parent) (parts_of k f at) in let z : None ≡ Some item = sym none ∙ hung in cc

own_fetches : (constraints : List Constraint) → HasOwnFetches base tree constraints plan
own_fetches constraints = record {
  serves = serves_all constraints;
  own = λ k i j field other. (row_field k i field).0 ∙ sym (row_field k j other).0;
  only = only;
  flat = λ k f at. ap (λ o. o.children) (parts_of k f at);
  hangs = hangs;
  stands = λ k f at. subst (λ n. StandsWith plan.layers n (out-FetchStep f).parent) (sym (one_fetch k f at).0) (subst (StandsWith plan.layers 0) (sym (ap (λ o. o.parent) (parts_of k f at))) refl);
  given = λ k at. absurd (no_given k at);
  tells = tells constraints;
  alike = λ k l i j f g field other at is same. ap bare (sym (one_fetch k f at).1 ∙ (one_fetch l g is).1);
  same_error = λ vars fit hold k l i j f g field other at is content orders. ap (λ q. is_some (argument_error base vars q)) (sym (row_field k i field).2 ∙ (row_field l j other).2);
}

example_is_plain : (constraints : List Constraint) → IsPlain base tree constraints plan
example_is_plain constraints = plain_query base tree constraints plan (refl, (refl, (refl, tt))) (own_fetches constraints)
