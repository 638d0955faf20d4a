-- What stands below fetches matters neither to what steps name, nor to what plans show.
use Rattle.std.proofs.Common.{◌≡◌, ℕ, zero, suc, List, [], ◌∷◌, ◌++◌, map, length, Option, Some, None, refl, sym, ap, ◌∙◌, cond}
use Rattle.std.proofs.lemmas.List.{length-map}
use Rattle.std.specs.Prelude.{slice_get, option_map, nat_lt, ◌==◌, ◌&&◌, is_some}
use Rattle.std.specs.List.{list_any}
use Rattle.pg_base.specs.Base.{BaseParts}
use Rattle.pg_base.specs.declared.cell.Cell.{Cell}
use Rattle.pg_base.specs.declared.vars.Vars.{Vars}
use Rattle.rel_model.specs.declared.tables.Row.{Row}
use Rattle.rel_model.specs.declared.tables.Tables.{Tables}
use Rattle.place_tree.specs.declared.answer.Leaf.TheVariants.{Truth as truth}
use Rattle.place_tree.specs.declared.place.Tree.{Tree}
use Rattle.place_tree.specs.Exec.{first_row, last_row}
use Rattle.place_tree.specs.Response as response
use Rattle.plan_steps.specs.declared.plan.FetchStep.{FetchStep, FetchStep-F, out-FetchStep, roll-FetchStep, out-roll-FetchStep, roll-out-FetchStep}
use Rattle.plan_steps.specs.declared.plan.Plan.{Plan}
use Rattle.plan_steps.specs.declared.plan.Root.{Root}
use Rattle.plan_steps.specs.declared.plan.Step.{Step}
use Rattle.plan_steps.specs.declared.plan.Step.TheVariants as step
use Rattle.plan_steps.specs.Built.{built}
use Rattle.plan_steps.specs.Chains.{chain, is_in}
use Rattle.plan_steps.specs.Denoted.{shown_at, denoted, denotation, moment}
use Rattle.plan_steps.specs.Filled.{filled_key}
use Rattle.plan_steps.specs.Named.{named_by, named_in, named_at, used_by, fetch_in, fetch_at, is_fetch, is_given_in, is_given, item_in, item_at, step_for}
use Rattle.plan_steps.specs.Under.{root_place, is_under, is_used}
use Rattle.plan_steps.specs.Values.{Moment, Listing, Val, ListVal, LeafVal, Path, row_in, val_at, key_from, key_by, key_at, listing_for, listing_in, order_names, fetch_cursor, item_cursor, page, step_val, all_vals}
use Rattle.plan_steps.proofs.Listings.{listing_by, top_of, listing_is}
use Rattle.inline_select.specs.Inlined.{with_children}

-- ---- lists

pub get_map : {A B : Type 0} (f : A → B) (xs : List A) (k : ℕ) → slice_get (map f xs) k ≡ option_map f (slice_get xs k)
get_map f [] k = refl
get_map f (x ∷ xs) zero = refl
get_map f (x ∷ xs) (suc k) = get_map f xs k

built_map : {A B C : Type 0} (next : List C → B → C) (f : A → B) (done : List C) (xs : List A) → built next done (map f xs) ≡ built (λ d a. next d (f a)) done xs
built_map next f done [] = refl
built_map next f done (x ∷ xs) = built_map next f (done ++ next done (f x) ∷ []) xs

-- ---- a fetch with other children

module _ (children : List FetchStep) (f : FetchStep) where
  pub out_with : out-FetchStep (with_children children f) ≡ record (out-FetchStep f) { children = children }
  out_with = out-roll-FetchStep _

  pub with_twice : (others : List FetchStep) → with_children others (with_children children f) ≡ with_children others f
  with_twice others = ap (λ o. roll-FetchStep (record o { children = others })) out_with

  pub listing_with : (m : Moment) (key : Option (List Cell)) → listing_for m (with_children children f) key ≡ listing_for m f key
  listing_with m None = refl
  listing_with m (Some key) =
      listing_is m.base m.tables m.vars (with_children children f) key
      ∙ ap (λ o. listing_by m.tables (top_of m.base m.vars o) key) out_with
      ∙ sym (listing_is m.base m.tables m.vars f key)

  abbrev key_in : Moment → FetchStep-F FetchStep → List Val → Option ℕ → Option (List Cell)
  key_in m o vals None = Some (filled_key m.base m.vars o.table o.by o.key)
  key_in m o vals (Some p) = key_from o.parent_columns (row_in (val_at vals p))

  key_is : (m : Moment) (g : FetchStep) (vals : List Val) (p : Option ℕ) → key_by m g vals p ≡ key_in m (out-FetchStep g) vals p
  key_is m g vals None = refl
  key_is m g vals (Some p) = refl

  pub key_with : (m : Moment) (vals : List Val) → key_at m (with_children children f) vals ≡ key_at m f vals
  key_with m vals =
      key_is m (with_children children f) vals _ ∙ ap (λ o. key_in m o vals o.parent) out_with ∙ sym (key_is m f vals (out-FetchStep f).parent)

  cursor_with : (base : BaseParts) (row : Option Row) → fetch_cursor base (Some (with_children children f)) row ≡ fetch_cursor base (Some f) row
  cursor_with base None = refl
  cursor_with base (Some row) = ap (λ o. Rattle.place_tree.specs.Exec.row_cursor base.catalog o.table (order_names base o.table o.order) o.order row) out_with

-- a fetch that has no children is itself without them
pub with_none : (f : FetchStep) → (out-FetchStep f).children ≡ [] → with_children [] f ≡ f
with_none f e = ap (λ kids. roll-FetchStep (record (out-FetchStep f) { children = kids })) (sym e) ∙ roll-out-FetchStep f

-- ---- steps without what is below

abbrev pub bare : FetchStep → FetchStep
bare f = with_children [] f

abbrev pub bare_step : Step → Step
bare_step (step.Const v) = step.Const v
bare_step (step.Var path) = step.Var path
bare_step step.Given = step.Given
bare_step (step.Fetch f) = step.Fetch (bare f)
bare_step (step.Item s) = step.Item s
bare_step (step.Column i c) = step.Column i c
bare_step (step.Count s) = step.Count s
bare_step (step.Page s part) = step.Page s part
bare_step (step.CursorOf i) = step.CursorOf i

abbrev pub bare_plan : Plan → Plan
bare_plan plan = record { steps = map bare_step plan.steps; layers = plan.layers; out = plan.out }

fetch_bare : (o : Option Step) → fetch_in (option_map bare_step o) ≡ option_map bare (fetch_in o)
fetch_bare None = refl
fetch_bare (Some (step.Const v)) = refl
fetch_bare (Some (step.Var path)) = refl
fetch_bare (Some step.Given) = refl
fetch_bare (Some (step.Fetch f)) = refl
fetch_bare (Some (step.Item s)) = refl
fetch_bare (Some (step.Column i c)) = refl
fetch_bare (Some (step.Count s)) = refl
fetch_bare (Some (step.Page s part)) = refl
fetch_bare (Some (step.CursorOf i)) = refl

item_bare : (o : Option Step) → item_in (option_map bare_step o) ≡ item_in o
item_bare None = refl
item_bare (Some (step.Const v)) = refl
item_bare (Some (step.Var path)) = refl
item_bare (Some step.Given) = refl
item_bare (Some (step.Fetch f)) = refl
item_bare (Some (step.Item s)) = refl
item_bare (Some (step.Column i c)) = refl
item_bare (Some (step.Count s)) = refl
item_bare (Some (step.Page s part)) = refl
item_bare (Some (step.CursorOf i)) = refl

given_bare : (o : Option Step) → is_given_in (option_map bare_step o) ≡ is_given_in o
given_bare None = refl
given_bare (Some (step.Const v)) = refl
given_bare (Some (step.Var path)) = refl
given_bare (Some step.Given) = refl
given_bare (Some (step.Fetch f)) = refl
given_bare (Some (step.Item s)) = refl
given_bare (Some (step.Column i c)) = refl
given_bare (Some (step.Count s)) = refl
given_bare (Some (step.Page s part)) = refl
given_bare (Some (step.CursorOf i)) = refl

pub named_with : (children : List FetchStep) (f : FetchStep) → named_by (step.Fetch (with_children children f)) ≡ named_by (step.Fetch f)
named_with children f = ap (λ o. o.parent) (out_with children f)

name_bare : (o : Option Step) → named_in (option_map bare_step o) ≡ named_in o
name_bare None = refl
name_bare (Some (step.Const v)) = refl
name_bare (Some (step.Var path)) = refl
name_bare (Some step.Given) = refl
name_bare (Some (step.Fetch f)) = named_with [] f
name_bare (Some (step.Item s)) = refl
name_bare (Some (step.Column i c)) = refl
name_bare (Some (step.Count s)) = refl
name_bare (Some (step.Page s part)) = refl
name_bare (Some (step.CursorOf i)) = refl

some_bare : (o : Option FetchStep) → is_some (option_map bare o) ≡ is_some o
some_bare None = refl
some_bare (Some f) = refl

module _ (steps : List Step) where
  pub length_bare : length (map bare_step steps) ≡ length steps
  length_bare = length-map steps bare_step

  pub fetch_at_bare : (k : ℕ) → fetch_at (map bare_step steps) k ≡ option_map bare (fetch_at steps k)
  fetch_at_bare k = ap fetch_in (get_map bare_step steps k) ∙ fetch_bare (slice_get steps k)

  pub items_bare : item_at (map bare_step steps) ≡ item_at steps
  items_bare = λ i k. (ap item_in (get_map bare_step steps k) ∙ item_bare (slice_get steps k)) i

  pub givens_bare : is_given (map bare_step steps) ≡ is_given steps
  givens_bare = λ i k. (ap is_given_in (get_map bare_step steps k) ∙ given_bare (slice_get steps k)) i

  pub fetches_bare : is_fetch (map bare_step steps) ≡ is_fetch steps
  fetches_bare = λ i k. (ap is_some (fetch_at_bare k) ∙ some_bare (fetch_at steps k)) i

  pub names_bare : named_at (map bare_step steps) ≡ named_at steps
  names_bare = λ i k. (ap named_in (get_map bare_step steps k) ∙ name_bare (slice_get steps k)) i

  pub used_bare : used_by (map bare_step steps) ≡ used_by steps
  used_bare = λ i k. chain (names_bare i) (length_bare i) k

pub is_used_bare : (tree : Tree) (plan : Plan) (r : Root) (k : ℕ) → is_used tree (bare_plan plan) r k ≡ is_used tree plan r k
is_used_bare tree plan r k = ap (λ u. list_any (λ o. is_under tree r o.place && is_in (u o.step) k) plan.out) (used_bare plan.steps)

-- ---- values

cursor_bare : (base : BaseParts) (o : Option FetchStep) (row : Option Row) → fetch_cursor base (option_map bare o) row ≡ fetch_cursor base o row
cursor_bare base None row = refl
cursor_bare base (Some f) row = cursor_with [] f base row

page_bare : (base : BaseParts) (o : Option FetchStep) (l : Listing) (k : ℕ) → page base (option_map bare o) l k ≡ page base o l k
page_bare base o l k =
    ap (λ x. cond (k == 0) (truth (nat_lt l.to l.total)) (cond (k == 1) (truth (nat_lt 0 l.from)) (cond (k == 2) x (fetch_cursor base (option_map bare o) (last_row l.rows))))) (cursor_bare base o (first_row l.rows))
    ∙ ap (λ x. cond (k == 0) (truth (nat_lt l.to l.total)) (cond (k == 1) (truth (nat_lt 0 l.from)) (cond (k == 2) (fetch_cursor base o (first_row l.rows)) x))) (cursor_bare base o (last_row l.rows))

item_cursor_bare : (base : BaseParts) (steps : List Step) (o : Option ℕ) (row : Option Row) → item_cursor base (map bare_step steps) o row ≡ item_cursor base steps o row
item_cursor_bare base steps None row = refl
item_cursor_bare base steps (Some s) row = ap (λ f. fetch_cursor base f row) (fetch_at_bare steps s) ∙ cursor_bare base (fetch_at steps s) row

step_bare : (m : Moment) (steps : List Step) (path : Path) (vals : List Val) (s : Step) → step_val m (map bare_step steps) path vals (bare_step s) ≡ step_val m steps path vals s
step_bare m steps path vals (step.Fetch f) = ap ListVal (ap (listing_for m (with_children [] f)) (key_with [] f m vals) ∙ listing_with [] f m (key_at m f vals))
step_bare m steps path vals (step.Const v) = refl
step_bare m steps path vals (step.Var p) = refl
step_bare m steps path vals step.Given = refl
step_bare m steps path vals (step.Item s) = refl
step_bare m steps path vals (step.Column i c) = refl
step_bare m steps path vals (step.Count s) = refl
step_bare m steps path vals (step.Page s k) =
    ap LeafVal (ap (λ o. page m.base o (listing_in (val_at vals s)) k) (fetch_at_bare steps s) ∙ page_bare m.base (fetch_at steps s) (listing_in (val_at vals s)) k)
step_bare m steps path vals (step.CursorOf i) =
    ap LeafVal (ap (λ at. item_cursor m.base (map bare_step steps) (at i) (row_in (val_at vals i))) (items_bare steps) ∙ item_cursor_bare m.base steps (item_at steps i) (row_in (val_at vals i)))

-- the law: all values are those of the bare steps
pub vals_bare : (m : Moment) (steps : List Step) → all_vals m (map bare_step steps) ≡ all_vals m steps
vals_bare m steps = λ i path. (built_map (step_val m (map bare_step steps) path) bare_step [] steps
    ∙ ap (λ next. built next [] steps) (λ j vals s. step_bare m steps path vals s j)) i

pub denoted_bare : (m : Moment) (plan : Plan) → denoted m (bare_plan plan) ≡ denoted m plan
denoted_bare m plan = ap (λ vals. λ i p path. shown_at m p (step_for plan.out i) path (vals path)) (vals_bare m plan.steps)

-- the law: a plan shows what it shows without what is below its fetches
pub denotation_bare : (base : BaseParts) (tables : Tables) (vars : Vars) (plan : Plan) (tree : Tree) (r : Root) → denotation base tables vars (bare_plan plan) tree r ≡ denotation base tables vars plan tree r
denotation_bare base tables vars plan tree r = ap (λ shown. response.members_of shown tree.places 0 (root_place r) []) (denoted_bare (moment base tables vars r) plan)
