-- The quotient of a plan serves each place as the plan does.
use Rattle.std.proofs.Common.{◌≡◌, ℕ, List, map, Option, Some, None, Bool, true, false, refl, sym, ap, ◌∙◌, subst}
use Rattle.std.specs.Prelude.{slice_get, ◌==◌, option_map, is_some, IsSomeAnd}
use Rattle.pg_base.specs.Base.{BaseParts}
use Rattle.pg_base.specs.declared.does.Does.{Does}
use Rattle.pg_base.specs.declared.does.Does.TheVariants as does
use Rattle.pg_base.specs.declared.value.Value.{Value}
use Rattle.pg_base.specs.declared.vars.Vars.{Vars}
use Rattle.place_tree.specs.declared.fetch.Fetch.{Fetch}
use Rattle.place_tree.specs.declared.fetch.KeyCells.{KeyCells}
use Rattle.place_tree.specs.declared.fetch.KeyCells.TheVariants.{Given, OfParent}
use Rattle.place_tree.specs.declared.fetch.Shape.{Shape}
use Rattle.place_tree.specs.declared.fetch.Shape.TheVariants as shape
use Rattle.place_tree.specs.declared.place.Place.{Place}
use Rattle.place_tree.specs.declared.place.Tree.{Tree}
use Rattle.place_tree.specs.Exec.{client_id, place_above}
use Rattle.place_tree.specs.Fields.{does_of, is_row_field}
use Rattle.plan_constraints.specs.declared.constraint.Constraint.{Constraint}
use Rattle.plan_steps.specs.declared.plan.FetchStep.{FetchStep, out-FetchStep}
use Rattle.plan_steps.specs.declared.plan.Step.{Step}
use Rattle.plan_steps.specs.declared.plan.Step.TheVariants as step
use Rattle.plan_steps.specs.Denoted.{input_leaf}
use Rattle.plan_steps.specs.Filled.{filled_equal, filled_key, filled_window}
use Rattle.plan_steps.specs.Serves.{Basis, OnNothing, OnRow, OnList, OnPage, OnEdge, OnPayload, OnGiven, IsRow, IsListOn, KeyServes, FetchServes, below_fetch, input_of, OtherServes, ServesBy, basis_above, ServesAll}
use Rattle.dedupe_steps.specs.Keys.{hung, hook_on, OnGivenRow, OnRowOf}
use Rattle.dedupe_steps.proofs.Merging.{IsAs, as_bare, as_hung, out_hung, hook_none, hook_row, hook_given, Merging, to, M, rows_of, other_there, FetchThere, fetch_there, rows_there, out_there}

abbrev pub new_basis : (ℕ → ℕ) → Basis → Basis
new_basis f OnNothing = OnNothing
new_basis f (OnRow s) = OnRow (f s)
new_basis f (OnList s) = OnList (f s)
new_basis f (OnPage s) = OnPage (f s)
new_basis f (OnEdge s) = OnEdge (f s)
new_basis f OnPayload = OnPayload
new_basis f OnGiven = OnGiven

module _ (m : Merging) where
  abbrev pub steps' : List Step
  steps' = (M m).steps

  -- the hook of a fetch, by the row on which it hangs
  pub hook_of_row : (item s : ℕ) → slice_get m.plan.steps item ≡ Some (step.Item s) → hook_on m.r.to m.plan.steps (Some item) ≡ OnRowOf (to m item)
  hook_of_row item s h = ap (λ o. Rattle.std.specs.Prelude.if◌then◌else◌ (Rattle.plan_steps.specs.Named.is_given_in o) OnGivenRow (OnRowOf (to m item))) h

  pub hook_of_given : (item : ℕ) → slice_get m.plan.steps item ≡ Some step.Given → hook_on m.r.to m.plan.steps (Some item) ≡ OnGivenRow
  hook_of_given item h = ap (λ o. Rattle.std.specs.Prelude.if◌then◌else◌ (Rattle.plan_steps.specs.Named.is_given_in o) OnGivenRow (OnRowOf (to m item))) h

  -- a new fetch
  abbrev pub new_fetch : (k : ℕ) (f : FetchStep) → FetchThere m k f → FetchStep
  new_fetch k f t = hung (option_map (to m) (out-FetchStep t.fetch).parent) (rows_of m (to m k)) t.fetch

  pub new_parent : (k : ℕ) (f : FetchStep) (t : FetchThere m k f) → (out-FetchStep (new_fetch k f t)).parent ≡ option_map (to m) (out-FetchStep t.fetch).parent
  new_parent k f t = ap (λ z. z.parent) (out_hung (option_map (to m) (out-FetchStep t.fetch).parent) (rows_of m (to m k)) t.fetch)

  pub new_rows : (k : ℕ) (f : FetchStep) (t : FetchThere m k f) → (out-FetchStep (new_fetch k f t)).rows ≡ rows_of m (to m k)
  new_rows k f t = ap (λ z. z.rows) (out_hung (option_map (to m) (out-FetchStep t.fetch).parent) (rows_of m (to m k)) t.fetch)

  pub new_as : (k : ℕ) (f : FetchStep) (t : FetchThere m k f) → IsAs f (new_fetch k f t)
  new_as k f t = as_hung f t.fetch (option_map (to m) (out-FetchStep t.fetch).parent) (rows_of m (to m k)) (as_bare f t.fetch t.alike)

  pub hooks : (k : ℕ) (f : FetchStep) (t : FetchThere m k f) → hook_on m.r.to m.plan.steps (out-FetchStep t.fetch).parent ≡ hook_on m.r.to m.plan.steps (out-FetchStep f).parent
  hooks k f t = ap (λ z. z.hook) t.same

  pub hangs_none : (k : ℕ) (f : FetchStep) (t : FetchThere m k f) → (out-FetchStep f).parent ≡ None → (out-FetchStep (new_fetch k f t)).parent ≡ None
  hangs_none k f t e =
      let loose = hooks k f t ∙ ap (hook_on m.r.to m.plan.steps) e in
      new_parent k f t ∙ ap (option_map (to m)) (hook_none m.r.to m.plan.steps (out-FetchStep t.fetch).parent loose)

  pub hangs_row : (k : ℕ) (f : FetchStep) (t : FetchThere m k f) (item s : ℕ) → (out-FetchStep f).parent ≡ Some item → slice_get m.plan.steps item ≡ Some (step.Item s) → (out-FetchStep (new_fetch k f t)).parent ≡ Some (to m item)
  hangs_row k f t item s e h =
      let row = hooks k f t ∙ ap (hook_on m.r.to m.plan.steps) e ∙ hook_of_row item s h in
      let z = hook_row m.r.to m.plan.steps (out-FetchStep t.fetch).parent (to m item) row in
      new_parent k f t ∙ ap (option_map (to m)) z.1 ∙ ap (λ n. Some n) z.3

  pub hangs_given : (k : ℕ) (f : FetchStep) (t : FetchThere m k f) (item : ℕ) → (out-FetchStep f).parent ≡ Some item → slice_get m.plan.steps item ≡ Some step.Given
      → (q : ℕ) × ((out-FetchStep (new_fetch k f t)).parent ≡ Some q) × (slice_get steps' q ≡ Some step.Given)
  hangs_given k f t item e h =
      let row = hooks k f t ∙ ap (hook_on m.r.to m.plan.steps) e ∙ hook_of_given item h in
      let z = hook_given m.r.to m.plan.steps (out-FetchStep t.fetch).parent row in
      (to m z.0, new_parent k f t ∙ ap (option_map (to m)) z.1, other_there m z.0 step.Given refl z.2)

  -- ---- what serves a place

  pub row_there : (b : Basis) (item : ℕ) → IsRow m.plan.steps b item → IsRow steps' (new_basis (to m) b) (to m item)
  row_there (OnRow s) item q = other_there m item (step.Item s) refl q
  row_there OnGiven item q = other_there m item step.Given refl q
  row_there _ item q = absurd q

  list_there : (b : Basis) (s : ℕ) → IsListOn b s → IsListOn (new_basis (to m) b) (to m s)
  list_there (OnList t) s q = ap (to m) q
  list_there (OnPage t) s q = ap (to m) q
  list_there _ s q = absurd q

  parent_there : (k : ℕ) (f : FetchStep) (t : FetchThere m k f) (b : Basis) (item : ℕ) → (out-FetchStep f).parent ≡ Some item → IsRow m.plan.steps b item
      → (new : ℕ) × ((out-FetchStep (new_fetch k f t)).parent ≡ Some new) × IsRow steps' (new_basis (to m) b) new
  parent_there k f t (OnRow s) item e q = (to m item, hangs_row k f t item s e q, other_there m item (step.Item s) refl q)
  parent_there k f t OnGiven item e q = hangs_given k f t item e q
  parent_there k f t _ item e q = absurd q

  key_there : (k : ℕ) (f : FetchStep) (t : FetchThere m k f) (b : Basis) (base : BaseParts) (vars : Vars) (key : KeyCells) → KeyServes m.plan.steps b base vars f key → KeyServes steps' (new_basis (to m) b) base vars (new_fetch k f t) key
  key_there k f t b base vars (Given cells) q =
      let r = new_as k f t in (
        hangs_none k f t q.0,
        ap (λ x. filled_key base vars x (out-FetchStep (new_fetch k f t)).by (out-FetchStep (new_fetch k f t)).key) r.table
            ∙ ap (λ x. filled_key base vars (out-FetchStep f).table x (out-FetchStep (new_fetch k f t)).key) r.by
            ∙ ap (filled_key base vars (out-FetchStep f).table (out-FetchStep f).by) r.key ∙ q.1,
      )
  key_there k f t b base vars (OfParent columns) q =
      let z = parent_there k f t b q.0 q.1 q.2 in
      let r = new_as k f t in
      (z.0, z.1, z.2, r.parent_columns ∙ q.3)

  fetch_serves : (k : ℕ) (f : FetchStep) → slice_get m.plan.steps k ≡ Some (step.Fetch f) → (t : FetchThere m k f) (b : Basis) (base : BaseParts) (tree : Tree) (vars : Vars) (i : ℕ) (due : Fetch)
      → FetchServes m.plan.steps b base tree vars i f due → FetchServes steps' (new_basis (to m) b) base tree vars i (new_fetch k f t) due
  fetch_serves k f h t b base tree vars i due q =
      let g = new_fetch k f t in
      let r = new_as k f t in
      record {
        table = r.table ∙ q.table;
        by = r.by ∙ q.by;
        key = key_there k f t b base vars due.key q.key;
        condition = ap (λ x. map (filled_equal base vars x) (out-FetchStep g).condition) r.table ∙ ap (map (filled_equal base vars (out-FetchStep f).table)) r.condition ∙ q.condition;
        order = r.order ∙ q.order;
        window =
            ap (λ x. filled_window base vars x (out-FetchStep g).order (out-FetchStep g).window) r.table
            ∙ ap (λ o. filled_window base vars (out-FetchStep f).table o (out-FetchStep g).window) r.order
            ∙ ap (filled_window base vars (out-FetchStep f).table (out-FetchStep f).order) r.window ∙ q.window;
        names = q.names;
        rows = λ z. new_rows k f t ∙ rows_there m k f h (q.rows z);
        one = λ z. new_rows k f t ∙ rows_there m k f h (q.one z);
      }

  pub below_there : (s : Shape) (k : ℕ) → new_basis (to m) (below_fetch s k) ≡ below_fetch s (to m k)
  below_there shape.List k = refl
  below_there shape.Row k = refl

  input_there : (vars : Vars) (k : ℕ) (o : Option Step) → slice_get m.plan.steps k ≡ o → (P : Value → Type 0) → IsSomeAnd (input_of vars o) P → IsSomeAnd (input_of vars (slice_get steps' (to m k))) P
  input_there vars k (Some (step.Const v)) h P q = subst (λ o. IsSomeAnd (input_of vars o) P) (sym (other_there m k (step.Const v) refl h)) q
  input_there vars k (Some (step.Var path)) h P q = subst (λ o. IsSomeAnd (input_of vars o) P) (sym (other_there m k (step.Var path) refl h)) q
  input_there vars k None h P q = absurd q
  input_there vars k (Some step.Given) h P q = absurd q
  input_there vars k (Some (step.Fetch f)) h P q = absurd q
  input_there vars k (Some (step.Item s)) h P q = absurd q
  input_there vars k (Some (step.Column i c)) h P q = absurd q
  input_there vars k (Some (step.Count s)) h P q = absurd q
  input_there vars k (Some (step.Page s part)) h P q = absurd q
  input_there vars k (Some (step.CursorOf i)) h P q = absurd q

  other_fits : (base : BaseParts) (tree : Tree) (p : Place) (b below : Basis) (k : ℕ) (d : Option Does) → OtherServes base tree m.plan.steps p b below k d → OtherServes base tree steps' p (new_basis (to m) b) (new_basis (to m) below) (to m k) d
  other_fits base tree p b below k None q = other_there m k _ refl q
  other_fits base tree p b below k (Some (does.Column t c)) q = (to m q.0, other_there m k (step.Column q.0 c) refl q.1, row_there b q.0 q.2)
  other_fits base tree p b below k (Some (does.Forward t c)) q = tt
  other_fits base tree p b below k (Some (does.Backward t c)) q = tt
  other_fits base tree p b below k (Some (does.All t)) q = tt
  other_fits base tree p b below k (Some (does.ByKey t c)) q = tt
  other_fits base tree p b below k (Some (does.Create t)) q = tt
  other_fits base tree p b below k (Some (does.Update t c)) q = tt
  other_fits base tree p b below k (Some (does.Delete t c)) q = tt
  other_fits base tree p b below k (Some does.Nodes) q = (ap (new_basis (to m)) q.0, ap (new_basis (to m)) q.1)
  other_fits base tree p b below k (Some does.Edges) q = (ap (new_basis (to m)) q.0, ap (new_basis (to m)) q.1)
  other_fits base tree p b below k (Some does.PageInfo) q = (ap (new_basis (to m)) q.0, ap (new_basis (to m)) q.1)
  other_fits base tree p b below k (Some does.Node) q = (to m q.0, ap (new_basis (to m)) q.1, ap (new_basis (to m)) q.2)
  other_fits base tree p b below k (Some does.Payload) q = (ap (new_basis (to m)) q.0, ap (new_basis (to m)) q.1)
  other_fits base tree p b below k (Some does.Total) q = (to m q.0, other_there m k (step.Count q.0) refl q.1, list_there b q.0 q.2)
  other_fits base tree p b below k (Some does.HasNext) q = (to m q.0, other_there m k (step.Page q.0 0) refl q.1, ap (new_basis (to m)) q.2)
  other_fits base tree p b below k (Some does.HasPrevious) q = (to m q.0, other_there m k (step.Page q.0 1) refl q.1, ap (new_basis (to m)) q.2)
  other_fits base tree p b below k (Some does.Start) q = (to m q.0, other_there m k (step.Page q.0 2) refl q.1, ap (new_basis (to m)) q.2)
  other_fits base tree p b below k (Some does.End) q = (to m q.0, other_there m k (step.Page q.0 3) refl q.1, ap (new_basis (to m)) q.2)
  other_fits base tree p b below k (Some does.Cursor) q = (to m q.0, to m q.1, other_there m k (step.CursorOf q.1) refl q.2, other_there m q.1 (step.Item q.0) refl q.3, ap (new_basis (to m)) q.4)
  other_fits base tree p b below k (Some does.ClientId) q = λ vars fit. input_there vars k (slice_get m.plan.steps k) refl (λ v. input_leaf v ≡ client_id vars (place_above tree.places p)) (q vars fit)

  pub by_there : (base : BaseParts) (tree : Tree) (constraints : List Constraint) (i : ℕ) (p : Place) (b below : Basis) (k : ℕ) (row : Bool) → ServesBy row base tree constraints m.plan.steps i p b below k
      → ServesBy row base tree constraints steps' i p (new_basis (to m) b) (new_basis (to m) below) (to m k)
  by_there base tree constraints i p b below k true q =
      let t = fetch_there m k q.fetch q.is_fetch in
      record {
        fetch = new_fetch k q.fetch t;
        is_fetch = t.is;
        serves = λ vars due fit hold is fine.
            let z = q.serves vars due fit hold is fine in
            (fetch_serves k q.fetch q.is_fetch t b base tree vars i due z.0, ap (new_basis (to m)) z.1 ∙ below_there due.shape k);
      }
  by_there base tree constraints i p b below k false q = other_fits base tree p b below k (does_of base.schema p) q

  pub above_there : (bases : ℕ → Basis) (parent : Option ℕ) → new_basis (to m) (basis_above bases parent) ≡ basis_above (λ i. new_basis (to m) (bases i)) parent
  above_there bases None = refl
  above_there bases (Some i) = refl

  -- each place is served as before
  abbrev pub serves_there : ServesAll m.base m.tree m.constraints m.plan → ServesAll m.base m.tree m.constraints (M m)
  serves_there all = record {
    bases = λ i. new_basis (to m) (all.bases i);
    payloads = λ i p h is. ap (new_basis (to m)) (all.payloads i p h is);
    each = λ i p h is.
        let s = all.each i p h is in
        record {
          at = to m s.at;
          is_out = out_there m i s.at s.is_out;
          fits = subst (λ b. ServesBy (is_row_field (does_of m.base.schema p)) m.base m.tree m.constraints steps' i p b (new_basis (to m) (all.bases i)) (to m s.at)) (above_there all.bases p.parent)
              (by_there m.base m.tree m.constraints i p (basis_above all.bases p.parent) (all.bases i) s.at (is_row_field (does_of m.base.schema p)) s.fits);
        };
  }
