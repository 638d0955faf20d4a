-- The steps that planning adds for a place serve it.
use Rattle.std.proofs.Common.{◌≡◌, ℕ, ◌+◌, List, [], ◌∷◌, Option, Some, None, Bool, true, false, not, refl, sym, ap, ◌∙◌, subst, arith, zero-add}
use Rattle.std.specs.Prelude.{slice_get, IfSome, IsSomeAnd, ⊤, option_map}
use Rattle.pg_base.specs.Base.{BaseParts}
use Rattle.pg_base.specs.declared.does.Does.{Does}
use Rattle.pg_base.specs.declared.does.Does.TheVariants as does
use Rattle.pg_base.specs.declared.schema.ArgDef.{ArgDef}
use Rattle.pg_base.specs.declared.schema.FieldDef.{FieldDef}
use Rattle.pg_base.specs.declared.table_def.KeyDef.{KeyDef}
use Rattle.pg_base.specs.declared.table_def.LinkDef.{LinkDef}
use Rattle.pg_base.specs.declared.vars.Vars.{Vars}
use Rattle.place_tree.specs.Arguments.{argument, null_error}
use Rattle.place_tree.specs.Exec.{needs_rows, place_above, client_id}
use Rattle.place_tree.specs.Fetch.{row_fetch, list_fetch, fetch_in, fetch_by, fetch_of, args_error, fetch_error, argument_error, backward_fetch, key_fetch, forward_fetch, referring_fetch, key_cells}
use Rattle.place_tree.specs.Fields.{key_at, link_at, finds_one, finds_many, finds_list, field_of, is_list, is_list_of, is_row_field}
use Rattle.place_tree.specs.Needs.{is_mutation}
use Rattle.place_tree.specs.Typed.{Kind, OfQuery, OfMutation, OfRow, OfList, OfEdge, OfPage, OfPayload, NoObject, backward_kind, Leads}
use Rattle.place_tree.specs.declared.fetch.Fetch.{Fetch}
use Rattle.place_tree.specs.declared.fetch.KeyCells.{KeyCells}
use Rattle.place_tree.specs.declared.fetch.KeyCells.TheVariants.{Given as GivenCells, OfParent}
use Rattle.place_tree.specs.declared.place.Place.{Place}
use Rattle.place_tree.specs.declared.place.Tree.{Tree}
use Rattle.plan_constraints.proofs.Steady.{noted_there}
use Rattle.plan_constraints.specs.Constraints.{Hold}
use Rattle.plan_constraints.specs.Noted.{noted_all}
use Rattle.plan_constraints.specs.declared.constraint.Constraint.{Constraint}
use Rattle.plan_steps.specs.Filled.{filled_key}
use Rattle.plan_steps.specs.Fitting.{IsOf, FitsArg, FitsPlace, FitTree}
use Rattle.plan_steps.specs.Serves.{Basis, OnNothing, OnRow, OnList, OnPage, OnEdge, OnPayload, OnGiven, IsRow, KeyServes, FetchServes, below_fetch, RowFieldServes, input_of, ShowsClientId, OtherServes, ServesBy}
use Rattle.plan_steps.specs.Under.{mutated}
use Rattle.plan_steps.specs.declared.plan.FetchStep.{FetchStep, out-FetchStep, out-roll-FetchStep}
use Rattle.plan_steps.specs.declared.plan.Slot.{Slot}
use Rattle.plan_steps.specs.declared.plan.Step.{Step}
use Rattle.plan_steps.specs.declared.plan.Step.TheVariants as step
use Rattle.schema_laws.proofs.Eaches.{Each-get}
use Rattle.step_plan.specs.Added.{row_of, fetch_of as fetch_below, list_step, row_step, id_of, add_link, add_key, add_backward, added_by}
use Rattle.step_plan.specs.Drafted.{steps_added, step_shown, footing_with}
use Rattle.step_plan.specs.Slots.{key_slots}
use Rattle.step_plan.specs.declared.making.Added.{Added}
use Rattle.step_plan.specs.declared.making.Added.TheVariants as adds
use Rattle.step_plan.specs.declared.making.Footing.{Footing}
use Rattle.step_plan.specs.declared.making.Footing.TheVariants as footing
use Rattle.step_plan.proofs.Cells.{key_is}
use Rattle.step_plan.proofs.Facts.{AreKeyArgs, AreListArgs, AreArgs}
use Rattle.step_plan.proofs.AskedFetches.{FitArgs, or_none, noted_parts, list_serves, row_serves}

-- ---- on what places stand

abbrev pub basis_of : Footing → Basis
basis_of footing.Nothing = OnNothing
basis_of (footing.List s) = OnList s
basis_of (footing.Page s) = OnPage s
basis_of (footing.Row s item) = OnRow s
basis_of (footing.Edge s item) = OnEdge s
basis_of (footing.Payload given) = OnPayload
basis_of (footing.Given given) = OnGiven

-- a fetch of a table
abbrev pub IsFetchOn : List Step → ℕ → ℕ → Type 0
IsFetchOn steps s t = (f : FetchStep) × (slice_get steps s ≡ Some (step.Fetch f)) × ((out-FetchStep f).table ≡ t)

abbrev IsItemOn : List Step → ℕ → ℕ → ℕ → Type 0
IsItemOn steps item s t = (slice_get steps item ≡ Some (step.Item s)) × IsFetchOn steps s t

-- on it stand the fields of a type of this kind; a row that is given is one of the mutation's table
abbrev pub FootingFits : Kind → List Step → Option ℕ → Footing → Type 0
FootingFits OfQuery steps table footing.Nothing = ⊤
FootingFits OfMutation steps table footing.Nothing = ⊤
FootingFits NoObject steps table footing.Nothing = ⊤
FootingFits (OfRow t) steps table (footing.Row s item) = IsItemOn steps item s t
FootingFits (OfRow t) steps table (footing.Given given) = (slice_get steps given ≡ Some step.Given) × (table ≡ Some t)
FootingFits (OfEdge t) steps table (footing.Edge s item) = IsItemOn steps item s t
FootingFits (OfList t) steps table (footing.List s) = IsFetchOn steps s t
FootingFits OfPage steps table (footing.Page s) = (t : ℕ) × IsFetchOn steps s t
FootingFits (OfPayload t) steps table (footing.Payload given) = (slice_get steps given ≡ Some step.Given) × (table ≡ Some t)
FootingFits _ steps table _ = ⊥

pub row_is : (steps : List Step) (t : ℕ) (table : Option ℕ) (g : Footing) → FootingFits (OfRow t) steps table g → IsRow steps (basis_of g) (row_of g)
row_is steps t table footing.Nothing h = absurd h
row_is steps t table (footing.List s) h = absurd h
row_is steps t table (footing.Page s) h = absurd h
row_is steps t table (footing.Row s item) h = h.0
row_is steps t table (footing.Edge s item) h = absurd h
row_is steps t table (footing.Payload given) h = absurd h
row_is steps t table (footing.Given given) h = h.0

pub list_is : (steps : List Step) (t : ℕ) (table : Option ℕ) (g : Footing) → FootingFits (OfList t) steps table g → (g ≡ footing.List (fetch_below g)) × IsFetchOn steps (fetch_below g) t
list_is steps t table footing.Nothing h = absurd h
list_is steps t table (footing.List s) h = (refl, h)
list_is steps t table (footing.Page s) h = absurd h
list_is steps t table (footing.Row s item) h = absurd h
list_is steps t table (footing.Edge s item) h = absurd h
list_is steps t table (footing.Payload given) h = absurd h
list_is steps t table (footing.Given given) h = absurd h

pub page_is : (steps : List Step) (table : Option ℕ) (g : Footing) → FootingFits OfPage steps table g → (g ≡ footing.Page (fetch_below g)) × ((t : ℕ) × IsFetchOn steps (fetch_below g) t)
page_is steps table footing.Nothing h = absurd h
page_is steps table (footing.List s) h = absurd h
page_is steps table (footing.Page s) h = (refl, h)
page_is steps table (footing.Row s item) h = absurd h
page_is steps table (footing.Edge s item) h = absurd h
page_is steps table (footing.Payload given) h = absurd h
page_is steps table (footing.Given given) h = absurd h

pub edge_is : (steps : List Step) (t : ℕ) (table : Option ℕ) (g : Footing) → FootingFits (OfEdge t) steps table g → (g ≡ footing.Edge (fetch_below g) (row_of g)) × IsItemOn steps (row_of g) (fetch_below g) t
edge_is steps t table footing.Nothing h = absurd h
edge_is steps t table (footing.List s) h = absurd h
edge_is steps t table (footing.Page s) h = absurd h
edge_is steps t table (footing.Row s item) h = absurd h
edge_is steps t table (footing.Edge s item) h = (refl, h)
edge_is steps t table (footing.Payload given) h = absurd h
edge_is steps t table (footing.Given given) h = absurd h

pub payload_is : (steps : List Step) (t : ℕ) (table : Option ℕ) (g : Footing) → FootingFits (OfPayload t) steps table g → (g ≡ footing.Payload (row_of g)) × (slice_get steps (row_of g) ≡ Some step.Given) × (table ≡ Some t)
payload_is steps t table footing.Nothing h = absurd h
payload_is steps t table (footing.List s) h = absurd h
payload_is steps t table (footing.Page s) h = absurd h
payload_is steps t table (footing.Row s item) h = absurd h
payload_is steps t table (footing.Edge s item) h = absurd h
payload_is steps t table (footing.Payload given) h = (refl, h.0, h.1)
payload_is steps t table (footing.Given given) h = absurd h

pub mutation_is : (steps : List Step) (table : Option ℕ) (g : Footing) → FootingFits OfMutation steps table g → g ≡ footing.Nothing
mutation_is steps table footing.Nothing h = refl
mutation_is steps table (footing.List s) h = absurd h
mutation_is steps table (footing.Page s) h = absurd h
mutation_is steps table (footing.Row s item) h = absurd h
mutation_is steps table (footing.Edge s item) h = absurd h
mutation_is steps table (footing.Payload given) h = absurd h
mutation_is steps table (footing.Given given) h = absurd h

-- the table of the mutation under which places below a field stand
abbrev pub or_above : Option ℕ → Option ℕ → Option ℕ
or_above None above = above
or_above (Some t) above = Some t

abbrev pub table_below : Does → Option ℕ → Option ℕ
table_below d above = or_above (mutated (Some d)) above

pub some_and : {A : Type 0} (P : A → Type 0) (o : Option A) → IsSomeAnd o P → (x : A) × (o ≡ Some x) × P x
some_and P None h = absurd h
some_and P (Some x) h = (x, refl, h)

pub inside : {A : Type 0} (x y : A) → Some x ≡ Some y → x ≡ y
inside x y e = cc

-- ---- one place

module _ (base : BaseParts) (tree : Tree) (vars : Vars) (fit : FitTree base vars tree) (constraints : List Constraint) (noted : (other : Vars) → Hold constraints other → Hold (noted_all base vars tree) other)
    (steps : List Step) (at i : ℕ) (p : Place) (is_place : slice_get tree.places i ≡ Some p) where
  -- the added steps stand in the plan from a number on
  abbrev pub ArePlaced : Added → Type 0
  ArePlaced a = (j : ℕ) (s : Step) → slice_get (steps_added at a) j ≡ Some s → slice_get steps (at + j) ≡ Some s

  first_placed : (a : Added) → ArePlaced a → (s : Step) (rest : List Step) → steps_added at a ≡ s ∷ rest → slice_get steps at ≡ Some s
  first_placed a h s rest e =
      let z : at + 0 ≡ at = omega arith in
      subst (λ k. slice_get steps k ≡ Some s) z (h 0 s (ap (λ l. slice_get l 0) e))

  leaf_placed : (s : Step) → ArePlaced (adds.Leaf s) → slice_get steps at ≡ Some s
  leaf_placed s h = first_placed (adds.Leaf s) h s [] refl

  list_placed : (g : FetchStep) → ArePlaced (adds.List g) → slice_get steps at ≡ Some (step.Fetch g)
  list_placed g h = first_placed (adds.List g) h (step.Fetch g) [] refl

  row_placed : (g : FetchStep) → ArePlaced (adds.Row g) → slice_get steps at ≡ Some (step.Fetch g)
  row_placed g h = first_placed (adds.Row g) h (step.Fetch g) (step.Item at ∷ []) refl

  item_placed : (edge : Bool) (s : ℕ) → ArePlaced (adds.Item edge s) → slice_get steps at ≡ Some (step.Item s)
  item_placed edge s h = first_placed (adds.Item edge s) h (step.Item s) [] refl

  abbrev pub ServesAs : Bool → Basis → Basis → ℕ → Option Does → Type 0
  ServesAs true b below k d = RowFieldServes base tree constraints steps i p b below k
  ServesAs false b below k d = OtherServes base tree steps p b below k d

  -- the field, by what it does, is served, and leads on to the next kind
  pub record IsLocal (table : Option ℕ) (g : Footing) (next : Kind) (d : Does) (a : Added) : Type 0 where
    pub serves : is_mutation (Some d) ≡ false → ServesAs (is_row_field (Some d)) (basis_of g) (basis_of (footing_with at a)) (step_shown at a) (Some d)
    pub fits : FootingFits next steps (table_below d table) (footing_with at a)

  module _ (f : FieldDef) (is_field : field_of base.schema p ≡ Some f) where
    fit_place : (other : Vars) → FitTree base other tree → FitArgs base other p f
    fit_place other h = subst (λ (o : Option FieldDef). IfSome o (λ g. (arg : ℕ) → IfSome (slice_get g.args arg) (FitsArg base.schema other p arg))) is_field (Each-get (FitsPlace base other) tree.places i p h is_place)

    fit_arg : (other : Vars) → FitTree base other tree → (arg : ℕ) (a : ArgDef) → slice_get f.args arg ≡ Some a → IfSome (argument other p arg) (IsOf base.schema a.ty)
    fit_arg other h arg a e = (subst (λ o. IfSome o (FitsArg base.schema other p arg)) e (fit_place other h arg)).0

    clean : (other : Vars) → argument_error base other p ≡ None → null_error base.schema other p 0 f.args ≡ None
    unfolding argument_error
    clean other h = sym (ap (args_error base other p) is_field) ∙ (or_none (args_error base other p (field_of base.schema p)) (fetch_error base other p (fetch_of base other p)) h).0

    due_is : (other : Vars) (due : Fetch) → fetch_of base other p ≡ Some due → fetch_by base f other p f.does ≡ Some due
    unfolding fetch_of
    due_is other due h = sym (ap (fetch_in base other p) is_field) ∙ h

    -- a fetch that is due for all variables
    row_field : (b below : Basis) (k : ℕ) (fetch : FetchStep) (d : Does) → f.does ≡ d → (due : Vars → Fetch) → ((other : Vars) → fetch_by base f other p d ≡ Some (due other)) → slice_get steps k ≡ Some (step.Fetch fetch) →
        ((other : Vars) → FitTree base other tree → Hold constraints other → null_error base.schema other p 0 f.args ≡ None → FetchServes steps b base tree other i fetch (due other)) →
        ((other : Vars) → below ≡ below_fetch (due other).shape k) → RowFieldServes base tree constraints steps i p b below k
    row_field b below k fetch d is due by placed serves shape = record {
      fetch = fetch;
      is_fetch = placed;
      serves = λ other found fit_other hold e clear.
          let same = inside (due other) found (sym (by other) ∙ sym (ap (fetch_by base f other p) is) ∙ due_is other found e) in
          subst (λ x. FetchServes steps b base tree other i fetch x × (below ≡ below_fetch x.shape k)) same (serves other fit_other hold (clean other clear), shape other);
    }

    abbrev shown : Bool
    shown = needs_rows base.schema tree.places i

    list_field : (table : ℕ) → AreListArgs base table f.args → is_list base p ≡ true → (by : List ℕ) (parent : Option ℕ) (columns : List ℕ) (key : KeyCells) (b : Basis) (d : Does) → f.does ≡ d
        → ((other : Vars) → fetch_by base f other p d ≡ Some (list_fetch base f other p table by key))
        → slice_get steps at ≡ Some (step.Fetch (list_step base vars p shown f table by parent columns)) → ((other : Vars) → KeyServes steps b base other (list_step base vars p shown f table by parent columns) key)
        → RowFieldServes base tree constraints steps i p b (OnList at) at
    list_field table law listed by parent columns key b d is due placed keys =
        row_field b (OnList at) at (list_step base vars p shown f table by parent columns) d is (λ other. list_fetch base f other p table by key) due placed
        (λ other fit_other hold clear. list_serves base vars other tree i p f table by parent columns law
        (noted_parts vars other p (noted_there base vars other tree (noted other hold) i p is_place listed)) (fit_place vars fit) (fit_place other fit_other) clear steps b key (keys other))
        (λ other. refl)

    one_field : (table : ℕ) (by : List ℕ) (parent : Option ℕ) (columns : List ℕ) (slots : List Slot) (key : Vars → KeyCells) (b : Basis) (d : Does) → f.does ≡ d → ((other : Vars) → fetch_by base f other p d ≡ Some (row_fetch table by (key other))) →
        slice_get steps at ≡ Some (step.Fetch (row_step table by parent columns slots)) → ((other : Vars) → FitTree base other tree → KeyServes steps b base other (row_step table by parent columns slots) (key other)) →
        RowFieldServes base tree constraints steps i p b (OnRow at) at
    one_field table by parent columns slots key b d is due placed keys =
        row_field b (OnRow at) at (row_step table by parent columns slots) d is (λ other. row_fetch table by (key other)) due placed
        (λ other fit_other hold clear. row_serves base vars other tree i p f table by parent columns slots steps b (key other) (keys other fit_other))
        (λ other. refl)

    -- ---- keys

    no_key : (b : Basis) (table : ℕ) (other : Vars) → KeyServes steps b base other (list_step base vars p shown f table [] None []) (GivenCells [])
    no_key b table other = let e = out-roll-FetchStep _ in (ap (λ o. o.parent) e, ap (λ o. filled_key base other o.table o.by o.key) e)

    given_key : (b : Basis) (table : ℕ) (by : List ℕ) → AreKeyArgs base table by f.args → (other : Vars) → FitTree base other tree →
        KeyServes steps b base other (row_step table by None [] (key_slots base.schema p 0 f.args)) (GivenCells (key_cells base.schema other p 0 f.args))
    given_key b table by law other fit_other =
        let e = out-roll-FetchStep _ in
        (ap (λ o. o.parent) e, ap (λ o. filled_key base other o.table o.by o.key) e ∙ key_is base other p table by 0 f.args law (λ j a is. subst (λ n. IfSome (argument other p n) (IsOf base.schema a.ty)) (sym (zero-add j)) (fit_arg other fit_other j a is)))

    row_key : (b : Basis) (row table : ℕ) (by columns : List ℕ) → IsRow steps b row → (other : Vars) → KeyServes steps b base other (row_step table by (Some row) columns []) (OfParent columns)
    row_key b row table by columns h other = let e = out-roll-FetchStep _ in (row, ap (λ o. o.parent) e, h, ap (λ o. o.parent_columns) e)

    list_key : (b : Basis) (row table : ℕ) (by columns : List ℕ) → IsRow steps b row → (other : Vars) → KeyServes steps b base other (list_step base vars p shown f table by (Some row) columns) (OfParent columns)
    list_key b row table by columns h other = let e = out-roll-FetchStep _ in (row, ap (λ o. o.parent) e, h, ap (λ o. o.parent_columns) e)

    -- ---- row fields

    fetched_row : (g : FetchStep) (t : ℕ) → ArePlaced (adds.Row g) → (out-FetchStep g).table ≡ t → IsItemOn steps (at + 1) at t
    fetched_row g t pl e = (pl 1 (step.Item at) refl, (g, row_placed g pl, e))

    listed_by : (d : Does) → f.does ≡ d → is_list base p ≡ finds_list base.catalog d
    listed_by d is = ap (λ (o : Option FieldDef). is_list_of base.catalog (option_map (λ g. g.does) o)) is_field ∙ ap (finds_list base.catalog) is

    all_local : (table : Option ℕ) (t : ℕ) → f.does ≡ does.All t → AreListArgs base t f.args → (g : Footing) → ArePlaced (adds.List (list_step base vars p shown f t [] None []))
        → IsLocal table g (OfList t) (does.All t) (adds.List (list_step base vars p shown f t [] None []))
    all_local table t is law g pl =
        let fetch : FetchStep = list_step base vars p shown f t [] None [] in
        let placed = list_placed fetch pl in
        record {
          serves = λ m. list_field t law (listed_by (does.All t) is) [] None [] (GivenCells []) (basis_of g) (does.All t) is (λ other. refl) placed (no_key (basis_of g) t);
          fits = (fetch, placed, ap (λ o. o.table) (out-roll-FetchStep _));
        }

    key_local : (table : Option ℕ) (t k : ℕ) (key : KeyDef) → key_at base.catalog t k ≡ Some key → f.does ≡ does.ByKey t k → AreKeyArgs base t key.columns f.args → (g : Footing) →
        ArePlaced (adds.Row (row_step t key.columns None [] (key_slots base.schema p 0 f.args))) → IsLocal table g (OfRow t) (does.ByKey t k) (adds.Row (row_step t key.columns None [] (key_slots base.schema p 0 f.args)))
    key_local table t k key e is law g pl =
        let fetch : FetchStep = row_step t key.columns None [] (key_slots base.schema p 0 f.args) in
        record {
          serves = λ m. one_field t key.columns None [] (key_slots base.schema p 0 f.args) (λ other. GivenCells (key_cells base.schema other p 0 f.args)) (basis_of g) (does.ByKey t k) is
              (λ other. ap (key_fetch base f other p t) e) (row_placed fetch pl) (given_key (basis_of g) t key.columns law);
          fits = fetched_row fetch t pl (ap (λ o. o.table) (out-roll-FetchStep _));
        }

    forward_local : (table : Option ℕ) (t l : ℕ) (link : LinkDef) → link_at base.catalog t l ≡ Some link → f.does ≡ does.Forward t l → (g : Footing) → FootingFits (OfRow t) steps table g
        → ArePlaced (adds.Row (row_step link.target link.target_columns (Some (row_of g)) link.columns [])) → IsLocal table g (OfRow link.target) (does.Forward t l) (adds.Row (row_step link.target link.target_columns (Some (row_of g)) link.columns []))
    forward_local table t l link e is g h pl =
        let fetch : FetchStep = row_step link.target link.target_columns (Some (row_of g)) link.columns [] in
        record {
          serves = λ m. one_field link.target link.target_columns (Some (row_of g)) link.columns [] (λ other. OfParent link.columns) (basis_of g) (does.Forward t l) is
              (λ other. ap forward_fetch e) (row_placed fetch pl) (λ other fit_other. row_key (basis_of g) (row_of g) link.target link.target_columns link.columns (row_is steps t table g h) other);
          fits = fetched_row fetch link.target pl (ap (λ o. o.table) (out-roll-FetchStep _));
        }

    backward_due : (t l : ℕ) (link : LinkDef) (one : Bool) → link_at base.catalog t l ≡ Some link → finds_one (slice_get base.catalog.tables t) link ≡ one → (other : Vars) → fetch_by base f other p (does.Backward t l) ≡ Some (backward_fetch base f other p t link one)
    backward_due t l link one e o other = ap (referring_fetch base f other p t) e ∙ ap (λ x. Some (backward_fetch base f other p t link x)) o

    backward_local : (table : Option ℕ) (t l : ℕ) (link : LinkDef) → link_at base.catalog t l ≡ Some link → (one : Bool) → finds_one (slice_get base.catalog.tables t) link ≡ one → f.does ≡ does.Backward t l → (one ≡ false → AreListArgs base t f.args)
        → (g : Footing) → FootingFits (OfRow link.target) steps table g → ArePlaced (add_backward base vars p shown f t (row_of g) link one) → IsLocal table g (backward_kind one t) (does.Backward t l) (add_backward base vars p shown f t (row_of g) link one)
    backward_local table t l link e true o is law g h pl =
        let fetch : FetchStep = row_step t link.columns (Some (row_of g)) link.target_columns [] in
        record {
          serves = λ m. one_field t link.columns (Some (row_of g)) link.target_columns [] (λ other. OfParent link.target_columns) (basis_of g) (does.Backward t l) is
              (backward_due t l link true e o) (row_placed fetch pl) (λ other fit_other. row_key (basis_of g) (row_of g) t link.columns link.target_columns (row_is steps link.target table g h) other);
          fits = fetched_row fetch t pl (ap (λ o. o.table) (out-roll-FetchStep _));
        }
    backward_local table t l link e false o is law g h pl =
        let fetch : FetchStep = list_step base vars p shown f t link.columns (Some (row_of g)) link.target_columns in
        let placed = list_placed fetch pl in
        record {
          serves = λ m. list_field t (law refl) (listed_by (does.Backward t l) is ∙ ap (finds_many (slice_get base.catalog.tables t)) e ∙ ap not o) link.columns (Some (row_of g)) link.target_columns (OfParent link.target_columns) (basis_of g) (does.Backward t l) is
              (backward_due t l link false e o) placed (list_key (basis_of g) (row_of g) t link.columns link.target_columns (row_is steps link.target table g h));
          fits = (fetch, placed, ap (λ o. o.table) (out-roll-FetchStep _));
        }

    -- ---- other fields

    column_local : (table : Option ℕ) (t c : ℕ) (g : Footing) → FootingFits (OfRow t) steps table g → ArePlaced (adds.Leaf (step.Column (row_of g) c)) → IsLocal table g NoObject (does.Column t c) (adds.Leaf (step.Column (row_of g) c))
    column_local table t c g h pl = record { serves = λ m. (row_of g, leaf_placed (step.Column (row_of g) c) pl, row_is steps t table g h); fits = tt }

    nodes_local : (table : Option ℕ) (t : ℕ) (g : Footing) → FootingFits (OfList t) steps table g → ArePlaced (adds.Item false (fetch_below g)) → IsLocal table g (OfRow t) does.Nodes (adds.Item false (fetch_below g))
    nodes_local table t g h pl =
        let l = list_is steps t table g h in
        record { serves = λ m. (ap basis_of l.0, refl); fits = (item_placed false (fetch_below g) pl, l.1) }

    edges_local : (table : Option ℕ) (t : ℕ) (g : Footing) → FootingFits (OfList t) steps table g → ArePlaced (adds.Item true (fetch_below g)) → IsLocal table g (OfEdge t) does.Edges (adds.Item true (fetch_below g))
    edges_local table t g h pl =
        let l = list_is steps t table g h in
        record { serves = λ m. (ap basis_of l.0, refl); fits = (item_placed true (fetch_below g) pl, l.1) }

    page_local : (table : Option ℕ) (t : ℕ) (g : Footing) → FootingFits (OfList t) steps table g → IsLocal table g OfPage does.PageInfo (adds.Shows (fetch_below g) (footing.Page (fetch_below g)))
    page_local table t g h = let l = list_is steps t table g h in record { serves = λ m. (ap basis_of l.0, refl); fits = (t, l.1) }

    node_local : (table : Option ℕ) (t : ℕ) (g : Footing) → FootingFits (OfEdge t) steps table g → IsLocal table g (OfRow t) does.Node (adds.Shows (row_of g) (footing.Row (fetch_below g) (row_of g)))
    node_local table t g h = let l = edge_is steps t table g h in record { serves = λ m. (fetch_below g, ap basis_of l.0, refl); fits = l.1 }

    total_local : (table : Option ℕ) (t : ℕ) (g : Footing) → FootingFits (OfList t) steps table g → ArePlaced (adds.Leaf (step.Count (fetch_below g))) → IsLocal table g NoObject does.Total (adds.Leaf (step.Count (fetch_below g)))
    total_local table t g h pl =
        let l = list_is steps t table g h in
        record { serves = λ m. (fetch_below g, leaf_placed (step.Count (fetch_below g)) pl, subst (λ b. Rattle.plan_steps.specs.Serves.IsListOn b (fetch_below g)) (sym (ap basis_of l.0)) refl); fits = tt }

    has_next_local : (table : Option ℕ) (g : Footing) → FootingFits OfPage steps table g → ArePlaced (adds.Leaf (step.Page (fetch_below g) 0)) → IsLocal table g NoObject does.HasNext (adds.Leaf (step.Page (fetch_below g) 0))
    has_next_local table g h pl = let l = page_is steps table g h in record { serves = λ m. (fetch_below g, leaf_placed (step.Page (fetch_below g) 0) pl, ap basis_of l.0); fits = tt }

    has_previous_local : (table : Option ℕ) (g : Footing) → FootingFits OfPage steps table g → ArePlaced (adds.Leaf (step.Page (fetch_below g) 1)) → IsLocal table g NoObject does.HasPrevious (adds.Leaf (step.Page (fetch_below g) 1))
    has_previous_local table g h pl = let l = page_is steps table g h in record { serves = λ m. (fetch_below g, leaf_placed (step.Page (fetch_below g) 1) pl, ap basis_of l.0); fits = tt }

    start_local : (table : Option ℕ) (g : Footing) → FootingFits OfPage steps table g → ArePlaced (adds.Leaf (step.Page (fetch_below g) 2)) → IsLocal table g NoObject does.Start (adds.Leaf (step.Page (fetch_below g) 2))
    start_local table g h pl = let l = page_is steps table g h in record { serves = λ m. (fetch_below g, leaf_placed (step.Page (fetch_below g) 2) pl, ap basis_of l.0); fits = tt }

    end_local : (table : Option ℕ) (g : Footing) → FootingFits OfPage steps table g → ArePlaced (adds.Leaf (step.Page (fetch_below g) 3)) → IsLocal table g NoObject does.End (adds.Leaf (step.Page (fetch_below g) 3))
    end_local table g h pl = let l = page_is steps table g h in record { serves = λ m. (fetch_below g, leaf_placed (step.Page (fetch_below g) 3) pl, ap basis_of l.0); fits = tt }

    cursor_local : (table : Option ℕ) (t : ℕ) (g : Footing) → FootingFits (OfEdge t) steps table g → ArePlaced (adds.Leaf (step.CursorOf (row_of g))) → IsLocal table g NoObject does.Cursor (adds.Leaf (step.CursorOf (row_of g)))
    cursor_local table t g h pl =
        let l = edge_is steps t table g h in
        record { serves = λ m. (fetch_below g, row_of g, leaf_placed (step.CursorOf (row_of g)) pl, l.1.0, ap basis_of l.0); fits = tt }

    mutation_local : (table : Option ℕ) (t : ℕ) (d : Does) → mutated (Some d) ≡ Some t → is_mutation (Some d) ≡ true → (g : Footing) → ArePlaced adds.Given → IsLocal table g (OfPayload t) d adds.Given
    mutation_local table t d e is g pl = record {
      serves = λ m. absurd (let q : true ≡ false = sym is ∙ m in cc);
      fits = (first_placed adds.Given pl step.Given [] refl, ap (λ o. or_above o table) e);
    }

    given_local : (table : Option ℕ) (t : ℕ) (g : Footing) → FootingFits (OfPayload t) steps table g → IsLocal table g (OfRow t) does.Payload (adds.Shows (row_of g) (footing.Given (row_of g)))
    given_local table t g h = let l = payload_is steps t table g h in record { serves = λ m. (ap basis_of l.0, refl); fits = (l.1, l.2) }

    -- the place above is a mutation's, whose input is of its type
    abbrev AreAbove : Option Place → Type 0
    AreAbove above = (other : Vars) → FitTree base other tree → IsSomeAnd (input_of other (Some (id_of above))) (λ w. Rattle.plan_steps.specs.Denoted.input_leaf w ≡ client_id other above)

    id_local : (table : Option ℕ) (g : Footing) → AreAbove (place_above tree.places p) → ArePlaced (adds.Leaf (id_of (place_above tree.places p))) → IsLocal table g NoObject does.ClientId (adds.Leaf (id_of (place_above tree.places p)))
    id_local table g above pl = record {
      serves = λ m other fit_other. subst (λ o. IsSomeAnd (input_of other o) (λ w. Rattle.plan_steps.specs.Denoted.input_leaf w ≡ client_id other (place_above tree.places p))) (sym (leaf_placed (id_of (place_above tree.places p)) pl)) (above other fit_other);
      fits = tt;
    }

    on_kind : (kind other : Kind) (table : Option ℕ) (g : Footing) → kind ≡ other → FootingFits kind steps table g → FootingFits other steps table g
    on_kind kind other table g e h = subst (λ k. FootingFits k steps table g) e h

    -- the kind that follows, and what is added, as they are called
    as_local : (table : Option ℕ) (g : Footing) (next other : Kind) (d : Does) (a made : Added) → next ≡ other → made ≡ a → (ArePlaced a → IsLocal table g other d a) → ArePlaced made → IsLocal table g next d made
    as_local table g next other d a made n e h pl =
        let k = h (subst (λ x. ArePlaced x) e pl) in
        subst (λ x. IsLocal table g next d x) (sym e) (subst (λ x. IsLocal table g x d a) (sym n) k)

    pub local : (kind next : Kind) (table : Option ℕ) (g : Footing) (d : Does) → f.does ≡ d → AreArgs base f.args d → (d ≡ does.ClientId → AreAbove (place_above tree.places p)) → Leads base.catalog d kind next → FootingFits kind steps table g
        → ArePlaced (added_by base vars tree.places p shown g f d) → IsLocal table g next d (added_by base vars tree.places p shown g f d)
    local kind next table g (does.Column t c) is law above l h pl = as_local table g next NoObject (does.Column t c) _ _ l.2 refl (column_local table t c g (on_kind kind (OfRow t) table g l.0 h)) pl
    local kind next table g (does.Forward t l) is law above leads h pl =
        let link = some_and (λ x. next ≡ OfRow x.target) (link_at base.catalog t l) leads.1 in
        as_local table g next (OfRow link.0.target) (does.Forward t l) _ _ link.2 (ap (λ o. add_link o (λ x. adds.Row (row_step x.target x.target_columns (Some (row_of g)) x.columns []))) link.1)
        (forward_local table t l link.0 link.1 is g (on_kind kind (OfRow t) table g leads.0 h)) pl
    local kind next table g (does.Backward t l) is law above leads h pl =
        let link = some_and (λ x. (kind ≡ OfRow x.target) × (next ≡ backward_kind (finds_one (slice_get base.catalog.tables t) x) t)) (link_at base.catalog t l) leads in
        let one = finds_one (slice_get base.catalog.tables t) link.0 in
        as_local table g next (backward_kind one t) (does.Backward t l) _ _ link.2.1 (ap (λ o. add_link o (λ x. add_backward base vars p shown f t (row_of g) x (finds_one (slice_get base.catalog.tables t) x))) link.1)
        (backward_local table t l link.0 link.1 one refl is (subst (λ o. IfSome o (λ x. finds_one (slice_get base.catalog.tables t) x ≡ false → AreListArgs base t f.args)) link.1 law) g (on_kind kind (OfRow link.0.target) table g link.2.0 h)) pl
    local kind next table g (does.All t) is law above leads h pl = as_local table g next (OfList t) (does.All t) _ _ leads.2 refl (all_local table t is law g) pl
    local kind next table g (does.ByKey t k) is law above leads h pl =
        let key = some_and (λ x. next ≡ OfRow t) (key_at base.catalog t k) leads.1 in
        as_local table g next (OfRow t) (does.ByKey t k) _ _ key.2 (ap (λ o. add_key o (λ x. adds.Row (row_step t x.columns None [] (key_slots base.schema p 0 f.args)))) key.1)
        (key_local table t k key.0 key.1 is (subst (λ o. IfSome o (λ x. AreKeyArgs base t x.columns f.args)) key.1 law) g) pl
    local kind next table g (does.Create t) is law above l h pl = as_local table g next (OfPayload t) (does.Create t) _ _ l.1 refl (mutation_local table t (does.Create t) refl refl g) pl
    local kind next table g (does.Update t k) is law above l h pl = as_local table g next (OfPayload t) (does.Update t k) _ _ l.1 refl (mutation_local table t (does.Update t k) refl refl g) pl
    local kind next table g (does.Delete t k) is law above l h pl = as_local table g next (OfPayload t) (does.Delete t k) _ _ l.1 refl (mutation_local table t (does.Delete t k) refl refl g) pl
    local kind next table g does.Nodes is law above l h pl = as_local table g next (OfRow l.0) does.Nodes _ _ l.2 refl (nodes_local table l.0 g (on_kind kind (OfList l.0) table g l.1 h)) pl
    local kind next table g does.Edges is law above l h pl = as_local table g next (OfEdge l.0) does.Edges _ _ l.2 refl (edges_local table l.0 g (on_kind kind (OfList l.0) table g l.1 h)) pl
    local kind next table g does.PageInfo is law above l h pl = as_local table g next OfPage does.PageInfo _ _ l.2 refl (λ q. page_local table l.0 g (on_kind kind (OfList l.0) table g l.1 h)) pl
    local kind next table g does.Node is law above l h pl = as_local table g next (OfRow l.0) does.Node _ _ l.2 refl (λ q. node_local table l.0 g (on_kind kind (OfEdge l.0) table g l.1 h)) pl
    local kind next table g does.Total is law above l h pl = as_local table g next NoObject does.Total _ _ l.2 refl (total_local table l.0 g (on_kind kind (OfList l.0) table g l.1 h)) pl
    local kind next table g does.Cursor is law above l h pl = as_local table g next NoObject does.Cursor _ _ l.2 refl (cursor_local table l.0 g (on_kind kind (OfEdge l.0) table g l.1 h)) pl
    local kind next table g does.HasNext is law above l h pl = as_local table g next NoObject does.HasNext _ _ l.1 refl (has_next_local table g (on_kind kind OfPage table g l.0 h)) pl
    local kind next table g does.HasPrevious is law above l h pl = as_local table g next NoObject does.HasPrevious _ _ l.1 refl (has_previous_local table g (on_kind kind OfPage table g l.0 h)) pl
    local kind next table g does.Start is law above l h pl = as_local table g next NoObject does.Start _ _ l.1 refl (start_local table g (on_kind kind OfPage table g l.0 h)) pl
    local kind next table g does.End is law above l h pl = as_local table g next NoObject does.End _ _ l.1 refl (end_local table g (on_kind kind OfPage table g l.0 h)) pl
    local kind next table g does.ClientId is law above l h pl = as_local table g next NoObject does.ClientId _ _ l.2 refl (id_local table g (above refl)) pl
    local kind next table g does.Payload is law above l h pl = as_local table g next (OfRow l.0) does.Payload _ _ l.2 refl (λ q. given_local table l.0 g (on_kind kind (OfPayload l.0) table g l.1 h)) pl
