-- What holds of a step and of those that it uses, place by place.
use Rattle.std.proofs.Common.{◌≡◌, ℕ, zero, suc, ◌+◌, List, [], Option, Some, None, Bool, true, false, refl, sym, ap, subst, arith}
use Rattle.std.specs.Prelude.{slice_get, IfSome, ⊤}
use Rattle.gql_input.specs.declared.argument.ArgValue.{ArgValue, Variable, Null, Int, Bool as BoolOf, Text, Case, List', Object'}
use Rattle.pg_base.specs.Base.{BaseParts}
use Rattle.pg_base.specs.Lists.{Each}
use Rattle.pg_base.specs.declared.does.Does.{Does}
use Rattle.pg_base.specs.declared.does.Does.TheVariants as does
use Rattle.pg_base.specs.declared.schema.FieldDef.{FieldDef}
use Rattle.pg_base.specs.declared.table_def.LinkDef.{LinkDef}
use Rattle.pg_base.specs.declared.vars.Vars.{Vars}
use Rattle.place_tree.specs.Arguments.{written}
use Rattle.place_tree.specs.Exec.{place_above}
use Rattle.place_tree.specs.Fields.{key_at, link_at, finds_one}
use Rattle.place_tree.specs.Typed.{Kind, OfRow, OfList, OfEdge, OfPage, OfPayload, backward_kind, Leads}
use Rattle.place_tree.specs.declared.place.Place.{Place}
use Rattle.plan_steps.specs.Chains.{chain, or_nothing}
use Rattle.plan_steps.specs.Named.{named_by, named_in, named_at}
use Rattle.plan_steps.specs.declared.plan.FetchStep.{FetchStep, out-FetchStep, out-roll-FetchStep}
use Rattle.plan_steps.specs.declared.plan.Step.{Step}
use Rattle.plan_steps.specs.declared.plan.Step.TheVariants as step
use Rattle.step_plan.specs.Added.{row_of, fetch_of as fetch_below, list_step, row_step, id_name, written_in, id_of, id_in, id_written, add_link, add_key, add_backward, added_by}
use Rattle.step_plan.specs.Drafted.{steps_added, step_shown, footing_with, edge_or_row}
use Rattle.step_plan.specs.Slots.{key_slots}
use Rattle.step_plan.specs.declared.making.Added.{Added}
use Rattle.step_plan.specs.declared.making.Added.TheVariants as adds
use Rattle.step_plan.specs.declared.making.Footing.{Footing}
use Rattle.step_plan.specs.declared.making.Footing.TheVariants as footing
use Rattle.step_plan.proofs.Places.{FootingFits, some_and}

module _ (steps : List Step) (P : ℕ → Type 0) where
  -- it holds of a step, of the one that it names, and so on
  abbrev pub HoldsUsed : ℕ → Type 0
  HoldsUsed k = (n : ℕ) → Each P (chain (named_at steps) n k)

  -- and of the steps on which places stand
  abbrev pub HoldsOn : Footing → Type 0
  HoldsOn footing.Nothing = ⊤
  HoldsOn (footing.List s) = HoldsUsed s
  HoldsOn (footing.Page s) = HoldsUsed s
  HoldsOn (footing.Row s item) = HoldsUsed s × HoldsUsed item
  HoldsOn (footing.Edge s item) = HoldsUsed s × HoldsUsed item
  HoldsOn (footing.Payload given) = HoldsUsed given
  HoldsOn (footing.Given given) = HoldsUsed given

  -- of what the added steps name
  abbrev pub HoldsNamed : Added → Type 0
  HoldsNamed (adds.Leaf s) = IfSome (named_by s) HoldsUsed
  HoldsNamed (adds.List f) = IfSome (out-FetchStep f).parent HoldsUsed
  HoldsNamed (adds.Row f) = IfSome (out-FetchStep f).parent HoldsUsed
  HoldsNamed (adds.Item edge s) = HoldsUsed s
  HoldsNamed (adds.Shows k g) = HoldsUsed k × HoldsOn g
  HoldsNamed adds.Given = ⊤

  then_named : (n : ℕ) (o : Option ℕ) → IfSome o HoldsUsed → Each P (or_nothing (chain (named_at steps) n) o)
  then_named n None h = tt
  then_named n (Some j) h = h n

  pub holds_used : (k : ℕ) (s : Step) → slice_get steps k ≡ Some s → P k → IfSome (named_by s) HoldsUsed → HoldsUsed k
  holds_used k s e t named zero = tt
  holds_used k s e t named (suc n) =
      (t, subst (λ o. Each P (or_nothing (chain (named_at steps) n) o)) (sym (ap named_in e)) (then_named n (named_by s) named))

  -- ---- one place

  module _ (at : ℕ) where
    abbrev pub ArePut : Added → Type 0
    ArePut a = (j : ℕ) (s : Step) → slice_get (steps_added at a) j ≡ Some s → slice_get steps (at + j) ≡ Some s

    abbrev pub HoldsNew : Added → Type 0
    HoldsNew a = (j : ℕ) (s : Step) → slice_get (steps_added at a) j ≡ Some s → P (at + j)

    one_used : (a : Added) → ArePut a → HoldsNew a → (j : ℕ) (s : Step) → slice_get (steps_added at a) j ≡ Some s → IfSome (named_by s) HoldsUsed → HoldsUsed (at + j)
    one_used a put new j s e named = holds_used (at + j) s (put j s e) (new j s e) named

    first_used : (a : Added) → ArePut a → HoldsNew a → (s : Step) → slice_get (steps_added at a) 0 ≡ Some s → IfSome (named_by s) HoldsUsed → HoldsUsed at
    first_used a put new s e named = let z : at + 0 ≡ at = omega arith in subst HoldsUsed z (one_used a put new 0 s e named)

    either_on : (edge : Bool) (s item : ℕ) → HoldsUsed s → HoldsUsed item → HoldsOn (edge_or_row edge s item)
    either_on true s item h k = (h, k)
    either_on false s item h k = (h, k)

    -- of the step that is shown, and of those on which places below stand
    pub used_by_added : (a : Added) → ArePut a → HoldsNamed a → HoldsNew a → HoldsUsed (step_shown at a) × HoldsOn (footing_with at a)
    used_by_added (adds.Leaf s) put named new = (first_used (adds.Leaf s) put new s refl named, tt)
    used_by_added (adds.List f) put named new = let h = first_used (adds.List f) put new (step.Fetch f) refl named in (h, h)
    used_by_added (adds.Row f) put named new =
        let h = first_used (adds.Row f) put new (step.Fetch f) refl named in
        (h, (h, one_used (adds.Row f) put new 1 (step.Item at) refl h))
    used_by_added (adds.Item edge s) put named new =
        (named, either_on edge s at named (first_used (adds.Item edge s) put new (step.Item s) refl named))
    used_by_added (adds.Shows k g) put named new = named
    used_by_added adds.Given put named new = let h = first_used adds.Given put new step.Given refl tt in (h, h)

  -- ---- on what places stand

  row_used : (t : ℕ) (table : Option ℕ) (g : Footing) → FootingFits (OfRow t) steps table g → HoldsOn g → HoldsUsed (row_of g)
  row_used t table footing.Nothing h u = absurd h
  row_used t table (footing.List s) h u = absurd h
  row_used t table (footing.Page s) h u = absurd h
  row_used t table (footing.Row s item) h u = u.1
  row_used t table (footing.Edge s item) h u = absurd h
  row_used t table (footing.Payload given) h u = absurd h
  row_used t table (footing.Given given) h u = u

  list_used : (t : ℕ) (table : Option ℕ) (g : Footing) → FootingFits (OfList t) steps table g → HoldsOn g → HoldsUsed (fetch_below g)
  list_used t table footing.Nothing h u = absurd h
  list_used t table (footing.List s) h u = u
  list_used t table (footing.Page s) h u = absurd h
  list_used t table (footing.Row s item) h u = absurd h
  list_used t table (footing.Edge s item) h u = absurd h
  list_used t table (footing.Payload given) h u = absurd h
  list_used t table (footing.Given given) h u = absurd h

  page_used : (table : Option ℕ) (g : Footing) → FootingFits OfPage steps table g → HoldsOn g → HoldsUsed (fetch_below g)
  page_used table footing.Nothing h u = absurd h
  page_used table (footing.List s) h u = absurd h
  page_used table (footing.Page s) h u = u
  page_used table (footing.Row s item) h u = absurd h
  page_used table (footing.Edge s item) h u = absurd h
  page_used table (footing.Payload given) h u = absurd h
  page_used table (footing.Given given) h u = absurd h

  edge_used : (t : ℕ) (table : Option ℕ) (g : Footing) → FootingFits (OfEdge t) steps table g → HoldsOn g → HoldsUsed (fetch_below g) × HoldsUsed (row_of g)
  edge_used t table footing.Nothing h u = absurd h
  edge_used t table (footing.List s) h u = absurd h
  edge_used t table (footing.Page s) h u = absurd h
  edge_used t table (footing.Row s item) h u = absurd h
  edge_used t table (footing.Edge s item) h u = u
  edge_used t table (footing.Payload given) h u = absurd h
  edge_used t table (footing.Given given) h u = absurd h

  payload_used : (t : ℕ) (table : Option ℕ) (g : Footing) → FootingFits (OfPayload t) steps table g → HoldsOn g → HoldsUsed (row_of g)
  payload_used t table footing.Nothing h u = absurd h
  payload_used t table (footing.List s) h u = absurd h
  payload_used t table (footing.Page s) h u = absurd h
  payload_used t table (footing.Row s item) h u = absurd h
  payload_used t table (footing.Edge s item) h u = absurd h
  payload_used t table (footing.Payload given) h u = u
  payload_used t table (footing.Given given) h u = absurd h

  -- ---- each field

  module _ (base : BaseParts) (vars : Vars) (places : List Place) (p : Place) (shown : Bool) (f : FieldDef) where
    parent_used : (fetch : FetchStep) (parent : Option ℕ) → (out-FetchStep fetch).parent ≡ parent → IfSome parent HoldsUsed → IfSome (out-FetchStep fetch).parent HoldsUsed
    parent_used fetch parent e h = subst (λ o. IfSome o HoldsUsed) (sym e) h

    row_named : (of : ℕ) (by : List ℕ) (parent : Option ℕ) (columns : List ℕ) (key : _) → IfSome parent HoldsUsed → HoldsNamed (adds.Row (row_step of by parent columns key))
    row_named of by parent columns key h = parent_used (row_step of by parent columns key) parent (ap (λ o. o.parent) (out-roll-FetchStep _)) h

    list_named : (of : ℕ) (by : List ℕ) (parent : Option ℕ) (columns : List ℕ) → IfSome parent HoldsUsed → HoldsNamed (adds.List (list_step base vars p shown f of by parent columns))
    list_named of by parent columns h = parent_used (list_step base vars p shown f of by parent columns) parent (ap (λ o. o.parent) (out-roll-FetchStep _)) h

    backward_named : (row t : ℕ) (link : LinkDef) (one : Bool) → HoldsUsed row → HoldsNamed (add_backward base vars p shown f t row link one)
    backward_named row t link true h = row_named t link.columns (Some row) link.target_columns [] h
    backward_named row t link false h = list_named t link.columns (Some row) link.target_columns h

    id_written_named : (o : Option ArgValue) → HoldsNamed (adds.Leaf (id_written o))
    id_written_named None = tt
    id_written_named (Some (Variable name)) = tt
    id_written_named (Some Null) = tt
    id_written_named (Some (Int n)) = tt
    id_written_named (Some (BoolOf b)) = tt
    id_written_named (Some (Text t)) = tt
    id_written_named (Some (Case c)) = tt
    id_written_named (Some (List' s xs)) = tt
    id_written_named (Some (Object' s ms)) = tt

    id_in_named : (o : Option ArgValue) → HoldsNamed (adds.Leaf (id_in o))
    id_in_named None = tt
    id_in_named (Some (Variable name)) = tt
    id_in_named (Some Null) = tt
    id_in_named (Some (Int n)) = tt
    id_in_named (Some (BoolOf b)) = tt
    id_in_named (Some (Text t)) = tt
    id_in_named (Some (Case c)) = tt
    id_in_named (Some (List' s xs)) = tt
    id_in_named (Some (Object' s ms)) = id_written_named (written_in ms id_name)

    id_named : (o : Option Place) → HoldsNamed (adds.Leaf (id_of o))
    id_named None = tt
    id_named (Some mutation) = id_in_named (written mutation.args 0)

    on_kind : (kind other : Kind) (table : Option ℕ) (g : Footing) → kind ≡ other → FootingFits kind steps table g → FootingFits other steps table g
    on_kind kind other table g e h = subst (λ k. FootingFits k steps table g) e h

    as_named : (a made : Added) → made ≡ a → HoldsNamed a → HoldsNamed made
    as_named a made e h = subst HoldsNamed (sym e) h

    pub named_by_field : (kind next : Kind) (table : Option ℕ) (g : Footing) (d : Does) → Leads base.catalog d kind next → FootingFits kind steps table g → HoldsOn g → HoldsNamed (added_by base vars places p shown g f d)
    named_by_field kind next table g (does.Column t c) l h u = row_used t table g (on_kind kind (OfRow t) table g l.0 h) u
    named_by_field kind next table g (does.Forward t l) leads h u =
        let link = some_and (λ x. next ≡ OfRow x.target) (link_at base.catalog t l) leads.1 in
        as_named _ _ (ap (λ o. add_link o (λ x. adds.Row (row_step x.target x.target_columns (Some (row_of g)) x.columns []))) link.1)
        (row_named link.0.target link.0.target_columns (Some (row_of g)) link.0.columns [] (row_used t table g (on_kind kind (OfRow t) table g leads.0 h) u))
    named_by_field kind next table g (does.Backward t l) leads h u =
        let link = some_and (λ x. (kind ≡ OfRow x.target) × (next ≡ backward_kind (finds_one (slice_get base.catalog.tables t) x) t)) (link_at base.catalog t l) leads in
        as_named _ _ (ap (λ o. add_link o (λ x. add_backward base vars p shown f t (row_of g) x (finds_one (slice_get base.catalog.tables t) x))) link.1)
        (backward_named (row_of g) t link.0 (finds_one (slice_get base.catalog.tables t) link.0) (row_used link.0.target table g (on_kind kind (OfRow link.0.target) table g link.2.0 h) u))
    named_by_field kind next table g (does.All t) leads h u = list_named t [] None [] tt
    named_by_field kind next table g (does.ByKey t k) leads h u =
        let key = some_and (λ x. next ≡ OfRow t) (key_at base.catalog t k) leads.1 in
        as_named _ _ (ap (λ o. add_key o (λ x. adds.Row (row_step t x.columns None [] (key_slots base.schema p 0 f.args)))) key.1)
        (row_named t key.0.columns None [] (key_slots base.schema p 0 f.args) tt)
    named_by_field kind next table g (does.Create t) l h u = tt
    named_by_field kind next table g (does.Update t k) l h u = tt
    named_by_field kind next table g (does.Delete t k) l h u = tt
    named_by_field kind next table g does.Nodes l h u = list_used l.0 table g (on_kind kind (OfList l.0) table g l.1 h) u
    named_by_field kind next table g does.Edges l h u = list_used l.0 table g (on_kind kind (OfList l.0) table g l.1 h) u
    named_by_field kind next table g does.PageInfo l h u = let k = list_used l.0 table g (on_kind kind (OfList l.0) table g l.1 h) u in (k, k)
    named_by_field kind next table g does.Node l h u = let k = edge_used l.0 table g (on_kind kind (OfEdge l.0) table g l.1 h) u in (k.1, k)
    named_by_field kind next table g does.Total l h u = list_used l.0 table g (on_kind kind (OfList l.0) table g l.1 h) u
    named_by_field kind next table g does.Cursor l h u = (edge_used l.0 table g (on_kind kind (OfEdge l.0) table g l.1 h) u).1
    named_by_field kind next table g does.HasNext l h u = page_used table g (on_kind kind OfPage table g l.0 h) u
    named_by_field kind next table g does.HasPrevious l h u = page_used table g (on_kind kind OfPage table g l.0 h) u
    named_by_field kind next table g does.Start l h u = page_used table g (on_kind kind OfPage table g l.0 h) u
    named_by_field kind next table g does.End l h u = page_used table g (on_kind kind OfPage table g l.0 h) u
    named_by_field kind next table g does.ClientId l h u = id_named (place_above places p)
    named_by_field kind next table g does.Payload l h u = let k = payload_used l.0 table g (on_kind kind (OfPayload l.0) table g l.1 h) u in (k, k)
