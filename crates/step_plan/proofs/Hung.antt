-- The fetch that a row field adds: what it hangs on, and when it asks for rows.
use Rattle.std.proofs.Common.{◌≡◌, ℕ, List, [], Option, Some, None, Bool, true, false, ◌&&◌, refl, sym, ap, ◌∙◌, subst}
use Rattle.std.specs.Prelude.{slice_get, ⊤}
use Rattle.gql_input.specs.declared.argument.ArgValue.{ArgValue, Variable, Null, Int, Bool as BoolOf, Text, Case, List', Object'}
use Rattle.pg_base.specs.Base.{BaseParts}
use Rattle.pg_base.specs.declared.does.Does.{Does}
use Rattle.pg_base.specs.declared.does.Does.TheVariants as does
use Rattle.pg_base.specs.declared.schema.FieldDef.{FieldDef}
use Rattle.pg_base.specs.declared.table_def.LinkDef.{LinkDef}
use Rattle.pg_base.specs.declared.vars.Vars.{Vars}
use Rattle.place_tree.specs.Arguments.{written}
use Rattle.place_tree.specs.Exec.{needs_rows, place_above}
use Rattle.place_tree.specs.Fetch.{fetch_in, fetch_by, fetch_of, backward_fetch, key_fetch, forward_fetch, referring_fetch}
use Rattle.place_tree.specs.Fields.{field_of, key_at, link_at, finds_one, is_row_field}
use Rattle.place_tree.specs.Needs.{is_mutation}
use Rattle.place_tree.specs.Typed.{Kind, OfQuery, OfRow, OfEdge, OfPayload, backward_kind, Leads}
use Rattle.place_tree.specs.declared.fetch.Fetch.{Fetch}
use Rattle.place_tree.specs.declared.fetch.Shape.TheVariants as shape
use Rattle.place_tree.specs.declared.place.Place.{Place}
use Rattle.place_tree.specs.declared.place.Tree.{Tree}
use Rattle.plan_steps.specs.Fetches.{HangsOn, StandsWith, ShowsRows}
use Rattle.plan_steps.specs.Named.{layer_of, over, over_in, over_at, is_given_in, fetch_in as fetch_step}
use Rattle.plan_steps.specs.declared.plan.FetchStep.{FetchStep, out-FetchStep, out-roll-FetchStep}
use Rattle.plan_steps.specs.declared.plan.Layer.{Layer}
use Rattle.plan_steps.specs.declared.plan.Slot.{Slot}
use Rattle.plan_steps.specs.declared.plan.Step.{Step}
use Rattle.step_plan.specs.Added.{row_of, fetch_of as fetch_below, list_rows, list_step, row_step, id_name, written_in, id_of, id_in, id_written, add_link, add_key, add_backward, added_by}
use Rattle.step_plan.specs.Drafted.{Making}
use Rattle.step_plan.specs.Slots.{key_slots}
use Rattle.step_plan.specs.declared.making.Added.{Added}
use Rattle.step_plan.specs.declared.making.Added.TheVariants as adds
use Rattle.step_plan.specs.declared.making.Footing.{Footing}
use Rattle.step_plan.specs.declared.making.Footing.TheVariants as footing
use Rattle.step_plan.proofs.Places.{basis_of, FootingFits, some_and, inside}

pub and_left : (a b : Bool) → (a && b) ≡ true → a ≡ true
and_left true b h = refl
and_left false b h = cc

-- ---- rows

-- the step of a row, or of an edge, stands in the layer of the places that stand on it
abbrev pub IsRowIn : List Layer → ℕ → Footing → Type 0
IsRowIn layers layer footing.Nothing = ⊤
IsRowIn layers layer (footing.List s) = ⊤
IsRowIn layers layer (footing.Page s) = ⊤
IsRowIn layers layer (footing.Row s item) = layer_of layers item ≡ Some layer
IsRowIn layers layer (footing.Edge s item) = layer_of layers item ≡ Some layer
IsRowIn layers layer (footing.Payload given) = layer_of layers given ≡ Some layer
IsRowIn layers layer (footing.Given given) = layer_of layers given ≡ Some layer

module _ (steps : List Step) (layers : List Layer) where
  row_layer : (layer t : ℕ) (table : Option ℕ) (g : Footing) → FootingFits (OfRow t) steps table g → IsRowIn layers layer g → layer_of layers (row_of g) ≡ Some layer
  row_layer layer t table footing.Nothing h r = absurd h
  row_layer layer t table (footing.List s) h r = absurd h
  row_layer layer t table (footing.Page s) h r = absurd h
  row_layer layer t table (footing.Row s item) h r = r
  row_layer layer t table (footing.Edge s item) h r = absurd h
  row_layer layer t table (footing.Payload given) h r = absurd h
  row_layer layer t table (footing.Given given) h r = r

  row_hung : (t : ℕ) (table : Option ℕ) (g : Footing) → FootingFits (OfRow t) steps table g → HangsOn steps (basis_of g) (Some (row_of g))
  row_hung t table footing.Nothing h = absurd h
  row_hung t table (footing.List s) h = absurd h
  row_hung t table (footing.Page s) h = absurd h
  row_hung t table (footing.Row s item) h = (item, refl, h.0)
  row_hung t table (footing.Edge s item) h = absurd h
  row_hung t table (footing.Payload given) h = absurd h
  row_hung t table (footing.Given given) h = (given, refl, h.0)

  edge_in : (layer t : ℕ) (table : Option ℕ) (g : Footing) → FootingFits (OfEdge t) steps table g → IsRowIn layers layer g → IsRowIn layers layer (footing.Row (fetch_below g) (row_of g))
  edge_in layer t table footing.Nothing h r = absurd h
  edge_in layer t table (footing.List s) h r = absurd h
  edge_in layer t table (footing.Page s) h r = absurd h
  edge_in layer t table (footing.Row s item) h r = absurd h
  edge_in layer t table (footing.Edge s item) h r = r
  edge_in layer t table (footing.Payload given) h r = absurd h
  edge_in layer t table (footing.Given given) h r = absurd h

  payload_in : (layer t : ℕ) (table : Option ℕ) (g : Footing) → FootingFits (OfPayload t) steps table g → IsRowIn layers layer g → IsRowIn layers layer (footing.Given (row_of g))
  payload_in layer t table footing.Nothing h r = absurd h
  payload_in layer t table (footing.List s) h r = absurd h
  payload_in layer t table (footing.Page s) h r = absurd h
  payload_in layer t table (footing.Row s item) h r = absurd h
  payload_in layer t table (footing.Edge s item) h r = absurd h
  payload_in layer t table (footing.Payload given) h r = r
  payload_in layer t table (footing.Given given) h r = absurd h

  query_is : (table : Option ℕ) (g : Footing) → FootingFits OfQuery steps table g → g ≡ footing.Nothing
  query_is table footing.Nothing h = refl
  query_is table (footing.List s) h = absurd h
  query_is table (footing.Page s) h = absurd h
  query_is table (footing.Row s item) h = absurd h
  query_is table (footing.Edge s item) h = absurd h
  query_is table (footing.Payload given) h = absurd h
  query_is table (footing.Given given) h = absurd h

-- ---- one place

module _ (base : BaseParts) (tree : Tree) (whole : Making) (at n layer : ℕ) (p : Place) where
  -- the fetch is a row field's, hangs on what that stands on, and asks for rows where they are shown
  pub record IsHung (d : Does) (g : Footing) (fetch : FetchStep) : Type 0 where
    pub is_row : is_row_field (Some d) ≡ true
    pub flat : (out-FetchStep fetch).children ≡ []
    pub rows : (out-FetchStep fetch).rows ≡ true → ShowsRows base tree n p
    pub hangs : HangsOn whole.steps (basis_of g) (out-FetchStep fetch).parent
    pub stands : layer_of whole.layers at ≡ Some layer → StandsWith whole.layers at (out-FetchStep fetch).parent

  -- what a place adds has no fetches but such ones
  abbrev pub HasHung : Does → Footing → Added → Type 0
  HasHung d g (adds.Leaf s) = (fetch_step (Some s) ≡ None) × (is_given_in (Some s) ≡ false)
  HasHung d g (adds.List fetch) = IsHung d g fetch
  HasHung d g (adds.Row fetch) = IsHung d g fetch
  HasHung d g (adds.Item edge s) = ⊤
  HasHung d g (adds.Shows k h) = IsRowIn whole.layers layer h
  HasHung d g adds.Given = is_mutation (Some d) ≡ true

module _ (base : BaseParts) (vars : Vars) (tree : Tree) (whole : Making) (at n layer : ℕ) (p : Place) (f : FieldDef) (is_field : field_of base.schema p ≡ Some f) where
  abbrev shown : Bool
  shown = needs_rows base.schema tree.places n

  abbrev Hung : Does → Footing → FetchStep → Type 0
  Hung d g fetch = IsHung base tree whole at n layer p d g fetch

  abbrev Has : Does → Footing → Added → Type 0
  Has d g a = HasHung base tree whole at n layer p d g a

  -- ---- when rows are shown

  due_is : (other : Vars) (due : Fetch) → fetch_of base other p ≡ Some due → fetch_by base f other p f.does ≡ Some due
  unfolding fetch_of
  due_is other due h = sym (ap (fetch_in base other p) is_field) ∙ h

  AsksRow : Does → Type 0
  AsksRow d = (other : Vars) → (due : Fetch) × (fetch_by base f other p d ≡ Some due) × (due.shape ≡ shape.Row)

  row_shows : (d : Does) → f.does ≡ d → AsksRow d → ShowsRows base tree n p
  unfolding AsksRow
  row_shows d is by other due found listed =
      let asks = by other in
      let same : asks.0 ≡ due = inside asks.0 due (sym asks.1 ∙ sym (ap (fetch_by base f other p) is) ∙ due_is other due found) in
      let z : shape.Row ≡ shape.List = sym asks.2 ∙ ap (λ (x : Fetch). x.shape) same ∙ listed in
      cc

  list_shows : list_rows vars p shown ≡ true → ShowsRows base tree n p
  list_shows h other due found listed = and_left shown _ h

  -- ---- fetches by the row above, and at the root

  row_below : (d : Does) (of : ℕ) (by columns : List ℕ) (t : ℕ) (table : Option ℕ) (g : Footing) → is_row_field (Some d) ≡ true → ShowsRows base tree n p
      → FootingFits (OfRow t) whole.steps table g → IsRowIn whole.layers layer g → Hung d g (row_step of by (Some (row_of g)) columns [])
  row_below d of by columns t table g is shows h r =
      let e = out-roll-FetchStep _ in
      record {
        is_row = is;
        flat = ap (λ o. o.children) e;
        rows = λ rows. shows;
        hangs = subst (HangsOn whole.steps (basis_of g)) (sym (ap (λ o. o.parent) e)) (row_hung whole.steps whole.layers t table g h);
        stands = λ l. subst (StandsWith whole.layers at) (sym (ap (λ o. o.parent) e)) (ap (over_at whole.layers) (l ∙ sym (row_layer whole.steps whole.layers layer t table g h r)));
      }

  list_below : (d : Does) (of : ℕ) (by columns : List ℕ) (t : ℕ) (table : Option ℕ) (g : Footing) → is_row_field (Some d) ≡ true
      → FootingFits (OfRow t) whole.steps table g → IsRowIn whole.layers layer g → Hung d g (list_step base vars p shown f of by (Some (row_of g)) columns)
  list_below d of by columns t table g is h r =
      let e = out-roll-FetchStep _ in
      record {
        is_row = is;
        flat = ap (λ o. o.children) e;
        rows = λ rows. list_shows (sym (ap (λ o. o.rows) e) ∙ rows);
        hangs = subst (HangsOn whole.steps (basis_of g)) (sym (ap (λ o. o.parent) e)) (row_hung whole.steps whole.layers t table g h);
        stands = λ l. subst (StandsWith whole.layers at) (sym (ap (λ o. o.parent) e)) (ap (over_at whole.layers) (l ∙ sym (row_layer whole.steps whole.layers layer t table g h r)));
      }

  root_hung : (g : Footing) → g ≡ footing.Nothing → (parent : Option ℕ) → parent ≡ None → HangsOn whole.steps (basis_of g) parent
  root_hung g is parent e = subst (λ h. HangsOn whole.steps (basis_of h) parent) (sym is) e

  root_stands : (parent : Option ℕ) → parent ≡ None → over_in (slice_get whole.layers layer) ≡ None → layer_of whole.layers at ≡ Some layer → StandsWith whole.layers at parent
  root_stands parent e over l = subst (StandsWith whole.layers at) (sym e) (ap (over_at whole.layers) l ∙ over)

  list_root : (d : Does) (of : ℕ) (g : Footing) → is_row_field (Some d) ≡ true → g ≡ footing.Nothing → over_in (slice_get whole.layers layer) ≡ None → Hung d g (list_step base vars p shown f of [] None [])
  list_root d of g is nothing over =
      let e = out-roll-FetchStep _ in
      record {
        is_row = is;
        flat = ap (λ o. o.children) e;
        rows = λ rows. list_shows (sym (ap (λ o. o.rows) e) ∙ rows);
        hangs = root_hung g nothing _ (ap (λ o. o.parent) e);
        stands = root_stands _ (ap (λ o. o.parent) e) over;
      }

  row_root : (d : Does) (of : ℕ) (by : List ℕ) (key : List Slot) (g : Footing) → is_row_field (Some d) ≡ true → ShowsRows base tree n p → g ≡ footing.Nothing → over_in (slice_get whole.layers layer) ≡ None → Hung d g (row_step of by None [] key)
  row_root d of by key g is shows nothing over =
      let e = out-roll-FetchStep _ in
      record {
        is_row = is;
        flat = ap (λ o. o.children) e;
        rows = λ rows. shows;
        hangs = root_hung g nothing _ (ap (λ o. o.parent) e);
        stands = root_stands _ (ap (λ o. o.parent) e) over;
      }

  -- ---- each field

  backward_hung : (t l : ℕ) (link : LinkDef) → link_at base.catalog t l ≡ Some link → (one : Bool) → finds_one (slice_get base.catalog.tables t) link ≡ one → f.does ≡ does.Backward t l
      → (table : Option ℕ) (g : Footing) → FootingFits (OfRow link.target) whole.steps table g → IsRowIn whole.layers layer g
      → Has (does.Backward t l) g (add_backward base vars p shown f t (row_of g) link one)
  unfolding AsksRow
  backward_hung t l link e true o is table g h r =
      row_below (does.Backward t l) t link.columns link.target_columns link.target table g refl
      (row_shows (does.Backward t l) is (λ other. (backward_fetch base f other p t link true, ap (referring_fetch base f other p t) e ∙ ap (λ x. Some (backward_fetch base f other p t link x)) o, refl))) h r
  backward_hung t l link e false o is table g h r = list_below (does.Backward t l) t link.columns link.target_columns link.target table g refl h r

  abbrev IsShown : Step → Type 0
  IsShown s = (fetch_step (Some s) ≡ None) × (is_given_in (Some s) ≡ false)

  id_written_hung : (o : Option ArgValue) → IsShown (id_written o)
  id_written_hung None = (refl, refl)
  id_written_hung (Some (Variable name)) = (refl, refl)
  id_written_hung (Some Null) = (refl, refl)
  id_written_hung (Some (Int n)) = (refl, refl)
  id_written_hung (Some (BoolOf b)) = (refl, refl)
  id_written_hung (Some (Text t)) = (refl, refl)
  id_written_hung (Some (Case c)) = (refl, refl)
  id_written_hung (Some (List' s xs)) = (refl, refl)
  id_written_hung (Some (Object' s ms)) = (refl, refl)

  id_in_hung : (o : Option ArgValue) → IsShown (id_in o)
  id_in_hung None = (refl, refl)
  id_in_hung (Some (Variable name)) = (refl, refl)
  id_in_hung (Some Null) = (refl, refl)
  id_in_hung (Some (Int n)) = (refl, refl)
  id_in_hung (Some (BoolOf b)) = (refl, refl)
  id_in_hung (Some (Text t)) = (refl, refl)
  id_in_hung (Some (Case c)) = (refl, refl)
  id_in_hung (Some (List' s xs)) = (refl, refl)
  id_in_hung (Some (Object' s ms)) = id_written_hung (written_in ms id_name)

  id_hung : (o : Option Place) → IsShown (id_of o)
  id_hung None = (refl, refl)
  id_hung (Some mutation) = id_in_hung (written mutation.args 0)

  on_kind : (kind other : Kind) (table : Option ℕ) (g : Footing) → kind ≡ other → FootingFits kind whole.steps table g → FootingFits other whole.steps table g
  on_kind kind other table g e h = subst (λ k. FootingFits k whole.steps table g) e h

  as_hung : (d : Does) (g : Footing) (a made : Added) → made ≡ a → Has d g a → Has d g made
  as_hung d g a made e h = subst (Has d g) (sym e) h

  at_root : (kind : Kind) (table : Option ℕ) (g : Footing) → kind ≡ OfQuery → FootingFits kind whole.steps table g → g ≡ footing.Nothing
  at_root kind table g e h = query_is whole.steps whole.layers table g (on_kind kind OfQuery table g e h)

  pub field_hung : (kind next : Kind) (table : Option ℕ) (g : Footing) (d : Does) → f.does ≡ d → Leads base.catalog d kind next → FootingFits kind whole.steps table g → IsRowIn whole.layers layer g
      → (kind ≡ OfQuery → over_in (slice_get whole.layers layer) ≡ None) → Has d g (added_by base vars tree.places p shown g f d)
  unfolding AsksRow
  field_hung kind next table g (does.Column t c) is l h r root = (refl, refl)
  field_hung kind next table g (does.Forward t l) is leads h r root =
      let link = some_and (λ x. next ≡ OfRow x.target) (link_at base.catalog t l) leads.1 in
      as_hung (does.Forward t l) g _ _ (ap (λ o. add_link o (λ x. adds.Row (row_step x.target x.target_columns (Some (row_of g)) x.columns []))) link.1)
      (row_below (does.Forward t l) link.0.target link.0.target_columns link.0.columns t table g refl
      (row_shows (does.Forward t l) is (λ other. (_, ap forward_fetch link.1, refl))) (on_kind kind (OfRow t) table g leads.0 h) r)
  field_hung kind next table g (does.Backward t l) is leads h r root =
      let link = some_and (λ x. (kind ≡ OfRow x.target) × (next ≡ backward_kind (finds_one (slice_get base.catalog.tables t) x) t)) (link_at base.catalog t l) leads in
      as_hung (does.Backward t l) g _ _ (ap (λ o. add_link o (λ x. add_backward base vars p shown f t (row_of g) x (finds_one (slice_get base.catalog.tables t) x))) link.1)
      (backward_hung t l link.0 link.1 (finds_one (slice_get base.catalog.tables t) link.0) refl is table g (on_kind kind (OfRow link.0.target) table g link.2.0 h) r)
  field_hung kind next table g (does.All t) is leads h r root = list_root (does.All t) t g refl (at_root kind table g leads.0 h) (root leads.0)
  field_hung kind next table g (does.ByKey t k) is leads h r root =
      let key = some_and (λ x. next ≡ OfRow t) (key_at base.catalog t k) leads.1 in
      as_hung (does.ByKey t k) g _ _ (ap (λ o. add_key o (λ x. adds.Row (row_step t x.columns None [] (key_slots base.schema p 0 f.args)))) key.1)
      (row_root (does.ByKey t k) t key.0.columns (key_slots base.schema p 0 f.args) g refl
      (row_shows (does.ByKey t k) is (λ other. (_, ap (key_fetch base f other p t) key.1, refl))) (at_root kind table g leads.0 h) (root leads.0))
  field_hung kind next table g (does.Create t) is l h r root = refl
  field_hung kind next table g (does.Update t k) is l h r root = refl
  field_hung kind next table g (does.Delete t k) is l h r root = refl
  field_hung kind next table g does.Nodes is l h r root = tt
  field_hung kind next table g does.Edges is l h r root = tt
  field_hung kind next table g does.PageInfo is l h r root = tt
  field_hung kind next table g does.Node is l h r root = edge_in whole.steps whole.layers layer l.0 table g (on_kind kind (OfEdge l.0) table g l.1 h) r
  field_hung kind next table g does.Total is l h r root = (refl, refl)
  field_hung kind next table g does.Cursor is l h r root = (refl, refl)
  field_hung kind next table g does.HasNext is l h r root = (refl, refl)
  field_hung kind next table g does.HasPrevious is l h r root = (refl, refl)
  field_hung kind next table g does.Start is l h r root = (refl, refl)
  field_hung kind next table g does.End is l h r root = (refl, refl)
  field_hung kind next table g does.ClientId is l h r root = id_hung (place_above tree.places p)
  field_hung kind next table g does.Payload is l h r root = payload_in whole.steps whole.layers layer l.0 table g (on_kind kind (OfPayload l.0) table g l.1 h) r
