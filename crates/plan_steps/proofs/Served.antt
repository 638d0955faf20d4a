-- A plan whose steps serve all places shows what execution gives.
use Rattle.std.proofs.Common.{◌≡◌, ℕ, zero, suc, ◌<◌, List, [], ◌∷◌, ◌&&◌, map, length, take, Option, Some, None, Bool, true, false, cond, refl, sym, ap, ◌∙◌, subst, eq-eqb, IsSomeAnd}
use Rattle.std.specs.Prelude.{slice_get, option_map, ⊤, ◌==◌, ◌||◌, nat_lt, IfSome}
use Rattle.pg_base.specs.Base.{BaseParts}
use Rattle.pg_base.specs.Lists.{Each}
use Rattle.pg_base.specs.Schema.{type_name_at}
use Rattle.pg_base.specs.declared.cell.Cell.{Cell}
use Rattle.pg_base.specs.declared.does.Does.{Does}
use Rattle.pg_base.specs.declared.does.Does.TheVariants as does
use Rattle.pg_base.specs.declared.schema.FieldDef.{FieldDef}
use Rattle.pg_base.specs.declared.value.Value.TheVariants as value
use Rattle.pg_base.specs.declared.vars.Vars.{Vars}
use Rattle.rel_model.specs.declared.tables.Row.{Row}
use Rattle.rel_model.specs.declared.tables.Tables.{Tables}
use Rattle.rel_model.specs.declared.window.By.{By}
use Rattle.rel_model.specs.Tables.{cells_at, AreValidTables}
use Rattle.rel_model.specs.Picked.{picked, cell_at}
use Rattle.rel_model.specs.Ordered.{ordered}
use Rattle.rel_model.specs.Interval.{interval_of, rows_between}
use Rattle.place_tree.specs.declared.answer.Leaf.{Leaf}
use Rattle.place_tree.specs.declared.answer.Leaf.TheVariants.{Null as null, Truth as truth, Text as text}
use Rattle.place_tree.specs.declared.answer.Answer.TheVariants.{Shows, One, Many}
use Rattle.place_tree.specs.declared.fetch.Fetch.{Fetch}
use Rattle.place_tree.specs.declared.fetch.KeyCells.{KeyCells}
use Rattle.place_tree.specs.declared.fetch.KeyCells.TheVariants.{Given, OfParent}
use Rattle.place_tree.specs.declared.fetch.Shape.{Shape}
use Rattle.place_tree.specs.declared.fetch.Shape.TheVariants as shape
use Rattle.place_tree.specs.declared.place.Place.{Place}
use Rattle.place_tree.specs.declared.place.Tree.{Tree}
use Rattle.place_tree.specs.declared.stand.Listed.{Listed}
use Rattle.place_tree.specs.declared.stand.Edge.{Edge}
use Rattle.place_tree.specs.declared.stand.Stand.{Stand}
use Rattle.place_tree.specs.declared.stand.Stand.TheVariants.{Root, AtRow, AtList, AtEdge, AtPayload}
use Rattle.place_tree.specs.Exec.{stand_cells, key_of, first_row, last_row, row_or_null, list_found, listed, edge_of, found_by, row_field, shows_rows, needs_rows, resolved, number_leaf, row_cursor, cursor_or_null, leaf_of, nodes_at, edges_at, page_at, node_at, payload_at, of_list, total_of, has_next, has_previous, start_of, end_of, edge_cursor, client_id, place_above, other_field, by_field, by_fetch}
use Rattle.place_tree.specs.Arguments.{nullable}
use Rattle.place_tree.specs.Fetch.{fetch_of, argument_error}
use Rattle.place_tree.specs.Fields.{typename, field_of, does_of, is_row_field}
use Rattle.place_tree.specs.Fold.{same_place}
use Rattle.place_tree.specs.Needs.{is_mutation}
use Rattle.place_tree.proofs.Folds.{Paired, Agree, members_same}
use Rattle.stmt_tree.specs.Meaning.{part_of}
use Rattle.plan_constraints.specs.Constraints.{Hold}
use Rattle.plan_constraints.specs.declared.constraint.Constraint.{Constraint}
use Rattle.plan_steps.specs.declared.plan.FetchStep.{FetchStep, out-FetchStep}
use Rattle.plan_steps.specs.declared.plan.Plan.{Plan}
use Rattle.plan_steps.specs.declared.plan.Root.{Root as RootOf}
use Rattle.plan_steps.specs.declared.plan.Root.TheVariants as root
use Rattle.plan_steps.specs.declared.plan.Step.{Step}
use Rattle.plan_steps.specs.declared.plan.Step.TheVariants as step
use Rattle.plan_steps.specs.Denoted.{onto, one_row, row_shown, by_error, input_leaf}
use Rattle.plan_steps.specs.Denoted as denoted
use Rattle.plan_steps.specs.Fitting.{FitTree}
use Rattle.plan_steps.specs.Named.{named_by, fetch_in, item_in}
use Rattle.plan_steps.specs.Serves.{Basis, OnNothing, OnRow, OnList, OnPage, OnEdge, OnPayload, OnGiven, IsRow, IsListOn, KeyServes, FetchServes, below_fetch, RowFieldServes, input_of, OtherServes, ServesBy, basis_above, Serves, ServesAll, IsWellMade, ServedPlansAreSound}
use Rattle.plan_steps.specs.Sound.{executed_for, IsRootOf}
use Rattle.plan_steps.specs.Under.{mutated}
use Rattle.plan_steps.specs.Values.{Moment, Listing, Path, Val, val_of_row, row_on, row_in, key_from, key_by, key_at, listing_in, listing_for, val_at, step_val, all_vals, order_names, row_cursor_of, fetch_cursor, item_cursor, cell_in}
use Rattle.plan_steps.proofs.Due.{picked_ordered, all_rows, plain_fetch, no_fetch}
use Rattle.plan_steps.proofs.Earlier.{names_earlier}
use Rattle.plan_steps.proofs.Listings.{listing_by, listing_is}
use Rattle.plan_steps.proofs.Vals.{val_of, val_item, val_before, key_taken, row_onto}

-- what a fetch that serves finds for the key that is due
abbrev pub listing_due : Tables → Fetch → Bool → List Cell → Listing
listing_due tables due rows key =
    let list = ordered due.order (picked tables due.table due.by key due.condition) in
    let places = interval_of due.order due.window list in
    record { total = length list; from = places.0; to = places.1; rows = part_of rows places list }

-- the place itself shows rows
needs_in : (base : BaseParts) (places : List Place) (i j : ℕ) (p : Place) → slice_get places i ≡ Some p → p.parent ≡ Some j → shows_rows (does_of base.schema p) ≡ true → needs_rows base.schema places j ≡ true
needs_in base [] i j p at above h = cc
needs_in base (q ∷ places) zero j p at above h =
    let same : q ≡ p = cc in
    let a : same_place q.parent (Some j) ≡ true = ap (λ z. same_place z.parent (Some j)) same ∙ ap (λ o. same_place o (Some j)) above ∙ eq-eqb j j refl in
    let b : shows_rows (does_of base.schema q) ≡ true = ap (λ z. shows_rows (does_of base.schema z)) same ∙ h in
    ap (λ x. (x && shows_rows (does_of base.schema q)) || needs_rows base.schema places j) a ∙ ap (λ x. x || needs_rows base.schema places j) b
needs_in base (q ∷ places) (suc i) j p at above h = or_right (same_place q.parent (Some j) && shows_rows (does_of base.schema q)) _ (needs_in base places i j p at above h) where
  or_right : (a b : Bool) → b ≡ true → (a || b) ≡ true
  or_right true b h = refl
  or_right false b h = h

module _ (m : Moment) (plan : Plan) (tree : Tree) (before : (k : ℕ) (s : Step) → slice_get plan.steps k ≡ Some s → IfSome (named_by s) (λ j. j < k)) where
  earlier : (k q : ℕ) (f : FetchStep) → slice_get plan.steps k ≡ Some (step.Fetch f) → (out-FetchStep f).parent ≡ Some q → q < k
  earlier k q f at e = subst (λ o. IfSome o (λ j. j < k)) e (before k (step.Fetch f) at)

  abbrev vals : Path → List Val
  vals path = all_vals m plan.steps path

  -- ---- what places stand on

  abbrev LikeRow : ℕ → Path → Row → Type 0
  LikeRow k path row = row_on path k ≡ Some row

  abbrev at_step : Path → ℕ → Listing
  at_step path k = listing_in (val_at (vals path) k)

  -- a fetch of this table and order, with these names
  pub record IsCursorOf (k table : ℕ) (names : List (List ℕ)) (order : List By) : Type 0 where
    fetch : FetchStep
    is_fetch : slice_get plan.steps k ≡ Some (step.Fetch fetch)
    of_table : (out-FetchStep fetch).table ≡ table
    of_order : (out-FetchStep fetch).order ≡ order
    of_names : order_names m.base table order ≡ names

  -- the list of a fetch
  pub record IsList (k : ℕ) (path : Path) (l : Listed) : Type 0 where
    cursors : IsCursorOf k l.table l.names l.order
    total : (at_step path k).total ≡ l.total
    from : (at_step path k).from ≡ l.from
    to : (at_step path k).to ≡ l.to

  abbrev needs_at : Option ℕ → Bool
  needs_at None = false
  needs_at (Some i) = needs_rows m.base.schema tree.places i

  abbrev pub Stands : Option ℕ → Basis → Path → Stand → Type 0
  Stands i OnNothing path s = ⊤
  Stands i (OnRow k) path s = (row : Row) × (s ≡ AtRow row) × LikeRow k path row
  Stands i (OnList k) path s = (l : Listed) × (s ≡ AtList l) × IsList k path l × (needs_at i ≡ true → (at_step path k).rows ≡ l.rows)
  Stands i (OnPage k) path s = (l : Listed) × (s ≡ AtList l) × IsList k path l × ((at_step path k).rows ≡ l.rows)
  Stands i (OnEdge k) path s = (e : Edge) × (s ≡ AtEdge e) × LikeRow k path e.row × IsCursorOf k e.table e.names e.order
  Stands i OnPayload path s = (row : Row) × (s ≡ AtPayload row) × (m.given ≡ Some row)
  Stands i OnGiven path s = (row : Row) × (s ≡ AtRow row) × (m.given ≡ Some row)

  -- ---- rows and keys

  given_val : (o : Option Row) → row_in (val_of_row o) ≡ o
  given_val None = refl
  given_val (Some row) = refl

  -- the row of a step that is the row on which a place stands
  row_val : (i : Option ℕ) (h : Basis) (path : Path) (s : Stand) → Stands i h path s → (item : ℕ) → IsRow plan.steps h item → (row : Row) × (stand_cells s ≡ row.cells) × (row_in (val_at (vals path) item) ≡ Some row)
  row_val i (OnRow k) path s st item is = (st.0, ap stand_cells st.1, val_item m path plan.steps item k is ∙ st.2)
  row_val i OnGiven path s st item is = (st.0, ap stand_cells st.1, ap row_in (val_of m path plan.steps item step.Given is) ∙ given_val m.given ∙ st.2)
  row_val i _ path s st item is = absurd is

  pub key_due : (i : Option ℕ) (h : Basis) (path : Path) (s : Stand) → Stands i h path s → (f : FetchStep) (key : KeyCells) → KeyServes plan.steps h m.base m.vars f key → key_at m f (vals path) ≡ Some (key_of key (stand_cells s))
  key_due i h path s st f (Given cells) q = ap (key_by m f (vals path)) q.0 ∙ ap (λ c. Some c) q.1
  key_due i h path s st f (OfParent columns) q =
      let r = row_val i h path s st q.0 q.2 in
      ap (key_by m f (vals path)) q.1 ∙ ap (key_from (out-FetchStep f).parent_columns) r.2 ∙ ap (λ cs. Some (cells_at cs r.0.cells)) q.3 ∙ ap (λ cells. Some (cells_at columns cells)) (sym r.1)

  -- the listing of a fetch that serves
  pub listing_served : (h : Basis) (i : ℕ) (f : FetchStep) (due : Fetch) → FetchServes plan.steps h m.base tree m.vars i f due → (key : List Cell) → listing_for m f (Some key) ≡ listing_due m.tables due (out-FetchStep f).rows key
  listing_served h i f due q key =
      listing_is m.base m.tables m.vars f key
      ∙ (λ j. listing_by m.tables (record { table = q.table j; by = q.by j; condition = q.condition j; order = q.order j; window = q.window j; rows = (out-FetchStep f).rows; children = [] }) key)

  pub step_listing : (path : Path) (k : ℕ) (f : FetchStep) → slice_get plan.steps k ≡ Some (step.Fetch f) → at_step path k ≡ listing_for m f (key_at m f (vals path))
  step_listing path k f at =
      ap listing_in (val_of m path plan.steps k (step.Fetch f) at) ∙ ap (listing_for m f) (key_taken m path plan.steps k f (λ q e. earlier k q f at e))

  pub found_due : (i : ℕ) (parent : Option ℕ) (h : Basis) (path : Path) (s : Stand) → Stands parent h path s → (k : ℕ) (f : FetchStep) → slice_get plan.steps k ≡ Some (step.Fetch f) → (due : Fetch) → FetchServes plan.steps h m.base tree m.vars i f due →
      at_step path k ≡ listing_due m.tables due (out-FetchStep f).rows (key_of due.key (stand_cells s))
  found_due i parent h path s st k f at due q =
      step_listing path k f at ∙ ap (listing_for m f) (key_due parent h path s st f due.key q.key) ∙ listing_served h i f due q (key_of due.key (stand_cells s))

  -- ---- row fields

  listed_stands : (i : ℕ) (parent : Option ℕ) (h below : Basis) (path : Path) (s : Stand) → Stands parent h path s → (k : ℕ) (f : FetchStep) → slice_get plan.steps k ≡ Some (step.Fetch f) → (due : Fetch) → FetchServes plan.steps h m.base tree m.vars i f due →
      below ≡ OnList k → Stands (Some i) below path (AtList (listed due (list_found m.tables due (stand_cells s))))
  listed_stands i parent h below path s st k f at due q e =
      let found = found_due i parent h path s st k f at due q in
      let l = listed due (list_found m.tables due (stand_cells s)) in
      subst (λ b. Stands (Some i) b path (AtList l)) (sym e) (
        l,
        refl,
        record {
          cursors = record { fetch = f; is_fetch = at; of_table = q.table; of_order = q.order; of_names = q.names };
          total = ap (λ z. z.total) found;
          from = ap (λ z. z.from) found;
          to = ap (λ z. z.to) found;
        },
        λ needs. ap (λ z. z.rows) found ∙ ap (λ b. part_of b (l.from, l.to) (list_found m.tables due (stand_cells s))) (q.rows needs),
      )

  row_stands : (i k : ℕ) (below : Basis) (path : Path) (row : Row) → below ≡ OnRow k → Stands (Some i) below (onto k path row) (AtRow row)
  row_stands i k below path row e = subst (λ b. Stands (Some i) b (onto k path row) (AtRow row)) (sym e) (row, refl, row_onto path k row)

  one_agrees : (i k : ℕ) (below : Basis) (path : Path) → below ≡ OnRow k → (o : Option Row) → Agree (Stands (Some i) below) (one_row k path o) (row_or_null o)
  one_agrees i k below path e None = refl
  one_agrees i k below path e (Some row) = row_stands i k below path row e

  module _ (valid : AreValidTables m.base.catalog m.tables) where
    shape_agrees : (i : ℕ) (p : Place) (parent : Option ℕ) (h below : Basis) (path : Path) (s : Stand) → Stands parent h path s → (k : ℕ) (f : FetchStep) → slice_get plan.steps k ≡ Some (step.Fetch f) → (due : Fetch) → fetch_of m.base m.vars p ≡ Some due → FetchServes plan.steps h m.base tree m.vars i f due →
        (sh : Shape) → due.shape ≡ sh → below ≡ below_fetch sh k → Agree (Stands (Some i) below) (row_shown sh k path (at_step path k)) (found_by m.tables due sh (stand_cells s))
    shape_agrees i p parent h below path s st k f at due is q shape.List es e = listed_stands i parent h below path s st k f at due q e
    shape_agrees i p parent h below path s st k f at due is q shape.Row es e =
        let plain = plain_fetch m.base m.vars p due is es in
        let key = key_of due.key (stand_cells s) in
        let found = found_due i parent h path s st k f at due q in
        let rows : (at_step path k).rows ≡ picked m.tables due.table due.by key [] =
        ap (λ z. z.rows) found
        ∙ ap (λ b. part_of b (interval_of due.order due.window (ordered due.order (picked m.tables due.table due.by key due.condition))) (ordered due.order (picked m.tables due.table due.by key due.condition))) (q.one es)
        ∙ ap (λ o. rows_between (interval_of o due.window (ordered o (picked m.tables due.table due.by key due.condition))) (ordered o (picked m.tables due.table due.by key due.condition))) plain.0
        ∙ ap (λ w. rows_between (interval_of [] w (ordered [] (picked m.tables due.table due.by key due.condition))) (ordered [] (picked m.tables due.table due.by key due.condition))) plain.1
        ∙ all_rows (ordered [] (picked m.tables due.table due.by key due.condition))
        ∙ ap (λ c. ordered [] (picked m.tables due.table due.by key c)) plain.2
        ∙ picked_ordered m.tables m.base valid due.table due.by key [] in
        subst (λ l. Agree (Stands (Some i) below) (one_row k path (first_row l)) (row_or_null (first_row (picked m.tables due.table due.by key [])))) (sym rows) (one_agrees i k below path e (first_row (picked m.tables due.table due.by key [])))

    module _ (constraints : List Constraint) (fit : FitTree m.base m.vars tree) (hold : Hold constraints m.vars) where
      row_agrees : (i : ℕ) (p : Place) (parent : Option ℕ) (h below : Basis) (path : Path) (s : Stand) → Stands parent h path s → (k : ℕ) → RowFieldServes m.base tree constraints plan.steps i p h below k →
          (due : Fetch) → fetch_of m.base m.vars p ≡ Some due → (e : Option (List ℕ)) → argument_error m.base m.vars p ≡ e →
          Agree (Stands (Some i) below) (by_error e (row_shown due.shape k path (at_step path k))) (row_field m.tables e due (stand_cells s))
      row_agrees i p parent h below path s st k q due is (Some message) ee = refl
      row_agrees i p parent h below path s st k q due is None ee =
          let z = q.serves m.vars due fit hold is ee in
          shape_agrees i p parent h below path s st k q.fetch q.is_fetch due is z.0 due.shape refl z.1

  -- ---- other fields

  rows_agree : (i k : ℕ) (below : Basis) (path : Path) (rows : List Row) → below ≡ OnRow k → Paired (Stands (Some i) below) (map (onto k path) rows) (map AtRow rows)
  rows_agree i k below path [] e = tt
  rows_agree i k below path (row ∷ rows) e = (row_stands i k below path row e, rows_agree i k below path rows e)

  edges_agree : (i k : ℕ) (below : Basis) (path : Path) (l : Listed) → IsList k path l → (rows : List Row) → below ≡ OnEdge k → Paired (Stands (Some i) below) (map (onto k path) rows) (map (edge_of l) rows)
  edges_agree i k below path l is [] e = tt
  edges_agree i k below path l is (row ∷ rows) e =
      let edge : Edge = record { table = l.table; names = l.names; order = l.order; row = row } in
      (subst (λ b. Stands (Some i) b (onto k path row) (edge_of l row)) (sym e) (edge, refl, row_onto path k row, is.cursors), edges_agree i k below path l is rows e)

  -- the value of a step that names another one
  named_listing : (path : Path) (k j : ℕ) → j < k → listing_in (val_at (take k (vals path)) j) ≡ at_step path j
  named_listing path k j lt = ap listing_in (val_before m path plan.steps (vals path) k j lt)

  named_row : (path : Path) (k j : ℕ) → j < k → row_in (val_at (take k (vals path)) j) ≡ row_in (val_at (vals path) j)
  named_row path k j lt = ap row_in (val_before m path plan.steps (vals path) k j lt)

  cursor_same : (k table : ℕ) (names : List (List ℕ)) (order : List By) (of : IsCursorOf k table names order) (row : Row) → row_cursor_of m.base of.fetch row ≡ row_cursor m.base.catalog table names order row
  cursor_same k table names order of row =
      ap (λ x. row_cursor m.base.catalog x (order_names m.base x (out-FetchStep of.fetch).order) (out-FetchStep of.fetch).order row) of.of_table
      ∙ ap (λ x. row_cursor m.base.catalog table (order_names m.base table x) x row) of.of_order
      ∙ ap (λ x. row_cursor m.base.catalog table x order row) of.of_names

  optional_cursor : (k : ℕ) (l : Listed) (of : IsCursorOf k l.table l.names l.order) (o : Option Row) → fetch_cursor m.base (fetch_in (slice_get plan.steps k)) o ≡ cursor_or_null m.base.catalog l o
  optional_cursor k l of None = ap (λ s. fetch_cursor m.base (fetch_in s) None) of.is_fetch
  optional_cursor k l of (Some row) = ap (λ s. fetch_cursor m.base (fetch_in s) (Some row)) of.is_fetch ∙ cursor_same k l.table l.names l.order of row

  edge_cursor_is : (k : ℕ) (e : Edge) (of : IsCursorOf k e.table e.names e.order) → fetch_cursor m.base (fetch_in (slice_get plan.steps k)) (Some e.row) ≡ row_cursor m.base.catalog e.table e.names e.order e.row
  edge_cursor_is k e of = ap (λ s. fetch_cursor m.base (fetch_in s) (Some e.row)) of.is_fetch ∙ cursor_same k e.table e.names e.order of e.row

  -- the list or page on which a place stands
  listed_at : (i : Option ℕ) (h : Basis) (path : Path) (s : Stand) → Stands i h path s → (k : ℕ) → IsListOn h k → (l : Listed) × (s ≡ AtList l) × IsList k path l
  listed_at i (OnList t) path s st k is = (st.0, st.1, subst (λ j. IsList j path st.0) is st.2)
  listed_at i (OnPage t) path s st k is = (st.0, st.1, subst (λ j. IsList j path st.0) is st.2)
  listed_at i _ path s st k is = absurd is

  paged_at : (i : Option ℕ) (h : Basis) (path : Path) (s : Stand) → Stands i h path s → (k : ℕ) → h ≡ OnPage k → (l : Listed) × (s ≡ AtList l) × IsList k path l × ((at_step path k).rows ≡ l.rows)
  paged_at i h path s st k is = subst (λ b. Stands i b path s) is st

  -- the rows of a list below which rows are shown
  shown_at_list : (i : ℕ) (p : Place) (parent : Option ℕ) (bases : ℕ → Basis) (path : Path) (s : Stand) → slice_get tree.places i ≡ Some p → p.parent ≡ parent → shows_rows (does_of m.base.schema p) ≡ true → (k : ℕ) → basis_above bases parent ≡ OnList k → Stands parent (basis_above bases parent) path s →
      (l : Listed) × (s ≡ AtList l) × IsList k path l × ((at_step path k).rows ≡ l.rows)
  shown_at_list i p None bases path s at e shows k is st = cc
  shown_at_list i p (Some j) bases path s at e shows k is st =
      let z = subst (λ b. Stands (Some j) b path s) is st in
      (z.0, z.1, z.2, z.3 (needs_in m.base tree.places i j p at e shows))

  module _ (constraints : List Constraint) (fit : FitTree m.base m.vars tree) (bases : ℕ → Basis) where
    leaf_is : (k : ℕ) (path : Path) (s : Step) → slice_get plan.steps k ≡ Some s → val_at (vals path) k ≡ step_val m plan.steps path (take k (vals path)) s
    leaf_is k path s at = val_of m path plan.steps k s at

    -- a constant or a variable shows what it holds
    id_agrees : (path : Path) (k : ℕ) (ty : _) (due : Leaf) (s : Option Step) → slice_get plan.steps k ≡ s → IsSomeAnd (input_of m.vars s) (λ v. input_leaf v ≡ due) → denoted.leaf_in m.base.schema ty (val_at (vals path) k) ≡ due
    id_agrees path k ty due (Some (step.Const v)) at h = ap (denoted.leaf_in m.base.schema ty) (leaf_is k path (step.Const v) at) ∙ h
    id_agrees path k ty due (Some (step.Var p)) at h = ap (denoted.leaf_in m.base.schema ty) (leaf_is k path (step.Var p) at) ∙ h
    id_agrees path k ty due _ at h = absurd h

    other_agrees : (i : ℕ) (p : Place) (f : FieldDef) (path : Path) (s : Stand) → slice_get tree.places i ≡ Some p → does_of m.base.schema p ≡ Some f.does → Stands p.parent (basis_above bases p.parent) path s → (k : ℕ) (d : Does) → f.does ≡ d → is_row_field (Some d) ≡ false → is_mutation (Some d) ≡ false →
        OtherServes m.base tree plan.steps p (basis_above bases p.parent) (bases i) k (Some d) →
        Agree (Stands (Some i) (bases i)) (denoted.other_shown m.base.schema f.ty d k path (val_at (vals path) k)) (other_field m.base m.vars tree.places p f d s)
    other_agrees i p f path s at is st k (does.Column t c) e row mut q =
        let r = row_val p.parent (basis_above bases p.parent) path s st q.0 q.2 in
        let lt = before k (step.Column q.0 c) q.1 in
        ap (denoted.leaf_in m.base.schema f.ty) (leaf_is k path (step.Column q.0 c) q.1)
        ∙ ap (λ o. leaf_of m.base.schema f.ty (cell_in o c)) (named_row path k q.0 lt ∙ r.2)
        ∙ ap (λ cells. leaf_of m.base.schema f.ty (cell_at cells c)) (sym r.1)
    other_agrees i p f path s at is st k does.Nodes e row mut q =
        let z = shown_at_list i p p.parent bases path s at refl (ap shows_rows (is ∙ ap (λ d. Some d) e)) k q.0 st in
        subst (λ x. Agree (Stands (Some i) (bases i)) (Many (map (onto k path) (at_step path k).rows)) (nodes_at x)) (sym z.1)
        (subst (λ rows. Paired (Stands (Some i) (bases i)) (map (onto k path) rows) (map AtRow z.0.rows)) (sym z.3) (rows_agree i k (bases i) path z.0.rows q.1))
    other_agrees i p f path s at is st k does.Edges e row mut q =
        let z = shown_at_list i p p.parent bases path s at refl (ap shows_rows (is ∙ ap (λ d. Some d) e)) k q.0 st in
        subst (λ x. Agree (Stands (Some i) (bases i)) (Many (map (onto k path) (at_step path k).rows)) (edges_at x)) (sym z.1)
        (subst (λ rows. Paired (Stands (Some i) (bases i)) (map (onto k path) rows) (map (edge_of z.0) z.0.rows)) (sym z.3) (edges_agree i k (bases i) path z.0 z.2 z.0.rows q.1))
    other_agrees i p f path s at is st k does.PageInfo e row mut q =
        let z = shown_at_list i p p.parent bases path s at refl (ap shows_rows (is ∙ ap (λ d. Some d) e)) k q.0 st in
        subst (λ x. Agree (Stands (Some i) (bases i)) (One path) (page_at x)) (sym z.1) (subst (λ b. Stands (Some i) b path (AtList z.0)) (sym q.1) (z.0, refl, z.2, z.3))
    other_agrees i p f path s at is st k does.Node e row mut q =
        let z : Stands p.parent (OnEdge q.0) path s = subst (λ b. Stands p.parent b path s) q.1 st in
        subst (λ x. Agree (Stands (Some i) (bases i)) (One path) (node_at x)) (sym z.1) (subst (λ b. Stands (Some i) b path (AtRow z.0.row)) (sym q.2) (z.0.row, refl, z.2))
    other_agrees i p f path s at is st k does.Payload e row mut q =
        let z : Stands p.parent OnPayload path s = subst (λ b. Stands p.parent b path s) q.0 st in
        subst (λ x. Agree (Stands (Some i) (bases i)) (One path) (payload_at x)) (sym z.1) (subst (λ b. Stands (Some i) b path (AtRow z.0)) (sym q.1) (z.0, refl, z.2))
    other_agrees i p f path s at is st k does.Total e row mut q =
        let z = listed_at p.parent (basis_above bases p.parent) path s st q.0 q.2 in
        let lt = before k (step.Count q.0) q.1 in
        ap (denoted.leaf_in m.base.schema f.ty) (leaf_is k path (step.Count q.0) q.1)
        ∙ ap (λ l. number_leaf l.total) (named_listing path k q.0 lt)
        ∙ ap number_leaf z.2.total
        ∙ ap (of_list total_of) (sym z.1)
    other_agrees i p f path s at is st k does.HasNext e row mut q =
        let z = paged_at p.parent (basis_above bases p.parent) path s st q.0 q.2 in
        let lt = before k (step.Page q.0 0) q.1 in
        ap (denoted.leaf_in m.base.schema f.ty) (leaf_is k path (step.Page q.0 0) q.1)
        ∙ ap (λ l. truth (nat_lt l.to l.total)) (named_listing path k q.0 lt)
        ∙ ap (λ n. truth (nat_lt n (at_step path q.0).total)) z.2.to ∙ ap (λ n. truth (nat_lt z.0.to n)) z.2.total
        ∙ ap (of_list has_next) (sym z.1)
    other_agrees i p f path s at is st k does.HasPrevious e row mut q =
        let z = paged_at p.parent (basis_above bases p.parent) path s st q.0 q.2 in
        let lt = before k (step.Page q.0 1) q.1 in
        ap (denoted.leaf_in m.base.schema f.ty) (leaf_is k path (step.Page q.0 1) q.1)
        ∙ ap (λ l. truth (nat_lt 0 l.from)) (named_listing path k q.0 lt)
        ∙ ap (λ n. truth (nat_lt 0 n)) z.2.from
        ∙ ap (of_list has_previous) (sym z.1)
    other_agrees i p f path s at is st k does.Start e row mut q =
        let z = paged_at p.parent (basis_above bases p.parent) path s st q.0 q.2 in
        let lt = before k (step.Page q.0 2) q.1 in
        ap (denoted.leaf_in m.base.schema f.ty) (leaf_is k path (step.Page q.0 2) q.1)
        ∙ ap (λ l. fetch_cursor m.base (fetch_in (slice_get plan.steps q.0)) (first_row l.rows)) (named_listing path k q.0 lt)
        ∙ ap (λ rows. fetch_cursor m.base (fetch_in (slice_get plan.steps q.0)) (first_row rows)) z.3
        ∙ optional_cursor q.0 z.0 z.2.cursors (first_row z.0.rows)
        ∙ ap (of_list (start_of m.base.catalog)) (sym z.1)
    other_agrees i p f path s at is st k does.End e row mut q =
        let z = paged_at p.parent (basis_above bases p.parent) path s st q.0 q.2 in
        let lt = before k (step.Page q.0 3) q.1 in
        ap (denoted.leaf_in m.base.schema f.ty) (leaf_is k path (step.Page q.0 3) q.1)
        ∙ ap (λ l. fetch_cursor m.base (fetch_in (slice_get plan.steps q.0)) (last_row l.rows)) (named_listing path k q.0 lt)
        ∙ ap (λ rows. fetch_cursor m.base (fetch_in (slice_get plan.steps q.0)) (last_row rows)) z.3
        ∙ optional_cursor q.0 z.0 z.2.cursors (last_row z.0.rows)
        ∙ ap (of_list (end_of m.base.catalog)) (sym z.1)
    other_agrees i p f path s at is st k does.Cursor e row mut q =
        let z : Stands p.parent (OnEdge q.0) path s = subst (λ b. Stands p.parent b path s) q.4 st in
        let lt = before k (step.CursorOf q.1) q.2 in
        ap (denoted.leaf_in m.base.schema f.ty) (leaf_is k path (step.CursorOf q.1) q.2)
        ∙ ap (item_cursor m.base plan.steps (item_in (slice_get plan.steps q.1))) (named_row path k q.1 lt ∙ val_item m path plan.steps q.1 q.0 q.3 ∙ z.2)
        ∙ ap (λ o. item_cursor m.base plan.steps (item_in o) (Some z.0.row)) q.3
        ∙ edge_cursor_is q.0 z.0 z.3
        ∙ ap (edge_cursor m.base.catalog) (sym z.1)
    other_agrees i p f path s at is st k does.ClientId e row mut q = id_agrees path k f.ty (client_id m.vars (place_above tree.places p)) (slice_get plan.steps k) refl (q m.vars fit)
    other_agrees i p f path s at is st k (does.All t) e row mut q = cc
    other_agrees i p f path s at is st k (does.ByKey t c) e row mut q = cc
    other_agrees i p f path s at is st k (does.Forward t c) e row mut q = cc
    other_agrees i p f path s at is st k (does.Backward t c) e row mut q = cc
    other_agrees i p f path s at is st k (does.Create t) e row mut q = cc
    other_agrees i p f path s at is st k (does.Update t c) e row mut q = cc
    other_agrees i p f path s at is st k (does.Delete t c) e row mut q = cc

    -- a place without a field is a `__typename`
    none_agrees : (i : ℕ) (p : Place) (path : Path) (s : Stand) (k : ℕ) → (p.field == typename) ≡ true → slice_get plan.steps k ≡ Some (step.Const (value.Text (type_name_at m.base.schema p.ty))) →
        Agree (Stands (Some i) (bases i)) (denoted.by_field m.base None k path (val_at (vals path) k)) (by_field m.base m.vars tree.places p None s)
    none_agrees i p path s k named at =
        subst (λ b. Agree (Stands (Some i) (bases i)) (denoted.by_field m.base None k path (val_at (vals path) k)) (cond b (Shows (text (type_name_at m.base.schema p.ty))) (Shows null))) (sym named)
        (ap (denoted.leaf_in m.base.schema nullable) (leaf_is k path _ at))

    -- a row field whose link or key isn't there shows null
    absent_agrees : (i : ℕ) (p : Place) (path : Path) (s : Stand) (k : ℕ) (f : FetchStep) → slice_get plan.steps k ≡ Some (step.Fetch f) → (o : Option FieldDef) → is_row_field (option_map (λ f. f.does) o) ≡ true →
        Agree (Stands (Some i) (bases i)) (denoted.by_field m.base o k path (val_at (vals path) k)) (by_field m.base m.vars tree.places p o s)
    absent_agrees i p path s k f at None row = cc
    absent_agrees i p path s k f at (Some d) row = by_does d.does row where
      leaf_null : (ty : _) → denoted.leaf_in m.base.schema ty (val_at (vals path) k) ≡ null
      leaf_null ty = ap (denoted.leaf_in m.base.schema ty) (leaf_is k path (step.Fetch f) at)

      by_does : (x : Does) → is_row_field (Some x) ≡ true → Agree (Stands (Some i) (bases i)) (denoted.other_shown m.base.schema d.ty x k path (val_at (vals path) k)) (other_field m.base m.vars tree.places p d x s)
      by_does (does.All t) h = leaf_null d.ty
      by_does (does.ByKey t c) h = leaf_null d.ty
      by_does (does.Forward t c) h = leaf_null d.ty
      by_does (does.Backward t c) h = leaf_null d.ty
      by_does _ h = cc

    module _ (valid : AreValidTables m.base.catalog m.tables) (hold : Hold constraints m.vars) (named : (i : ℕ) (p : Place) → slice_get tree.places i ≡ Some p → field_of m.base.schema p ≡ None → (p.field == typename) ≡ true) where
      fields_agree : (i : ℕ) (p : Place) (path : Path) (s : Stand) → slice_get tree.places i ≡ Some p → Stands p.parent (basis_above bases p.parent) path s → is_mutation (does_of m.base.schema p) ≡ false → (k : ℕ) →
          (rows : Bool) → is_row_field (does_of m.base.schema p) ≡ rows → ServesBy rows m.base tree constraints plan.steps i p (basis_above bases p.parent) (bases i) k →
          (o : Option Fetch) → fetch_of m.base m.vars p ≡ o →
          Agree (Stands (Some i) (bases i)) (denoted.by_fetch m.base m.vars p o k path (val_at (vals path) k)) (by_fetch m.base m.tables m.vars tree.places p o s)
      fields_agree i p path s at st mut k true row q (Some due) is =
          row_agrees valid constraints fit hold i p p.parent (basis_above bases p.parent) (bases i) path s st k q due is (argument_error m.base m.vars p) refl
      fields_agree i p path s at st mut k true row q None is = absent_agrees i p path s k q.fetch q.is_fetch (field_of m.base.schema p) row
      fields_agree i p path s at st mut k false row q (Some due) is = let none = sym (no_fetch m.base m.vars p row) ∙ is in cc
      fields_agree i p path s at st mut k false row q None is = by_definition (field_of m.base.schema p) refl where
        by_definition : (o : Option FieldDef) → field_of m.base.schema p ≡ o → Agree (Stands (Some i) (bases i)) (denoted.by_field m.base o k path (val_at (vals path) k)) (by_field m.base m.vars tree.places p o s)
        by_definition None e = none_agrees i p path s k (named i p at e) (subst (λ o. OtherServes m.base tree plan.steps p (basis_above bases p.parent) (bases i) k (option_map (λ f. f.does) o)) e q)
        by_definition (Some f) e =
            let d : does_of m.base.schema p ≡ Some f.does = ap (option_map (λ f. f.does)) e in
            other_agrees i p f path s at d st k f.does refl (sym (ap is_row_field d) ∙ row) (sym (ap is_mutation d) ∙ mut)
            (subst (λ o. OtherServes m.base tree plan.steps p (basis_above bases p.parent) (bases i) k o) d q)

      pub place_agrees : (i : ℕ) (p : Place) (path : Path) (s : Stand) → slice_get tree.places i ≡ Some p → Stands p.parent (basis_above bases p.parent) path s → is_mutation (does_of m.base.schema p) ≡ false → Serves m.base tree constraints plan bases i p →
          Agree (Stands (Some i) (bases i)) (denoted.denoted m plan i p path) (resolved m.base m.tables m.vars tree.places p s)
      unfolding resolved
      place_agrees i p path s at st mut sv =
          subst (λ o. Agree (Stands (Some i) (bases i)) (denoted.shown_at m p o path (vals path)) (by_fetch m.base m.tables m.vars tree.places p (fetch_of m.base m.vars p) s)) (sym sv.is_out)
          (fields_agree i p path s at st mut sv.at (is_row_field (does_of m.base.schema p)) refl sv.fits (fetch_of m.base m.vars p) refl)

-- a tree of places over a schema: what has no field is a `__typename`, and a mutation field stands at the root of a tree that is no query's
pub record IsTreeOf (base : BaseParts) (tree : Tree) (r : RootOf) : Type 0 where
  pub named : (i : ℕ) (p : Place) → slice_get tree.places i ≡ Some p → field_of base.schema p ≡ None → (p.field == typename) ≡ true
  pub at_root : (i : ℕ) (p : Place) → slice_get tree.places i ≡ Some p → is_mutation (does_of base.schema p) ≡ true → p.parent ≡ None
  pub query : r ≡ root.Query → (i : ℕ) (p : Place) → slice_get tree.places i ≡ Some p → is_mutation (does_of base.schema p) ≡ false
  pub field : (place : ℕ) (row : Row) → r ≡ root.Field place row → (p : Place) × (slice_get tree.places place ≡ Some p) × (is_mutation (does_of base.schema p) ≡ true)

module _ (m : Moment) (plan : Plan) (tree : Tree) (before : (k : ℕ) (s : Step) → slice_get plan.steps k ≡ Some s → IfSome (named_by s) (λ j. j < k)) (bases : ℕ → Basis) where
  -- below a mutation field
  abbrev pub Below : Option ℕ → Path → Stand → Type 0
  Below None path s = ⊥
  Below (Some j) path s = Stands m plan tree before (Some j) (bases j) path s

  pub below_stands : (parent : Option ℕ) (path : Path) (s : Stand) → Below parent path s → Stands m plan tree before parent (basis_above bases parent) path s
  below_stands None path s h = absurd h
  below_stands (Some j) path s h = h

-- the law: steps that serve the places show what execution gives
pub served : (base : BaseParts) (plan : Plan) (tree : Tree) (constraints : List Constraint) → ((k : ℕ) (s : Step) → slice_get plan.steps k ≡ Some s → IfSome (named_by s) (λ j. j < k)) → ServesAll base tree constraints plan →
    (tables : Tables) (vars : Vars) (r : RootOf) → IsTreeOf base tree r → AreValidTables base.catalog tables → FitTree base vars tree → Hold constraints vars →
    denoted.denotation base tables vars plan tree r ≡ executed_for base tables vars tree r
served base plan tree constraints before all tables vars root.Query ofs valid fit hold =
    let m = denoted.moment base tables vars root.Query in
    members_same (λ parent path s. Stands m plan tree before parent (basis_above all.bases parent) path s) (denoted.denoted m plan) (λ i p s. resolved base tables vars tree.places p s) tree.places
    (λ i p path s at st. let mut = ofs.query refl i p at in place_agrees m plan tree before constraints fit all.bases valid hold ofs.named i p path s at st mut (all.each i p at mut))
    None [] Root tt
served base plan tree constraints before all tables vars (root.Field place row) ofs valid fit hold =
    let m = denoted.moment base tables vars (root.Field place row) in
    let here = ofs.field place row refl in
    let payload = all.payloads place here.0 here.1 here.2 in
    members_same (Below m plan tree before all.bases) (denoted.denoted m plan) (λ i p s. resolved base tables vars tree.places p s) tree.places
    (λ i p path s at st. by_kind i p path s at st (is_mutation (does_of base.schema p)) refl)
    (Some place) [] (AtPayload row) (subst (λ h. Stands m plan tree before (Some place) h [] (AtPayload row)) (sym payload) (row, refl, refl))
  where
    by_kind : (i : ℕ) (p : Place) (path : Path) (s : Stand) → slice_get tree.places i ≡ Some p → Below (denoted.moment base tables vars (root.Field place row)) plan tree before all.bases p.parent path s → (b : Bool) → is_mutation (does_of base.schema p) ≡ b → Agree (Below (denoted.moment base tables vars (root.Field place row)) plan tree before all.bases (Some i)) (denoted.denoted (denoted.moment base tables vars (root.Field place row)) plan i p path) (resolved base tables vars tree.places p s)
    by_kind i p path s at st true e = absurd (subst (λ q. Below (denoted.moment base tables vars (root.Field place row)) plan tree before all.bases q path s) (ofs.at_root i p at e) st)
    by_kind i p path s at st false e =
        place_agrees (denoted.moment base tables vars (root.Field place row)) plan tree before constraints fit all.bases valid hold ofs.named i p path s at (below_stands (denoted.moment base tables vars (root.Field place row)) plan tree before all.bases p.parent path s st) e (all.each i p at e)

-- ---- soundness

pub each_at : {A : Type 0} (P : A → Type 0) (xs : List A) (k : ℕ) (x : A) → Each P xs → slice_get xs k ≡ Some x → P x
each_at P [] k x h e = cc
each_at P (y ∷ ys) zero x h e = let same : y ≡ x = cc in subst P same h.0
each_at P (y ∷ ys) (suc k) x h e = each_at P ys k x h.1 e

mutated_is : (d : Option Does) (t : ℕ) → mutated d ≡ Some t → is_mutation d ≡ true
mutated_is (Some (does.Create t)) n e = refl
mutated_is (Some (does.Update t k)) n e = refl
mutated_is (Some (does.Delete t k)) n e = refl
mutated_is _ n e = cc

pub some_and : {A : Type 0} (P : A → Type 0) (o : Option A) → IsSomeAnd o P → (x : A) × (o ≡ Some x) × P x
some_and P None h = absurd h
some_and P (Some x) h = (x, refl, h)

pub tree_for : (base : BaseParts) (tree : Tree) (r : RootOf) → IsWellMade base tree → IsRootOf base tree r → IsTreeOf base tree r
tree_for base tree root.Query made is = record {
  named = made.named;
  at_root = made.at_root;
  query = λ e i p at. each_at (λ p. is_mutation (does_of base.schema p) ≡ false) tree.places i p is at;
  field = λ place row e. cc;
}
tree_for base tree (root.Field place row) made is =
    let a = some_and _ (slice_get tree.places place) is in
    let b = some_and _ (mutated (does_of base.schema a.0)) a.2 in
    record {
      named = made.named;
      at_root = made.at_root;
      query = λ e. cc;
      field = λ other given e. let same : place ≡ other = ap place_of e in (a.0, subst (λ j. slice_get tree.places j ≡ Some a.0) same a.1, mutated_is (does_of base.schema a.0) b.0 b.1);
    }
  where
    place_of : RootOf → ℕ
    place_of root.Query = 0
    place_of (root.Field j row) = j

-- the law: a checked plan whose steps serve all places, and that finds no more rows than are visited, is sound
pub serves_sound : ServedPlansAreSound
serves_sound base plan tree constraints made ok all follow few = record {
  checked = ok;
  follow = follow;
  same = λ tables vars r may.
      served base plan tree constraints (names_earlier base tree plan ok) all tables vars r (tree_for base tree r made may.of_tree) may.valid may.fit may.hold;
  few = few;
}
