-- The places of a plan of fetches show as many rows as execution visits.
use Rattle.std.proofs.Common.{◌≡◌, ℕ, ◌+◌, ◌-◌, ◌<◌, List, [], Option, Some, None, Bool, true, false, cond, refl, sym, ap, ◌∙◌, subst}
use Rattle.std.specs.Prelude.{slice_get, is_some, IfSome}
use Rattle.pg_base.specs.Base.{BaseParts}
use Rattle.pg_base.specs.declared.does.Does.{Does}
use Rattle.pg_base.specs.declared.does.Does.TheVariants as does
use Rattle.pg_base.specs.declared.vars.Vars.{Vars}
use Rattle.rel_model.specs.declared.tables.Row.{Row}
use Rattle.rel_model.specs.declared.tables.Tables.{Tables}
use Rattle.rel_model.specs.Picked.{picked}
use Rattle.place_tree.specs.declared.fetch.Fetch.{Fetch}
use Rattle.place_tree.specs.declared.fetch.Shape.{Shape}
use Rattle.place_tree.specs.declared.fetch.Shape.TheVariants as shape
use Rattle.place_tree.specs.declared.place.Place.{Place}
use Rattle.place_tree.specs.declared.place.Tree.{Tree}
use Rattle.place_tree.specs.declared.stand.Stand.{Stand}
use Rattle.place_tree.specs.declared.stand.Stand.TheVariants.{Root as AtRoot, AtPayload}
use Rattle.place_tree.specs.Exec.{stand_cells, key_of, first_row, row_or_null, found_by, row_field, needs_rows, rows_in, cost, by_fetch, resolved}
use Rattle.place_tree.specs.Fetch.{fetch_of, argument_error}
use Rattle.place_tree.specs.Fields.{does_of, is_row_field}
use Rattle.place_tree.specs.Needs.{is_mutation}
use Rattle.place_tree.specs.Spent.{answer_cost}
use Rattle.place_tree.proofs.Folds.{folds_same}
use Rattle.plan_constraints.specs.declared.constraint.Constraint.{Constraint}
use Rattle.plan_steps.specs.declared.plan.FetchStep.{FetchStep}
use Rattle.plan_steps.specs.declared.plan.Plan.{Plan}
use Rattle.plan_steps.specs.declared.plan.Root.{Root}
use Rattle.plan_steps.specs.declared.plan.Root.TheVariants as root
use Rattle.plan_steps.specs.declared.plan.Step.{Step}
use Rattle.plan_steps.specs.declared.plan.Step.TheVariants as step
use Rattle.plan_steps.specs.Denoted.{denoted, moment}
use Rattle.plan_steps.specs.Named.{named_by}
use Rattle.plan_steps.specs.Sent.{one_if}
use Rattle.plan_steps.specs.Serves.{Basis, FetchServes, ServesBy, basis_above}
use Rattle.plan_steps.specs.Sound.{visited_for}
use Rattle.plan_steps.specs.Values.{Moment, Path, Listing, listing_in, listing_for, val_at, all_vals}
use Rattle.plan_steps.proofs.Due.{no_fetch}
use Rattle.plan_steps.proofs.Running.{Running, before, rows_picked}
use Rattle.plan_steps.proofs.Served.{Stands, Below, below_stands, key_due, step_listing, found_due, place_agrees}
use Rattle.batch_execute.specs.Denoted.{listing_shown, rows_of_step, denoted_rows, denoted_visits}
use Rattle.batch_execute.specs.Roles.{role_by, role_in, role_or, role_with, role_of}

one_shown : (needs : Bool) (o : Option Row) → one_if (is_some o) ≡ rows_in needs (row_or_null o)
one_shown needs None = refl
one_shown needs (Some row) = refl

-- a field that is no row field shows none
other_none : (d : Option Does) (l : Listing) → listing_shown (role_by d) l ≡ 0
other_none None l = refl
other_none (Some (does.Column table column)) l = refl
other_none (Some (does.Forward table link)) l = refl
other_none (Some (does.Backward table link)) l = refl
other_none (Some (does.All table)) l = refl
other_none (Some (does.ByKey table key)) l = refl
other_none (Some (does.Create table)) l = refl
other_none (Some (does.Update table key)) l = refl
other_none (Some (does.Delete table key)) l = refl
other_none (Some does.Nodes) l = refl
other_none (Some does.Edges) l = refl
other_none (Some does.PageInfo) l = refl
other_none (Some does.Node) l = refl
other_none (Some does.Payload) l = refl
other_none (Some does.Total) l = refl
other_none (Some does.HasNext) l = refl
other_none (Some does.HasPrevious) l = refl
other_none (Some does.Start) l = refl
other_none (Some does.End) l = refl
other_none (Some does.Cursor) l = refl
other_none (Some does.ClientId) l = refl

not_mutation : (m : Moment) (plan : Plan) (tree : Tree) (first : (k : ℕ) (s : Step) → slice_get plan.steps k ≡ Some s → IfSome (named_by s) (λ j. j < k)) (bases : ℕ → Basis) (p : Place) → (is_mutation (does_of m.base.schema p) ≡ true → p.parent ≡ None) → (path : Path) (s : Stand) → Below m plan tree first bases p.parent path s → is_mutation (does_of m.base.schema p) ≡ false
not_mutation m plan tree first bases p h path s st = by (is_mutation (does_of m.base.schema p)) refl where
  by : (b : Bool) → is_mutation (does_of m.base.schema p) ≡ b → b ≡ false
  by true e = absurd (subst (λ q. Below m plan tree first bases q path s) (h e) st)
  by false e = refl

module _ (m : Moment) (plan : Plan) (tree : Tree) (r : Root) (constraints : List Constraint) (run : Running m plan tree r constraints) where
  abbrev bases : ℕ → Basis
  bases = run.are.serves.bases

  abbrev first : (k : ℕ) (s : Step) → slice_get plan.steps k ≡ Some s → IfSome (named_by s) (λ j. j < k)
  first = before m plan tree r constraints run

  abbrev visiting : ℕ → Place → Stand → ℕ
  visiting i p s = cost m.base.schema tree.places i p (resolved m.base m.tables m.vars tree.places p s)

  abbrev listing : ℕ → Path → Listing
  listing k path = listing_in (val_at (all_vals m plan.steps path) k)

  resolved_is : (p : Place) (s : Stand) (due : Fetch) → fetch_of m.base m.vars p ≡ Some due → resolved m.base m.tables m.vars tree.places p s ≡ row_field m.tables (argument_error m.base m.vars p) due (stand_cells s)
  unfolding resolved
  resolved_is p s due is = ap (λ o. by_fetch m.base m.tables m.vars tree.places p o s) is

  visiting_is : (i : ℕ) (p : Place) (s : Stand) (due : Fetch) → is_row_field (does_of m.base.schema p) ≡ true → fetch_of m.base m.vars p ≡ Some due → visiting i p s ≡ rows_in (needs_rows m.base.schema tree.places i) (row_field m.tables (argument_error m.base m.vars p) due (stand_cells s))
  visiting_is i p s due row is =
      ap (λ b. cond b (rows_in (needs_rows m.base.schema tree.places i) (resolved m.base m.tables m.vars tree.places p s)) 0) row
      ∙ ap (rows_in (needs_rows m.base.schema tree.places i)) (resolved_is p s due is)

  module _ (i : ℕ) (p : Place) (path : Path) (s : Stand) (st : Stands m plan tree first p.parent (basis_above bases p.parent) path s) (k : ℕ) where
    -- a row field without an error
    shape_rows : (f : FetchStep) → slice_get plan.steps k ≡ Some (step.Fetch f) → (due : Fetch) → fetch_of m.base m.vars p ≡ Some due → FetchServes plan.steps (basis_above bases p.parent) m.base tree m.vars i f due →
        (sh : Shape) → due.shape ≡ sh → (needs : Bool) → listing_shown (role_in needs sh) (listing k path) ≡ rows_in needs (found_by m.tables due sh (stand_cells s))
    shape_rows f at due is q shape.List es true =
        ap (λ (l : Listing). l.to - l.from) (found_due m plan tree first i p.parent (basis_above bases p.parent) path s st k f at due q)
    shape_rows f at due is q shape.List es false = refl
    shape_rows f at due is q shape.Row es needs =
        let key = key_of due.key (stand_cells s) in
        let rows : (listing k path).rows ≡ picked m.tables due.table due.by key [] =
        ap (λ (l : Listing). l.rows) (step_listing m plan tree first path k f at ∙ ap (listing_for m f) (key_due m plan tree first p.parent (basis_above bases p.parent) path s st f due.key q.key))
        ∙ rows_picked m plan tree r constraints run (basis_above bases p.parent) i p f due is q es key in
        ap (λ l. one_if (is_some (first_row l))) rows ∙ one_shown needs (first_row (picked m.tables due.table due.by key []))

    field_rows : (rows : Bool) → is_row_field (does_of m.base.schema p) ≡ rows → ServesBy rows m.base tree constraints plan.steps i p (basis_above bases p.parent) (bases i) k → slice_get tree.places i ≡ Some p →
        listing_shown (role_of m.base m.vars tree.places i p) (listing k path) ≡ visiting i p s
    field_rows false row q at =
        ap (λ o. listing_shown (role_with m.base m.vars tree.places i p o) (listing k path)) (no_fetch m.base m.vars p row)
        ∙ other_none (does_of m.base.schema p) (listing k path)
        ∙ sym (ap (λ b. cond b (rows_in (needs_rows m.base.schema tree.places i) (resolved m.base m.tables m.vars tree.places p s)) 0) row)
    field_rows true row q at =
        let due = run.over_tree.asks i p m.vars at row in
        ap (λ o. listing_shown (role_with m.base m.vars tree.places i p o) (listing k path)) due.1
        ∙ by due.0 due.1 (argument_error m.base m.vars p) refl
        ∙ sym (visiting_is i p s due.0 row due.1)
      where
        by : (due : Fetch) → fetch_of m.base m.vars p ≡ Some due → (e : Option (List ℕ)) → argument_error m.base m.vars p ≡ e →
            listing_shown (role_or e (role_in (needs_rows m.base.schema tree.places i) due.shape)) (listing k path) ≡ rows_in (needs_rows m.base.schema tree.places i) (row_field m.tables e due (stand_cells s))
        by due is (Some message) e = refl
        by due is None e =
            let z = q.serves m.vars due run.fit run.hold is e in
            shape_rows q.fetch q.is_fetch due is z.0 due.shape refl (needs_rows m.base.schema tree.places i)

  pub rows_visited : (i : ℕ) (p : Place) (path : Path) (s : Stand) → slice_get tree.places i ≡ Some p → Stands m plan tree (before m plan tree r constraints run) p.parent (basis_above run.are.serves.bases p.parent) path s → is_mutation (does_of m.base.schema p) ≡ false →
      denoted_rows m plan tree i p path ≡ cost m.base.schema tree.places i p (resolved m.base m.tables m.vars tree.places p s)
  rows_visited i p path s at st mut =
      let sv = run.are.serves.each i p at mut in
      ap (rows_of_step m plan (role_of m.base m.vars tree.places i p) path) sv.is_out
      ∙ field_rows i p path s st sv.at (is_row_field (does_of m.base.schema p)) refl sv.fits at

module _ (base : BaseParts) (tables : Tables) (vars : Vars) (plan : Plan) (tree : Tree) (constraints : List Constraint) where
  abbrev At : Root → Moment
  At r = moment base tables vars r

  query_same : Running (moment base tables vars root.Query) plan tree root.Query constraints → denoted_visits base tables vars plan tree root.Query ≡ visited_for base tables vars tree root.Query
  query_same run =
      let m = At root.Query in
      let r = root.Query in
      let first = before m plan tree r constraints run in
      let all = run.are.serves in
      folds_same (λ parent path s. Stands m plan tree first parent (basis_above all.bases parent) path s) (denoted m plan) (λ i p s. resolved base tables vars tree.places p s) tree.places
      (λ i p path s at st. let mut = run.of_tree.query refl i p at in place_agrees m plan tree first constraints run.fit all.bases run.valid run.hold run.of_tree.named i p path s at st mut (all.each i p at mut))
      (λ i p path a rest. denoted_rows m plan tree i p path + answer_cost a + rest)
      (λ i p s a rest. cost base.schema tree.places i p (resolved base tables vars tree.places p s) + answer_cost a + rest) 0
      (λ i p path s a n at st. ap (λ x. x + answer_cost a + n) (rows_visited m plan tree r constraints run i p path s at st (run.of_tree.query refl i p at)))
      None [] AtRoot tt

  field_same : (place : ℕ) (row : Row) → Running (moment base tables vars (root.Field place row)) plan tree (root.Field place row) constraints → denoted_visits base tables vars plan tree (root.Field place row) ≡ visited_for base tables vars tree (root.Field place row)
  field_same place row run =
      let r = root.Field place row in
      let m = At r in
      let first = before m plan tree r constraints run in
      let all = run.are.serves in
      let here = run.of_tree.field place row refl in
      let payload = all.payloads place here.0 here.1 here.2 in
      let inner = λ (i : ℕ) (p : Place) (path : Path) (s : Stand) (at : slice_get tree.places i ≡ Some p) (st : Below m plan tree first all.bases p.parent path s). not_mutation m plan tree first all.bases p (run.of_tree.at_root i p at) path s st in
      folds_same (Below m plan tree first all.bases) (denoted m plan) (λ i p s. resolved base tables vars tree.places p s) tree.places
      (λ i p path s at st. let mut = inner i p path s at st in place_agrees m plan tree first constraints run.fit all.bases run.valid run.hold run.of_tree.named i p path s at (below_stands m plan tree first all.bases p.parent path s st) mut (all.each i p at mut))
      (λ i p path a rest. denoted_rows m plan tree i p path + answer_cost a + rest)
      (λ i p s a rest. cost base.schema tree.places i p (resolved base tables vars tree.places p s) + answer_cost a + rest) 0
      (λ i p path s a n at st. ap (λ x. x + answer_cost a + n) (rows_visited m plan tree r constraints run i p path s at (below_stands m plan tree first all.bases p.parent path s st) (inner i p path s at st)))
      (Some place) [] (AtPayload row) (subst (λ b. Stands m plan tree first (Some place) b [] (AtPayload row)) (sym payload) (row, refl, refl))

  pub visits_same : (r : Root) → Running (moment base tables vars r) plan tree r constraints → denoted_visits base tables vars plan tree r ≡ visited_for base tables vars tree r
  visits_same root.Query run = query_same run
  visits_same (root.Field place row) run = field_same place row run
