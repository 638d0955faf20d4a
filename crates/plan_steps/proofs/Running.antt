-- A plan of fetches at a moment, and the rows that a fetch for one row finds.
use Rattle.std.proofs.Common.{◌≡◌, ℕ, ◌<◌, ◌≤◌, List, [], ◌∷◌, length, Option, Some, None, true, refl, sym, ap, ◌∙◌, subst, arith, eqb-true}
use Rattle.std.specs.Prelude.{slice_get, IfSome, IsTrue}
use Rattle.pg_base.specs.Base.{BaseParts}
use Rattle.pg_base.specs.declared.cell.Cell.{Cell}
use Rattle.pg_base.specs.declared.vars.Vars.{Vars}
use Rattle.rel_model.specs.declared.tables.Row.{Row}
use Rattle.rel_model.specs.Interval.{interval_of, rows_between}
use Rattle.rel_model.specs.Ordered.{ordered}
use Rattle.rel_model.specs.Picked.{picked}
use Rattle.rel_model.specs.Tables.{cells_at, AreValidTables}
use Rattle.place_tree.specs.declared.fetch.Fetch.{Fetch}
use Rattle.place_tree.specs.declared.fetch.Shape.TheVariants as shape
use Rattle.place_tree.specs.declared.place.Place.{Place}
use Rattle.place_tree.specs.declared.place.Tree.{Tree}
use Rattle.place_tree.specs.Fetch.{fetch_of}
use Rattle.stmt_tree.specs.Meaning.{part_of}
use Rattle.plan_constraints.specs.Constraints.{Hold}
use Rattle.plan_constraints.specs.declared.constraint.Constraint.{Constraint}
use Rattle.plan_steps.specs.declared.plan.FetchStep.{FetchStep, out-FetchStep}
use Rattle.plan_steps.specs.declared.plan.Plan.{Plan}
use Rattle.plan_steps.specs.declared.plan.Root.{Root}
use Rattle.plan_steps.specs.declared.plan.Slot.{Slot}
use Rattle.plan_steps.specs.declared.plan.Step.{Step}
use Rattle.plan_steps.specs.declared.plan.Step.TheVariants as step
use Rattle.plan_steps.specs.Check.{has_key, is_checked}
use Rattle.plan_steps.specs.Fetches.{IsTreeOver, AreFetches}
use Rattle.plan_steps.specs.Filled.{filled_key}
use Rattle.plan_steps.specs.Fitting.{FitTree}
use Rattle.plan_steps.specs.Named.{named_by}
use Rattle.plan_steps.specs.Sent.{rows_at}
use Rattle.plan_steps.specs.Serves.{Basis, FetchServes}
use Rattle.plan_steps.specs.Values.{Moment, Path, Val, row_in, key_from, key_by, key_at, listing_for, val_at, all_vals}
use Rattle.plan_steps.proofs.Checked.{key_checked}
use Rattle.plan_steps.proofs.Due.{picked_ordered, all_rows, plain_fetch}
use Rattle.plan_steps.proofs.Earlier.{names_earlier}
use Rattle.plan_steps.proofs.Keyed.{fetch_keyed}
use Rattle.plan_steps.proofs.OneRow.{one_picked}
use Rattle.plan_steps.proofs.Served.{IsTreeOf, listing_served, step_listing}

-- a plan whose fetches are those of its tree, with variables and tables over which it may run
pub record Running (m : Moment) (plan : Plan) (tree : Tree) (r : Root) (constraints : List Constraint) : Type 0 where
  pub over_tree : IsTreeOver m.base tree
  pub checked : IsTrue (is_checked m.base tree plan)
  pub are : AreFetches m.base tree constraints plan
  pub fit : FitTree m.base m.vars tree
  pub hold : Hold constraints m.vars
  pub valid : AreValidTables m.base.catalog m.tables
  pub of_tree : IsTreeOf m.base tree r

filled_long : (base : BaseParts) (vars : Vars) (table : ℕ) (by : List ℕ) (key : List Slot) → length key ≡ length by → length (filled_key base vars table by key) ≡ length by
filled_long base vars table [] key e = refl
filled_long base vars table (column ∷ by) [] e = absurd (omega (arith, e))
filled_long base vars table (column ∷ by) (s ∷ key) e =
    let z = filled_long base vars table by key (let q : length key ≡ length by = omega (arith, e) in q) in
    omega (arith, z)

length_cells : (columns : List ℕ) (cells : List Cell) → length (cells_at columns cells) ≡ length columns
length_cells [] cells = refl
length_cells (c ∷ columns) cells = let z = length_cells columns cells in omega (arith, z)

module _ (m : Moment) (plan : Plan) (tree : Tree) (r : Root) (constraints : List Constraint) (run : Running m plan tree r constraints) where
  pub before : (k : ℕ) (s : Step) → slice_get plan.steps k ≡ Some s → IfSome (named_by s) (λ j. j < k)
  before = names_earlier m.base tree plan run.checked

  pub parent_before : (k q : ℕ) (f : FetchStep) → slice_get plan.steps k ≡ Some (step.Fetch f) → (out-FetchStep f).parent ≡ Some q → q < k
  parent_before k q f at e = subst (λ o. IfSome o (λ j. j < k)) e (before k (step.Fetch f) at)

  key_long : (k : ℕ) (f : FetchStep) → slice_get plan.steps k ≡ Some (step.Fetch f) → (vals : List Val) (key : List Cell) → key_at m f vals ≡ Some key → length key ≡ length (out-FetchStep f).by
  key_long k f at vals key e = by_parent (out-FetchStep f).parent (key_checked m.base tree plan run.checked k f at) e where
    by_row : (row : Option Row) → key_from (out-FetchStep f).parent_columns row ≡ Some key → length key ≡ length (out-FetchStep f).parent_columns
    by_row None e = cc
    by_row (Some row) e = let same : cells_at (out-FetchStep f).parent_columns row.cells ≡ key = cc in ap length (sym same) ∙ length_cells (out-FetchStep f).parent_columns row.cells

    by_parent : (o : Option ℕ) → has_key f o ≡ true → key_by m f vals o ≡ Some key → length key ≡ length (out-FetchStep f).by
    by_parent None has e =
        let same : filled_key m.base m.vars (out-FetchStep f).table (out-FetchStep f).by (out-FetchStep f).key ≡ key = cc in
        ap length (sym same) ∙ filled_long m.base m.vars (out-FetchStep f).table (out-FetchStep f).by (out-FetchStep f).key (eqb-true _ _ has)
    by_parent (Some p) has e = by_row (row_in (val_at vals p)) e ∙ eqb-true _ _ has

  -- the rows that a fetch for one row finds are those that its key picks
  pub rows_picked : (b : Basis) (i : ℕ) (p : Place) (f : FetchStep) (due : Fetch) → fetch_of m.base m.vars p ≡ Some due → FetchServes plan.steps b m.base tree m.vars i f due → due.shape ≡ shape.Row → (key : List Cell) → (listing_for m f (Some key)).rows ≡ picked m.tables due.table due.by key []
  rows_picked b i p f due is q one key =
      let plain = plain_fetch m.base m.vars p due is one in
      let all = picked m.tables due.table due.by key due.condition in
      ap (λ z. z.rows) (listing_served m plan tree before b i f due q key)
      ∙ ap (λ rows. part_of rows (interval_of due.order due.window (ordered due.order all)) (ordered due.order all)) (q.one one)
      ∙ ap (λ o. rows_between (interval_of o due.window (ordered o all)) (ordered o all)) plain.0
      ∙ ap (λ w. rows_between (interval_of [] w (ordered [] all)) (ordered [] all)) plain.1
      ∙ all_rows (ordered [] all)
      ∙ ap (λ c. ordered [] (picked m.tables due.table due.by key c)) plain.2
      ∙ picked_ordered m.tables m.base run.valid due.table due.by key []

  -- and that is one at most
  pub one_found : (b : Basis) (i : ℕ) (p : Place) (k : ℕ) (f : FetchStep) → slice_get plan.steps k ≡ Some (step.Fetch f) → (due : Fetch) → fetch_of m.base m.vars p ≡ Some due → FetchServes plan.steps b m.base tree m.vars i f due → due.shape ≡ shape.Row → (path : Path) → length (rows_at m plan.steps k path) ≤ 1
  one_found b i p k f is_fetch due is q one path =
      let e = ap (λ l. length l.rows) (step_listing m plan tree before path k f is_fetch) in
      let le = by_key (key_at m f (all_vals m plan.steps path)) refl in
      omega (arith, e, le)
    where
      by_key : (o : Option (List Cell)) → key_at m f (all_vals m plan.steps path) ≡ o → length (listing_for m f o).rows ≤ 1
      by_key None e = omega arith
      by_key (Some key) e =
          let long = key_long k f is_fetch (all_vals m plan.steps path) key e ∙ ap length q.by in
          let same = ap length (rows_picked b i p f due is q one key) in
          let few = one_picked m.base m.tables run.valid due.table due.by (fetch_keyed m.base run.over_tree.catalog m.vars p due is one) key long [] in
          omega (arith, same, few)
