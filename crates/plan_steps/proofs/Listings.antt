-- What a fetch finds, without what is below its rows.
use Rattle.std.proofs.Common.{◌≡◌, List, [], ◌∷◌, map, length, refl, ap, ◌∙◌}
use Rattle.pg_base.specs.Base.{BaseParts}
use Rattle.pg_base.specs.declared.cell.Cell.{Cell}
use Rattle.pg_base.specs.declared.vars.Vars.{Vars}
use Rattle.rel_model.specs.declared.tables.Row.{Row}
use Rattle.rel_model.specs.declared.tables.Tables.{Tables}
use Rattle.rel_model.specs.Picked.{picked}
use Rattle.rel_model.specs.Ordered.{ordered}
use Rattle.rel_model.specs.Interval.{interval_of}
use Rattle.stmt_tree.specs.declared.stmt.Stmt.{Stmt}
use Rattle.stmt_tree.specs.declared.stmt.Child.{Child}
use Rattle.stmt_tree.specs.declared.stmt.Child.TheOpen.{Stmt-F}
use Rattle.stmt_tree.specs.declared.stmt.Child.TheViews.{out-Stmt, out-Child, out-roll-Stmt, out-roll-Child}
use Rattle.stmt_tree.specs.declared.found.Found.TheViews.{out-roll-Found, out-roll-RowTree}
use Rattle.stmt_tree.specs.Meaning.{ByCells, tree_of, part_of, found_for, found_below}
use Rattle.stmt_tree.specs.Batches.{list_for, part_in}
use Rattle.stmt_tree.proofs.Meaning.{found_is}
use Rattle.plan_steps.specs.declared.plan.FetchStep.{FetchStep, FetchStep-F, out-FetchStep, fold_out-FetchStep}
use Rattle.plan_steps.specs.Filled.{filled_equal, filled_window, child_from, child_of, stmt_of}
use Rattle.plan_steps.specs.Values.{Listing, row_of, plain}

-- what a statement finds by its own places
abbrev pub listing_by : Tables → Stmt-F Child Stmt → List Cell → Listing
listing_by tables s key =
    let list = ordered s.order (picked tables s.table s.by key s.condition) in
    let places = interval_of s.order s.window list in
    record { total = length list; from = places.0; to = places.1; rows = part_of s.rows places list }

rows_grown : (children : List ByCells) (rows : List Row) → map row_of (map (tree_of children) rows) ≡ rows
rows_grown children [] = refl
rows_grown children (row ∷ rows) =
    ap (λ t. record { number = t.number; cells = t.cells } ∷ map row_of (map (tree_of children) rows)) (out-roll-RowTree _) ∙ ap (λ l. row ∷ l) (rows_grown children rows)

pub plain_is : (tables : Tables) (s : Stmt) (key : List Cell) → plain (found_for tables s key) ≡ listing_by tables (out-Stmt s) key
plain_is tables s key =
    ap plain (found_is tables s key)
    ∙ ap (λ o. record { total = o.total; from = o.from; to = o.to; rows = map row_of o.rows }) (out-roll-Found _)
    ∙ ap (λ rows. record (listing_by tables (out-Stmt s) key) { rows = rows }) (rows_grown (map (found_below tables) (out-Stmt s).children) (part_in s (list_for tables s key)))

-- the statement of a fetch, in one layer
pub stmt_is : (c : BaseParts) (vars : Vars) (f : FetchStep) →
    out-Stmt (stmt_of c vars f) ≡ record {
      table = (out-FetchStep f).table;
      by = (out-FetchStep f).by;
      condition = map (filled_equal c vars (out-FetchStep f).table) (out-FetchStep f).condition;
      order = (out-FetchStep f).order;
      window = filled_window c vars (out-FetchStep f).table (out-FetchStep f).order (out-FetchStep f).window;
      rows = (out-FetchStep f).rows;
      children = map (child_of c vars) (out-FetchStep f).children;
    }
stmt_is c vars f =
    ap (λ k. out-Stmt (out-Child k).stmt) (fold_out-FetchStep Child (child_from c vars) f)
    ∙ ap (λ o. out-Stmt o.stmt) (out-roll-Child _)
    ∙ out-roll-Stmt _

-- the same without the children
abbrev pub top_of : BaseParts → Vars → {A : Type 0} → FetchStep-F A → Stmt-F Child Stmt
top_of c vars f = record {
  table = f.table;
  by = f.by;
  condition = map (filled_equal c vars f.table) f.condition;
  order = f.order;
  window = filled_window c vars f.table f.order f.window;
  rows = f.rows;
  children = [];
}

pub listing_is : (c : BaseParts) (tables : Tables) (vars : Vars) (f : FetchStep) (key : List Cell) → plain (found_for tables (stmt_of c vars f) key) ≡ listing_by tables (top_of c vars (out-FetchStep f)) key
listing_is c tables vars f key = plain_is tables (stmt_of c vars f) key ∙ ap (λ s. listing_by tables s key) (stmt_is c vars f)
