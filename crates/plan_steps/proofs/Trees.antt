-- How many row trees a fetch finds: its rows, and what each child finds below each.
use Rattle.std.proofs.Common.{◌≡◌, ℕ, ◌+◌, List, [], ◌∷◌, map, sum, length, Option, Some, None, refl, sym, ap, ◌∙◌}
use Rattle.pg_base.specs.Base.{BaseParts}
use Rattle.pg_base.specs.declared.cell.Cell.{Cell}
use Rattle.pg_base.specs.declared.vars.Vars.{Vars}
use Rattle.rel_model.specs.declared.tables.Row.{Row}
use Rattle.rel_model.specs.declared.tables.Tables.{Tables}
use Rattle.stmt_tree.specs.declared.stmt.Stmt.{Stmt}
use Rattle.stmt_tree.specs.declared.stmt.Child.{Child}
use Rattle.stmt_tree.specs.declared.stmt.Child.TheViews.{out-Stmt}
use Rattle.stmt_tree.specs.Batches.{list_for, part_in}
use Rattle.stmt_tree.specs.Meaning.{tree_of, found_for, found_below, trees_in, trees_of}
use Rattle.stmt_tree.proofs.Meaning.{found_is, trees_of_tree, trees_in_roll}
use Rattle.stmt_tree.proofs.Batched.{sum_cons}
use Rattle.plan_steps.specs.declared.plan.FetchStep.{FetchStep, out-FetchStep}
use Rattle.plan_steps.specs.Filled.{child_of, stmt_of}
use Rattle.plan_steps.specs.Sent.{total, trees_for}
use Rattle.plan_steps.specs.Values.{Moment, listing_for}
use Rattle.plan_steps.proofs.Listings.{listing_by, stmt_is, top_of, listing_is}
use Rattle.plan_steps.proofs.Totals.{total_length}

-- a row, and what each child finds for it
abbrev pub trees_below : Tables → List Child → Row → ℕ
trees_below tables kids row = sum (map trees_in (map (λ k. found_below tables k row.cells) kids)) + 1

module _ (tables : Tables) where
  trees_total : (kids : List Child) (rows : List Row) → sum (map trees_of (map (tree_of (map (found_below tables) kids)) rows)) ≡ total (trees_below tables kids) rows
  trees_total kids [] = refl
  trees_total kids (row ∷ rows) =
      sum_cons (trees_of (tree_of (map (found_below tables) kids) row)) (map trees_of (map (tree_of (map (found_below tables) kids)) rows))
      ∙ ap (λ n. n + sum (map trees_of (map (tree_of (map (found_below tables) kids)) rows))) (trees_of_tree tables kids row)
      ∙ ap (λ n. trees_below tables kids row + n) (trees_total kids rows)

  trees_by_layer : (s : Stmt) (key : List Cell) → trees_in (found_for tables s key) ≡ total (trees_below tables (out-Stmt s).children) (listing_by tables (out-Stmt s) key).rows
  trees_by_layer s key = ap trees_in (found_is tables s key) ∙ trees_in_roll _ ∙ trees_total (out-Stmt s).children (part_in s (list_for tables s key))

  -- the trees of a fetch, by its rows and its children
  pub trees_is : (base : BaseParts) (vars : Vars) (f : FetchStep) (key : List Cell) → trees_in (found_for tables (stmt_of base vars f) key) ≡ total (trees_below tables (map (child_of base vars) (out-FetchStep f).children)) (listing_by tables (top_of base vars (out-FetchStep f)) key).rows
  trees_is base vars f key =
      trees_by_layer (stmt_of base vars f) key
      ∙ ap (λ s. total (trees_below tables s.children) (listing_by tables s key).rows) (stmt_is base vars f)

-- a fetch with no other one below it finds its rows
pub trees_flat : (m : Moment) (f : FetchStep) → (out-FetchStep f).children ≡ [] → (key : Option (List Cell)) → trees_for m f key ≡ length (listing_for m f key).rows
trees_flat m f flat None = refl
trees_flat m f flat (Some key) =
    trees_is m.tables m.base m.vars f key
    ∙ total_length _ (λ row. ap (λ kids. trees_below m.tables (map (child_of m.base m.vars) kids) row) flat) _
    ∙ ap (λ l. length l.rows) (sym (listing_is m.base m.tables m.vars f key))
