-- Rows that statements grew, and what is read from them.
use Rattle.std.proofs.Common.{◌≡◌, ℕ, List, [], map, Option, Some, None, refl, sym, ap, ◌∙◌, subst}
use Rattle.std.specs.Prelude.{slice_get}
use Rattle.pg_base.specs.declared.cell.Cell.{Cell}
use Rattle.rel_model.specs.declared.tables.Row.{Row}
use Rattle.rel_model.specs.Tables.{cells_at}
use Rattle.stmt_tree.specs.declared.stmt.Child.{Child}
use Rattle.stmt_tree.specs.declared.stmt.Child.TheViews.{out-Stmt, out-Child, out-roll-Child}
use Rattle.stmt_tree.specs.declared.found.RowTree.{RowTree}
use Rattle.stmt_tree.specs.declared.found.Found.{Found}
use Rattle.stmt_tree.specs.declared.found.Found.TheViews.{out-Found, out-RowTree, out-roll-Found, out-roll-RowTree}
use Rattle.stmt_tree.specs.Batches.{list_for, part_in, grown}
use Rattle.stmt_tree.specs.Meaning.{tree_of, found_for}
use Rattle.stmt_tree.specs.Meaning as meaning
use Rattle.stmt_tree.proofs.Meaning.{found_is, below_is, tree_is}
use Rattle.plan_steps.specs.declared.plan.FetchStep.{FetchStep, out-FetchStep, fold_out-FetchStep}
use Rattle.plan_steps.specs.Filled.{child_from, child_of, stmt_of}
use Rattle.plan_steps.specs.Values.{Moment, row_of, plain, listing_for}
use Rattle.plan_steps.specs.Values as values
use Rattle.plan_steps.proofs.Listings.{stmt_is}
use Rattle.batch_execute.specs.Reading.{no_rows, found_below}
use Rattle.batch_execute.proofs.Items.{IsIn, in_mapped, get_map}

-- what the statement of a fetch finds for a key
abbrev pub due : Moment → FetchStep → Option (List Cell) → Found
due m f None = no_rows
due m f (Some key) = found_for m.tables (stmt_of m.base m.vars f) key

-- a row that the statement of a fetch grew
abbrev pub IsGrownBy : Moment → FetchStep → RowTree → Type 0
IsGrownBy m f tree = (row : Row) × (tree ≡ tree_of (map (meaning.found_below m.tables) (out-Stmt (stmt_of m.base m.vars f)).children) row)

module _ (m : Moment) where
  row_of_grown : (kids : List Child) (row : Row) → row_of (tree_of (map (meaning.found_below m.tables) kids) row) ≡ row
  row_of_grown kids row = ap (λ t. record { number = t.number; cells = t.cells }) (out-roll-RowTree _)

  -- what a fetch as a child finds for the cells of a row
  below_row : (f : FetchStep) (cells : List Cell) → meaning.found_below m.tables (child_of m.base m.vars f) cells ≡ found_for m.tables (stmt_of m.base m.vars f) (cells_at (out-FetchStep f).parent_columns cells)
  below_row f cells =
      below_is m.tables (child_of m.base m.vars f) cells
      ∙ ap (λ columns. found_for m.tables (stmt_of m.base m.vars f) (cells_at columns cells)) (ap (λ k. (out-Child k).parent_columns) (fold_out-FetchStep Child (child_from m.base m.vars) f) ∙ ap (λ o. o.parent_columns) (out-roll-Child _))

  -- what stands below a row is what the fetch's statement finds for the cells of this row
  pub read_is : (g f : FetchStep) (c : ℕ) (tree : RowTree) → IsGrownBy m g tree → slice_get (out-FetchStep g).children c ≡ Some f →
      found_below (Some tree) c ≡ Some (due m f (Some (cells_at (out-FetchStep f).parent_columns (row_of tree).cells)))
  read_is g f c tree by there =
      let kids = (out-Stmt (stmt_of m.base m.vars g)).children in
      let grown_tree = by.1 ∙ tree_is m.tables kids by.0 in
      let children : (out-RowTree tree).children ≡ map (λ k. meaning.found_below m.tables k by.0.cells) (map (child_of m.base m.vars) (out-FetchStep g).children) =
      ap (λ t. (out-RowTree t).children) grown_tree ∙ ap (λ o. o.children) (out-roll-RowTree _)
      ∙ ap (λ s. map (λ k. meaning.found_below m.tables k by.0.cells) s.children) (stmt_is m.base m.vars g) in
      let at : slice_get (out-RowTree tree).children c ≡ Some (meaning.found_below m.tables (child_of m.base m.vars f) by.0.cells) =
      ap (λ l. slice_get l c) children ∙ get_map _ (map (child_of m.base m.vars) (out-FetchStep g).children) c (child_of m.base m.vars f) (get_map (child_of m.base m.vars) (out-FetchStep g).children c f there) in
      let cells : by.0.cells ≡ (row_of tree).cells = sym (ap (λ r. r.cells) (ap row_of by.1 ∙ row_of_grown kids by.0)) in
      at ∙ ap (λ x. Some x) (below_row f by.0.cells ∙ ap (λ cs. found_for m.tables (stmt_of m.base m.vars f) (cells_at (out-FetchStep f).parent_columns cs)) cells)

  -- its listing is the step's
  pub no_plain : plain no_rows ≡ values.nothing
  no_plain = ap (λ o. record { total = o.total; from = o.from; to = o.to; rows = map row_of o.rows }) (out-roll-Found _)

  pub due_plain : (f : FetchStep) (key : Option (List Cell)) → plain (due m f key) ≡ listing_for m f key
  due_plain f None = no_plain
  due_plain f (Some key) = refl

  pub due_rows : (f : FetchStep) (key : Option (List Cell)) → map row_of (out-Found (due m f key)).rows ≡ (listing_for m f key).rows
  due_rows f key = ap (λ l. l.rows) (due_plain f key)

  -- its rows were grown by the statement
  grown_in : (f : FetchStep) (tree : RowTree) (rows : List Row) → IsIn tree (grown m.tables (stmt_of m.base m.vars f) rows) → IsGrownBy m f tree
  grown_in f tree rows h =
      let made = in_mapped (tree_of (map (meaning.found_below m.tables) (out-Stmt (stmt_of m.base m.vars f)).children)) tree rows h in
      (made.from, sym made.is)

  pub due_grown : (f : FetchStep) (key : Option (List Cell)) (tree : RowTree) → IsIn tree (out-Found (due m f key)).rows → IsGrownBy m f tree
  due_grown f None tree h = absurd (let k : IsIn tree [] = subst (λ o. IsIn tree o.rows) (out-roll-Found _) h in k)
  due_grown f (Some key) tree h =
      let s = stmt_of m.base m.vars f in
      grown_in f tree (part_in s (list_for m.tables s key))
      (subst (λ o. IsIn tree o.rows) (out-roll-Found _) (subst (λ x. IsIn tree (out-Found x).rows) (found_is m.tables s key) h))
