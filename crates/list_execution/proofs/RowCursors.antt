-- The cursor of a row.
use Rattle.std.proofs.Common.{◌≡◌, ℕ, List, length, sym, ap, ◌∙◌, subst}
use Rattle.pg_base.specs.Catalog.{CatalogParts}
use Rattle.pg_base.specs.declared.cell.Cell.{Cell}
use Rattle.pg_base.specs.declared.cell.Mark.{Mark}
use Rattle.pg_base.specs.declared.table_def.ColumnDef.{ColumnDef}
use Rattle.rel_model.specs.declared.tables.Row.{Row}
use Rattle.rel_model.specs.declared.window.By.{By}
use Rattle.rel_model.specs.Ordered.{mark_of}
use Rattle.cursor_text.specs.Marked.{case_count}
use Rattle.place_tree.specs.Cursors.{labels_of}
use Rattle.place_tree.specs.Fields.{columns_of}
use Rattle.list_execution.proofs.Marked.{label_each}

module _ (catalog : CatalogParts) (table : ℕ) (order : List By) (row : Row) (mark : Mark) (columns : List ColumnDef) (slice : List Cell) (labels given : List (List ℕ))
    (is : mark ≡ mark_of order row) (of_table : columns ≡ columns_of catalog table) (of_mark : slice ≡ mark.values) (e : labels ≡ labels_of catalog.enums columns order slice) (same : given ≡ labels) where
  labels_are : given ≡ labels_of catalog.enums (columns_of catalog table) order mark.values
  labels_are =
      same ∙ e ∙ ap (λ l. labels_of catalog.enums l order slice) of_table ∙ ap (labels_of catalog.enums (columns_of catalog table) order) of_mark

  pub cursor_labels : length given ≡ case_count mark.values
  cursor_labels =
      ap length labels_are
      ∙ subst (λ (m : Mark). length (labels_of catalog.enums (columns_of catalog table) order m.values) ≡ case_count m.values) (sym is)
      (label_each catalog.enums (columns_of catalog table) order row.cells)
