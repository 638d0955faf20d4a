use Rattle.std.proofs.Common.{◌≡◌, drop}
use Rattle.place_tree.specs.Cursors as spec
use Rattle.list_execution.proofs.Marked.{joined}
use Rattle.list_execution.proofs.marks.cursor_cells.Given as goal

abbrev pub invariant-loop-i : goal.invariant-loop-i
invariant-loop-i l = joined l.cells (spec.cursor_cells l.catalog.enums l.columns (drop l.i l.order) (drop l.i l.values)) ≡ spec.cursor_cells l.catalog.enums l.columns l.order l.values
