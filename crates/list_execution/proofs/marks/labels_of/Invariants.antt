use Rattle.std.proofs.Common.{◌≡◌, ◌++◌, drop}
use Rattle.place_tree.specs.Cursors as spec
use Rattle.list_execution.proofs.marks.labels_of.Given as goal

abbrev pub invariant-loop-i : goal.invariant-loop-i
invariant-loop-i l = l.labels ++ spec.labels_of l.catalog.enums l.columns (drop l.i l.order) (drop l.i l.cells) ≡ spec.labels_of l.catalog.enums l.columns l.order l.cells
