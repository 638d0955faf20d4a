use Rattle.std.proofs.Common.{◌≡◌, drop}
use Rattle.rel_model.specs.Ordered as spec
use Rattle.rel_model.proofs.compare.compare_both.Given as goal

abbrev pub invariant-loop-i : goal.invariant-loop-i
invariant-loop-i l = spec.cells_order (drop l.i l.order) (spec.cells_by (drop l.i l.order) l.xs) (spec.cells_by (drop l.i l.order) l.ys) ≡ spec.cells_order l.order (spec.cells_by l.order l.xs) (spec.cells_by l.order l.ys)
