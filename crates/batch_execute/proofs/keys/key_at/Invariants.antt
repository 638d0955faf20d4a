use Rattle.std.proofs.Common.{◌≡◌, ◌++◌, drop}
use Rattle.rel_model.specs.Ordered as ordered
use Rattle.plan_steps.specs.Values.{row_of}
use Rattle.batch_execute.specs.Keys as spec
use Rattle.batch_execute.proofs.keys.key_at.Given as goal

abbrev pub invariant-loop-by : goal.invariant-loop-by
invariant-loop-by l = l.cells ++ ordered.cells_by (drop l.by-index l.order) (row_of l.tree).cells ≡ spec.tree_cells l.order l.tree
