use Rattle.std.proofs.Common.{◌≡◌, ◌++◌, drop, map}
use Rattle.stmt_tree.specs.Batches.{trees_from}
use Rattle.stmt_run.proofs.trees.grow_trees.Given as goal

abbrev pub invariant-loop-row : goal.invariant-loop-row
invariant-loop-row l = l.trees.items ++ trees_from (map (λ r. r.now) (drop l.row-index l.rows)) l.columns.items ≡ trees_from (map (λ r. r.now) l.rows) l.fn.columns.items
