use Rattle.std.proofs.Common.{◌≡◌, ◌++◌, drop, map}
use Rattle.batch_execute.specs.Held as spec
use Rattle.batch_execute.proofs.trees.rows_below.Given as goal

abbrev pub invariant-loop-tree : goal.invariant-loop-tree
invariant-loop-tree l = map (λ t. t.now) l.trees.items ++ spec.rows_below l.child (map (λ t. t.now) (drop l.tree-index l.above)) ≡ spec.rows_below l.child (map (λ t. t.now) l.above)
