use Rattle.std.proofs.Common.{◌≡◌, ◌+◌, drop, map, sum}
use Rattle.stmt_tree.specs.Meaning as meaning
use Rattle.batch_execute.proofs.trees.+taking.Given as goal

abbrev pub invariant-take_all-loop-one : goal.invariant-take_all-loop-one
invariant-take_all-loop-one l = l.left + meaning.trees_in_all l.found ≡ l.fn.left + meaning.trees_in_all (drop l.one-index l.found)

abbrev pub invariant-take_rows-loop-tree : goal.invariant-take_rows-loop-tree
invariant-take_rows-loop-tree l = l.left + sum (map meaning.trees_of l.rows) ≡ l.fn.left + sum (map meaning.trees_of (drop l.tree-index l.rows))
