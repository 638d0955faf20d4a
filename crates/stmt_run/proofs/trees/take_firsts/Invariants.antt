use Rattle.std.proofs.Common.{◌≡◌, ◌++◌, drop, take, map}
use Rattle.stmt_tree.specs.Batches.{firsts}
use Rattle.stmt_run.proofs.trees.take_firsts.Given as goal

abbrev pub invariant-loop-i : goal.invariant-loop-i
invariant-loop-i l = record {
  taken : l.list.items ++ firsts (drop l.i l.fn.columns.items) ≡ firsts l.fn.columns.items;
  left : l.columns.items ≡ map (λ c. drop 1 c) (take l.i l.fn.columns.items) ++ drop l.i l.fn.columns.items;
}
