use Rattle.std.proofs.Common.{◌≡◌, ◌++◌, drop, map}
use Rattle.std.specs.Prelude.{None, option_map}
use Rattle.batch_execute.specs.Keys as spec
use Rattle.batch_execute.proofs.keys.first_keys.Given as goal

abbrev pub invariant-loop-tree : goal.invariant-loop-tree
invariant-loop-tree l =
    l.keys ++ map spec.key_of (spec.firsts l.order (option_map (λ t. spec.tree_cells l.order t.now) l.last) (map (λ t. spec.tree_cells l.order t.now) (drop l.tree-index l.trees)))
    ≡ map spec.key_of (spec.firsts l.order None (map (λ t. spec.tree_cells l.order t.now) l.trees))
