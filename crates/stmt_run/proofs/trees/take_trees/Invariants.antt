use Rattle.std.proofs.Common.{◌≡◌, ◌++◌, ◌-◌, drop, take}
use Rattle.stmt_run.proofs.trees.take_trees.Given as goal

abbrev pub invariant-loop-turn : goal.invariant-loop-turn
invariant-loop-turn l = record {
  taken : l.list.items ++ take (l.count - l._turn) l.trees ≡ take l.count l.fn.trees;
  left : drop (l.count - l._turn) l.trees ≡ drop l.count l.fn.trees;
}
