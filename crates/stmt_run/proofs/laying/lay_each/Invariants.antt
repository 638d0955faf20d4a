use Rattle.std.proofs.Common.{◌≡◌, ◌+◌, ◌++◌, drop, map, length}
use Rattle.stmt_tree.specs.Batches.{all_parts, lists_for}
use Rattle.stmt_run.specs.Laid.{shape_of}
use Rattle.stmt_run.proofs.laying.lay_each.Given as goal

abbrev pub invariant-loop-key : goal.invariant-loop-key
invariant-loop-key l = record {
  shapes : l.shapes ++ map (shape_of l.stmt) (lists_for l.set.tables l.stmt (drop l.key-index l.keys)) ≡ map (shape_of l.stmt) (lists_for l.set.tables l.stmt l.keys);
  rows : map (λ r. r.now) l.all.items ++ all_parts l.stmt (lists_for l.set.tables l.stmt (drop l.key-index l.keys)) ≡ map (λ r. r.now) l.fn.all.items ++ all_parts l.stmt (lists_for l.set.tables l.stmt l.keys);
  room : l.room + length l.all.items ≡ l.fn.room + length l.fn.all.items;
}
