use Rattle.std.proofs.Common.{◌≡◌, ◌++◌, drop, map}
use Rattle.stmt_tree.specs.Batches.{key_below}
use Rattle.stmt_run.proofs.batch.keys_below.Given as goal

abbrev pub invariant-loop-row : goal.invariant-loop-row
invariant-loop-row l = l.keys.items ++ map (key_below l.child) (map (λ r. r.now) (drop l.row-index l.rows)) ≡ map (key_below l.child) (map (λ r. r.now) l.rows)
