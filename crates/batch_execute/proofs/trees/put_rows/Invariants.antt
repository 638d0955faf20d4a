use Rattle.std.proofs.Common.{◌≡◌, ◌++◌, drop, map}
use Rattle.batch_execute.proofs.trees.put_rows.Given as goal

abbrev pub invariant-loop-row : goal.invariant-loop-row
invariant-loop-row l = map (λ t. t.now) l.out.items ++ drop l.row-index l.rows ≡ map (λ t. t.now) l.fn.out.items ++ l.rows
