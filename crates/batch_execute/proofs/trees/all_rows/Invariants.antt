use Rattle.std.proofs.Common.{◌≡◌, ◌++◌, drop, map}
use Rattle.batch_execute.specs.Held as spec
use Rattle.batch_execute.proofs.trees.all_rows.Given as goal

abbrev pub invariant-loop-one : goal.invariant-loop-one
invariant-loop-one l = map (λ t. t.now) l.trees.items ++ spec.all_rows (drop l.one-index l.found) ≡ spec.all_rows l.found
