use Rattle.std.proofs.Common.{◌≡◌, ◌++◌, drop}
use Rattle.plan_steps.specs.Filled as spec
use Rattle.batch_execute.proofs.filling.filled_key.Given as goal

abbrev pub invariant-loop-i : goal.invariant-loop-i
invariant-loop-i l = l.cells ++ spec.filled_key l.base l.vars l.table (drop l.i l.by) (drop l.i l.key) ≡ spec.filled_key l.base l.vars l.table l.by l.key
