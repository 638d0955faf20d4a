use Rattle.std.proofs.Common.{◌≡◌, ◌++◌, drop}
use Rattle.batch_execute.specs.Ways as spec
use Rattle.batch_execute.proofs.ways.ways_of.Given as goal

abbrev pub invariant-loop-k : goal.invariant-loop-k
invariant-loop-k l = l.ways ++ spec.ways_from l.steps l.k (drop l.k l.steps) ≡ spec.ways_of l.steps
