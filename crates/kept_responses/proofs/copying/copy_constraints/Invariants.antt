use Rattle.std.proofs.Common.{◌≡◌, ◌++◌, drop}
use Rattle.kept_responses.proofs.copying.copy_constraints.Given as goal

abbrev pub invariant-loop-constraint : goal.invariant-loop-constraint
invariant-loop-constraint l = l.copy ++ drop l.constraint-index l.constraints ≡ l.constraints
