use Rattle.std.proofs.Common.{◌≡◌, ◌++◌, drop}
use Rattle.explain_text.specs.Explained.{constraint_lines}
use Rattle.explain_text.proofs.constraints.put_constraints.Given as goal

abbrev pub invariant-loop-constraint : goal.invariant-loop-constraint
invariant-loop-constraint l =
    l.out.items ++ constraint_lines (drop l.constraint-index l.constraints) ≡ l.initial.out.items ++ constraint_lines l.constraints
