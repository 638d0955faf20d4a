use Rattle.std.proofs.Common.{◌≡◌, ◌++◌, drop}
use Rattle.batch_execute.specs.Roles as spec
use Rattle.batch_execute.proofs.roles.roles_of.Given as goal

abbrev pub invariant-loop-i : goal.invariant-loop-i
invariant-loop-i l = l.roles ++ spec.roles_from l.base l.vars l.places l.i (drop l.i l.places) ≡ spec.roles_of l.base l.vars l.places
