use Rattle.std.proofs.Common.{◌≡◌, ◌++◌, [], drop}
use Rattle.batch_execute.specs.Roles as spec
use Rattle.batch_execute.proofs.roles.no_steps.Given as goal

abbrev pub invariant-loop-turn : goal.invariant-loop-turn
invariant-loop-turn l = l.steps.items ++ spec.steps_from [] l.turn (drop l.turn l.places) ≡ spec.steps_of [] l.places
