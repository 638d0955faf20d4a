use Rattle.std.proofs.Common.{◌≡◌, drop}
use Rattle.batch_execute.specs.Nexts as spec
use Rattle.batch_execute.proofs.nexts.next_from.Given as goal

abbrev pub invariant-loop-i : goal.invariant-loop-i
invariant-loop-i l = spec.next_from l.parent l.i (drop l.i l.places) ≡ spec.next_from l.parent l.from (drop l.from l.places)
