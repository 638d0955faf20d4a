use Rattle.std.proofs.Common.{◌≡◌, ◌≤◌, drop, length, reverse}
use Rattle.batch_execute.specs.Firsts as firsts_are
use Rattle.batch_execute.specs.Nexts as spec
use Rattle.batch_execute.proofs.nexts.nexts_of.Given as goal

abbrev pub invariant-left : goal.invariant-left
invariant-left l = record {
  within : l.left ≤ length l.places;
  firsts : firsts_are.AreFirsts l.firsts.items l.left (drop l.left l.places);
  nexts : reverse l.nexts.items ≡ spec.nexts_from l.left (drop l.left l.places);
}

abbrev pub decreases-left : goal.decreases-left
decreases-left l = l.left
