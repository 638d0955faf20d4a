use Rattle.std.proofs.Common.{◌≡◌, ℕ, ◌<◌, drop, length}
use Rattle.dedupe_steps.specs.Sights.{at_or}
use Rattle.dedupe_steps.specs.Roots as roots
use Rattle.dedupe_steps.proofs.sights.marks.Given as goal

abbrev pub invariant-loop-o : goal.invariant-loop-o
invariant-loop-o l = record {
  long : length l.marks ≡ l.fn.count;
  same : (k : ℕ) → k < l.fn.count → roots.mark_from l.places k (at_or roots.Unshown l.marks k) (drop l.o-index l.out) ≡ roots.mark_of l.places l.out k;
}
