use Rattle.std.proofs.Common.{◌≡◌, ℕ, ◌<◌, drop, length, false}
use Rattle.std.specs.Prelude.{◌||◌}
use Rattle.dedupe_steps.specs.Quotient as spec
use Rattle.dedupe_steps.specs.Sights.{at_or}
use Rattle.dedupe_steps.proofs.quotient.askers.Given as goal

abbrev pub invariant-loop-k : goal.invariant-loop-k
invariant-loop-k l = record {
  long : length l.flags ≡ l.fn.count;
  same : (m : ℕ) → m < l.fn.count → (at_or false l.flags m || spec.some_asks l.to m l.k (drop l.k l.steps)) ≡ spec.some_asks l.to m 0 l.steps;
}
