use Rattle.std.proofs.Common.{◌≡◌, ℕ, ◌<◌, drop, length}
use Rattle.std.specs.Prelude.{None}
use Rattle.dedupe_steps.specs.Orders.{or_else}
use Rattle.dedupe_steps.specs.Sights.{at_or}
use Rattle.dedupe_steps.specs.Roots as roots
use Rattle.dedupe_steps.proofs.sights.fields.Given as goal

abbrev pub invariant-loop-o : goal.invariant-loop-o
invariant-loop-o l = record {
  long : length l.fields ≡ l.fn.count;
  same : (k : ℕ) → k < l.fn.count → or_else (at_or None l.fields k) (roots.field_in l.base l.tree (drop l.o-index l.out) k) ≡ roots.field_in l.base l.tree l.out k;
}
