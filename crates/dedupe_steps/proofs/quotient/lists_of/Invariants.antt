use Rattle.std.proofs.Common.{◌≡◌, ℕ, ◌<◌, ◌++◌, [], drop, length}
use Rattle.dedupe_steps.specs.Made as made
use Rattle.dedupe_steps.specs.Sights.{at_or}
use Rattle.dedupe_steps.proofs.quotient.lists_of.Given as goal

abbrev pub invariant-loop-m : goal.invariant-loop-m
invariant-loop-m l = record {
  long : length l.lists.items ≡ l.fn.count;
  same : (x : ℕ) → x < l.fn.count → at_or [] l.lists.items x ++ made.laid_in l.laid l.to x l.m (drop l.m l.firsts) ≡ made.laid_in l.laid l.to x 0 l.firsts;
}
