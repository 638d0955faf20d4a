use Rattle.std.proofs.Common.{◌≡◌, ℕ, [], length}
use Rattle.dedupe_steps.specs.Sights.{at_or}
use Rattle.dedupe_steps.proofs.quotient.empty_lists.Given as goal

abbrev pub invariant-loop-turn : goal.invariant-loop-turn
invariant-loop-turn l = record {
  long : length l.lists.items ≡ l.turn;
  empty : (x : ℕ) → at_or [] l.lists.items x ≡ [];
}
