use Rattle.std.proofs.Common.{◌≡◌, ℕ, length}
use Rattle.dedupe_steps.specs.Sights.{at_or}
use Rattle.dedupe_steps.proofs.sights.alike.Given as goal

abbrev pub invariant-loop-turn : goal.invariant-loop-turn
invariant-loop-turn g l = record {
  long : length l.items ≡ l.turn;
  alike : (k : ℕ) → at_or l.item l.items k ≡ l.item;
}
