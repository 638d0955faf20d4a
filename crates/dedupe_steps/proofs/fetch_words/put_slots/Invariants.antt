use Rattle.std.proofs.Common.{◌≡◌, ◌++◌, drop}
use Rattle.dedupe_steps.specs.Words as spec
use Rattle.dedupe_steps.proofs.fetch_words.put_slots.Given as goal

abbrev pub invariant-loop-slot : goal.invariant-loop-slot
invariant-loop-slot l = l.out.items ++ spec.each spec.slot_words (drop l.slot-index l.slots) ≡ l.initial.out.items ++ spec.each spec.slot_words l.slots
