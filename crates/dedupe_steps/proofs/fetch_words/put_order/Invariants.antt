use Rattle.std.proofs.Common.{◌≡◌, ◌++◌, drop}
use Rattle.dedupe_steps.specs.Words as spec
use Rattle.dedupe_steps.proofs.fetch_words.put_order.Given as goal

abbrev pub invariant-loop-by : goal.invariant-loop-by
invariant-loop-by l = l.out.items ++ spec.each spec.by_words (drop l.by-index l.order) ≡ l.initial.out.items ++ spec.each spec.by_words l.order
