use Rattle.std.proofs.Common.{◌≡◌, ◌++◌, drop}
use Rattle.dedupe_steps.specs.Words as spec
use Rattle.dedupe_steps.proofs.fetch_words.put_condition.Given as goal

abbrev pub invariant-loop-e : goal.invariant-loop-e
invariant-loop-e l = l.out.items ++ spec.each spec.equal_words (drop l.e-index l.condition) ≡ l.initial.out.items ++ spec.each spec.equal_words l.condition
