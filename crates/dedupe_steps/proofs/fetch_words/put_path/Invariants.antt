use Rattle.std.proofs.Common.{◌≡◌, ◌++◌, drop}
use Rattle.dedupe_steps.specs.Words as spec
use Rattle.dedupe_steps.proofs.fetch_words.put_path.Given as goal

abbrev pub invariant-loop-part : goal.invariant-loop-part
invariant-loop-part l = l.out.items ++ spec.each spec.part_words (drop l.part-index l.path) ≡ l.initial.out.items ++ spec.each spec.part_words l.path
