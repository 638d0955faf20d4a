use Rattle.std.proofs.Common.{◌≡◌, ◌++◌, drop}
use Rattle.needed_count.specs.PathWords as spec
use Rattle.needed_count.proofs.words.put_written.Given as goal

abbrev pub invariant-loop-arg : goal.invariant-loop-arg
invariant-loop-arg l = l.out.items ++ spec.written_words (drop l.arg-index l.written) ≡ l.initial.out.items ++ spec.written_words l.written
