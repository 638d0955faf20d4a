use Rattle.std.proofs.Common.{◌≡◌, ◌++◌, drop}
use Rattle.dedupe_steps.specs.Words as spec
use Rattle.dedupe_steps.proofs.fetch_words.put_columns.Given as goal

abbrev pub invariant-loop-column : goal.invariant-loop-column
invariant-loop-column l = l.out.items ++ spec.each spec.number (drop l.column-index l.columns) ≡ l.initial.out.items ++ spec.each spec.number l.columns
