use Rattle.std.proofs.Common.{◌≡◌, drop, length}
use Rattle.pg_base.specs.Lists.{Each}
use Rattle.row_tests.proofs.asked.are_as_long.Given as goal

abbrev pub invariant-loop-key : goal.invariant-loop-key
invariant-loop-key l = Each (λ k. length k.cells ≡ l.count) (drop l.key-index l.keys) → Each (λ k. length k.cells ≡ l.count) l.keys
