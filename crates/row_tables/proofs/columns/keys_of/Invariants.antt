use Rattle.std.proofs.Common.{◌≡◌, ◌++◌, drop, map}
use Rattle.row_tables.proofs.columns.keys_of.Given as goal

abbrev pub invariant-loop-key : goal.invariant-loop-key
invariant-loop-key l = l.kept.items ++ map (λ k. k.columns) (drop l.key-index l.keys) ≡ map (λ k. k.columns) l.keys
