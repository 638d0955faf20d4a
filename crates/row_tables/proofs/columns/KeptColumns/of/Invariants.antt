use Rattle.std.proofs.Common.{◌≡◌, ◌++◌, drop, map}
use Rattle.row_tables.proofs.columns.KeptColumns.of.Given as goal

abbrev pub invariant-loop-column : goal.invariant-loop-column
invariant-loop-column l = l.identities.items ++ map (λ c. c.identity) (drop l.column-index l.column-items) ≡ map (λ c. c.identity) l.column-items
