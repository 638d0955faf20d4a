use Rattle.std.proofs.Common.{◌≡◌, ◌++◌, drop, map}
use Rattle.rel_model.proofs.ordering.numbers_of.Given as goal

abbrev pub invariant-loop-row : goal.invariant-loop-row
invariant-loop-row l = l.numbers ++ map (λ r. r.now.number) (drop l.row-index l.rows) ≡ map (λ r. r.now.number) l.rows
