use Rattle.std.proofs.Common.{◌≡◌, ◌++◌, drop, map}
use Rattle.rel_model.specs.Picked as spec
use Rattle.rel_model.proofs.picking.rows_numbered.Given as goal

abbrev pub invariant-loop-number : goal.invariant-loop-number
invariant-loop-number l = map (λ r. r.now) l.found.items ++ spec.rows_numbered l.rows (drop l.number-index l.numbers) ≡ spec.rows_numbered l.rows l.numbers
