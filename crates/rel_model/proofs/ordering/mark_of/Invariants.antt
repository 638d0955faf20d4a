use Rattle.std.proofs.Common.{◌≡◌, ◌++◌, drop, map}
use Rattle.rel_model.specs.Picked as picked
use Rattle.rel_model.proofs.ordering.mark_of.Given as goal

abbrev pub invariant-loop-by : goal.invariant-loop-by
invariant-loop-by l = l.values ++ map (λ b. picked.cell_at l.row.cells b.column) (drop l.by-index l.order) ≡ map (λ b. picked.cell_at l.row.cells b.column) l.order
