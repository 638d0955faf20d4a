use Rattle.std.proofs.Common.{◌≡◌, drop}
use Rattle.rel_model.specs.Tables.{cells_at}
use Rattle.rel_model.specs.Picked as spec
use Rattle.rel_model.proofs.picking.agree.Given as goal

abbrev pub invariant-loop-place : goal.invariant-loop-place
invariant-loop-place l = spec.has_key (drop l.place-index l.places) (cells_at (drop l.place-index l.places) l.xs) l.ys ≡ spec.has_key l.places (cells_at l.places l.xs) l.ys
