use Rattle.std.proofs.Common.{◌≡◌, ◌++◌, drop}
use Rattle.rel_model.specs.Tables.{cells_at}
use Rattle.rows_reader.proofs.index.key_of_several.Given as goal

abbrev pub invariant-loop-place : goal.invariant-loop-place
invariant-loop-place l = l.key.items ++ cells_at (drop l.place-index l.places) l.cells ≡ cells_at l.places l.cells
