use Rattle.std.proofs.Common.{◌≡◌, drop}
use Rattle.rows_reader.specs.Keys.{stands, keys_at}
use Rattle.rows_reader.proofs.index.scan.Given as goal

abbrev pub invariant-loop-row : goal.invariant-loop-row
invariant-loop-row l = stands (keys_at l.places (drop l.row-index l.rows)) l.key ≡ stands (keys_at l.places l.rows) l.key
