use Rattle.std.proofs.Common.{◌≡◌, drop}
use Rattle.rows_reader.specs.Loaded.{first_lost}
use Rattle.rows_reader.proofs.references.first_lost.Given as goal

abbrev pub invariant-loop-link : goal.invariant-loop-link
invariant-loop-link l = first_lost l.lists (drop l.link-index l.links) l.cells ≡ first_lost l.lists l.links l.cells
