use Rattle.std.proofs.Common.{◌≡◌, drop}
use Rattle.rows_reader.specs.Faults.{first_taken}
use Rattle.rows_reader.proofs.faults.first_taken.Given as goal

abbrev pub invariant-loop-key : goal.invariant-loop-key
invariant-loop-key l = first_taken (drop l.key-index l.keys) l.rows l.cells ≡ first_taken l.keys l.rows l.cells
