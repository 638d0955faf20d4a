use Rattle.std.proofs.Common.{◌≡◌, drop}
use Rattle.rows_reader.specs.Rows.{slots_from, slots_of}
use Rattle.rows_reader.specs.Faults.{first_failing}
use Rattle.rows_reader.proofs.faults.first_failing.Given as goal

abbrev pub invariant-loop-i : goal.invariant-loop-i
invariant-loop-i l = first_failing l.check l.enums (slots_from l.i (drop l.i l.columns) l.counters l.row) ≡ first_failing l.check l.enums (slots_of l.columns l.counters l.row)
