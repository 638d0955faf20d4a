use Rattle.std.proofs.Common.{◌≡◌, ◌++◌, drop, None}
use Rattle.std.specs.Prelude.{find}
use Rattle.rows_reader.specs.declared.values.Check.TheVariants as check
use Rattle.rows_reader.specs.Faults.{fails}
use Rattle.rows_reader.specs.Rows.{slots_from, slots_of, cells_of}
use Rattle.rows_reader.proofs.cells.cells_of.Given as goal

abbrev pub invariant-loop-i : goal.invariant-loop-i
invariant-loop-i l = record {
  same : l.cells.items ++ cells_of l.enums (slots_from l.i (drop l.i l.columns) l.counters l.row) ≡ cells_of l.enums (slots_of l.columns l.counters l.row);
  kinds : find (fails check.Kind l.enums) (slots_from l.i (drop l.i l.columns) l.counters l.row) ≡ None;
}
