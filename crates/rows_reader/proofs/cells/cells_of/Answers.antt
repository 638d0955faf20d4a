use Rattle.std.proofs.Common.{◌≡◌, pos, rules}
use Rattle.std.specs.Prelude.{slice_index_or}
use Rattle.rows_reader.specs.declared.values.Check.TheVariants as check
use Rattle.rows_reader.specs.Cells.{cell_of}
use Rattle.rows_reader.specs.Rows.{value_at}
use Rattle.rows_reader.specs.Faults.{fails}
use Rattle.rows_reader.proofs.CellTurns.{kinds_turn, cells_turn}
use Rattle.rows_reader.proofs.cells.cells_of.Goals as goal

pub loop-i-preserved : goal.loop-i-preserved
loop-i-preserved c =
    let is : c.in_ok-cell.cell ≡ cell_of c.args.enums.now c.index-columns-i.result (slice_index_or c.args.counters.now c.loop-i.i (pos 0)) (value_at c.args.row.now c.loop-i.i) = search rules in
    record {
      same = cells_turn c.args.columns.now c.args.counters.now c.args.row.now c.loop-i.i c.index-columns-i.result c.loop-i-test.true c.index-columns-i.is
          c.args.enums.now c.in_ok-cell.cell c.loop-i.cells.items c.push.new.self.items _ is (search rules) c.loop-i.invariant.same;
      kinds = (kinds_turn c.args.columns.now c.args.counters.now c.args.row.now c.loop-i.i c.index-columns-i.result c.loop-i-test.true c.index-columns-i.is (fails check.Kind c.args.enums.now) c.loop-i.invariant.kinds).1;
    }
