use Rattle.std.proofs.Common.{arith}
use Rattle.rows_reader.specs.Texts.{IsTextLiteral}
use Rattle.rows_reader.proofs.Places.{Each_more, Each_all}
use Rattle.rows_reader.proofs.texts.know_cells.Goals as goal

pub loop-cell-preserved : goal.loop-cell-preserved
loop-cell-preserved c = Each_more IsTextLiteral c.args.cells.now c.loop-cell.cell-index c.cell-item.result c.loop-cell-test.true c.cell-item.is c.loop-cell.invariant c.know_literal.ensures

pub returns : goal.returns
returns c = Each_all IsTextLiteral c.args.cells.now c.loop-cell.cell-index (omega arith) c.loop-cell.invariant
