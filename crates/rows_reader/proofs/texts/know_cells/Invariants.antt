use Rattle.std.proofs.Common.{take}
use Rattle.pg_base.specs.Lists.{Each}
use Rattle.rows_reader.specs.Texts.{IsTextLiteral}
use Rattle.rows_reader.proofs.texts.know_cells.Given as goal

abbrev pub invariant-loop-cell : goal.invariant-loop-cell
invariant-loop-cell l = Each IsTextLiteral (take l.cell-index l.cells)
