use Rattle.std.proofs.Common.{List, subst, arith}
use Rattle.pg_base.specs.Lists.{Each}
use Rattle.ddl_reader.specs.declared.script.Literal.{Literal}
use Rattle.rows_reader.specs.Texts.{HasTexts, IsTextLiteral}
use Rattle.rows_reader.proofs.Places.{Each_more, Each_all}
use Rattle.rows_reader.proofs.texts.know_rows.Goals as goal

pub loop-row-preserved : goal.loop-row-preserved
loop-row-preserved c = Each_more HasTexts c.args.rows.now c.loop-row.row-index c.row-item.result c.loop-row-test.true c.row-item.is c.loop-row.invariant (subst (λ (cells : List Literal). Each IsTextLiteral cells) c.as_slice.ensures c.know_cells.ensures)

pub returns : goal.returns
returns c = Each_all HasTexts c.args.rows.now c.loop-row.row-index (omega arith) c.loop-row.invariant
