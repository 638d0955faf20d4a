use Rattle.std.proofs.Common.{arith}
use Rattle.pg_catalog.specs.Texts.{IsTextColumn}
use Rattle.pg_catalog.proofs.EachFacts.{Each-more, Each-all}
use Rattle.pg_catalog.proofs.texts.know_columns.Goals as goal

pub loop-column-preserved : goal.loop-column-preserved
loop-column-preserved c = Each-more IsTextColumn c.args.columns.now c.loop-column.column-index c.column-item.result c.loop-column-test.true c.column-item.is c.loop-column.invariant c.know_column.ensures

pub returns : goal.returns
returns c = Each-all IsTextColumn c.args.columns.now c.loop-column.column-index (omega arith) c.loop-column.invariant
