use Rattle.ddl_reader.proofs.Apart.{fresh_at}
use Rattle.ddl_reader.proofs.known.names_of.Goals as goal

pub push-requires : goal.push-requires
push-requires c = fresh_at (λ column. column.name) c.args.columns.now c.requires c.loop-column.column-index c.column-item.result c.loop-column-test.true c.column-item.is _ c.loop-column.invariant
