use Rattle.std.proofs.Common.{arith}
use Rattle.gql_scopes.proofs.Gathered.{counted}
use Rattle.gql_scopes.proofs.tables.count_rows.Goals as goal

pub loop-at-preserved : goal.loop-at-preserved
loop-at-preserved c = (
  omega arith,
  counted c.args.nodes.now c.loop-at.at-index c.at-item.result c.loop-at.count c.max-count.result (omega arith) c.at-item.is (omega arith) (omega arith) c.loop-at.invariant.1,
)
