use Rattle.std.proofs.Common.{◌<◌, arith}
use Rattle.gql_scopes.proofs.Gathered.{node_within}
use Rattle.gql_scopes.proofs.wanted.gather_wanted.Goals as goal

pub mark-requires : goal.mark-requires
mark-requires c =
    let len = c.loop-at.invariant.0 in
    let lt : c.at-item.result.within < c.args.count = node_within c.args.nodes.now c.loop-at.at-index c.at-item.result (omega arith) c.at-item.is c.args.count c.requires in omega arith
