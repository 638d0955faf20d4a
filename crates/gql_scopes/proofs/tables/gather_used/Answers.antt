use Rattle.std.proofs.Common.{◌<◌, ◌∙◌, arith}
use Rattle.gql_nodes.specs.Listed.{views}
use Rattle.gql_nodes.specs.Names.{is_among}
use Rattle.gql_nodes.specs.Uses.{used_names}
use Rattle.gql_scopes.specs.Tables.{row}
use Rattle.gql_scopes.proofs.Gathered.{node_within, used_put}
use Rattle.gql_scopes.proofs.tables.gather_used.Goals as goal

pub put_name-requires : goal.put_name-requires
put_name-requires c =
    let len = c.loop-at.invariant.0 in
    let lt : c.at-item.result.within < c.args.count = node_within c.args.nodes.now c.loop-at.at-index c.at-item.result (omega arith) c.at-item.is c.args.count c.requires in omega arith

pub loop-at-preserved : goal.loop-at-preserved
loop-at-preserved c = (
  c.in_ok-put_name.ensures.len ∙ c.loop-at.invariant.0,
  λ place name. used_put c.args.nodes.now c.loop-at.at-index c.at-item.result (omega arith) c.at-item.is (row c.loop-at.rows.items place) (row c.put_name.new.rows.items place) c.in-Some.name.now place name
      (is_among name (used_names (views c.args.nodes.now) place)) c.in-Some.ensures (c.in_ok-put_name.ensures.row place) (c.loop-at.invariant.1 place name),
)
