use Rattle.std.proofs.Common.{arith, rules}
use Rattle.gql_scopes.proofs.Gathered.{rows_more, slice_at}
use Rattle.gql_scopes.proofs.tables.gather_variables.Goals as goal

pub loop-definition-preserved : goal.loop-definition-preserved
loop-definition-preserved c =
    let definitions = c.args.definitions.now in
    let i = c.loop-definition.definition-index in
    let x = c.definition-item.result in (
      search rules,
      rows_more definitions c.loop-definition.rows.items c.push.new.self.items c.in_ok-places.places i x (slice_at definitions i x (omega arith) c.definition-item.is) c.loop-definition.invariant.0
          c.in_ok-push.ensures.items c.in_ok-places.ensures c.loop-definition.invariant.1,
    )
