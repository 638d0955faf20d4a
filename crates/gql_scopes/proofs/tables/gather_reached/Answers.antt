use Rattle.std.proofs.Common.{◌∙◌, rules}
use Rattle.gql_scopes.specs.Tables.{row}
use Rattle.gql_scopes.proofs.Gathered.{closures_more, mark_at}
use Rattle.gql_scopes.proofs.tables.gather_reached.Goals as goal

pub loop-place-preserved : goal.loop-place-preserved
loop-place-preserved c = (
  search rules,
  closures_more (λ n. row c.args.spreads.now.rows.items n) c.args.wanted.now c.loop-place.rows.items c.push.new.self.items c.in_ok-found.found c.loop-place.place c.loop-place.invariant.0 c.in_ok-push.ensures.items
      (λ marked. c.in_ok-found.ensures (mark_at c.args.wanted.now c.loop-place.place ∙ marked)) c.loop-place.invariant.1,
)
