use Rattle.std.proofs.Common.{sym, ◌∙◌}
use Rattle.gql_scopes.proofs.Ranks.{ranked}
use Rattle.gql_scopes.proofs.order.is_ordered.Goals as goal

pub returns : goal.returns
returns c = λ is. ranked c.as_slice.result.now c.args.rows.now (sym c.rise.ensures ∙ is)
