use Rattle.std.proofs.Common.{◌≡◌, length}
use Rattle.gql_scopes.proofs.order.ranks_of.Given as goal

abbrev pub invariant-loop-at : goal.invariant-loop-at
invariant-loop-at l = length l.ranks.items ≡ length l.rows
