use Rattle.std.proofs.Common.{◌≡◌, drop}
use Rattle.gql_scopes.specs.Ranks.{rises_from}
use Rattle.gql_scopes.proofs.order.rise.Given as goal

abbrev pub invariant-loop-place : goal.invariant-loop-place
invariant-loop-place l = rises_from l.ranks l.place (drop l.place l.rows) ≡ rises_from l.ranks 0 l.rows
