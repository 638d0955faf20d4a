use Rattle.gql_types.specs.Positions.{ty_at}
use Rattle.gql_input.proofs.Levels.{levels}
use Rattle.gql_scopes.proofs.compatible.+are_compatible_but_null.Given as goal

abbrev pub decreases-are_compatible_but_null : goal.decreases-are_compatible_but_null
decreases-are_compatible_but_null l = levels (ty_at l.ty)
