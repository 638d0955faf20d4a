use Rattle.gql_types.specs.Positions.{ty_at}
use Rattle.gql_input.proofs.Levels.{levels}
use Rattle.gql_input.proofs.lists.+value_in_lists.Given as goal

abbrev pub decreases-value_in_lists : goal.decreases-value_in_lists
decreases-value_in_lists l = levels (ty_at l.at)
