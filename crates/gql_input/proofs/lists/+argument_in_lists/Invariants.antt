use Rattle.gql_types.specs.Positions.{ty_at}
use Rattle.gql_input.proofs.Levels.{levels}
use Rattle.gql_input.proofs.lists.+argument_in_lists.Given as goal

abbrev pub decreases-argument_in_lists : goal.decreases-argument_in_lists
decreases-argument_in_lists l = levels (ty_at l.at)
