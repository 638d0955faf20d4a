use Rattle.std.proofs.Common.{arith, ◌<◌}
use Rattle.gql_types.specs.Positions.{ty_at}
use Rattle.gql_input.proofs.Levels.{levels, fewer}
use Rattle.gql_input.proofs.lists.+value_in_lists.Goals as goal

pub value_in_lists-requires : goal.value_in_lists-requires
value_in_lists-requires t c =
    let less : levels (ty_at c.in-Some.item) < levels (ty_at c.args.at) = fewer (ty_at c.args.at) (ty_at c.in-Some.item) c.in-Some.ensures in (omega arith, tt)
