use Rattle.std.proofs.Common.{◌<◌, None, ◌+◌, length, arith}
use Rattle.gql_collect.specs.Growing.{with_set}
use Rattle.gql_collect.specs.Trees.{levels, empty}
use Rattle.gql_collect.proofs.Levels.{more_levels}
use Rattle.gql_collect.proofs.laws.levels_cut_nothing.Goals as goal

pub returns : goal.returns
returns c r ty selections more few =
    let below : length (with_set 2001 r None ty selections empty).places < 0 + 2001 = omega (arith, few) in
    more_levels r levels more None ty selections empty below
