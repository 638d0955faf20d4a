use Rattle.std.proofs.Common.{◌≡◌, ◌++◌, drop}
use Rattle.gql_validate.specs.SetPairs as spec
use Rattle.gql_validate.proofs.set_pairs.put_with_first.Given as goal

abbrev pub invariant-loop-second : goal.invariant-loop-second
invariant-loop-second l =
    l.out.items ++ spec.with_first l.first (drop l.second-index l.seconds) ≡ l.initial.out.items ++ spec.with_first l.first l.seconds
