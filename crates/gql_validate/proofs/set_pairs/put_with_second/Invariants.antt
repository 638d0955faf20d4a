use Rattle.std.proofs.Common.{◌≡◌, ◌++◌, drop}
use Rattle.gql_validate.specs.SetPairs as spec
use Rattle.gql_validate.proofs.set_pairs.put_with_second.Given as goal

abbrev pub invariant-loop-first : goal.invariant-loop-first
invariant-loop-first l =
    l.out.items ++ spec.with_second (drop l.first-index l.firsts) l.second ≡ l.initial.out.items ++ spec.with_second l.firsts l.second
