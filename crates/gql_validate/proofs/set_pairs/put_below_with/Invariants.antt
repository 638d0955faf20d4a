use Rattle.std.proofs.Common.{◌≡◌, ◌++◌, drop}
use Rattle.gql_nodes.specs.Listed.{views}
use Rattle.gql_validate.specs.Merged as merged
use Rattle.gql_validate.proofs.set_pairs.put_below_with.Given as goal

abbrev pub invariant-loop-g : goal.invariant-loop-g
invariant-loop-g l =
    l.out.items ++ merged.below_with (views l.nodes) l.tables l.f (drop l.g-index l.gs)
    ≡ l.initial.out.items ++ merged.below_with (views l.nodes) l.tables l.f l.gs
