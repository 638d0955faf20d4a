use Rattle.std.proofs.Common.{◌≡◌, ◌++◌, drop}
use Rattle.gql_nodes.specs.Listed.{views}
use Rattle.gql_validate.specs.Merged as merged
use Rattle.gql_validate.proofs.set_pairs.put_below_of.Given as goal

abbrev pub invariant-loop-f : goal.invariant-loop-f
invariant-loop-f l =
    l.out.items ++ merged.below_of (views l.nodes) l.tables (drop l.f-index l.fs) l.gs
    ≡ l.initial.out.items ++ merged.below_of (views l.nodes) l.tables l.fs l.gs
