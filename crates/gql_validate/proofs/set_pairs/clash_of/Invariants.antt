use Rattle.std.proofs.Common.{◌≡◌, drop}
use Rattle.gql_nodes.specs.Listed.{views}
use Rattle.gql_validate.specs.Merged as merged
use Rattle.gql_validate.proofs.set_pairs.clash_of.Given as goal

abbrev pub invariant-loop-f : goal.invariant-loop-f
invariant-loop-f l = merged.clash_of (views l.nodes) (drop l.f-index l.fs) l.gs ≡ merged.clash_of (views l.nodes) l.fs l.gs
