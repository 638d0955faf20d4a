use Rattle.std.proofs.Common.{◌≡◌, drop}
use Rattle.gql_nodes.specs.Listed.{views}
use Rattle.gql_validate.specs.Merged as merged
use Rattle.gql_validate.proofs.set_pairs.clash_with.Given as goal

abbrev pub invariant-loop-g : goal.invariant-loop-g
invariant-loop-g l = merged.clash_with (views l.nodes) l.f (drop l.g-index l.gs) ≡ merged.clash_with (views l.nodes) l.f l.gs
