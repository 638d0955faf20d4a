use Rattle.std.proofs.Common.{◌≡◌, drop}
use Rattle.std.specs.Prelude.{find}
use Rattle.gql_nodes.specs.Listed.{views}
use Rattle.gql_validate.specs.Shapes.{test_of}
use Rattle.gql_validate.proofs.search.first_breaking.Given as goal

abbrev pub invariant-loop-at : goal.invariant-loop-at
invariant-loop-at l =
    find (λ x. test_of l.schema l.document l.rule x.node) (views (drop l.at-index l.nodes))
    ≡ find (λ x. test_of l.schema l.document l.rule x.node) (views l.nodes)
