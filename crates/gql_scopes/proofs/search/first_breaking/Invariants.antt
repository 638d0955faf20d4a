use Rattle.std.proofs.Common.{◌≡◌, drop}
use Rattle.std.specs.Prelude.{find, option_map}
use Rattle.gql_nodes.specs.Listed.{views}
use Rattle.gql_nodes.specs.Nodes.{pos_of}
use Rattle.gql_scopes.specs.Tests.{test_of}
use Rattle.gql_scopes.proofs.search.first_breaking.Given as goal

abbrev pub invariant-loop-at : goal.invariant-loop-at
invariant-loop-at l =
    option_map (λ x. pos_of x.node) (find (test_of l.schema l.document l.tables l.rule) (views (drop l.at-index l.nodes)))
    ≡ option_map (λ x. pos_of x.node) (find (test_of l.schema l.document l.tables l.rule) (views l.nodes))
