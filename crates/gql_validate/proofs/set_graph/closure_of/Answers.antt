use Rattle.std.proofs.Common.{◌≡◌, subst, rules}
use Rattle.gql_nodes.specs.Listed.{views}
use Rattle.gql_nodes.specs.Reached.{IsClosure}
use Rattle.gql_validate.specs.Merged as spec
use Rattle.gql_validate.proofs.set_graph.closure_of.Goals as goal

pub returns : goal.returns
returns c =
    let first : c.as_slice.result.now ≡ spec.starts_by c.args.graph.now.tables 0 (views c.args.graph.now.nodes.now) = search rules in
    subst (λ l. IsClosure l (λ p. spec.listed_steps (views c.args.graph.now.nodes.now) c.args.graph.now.tables p) c.in_ok-found.found.keys) first c.in_ok-found.ensures
