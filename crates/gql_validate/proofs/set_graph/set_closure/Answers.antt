use Rattle.gql_validate.proofs.Steps.{closure_is}
use Rattle.gql_validate.proofs.set_graph.set_closure.Goals as goal

pub returns : goal.returns
returns c = closure_is _ _ c.requires _ _ c.in_ok-list.ensures c.in_ok-found.ensures
