use Rattle.gql_validate.proofs.Members.{tables}
use Rattle.gql_validate.proofs.tables.tables_of.Goals as goal

pub returns : goal.returns
returns c = tables c.args.nodes.now _ c.in_ok-fields.ensures c.in_ok-sets.ensures
