use Rattle.gql_nodes.specs.Listed.{views}
use Rattle.gql_validate.proofs.Placed.{none_breaks, position_found}
use Rattle.gql_validate.proofs.field_selection_merging.position_at.Goals as goal

pub returns-in-None : goal.returns-in-None
returns-in-None c = none_breaks (views c.args.nodes.now) c.args.least c.requires c.in-None.is

pub returns-in-Some : goal.returns-in-Some
returns-in-Some c = position_found (views c.args.nodes.now) c.args.least c.in-Some.place c.position_of_place.result c.requires c.in-Some.is c.position_of_place.ensures
