use Rattle.std.proofs.Common.{◌∙◌, ap, Some}
use Rattle.gql_types.specs.Types.{ty_as}
use Rattle.gql_types.proofs.WrittenTypes.{item_list}
use Rattle.gql_types.proofs.position.item_of_written.Goals as goal

pub returns-in-List : goal.returns-in-List
returns-in-List c = ap (λ t. Some (ty_as c.args.name t)) c.get.ensures ∙ item_list c.args.name _ _ _ c.in-List.is
