use Rattle.std.proofs.Common.{◌∙◌, ap}
use Rattle.gql_types.specs.Types.{innermost_name}
use Rattle.gql_types.proofs.WrittenTypes.{inside_list}
use Rattle.gql_types.proofs.position.+innermost_name.Goals as goal

pub returns-in-List : goal.returns-in-List
returns-in-List t c = c.innermost_name.ensures ∙ ap innermost_name c.get.ensures ∙ inside_list _ _ _ c.in-List.is
