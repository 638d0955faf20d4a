use Rattle.gql_types.proofs.WrittenTypes.{not_null_list}
use Rattle.gql_types.proofs.position.is_non_null.Goals as goal

pub returns-in-List : goal.returns-in-List
returns-in-List c = λ n. not_null_list n _ _ _ c.in-List.is
