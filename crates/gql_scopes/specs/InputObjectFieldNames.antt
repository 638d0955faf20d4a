-- 5.6.2 Input Object Field Names.
use Rattle.std.specs.Prelude.{Bool, is_none}
use Rattle.gql_types.specs.Types.{arg_named}
use Rattle.gql_nodes.specs.Nodes.{Node}
use Rattle.gql_scopes.specs.Conditions.{if_some}
use Rattle.gql_scopes.specs.Sorts.{on_object_field}

-- the input type doesn't have the field
abbrev pub breaks : Node → Bool
breaks x = on_object_field (λ repeated defs name. if_some (λ d. is_none (arg_named d name)) defs) x
