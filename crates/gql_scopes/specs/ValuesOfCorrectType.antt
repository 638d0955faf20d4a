-- 5.6.1 Values of Correct Type.
use Rattle.std.specs.Prelude.{Bool, not}
use Rattle.pg_base.specs.Schema.{SchemaParts}
use Rattle.gql_nodes.specs.Nodes.{Node}
use Rattle.gql_input.specs.Literals.{fits}
use Rattle.gql_scopes.specs.Conditions.{if_some}
use Rattle.gql_scopes.specs.Sorts.{on_value}

-- The value, by itself, can't stand where its type is expected. What a list or an object holds are values of their own.
abbrev pub breaks : SchemaParts → Node → Bool
breaks schema x = on_value (λ ty kind. if_some (λ t. not (fits schema kind t)) ty) x
