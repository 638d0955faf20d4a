-- 5.5.1.2 Fragment Spread Type Existence.
use Rattle.std.specs.Prelude.{Bool, is_none}
use Rattle.pg_base.specs.Schema.{SchemaParts}
use Rattle.gql_types.specs.Types.{type_named}
use Rattle.gql_nodes.specs.Nodes.{Node}
use Rattle.gql_scopes.specs.Conditions.{condition}

-- the schema doesn't have the type of the condition
abbrev pub breaks : SchemaParts → Node → Bool
breaks schema x = condition (λ name. is_none (type_named schema name)) x
