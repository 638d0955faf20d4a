-- 5.5.1.3 Fragments On Composite Types, which are the object types here.
use Rattle.std.specs.Prelude.{Bool, ◌&&◌, is_none, is_some}
use Rattle.pg_base.specs.Schema.{SchemaParts}
use Rattle.gql_types.specs.Types.{type_named, object_named}
use Rattle.gql_nodes.specs.Nodes.{Node}
use Rattle.gql_scopes.specs.Conditions.{condition}

-- the type of the condition isn't an object type
abbrev pub breaks : SchemaParts → Node → Bool
breaks schema x = condition (λ name. is_some (type_named schema name) && is_none (object_named schema name)) x
