-- Single root field (5.2.3.1). Here no operation is a subscription, and none is a mutation where the schema has no type
-- for these.
use Rattle.std.specs.Prelude.{Bool, false, is_none}
use Rattle.pg_base.specs.Schema.{SchemaParts}
use Rattle.gql_reader.specs.declared.tree.Definition.{Definition}
use Rattle.gql_reader.specs.declared.tree.Definition.TheVariants as definition
use Rattle.gql_nodes.specs.Fields.{root_of}
use Rattle.gql_nodes.specs.Nodes.{Node}
use Rattle.gql_nodes.specs.Sorts.{on_definition}

abbrev pub has_no_root : SchemaParts → Definition → Bool
has_no_root schema (definition.Operation o) = is_none (root_of schema o.kind)
has_no_root schema (definition.Fragment f) = false
has_no_root schema (definition.Foreign pos) = false

-- each operation has a root type
abbrev pub breaks : SchemaParts → Node → Bool
breaks schema = on_definition (λ repeated d. has_no_root schema d)
