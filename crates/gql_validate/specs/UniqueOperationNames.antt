-- Operation name uniqueness (5.2.1.1).
use Rattle.std.specs.Prelude.{Bool, true, false, ◌&&◌}
use Rattle.gql_reader.specs.declared.tree.Definition.{Definition}
use Rattle.gql_reader.specs.declared.tree.Definition.TheVariants as definition
use Rattle.gql_nodes.specs.Nodes.{Node}
use Rattle.gql_nodes.specs.Sorts.{on_definition}

abbrev pub is_operation : Definition → Bool
is_operation (definition.Operation o) = true
is_operation (definition.Fragment f) = false
is_operation (definition.Foreign pos) = false

-- no earlier operation has the name of an operation
abbrev pub breaks : Node → Bool
breaks = on_definition (λ repeated d. repeated && is_operation d)
