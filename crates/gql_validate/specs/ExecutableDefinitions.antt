-- Executable definitions (5.1.1).
use Rattle.std.specs.Prelude.{Bool, true, false}
use Rattle.gql_reader.specs.declared.tree.Definition.{Definition}
use Rattle.gql_reader.specs.declared.tree.Definition.TheVariants as definition
use Rattle.gql_nodes.specs.Nodes.{Node}
use Rattle.gql_nodes.specs.Sorts.{on_definition}

abbrev pub is_foreign : Definition → Bool
is_foreign (definition.Operation o) = false
is_foreign (definition.Fragment f) = false
is_foreign (definition.Foreign pos) = true

-- each definition is an operation or a fragment
abbrev pub breaks : Node → Bool
breaks = on_definition (λ repeated d. is_foreign d)
