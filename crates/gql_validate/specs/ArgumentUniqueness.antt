-- Argument uniqueness (5.4.2).
use Rattle.std.specs.Prelude.{Bool}
use Rattle.gql_nodes.specs.Nodes.{Node}
use Rattle.gql_nodes.specs.Sorts.{on_argument}

-- no argument is given twice
abbrev pub breaks : Node → Bool
breaks = on_argument (λ repeated defs a. repeated)
