-- 5.5.1.1 Fragment Name Uniqueness.
use Rattle.std.specs.Prelude.{Bool, ◌&&◌, is_some}
use Rattle.gql_nodes.specs.Nodes.{Node}
use Rattle.gql_nodes.specs.Uses.{as_fragment}
use Rattle.gql_nodes.specs.Sorts.{on_definition}

-- an earlier fragment has the fragment's name
abbrev pub breaks : Node → Bool
breaks x = on_definition (λ repeated d. is_some (as_fragment d) && repeated) x
