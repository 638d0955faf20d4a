-- 5.7.3 Directives Are Unique Per Location.
use Rattle.std.specs.Prelude.{Bool}
use Rattle.gql_nodes.specs.Nodes.{Node}
use Rattle.gql_nodes.specs.Sorts.{on_directive}

-- an earlier directive there has the directive's name
abbrev pub breaks : Node → Bool
breaks x = on_directive (λ repeated at defs d. repeated) x
