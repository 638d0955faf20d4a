-- 5.7.1 Directives Are Defined.
use Rattle.std.specs.Prelude.{Bool, is_none}
use Rattle.gql_nodes.specs.Nodes.{Node}
use Rattle.gql_nodes.specs.Sorts.{on_directive}

-- there is no directive of the name
abbrev pub breaks : Node → Bool
breaks x = on_directive (λ repeated at defs d. is_none defs) x
