-- 5.8.1 Variable Uniqueness.
use Rattle.std.specs.Prelude.{Bool}
use Rattle.gql_nodes.specs.Nodes.{Node}
use Rattle.gql_scopes.specs.Sorts.{on_variable}

-- an earlier variable of the operation has the variable's name
abbrev pub breaks : Node → Bool
breaks x = on_variable (λ repeated v. repeated) x
