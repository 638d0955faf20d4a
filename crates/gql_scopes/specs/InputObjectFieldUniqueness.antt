-- 5.6.3 Input Object Field Uniqueness.
use Rattle.std.specs.Prelude.{Bool}
use Rattle.gql_nodes.specs.Nodes.{Node}
use Rattle.gql_scopes.specs.Sorts.{on_object_field}

-- an earlier field of the object has the field's name
abbrev pub breaks : Node → Bool
breaks x = on_object_field (λ repeated defs name. repeated) x
