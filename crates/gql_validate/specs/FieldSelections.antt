-- Field selections (5.3.1).
use Rattle.std.specs.Prelude.{ℕ, Bool, false, Option, Some, None, is_none}
use Rattle.gql_nodes.specs.Fields.{Known}
use Rattle.gql_nodes.specs.Nodes.{Node}
use Rattle.gql_nodes.specs.Sorts.{on_field}

abbrev pub is_missing : Option ℕ → Option Known → Bool
is_missing None known = false
is_missing (Some parent) known = is_none known

-- the parent type has the field
abbrev pub breaks : Node → Bool
breaks = on_field (λ parent known f. is_missing parent known)
