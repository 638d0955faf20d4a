-- 5.8.4 All Variables Used.
use Rattle.std.specs.Prelude.{ℕ, List, IsFalse}
use Rattle.gql_reader.specs.declared.tree.Document.{Document}
use Rattle.gql_nodes.specs.Names.{is_among}
use Rattle.gql_nodes.specs.Nodes.{At}
use Rattle.gql_nodes.specs.Uses.{used_names, Reaches}
use Rattle.gql_scopes.specs.SortFacts.{OfVariable}

-- no use that the operation reaches names the variable
abbrev pub IsUnused : Document → List At → ℕ → List ℕ → Type 0
IsUnused document nodes within name =
    (j : ℕ) → Reaches nodes document within j → IsFalse (is_among name (used_names nodes j))

abbrev pub Breaks : Document → List At → At → Type 0
Breaks document nodes x = OfVariable (λ v. IsUnused document nodes x.within v.name) x.node
