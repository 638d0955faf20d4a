-- 5.8.3 All Variable Uses Defined.
use Rattle.std.specs.Prelude.{◌≡◌, ℕ, List, None, IsSomeAnd}
use Rattle.gql_reader.specs.declared.tree.Document.{Document}
use Rattle.gql_nodes.specs.Nodes.{At}
use Rattle.gql_nodes.specs.Uses.{variable_in, variable_name, ReachingOperation}
use Rattle.gql_scopes.specs.SortFacts.{OfValue}

-- an operation that reaches the use doesn't define the variable
abbrev pub IsUndefined : Document → List At → ℕ → List ℕ → Type 0
IsUndefined document nodes within name = ReachingOperation nodes document (λ o. variable_in o name ≡ None) within

abbrev pub Breaks : Document → List At → At → Type 0
Breaks document nodes x =
    OfValue (λ ty kind. IsSomeAnd (variable_name kind) (IsUndefined document nodes x.within)) x.node
