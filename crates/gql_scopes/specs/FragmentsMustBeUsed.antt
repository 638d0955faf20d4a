-- 5.5.1.4 Fragments Must Be Used.
use Rattle.std.specs.Prelude.{Bool, not, List}
use Rattle.gql_nodes.specs.Names.{is_among}
use Rattle.gql_nodes.specs.Nodes.{Node, At}
use Rattle.gql_nodes.specs.Uses.{as_fragment, spread_names}
use Rattle.gql_scopes.specs.Conditions.{if_some}
use Rattle.gql_nodes.specs.Sorts.{on_definition}

-- no spread in the document names the fragment
abbrev pub breaks : List At → Node → Bool
breaks nodes x =
    on_definition (λ repeated d. if_some (λ f. not (is_among f.name (spread_names nodes))) (as_fragment d)) x
