-- 5.5.2.1 Fragment Spread Target Defined.
use Rattle.std.specs.Prelude.{Bool, is_none}
use Rattle.gql_reader.specs.declared.tree.Document.{Document}
use Rattle.gql_nodes.specs.Nodes.{Node}
use Rattle.gql_nodes.specs.Uses.{fragment_place}
use Rattle.gql_scopes.specs.Sorts.{on_spread}

-- the document doesn't have the spread's fragment
abbrev pub breaks : Document → Node → Bool
breaks document x = on_spread (λ parent s. is_none (fragment_place document s.name)) x
