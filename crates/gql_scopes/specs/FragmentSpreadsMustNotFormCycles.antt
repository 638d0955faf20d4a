-- 5.5.2.2 Fragment Spreads Must Not Form Cycles.
use Rattle.std.specs.Prelude.{List, IsSomeAnd}
use Rattle.gql_reader.specs.declared.tree.Document.{Document}
use Rattle.gql_nodes.specs.Nodes.{At}
use Rattle.gql_nodes.specs.Uses.{fragment_place, Reaches}
use Rattle.gql_scopes.specs.SortFacts.{OfSpread}

-- from the spread's fragment a chain of spreads comes back to the definition in which the spread stands
abbrev pub Breaks : Document → List At → At → Type 0
Breaks document nodes x =
    OfSpread (λ s. IsSomeAnd (fragment_place document s.name) (λ target. Reaches nodes document target x.within)) x.node
