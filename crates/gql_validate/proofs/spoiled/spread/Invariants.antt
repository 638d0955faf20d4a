use Rattle.gql_nodes.specs.Listed.{views}
use Rattle.gql_validate.proofs.Spreading.{IsTurn}
use Rattle.gql_validate.proofs.spoiled.spread.Given as goal

abbrev pub invariant-loop-turn : goal.invariant-loop-turn
invariant-loop-turn l = IsTurn (views l.graph.nodes.now) l.graph.tables l.initial.spoiled.keys l.spoiled.keys l._turn
