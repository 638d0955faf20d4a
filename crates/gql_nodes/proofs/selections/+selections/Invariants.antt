use Rattle.std.proofs.Common.{◌≡◌, drop}
use Rattle.gql_nodes.specs.Nodes as spec
use Rattle.gql_nodes.specs.Listed.{views}
use Rattle.gql_nodes.proofs.selections.+selections.Given as goal

abbrev pub invariant-put_selections-loop-selection : goal.invariant-put_selections-loop-selection
invariant-put_selections-loop-selection l =
    spec.put_selections l.schema l.set.within l.set.owner l.set.parent (drop l.selection-index l.selections) (views l.out.items)
    ≡ spec.put_selections l.schema l.set.within l.set.owner l.set.parent l.selections (views l.initial.out.items)
