use Rattle.std.proofs.Common.{◌≡◌, ◌++◌, drop, map}
use Rattle.place_tree.specs.declared.stand.Stand.TheVariants.{AtRow}
use Rattle.list_execution.proofs.fields.nodes_of.Given as goal

abbrev pub invariant-loop-row : goal.invariant-loop-row
invariant-loop-row l = l.stands ++ map AtRow (drop l.row-index l.rows) ≡ map AtRow l.rows
