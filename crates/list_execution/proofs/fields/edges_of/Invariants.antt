use Rattle.std.proofs.Common.{◌≡◌, ◌++◌, drop, map}
use Rattle.place_tree.specs.Exec.{edge_of}
use Rattle.list_execution.proofs.fields.edges_of.Given as goal

abbrev pub invariant-loop-row : goal.invariant-loop-row
invariant-loop-row l = l.stands ++ map (edge_of l.listed) (drop l.row-index l.rows) ≡ map (edge_of l.listed) l.rows
