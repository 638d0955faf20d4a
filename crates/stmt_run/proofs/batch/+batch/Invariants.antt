use Rattle.std.proofs.Common.{◌≡◌, ◌++◌, ◌+◌, drop, map, sum}
use Rattle.stmt_tree.specs.Meaning.{trees_in_all}
use Rattle.stmt_tree.specs.Batches.{column}
use Rattle.stmt_run.proofs.batch.+batch.Given as goal

-- the columns so far and those of the children that are left are those of all, and what they take is gone from the room
abbrev pub invariant-find_columns-loop-child : goal.invariant-find_columns-loop-child
invariant-find_columns-loop-child l =
    (l.columns ++ map (column l.set.tables (map (λ r. r.now) l.rows)) (drop l.child-index l.children) ≡ map (column l.set.tables (map (λ r. r.now) l.rows)) l.children)
    × (l.room + sum (map trees_in_all l.columns) ≡ l.fn.room)
