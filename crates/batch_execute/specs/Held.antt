-- The rows of a fetch that stand in what was found so far.
use Rattle.std.specs.Prelude.{ℕ, zero, suc, List, [], ◌∷◌, ◌++◌, length, Option, Some, None}
use Rattle.plan_steps.specs.declared.plan.Step.{Step}
use Rattle.stmt_tree.specs.declared.found.Found.{Found}
use Rattle.stmt_tree.specs.declared.found.Found.TheViews.{out-Found}
use Rattle.stmt_tree.specs.declared.found.RowTree.{RowTree}
use Rattle.batch_execute.specs.Fetched.{FetchedParts}
use Rattle.batch_execute.specs.declared.way.Way.{Way}
use Rattle.batch_execute.specs.declared.way.Way.TheVariants.{Other, Once, Sent, Read}
use Rattle.batch_execute.specs.Reading.{fetched_at, found_below}
use Rattle.batch_execute.specs.Ways.{way_of}

-- all rows of what was found, those of one key after those of the other
abbrev pub all_rows : List Found → List RowTree
all_rows [] = []
all_rows (f ∷ found) = (out-Found f).rows ++ all_rows found

abbrev pub rows_of : Option Found → List RowTree
rows_of None = []
rows_of (Some f) = (out-Found f).rows

-- the rows that a child found below each of these
abbrev pub rows_below : ℕ → List RowTree → List RowTree
rows_below child [] = []
rows_below child (tree ∷ trees) = rows_of (found_below (Some tree) child) ++ rows_below child trees

abbrev pub held_by : (ℕ → List RowTree) → List FetchedParts → ℕ → Way → List RowTree
held_by above fetched k Other = []
held_by above fetched k Once = all_rows (fetched_at fetched k).found
held_by above fetched k (Sent g) = all_rows (fetched_at fetched k).found
held_by above fetched k (Read g child) = rows_below child (above g)

-- those of the step at k, which hangs on at most so many others
abbrev pub held_within : ℕ → List Step → List FetchedParts → ℕ → List RowTree
held_within zero steps fetched k = []
held_within (suc n) steps fetched k = held_by (held_within n steps fetched) fetched k (way_of steps k)

abbrev pub held : List Step → List FetchedParts → ℕ → List RowTree
held steps fetched k = held_within (length steps) steps fetched k
