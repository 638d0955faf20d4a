-- What execution answers.
use Rattle.std.specs.Prelude.{◌≡◌, ◌<◌, ◌≤◌, List, ⊤}
use Rattle.pg_base.specs.Base.{BaseParts}
use Rattle.pg_base.specs.Limits.{most_visited_rows}
use Rattle.pg_base.specs.declared.vars.Vars.{Vars}
use Rattle.rel_model.specs.declared.tables.Tables.{Tables}
use Rattle.place_tree.specs.declared.event.Event.{Event}
use Rattle.place_tree.specs.declared.place.Tree.{Tree}
use Rattle.place_tree.specs.Events.{member_events}
use Rattle.place_tree.specs.Exec.{executed, visited}
use Rattle.list_execution.specs.declared.execution.ExecutionFault.{ExecutionFault}
use Rattle.list_execution.specs.declared.execution.ExecutionFault.TheVariants as fault

-- the events are those of the data, and few enough rows are visited
pub record AreData (base : BaseParts) (tables : Tables) (vars : Vars) (tree : Tree) (events : List Event) : Type 0 where
  pub within : visited base tables vars tree ≤ most_visited_rows
  pub data_ : events ≡ member_events (executed base tables vars tree)

-- why there are none; out of memory alone has no cause
abbrev pub IsCause : BaseParts → Tables → Vars → Tree → ExecutionFault → Type 0
IsCause base tables vars tree fault.TooManyRows = most_visited_rows < visited base tables vars tree
IsCause base tables vars tree fault.Memory = ⊤
