-- The response to a query.
use Rattle.std.specs.Prelude.{◌≡◌, ◌⊎◌, ℕ, ◌+◌, ◌<◌, ◌≤◌, List, length, Option, Some, Result, Ok, Err, ⊤}
use Rattle.pg_base.specs.Base.{BaseParts}
use Rattle.pg_base.specs.Catalog.{CatalogParts}
use Rattle.pg_base.specs.Limits.{most_visited_rows, most_response_bytes}
use Rattle.pg_base.specs.declared.vars.Vars.{Vars}
use Rattle.rel_model.specs.Tables.{AreValidTables}
use Rattle.rel_model.specs.declared.tables.Tables.{Tables}
use Rattle.place_tree.specs.declared.place.Tree.{Tree}
use Rattle.place_tree.specs.Exec.{executed, visited}
use Rattle.place_tree.specs.Response.{response_text}
use Rattle.planned_response.specs.declared.fault.RespondFault.{RespondFault}
use Rattle.planned_response.specs.declared.fault.RespondFault.TheVariants as fault

-- the store tells these tables, and they are valid for the catalog
abbrev pub AreTold : CatalogParts → Option Tables → Tables → Type 0
AreTold c held tables = (held ≡ Some tables) × AreValidTables c tables

-- ---- the response

-- the text is that of execution, and neither it nor what is visited is too much
pub record IsResponse (base : BaseParts) (tables : Tables) (vars : Vars) (tree : Tree) (text : List ℕ) : Type 0 where
  pub shown : text ≡ response_text (executed base tables vars tree)
  pub fits : length text ≤ most_response_bytes
  pub few : visited base tables vars tree ≤ most_visited_rows

-- too many rows are visited, or the text is too long
abbrev pub IsTooLarge : BaseParts → Tables → Vars → Tree → Type 0
IsTooLarge base tables vars tree =
    (most_visited_rows < visited base tables vars tree)
    ⊎ (most_response_bytes < length (response_text (executed base tables vars tree)))

-- the response, or why there is none; it yields to a fault of the store
abbrev pub RespondsOver : BaseParts → Tables → Vars → Tree → Result (List ℕ) RespondFault → Type 0
RespondsOver base tables vars tree (Ok text) = IsResponse base tables vars tree text
RespondsOver base tables vars tree (Err fault.Store) = ⊤
RespondsOver base tables vars tree (Err fault.TooLarge) = IsTooLarge base tables vars tree
RespondsOver base tables vars tree (Err fault.Memory) = ⊤

abbrev pub IsStoreFault : {A : Type 0} → Result A RespondFault → Type 0
IsStoreFault (Ok x) = ⊥
IsStoreFault (Err fault.Store) = Unit {0}
IsStoreFault (Err fault.TooLarge) = ⊥
IsStoreFault (Err fault.Memory) = ⊥

-- ---- what it takes

-- no more rows are got than execution visits, nor than a request may visit
pub record GetsFew (base : BaseParts) (tables : Tables) (vars : Vars) (tree : Tree) (before now : ℕ) : Type 0 where
  pub rises : before ≤ now
  pub room : now ≤ before + most_visited_rows
  pub visited_ : now ≤ before + visited base tables vars tree

-- one plan is made; where memory runs out, one or none
abbrev pub CountsPlan : {A : Type 0} → ℕ → ℕ → Result A RespondFault → Type 0
CountsPlan before now (Ok x) = now ≡ before + 1
CountsPlan before now (Err fault.Store) = now ≡ before + 1
CountsPlan before now (Err fault.TooLarge) = now ≡ before + 1
CountsPlan before now (Err fault.Memory) = (before ≤ now) × (now ≤ before + 1)
