-- What makes a plan sound: it shows what execution gives, for all tables and variables, and finds no more rows; and
-- lean: it sends no more statements than are needed.
use Rattle.std.specs.Prelude.{◌≡◌, ◌<◌, ◌≤◌, ℕ, true, false, List, Some, slice_get, IsSomeAnd, IsTrue}
use Rattle.pg_base.specs.Base.{BaseParts}
use Rattle.pg_base.specs.Lists.{Each, EachPair}
use Rattle.pg_base.specs.declared.vars.Vars.{Vars}
use Rattle.rel_model.specs.Tables.{AreValidTables}
use Rattle.rel_model.specs.declared.tables.Row.{Row}
use Rattle.rel_model.specs.declared.tables.Tables.{Tables}
use Rattle.place_tree.specs.declared.place.Tree.{Tree}
use Rattle.place_tree.specs.declared.stand.Stand.TheVariants.{AtPayload}
use Rattle.place_tree.specs.Exec.{executed, executed_payload, visited, visited_below}
use Rattle.place_tree.specs.Fields.{does_of}
use Rattle.place_tree.specs.Needs.{is_mutation, needed_statements, needed_under}
use Rattle.place_tree.specs.Response.{Members}
use Rattle.stmt_tree.specs.Form.{IsHeld}
use Rattle.plan_constraints.specs.declared.constraint.Constraint.{Constraint}
use Rattle.plan_constraints.specs.Constraints.{Hold}
use Rattle.plan_steps.specs.declared.plan.Plan.{Plan}
use Rattle.plan_steps.specs.declared.plan.Root.{Root}
use Rattle.plan_steps.specs.declared.plan.Root.TheVariants as root
use Rattle.plan_steps.specs.Check.{is_checked}
use Rattle.plan_steps.specs.Denoted.{denotation, moment}
use Rattle.plan_steps.specs.Fitting.{FitTree}
use Rattle.plan_steps.specs.Named.{is_fetch, over}
use Rattle.plan_steps.specs.Sent.{rows_found, sent_count}
use Rattle.plan_steps.specs.Under.{mutated}

-- ---- roots

-- a row whose cells fit the columns of the table
abbrev pub IsRowOf : BaseParts → ℕ → Row → Type 0
IsRowOf base table row =
    IsSomeAnd (slice_get base.catalog.tables table) (λ t. EachPair (IsHeld base.catalog.enums) t.columns row.cells)

-- a root of the tree: a query's, or a mutation field with a row of its table
abbrev pub IsRootOf : BaseParts → Tree → Root → Type 0
IsRootOf base tree root.Query = Each (λ p. is_mutation (does_of base.schema p) ≡ false) tree.places
IsRootOf base tree (root.Field place row) =
    IsSomeAnd (slice_get tree.places place) (λ p.
    IsSomeAnd (mutated (does_of base.schema p)) (λ table. IsRowOf base table row))

-- what execution gives for a root
abbrev pub executed_for : BaseParts → Tables → Vars → Tree → Root → Members
executed_for base tables vars tree root.Query = executed base tables vars tree
executed_for base tables vars tree (root.Field place row) = executed_payload base tables vars tree place row

-- the rows that it visits
abbrev pub visited_for : BaseParts → Tables → Vars → Tree → Root → ℕ
visited_for base tables vars tree root.Query = visited base tables vars tree
visited_for base tables vars tree (root.Field place row) =
    visited_below base tables vars tree (Some place) (AtPayload row)

-- the statements that it needs
abbrev pub needed_for : BaseParts → Vars → Tree → Root → ℕ
needed_for base vars tree root.Query = needed_statements base vars tree
needed_for base vars tree (root.Field place row) = needed_under base vars tree place

-- ---- plans

-- tables, variables and a root over which a plan may run
pub record MayRun (base : BaseParts) (tree : Tree) (constraints : List Constraint) (tables : Tables) (vars : Vars)
    (r : Root) : Type 0 where
  pub valid : AreValidTables base.catalog tables
  pub fit : FitTree base vars tree
  pub hold : Hold constraints vars
  pub of_tree : IsRootOf base tree r

-- each fetch comes after the one over which its layer stands
abbrev pub FetchesFollow : Plan → Type 0
FetchesFollow plan = (k s : ℕ) → is_fetch plan.steps k ≡ true → over plan.layers k ≡ Some s → s < k

pub record IsSound (base : BaseParts) (plan : Plan) (tree : Tree) (constraints : List Constraint) : Type 0 where
  pub checked : IsTrue (is_checked base tree plan)
  pub follow : FetchesFollow plan
  pub same : (tables : Tables) (vars : Vars) (r : Root) → MayRun base tree constraints tables vars r
      → denotation base tables vars plan tree r ≡ executed_for base tables vars tree r
  pub few : (tables : Tables) (vars : Vars) (r : Root) → MayRun base tree constraints tables vars r
      → rows_found (moment base tables vars r) tree plan r ≤ visited_for base tables vars tree r

pub record IsLean (base : BaseParts) (plan : Plan) (tree : Tree) (constraints : List Constraint) : Type 0 where
  pub few : (vars : Vars) (r : Root) → FitTree base vars tree → Hold constraints vars → IsRootOf base tree r
      → sent_count tree plan r ≤ needed_for base vars tree r
