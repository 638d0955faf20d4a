-- The answer to a request over a store, with what it takes of the store: statements, rows, faults and plans.
use Rattle.std.specs.Prelude.{◌≡◌, ◌⊎◌, ℕ, ◌+◌, ◌≤◌, nat_lt, Bool, true, false, List, length, Option}
use Rattle.pg_base.specs.Base.{BaseParts}
use Rattle.pg_base.specs.Limits.{most_places, most_visited_rows}
use Rattle.pg_base.specs.declared.vars.Vars.{Vars}
use Rattle.gql_collect.specs.Trees.{tree_of}
use Rattle.gql_reader.specs.declared.tree.Document.{Document}
use Rattle.rel_model.specs.declared.tables.Tables.{Tables}
use Rattle.place_tree.specs.Needs.{needed_statements}
use Rattle.place_tree.specs.declared.place.Tree.{Tree}
use Rattle.stmt_tree.specs.Form.{Rose}
use Rattle.plan_steps.specs.Sound.{IsRootOf}
use Rattle.plan_steps.specs.declared.plan.Root.TheVariants as root
use Rattle.step_plan.specs.Planned.{IsPlannable}
use Rattle.planned_response.specs.Responses.{AreTold, GetsFew}
use Rattle.request_core.specs.Answer.{executed_answer}
use Rattle.request_core.specs.Refusals.{storage_fault, too_many}
use Rattle.request_core.specs.Request.{Request, Ends}

-- ---- counts

-- the statements that were sent, the rows that were got, the calls that failed, and the plans that were made
pub record Counts : Type 0 where
  pub sent : ℕ
  pub got : ℕ
  pub faults : ℕ
  pub plans : ℕ

abbrev pub counts : ℕ → ℕ → ℕ → ℕ → Counts
counts sent got faults plans = record { sent = sent; got = got; faults = faults; plans = plans }

-- no more rows are got than a request may visit
abbrev pub GetsAtMost : ℕ → ℕ → Type 0
GetsAtMost before now = (before ≤ now) × (now ≤ before + most_visited_rows)

-- one plan is made, or none
abbrev pub PlansAtMostOne : ℕ → ℕ → Type 0
PlansAtMostOne before now = (before ≤ now) × (now ≤ before + 1)

-- ---- a query that isn't refused

-- a tree of few enough places, of which a plan can be made, and which is a query's
pub record MayRespond (base : BaseParts) (tree : Tree) (vars : Vars) : Type 0 where
  pub plannable : IsPlannable base tree vars
  pub root_ : IsRootOf base tree root.Query
  pub few : length tree.places ≤ most_places

-- the text says that the store failed, and it did
abbrev pub IsStorageFault : Counts → Counts → List ℕ → Type 0
IsStorageFault before now text = (text ≡ storage_fault) × Rose before.faults now.faults

-- a tree is answered over a store: by the text of execution, or that this is too large, or that the store failed
pub record IsRun (base : BaseParts) (held : Option Tables) (vars : Vars) (tree : Tree) (before now : Counts)
    (text : List ℕ) : Type 0 where
  pub answer : (tables : Tables) → AreTold base.catalog held tables
      → (text ≡ executed_answer base tables vars tree) ⊎ IsStorageFault before now text
  pub sent : now.sent ≤ before.sent + needed_statements base vars tree
  pub got : (tables : Tables) → AreTold base.catalog held tables → GetsFew base tables vars tree before.got now.got
  pub planned : now.plans ≡ before.plans + 1

-- ---- requests

-- the text is the refusal, and nothing is asked of the store, nor planned
pub record IsRefusal (before now : Counts) (text refused : List ℕ) : Type 0 where
  pub shown : text ≡ refused
  pub still : now ≡ before

-- a tree has too many places, or is answered
abbrev pub RunsBy : Bool → BaseParts → Option Tables → Vars → Tree → Counts → Counts → List ℕ → Type 0
RunsBy true base held vars tree before now text = IsRefusal before now text too_many
RunsBy false base held vars tree before now text = IsRun base held vars tree before now text

abbrev pub RunsTree : BaseParts → Option Tables → Vars → Tree → Counts → Counts → List ℕ → Type 0
RunsTree base held vars tree before now text =
    RunsBy (nat_lt most_places (length tree.places)) base held vars tree before now text

-- the same of the operation at a place of the document
abbrev pub Runs : BaseParts → Option Tables → Counts → Counts → List ℕ → Document → ℕ → Vars → Type 0
Runs base held before now text read place vars =
    RunsTree base held vars (tree_of base.schema read place vars) before now text

-- the text answers the request over a store that tells these tables, or none
abbrev pub AnswersOver : BaseParts → Option Tables → Counts → Counts → Request → List ℕ → Type 0
AnswersOver base held before now request text =
    Ends base.schema request (IsRefusal before now text) (Runs base held before now text)
