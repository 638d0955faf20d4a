-- What a sound plan needs so that its statements can be sent, each once, and nothing else be asked.
use Rattle.std.specs.Prelude.{◌≡◌, ◌<◌, ℕ, Bool, true, false, List, Option, Some, None, slice_get, IsTrue}
use Rattle.pg_base.specs.Base.{BaseParts}
use Rattle.pg_base.specs.declared.vars.Vars.{Vars}
use Rattle.rel_model.specs.declared.tables.Tables.{Tables}
use Rattle.place_tree.specs.declared.fetch.Fetch.{Fetch}
use Rattle.place_tree.specs.declared.place.Place.{Place}
use Rattle.place_tree.specs.declared.place.Tree.{Tree}
use Rattle.place_tree.specs.Fetch.{fetch_of, argument_error}
use Rattle.plan_constraints.specs.declared.constraint.Constraint.{Constraint}
use Rattle.plan_steps.specs.declared.plan.FetchStep.{FetchStep, out-FetchStep}
use Rattle.plan_steps.specs.declared.plan.Plan.{Plan}
use Rattle.plan_steps.specs.declared.plan.Root.{Root}
use Rattle.plan_steps.specs.declared.plan.Step.{Step}
use Rattle.plan_steps.specs.declared.plan.Step.TheVariants as step
use Rattle.plan_steps.specs.Check.{is_checked}
use Rattle.plan_steps.specs.Denoted.{moment}
use Rattle.plan_steps.specs.Fetches.{IsTreeOver, AreFetches}
use Rattle.plan_steps.specs.Named.{over, step_for}
use Rattle.plan_steps.specs.Sent.{may_ask}
use Rattle.plan_steps.specs.Sound.{MayRun, visited_for}
use Rattle.plan_steps.specs.Under.{root_place}
use Rattle.plan_steps.specs.View.{Planned}
use Rattle.batch_execute.specs.declared.role.Role.{Role}
use Rattle.batch_execute.specs.declared.role.Role.TheVariants.{Failed, OfList, OfRow, Each, Same, OfLeaf}
use Rattle.batch_execute.specs.Denoted.{denoted_visits}
use Rattle.batch_execute.specs.Roles.{role_of}
use Rattle.batch_execute.specs.Ways.{fetch_above}

abbrev pub error_by : BaseParts → Vars → Place → Option Fetch → Option (List ℕ)
error_by base vars p None = None
error_by base vars p (Some f) = argument_error base vars p

-- the error that a row field shows
abbrev pub shown_error : BaseParts → Vars → Place → Option (List ℕ)
shown_error base vars p = error_by base vars p (fetch_of base vars p)

-- a place under a root, where neither it nor a place above it shows an error
pub data IsClear (base : BaseParts) (vars : Vars) (tree : Tree) (r : Root) : ℕ → Type 0 where
  at_top : {i : ℕ} (p : Place) → slice_get tree.places i ≡ Some p → p.parent ≡ root_place r →
      shown_error base vars p ≡ None → IsClear base vars tree r i
  below : {i : ℕ} (p : Place) (j : ℕ) → slice_get tree.places i ≡ Some p → p.parent ≡ Some j →
      IsClear base vars tree r j → shown_error base vars p ≡ None → IsClear base vars tree r i

-- the fetch of which a step shows something, if one
abbrev pub fetch_shown : ℕ → Option Step → Option ℕ
fetch_shown k (Some (step.Fetch f)) = Some k
fetch_shown k (Some (step.Count s)) = Some s
fetch_shown k (Some (step.Page s part)) = Some s
fetch_shown k _ = None

-- whether a place with a role reads what its step found, or the step's value
abbrev pub reads : Role → Bool
reads (Failed message) = false
reads (OfList shown) = true
reads OfRow = true
reads Each = true
reads Same = false
reads OfLeaf = true

pub record IsReady (base : BaseParts) (plan : Plan) (tree : Tree) (constraints : List Constraint) : Type 0 where
  -- the place above a place comes before it
  pub earlier : (i : ℕ) (p : Place) (above : ℕ) → slice_get tree.places i ≡ Some p → p.parent ≡ Some above → above < i
  -- a fetch stands in the layer over the fetch on whose row it hangs, else in the one over nothing
  pub stands : (k : ℕ) (f : FetchStep) → slice_get plan.steps k ≡ Some (step.Fetch f)
      → over plan.layers k ≡ fetch_above plan.steps (out-FetchStep f).parent
  -- where a place is shown without an error, the fetch that it reads serves a row field without one, or none at all
  pub asks : (tables : Tables) (vars : Vars) (r : Root) → MayRun base tree constraints tables vars r
      → (i : ℕ) (p : Place) (k s : ℕ) → slice_get tree.places i ≡ Some p → IsClear base vars tree r i
      → reads (role_of base vars tree.places i p) ≡ true → step_for plan.out i ≡ Some k
      → fetch_shown k (slice_get plan.steps k) ≡ Some s → may_ask (moment base tables vars r) tree r plan.out s ≡ true
  -- the places show as many rows as execution visits
  pub visits : (tables : Tables) (vars : Vars) (r : Root) → MayRun base tree constraints tables vars r
      → denoted_visits base tables vars plan tree r ≡ visited_for base tables vars tree r

abbrev pub IsReadyFor : Planned → Type 0
IsReadyFor p = IsReady p.base p.plan p.tree p.constraints

-- a plan that is well formed, and whose fetches are those of the row fields of its tree, is ready
abbrev pub FetchesAreReady : Type 0
FetchesAreReady = (base : BaseParts) (plan : Plan) (tree : Tree) (constraints : List Constraint)
    → IsTreeOver base tree → IsTrue (is_checked base tree plan) → AreFetches base tree constraints plan
    → IsReady base plan tree constraints
