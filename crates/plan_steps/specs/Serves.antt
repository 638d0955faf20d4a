-- The steps that serve each place: what holds of a plan step by step, and makes it show what execution gives.
use Rattle.std.specs.Prelude.{◌≡◌, ◌≤◌, ℕ, Bool, true, false, ◌==◌, List, map, Option, Some, None, slice_get, IsSomeAnd, IsTrue, ⊤}
use Rattle.pg_base.specs.Base.{BaseParts}
use Rattle.pg_base.specs.Schema.{type_name_at}
use Rattle.pg_base.specs.declared.does.Does.{Does}
use Rattle.pg_base.specs.declared.does.Does.TheVariants as does
use Rattle.pg_base.specs.declared.value.Value.{Value}
use Rattle.pg_base.specs.declared.value.Value.TheVariants as value
use Rattle.pg_base.specs.declared.vars.Vars.{Vars}
use Rattle.rel_model.specs.declared.tables.Tables.{Tables}
use Rattle.place_tree.specs.declared.fetch.Fetch.{Fetch}
use Rattle.place_tree.specs.declared.fetch.KeyCells.{KeyCells}
use Rattle.place_tree.specs.declared.fetch.KeyCells.TheVariants.{Given, OfParent}
use Rattle.place_tree.specs.declared.fetch.Shape.{Shape}
use Rattle.place_tree.specs.declared.fetch.Shape.TheVariants as shape
use Rattle.place_tree.specs.declared.place.Place.{Place}
use Rattle.place_tree.specs.declared.place.Tree.{Tree}
use Rattle.place_tree.specs.Exec.{client_id, place_above, needs_rows}
use Rattle.place_tree.specs.Fetch.{fetch_of, argument_error}
use Rattle.place_tree.specs.Fields.{typename, field_of, does_of, is_row_field}
use Rattle.place_tree.specs.Needs.{is_mutation}
use Rattle.plan_constraints.specs.Constraints.{Hold}
use Rattle.plan_constraints.specs.Path.{value_at}
use Rattle.plan_constraints.specs.declared.constraint.Constraint.{Constraint}
use Rattle.plan_steps.specs.declared.plan.FetchStep.{FetchStep, out-FetchStep}
use Rattle.plan_steps.specs.declared.plan.Plan.{Plan}
use Rattle.plan_steps.specs.declared.plan.Root.{Root}
use Rattle.plan_steps.specs.declared.plan.Step.{Step}
use Rattle.plan_steps.specs.declared.plan.Step.TheVariants as step
use Rattle.plan_steps.specs.Check.{is_checked}
use Rattle.plan_steps.specs.Denoted.{input_leaf, moment}
use Rattle.plan_steps.specs.Filled.{filled_equal, filled_key, filled_window}
use Rattle.plan_steps.specs.Fitting.{FitTree}
use Rattle.plan_steps.specs.Named.{step_for}
use Rattle.plan_steps.specs.Sent.{rows_found}
use Rattle.plan_steps.specs.Sound.{MayRun, visited_for, FetchesFollow, IsSound}
use Rattle.plan_steps.specs.Values.{order_names, input_or_null}

-- What the places below a place stand on: nothing; the row, the list or an edge of a fetch; the page of a list; what a
-- mutation gave, or its row.
pub data Basis : Type 0 where
  OnNothing : Basis
  OnRow : ℕ → Basis
  OnList : ℕ → Basis
  OnPage : ℕ → Basis
  OnEdge : ℕ → Basis
  OnPayload : Basis
  OnGiven : Basis

-- the step is the row on which the places stand
abbrev pub IsRow : List Step → Basis → ℕ → Type 0
IsRow steps (OnRow s) item = slice_get steps item ≡ Some (step.Item s)
IsRow steps OnGiven item = slice_get steps item ≡ Some step.Given
IsRow steps _ item = ⊥

-- the list on which they stand is that of the fetch
abbrev pub IsListOn : Basis → ℕ → Type 0
IsListOn (OnList t) s = t ≡ s
IsListOn (OnPage t) s = t ≡ s
IsListOn _ s = ⊥

-- ---- fetches

abbrev pub KeyServes : List Step → Basis → BaseParts → Vars → FetchStep → KeyCells → Type 0
KeyServes steps b base vars f (Given cells) =
    ((out-FetchStep f).parent ≡ None)
    × (filled_key base vars (out-FetchStep f).table (out-FetchStep f).by (out-FetchStep f).key ≡ cells)
KeyServes steps b base vars f (OfParent columns) =
    (item : ℕ) × ((out-FetchStep f).parent ≡ Some item) × IsRow steps b item
    × ((out-FetchStep f).parent_columns ≡ columns)

-- the fetch asks what the field asks, for these variables
pub record FetchServes (steps : List Step) (b : Basis) (base : BaseParts) (tree : Tree) (vars : Vars) (i : ℕ)
    (f : FetchStep) (due : Fetch) : Type 0 where
  pub table : (out-FetchStep f).table ≡ due.table
  pub by : (out-FetchStep f).by ≡ due.by
  pub key : KeyServes steps b base vars f due.key
  pub condition : map (filled_equal base vars (out-FetchStep f).table) (out-FetchStep f).condition ≡ due.condition
  pub order : (out-FetchStep f).order ≡ due.order
  pub window :
      filled_window base vars (out-FetchStep f).table (out-FetchStep f).order (out-FetchStep f).window ≡ due.window
  pub names : order_names base due.table due.order ≡ due.names
  pub rows : needs_rows base.schema tree.places i ≡ true → (out-FetchStep f).rows ≡ true
  pub one : due.shape ≡ shape.Row → (out-FetchStep f).rows ≡ true

abbrev pub below_fetch : Shape → ℕ → Basis
below_fetch shape.List k = OnList k
below_fetch shape.Row k = OnRow k

-- the step at k is a fetch, which serves wherever the field has no error
pub record RowFieldServes (base : BaseParts) (tree : Tree) (constraints : List Constraint) (steps : List Step) (i : ℕ)
    (p : Place) (b below : Basis) (k : ℕ) : Type 0 where
  pub fetch : FetchStep
  pub is_fetch : slice_get steps k ≡ Some (step.Fetch fetch)
  pub serves : (vars : Vars) (due : Fetch) → FitTree base vars tree → Hold constraints vars
      → fetch_of base vars p ≡ Some due → argument_error base vars p ≡ None
      → FetchServes steps b base tree vars i fetch due × (below ≡ below_fetch due.shape k)

-- ---- other fields

-- the value of a step that is an input's
abbrev pub input_of : Vars → Option Step → Option Value
input_of vars (Some (step.Const v)) = Some v
input_of vars (Some (step.Var path)) = Some (input_or_null (value_at vars path))
input_of vars _ = None

-- the step shows the id that the client gave, for all variables
abbrev pub ShowsClientId : BaseParts → Tree → List Step → Place → ℕ → Type 0
ShowsClientId base tree steps p k = (vars : Vars) → FitTree base vars tree
    → IsSomeAnd (input_of vars (slice_get steps k)) (λ v. input_leaf v ≡ client_id vars (place_above tree.places p))

abbrev pub OtherServes : BaseParts → Tree → List Step → Place → Basis → Basis → ℕ → Option Does → Type 0
OtherServes base tree steps p b below k None =
    slice_get steps k ≡ Some (step.Const (value.Text (type_name_at base.schema p.ty)))
OtherServes base tree steps p b below k (Some (does.Column table column)) =
    (item : ℕ) × (slice_get steps k ≡ Some (step.Column item column)) × IsRow steps b item
OtherServes base tree steps p b below k (Some (does.Forward table link)) = ⊤
OtherServes base tree steps p b below k (Some (does.Backward table link)) = ⊤
OtherServes base tree steps p b below k (Some (does.All table)) = ⊤
OtherServes base tree steps p b below k (Some (does.ByKey table key)) = ⊤
OtherServes base tree steps p b below k (Some (does.Create table)) = ⊤
OtherServes base tree steps p b below k (Some (does.Update table key)) = ⊤
OtherServes base tree steps p b below k (Some (does.Delete table key)) = ⊤
OtherServes base tree steps p b below k (Some does.Nodes) = (b ≡ OnList k) × (below ≡ OnRow k)
OtherServes base tree steps p b below k (Some does.Edges) = (b ≡ OnList k) × (below ≡ OnEdge k)
OtherServes base tree steps p b below k (Some does.PageInfo) = (b ≡ OnList k) × (below ≡ OnPage k)
OtherServes base tree steps p b below k (Some does.Node) = (s : ℕ) × (b ≡ OnEdge s) × (below ≡ OnRow s)
OtherServes base tree steps p b below k (Some does.Payload) = (b ≡ OnPayload) × (below ≡ OnGiven)
OtherServes base tree steps p b below k (Some does.Total) =
    (s : ℕ) × (slice_get steps k ≡ Some (step.Count s)) × IsListOn b s
OtherServes base tree steps p b below k (Some does.HasNext) =
    (s : ℕ) × (slice_get steps k ≡ Some (step.Page s 0)) × (b ≡ OnPage s)
OtherServes base tree steps p b below k (Some does.HasPrevious) =
    (s : ℕ) × (slice_get steps k ≡ Some (step.Page s 1)) × (b ≡ OnPage s)
OtherServes base tree steps p b below k (Some does.Start) =
    (s : ℕ) × (slice_get steps k ≡ Some (step.Page s 2)) × (b ≡ OnPage s)
OtherServes base tree steps p b below k (Some does.End) =
    (s : ℕ) × (slice_get steps k ≡ Some (step.Page s 3)) × (b ≡ OnPage s)
OtherServes base tree steps p b below k (Some does.Cursor) =
    (s : ℕ) × (item : ℕ) × (slice_get steps k ≡ Some (step.CursorOf item))
    × (slice_get steps item ≡ Some (step.Item s)) × (b ≡ OnEdge s)
OtherServes base tree steps p b below k (Some does.ClientId) = ShowsClientId base tree steps p k

abbrev pub ServesBy : Bool → BaseParts → Tree → List Constraint → List Step → ℕ → Place → Basis → Basis → ℕ → Type 0
ServesBy true base tree constraints steps i p b below k =
    RowFieldServes base tree constraints steps i p b below k
ServesBy false base tree constraints steps i p b below k =
    OtherServes base tree steps p b below k (does_of base.schema p)

-- ---- places

abbrev pub basis_above : (ℕ → Basis) → Option ℕ → Basis
basis_above bases None = OnNothing
basis_above bases (Some i) = bases i

pub record Serves (base : BaseParts) (tree : Tree) (constraints : List Constraint) (plan : Plan) (bases : ℕ → Basis)
    (i : ℕ) (p : Place) : Type 0 where
  pub at : ℕ
  pub is_out : step_for plan.out i ≡ Some at
  pub fits : ServesBy (is_row_field (does_of base.schema p)) base tree constraints plan.steps i p
      (basis_above bases p.parent) (bases i) at

-- each place but the mutation fields has a step that serves it
pub record ServesAll (base : BaseParts) (tree : Tree) (constraints : List Constraint) (plan : Plan) : Type 0 where
  pub bases : ℕ → Basis
  pub payloads : (i : ℕ) (p : Place) → slice_get tree.places i ≡ Some p
      → is_mutation (does_of base.schema p) ≡ true → bases i ≡ OnPayload
  pub each : (i : ℕ) (p : Place) → slice_get tree.places i ≡ Some p
      → is_mutation (does_of base.schema p) ≡ false → Serves base tree constraints plan bases i p

-- ---- the law

-- what is known of a tree: a place without a field is a `__typename`, and a mutation field stands at the root
pub record IsWellMade (base : BaseParts) (tree : Tree) : Type 0 where
  pub named : (i : ℕ) (p : Place) → slice_get tree.places i ≡ Some p → field_of base.schema p ≡ None
      → (p.field == typename) ≡ true
  pub at_root : (i : ℕ) (p : Place) → slice_get tree.places i ≡ Some p
      → is_mutation (does_of base.schema p) ≡ true → p.parent ≡ None

-- the plan finds no more rows than execution visits
abbrev pub FindsFew : BaseParts → Plan → Tree → List Constraint → Type 0
FindsFew base plan tree constraints =
    (tables : Tables) (vars : Vars) (r : Root) → MayRun base tree constraints tables vars r
    → rows_found (moment base tables vars r) tree plan r ≤ visited_for base tables vars tree r

-- a plan that is well formed, whose steps serve each place, whose fetches follow one another, and that finds few rows,
-- is sound
abbrev pub ServedPlansAreSound : Type 0
ServedPlansAreSound = (base : BaseParts) (plan : Plan) (tree : Tree) (constraints : List Constraint)
    → IsWellMade base tree → IsTrue (is_checked base tree plan) → ServesAll base tree constraints plan
    → FetchesFollow plan → FindsFew base plan tree constraints → IsSound base plan tree constraints
