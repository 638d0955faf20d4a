-- Plans whose fetches are those of the row fields of a tree: one for each field (a plain plan), or one for several that
-- ask the same (a merged plan).
use Rattle.std.specs.Prelude.{◌≡◌, ◌<◌, ◌⊎◌, ℕ, Bool, true, false, ◌==◌, ◌&&◌, ◌||◌, List, [], Option, Some, None, slice_get, is_some, IsTrue, ⊤}
use Rattle.std.specs.List.{list_any}
use Rattle.pg_base.specs.Base.{BaseParts}
use Rattle.pg_base.specs.Catalog.{IsValidCatalog}
use Rattle.pg_base.specs.declared.does.Does.{Does}
use Rattle.pg_base.specs.declared.does.Does.TheVariants as does
use Rattle.pg_base.specs.declared.vars.Vars.{Vars}
use Rattle.place_tree.specs.declared.fetch.Fetch.{Fetch}
use Rattle.place_tree.specs.declared.fetch.Shape.TheVariants as shape
use Rattle.place_tree.specs.declared.place.Place.{Place}
use Rattle.place_tree.specs.declared.place.Tree.{Tree}
use Rattle.pg_base.specs.Value.{is_null}
use Rattle.pg_base.specs.declared.value.Value.{Value}
use Rattle.place_tree.specs.Arguments.{argument, items_or_none, is_windowed, order_by}
use Rattle.place_tree.specs.Exec.{needs_rows}
use Rattle.place_tree.specs.Fetch.{fetch_of, argument_error}
use Rattle.place_tree.specs.Fields.{typename, field_of, does_of, is_list, is_row_field}
use Rattle.place_tree.specs.Needs.{is_backward, is_mutation, signatures}
use Rattle.place_tree.specs.Typed.{Kind, AreKinds, IsTree}
use Rattle.plan_constraints.specs.Constraints.{Hold}
use Rattle.plan_constraints.specs.declared.constraint.Constraint.{Constraint}
use Rattle.plan_steps.specs.declared.plan.FetchStep.{FetchStep, out-FetchStep, roll-FetchStep}
use Rattle.plan_steps.specs.declared.plan.Layer.{Layer}
use Rattle.plan_steps.specs.declared.plan.Plan.{Plan}
use Rattle.plan_steps.specs.declared.plan.Root.{Root}
use Rattle.plan_steps.specs.declared.plan.Root.TheVariants as root
use Rattle.plan_steps.specs.declared.plan.SlotWindow.{SlotWindow}
use Rattle.plan_steps.specs.declared.plan.Step.{Step}
use Rattle.plan_steps.specs.declared.plan.Step.TheVariants as step
use Rattle.plan_steps.specs.Check.{is_checked}
use Rattle.plan_steps.specs.Fitting.{FitTree}
use Rattle.plan_steps.specs.Named.{over, step_for}
use Rattle.plan_steps.specs.Serves.{Basis, OnNothing, OnRow, OnList, OnPage, OnEdge, OnPayload, OnGiven, basis_above, ServesAll, IsWellMade, FindsFew}
use Rattle.plan_steps.specs.Sound.{IsSound}
use Rattle.plan_steps.specs.Under.{is_under, is_used}

-- ---- trees

-- whether the value of a field has fields of its own
abbrev pub gives_fields : Does → Bool
gives_fields (does.Column table column) = false
gives_fields (does.Forward table link) = true
gives_fields (does.Backward table link) = true
gives_fields (does.All table) = true
gives_fields (does.ByKey table key) = true
gives_fields (does.Create table) = true
gives_fields (does.Update table key) = true
gives_fields (does.Delete table key) = true
gives_fields does.Nodes = true
gives_fields does.Edges = true
gives_fields does.PageInfo = true
gives_fields does.Total = false
gives_fields does.Node = true
gives_fields does.Cursor = false
gives_fields does.HasNext = false
gives_fields does.HasPrevious = false
gives_fields does.Start = false
gives_fields does.End = false
gives_fields does.ClientId = false
gives_fields does.Payload = true

abbrev pub has_fields : Option Does → Bool
has_fields None = false
has_fields (Some d) = gives_fields d

-- a tree of places over a base
pub record IsTreeOver (base : BaseParts) (tree : Tree) : Type 0 where
  pub catalog : IsValidCatalog base.catalog
  pub made : IsWellMade base tree
  -- places come after those above them, and fields stand below values that have fields
  pub earlier : (i : ℕ) (p : Place) (above : ℕ) → slice_get tree.places i ≡ Some p → p.parent ≡ Some above → above < i
  pub above : (i : ℕ) (p : Place) (a : ℕ) (q : Place) → slice_get tree.places i ≡ Some p → p.parent ≡ Some a
      → slice_get tree.places a ≡ Some q → is_some (field_of base.schema p) ≡ true
      → has_fields (does_of base.schema q) ≡ true
  -- the catalog has the keys and links that row fields ask by
  pub asks : (i : ℕ) (p : Place) (vars : Vars) → slice_get tree.places i ≡ Some p
      → is_row_field (does_of base.schema p) ≡ true → (due : Fetch) × (fetch_of base vars p ≡ Some due)

-- a root of the tree: a query's, or a mutation field
abbrev pub IsStart : BaseParts → Tree → Root → Type 0
IsStart base tree root.Query = ⊤
IsStart base tree (root.Field place row) =
    (p : Place) × (slice_get tree.places place ≡ Some p) × (is_mutation (does_of base.schema p) ≡ true)

-- ---- the fetch of a row field

-- the place is a row field, and shows the step
pub record IsFieldOf (base : BaseParts) (tree : Tree) (plan : Plan) (k i : ℕ) : Type 0 where
  pub place : Place
  pub is_place : slice_get tree.places i ≡ Some place
  pub is_field : is_row_field (does_of base.schema place) ≡ true
  pub is_out : step_for plan.out i ≡ Some k

-- what the fetch of a row field hangs on, by what the field stands on: nothing at the root, else the row of the fetch
-- above, or the row that a mutation gave
abbrev pub HangsOn : List Step → Basis → Option ℕ → Type 0
HangsOn steps OnNothing parent = parent ≡ None
HangsOn steps (OnRow s) parent = (item : ℕ) × (parent ≡ Some item) × (slice_get steps item ≡ Some (step.Item s))
HangsOn steps (OnList s) parent = ⊥
HangsOn steps (OnPage s) parent = ⊥
HangsOn steps (OnEdge s) parent = ⊥
HangsOn steps OnPayload parent = ⊥
HangsOn steps OnGiven parent = (item : ℕ) × (parent ≡ Some item) × (slice_get steps item ≡ Some step.Given)

-- the places below stand on the list of the fetch, or on its row
abbrev pub IsBelowFetch : ℕ → Basis → Type 0
IsBelowFetch k (OnList s) = s ≡ k
IsBelowFetch k (OnRow s) = s ≡ k
IsBelowFetch k _ = ⊥

-- a fetch without a parent stands in a layer over nothing, any other over what its parent's layer is over
abbrev pub StandsWith : List Layer → ℕ → Option ℕ → Type 0
StandsWith layers k None = over layers k ≡ None
StandsWith layers k (Some p) = over layers k ≡ over layers p

-- a list at the place shows rows: nodes, edges or pageInfo stands below it
abbrev pub ShowsRows : BaseParts → Tree → ℕ → Place → Type 0
ShowsRows base tree i p = (vars : Vars) (due : Fetch) → fetch_of base vars p ≡ Some due → due.shape ≡ shape.List
    → needs_rows base.schema tree.places i ≡ true

-- ---- plans

-- what plain and merged plans have in common
pub record AreFetches (base : BaseParts) (tree : Tree) (constraints : List Constraint) (plan : Plan) : Type 0 where
  pub serves : ServesAll base tree constraints plan
  -- each fetch is that of some field, has no other one below it, and asks for rows only where a field of it shows some
  pub only : (k : ℕ) (f : FetchStep) → slice_get plan.steps k ≡ Some (step.Fetch f)
      → (i : ℕ) × IsFieldOf base tree plan k i
  pub flat : (k : ℕ) (f : FetchStep) → slice_get plan.steps k ≡ Some (step.Fetch f)
      → (out-FetchStep f).children ≡ []
  pub rows : (k : ℕ) (f : FetchStep) → slice_get plan.steps k ≡ Some (step.Fetch f) → (out-FetchStep f).rows ≡ true
      → (i : ℕ) × (field : IsFieldOf base tree plan k i) × ShowsRows base tree i field.place
  -- what it hangs on, and where it stands
  pub hangs : (k i : ℕ) (f : FetchStep) (field : IsFieldOf base tree plan k i)
      → slice_get plan.steps k ≡ Some (step.Fetch f)
      → HangsOn plan.steps (basis_above serves.bases field.place.parent) (out-FetchStep f).parent
      × IsBelowFetch k (serves.bases i)
  pub stands : (k : ℕ) (f : FetchStep) → slice_get plan.steps k ≡ Some (step.Fetch f)
      → StandsWith plan.layers k (out-FetchStep f).parent
  pub given : (k : ℕ) → slice_get plan.steps k ≡ Some step.Given → over plan.layers k ≡ None
  -- a root uses the fetches of its own fields alone
  pub used : (r : Root) → IsStart base tree r → (k : ℕ) (f : FetchStep) → slice_get plan.steps k ≡ Some (step.Fetch f)
      → is_used tree plan r k ≡ true → (i : ℕ) × IsFieldOf base tree plan k i × (is_under tree r i ≡ true)
  -- fields that share a fetch lie under one root, and have an error both or none
  pub one_root : (r : Root) → IsStart base tree r → (k i j : ℕ)
      → IsFieldOf base tree plan k i → IsFieldOf base tree plan k j
      → is_under tree r i ≡ true → is_under tree r j ≡ true
  pub one_error : (vars : Vars) → FitTree base vars tree → Hold constraints vars
      → (k i j : ℕ) (field : IsFieldOf base tree plan k i) (other : IsFieldOf base tree plan k j)
      → is_some (argument_error base vars field.place) ≡ is_some (argument_error base vars other.place)

-- ---- what fetches tell of their fields

-- a fetch without what it hangs on and whether it asks for rows
abbrev pub bare : FetchStep → FetchStep
bare fetch = let f = out-FetchStep fetch in roll-FetchStep (record {
  table = f.table;
  by = f.by;
  parent = None;
  parent_columns = f.parent_columns;
  condition = f.condition;
  key = f.key;
  order = f.order;
  window = f.window;
  rows = true;
  children = f.children;
})

-- fields of one name and type with the same arguments as they are written
abbrev pub AreAlike : Place → Place → Type 0
AreAlike p q = (p.ty ≡ q.ty) × ((p.field ≡ q.field) × (p.args ≡ q.args))

-- the order that the variables give holds a null
abbrev pub holds_null : Option Value → Bool
holds_null given = list_any is_null (items_or_none given)

abbrev pub has_null_order : Vars → Place → Bool
has_null_order vars p = holds_null (argument vars p order_by)

abbrev pub has_window : SlotWindow → Bool
has_window w = is_some w.first || (is_some w.last || (is_some w.offset || (is_some w.before || is_some w.after)))

-- a backward list of which a part is asked for
abbrev pub is_part : BaseParts → Vars → Place → Bool
is_part base vars p = is_backward (does_of base.schema p) && (is_list base p && is_windowed vars p)

-- Of a fetch that hangs on a row the window tells whether a part is asked for. Where none is, its fields have no error,
-- or it asks for no rows.
abbrev pub TellsWindows : BaseParts → Tree → List Constraint → Plan → Type 0
TellsWindows base tree constraints plan =
    (vars : Vars) → FitTree base vars tree → Hold constraints vars
    → (k i item : ℕ) (f : FetchStep) (field : IsFieldOf base tree plan k i)
    → slice_get plan.steps k ≡ Some (step.Fetch f) → (out-FetchStep f).parent ≡ Some item
    → (has_window (out-FetchStep f).window ≡ is_part base vars field.place)
    × (has_window (out-FetchStep f).window ≡ false
    → (argument_error base vars field.place ≡ None) ⊎ ((out-FetchStep f).rows ≡ false))

-- ---- plain and merged plans

-- each row field has a fetch of its own, which its name and its arguments as written make
pub record IsPlain (base : BaseParts) (tree : Tree) (constraints : List Constraint) (plan : Plan) : Type 0 where
  pub fetches : AreFetches base tree constraints plan
  pub own : (k i j : ℕ) → IsFieldOf base tree plan k i → IsFieldOf base tree plan k j → i ≡ j
  pub tells : TellsWindows base tree constraints plan
  pub alike : (k l i j : ℕ) (f g : FetchStep)
      → (field : IsFieldOf base tree plan k i) (other : IsFieldOf base tree plan l j)
      → slice_get plan.steps k ≡ Some (step.Fetch f) → slice_get plan.steps l ≡ Some (step.Fetch g)
      → AreAlike field.place other.place → bare f ≡ bare g
  -- of fields whose fetches ask the same, and whose orders both hold a null or none does, both have an error or none
  pub same_error : (vars : Vars) → FitTree base vars tree → Hold constraints vars
      → (k l i j : ℕ) (f g : FetchStep)
      → (field : IsFieldOf base tree plan k i) (other : IsFieldOf base tree plan l j)
      → slice_get plan.steps k ≡ Some (step.Fetch f) → slice_get plan.steps l ≡ Some (step.Fetch g)
      → bare f ≡ bare g → has_null_order vars field.place ≡ has_null_order vars other.place
      → is_some (argument_error base vars field.place) ≡ is_some (argument_error base vars other.place)

-- row fields of one signature share theirs
pub record IsMerged (base : BaseParts) (tree : Tree) (constraints : List Constraint) (plan : Plan) : Type 0 where
  pub fetches : AreFetches base tree constraints plan
  pub tells : TellsWindows base tree constraints plan
  pub shared : (i j k l : ℕ) → IsFieldOf base tree plan k i → IsFieldOf base tree plan l j
      → slice_get (signatures base.schema tree.places) i ≡ slice_get (signatures base.schema tree.places) j → k ≡ l

-- ---- the laws

-- places that stand where their fields belong, and are of a valid catalog, are a tree over the base
abbrev pub TypedTreesStandOverBases : Type 0
TypedTreesStandOverBases = (base : BaseParts) (kinds : ℕ → Kind) (root_type : ℕ) (tree : Tree)
    → IsValidCatalog base.catalog → AreKinds base kinds → IsTree base.schema root_type tree.places
    → ((i : ℕ) (p : Place) → slice_get tree.places i ≡ Some p → field_of base.schema p ≡ None
    → (p.field == typename) ≡ true)
    → IsTreeOver base tree

-- a plan that is well formed, and whose fetches are those of the row fields of its tree, finds few rows
abbrev pub FetchesFindFew : Type 0
FetchesFindFew = (base : BaseParts) (plan : Plan) (tree : Tree) (constraints : List Constraint)
    → IsTreeOver base tree → IsTrue (is_checked base tree plan) → AreFetches base tree constraints plan
    → FindsFew base plan tree constraints

-- and it is sound
abbrev pub FetchesAreSound : Type 0
FetchesAreSound = (base : BaseParts) (plan : Plan) (tree : Tree) (constraints : List Constraint)
    → IsTreeOver base tree → IsTrue (is_checked base tree plan) → AreFetches base tree constraints plan
    → IsSound base plan tree constraints
