-- What each place shows, read from what the statements of a plan found. A fetch that stands among the children of
-- another one is read from the rows of that.
use Rattle.std.specs.Prelude.{ℕ, ◌==◌, if◌then◌else◌, List, [], ◌∷◌, ◌++◌, map, Option, Some, None, slice_get, option_map}
use Rattle.std.specs.Ordering.{is_eq}
use Rattle.pg_base.specs.Base.{BaseParts}
use Rattle.pg_base.specs.Schema.{SchemaParts}
use Rattle.pg_base.specs.declared.cell.Cell.{Cell}
use Rattle.pg_base.specs.declared.schema.FieldDef.{FieldDef}
use Rattle.pg_base.specs.declared.schema.TypeRef.{TypeRef}
use Rattle.pg_base.specs.declared.vars.Vars.{Vars}
use Rattle.rel_model.specs.declared.tables.Row.{Row}
use Rattle.rel_model.specs.declared.window.By.{By}
use Rattle.rel_model.specs.Ordered.{cells_by, cells_order}
use Rattle.place_tree.specs.declared.answer.Answer.{Answer}
use Rattle.place_tree.specs.declared.answer.Answer.TheVariants.{Shows, Fails, One, Many}
use Rattle.place_tree.specs.declared.answer.Leaf.{Leaf}
use Rattle.place_tree.specs.declared.answer.Leaf.TheVariants.{Null as null}
use Rattle.place_tree.specs.declared.place.Place.{Place}
use Rattle.place_tree.specs.declared.place.Tree.{Tree}
use Rattle.place_tree.specs.Arguments.{nullable}
use Rattle.place_tree.specs.Exec.{number_leaf}
use Rattle.place_tree.specs.Fields.{field_of}
use Rattle.place_tree.specs.Response.{Members, members_of}
use Rattle.plan_constraints.specs.Path.{value_at}
use Rattle.plan_steps.specs.declared.plan.Plan.{Plan}
use Rattle.plan_steps.specs.declared.plan.Root.{Root}
use Rattle.plan_steps.specs.declared.plan.Step.{Step}
use Rattle.plan_steps.specs.declared.plan.Step.TheVariants as step
use Rattle.plan_steps.specs.Denoted.{leaf_in, root_row}
use Rattle.plan_steps.specs.Named.{fetch_at, item_at, step_for}
use Rattle.plan_steps.specs.Under.{root_place}
use Rattle.plan_steps.specs.Values.{Val, NoVal, InputVal, ListVal, CellVal, LeafVal, row_of, plain, val_of_row, later, input_or_null, cell_in, page, item_cursor}
use Rattle.stmt_tree.specs.declared.found.Found.{Found}
use Rattle.stmt_tree.specs.declared.found.Found.TheViews.{out-Found, out-RowTree, roll-Found}
use Rattle.stmt_tree.specs.declared.found.Key.{Key}
use Rattle.stmt_tree.specs.declared.found.RowTree.{RowTree}
use Rattle.batch_execute.specs.Fetched.{FetchedParts}
use Rattle.batch_execute.specs.declared.role.Role.{Role}
use Rattle.batch_execute.specs.declared.role.Role.TheVariants.{Failed, OfList, OfRow, Each, Same, OfLeaf}
use Rattle.batch_execute.specs.declared.way.Way.{Way}
use Rattle.batch_execute.specs.declared.way.Way.TheVariants.{Other, Once, Sent, Read}
use Rattle.batch_execute.specs.Roles.{role_of}
use Rattle.batch_execute.specs.Ways.{way_of}

-- over what values a plan is read: the base, the variables, and the row that a mutation gave
pub record Setting : Type 0 where
  pub base : BaseParts
  pub vars : Vars
  pub given : Option Row

abbrev pub setting : BaseParts → Vars → Root → Setting
setting base vars r = record { base = base; vars = vars; given = root_row r }

-- ---- where a walk over the places stands

-- a row of a fetch, with what was found below it
pub record Grown : Type 0 where
  pub step : ℕ
  pub tree : RowTree

-- the rows from the root on at which a place stands
abbrev pub Trail : Type 0
Trail = List Grown

-- the last row of a fetch on a trail
abbrev pub tree_on : Trail → ℕ → Option RowTree
tree_on [] at = None
tree_on (s ∷ trail) at = later (tree_on trail at) (if s.step == at then Some s.tree else None)

abbrev pub onto : ℕ → Trail → RowTree → Trail
onto step trail tree = trail ++ record { step = step; tree = tree } ∷ []

-- ---- what was found

abbrev pub no_rows : Found
no_rows = roll-Found (record { total = 0; from = 0; to = 0; rows = [] })

abbrev pub found_or : Option Found → Found
found_or None = no_rows
found_or (Some found) = found

-- what was found for no key: nothing
abbrev pub unasked : FetchedParts
unasked = record { order = []; keys = []; found = [] }

abbrev pub fetched_or : Option FetchedParts → FetchedParts
fetched_or None = unasked
fetched_or (Some x) = x

abbrev pub fetched_at : List FetchedParts → ℕ → FetchedParts
fetched_at fetched k = fetched_or (slice_get fetched k)

abbrev pub first_found : List Found → Option Found
first_found [] = None
first_found (f ∷ found) = Some f

-- what was found for the key that a row's cells are, in this order of its columns
abbrev pub looked_up : List By → List Cell → List Key → List Found → Option Found
looked_up order cells [] found = None
looked_up order cells (k ∷ keys) [] = None
looked_up order cells (k ∷ keys) (f ∷ found) =
    if is_eq (cells_order order (cells_by order cells) k.cells) then Some f else looked_up order cells keys found

abbrev pub found_for_row : FetchedParts → Option RowTree → Option Found
found_for_row x None = None
found_for_row x (Some tree) = looked_up x.order (row_of tree).cells x.keys x.found

-- what a child found below a row
abbrev pub found_below : Option RowTree → ℕ → Option Found
found_below None child = None
found_below (Some tree) child = slice_get (out-RowTree tree).children child

abbrev pub found_by : List FetchedParts → Trail → ℕ → Way → Option Found
found_by fetched trail k Other = None
found_by fetched trail k Once = first_found (fetched_at fetched k).found
found_by fetched trail k (Sent above) = found_for_row (fetched_at fetched k) (tree_on trail above)
found_by fetched trail k (Read above child) = found_below (tree_on trail above) child

-- what the step at k found at a trail
abbrev pub found_on : List Step → List FetchedParts → Trail → ℕ → Option Found
found_on steps fetched trail k = found_by fetched trail k (way_of steps k)

abbrev pub found_at : List Step → List FetchedParts → Trail → ℕ → Found
found_at steps fetched trail k = found_or (found_on steps fetched trail k)

-- ---- values of steps

abbrev pub row_on : Trail → ℕ → Option Row
row_on trail at = option_map row_of (tree_on trail at)

-- the row that a step is
abbrev pub row_by : Option Row → Trail → Option Step → Option Row
row_by given trail (Some (step.Item s)) = row_on trail s
row_by given trail (Some step.Given) = given
row_by given trail _ = None

abbrev pub value_by : Setting → List Step → List FetchedParts → Trail → ℕ → Option Step → Val
value_by z steps fetched trail k None = NoVal
value_by z steps fetched trail k (Some (step.Const v)) = InputVal v
value_by z steps fetched trail k (Some (step.Var path)) = InputVal (input_or_null (value_at z.vars path))
value_by z steps fetched trail k (Some step.Given) = val_of_row z.given
value_by z steps fetched trail k (Some (step.Fetch f)) = ListVal (plain (found_at steps fetched trail k))
value_by z steps fetched trail k (Some (step.Item s)) = val_of_row (row_on trail s)
value_by z steps fetched trail k (Some (step.Column i c)) =
    CellVal (cell_in (row_by z.given trail (slice_get steps i)) c)
value_by z steps fetched trail k (Some (step.Count s)) =
    LeafVal (number_leaf (plain (found_at steps fetched trail s)).total)
value_by z steps fetched trail k (Some (step.Page s part)) =
    LeafVal (page z.base (fetch_at steps s) (plain (found_at steps fetched trail s)) part)
value_by z steps fetched trail k (Some (step.CursorOf i)) =
    LeafVal (item_cursor z.base steps (item_at steps i) (row_by z.given trail (slice_get steps i)))

-- the value of the step at k at a trail
abbrev pub read_value : Setting → List Step → List FetchedParts → Trail → ℕ → Val
read_value z steps fetched trail k = value_by z steps fetched trail k (slice_get steps k)

-- ---- what places show

abbrev pub first_tree : List RowTree → Option RowTree
first_tree [] = None
first_tree (tree ∷ trees) = Some tree

abbrev pub one_tree : ℕ → Trail → Option RowTree → Answer Trail
one_tree step trail None = Shows null
one_tree step trail (Some tree) = One (onto step trail tree)

abbrev pub type_in : Option FieldDef → TypeRef
type_in None = nullable
type_in (Some f) = f.ty

-- the type of a place's field
abbrev pub type_of : SchemaParts → Place → TypeRef
type_of schema p = type_in (field_of schema p)

abbrev pub shown_by : Role → ℕ → Trail → Found → Leaf → Answer Trail
shown_by (Failed message) step trail found leaf = Fails message
shown_by (OfList shown) step trail found leaf = One trail
shown_by OfRow step trail found leaf = one_tree step trail (first_tree (out-Found found).rows)
shown_by Each step trail found leaf = Many (map (onto step trail) (out-Found found).rows)
shown_by Same step trail found leaf = One trail
shown_by OfLeaf step trail found leaf = Shows leaf

abbrev pub shown_in : Setting → List Step → List FetchedParts → Place → Role → Trail → Option ℕ → Answer Trail
shown_in z steps fetched p role trail None = Shows null
shown_in z steps fetched p role trail (Some k) =
    shown_by role k trail (found_at steps fetched trail k)
    (leaf_in z.base.schema (type_of z.base.schema p) (read_value z steps fetched trail k))

-- what the place at i shows at a trail
abbrev pub shown_at : Setting → List FetchedParts → Plan → Tree → ℕ → Place → Trail → Answer Trail
shown_at z fetched plan tree i p trail =
    shown_in z plan.steps fetched p (role_of z.base z.vars tree.places i p) trail (step_for plan.out i)

-- the data that the places under a root show
abbrev pub shown_for : Setting → List FetchedParts → Plan → Tree → Root → Members
shown_for z fetched plan tree r =
    members_of (shown_at z fetched plan tree) tree.places 0 (root_place r) []
