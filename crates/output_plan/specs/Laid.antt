-- What each place shows, by tables of what each place and each step is.
use Rattle.std.specs.Prelude.{ℕ, ◌==◌, if◌then◌else◌, nat_lt, List, [], ◌∷◌, map, Option, Some, None, slice_get, option_map}
use Rattle.pg_base.specs.Base.{BaseParts}
use Rattle.pg_base.specs.Catalog.{CatalogParts}
use Rattle.pg_base.specs.declared.schema.TypeRef.{TypeRef}
use Rattle.pg_base.specs.declared.value.Value.{Value}
use Rattle.pg_base.specs.declared.vars.Vars.{Vars}
use Rattle.rel_model.specs.declared.tables.Row.{Row}
use Rattle.place_tree.specs.Arguments.{nullable}
use Rattle.place_tree.specs.declared.answer.Answer.{Answer}
use Rattle.place_tree.specs.declared.answer.Answer.TheVariants.{Shows}
use Rattle.place_tree.specs.declared.answer.Leaf.{Leaf}
use Rattle.place_tree.specs.declared.answer.Leaf.TheVariants.{Null as null, Truth as truth}
use Rattle.place_tree.specs.declared.place.Place.{Place}
use Rattle.place_tree.specs.Exec.{leaf_of, number_leaf, row_cursor}
use Rattle.plan_constraints.specs.Path.{value_at}
use Rattle.plan_steps.specs.declared.plan.FetchStep.{FetchStep, out-FetchStep}
use Rattle.plan_steps.specs.declared.plan.Step.{Step}
use Rattle.plan_steps.specs.declared.plan.Step.TheVariants as step
use Rattle.plan_steps.specs.Denoted.{input_leaf}
use Rattle.plan_steps.specs.Named.{fetch_at, item_at}
use Rattle.plan_steps.specs.Values.{row_of, input_or_null, cell_in}
use Rattle.stmt_tree.specs.declared.found.Found.{Found}
use Rattle.stmt_tree.specs.declared.found.Found.TheViews.{out-Found}
use Rattle.stmt_tree.specs.declared.found.RowTree.{RowTree}
use Rattle.batch_execute.specs.declared.role.Role.{Role}
use Rattle.batch_execute.specs.declared.role.Role.TheVariants.{OfLeaf}
use Rattle.batch_execute.specs.declared.way.Way.{Way}
use Rattle.batch_execute.specs.declared.way.Way.TheVariants.{Other}
use Rattle.batch_execute.specs.Fetched.{FetchedParts}
use Rattle.batch_execute.specs.Reading.{Trail, onto, tree_on, found_by, found_or, first_tree, one_tree, shown_by}
use Rattle.output_plan.specs.declared.reader.Reader.{Reader}

-- The base, the variables and the steps; of each step how its rows are come by, the names of its order and what it
-- found; of each place what it shows of which step, and the type of its field.
pub record Laid : Type 0 where
  pub base : BaseParts
  pub vars : Vars
  pub steps : List Step
  pub ways : List Way
  pub names : List (List (List ℕ))
  pub fetched : List FetchedParts
  pub roles : List Role
  pub shows : List (Option ℕ)
  pub types : List TypeRef

abbrev pub laid_of : Reader → Laid
laid_of r = record {
  base = r.base.now;
  vars = r.vars.now;
  steps = r.steps.now;
  ways = r.ways.now;
  names = r.names.now;
  fetched = r.fetched.now;
  roles = r.roles.now;
  shows = r.shows.now;
  types = r.types.now;
}

abbrev pub way_or : Option Way → Way
way_or None = Other
way_or (Some way) = way

abbrev pub role_or : Option Role → Role
role_or None = OfLeaf
role_or (Some role) = role

abbrev pub show_or : Option (Option ℕ) → Option ℕ
show_or None = None
show_or (Some step) = step

abbrev pub type_or : Option TypeRef → TypeRef
type_or None = nullable
type_or (Some ty) = ty

abbrev pub names_or : Option (List (List ℕ)) → List (List ℕ)
names_or None = []
names_or (Some names) = names

-- ---- what stands at a trail

-- what the step at k found
abbrev pub found_there : Laid → Trail → ℕ → Found
found_there x trail k = found_or (found_by x.fetched trail k (way_or (slice_get x.ways k)))

abbrev pub tree_in : Trail → Option ℕ → Option RowTree
tree_in trail None = None
tree_in trail (Some s) = tree_on trail s

-- the row that the step at i is
abbrev pub row_there : Laid → Trail → ℕ → Option Row
row_there x trail i = option_map row_of (tree_in trail (item_at x.steps i))

-- ---- cursors

abbrev pub cursor_by : CatalogParts → List (List ℕ) → Option FetchStep → Option Row → Leaf
cursor_by catalog names None row = null
cursor_by catalog names (Some f) None = null
cursor_by catalog names (Some f) (Some row) =
    row_cursor catalog (out-FetchStep f).table names (out-FetchStep f).order row

-- the cursor of a row in the order of the fetch at s
abbrev pub cursor_at : Laid → ℕ → Option Row → Leaf
cursor_at x s row = cursor_by x.base.catalog (names_or (slice_get x.names s)) (fetch_at x.steps s) row

-- the cursor of an Item
abbrev pub item_cursor : Laid → Trail → Option ℕ → Leaf
item_cursor x trail None = null
item_cursor x trail (Some s) = cursor_at x s (option_map row_of (tree_on trail s))

-- ---- variables

abbrev pub variable_leaf : Option Value → Leaf
variable_leaf v = input_leaf (input_or_null v)

-- ---- pages

abbrev pub has_next : Found → Leaf
has_next found = truth (nat_lt (out-Found found).to (out-Found found).total)

abbrev pub has_previous : Found → Leaf
has_previous found = truth (nat_lt 0 (out-Found found).from)

abbrev pub last_tree : List RowTree → Option RowTree
last_tree [] = None
last_tree (tree ∷ []) = Some tree
last_tree (tree ∷ other ∷ trees) = last_tree (other ∷ trees)

abbrev pub page_of : Laid → ℕ → Found → ℕ → Leaf
page_of x s found part =
    if part == 0 then has_next found
    else (if part == 1 then has_previous found
    else (if part == 2 then cursor_at x s (option_map row_of (first_tree (out-Found found).rows))
    else cursor_at x s (option_map row_of (last_tree (out-Found found).rows))))

-- ---- leaves and places

-- what a step shows at a field of a type
abbrev pub leaf_by : Laid → Trail → TypeRef → Option Step → Leaf
leaf_by x trail ty None = null
leaf_by x trail ty (Some (step.Const v)) = input_leaf v
leaf_by x trail ty (Some (step.Var path)) = variable_leaf (value_at x.vars path)
leaf_by x trail ty (Some step.Given) = null
leaf_by x trail ty (Some (step.Fetch f)) = null
leaf_by x trail ty (Some (step.Item s)) = null
leaf_by x trail ty (Some (step.Column i c)) = leaf_of x.base.schema ty (cell_in (row_there x trail i) c)
leaf_by x trail ty (Some (step.Count s)) = number_leaf (out-Found (found_there x trail s)).total
leaf_by x trail ty (Some (step.Page s part)) = page_of x s (found_there x trail s) part
leaf_by x trail ty (Some (step.CursorOf i)) = item_cursor x trail (item_at x.steps i)

-- what the step at k shows
abbrev pub leaf_there : Laid → Trail → TypeRef → ℕ → Leaf
leaf_there x trail ty k = leaf_by x trail ty (slice_get x.steps k)

abbrev pub row_shown : Laid → Trail → ℕ → Answer Trail
row_shown x trail k = one_tree k trail (first_tree (out-Found (found_there x trail k)).rows)

abbrev pub rows_shown : Laid → Trail → ℕ → List Trail
rows_shown x trail k = map (onto k trail) (out-Found (found_there x trail k)).rows

abbrev pub shown_of : Laid → Role → Trail → TypeRef → Option ℕ → Answer Trail
shown_of x role trail ty None = Shows null
shown_of x role trail ty (Some k) = shown_by role k trail (found_there x trail k) (leaf_there x trail ty k)

-- what the place at i shows
abbrev pub shown_on : Laid → ℕ → Trail → Answer Trail
shown_on x i trail =
    shown_of x (role_or (slice_get x.roles i)) trail (type_or (slice_get x.types i)) (show_or (slice_get x.shows i))

abbrev pub shown_there : Laid → ℕ → Place → Trail → Answer Trail
shown_there x i p trail = shown_on x i trail
