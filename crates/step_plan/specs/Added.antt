-- What a place adds to a plan, by its field and by what the place above it stands for.
use Rattle.std.specs.Prelude.{ℕ, Bool, true, false, not, ◌&&◌, if◌then◌else◌, List, [], Option, Some, None, slice_get, codes}
use Rattle.std.specs.List.{list_any}
use Rattle.std.specs.Str.{bytes_eq}
use Rattle.gql_input.specs.declared.argument.ArgValue.{ArgValue, Variable, Null, Int, Bool as BoolOf, Text, Case, List', Object'}
use Rattle.gql_input.specs.declared.argument.ArgValue.{Row_of-ArgMember, end_of-ArgMember, more_of-ArgMember}
use Rattle.pg_base.specs.Base.{BaseParts}
use Rattle.pg_base.specs.Schema.{type_name_at}
use Rattle.pg_base.specs.Value.{is_null}
use Rattle.pg_base.specs.declared.does.Does.{Does}
use Rattle.pg_base.specs.declared.does.Does.TheVariants as does
use Rattle.pg_base.specs.declared.schema.FieldDef.{FieldDef}
use Rattle.pg_base.specs.declared.table_def.KeyDef.{KeyDef}
use Rattle.pg_base.specs.declared.table_def.LinkDef.{LinkDef}
use Rattle.pg_base.specs.declared.value.Value.{Value}
use Rattle.pg_base.specs.declared.value.Value.TheVariants as value
use Rattle.pg_base.specs.declared.vars.Vars.{Vars}
use Rattle.place_tree.specs.Arguments.{argument, written, items_or_none, order_by, condition}
use Rattle.place_tree.specs.Exec.{place_above}
use Rattle.place_tree.specs.Fetch.{inputs_of_arg, list_order}
use Rattle.place_tree.specs.Fields.{field_of, columns_of, key_at, link_at, finds_one}
use Rattle.place_tree.specs.declared.place.Place.{Place}
use Rattle.plan_constraints.specs.Path.{to_variable, to_field}
use Rattle.plan_steps.specs.declared.plan.FetchStep.{FetchStep, roll-FetchStep}
use Rattle.plan_steps.specs.declared.plan.Slot.{Slot}
use Rattle.plan_steps.specs.declared.plan.Step.{Step}
use Rattle.plan_steps.specs.declared.plan.Step.TheVariants as step
use Rattle.step_plan.specs.Slots.{key_slots, condition_slots, window_slots, no_window}
use Rattle.step_plan.specs.declared.making.Added.{Added}
use Rattle.step_plan.specs.declared.making.Added.TheVariants as adds
use Rattle.step_plan.specs.declared.making.Footing.{Footing}
use Rattle.step_plan.specs.declared.making.Footing.TheVariants as on

-- ---- on what places stand

-- the step of the row
abbrev pub row_of : Footing → ℕ
row_of on.Nothing = 0
row_of (on.List fetch) = 0
row_of (on.Page fetch) = 0
row_of (on.Row fetch item) = item
row_of (on.Edge fetch item) = item
row_of (on.Payload given) = given
row_of (on.Given given) = given

-- the fetch
abbrev pub fetch_of : Footing → ℕ
fetch_of on.Nothing = 0
fetch_of (on.List fetch) = fetch
fetch_of (on.Page fetch) = fetch
fetch_of (on.Row fetch item) = fetch
fetch_of (on.Edge fetch item) = fetch
fetch_of (on.Payload given) = 0
fetch_of (on.Given given) = 0

-- ---- fetches

abbrev pub holds_null : Option Value → Bool
holds_null given = list_any is_null (items_or_none given)

-- the rows are asked for where they are shown and the order has no null
abbrev pub list_rows : Vars → Place → Bool → Bool
list_rows vars p shown = shown && not (holds_null (argument vars p order_by))

-- the rows of a table, with what the arguments give
abbrev pub list_step :
    BaseParts → Vars → Place → Bool → FieldDef → ℕ → List ℕ → Option ℕ → List ℕ → FetchStep
list_step base vars p shown f table by parent columns = roll-FetchStep (record {
  table = table;
  by = by;
  parent = parent;
  parent_columns = columns;
  condition =
      condition_slots base.schema vars (inputs_of_arg base f condition) (columns_of base.catalog table)
      (written p.args condition);
  key = [];
  order = list_order base f vars table p;
  window = window_slots vars p;
  rows = list_rows vars p shown;
  children = [];
})

-- one row of a table
abbrev pub row_step : ℕ → List ℕ → Option ℕ → List ℕ → List Slot → FetchStep
row_step table by parent columns key = roll-FetchStep (record {
  table = table;
  by = by;
  parent = parent;
  parent_columns = columns;
  condition = [];
  key = key;
  order = [];
  window = no_window;
  rows = true;
  children = [];
})

-- ---- the id that a client gives to a mutation

abbrev pub id_name : List ℕ
id_name = codes "clientMutationId"

-- what is written for a field of an object
abbrev pub written_in : {n : _} → Row_of-ArgMember n → List ℕ → Option ArgValue
written_in end_of-ArgMember name = None
written_in (more_of-ArgMember field a rest) name = if bytes_eq field name then Some a else written_in rest name

abbrev pub no_id : Step
no_id = step.Const value.Null

-- a text, or what a variable holds
abbrev pub id_written : Option ArgValue → Step
id_written None = no_id
id_written (Some (Variable name)) = step.Var (to_variable name)
id_written (Some Null) = no_id
id_written (Some (Int n)) = no_id
id_written (Some (BoolOf b)) = no_id
id_written (Some (Text t)) = step.Const (value.Text t)
id_written (Some (Case name)) = no_id
id_written (Some (List' _ items)) = no_id
id_written (Some (Object' _ members)) = no_id

-- the id in a mutation's input
abbrev pub id_in : Option ArgValue → Step
id_in None = no_id
id_in (Some (Variable name)) = step.Var (to_field name id_name)
id_in (Some Null) = no_id
id_in (Some (Int n)) = no_id
id_in (Some (BoolOf b)) = no_id
id_in (Some (Text t)) = no_id
id_in (Some (Case name)) = no_id
id_in (Some (List' _ items)) = no_id
id_in (Some (Object' _ members)) = id_written (written_in members id_name)

abbrev pub id_of : Option Place → Step
id_of None = no_id
id_of (Some mutation) = id_in (written mutation.args 0)

-- ---- what a place adds

abbrev pub no_value : Added
no_value = adds.Leaf (step.Const value.Null)

abbrev pub add_key : Option KeyDef → (KeyDef → Added) → Added
add_key None f = no_value
add_key (Some key) f = f key

abbrev pub add_link : Option LinkDef → (LinkDef → Added) → Added
add_link None f = no_value
add_link (Some link) f = f link

abbrev pub add_backward : BaseParts → Vars → Place → Bool → FieldDef → ℕ → ℕ → LinkDef → Bool → Added
add_backward base vars p shown f table row link true =
    adds.Row (row_step table link.columns (Some row) link.target_columns [])
add_backward base vars p shown f table row link false =
    adds.List (list_step base vars p shown f table link.columns (Some row) link.target_columns)

abbrev pub added_by : BaseParts → Vars → List Place → Place → Bool → Footing → FieldDef → Does → Added
added_by base vars places p shown g f (does.Column table column) = adds.Leaf (step.Column (row_of g) column)
added_by base vars places p shown g f (does.Forward table link) =
    add_link (link_at base.catalog table link)
    (λ l. adds.Row (row_step l.target l.target_columns (Some (row_of g)) l.columns []))
added_by base vars places p shown g f (does.Backward table link) =
    add_link (link_at base.catalog table link)
    (λ l. add_backward base vars p shown f table (row_of g) l
    (finds_one (slice_get base.catalog.tables table) l))
added_by base vars places p shown g f (does.All table) = adds.List (list_step base vars p shown f table [] None [])
added_by base vars places p shown g f (does.ByKey table key) =
    add_key (key_at base.catalog table key)
    (λ k. adds.Row (row_step table k.columns None [] (key_slots base.schema p 0 f.args)))
added_by base vars places p shown g f (does.Create table) = adds.Given
added_by base vars places p shown g f (does.Update table key) = adds.Given
added_by base vars places p shown g f (does.Delete table key) = adds.Given
added_by base vars places p shown g f does.Nodes = adds.Item false (fetch_of g)
added_by base vars places p shown g f does.Edges = adds.Item true (fetch_of g)
added_by base vars places p shown g f does.PageInfo = adds.Shows (fetch_of g) (on.Page (fetch_of g))
added_by base vars places p shown g f does.Total = adds.Leaf (step.Count (fetch_of g))
added_by base vars places p shown g f does.Node = adds.Shows (row_of g) (on.Row (fetch_of g) (row_of g))
added_by base vars places p shown g f does.Cursor = adds.Leaf (step.CursorOf (row_of g))
added_by base vars places p shown g f does.HasNext = adds.Leaf (step.Page (fetch_of g) 0)
added_by base vars places p shown g f does.HasPrevious = adds.Leaf (step.Page (fetch_of g) 1)
added_by base vars places p shown g f does.Start = adds.Leaf (step.Page (fetch_of g) 2)
added_by base vars places p shown g f does.End = adds.Leaf (step.Page (fetch_of g) 3)
added_by base vars places p shown g f does.ClientId = adds.Leaf (id_of (place_above places p))
added_by base vars places p shown g f does.Payload = adds.Shows (row_of g) (on.Given (row_of g))

-- `__typename` shows the name of the type
abbrev pub added_for : BaseParts → Vars → List Place → Place → Bool → Footing → Option FieldDef → Added
added_for base vars places p shown g None = adds.Leaf (step.Const (value.Text (type_name_at base.schema p.ty)))
added_for base vars places p shown g (Some f) = added_by base vars places p shown g f f.does

-- the place shows rows where it is told that nodes, edges or pageInfo stands below it
abbrev pub added : BaseParts → Vars → List Place → Place → Bool → Footing → Added
added base vars places p shown g = added_for base vars places p shown g (field_of base.schema p)
