-- The columns of the fetches that planning makes are in range.
use Rattle.std.proofs.Common.{◌≡◌, ℕ, zero, suc, ◌+◌, ◌<◌, ◌≤◌, List, [], ◌∷◌, ◌++◌, ◌&&◌, map, length, Option, Some, None, Bool, true, false, cond, refl, sym, ap, ◌∙◌, subst, arith}
use Rattle.std.specs.Prelude.{slice_get, filter_map, nat_lt, IfSome, is_some, ◌==◌, ◌-◌, ◌/◌, ◌%◌, if◌then◌else◌}
use Rattle.std.specs.List.{cons_option, list_all}
use Rattle.std.proofs.lemmas.Bool.Decides.{nat_tests}
use Rattle.std.proofs.lemmas.Option.{slice_get_within}
use Rattle.gql_input.specs.Arguments.{value_with}
use Rattle.gql_input.specs.declared.argument.ArgValue.{ArgValue, Variable, Null, Int, Bool as BoolOf, Text, Case, List', Object', Row_of-ArgMember, end_of-ArgMember, more_of-ArgMember}
use Rattle.pg_base.specs.Base.{BaseParts}
use Rattle.pg_base.specs.Behaviors.{columns_with, is_on, ordering, filtering}
use Rattle.pg_base.specs.Catalog.{CatalogParts}
use Rattle.pg_base.specs.Lists.{Each, AreBelow}
use Rattle.pg_base.specs.Schema.{SchemaParts}
use Rattle.pg_base.specs.Vars.{variable}
use Rattle.pg_base.specs.declared.schema.ArgDef.{ArgDef}
use Rattle.pg_base.specs.declared.schema.FieldDef.{FieldDef}
use Rattle.pg_base.specs.declared.schema.TypeRef.{TypeRef}
use Rattle.pg_base.specs.declared.table_def.ColumnDef.{ColumnDef}
use Rattle.pg_base.specs.declared.vars.Vars.{Vars}
use Rattle.place_tree.specs.Arguments.{written, by_place, by_name, order_of, members_or_none, condition, order_by}
use Rattle.place_tree.specs.Fetch.{inputs_of_arg, cases_of_arg, list_order, list_names}
use Rattle.place_tree.specs.Fields.{columns_of, place_named, arg_names, by_column}
use Rattle.place_tree.specs.declared.place.Place.{Place}
use Rattle.plan_steps.specs.Check.{are_below, width_of, conditions_fit, orders_fit, own_fits, children_fit, has_key, parent_has, fetch_fits}
use Rattle.plan_steps.specs.declared.plan.FetchStep.{FetchStep, FetchStep-F, out-FetchStep, roll-FetchStep, out-roll-FetchStep}
use Rattle.plan_steps.specs.declared.plan.Slot.{Slot}
use Rattle.plan_steps.specs.declared.plan.SlotEqual.{SlotEqual}
use Rattle.plan_steps.specs.declared.plan.Step.{Step}
use Rattle.rel_model.specs.declared.window.By.{By}
use Rattle.step_plan.specs.Added.{list_rows}
use Rattle.step_plan.specs.Slots.{cell_slot, compared_at, compared_from, equal_slot_at, equal_slot, field_slot, if_given, member_slots, condition_slots, window_slots, no_window}
use Rattle.step_plan.proofs.Facts.{IsTable}

-- ---- tests

pub below_test : (k n : ℕ) → k < n → nat_lt k n ≡ true
below_test k n lt = grind (arith, nat_tests, lt)

pub both : (a b : Bool) → a ≡ true → b ≡ true → (a && b) ≡ true
both a b e f = ap (λ x. x && b) e ∙ f

pub are_below_test : (width : ℕ) (columns : List ℕ) → AreBelow width columns → are_below width columns ≡ true
are_below_test width [] h = refl
are_below_test width (k ∷ columns) h = both (nat_lt k width) (are_below width columns) (below_test k width h.0) (are_below_test width columns h.1)

pub all_test : {A : Type 0} (P : A → Type 0) (test : A → Bool) → ((x : A) → P x → test x ≡ true) → (xs : List A) → Each P xs → list_all test xs ≡ true
all_test P test f [] h = refl
all_test P test f (x ∷ xs) h = both (test x) (list_all test xs) (f x h.0) (all_test P test f xs h.1)

-- ---- columns by behaviour

with_or : (behavior from : ℕ) (columns : List ColumnDef) (b : Bool) → ((i k : ℕ) → slice_get (columns_with behavior (from + 1) columns) i ≡ Some k → k < (from + 1) + length columns) →
    (i k : ℕ) → slice_get (if b then from ∷ columns_with behavior (from + 1) columns else columns_with behavior (from + 1) columns) i ≡ Some k → k < from + suc (length columns)
with_or behavior from columns true next zero k e = let same : from ≡ k = cc in omega (arith, same)
with_or behavior from columns true next (suc i) k e = let lt = next i k e in omega (arith, lt)
with_or behavior from columns false next i k e = let lt = next i k e in omega (arith, lt)

with_below : (behavior from : ℕ) (columns : List ColumnDef) (i k : ℕ) → slice_get (columns_with behavior from columns) i ≡ Some k → k < from + length columns
with_below behavior from [] i k e = cc
with_below behavior from (c ∷ columns) i k e = with_or behavior from columns (is_on behavior c.tags) (with_below behavior (from + 1) columns) i k e

below_with : (behavior : ℕ) (columns : List ColumnDef) (i k : ℕ) → slice_get (columns_with behavior 0 columns) i ≡ Some k → k < length columns
below_with behavior columns i k e = let lt = with_below behavior 0 columns i k e in omega (arith, lt)

each_kept : {B : Type 0} (P : B → Type 0) (o : Option B) (rest : List B) → IfSome o P → Each P rest → Each P (cons_option o rest)
each_kept P None rest p r = r
each_kept P (Some y) rest p r = (p, r)

each_filter : {A B : Type 0} (P : B → Type 0) (f : A → Option B) → ((x : A) → IfSome (f x) P) → (xs : List A) → Each P (filter_map f xs)
each_filter P f h [] = tt
each_filter P f h (x ∷ xs) = each_kept P (f x) (filter_map f xs) (h x) (each_filter P f h xs)

-- ---- conditions

abbrev IsIn : ℕ → SlotEqual → Type 0
IsIn width e = e.column < width

slot_parts : (columns : List ColumnDef) (f : TypeRef → Slot) (i : ℕ) (c : Option ℕ) → slice_get (columns_with filtering 0 columns) i ≡ c → (a : Option ArgDef) → IfSome (equal_slot_at (compared_at c a) f) (IsIn (length columns))
slot_parts columns f i None e a = tt
slot_parts columns f i (Some c) e None = tt
slot_parts columns f i (Some c) e (Some a) = below_with filtering columns i c e

slot_by : (inputs : List ArgDef) (columns : List ColumnDef) (f : TypeRef → Slot) (o : Option ℕ) → IfSome (equal_slot_at (compared_from inputs (columns_with filtering 0 columns) o) f) (IsIn (length columns))
slot_by inputs columns f None = tt
slot_by inputs columns f (Some i) = slot_parts columns f i (slice_get (columns_with filtering 0 columns) i) refl (slice_get inputs i)

slot_in : (inputs : List ArgDef) (columns : List ColumnDef) (name : List ℕ) (f : TypeRef → Slot) → IfSome (equal_slot inputs (columns_with filtering 0 columns) name f) (IsIn (length columns))
slot_in inputs columns name f = slot_by inputs columns f (place_named (arg_names inputs) name)

member_in_range : (width : ℕ) (b : Bool) (o : Option SlotEqual) (rest : List SlotEqual) → IfSome o (IsIn width) → Each (IsIn width) rest → Each (IsIn width) (cons_option (if_given b o) rest)
member_in_range width true o rest h r = each_kept (IsIn width) o rest h r
member_in_range width false o rest h r = r

members_in : {n : _} (schema : SchemaParts) (vars : Vars) (inputs : List ArgDef) (columns : List ColumnDef) (ms : Row_of-ArgMember n) → Each (IsIn (length columns)) (member_slots schema vars inputs (columns_with filtering 0 columns) ms)
members_in schema vars inputs columns end_of-ArgMember = tt
members_in schema vars inputs columns (more_of-ArgMember name a rest) =
    member_in_range (length columns) (is_some (value_with vars a)) (equal_slot inputs (columns_with filtering 0 columns) name (λ ty. cell_slot schema ty a)) (member_slots schema vars inputs (columns_with filtering 0 columns) rest) (slot_in inputs columns name (λ ty. cell_slot schema ty a)) (members_in schema vars inputs columns rest)

condition_in : (schema : SchemaParts) (vars : Vars) (inputs : List ArgDef) (columns : List ColumnDef) (w : Option ArgValue) → Each (IsIn (length columns)) (condition_slots schema vars inputs columns w)
condition_in schema vars inputs columns None = tt
condition_in schema vars inputs columns (Some (Variable name)) = each_filter (IsIn (length columns)) (field_slot inputs (columns_with filtering 0 columns) name) (λ field. slot_in inputs columns field _) (map (λ m. m.name) (members_or_none (variable vars name)))
condition_in schema vars inputs columns (Some (Object' s ms)) = members_in schema vars inputs columns ms
condition_in schema vars inputs columns (Some Null) = tt
condition_in schema vars inputs columns (Some (Int n)) = tt
condition_in schema vars inputs columns (Some (BoolOf b)) = tt
condition_in schema vars inputs columns (Some (Text t)) = tt
condition_in schema vars inputs columns (Some (Case c)) = tt
condition_in schema vars inputs columns (Some (List' s xs)) = tt

-- ---- orders

abbrev IsByIn : ℕ → By → Type 0
IsByIn width b = b.column < width

column_in : (columns : List ColumnDef) (descending : Bool) (i : ℕ) (o : Option ℕ) → slice_get (columns_with ordering 0 columns) i ≡ o → IfSome (by_column o descending) (IsByIn (length columns))
column_in columns descending i None e = tt
column_in columns descending i (Some k) e = below_with ordering columns i k e

case_or : (columns : List ColumnDef) (case : ℕ) (b : Bool) → IfSome (if b then None else by_column (slice_get (columns_with ordering 0 columns) ((case - 1) / 2)) ((case - 1) % 2 == 1)) (IsByIn (length columns))
case_or columns case true = tt
case_or columns case false = column_in columns ((case - 1) % 2 == 1) ((case - 1) / 2) (slice_get (columns_with ordering 0 columns) ((case - 1) / 2)) refl

case_in : (columns : List ColumnDef) (o : Option ℕ) → IfSome (by_place (columns_with ordering 0 columns) o) (IsByIn (length columns))
case_in columns None = tt
case_in columns (Some case) = case_or columns case (case == 0)

order_in : (cases : List (List ℕ)) (columns : List ColumnDef) (names : List (List ℕ)) → Each (IsByIn (length columns)) (order_of cases columns names)
order_in cases columns names = each_filter (IsByIn (length columns)) (by_name cases (columns_with ordering 0 columns)) (λ name. case_in columns (place_named cases name)) names

-- ---- fetches

pub table_test : (c : CatalogParts) (table : ℕ) → IsTable c table → nat_lt table (length c.tables) ≡ true
table_test c table t = below_test table (length c.tables) (slice_get_within c.tables table t.0 t.1)

-- a fetch that has no children, without its key
pub own_in : (c : CatalogParts) (f : FetchStep-F FetchStep) → IsTable c f.table → AreBelow (width_of c f.table) f.by → Each (IsIn (width_of c f.table)) f.condition → Each (IsByIn (width_of c f.table)) f.order → own_fits c f ≡ true
own_in c f t by cs os =
    let w = width_of c f.table in
    both (nat_lt f.table (length c.tables)) _ (table_test c f.table t)
    (both (are_below w f.by) _ (are_below_test w f.by by)
    (both (conditions_fit w f.condition) (orders_fit w f.order) (all_test (IsIn w) (λ e. nat_lt e.column w) (λ e lt. below_test e.column w lt) f.condition cs) (all_test (IsByIn w) (λ b. nat_lt b.column w) (λ b lt. below_test b.column w lt) f.order os)))

pub long_test : (a b : ℕ) → a ≡ b → (a == b) ≡ true
long_test a b e = Rattle.std.proofs.Common.eq-eqb a b e

-- the parts of a fetch that fits
pub fits_by : (c : CatalogParts) (steps : List Step) (f : FetchStep-F FetchStep) → own_fits c f ≡ true → f.children ≡ [] → has_key (roll-FetchStep f) f.parent ≡ true → parent_has c steps (roll-FetchStep f) f.parent ≡ true → fetch_fits c steps (roll-FetchStep f) ≡ true
fits_by c steps f own none key parent =
    let e = out-roll-FetchStep f in
    both (own_fits c (out-FetchStep (roll-FetchStep f))) _ (ap (own_fits c) e ∙ own)
    (both (children_fit c (width_of c (out-FetchStep (roll-FetchStep f)).table) (out-FetchStep (roll-FetchStep f)).children) _ (ap (λ o. children_fit c (width_of c (out-FetchStep (roll-FetchStep f)).table) o.children) e ∙ ap (children_fit c (width_of c (out-FetchStep (roll-FetchStep f)).table)) none)
    (both (has_key (roll-FetchStep f) (out-FetchStep (roll-FetchStep f)).parent) (parent_has c steps (roll-FetchStep f) (out-FetchStep (roll-FetchStep f)).parent) (ap (λ o. has_key (roll-FetchStep f) o.parent) e ∙ key) (ap (λ o. parent_has c steps (roll-FetchStep f) o.parent) e ∙ parent)))

pub row_own : (c : CatalogParts) (table : ℕ) (by : List ℕ) (parent : Option ℕ) (columns : List ℕ) (key : List Slot) → IsTable c table → AreBelow (width_of c table) by
    → own_fits {A = FetchStep} c (record { table = table; by = by; parent = parent; parent_columns = columns; condition = []; key = key; order = []; window = no_window; rows = true; children = [] }) ≡ true
row_own c table by parent columns key t below = own_in c (record { table = table; by = by; parent = parent; parent_columns = columns; condition = []; key = key; order = []; window = no_window; rows = true; children = [] }) t below tt tt

pub list_own : (base : BaseParts) (vars : Vars) (p : Place) (shown : Bool) (f : FieldDef) (table : ℕ) (by : List ℕ) (parent : Option ℕ) (columns : List ℕ) → IsTable base.catalog table → AreBelow (width_of base.catalog table) by
    → own_fits {A = FetchStep} base.catalog (record { table = table; by = by; parent = parent; parent_columns = columns; condition = condition_slots base.schema vars (inputs_of_arg base f condition) (columns_of base.catalog table) (written p.args condition); key = []; order = list_order base f vars table p; window = window_slots vars p; rows = list_rows vars p shown; children = [] }) ≡ true
list_own base vars p shown f table by parent columns t below =
    own_in base.catalog (record { table = table; by = by; parent = parent; parent_columns = columns; condition = condition_slots base.schema vars (inputs_of_arg base f condition) (columns_of base.catalog table) (written p.args condition); key = []; order = list_order base f vars table p; window = window_slots vars p; rows = list_rows vars p shown; children = [] }) t below
    (condition_in base.schema vars (inputs_of_arg base f condition) (columns_of base.catalog table) (written p.args condition))
    (order_in (cases_of_arg base f order_by) (columns_of base.catalog table) (list_names vars p))
