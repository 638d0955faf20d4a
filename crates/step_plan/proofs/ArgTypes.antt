-- The types of row fields' arguments, and which of these can have a null at a non-null position.
use Rattle.std.proofs.Common.{◌≡◌, ℕ, ◌+◌, suc, Bool, true, false, not, cond, List, [], ◌∷◌, Option, Some, None, refl, ap, ◌∙◌, subst, arith}
use Rattle.std.specs.List.{list_any}
use Rattle.std.specs.Option.{option_and_then}
use Rattle.std.specs.Prelude.{slice_get, is_some, IfSome, IsSome, ◌||◌, codes, ⊤}
use Rattle.gql_input.specs.Arguments.{value_with}
use Rattle.gql_input.specs.Inputs.{text, reads_at, has_fields}
use Rattle.gql_input.specs.declared.argument.ArgValue.{ArgValue, Variable, Null, Int, Bool as BoolOf, Text, Case, List', Object'}
use Rattle.pg_base.specs.Base.{BaseParts}
use Rattle.pg_base.specs.Connections.{connection_arguments}
use Rattle.pg_base.specs.Listing.{when}
use Rattle.pg_base.specs.Lists.{Each}
use Rattle.pg_base.specs.Lookups as lookups
use Rattle.pg_base.specs.Roles.{roles_of, place_of, has_condition}
use Rattle.pg_base.specs.Schema.{SchemaParts, kind_at, inputs_of}
use Rattle.pg_base.specs.Schema as numbers
use Rattle.pg_base.specs.TypeRefs.{one, many}
use Rattle.pg_base.specs.Value.{is_null, item_list}
use Rattle.pg_base.specs.Vars.{variable}
use Rattle.pg_base.specs.declared.cell.Cell.{Cell}
use Rattle.pg_base.specs.declared.cell.Cell.TheVariants as cell
use Rattle.pg_base.specs.declared.does.Does.{Does}
use Rattle.pg_base.specs.declared.does.Does.TheVariants as does
use Rattle.pg_base.specs.declared.role.Role.TheVariants as role
use Rattle.pg_base.specs.declared.schema.ArgDef.{ArgDef}
use Rattle.pg_base.specs.declared.schema.TypeRef.{TypeRef}
use Rattle.pg_base.specs.declared.value.Value.{Value, Row_of-Value, end_of-Value, more_of-Value, Row_of-Member, end_of-Member, more_of-Member}
use Rattle.pg_base.specs.declared.value.Value as v
use Rattle.pg_base.specs.declared.vars.Vars.{Vars}
use Rattle.place_tree.specs.Arguments.{argument, written, is_given, order_by, type_in, item_type, has_null, item_has_null, member_has_null, given_null, or_else, error_if, null_error}
use Rattle.place_tree.specs.Fields.{key_at, link_at, finds_one}
use Rattle.place_tree.specs.declared.place.Place.{Place}
use Rattle.plan_constraints.specs.Path.{value_at}
use Rattle.plan_steps.specs.Fetches.{holds_null}
use Rattle.plan_steps.specs.Fitting.{IsOf, AreOf, AreFields, FitsArg}
use Rattle.plan_steps.specs.declared.plan.Slot.{Slot}
use Rattle.plan_steps.specs.declared.plan.Slot.TheVariants as slot
use Rattle.step_plan.specs.Slots.{slot_or_null, key_slots}

-- ---- types

-- a type without lists and fields
abbrev pub IsSingle : BaseParts → TypeRef → Type 0
IsSingle base ty = (ty.list ≡ false) × (has_fields (reads_at base.schema ty.name) ≡ false)

-- which takes nulls
abbrev pub IsLeafType : BaseParts → TypeRef → Type 0
IsLeafType base ty = IsSingle base ty × (ty.not_null ≡ false)

-- which takes none
abbrev pub IsKeyType : BaseParts → ArgDef → Type 0
IsKeyType base a = IsSingle base a.ty × (a.ty.not_null ≡ true)

abbrev pub number_type : TypeRef
number_type = one numbers.int false

abbrev pub cursor_type : BaseParts → TypeRef
cursor_type base = one (place_of (roles_of base.catalog) role.Cursor) false

abbrev pub order_type : BaseParts → ℕ → TypeRef
order_type base table = many (place_of (roles_of base.catalog) (role.Order table)) false

abbrev pub condition_type : BaseParts → ℕ → TypeRef
condition_type base table = one (place_of (roles_of base.catalog) (role.Condition table)) false

-- the arguments of a list of a table's rows: numbers, cursors, an order, and maybe a condition
pub record AreListTypes (base : BaseParts) (table : ℕ) (args : List ArgDef) : Type 0 where
  pub all : args ≡ connection_arguments (roles_of base.catalog) table (lookups.table_at base.catalog table)
  pub cursor : reads_at base.schema (cursor_type base).name ≡ text
  pub order : has_fields (reads_at base.schema (order_type base table).name) ≡ false
  pub condition : has_condition (lookups.table_at base.catalog table) ≡ true → (name : List ℕ)
      → IsLeafType base (type_in (inputs_of (kind_at base.schema (condition_type base table).name)) name)

-- one row, or a list of rows
abbrev pub BackwardTypes : BaseParts → ℕ → List ArgDef → Bool → Type 0
BackwardTypes base table args true = args ≡ []
BackwardTypes base table args false = AreListTypes base table args

-- the arguments of a field
abbrev pub AreTyped : BaseParts → List ArgDef → Does → Type 0
AreTyped base args (does.All table) = AreListTypes base table args
AreTyped base args (does.Backward table link) = IfSome (link_at base.catalog table link) (λ l. BackwardTypes base table args (finds_one (slice_get base.catalog.tables table) l))
AreTyped base args (does.ByKey table key) = IfSome (key_at base.catalog table key) (λ k. Each (IsKeyType base) args)
AreTyped base args (does.Forward table link) = args ≡ []
AreTyped base args (does.Create table) = ⊤
AreTyped base args (does.Update table key) = ⊤
AreTyped base args (does.Delete table key) = ⊤
AreTyped base args (does.Column table column) = ⊤
AreTyped base args does.Nodes = ⊤
AreTyped base args does.Edges = ⊤
AreTyped base args does.PageInfo = ⊤
AreTyped base args does.Total = ⊤
AreTyped base args does.Node = ⊤
AreTyped base args does.Cursor = ⊤
AreTyped base args does.HasNext = ⊤
AreTyped base args does.HasPrevious = ⊤
AreTyped base args does.Start = ⊤
AreTyped base args does.End = ⊤
AreTyped base args does.ClientId = ⊤
AreTyped base args does.Payload = ⊤

-- ---- nulls of values

-- a single value has a null at a non-null position where it is one
pub single_null : (base : BaseParts) (ty : TypeRef) → IsSingle base ty → (w : Value) → IsOf base.schema ty w → has_null base.schema ty w ≡ cond (is_null w) ty.not_null false
single_null base ty s v.Null h = refl
single_null base ty s (v.Int n) h = refl
single_null base ty s (v.Bool b) h = refl
single_null base ty s (v.Text t) h = refl
single_null base ty s (v.Case c) h = refl
single_null base ty s (v.List' n xs) h = let t : ty.list ≡ true = h.0 in let f = s.0 in cc
single_null base ty s (v.Object' n xs) h = let t : has_fields (reads_at base.schema ty.name) ≡ true = h.3 in let f = s.1 in cc

same_either : (b : Bool) → cond b false false ≡ false
same_either true = refl
same_either false = refl

pub leaf_fine : (base : BaseParts) (ty : TypeRef) → IsLeafType base ty → (w : Value) → IsOf base.schema ty w → has_null base.schema ty w ≡ false
leaf_fine base ty s w h = single_null base ty s.0 w h ∙ ap (λ b. cond (is_null w) b false) s.1 ∙ same_either (is_null w)

pub leaf_given : (base : BaseParts) (ty : TypeRef) → IsLeafType base ty → (o : Option Value) → IfSome o (IsOf base.schema ty) → given_null base.schema ty o ≡ false
leaf_given base ty s None h = refl
leaf_given base ty s (Some w) h = leaf_fine base ty s w h

-- the fields of a condition
members_fine : {n : _} (base : BaseParts) (inputs : List ArgDef) → ((name : List ℕ) → IsLeafType base (type_in inputs name)) → (row : Row_of-Member n) → AreFields base.schema inputs row → member_has_null base.schema inputs row ≡ false
members_fine base inputs law end_of-Member h = refl
members_fine base inputs law (more_of-Member name w rest) h =
    ap (λ b. b || member_has_null base.schema inputs rest) (leaf_fine base (type_in inputs name) (law name) w h.0) ∙ members_fine base inputs law rest h.1

condition_fine : (base : BaseParts) (ty : TypeRef) → ty.list ≡ false → ty.not_null ≡ false → ((name : List ℕ) → IsLeafType base (type_in (inputs_of (kind_at base.schema ty.name)) name)) → (o : Option Value) → IfSome o (IsOf base.schema ty) → given_null base.schema ty o ≡ false
condition_fine base ty flat takes law None h = refl
condition_fine base ty flat takes law (Some v.Null) h = takes
condition_fine base ty flat takes law (Some (v.Int n)) h = refl
condition_fine base ty flat takes law (Some (v.Bool b)) h = refl
condition_fine base ty flat takes law (Some (v.Text t)) h = refl
condition_fine base ty flat takes law (Some (v.Case c)) h = refl
condition_fine base ty flat takes law (Some (v.List' n xs)) h = let t : ty.list ≡ true = h.0 in cc
condition_fine base ty flat takes law (Some (v.Object' n xs)) h = members_fine base (inputs_of (kind_at base.schema ty.name)) law xs h.1

-- the items of an order
is_itself : (b : Bool) → cond b true false ≡ b
is_itself true = refl
is_itself false = refl

items_null : {n : _} (base : BaseParts) (ty : TypeRef) → IsSingle base ty → ty.not_null ≡ true → (row : Row_of-Value n) → AreOf base.schema ty row → item_has_null base.schema ty row ≡ list_any is_null (item_list row)
items_null base ty s takes end_of-Value h = refl
items_null base ty s takes (more_of-Value w rest) h =
    let first : has_null base.schema ty w ≡ is_null w = single_null base ty s w h.0 ∙ ap (λ b. cond (is_null w) b false) takes ∙ is_itself (is_null w) in
    ap (λ b. b || item_has_null base.schema ty rest) first ∙ ap (λ b. is_null w || b) (items_null base ty s takes rest h.1)

order_null : (base : BaseParts) (n : ℕ) → has_fields (reads_at base.schema n) ≡ false → (o : Option Value) → IfSome o (IsOf base.schema (many n false)) → given_null base.schema (many n false) o ≡ holds_null o
order_null base n reads None h = refl
order_null base n reads (Some v.Null) h = refl
order_null base n reads (Some (v.Int i)) h = refl
order_null base n reads (Some (v.Bool b)) h = refl
order_null base n reads (Some (v.Text t)) h = refl
order_null base n reads (Some (v.Case c)) h = refl
order_null base n reads (Some (v.List' s xs)) h = items_null base (item_type (many n false)) (refl, reads) refl xs h.1
order_null base n reads (Some (v.Object' s xs)) h = let f : true ≡ false = h.0 in cc

-- what isn't a list holds no null
pub single_holds : (base : BaseParts) (ty : TypeRef) → ty.list ≡ false → (o : Option Value) → IfSome o (IsOf base.schema ty) → holds_null o ≡ false
single_holds base ty flat None h = refl
single_holds base ty flat (Some v.Null) h = refl
single_holds base ty flat (Some (v.Int i)) h = refl
single_holds base ty flat (Some (v.Bool b)) h = refl
single_holds base ty flat (Some (v.Text t)) h = refl
single_holds base ty flat (Some (v.Case c)) h = refl
single_holds base ty flat (Some (v.List' s xs)) h = let t : ty.list ≡ true = h.0 in cc
single_holds base ty flat (Some (v.Object' s xs)) h = refl

-- ---- nulls of arguments

or_error : (b : Bool) (e : List ℕ) (rest : Option (List ℕ)) → is_some (or_else (error_if b e) rest) ≡ (b || is_some rest)
or_error true e rest = refl
or_error false e rest = refl

pub or_false : (b : Bool) → (b || false) ≡ b
or_false true = refl
or_false false = refl

module _ (base : BaseParts) (vars : Vars) (p : Place) where
  abbrev HasNull : ℕ → List ArgDef → Bool
  HasNull arg args = is_some (null_error base.schema vars p arg args)

  null_first : (arg : ℕ) (a : ArgDef) (rest : List ArgDef) → HasNull arg (a ∷ rest) ≡ (given_null base.schema a.ty (argument vars p arg) || HasNull (arg + 1) rest)
  null_first arg a rest = or_error (given_null base.schema a.ty (argument vars p arg)) _ (null_error base.schema vars p (arg + 1) rest)

  not_first : (arg : ℕ) (a : ArgDef) (rest : List ArgDef) → given_null base.schema a.ty (argument vars p arg) ≡ false → HasNull arg (a ∷ rest) ≡ HasNull (arg + 1) rest
  not_first arg a rest h = null_first arg a rest ∙ ap (λ b. b || HasNull (arg + 1) rest) h

  when_null : (b : Bool) (arg : ℕ) (a : ArgDef) → (b ≡ true → given_null base.schema a.ty (argument vars p arg) ≡ false) → HasNull arg (when b a) ≡ false
  when_null true arg a h = not_first arg a [] (h refl)
  when_null false arg a h = refl

  -- of a list's arguments
  module _ (table : ℕ) (args : List ArgDef) (law : AreListTypes base table args) (fit : (arg : ℕ) → IfSome (slice_get args arg) (FitsArg base.schema vars p arg)) where
    pub typed : (arg : ℕ) (a : ArgDef) → slice_get args arg ≡ Some a → IfSome (argument vars p arg) (IsOf base.schema a.ty)
    typed arg a e = (subst (λ o. IfSome o (FitsArg base.schema vars p arg)) e (fit arg)).0

    pub number_typed : (arg : ℕ) (name : List ℕ) → slice_get (connection_arguments (roles_of base.catalog) table (lookups.table_at base.catalog table)) arg ≡ Some (record { name = name; ty = number_type }) → IfSome (argument vars p arg) (IsOf base.schema number_type)
    number_typed arg name e = typed arg (record { name = name; ty = number_type }) (ap (λ l. slice_get l arg) law.all ∙ e)

    pub cursor_typed : (arg : ℕ) (name : List ℕ) → slice_get (connection_arguments (roles_of base.catalog) table (lookups.table_at base.catalog table)) arg ≡ Some (record { name = name; ty = cursor_type base }) → IfSome (argument vars p arg) (IsOf base.schema (cursor_type base))
    cursor_typed arg name e = typed arg (record { name = name; ty = cursor_type base }) (ap (λ l. slice_get l arg) law.all ∙ e)

    number_fine : (arg : ℕ) (name : List ℕ) → slice_get (connection_arguments (roles_of base.catalog) table (lookups.table_at base.catalog table)) arg ≡ Some (record { name = name; ty = number_type }) → given_null base.schema number_type (argument vars p arg) ≡ false
    number_fine arg name e = leaf_given base number_type ((refl, refl), refl) (argument vars p arg) (number_typed arg name e)

    cursor_fine : (arg : ℕ) (name : List ℕ) → slice_get (connection_arguments (roles_of base.catalog) table (lookups.table_at base.catalog table)) arg ≡ Some (record { name = name; ty = cursor_type base }) → given_null base.schema (cursor_type base) (argument vars p arg) ≡ false
    cursor_fine arg name e = leaf_given base (cursor_type base) ((refl, ap has_fields law.cursor), refl) (argument vars p arg) (cursor_typed arg name e)

    abbrev condition_arg : ArgDef
    condition_arg = record { name = codes "condition"; ty = condition_type base table }

    abbrev order_arg : ArgDef
    order_arg = record { name = codes "orderBy"; ty = order_type base table }

    abbrev number_arg : List ℕ → ArgDef
    number_arg name = record { name = name; ty = number_type }

    abbrev cursor_arg : List ℕ → ArgDef
    cursor_arg name = record { name = name; ty = cursor_type base }

    abbrev from_six : List ArgDef
    from_six = when (has_condition (lookups.table_at base.catalog table)) condition_arg

    abbrev from_five : List ArgDef
    from_five = order_arg ∷ from_six

    abbrev from_four : List ArgDef
    from_four = cursor_arg (codes "after") ∷ from_five

    abbrev from_three : List ArgDef
    from_three = cursor_arg (codes "before") ∷ from_four

    abbrev from_two : List ArgDef
    from_two = number_arg (codes "offset") ∷ from_three

    abbrev from_one : List ArgDef
    from_one = number_arg (codes "last") ∷ from_two

    six_null : HasNull 6 from_six ≡ false
    six_null = when_null (has_condition (lookups.table_at base.catalog table)) 6 condition_arg (λ on.
        let there : slice_get (connection_arguments (roles_of base.catalog) table (lookups.table_at base.catalog table)) 6 ≡ Some condition_arg = ap (λ b. slice_get (when b condition_arg) 0) on in
        condition_fine base (condition_type base table) refl refl (law.condition on) (argument vars p 6) (typed 6 condition_arg (ap (λ l. slice_get l 6) law.all ∙ there)))

    five_null : given_null base.schema (order_type base table) (argument vars p 5) ≡ holds_null (argument vars p 5)
    five_null = order_null base (place_of (roles_of base.catalog) (role.Order table)) law.order (argument vars p 5) (typed 5 order_arg (ap (λ l. slice_get l 5) law.all))

    -- a list has a null at a non-null position where its order holds one
    pub list_null : is_some (null_error base.schema vars p 0 args) ≡ holds_null (argument vars p order_by)
    list_null =
        ap (HasNull 0) law.all
        ∙ not_first 0 (number_arg (codes "first")) from_one (number_fine 0 (codes "first") refl)
        ∙ not_first 1 (number_arg (codes "last")) from_two (number_fine 1 (codes "last") refl)
        ∙ not_first 2 (number_arg (codes "offset")) from_three (number_fine 2 (codes "offset") refl)
        ∙ not_first 3 (cursor_arg (codes "before")) from_four (cursor_fine 3 (codes "before") refl)
        ∙ not_first 4 (cursor_arg (codes "after")) from_five (cursor_fine 4 (codes "after") refl)
        ∙ null_first 5 order_arg from_six
        ∙ ap (λ b. b || HasNull 6 from_six) five_null
        ∙ ap (λ b. holds_null (argument vars p 5) || b) six_null
        ∙ or_false (holds_null (argument vars p 5))

-- ---- nulls of keys

abbrev pub is_null_cell : Cell → Bool
is_null_cell cell.Null = true
is_null_cell (cell.Int n) = false
is_null_cell (cell.Bool b) = false
is_null_cell (cell.Text t) = false
is_null_cell (cell.EnumCase k) = false

-- a slot that holds a null, or nothing
abbrev pub is_null_slot : Vars → Slot → Bool
is_null_slot vars (slot.Const c) = is_null_cell c
is_null_slot vars (slot.Var path) = not (is_given (value_at vars path))

variable_null : (base : BaseParts) (ty : TypeRef) → IsSingle base ty → ty.not_null ≡ true → (o : Option Value) → IfSome o (IsOf base.schema ty) → IsSome o → given_null base.schema ty o ≡ not (is_given o)
variable_null base ty s takes None h some = cc
variable_null base ty s takes (Some v.Null) h some = takes
variable_null base ty s takes (Some (v.Int n)) h some = refl
variable_null base ty s takes (Some (v.Bool b)) h some = refl
variable_null base ty s takes (Some (v.Text t)) h some = refl
variable_null base ty s takes (Some (v.Case c)) h some = refl
variable_null base ty s takes (Some (v.List' n xs)) h some = let t : ty.list ≡ true = h.0 in let f = s.0 in cc
variable_null base ty s takes (Some (v.Object' n xs)) h some = let t : has_fields (reads_at base.schema ty.name) ≡ true = h.3 in let f = s.1 in cc

slot_null : (base : BaseParts) (vars : Vars) (ty : TypeRef) → IsSingle base ty → ty.not_null ≡ true → (w : Option ArgValue) → IfSome (option_and_then (value_with vars) w) (IsOf base.schema ty) → IsSome (option_and_then (value_with vars) w)
    → given_null base.schema ty (option_and_then (value_with vars) w) ≡ is_null_slot vars (slot_or_null base.schema ty w)
slot_null base vars ty s takes None h some = cc
slot_null base vars ty s takes (Some (Variable name)) h some = variable_null base ty s takes (variable vars name) h some
slot_null base vars ty s takes (Some Null) h some = takes
slot_null base vars ty s takes (Some (Int n)) h some = refl
slot_null base vars ty s takes (Some (BoolOf b)) h some = refl
slot_null base vars ty s takes (Some (Text t)) h some = refl
slot_null base vars ty s takes (Some (Case c)) h some = refl
slot_null base vars ty s takes (Some (List' n xs)) h some = let t : ty.list ≡ true = h.0 in let f = s.0 in cc
slot_null base vars ty s takes (Some (Object' n xs)) h some = let t : has_fields (reads_at base.schema ty.name) ≡ true = h.3 in let f = s.1 in cc

-- a key's arguments have a null where a slot holds one
pub key_null : (base : BaseParts) (vars : Vars) (p : Place) (arg : ℕ) (args : List ArgDef) → Each (IsKeyType base) args → ((j : ℕ) (a : ArgDef) → slice_get args j ≡ Some a → FitsArg base.schema vars p (arg + j) a)
    → is_some (null_error base.schema vars p arg args) ≡ list_any (is_null_slot vars) (key_slots base.schema p arg args)
key_null base vars p arg [] law fit = refl
key_null base vars p arg (a ∷ args) law fit =
    let z : arg + 0 ≡ arg = omega arith in
    let here = subst (λ n. FitsArg base.schema vars p n a) z (fit 0 a refl) in
    let first : given_null base.schema a.ty (argument vars p arg) ≡ is_null_slot vars (slot_or_null base.schema a.ty (written p.args arg)) = slot_null base vars a.ty law.0.0 law.0.1 (written p.args arg) here.0 (here.1 law.0.1) in
    let rest = key_null base vars p (arg + 1) args law.1 (λ j b e. let s : arg + suc j ≡ (arg + 1) + j = omega arith in subst (λ n. FitsArg base.schema vars p n b) s (fit (suc j) b e)) in
    null_first base vars p arg a args
    ∙ ap (λ b. b || is_some (null_error base.schema vars p (arg + 1) args)) first
    ∙ ap (λ b. is_null_slot vars (slot_or_null base.schema a.ty (written p.args arg)) || b) rest
