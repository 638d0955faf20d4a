-- A filled slot is the cell that the argument gives.
use Rattle.std.proofs.Common.{◌≡◌, ℕ, suc, ◌+◌, List, [], ◌∷◌, Option, Some, None, Bool, true, false, cond, refl, sym, ap, ◌∙◌, subst, arith}
use Rattle.std.specs.Prelude.{slice_get, unwrap_or, option_map, is_some, is_ok, IfSome, IsSomeAnd, IsTrue, if◌then◌else◌}
use Rattle.std.specs.Option.{option_and_then}
use Rattle.std.specs.List.{list_any}
use Rattle.std.specs.Str.{bytes_eq}
use Rattle.gql_input.specs.Arguments.{value_with}
use Rattle.gql_input.specs.Coercions.{wrong_kind}
use Rattle.gql_input.specs.Inputs.{Reads, int, big_int, text, boolean, cases, reads_at}
use Rattle.gql_input.specs.Leaves.{one_of, integer_at, boolean_at, case_at}
use Rattle.gql_input.specs.declared.argument.ArgValue.{ArgValue, Variable, Null, Int, Bool as BoolOf, Text, Case, List', Object'}
use Rattle.pg_base.specs.Base.{BaseParts}
use Rattle.pg_base.specs.Roles.{roles_of, place_of}
use Rattle.pg_base.specs.Schema.{SchemaParts, kind_at, cases_of}
use Rattle.pg_base.specs.Vars.{variable}
use Rattle.pg_base.specs.declared.cell.Cell.TheVariants as cell
use Rattle.pg_base.specs.declared.kind.Kind.{Kind}
use Rattle.pg_base.specs.declared.kind.Kind.TheVariants as kind
use Rattle.pg_base.specs.declared.role.Role.TheVariants as role
use Rattle.pg_base.specs.declared.schema.ArgDef.{ArgDef}
use Rattle.pg_base.specs.declared.schema.TypeRef.{TypeRef}
use Rattle.pg_base.specs.declared.table_def.ColumnDef.{ColumnDef}
use Rattle.pg_base.specs.declared.value.Value.{Value}
use Rattle.pg_base.specs.declared.value.Value as v
use Rattle.pg_base.specs.declared.vars.Vars.{Vars}
use Rattle.place_tree.specs.Arguments.{argument, written, cell_of, cell_or_null}
use Rattle.place_tree.specs.Fetch.{key_cells}
use Rattle.place_tree.specs.Fields.{columns_of, place_from, place_named}
use Rattle.place_tree.specs.declared.place.Place.{Place}
use Rattle.plan_steps.specs.Filled.{enum_cases, kind_cell, column_cell, slot_cell, filled_key}
use Rattle.plan_steps.specs.Fitting.{reads_texts, IsOf}
use Rattle.step_plan.specs.Slots.{cell_slot, slot_or_null, key_slots}
use Rattle.step_plan.proofs.Facts.{IsTypeOf, IsColumnType, AreKeyArgs}

-- ---- what a type that reads this has no value of

abbrev Holds : Reads → Value → Type 0
Holds reads v.Null = Unit {0}
Holds reads (v.Int n) = IsTrue (is_ok (integer_at reads n))
Holds reads (v.Bool b) = IsTrue (is_ok (boolean_at reads b))
Holds reads (v.Text t) = IsTrue (reads_texts reads)
Holds reads (v.Case c) = IsTrue (is_ok (case_at reads c))
Holds reads (v.List' s xs) = Unit {0}
Holds reads (v.Object' s xs) = Unit {0}

holds_at : (schema : SchemaParts) (ty : TypeRef) (w : Value) → IsOf schema ty w → Holds (reads_at schema ty.name) w
holds_at schema ty v.Null h = tt
holds_at schema ty (v.Int n) h = h.1
holds_at schema ty (v.Bool b) h = h.1
holds_at schema ty (v.Text t) h = h.1
holds_at schema ty (v.Case c) h = h.1
holds_at schema ty (v.List' s xs) h = tt
holds_at schema ty (v.Object' s xs) h = tt

pub holds_as : (schema : SchemaParts) (ty : TypeRef) (w : Value) (r : Reads) → reads_at schema ty.name ≡ r → IsOf schema ty w → Holds r w
holds_as schema ty w r e h = subst (λ x. Holds x w) e (holds_at schema ty w h)

-- ---- the cells of values, by the kind of their column

int_cell : (base : BaseParts) (ty : TypeRef) (w : Value) → Holds int w → unwrap_or (kind_cell base kind.Int w) cell.Null ≡ cell_of base.schema ty w
int_cell base ty v.Null h = refl
int_cell base ty (v.Int i) h = refl
int_cell base ty (v.Bool b) h = cc
int_cell base ty (v.Text t) h = cc
int_cell base ty (v.Case c) h = cc
int_cell base ty (v.List' s xs) h = refl
int_cell base ty (v.Object' s xs) h = refl

big_int_cell : (base : BaseParts) (ty : TypeRef) (w : Value) → Holds big_int w → unwrap_or (kind_cell base kind.BigInt w) cell.Null ≡ cell_of base.schema ty w
big_int_cell base ty v.Null h = refl
big_int_cell base ty (v.Int i) h = refl
big_int_cell base ty (v.Bool b) h = cc
big_int_cell base ty (v.Text t) h = cc
big_int_cell base ty (v.Case c) h = cc
big_int_cell base ty (v.List' s xs) h = refl
big_int_cell base ty (v.Object' s xs) h = refl

bool_cell : (base : BaseParts) (ty : TypeRef) (w : Value) → Holds boolean w → unwrap_or (kind_cell base kind.Bool w) cell.Null ≡ cell_of base.schema ty w
bool_cell base ty v.Null h = refl
bool_cell base ty (v.Int i) h = cc
bool_cell base ty (v.Bool b) h = refl
bool_cell base ty (v.Text t) h = cc
bool_cell base ty (v.Case c) h = cc
bool_cell base ty (v.List' s xs) h = refl
bool_cell base ty (v.Object' s xs) h = refl

text_cell : (base : BaseParts) (ty : TypeRef) (w : Value) → Holds text w → unwrap_or (kind_cell base kind.Text w) cell.Null ≡ cell_of base.schema ty w
text_cell base ty v.Null h = refl
text_cell base ty (v.Int i) h = cc
text_cell base ty (v.Bool b) h = cc
text_cell base ty (v.Text t) h = refl
text_cell base ty (v.Case c) h = cc
text_cell base ty (v.List' s xs) h = refl
text_cell base ty (v.Object' s xs) h = refl

varchar_cell : (base : BaseParts) (n : ℕ) (ty : TypeRef) (w : Value) → Holds text w → unwrap_or (kind_cell base (kind.Varchar n) w) cell.Null ≡ cell_of base.schema ty w
varchar_cell base n ty v.Null h = refl
varchar_cell base n ty (v.Int i) h = cc
varchar_cell base n ty (v.Bool b) h = cc
varchar_cell base n ty (v.Text t) h = refl
varchar_cell base n ty (v.Case c) h = cc
varchar_cell base n ty (v.List' s xs) h = refl
varchar_cell base n ty (v.Object' s xs) h = refl

-- a name that is among the cases has a place there
place_if : (names : List (List ℕ)) (name : List ℕ) (from : ℕ) (b : Bool) → (list_any (λ other. bytes_eq other name) names ≡ true → is_some (place_from (from + 1) names name) ≡ true)
    → cond b true (list_any (λ other. bytes_eq other name) names) ≡ true → is_some (if b then Some from else place_from (from + 1) names name) ≡ true
place_if names name from true f h = refl
place_if names name from false f h = f h

or_cond : (a b : Bool) → Rattle.std.specs.Prelude.◌||◌ a b ≡ true → cond a true b ≡ true
or_cond true b h = refl
or_cond false b h = h

place_among : (names : List (List ℕ)) (name : List ℕ) (from : ℕ) → list_any (λ other. bytes_eq other name) names ≡ true → is_some (place_from from names name) ≡ true
place_among [] name from h = cc
place_among (n ∷ names) name from h =
    place_if names name from (bytes_eq n name) (place_among names name (from + 1)) (or_cond (bytes_eq n name) (list_any (λ other. bytes_eq other name) names) h)

case_ok : (b : Bool) (name : List ℕ) → is_ok {E = ℕ} (if b then Rattle.std.specs.Prelude.Ok (one_of name) else Rattle.std.specs.Prelude.Err wrong_kind) ≡ true → b ≡ true
case_ok true name h = refl
case_ok false name h = cc

pub case_there : (names : List (List ℕ)) (name : List ℕ) → is_ok (case_at (cases names) name) ≡ true → is_some (place_named names name) ≡ true
case_there names name h = place_among names name 0 (case_ok (list_any (λ other. bytes_eq other name) names) name h)

case_cell : (o : Option ℕ) → is_some o ≡ true → unwrap_or (option_map (λ k. cell.EnumCase k) o) cell.Null ≡ cell.EnumCase (unwrap_or o 0)
case_cell None h = cc
case_cell (Some k) h = refl

enum_cell : (base : BaseParts) (e : ℕ) (ty : TypeRef) (w : Value) → ty.name ≡ place_of (roles_of base.catalog) (role.Enum e) → Holds (cases (enum_cases base e)) w → unwrap_or (kind_cell base (kind.Enum e) w) cell.Null ≡ cell_of base.schema ty w
enum_cell base e ty v.Null n h = refl
enum_cell base e ty (v.Int i) n h = cc
enum_cell base e ty (v.Bool b) n h = cc
enum_cell base e ty (v.Text t) n h = cc
enum_cell base e ty (v.Case c) n h =
    case_cell (place_named (enum_cases base e) c) (case_there (enum_cases base e) c h)
    ∙ ap (λ m. cell.EnumCase (unwrap_or (place_named (cases_of (kind_at base.schema m)) c) 0)) (sym n)
enum_cell base e ty (v.List' s xs) n h = refl
enum_cell base e ty (v.Object' s xs) n h = refl

-- a value of the type that stands for a column of this kind fits it
pub kind_fits : (base : BaseParts) (k : Kind) (ty : TypeRef) (w : Value) → IsTypeOf base k ty.name → IsOf base.schema ty w → unwrap_or (kind_cell base k w) cell.Null ≡ cell_of base.schema ty w
kind_fits base kind.Int ty w k h = int_cell base ty w (holds_as base.schema ty w int k h)
kind_fits base kind.BigInt ty w k h = big_int_cell base ty w (holds_as base.schema ty w big_int k h)
kind_fits base kind.Bool ty w k h = bool_cell base ty w (holds_as base.schema ty w boolean k h)
kind_fits base kind.Text ty w k h = text_cell base ty w (holds_as base.schema ty w text k h)
kind_fits base (kind.Varchar n) ty w k h = varchar_cell base n ty w (holds_as base.schema ty w text k h)
kind_fits base (kind.Enum e) ty w k h = enum_cell base e ty w k.0 (holds_as base.schema ty w (cases (enum_cases base e)) k.1 h)

pub column_fits : (base : BaseParts) (o : Option ColumnDef) (ty : TypeRef) (g : Option Value) → IsColumnType base o ty → IfSome g (IsOf base.schema ty) → column_cell base o g ≡ cell_or_null base.schema ty g
column_fits base None ty g k h = absurd k
column_fits base (Some c) ty None k h = refl
column_fits base (Some c) ty (Some w) k h = kind_fits base c.kind ty w k h

-- ---- slots of cells

pub slot_is : (base : BaseParts) (vars : Vars) (table column : ℕ) (ty : TypeRef) (a : ArgValue) → IsColumnType base (slice_get (columns_of base.catalog table) column) ty → IfSome (value_with vars a) (IsOf base.schema ty) →
    slot_cell base vars table column (cell_slot base.schema ty a) ≡ cell_or_null base.schema ty (value_with vars a)
slot_is base vars table column ty (Variable name) k h = column_fits base (slice_get (columns_of base.catalog table) column) ty (variable vars name) k h
slot_is base vars table column ty Null k h = refl
slot_is base vars table column ty (Int n) k h = refl
slot_is base vars table column ty (BoolOf b) k h = refl
slot_is base vars table column ty (Text t) k h = refl
slot_is base vars table column ty (Case c) k h = refl
slot_is base vars table column ty (List' s xs) k h = refl
slot_is base vars table column ty (Object' s xs) k h = refl

slot_or_null_is : (base : BaseParts) (vars : Vars) (table column : ℕ) (ty : TypeRef) (w : Option ArgValue) → IsColumnType base (slice_get (columns_of base.catalog table) column) ty → IfSome (option_and_then (value_with vars) w) (IsOf base.schema ty) →
    slot_cell base vars table column (slot_or_null base.schema ty w) ≡ cell_or_null base.schema ty (option_and_then (value_with vars) w)
slot_or_null_is base vars table column ty None k h = refl
slot_or_null_is base vars table column ty (Some a) k h = slot_is base vars table column ty a k h

-- the key of arguments, filled
pub key_is : (base : BaseParts) (vars : Vars) (p : Place) (table : ℕ) (by : List ℕ) (arg : ℕ) (args : List ArgDef) → AreKeyArgs base table by args →
    ((j : ℕ) (a : ArgDef) → slice_get args j ≡ Some a → IfSome (argument vars p (arg + j)) (IsOf base.schema a.ty)) →
    filled_key base vars table by (key_slots base.schema p arg args) ≡ key_cells base.schema vars p arg args
key_is base vars p table [] arg [] k fit = refl
key_is base vars p table [] arg (a ∷ args) k fit = absurd k
key_is base vars p table (c ∷ by) arg [] k fit = absurd k
key_is base vars p table (c ∷ by) arg (a ∷ args) k fit =
    let z : arg + 0 ≡ arg = omega arith in
    let first : IfSome (argument vars p arg) (IsOf base.schema a.ty) = subst (λ n. IfSome (argument vars p n) (IsOf base.schema a.ty)) z (fit 0 a refl) in
    ap (λ x. x ∷ filled_key base vars table by (key_slots base.schema p (arg + 1) args)) (slot_or_null_is base vars table c a.ty (written p.args arg) k.0 first)
    ∙ ap (λ l. cell_or_null base.schema a.ty (argument vars p arg) ∷ l) (key_is base vars p table by (arg + 1) args k.1 (λ j b at. let s : arg + suc j ≡ (arg + 1) + j = omega arith in subst (λ n. IfSome (argument vars p n) (IsOf base.schema b.ty)) s (fit (suc j) b at)))
