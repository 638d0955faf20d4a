-- Cases of orders, and fields of conditions and inputs, stand for the columns with their behaviour, in the table's order.
use Rattle.std.proofs.Common.{◌≡◌, ℕ, zero, suc, ◌+◌, Bool, true, false, ◌&&◌, List, [], ◌∷◌, ◌++◌, map, filter, flat_map, Option, Some, refl, sym, ap, ◌∙◌, subst, arith, codes}
use Rattle.std.specs.Prelude.{slice_get, if◌then◌else◌, option_map, unwrap_or}
use Rattle.std.proofs.lemmas.Option.{slice_get-map}
use Rattle.pg_base.specs.declared.table_def.ColumnDef.{ColumnDef}
use Rattle.pg_base.specs.declared.table_def.TableDef.{TableDef}
use Rattle.pg_base.specs.declared.role.Role.{Role}
use Rattle.pg_base.specs.declared.role.Role.TheVariants as role
use Rattle.schema_laws.proofs.Eaches.{same_some, Has}
use Rattle.pg_base.specs.declared.schema.ArgDef.{ArgDef}
use Rattle.schema_laws.proofs.Places.{found}
use Rattle.schema_laws.proofs.InRoles.{has_order, has_of_table}
use Rattle.schema_laws.proofs.Eaches.{Has-there, Has-left, Has-right, Has-here}
use Rattle.pg_base.specs.Lists.{EachPair}
use Rattle.pg_base.specs.Catalog.{CatalogParts}
use Rattle.pg_base.specs.Schema.{kind_at, kind_of, cases_of, inputs_of}
use Rattle.pg_base.specs.Behaviors.{columns_with, is_on, ordering, columns_on, filtering, inserting, updating}
use Rattle.pg_base.specs.EnumCases.{case_of_label}
use Rattle.pg_base.specs.Naming.{column_called}
use Rattle.pg_base.specs.Roles.{place_of, roles_of, has_condition, has_create, has_update}
use Rattle.pg_base.specs.Lookups.{no_table, table_at}
use Rattle.pg_base.specs.ColumnFields.{column_cases, order_cases, condition_fields, insert_fields, patch_fields, must_be_given, input_field}
use Rattle.pg_base.specs.SchemaOf.{schema_of, type_of_role, kind_of_role}
use Rattle.schema_laws.specs.Ordered.{IsColumn, order_cases_at, HasOrders, HasColumns, HasInputs}
use Rattle.pg_base.specs.Listing.{when}

-- what stands at a role's place is the role's
pub kind_at-place : (c : CatalogParts) (r : Role) → Has r (roles_of c) → kind_at (schema_of c) (place_of (roles_of c) r) ≡ kind_of_role c (roles_of c) r
unfolding schema_of
kind_at-place c r h =
    ap kind_of (slice_get-map (type_of_role c (roles_of c)) (roles_of c) (place_of (roles_of c) r) ∙ ap (λ o. option_map (type_of_role c (roles_of c)) o) (found (roles_of c) r h))

-- the places of the columns with a behaviour, beside these columns
abbrev pub StandsAt : List ColumnDef → ℕ → ColumnDef → Type 0
StandsAt columns place c = slice_get columns place ≡ Some c

one_column : (behavior from : ℕ) (all columns : List ColumnDef) (c : ColumnDef) (on : Bool) → slice_get all from ≡ Some c
    → EachPair (StandsAt all) (columns_with behavior (from + 1) columns) (filter (λ c. is_on behavior c.tags) columns)
    → EachPair (StandsAt all) (if on then from ∷ columns_with behavior (from + 1) columns else columns_with behavior (from + 1) columns)
    (if on then c ∷ filter (λ c. is_on behavior c.tags) columns else filter (λ c. is_on behavior c.tags) columns)
one_column behavior from all columns c true e h = (e, h)
one_column behavior from all columns c false e h = h

stand_from : (behavior from : ℕ) (all columns : List ColumnDef) → ((k : ℕ) (c : ColumnDef) → slice_get columns k ≡ Some c → slice_get all (from + k) ≡ Some c)
    → EachPair (StandsAt all) (columns_with behavior from columns) (filter (λ c. is_on behavior c.tags) columns)
stand_from behavior from all [] h = tt
stand_from behavior from all (c ∷ columns) h =
    let z : from + 0 ≡ from = omega arith in
    one_column behavior from all columns c (is_on behavior c.tags) (subst (λ n. slice_get all n ≡ Some c) z (h 0 c refl))
    (stand_from behavior (from + 1) all columns (λ k d e. let s : from + suc k ≡ from + 1 + k = omega arith in subst (λ n. slice_get all n ≡ Some d) s (h (suc k) d e)))

pub columns_stand : (behavior : ℕ) (t : TableDef) → EachPair (StandsAt t.columns) (columns_with behavior 0 t.columns) (columns_on behavior t)
columns_stand behavior t = stand_from behavior 0 t.columns t.columns (λ k c e. let s : k ≡ 0 + k = omega arith in subst (λ n. slice_get t.columns n ≡ Some c) s e)

-- ---- orders

filter_under : (on : Bool) (columns : List ColumnDef) → on ≡ true → filter (λ c. on && is_on ordering c.tags) columns ≡ filter (λ c. is_on ordering c.tags) columns
filter_under true columns h = refl
filter_under false columns h = cc

filter_none : (columns : List ColumnDef) → filter (λ c. false) columns ≡ []
filter_none [] = refl
filter_none (c ∷ columns) = filter_none columns

filter_off : (on : Bool) (columns : List ColumnDef) → on ≡ false → filter (λ c. on && is_on ordering c.tags) columns ≡ []
filter_off true columns h = cc
filter_off false columns h = filter_none columns

pub order_cases-on : (t : TableDef) → is_on ordering t.tags ≡ true → order_cases t ≡ codes "NATURAL" ∷ flat_map column_cases (columns_on ordering t)
order_cases-on t h = ap (λ cs. codes "NATURAL" ∷ flat_map column_cases cs) (filter_under (is_on ordering t.tags) t.columns h)

pub order_cases-off : (t : TableDef) → is_on ordering t.tags ≡ false → order_cases t ≡ codes "NATURAL" ∷ []
order_cases-off t h = ap (λ cs. codes "NATURAL" ∷ flat_map column_cases cs) (filter_off (is_on ordering t.tags) t.columns h)

-- after NATURAL the cases 2k + 1 and 2k + 2 are the two of the k-th column
pub ascending_at : (columns : List ColumnDef) (k : ℕ) (c : ColumnDef) → slice_get columns k ≡ Some c → slice_get (flat_map column_cases columns) (k + k) ≡ Some (case_of_label (column_called c) ++ codes "_ASC")
ascending_at [] zero c e = cc
ascending_at [] (suc k) c e = cc
ascending_at (d ∷ columns) zero c e = ap (λ c. Some (case_of_label (column_called c) ++ codes "_ASC")) (same_some d c e)
ascending_at (d ∷ columns) (suc k) c e = let s : suc k + suc k ≡ suc (suc (k + k)) = omega arith in rw s (ascending_at columns k c e)

pub descending_at : (columns : List ColumnDef) (k : ℕ) (c : ColumnDef) → slice_get columns k ≡ Some c → slice_get (flat_map column_cases columns) (suc (k + k)) ≡ Some (case_of_label (column_called c) ++ codes "_DESC")
descending_at [] zero c e = cc
descending_at [] (suc k) c e = cc
descending_at (d ∷ columns) zero c e = ap (λ c. Some (case_of_label (column_called c) ++ codes "_DESC")) (same_some d c e)
descending_at (d ∷ columns) (suc k) c e = let s : suc k + suc k ≡ suc (suc (k + k)) = omega arith in rw s (descending_at columns k c e)

-- ---- in the schema

table_is : (c : CatalogParts) (table : ℕ) (t : TableDef) → slice_get c.tables table ≡ Some t → table_at c table ≡ t
table_is c table t e = ap (λ (o : Option TableDef). unwrap_or o no_table) e

cases_is : (c : CatalogParts) (table : ℕ) (t : TableDef) → slice_get c.tables table ≡ Some t → order_cases_at c table ≡ order_cases t
cases_is c table t e = ap cases_of (kind_at-place c (role.Order table) (has_order c table t e)) ∙ ap order_cases (table_is c table t e)

-- from the places to the columns
paired : (all : List ColumnDef) (places : List ℕ) (columns : List ColumnDef) (k place : ℕ) (c : ColumnDef) → EachPair (StandsAt all) places columns
    → slice_get places k ≡ Some place → slice_get all place ≡ Some c → slice_get columns k ≡ Some c
paired all [] [] zero place c h e g = cc
paired all [] [] (suc k) place c h e g = cc
paired all [] (d ∷ columns) k place c h e g = absurd h
paired all (p ∷ places) [] k place c h e g = absurd h
paired all (p ∷ places) (d ∷ columns) zero place c h e g =
    let same : p ≡ place = same_some p place e in sym h.0 ∙ ap (λ n. slice_get all n) same ∙ g
paired all (p ∷ places) (d ∷ columns) (suc k) place c h e g = paired all places columns k place c h.1 e g

kth : (behavior : ℕ) (t : TableDef) (k : ℕ) (c : ColumnDef) → IsColumn t (columns_with behavior 0 t.columns) k c → slice_get (columns_on behavior t) k ≡ Some c
kth behavior t k c h = paired t.columns (columns_with behavior 0 t.columns) (columns_on behavior t) k h.0 c (columns_stand behavior t) h.1 h.2

pub has_orders : (c : CatalogParts) (table : ℕ) (t : TableDef) → slice_get c.tables table ≡ Some t → HasOrders c table t
has_orders c table t e = record {
  natural = ap (λ cases. slice_get cases 0) (cases_is c table t e);
  off = λ h. cases_is c table t e ∙ order_cases-off t h;
  all = λ h. cases_is c table t e ∙ order_cases-on t h;
  ascending = λ k d on h.
      let s : k + k + 1 ≡ suc (k + k) = omega arith in
      ap (λ n. slice_get (order_cases_at c table) n) s ∙ ap (λ cases. slice_get cases (suc (k + k))) (cases_is c table t e ∙ order_cases-on t on) ∙ ascending_at (columns_on ordering t) k d (kth ordering t k d h);
  descending = λ k d on h.
      let s : k + k + 2 ≡ suc (suc (k + k)) = omega arith in
      ap (λ n. slice_get (order_cases_at c table) n) s ∙ ap (λ cases. slice_get cases (suc (suc (k + k)))) (cases_is c table t e ∙ order_cases-on t on) ∙ descending_at (columns_on ordering t) k d (kth ordering t k d h);
}

Has-when : {A : Type 0} (x : A) (test : Bool) → test ≡ true → Has x (when test x)
Has-when x true e = Has-here x []
Has-when x false e = cc

-- after the four types that each table has
has_further : (c : CatalogParts) (table : ℕ) (t : TableDef) (r : Role) → slice_get c.tables table ≡ Some t
    → Has r (when (has_condition t) (role.Condition table) ++ when (has_create t) (role.Input table) ++ when (has_update t) (role.Patch table)) → Has r (roles_of c)
has_further c table t r e h =
    let z = when (has_condition t) (role.Condition table) ++ when (has_create t) (role.Input table) ++ when (has_update t) (role.Patch table) in
    has_of_table c table t r e (Has-there r (role.Row table) (role.Connection table ∷ role.Edge table ∷ role.Order table ∷ z)
    (Has-there r (role.Connection table) (role.Edge table ∷ role.Order table ∷ z) (Has-there r (role.Edge table) (role.Order table ∷ z) (Has-there r (role.Order table) z h))))

pub has_condition_type : (c : CatalogParts) (table : ℕ) (t : TableDef) → slice_get c.tables table ≡ Some t → has_condition t ≡ true → Has (role.Condition table) (roles_of c)
has_condition_type c table t e on =
    let r = role.Condition table in
    let a = when (has_condition t) r in
    let b = when (has_create t) (role.Input table) in
    let d = when (has_update t) (role.Patch table) in
    has_further c table t r e (Has-left r (a ++ b) d (Has-left r a b (Has-when r (has_condition t) on)))

pub has_input_type : (c : CatalogParts) (table : ℕ) (t : TableDef) → slice_get c.tables table ≡ Some t → has_create t ≡ true → Has (role.Input table) (roles_of c)
has_input_type c table t e on =
    let r = role.Input table in
    let a = when (has_condition t) (role.Condition table) in
    let b = when (has_create t) r in
    let d = when (has_update t) (role.Patch table) in
    has_further c table t r e (Has-left r (a ++ b) d (Has-right r a b (Has-when r (has_create t) on)))

pub has_patch_type : (c : CatalogParts) (table : ℕ) (t : TableDef) → slice_get c.tables table ≡ Some t → has_update t ≡ true → Has (role.Patch table) (roles_of c)
has_patch_type c table t e on =
    let r = role.Patch table in
    let a = when (has_condition t) (role.Condition table) in
    let b = when (has_create t) (role.Input table) in
    let d = when (has_update t) r in
    has_further c table t r e (Has-right r (a ++ b) d (Has-when r (has_update t) on))

made_at : {B : Type 0} (f : ColumnDef → B) (columns : List ColumnDef) (k : ℕ) (c : ColumnDef) → slice_get columns k ≡ Some c → slice_get (map f columns) k ≡ Some (f c)
made_at f columns k c e = slice_get-map f columns k ∙ ap (λ o. option_map f o) e

-- the fields of an input type that are made from the columns with a behaviour
fields_stand : (c : CatalogParts) (t : TableDef) (r : Role) (behavior : ℕ) (not_null : ColumnDef → Bool) → Has r (roles_of c)
    → inputs_of (kind_of_role c (roles_of c) r) ≡ map (λ d. input_field (roles_of c) (not_null d) d) (columns_on behavior t) → HasColumns c r behavior not_null t
fields_stand c t r behavior not_null h e =
    let all = ap inputs_of (kind_at-place c r h) ∙ e in
    record {
      all = all;
      each = λ k d is. ap (λ (args : List ArgDef). slice_get args k) all ∙ made_at (λ d. input_field (roles_of c) (not_null d) d) (columns_on behavior t) k d (kth behavior t k d is);
    }

pub has_inputs : (c : CatalogParts) (table : ℕ) (t : TableDef) → slice_get c.tables table ≡ Some t → HasInputs c table t
has_inputs c table t e = record {
  condition = λ on. fields_stand c t (role.Condition table) filtering (λ d. false) (has_condition_type c table t e on) (ap (condition_fields (roles_of c)) (table_is c table t e));
  input = λ on. fields_stand c t (role.Input table) inserting must_be_given (has_input_type c table t e on) (ap (insert_fields (roles_of c)) (table_is c table t e));
  patch = λ on. fields_stand c t (role.Patch table) updating (λ d. false) (has_patch_type c table t e on) (ap (patch_fields (roles_of c)) (table_is c table t e));
}
