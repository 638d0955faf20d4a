-- How the cases of orders, and the fields of inputs, stand for columns.
use Rattle.std.specs.Prelude.{◌≡◌, ℕ, ◌+◌, Bool, true, false, List, [], ◌∷◌, ◌++◌, Some, slice_get, map, flat_map}
use Rattle.std.specs.Prelude.{codes}
use Rattle.pg_base.specs.Catalog.{CatalogParts}
use Rattle.pg_base.specs.declared.table_def.ColumnDef.{ColumnDef}
use Rattle.pg_base.specs.declared.table_def.TableDef.{TableDef}
use Rattle.pg_base.specs.declared.schema.ArgDef.{ArgDef}
use Rattle.pg_base.specs.declared.role.Role.{Role}
use Rattle.pg_base.specs.declared.role.Role.TheVariants as role
use Rattle.pg_base.specs.Schema.{kind_at, cases_of, inputs_of}
use Rattle.pg_base.specs.EnumCases.{case_of_label}
use Rattle.pg_base.specs.Naming.{column_called}
use Rattle.pg_base.specs.Behaviors.{is_on, columns_on, columns_with, ordering, filtering, inserting, updating}
use Rattle.pg_base.specs.Roles.{has_condition, has_create, has_update, roles_of, place_of}
use Rattle.pg_base.specs.ColumnFields.{column_cases, input_field, must_be_given}
use Rattle.pg_base.specs.SchemaOf.{schema_of}

-- the k-th of the columns at these places
abbrev pub IsColumn : TableDef → List ℕ → ℕ → ColumnDef → Type 0
IsColumn t places k c = (place : ℕ) × (slice_get places k ≡ Some place) × (slice_get t.columns place ≡ Some c)

-- ---- orders

-- the cases of the table's order type
abbrev pub order_cases_at : CatalogParts → ℕ → List (List ℕ)
order_cases_at catalog table = cases_of (kind_at (schema_of catalog) (place_of (roles_of catalog) (role.Order table)))

-- the case at a place is that of the k-th column which has orders
abbrev pub HasCase : CatalogParts → ℕ → TableDef → (ℕ → ℕ) → List ℕ → Type 0
HasCase catalog table t place ending =
    (k : ℕ) (c : ColumnDef) → is_on ordering t.tags ≡ true → IsColumn t (columns_with ordering 0 t.columns) k c
    → slice_get (order_cases_at catalog table) (place k) ≡ Some (case_of_label (column_called c) ++ ending)

-- NATURAL, and where the table has orders two cases for each column that has them, and no others
pub record HasOrders (catalog : CatalogParts) (table : ℕ) (t : TableDef) : Type 0 where
  pub natural : slice_get (order_cases_at catalog table) 0 ≡ Some (codes "NATURAL")
  pub off : is_on ordering t.tags ≡ false → order_cases_at catalog table ≡ codes "NATURAL" ∷ []
  pub all : is_on ordering t.tags ≡ true
      → order_cases_at catalog table ≡ codes "NATURAL" ∷ flat_map column_cases (columns_on ordering t)
  pub ascending : HasCase catalog table t (λ k. k + k + 1) (codes "_ASC")
  pub descending : HasCase catalog table t (λ k. k + k + 2) (codes "_DESC")

-- ---- inputs

abbrev pub input_fields_at : CatalogParts → Role → List ArgDef
input_fields_at catalog r = inputs_of (kind_at (schema_of catalog) (place_of (roles_of catalog) r))

-- the k-th field of an input type has the name and the type of the k-th column with the behaviour; there are no others
pub record HasColumns (catalog : CatalogParts) (r : Role) (behavior : ℕ) (not_null : ColumnDef → Bool) (t : TableDef)
    : Type 0 where
  pub all : input_fields_at catalog r
      ≡ map (λ c. input_field (roles_of catalog) (not_null c) c) (columns_on behavior t)
  pub each : (k : ℕ) (c : ColumnDef) → IsColumn t (columns_with behavior 0 t.columns) k c
      → slice_get (input_fields_at catalog r) k ≡ Some (input_field (roles_of catalog) (not_null c) c)

pub record HasInputs (catalog : CatalogParts) (table : ℕ) (t : TableDef) : Type 0 where
  pub condition : has_condition t ≡ true → HasColumns catalog (role.Condition table) filtering (λ c. false) t
  pub input : has_create t ≡ true → HasColumns catalog (role.Input table) inserting must_be_given t
  pub patch : has_update t ≡ true → HasColumns catalog (role.Patch table) updating (λ c. false) t
