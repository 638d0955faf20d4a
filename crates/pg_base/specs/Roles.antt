-- The types that a catalog has in its schema, in their order, and their names.
use Rattle.std.specs.Prelude.{ℕ, zero, suc, Bool, true, not, ◌&&◌, ◌||◌, if◌then◌else◌}
use Rattle.std.specs.Prelude.{List, [], ◌∷◌, ◌++◌, take, codes}
use Rattle.std.specs.List.{list_any}
use Rattle.std.specs.Str.{bytes_eq}
use Rattle.pg_base.specs.Catalog.{CatalogParts}
use Rattle.pg_base.specs.declared.enum_def.EnumDef.{EnumDef}
use Rattle.pg_base.specs.declared.table_def.KeyDef.{KeyDef}
use Rattle.pg_base.specs.declared.table_def.TableDef.{TableDef}
use Rattle.pg_base.specs.declared.role.Role.{Role}
use Rattle.pg_base.specs.declared.role.Role.TheVariants as role
use Rattle.pg_base.specs.Listing.{when, all_when, each_at}
use Rattle.pg_base.specs.Lookups.{enum_at, table_at, key_in}
use Rattle.pg_base.specs.Behaviors.{is_on, some_column, inserting, updating, deleting, filtering}
use Rattle.pg_base.specs.Naming.{enum_type_name, row_type_name, rows_type_name, by_columns}

-- ---- keys

-- a key with the columns of an earlier one has no fields
abbrev pub is_new_key : List KeyDef → ℕ → KeyDef → Bool
is_new_key keys place k = not (list_any (λ earlier. bytes_eq earlier.columns k.columns) (take place keys))

-- what each key that has fields gives, with its place
abbrev pub each_key : {B : Type 0} → (ℕ → KeyDef → List B) → TableDef → List B
each_key f t = each_at (λ place k. all_when (is_new_key t.keys place k) (f place k)) 0 t.keys

abbrev pub has_keys : TableDef → Bool
has_keys t = list_any (λ k. true) t.keys

-- ---- what a table has

abbrev pub has_condition : TableDef → Bool
has_condition t = is_on filtering t.tags && some_column filtering t

abbrev pub has_create : TableDef → Bool
has_create t = is_on inserting t.tags && some_column inserting t

abbrev pub has_update : TableDef → Bool
has_update t = (is_on updating t.tags && some_column updating t) && has_keys t

abbrev pub has_delete : TableDef → Bool
has_delete t = is_on deleting t.tags && has_keys t

abbrev pub has_mutation : CatalogParts → Bool
has_mutation catalog = list_any (λ t. (has_create t || has_update t) || has_delete t) catalog.tables

-- ---- the types in their order

abbrev pub enum_roles : ℕ → EnumDef → List Role
enum_roles place e = role.Enum place ∷ []

abbrev pub input_roles : ℕ → TableDef → List Role
input_roles table t =
    when (has_condition t) (role.Condition table)
    ++ when (has_create t) (role.Input table)
    ++ when (has_update t) (role.Patch table)

abbrev pub table_roles : ℕ → TableDef → List Role
table_roles table t =
    role.Row table ∷ role.Connection table ∷ role.Edge table ∷ role.Order table ∷ input_roles table t

abbrev pub create_roles : ℕ → TableDef → List Role
create_roles table t = role.CreateInput table ∷ role.CreatePayload table ∷ []

abbrev pub update_roles : ℕ → TableDef → List Role
update_roles table t = each_key (λ key k. role.UpdateInput table key ∷ []) t ++ role.UpdatePayload table ∷ []

abbrev pub delete_roles : ℕ → TableDef → List Role
delete_roles table t = each_key (λ key k. role.DeleteInput table key ∷ []) t ++ role.DeletePayload table ∷ []

abbrev pub change_roles : ℕ → TableDef → List Role
change_roles table t =
    all_when (has_create t) (create_roles table t)
    ++ all_when (has_update t) (update_roles table t)
    ++ all_when (has_delete t) (delete_roles table t)

unfoldable pub roles_of : CatalogParts → List Role
roles_of catalog =
    role.BigInt ∷ role.Cursor ∷ role.PageInfo
    ∷ (each_at enum_roles 0 catalog.enums ++ each_at table_roles 0 catalog.tables
    ++ role.Query ∷ (when (has_mutation catalog) role.Mutation ++ each_at change_roles 0 catalog.tables))

-- ---- their names

-- the type of a table's rows, with words before and after
abbrev pub around_row : List ℕ → TableDef → List ℕ → List ℕ
around_row before t after = before ++ row_type_name t ++ after

-- the same with a key's columns
abbrev pub around_key : List ℕ → TableDef → ℕ → List ℕ → List ℕ
around_key before t key after = around_row before t (by_columns t (key_in t key).columns ++ after)

abbrev pub name_of_role : CatalogParts → Role → List ℕ
name_of_role catalog role.BigInt = codes "BigInt"
name_of_role catalog role.Cursor = codes "Cursor"
name_of_role catalog role.PageInfo = codes "PageInfo"
name_of_role catalog (role.Enum place) = enum_type_name (enum_at catalog place)
name_of_role catalog (role.Row table) = row_type_name (table_at catalog table)
name_of_role catalog (role.Connection table) = rows_type_name (table_at catalog table) ++ codes "Connection"
name_of_role catalog (role.Edge table) = rows_type_name (table_at catalog table) ++ codes "Edge"
name_of_role catalog (role.Order table) = rows_type_name (table_at catalog table) ++ codes "OrderBy"
name_of_role catalog (role.Condition table) = around_row [] (table_at catalog table) (codes "Condition")
name_of_role catalog (role.Input table) = around_row [] (table_at catalog table) (codes "Input")
name_of_role catalog (role.Patch table) = around_row [] (table_at catalog table) (codes "Patch")
name_of_role catalog role.Query = codes "Query"
name_of_role catalog role.Mutation = codes "Mutation"
name_of_role catalog (role.CreateInput table) = around_row (codes "Create") (table_at catalog table) (codes "Input")
name_of_role catalog (role.CreatePayload table) = around_row (codes "Create") (table_at catalog table) (codes "Payload")
name_of_role catalog (role.UpdateInput table key) =
    around_key (codes "Update") (table_at catalog table) key (codes "Input")
name_of_role catalog (role.UpdatePayload table) = around_row (codes "Update") (table_at catalog table) (codes "Payload")
name_of_role catalog (role.DeleteInput table key) =
    around_key (codes "Delete") (table_at catalog table) key (codes "Input")
name_of_role catalog (role.DeletePayload table) = around_row (codes "Delete") (table_at catalog table) (codes "Payload")

-- ---- their places

-- what tells roles apart: a number for what the type is for, and the places of its table and key
abbrev pub signature_of : Role → List ℕ
signature_of role.BigInt = 0 ∷ []
signature_of role.Cursor = 1 ∷ []
signature_of role.PageInfo = 2 ∷ []
signature_of role.Query = 3 ∷ []
signature_of role.Mutation = 4 ∷ []
signature_of (role.Enum place) = 5 ∷ place ∷ []
signature_of (role.Row table) = 6 ∷ table ∷ []
signature_of (role.Connection table) = 7 ∷ table ∷ []
signature_of (role.Edge table) = 8 ∷ table ∷ []
signature_of (role.Order table) = 9 ∷ table ∷ []
signature_of (role.Condition table) = 10 ∷ table ∷ []
signature_of (role.Input table) = 11 ∷ table ∷ []
signature_of (role.Patch table) = 12 ∷ table ∷ []
signature_of (role.CreateInput table) = 13 ∷ table ∷ []
signature_of (role.CreatePayload table) = 14 ∷ table ∷ []
signature_of (role.UpdatePayload table) = 15 ∷ table ∷ []
signature_of (role.DeletePayload table) = 16 ∷ table ∷ []
signature_of (role.UpdateInput table key) = 17 ∷ table ∷ key ∷ []
signature_of (role.DeleteInput table key) = 18 ∷ table ∷ key ∷ []

abbrev pub is_role : Role → Role → Bool
is_role r other = bytes_eq (signature_of r) (signature_of other)

-- the first place at which the role stands, and past the last where it stands nowhere
abbrev pub place_of : List Role → Role → ℕ
place_of [] r = zero
place_of (other ∷ roles) r = if is_role r other then zero else suc (place_of roles r)
