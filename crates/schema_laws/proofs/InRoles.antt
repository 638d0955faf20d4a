-- The types that a catalog has.
use Rattle.std.proofs.Common.{◌≡◌, ℕ, ◌<◌, true, List, [], ◌∷◌, ◌++◌, length, get_or, Some, refl, sym, subst}
use Rattle.std.specs.Prelude.{slice_get}
use Rattle.std.proofs.lemmas.Option.{slice_get-get_or}
use Rattle.pg_base.specs.declared.table_def.KeyDef.{KeyDef}
use Rattle.pg_base.specs.declared.table_def.TableDef.{TableDef}
use Rattle.pg_base.specs.declared.role.Role.{Role}
use Rattle.pg_base.specs.declared.role.Role.TheVariants as role
use Rattle.schema_laws.proofs.Eaches.{Has, Has-here, Has-there, Has-left, Has-right, Has-all_when, Has-each_at}
use Rattle.pg_base.specs.Catalog.{CatalogParts}
use Rattle.pg_base.specs.Listing.{when, all_when, each_at}
use Rattle.pg_base.specs.Roles.{roles_of, enum_roles, table_roles, change_roles, create_roles, update_roles, delete_roles, is_new_key, each_key, has_create, has_update, has_delete, has_mutation}
use Rattle.pg_base.specs.Lookups.{no_enum}

-- what stands before the tables' types, and after Query
front : CatalogParts → List Role
front c = each_at enum_roles 0 c.enums

per_table : CatalogParts → List Role
per_table c = each_at table_roles 0 c.tables

changes : CatalogParts → List Role
changes c = role.Query ∷ (when (has_mutation c) role.Mutation ++ each_at change_roles 0 c.tables)

after_front : (c : CatalogParts) (r : Role) → Has r (front c ++ per_table c ++ changes c) → Has r (roles_of c)
unfolding roles_of front per_table changes
after_front c r h = Has-there r role.BigInt (role.Cursor ∷ role.PageInfo ∷ (front c ++ per_table c ++ changes c)) (Has-there r role.Cursor (role.PageInfo ∷ (front c ++ per_table c ++ changes c)) (Has-there r role.PageInfo (front c ++ per_table c ++ changes c) h))

pub has_page : (c : CatalogParts) → Has role.PageInfo (roles_of c)
unfolding roles_of
has_page c = (2, refl)

pub has_cursor : (c : CatalogParts) → Has role.Cursor (roles_of c)
unfolding roles_of
has_cursor c = (1, refl)

pub has_query : (c : CatalogParts) → Has role.Query (roles_of c)
unfolding changes
has_query c = after_front c role.Query (Has-right role.Query (front c ++ per_table c) (changes c) (Has-here role.Query (when (has_mutation c) role.Mutation ++ each_at change_roles 0 c.tables)))

pub has_of_table : (c : CatalogParts) (table : ℕ) (t : TableDef) (r : Role) → slice_get c.tables table ≡ Some t → Has r (table_roles table t) → Has r (roles_of c)
unfolding per_table
has_of_table c table t r e h = after_front c r (Has-left r (front c ++ per_table c) (changes c) (Has-right r (front c) (per_table c) (Has-each_at r table_roles c.tables table t e h)))

pub has_change : (c : CatalogParts) (table : ℕ) (t : TableDef) (r : Role) → slice_get c.tables table ≡ Some t → Has r (change_roles table t) → Has r (roles_of c)
unfolding changes
has_change c table t r e h =
    after_front c r (Has-right r (front c ++ per_table c) (changes c) (Has-there r role.Query (when (has_mutation c) role.Mutation ++ each_at change_roles 0 c.tables)
    (Has-right r (when (has_mutation c) role.Mutation) (each_at change_roles 0 c.tables) (Has-each_at r change_roles c.tables table t e h))))

pub has_row : (c : CatalogParts) (table : ℕ) (t : TableDef) → slice_get c.tables table ≡ Some t → Has (role.Row table) (roles_of c)
has_row c table t e = has_of_table c table t (role.Row table) e (0, refl)

pub has_connection : (c : CatalogParts) (table : ℕ) (t : TableDef) → slice_get c.tables table ≡ Some t → Has (role.Connection table) (roles_of c)
has_connection c table t e = has_of_table c table t (role.Connection table) e (1, refl)

pub has_edge : (c : CatalogParts) (table : ℕ) (t : TableDef) → slice_get c.tables table ≡ Some t → Has (role.Edge table) (roles_of c)
has_edge c table t e = has_of_table c table t (role.Edge table) e (2, refl)

pub has_order : (c : CatalogParts) (table : ℕ) (t : TableDef) → slice_get c.tables table ≡ Some t → Has (role.Order table) (roles_of c)
has_order c table t e = has_of_table c table t (role.Order table) e (3, refl)

pub has_create_payload : (c : CatalogParts) (table : ℕ) (t : TableDef) → slice_get c.tables table ≡ Some t → has_create t ≡ true → Has (role.CreatePayload table) (roles_of c)
has_create_payload c table t e on =
    let r = role.CreatePayload table in
    let a = all_when (has_create t) (create_roles table t) in
    let b = all_when (has_update t) (update_roles table t) in
    let d = all_when (has_delete t) (delete_roles table t) in
    has_change c table t r e (Has-left r (a ++ b) d (Has-left r a b (Has-all_when r (has_create t) (create_roles table t) on (1, refl))))

pub has_update_payload : (c : CatalogParts) (table : ℕ) (t : TableDef) → slice_get c.tables table ≡ Some t → has_update t ≡ true → Has (role.UpdatePayload table) (roles_of c)
has_update_payload c table t e on =
    let r = role.UpdatePayload table in
    let a = all_when (has_create t) (create_roles table t) in
    let b = all_when (has_update t) (update_roles table t) in
    let d = all_when (has_delete t) (delete_roles table t) in
    let inputs = each_key (λ key k. role.UpdateInput table key ∷ []) t in
    has_change c table t r e (Has-left r (a ++ b) d (Has-right r a b (Has-all_when r (has_update t) (update_roles table t) on (Has-right r inputs (r ∷ []) (Has-here r [])))))

pub has_delete_payload : (c : CatalogParts) (table : ℕ) (t : TableDef) → slice_get c.tables table ≡ Some t → has_delete t ≡ true → Has (role.DeletePayload table) (roles_of c)
has_delete_payload c table t e on =
    let r = role.DeletePayload table in
    let a = all_when (has_create t) (create_roles table t) in
    let b = all_when (has_update t) (update_roles table t) in
    let d = all_when (has_delete t) (delete_roles table t) in
    let inputs = each_key (λ key k. role.DeleteInput table key ∷ []) t in
    has_change c table t r e (Has-right r (a ++ b) d (Has-all_when r (has_delete t) (delete_roles table t) on (Has-right r inputs (r ∷ []) (Has-here r []))))

pub has_big_int : (c : CatalogParts) → Has role.BigInt (roles_of c)
unfolding roles_of
has_big_int c = (0, refl)

pub has_enum : (c : CatalogParts) (place : ℕ) → place < length c.enums → Has (role.Enum place) (roles_of c)
unfolding front
has_enum c place h =
    let r = role.Enum place in
    let e = slice_get-get_or c.enums place no_enum h in
    after_front c r (Has-left r (front c ++ per_table c) (changes c) (Has-left r (front c) (per_table c) (Has-each_at r enum_roles c.enums place (get_or c.enums place no_enum) e (0, refl))))

pub has_create_input : (c : CatalogParts) (table : ℕ) (t : TableDef) → slice_get c.tables table ≡ Some t → has_create t ≡ true → Has (role.CreateInput table) (roles_of c)
has_create_input c table t e on =
    let r = role.CreateInput table in
    let a = all_when (has_create t) (create_roles table t) in
    let b = all_when (has_update t) (update_roles table t) in
    let d = all_when (has_delete t) (delete_roles table t) in
    has_change c table t r e (Has-left r (a ++ b) d (Has-left r a b (Has-all_when r (has_create t) (create_roles table t) on (0, refl))))

has_key : (r : Role) (f : ℕ → KeyDef → List Role) (t : TableDef) (key : ℕ) (k : KeyDef) → slice_get t.keys key ≡ Some k → is_new_key t.keys key k ≡ true → Has r (f key k) → Has r (each_key f t)
has_key r f t key k e new h = Has-each_at r (λ place k. all_when (is_new_key t.keys place k) (f place k)) t.keys key k e (Has-all_when r (is_new_key t.keys key k) (f key k) new h)

pub has_update_input : (c : CatalogParts) (table key : ℕ) (t : TableDef) (k : KeyDef) → slice_get c.tables table ≡ Some t → has_update t ≡ true → slice_get t.keys key ≡ Some k → is_new_key t.keys key k ≡ true → Has (role.UpdateInput table key) (roles_of c)
has_update_input c table key t k e on g new =
    let r = role.UpdateInput table key in
    let a = all_when (has_create t) (create_roles table t) in
    let b = all_when (has_update t) (update_roles table t) in
    let d = all_when (has_delete t) (delete_roles table t) in
    let inputs = each_key (λ key k. role.UpdateInput table key ∷ []) t in
    has_change c table t r e (Has-left r (a ++ b) d (Has-right r a b (Has-all_when r (has_update t) (update_roles table t) on
    (Has-left r inputs (role.UpdatePayload table ∷ []) (has_key r (λ key k. role.UpdateInput table key ∷ []) t key k g new (Has-here r []))))))

pub has_delete_input : (c : CatalogParts) (table key : ℕ) (t : TableDef) (k : KeyDef) → slice_get c.tables table ≡ Some t → has_delete t ≡ true → slice_get t.keys key ≡ Some k → is_new_key t.keys key k ≡ true → Has (role.DeleteInput table key) (roles_of c)
has_delete_input c table key t k e on g new =
    let r = role.DeleteInput table key in
    let a = all_when (has_create t) (create_roles table t) in
    let b = all_when (has_update t) (update_roles table t) in
    let d = all_when (has_delete t) (delete_roles table t) in
    let inputs = each_key (λ key k. role.DeleteInput table key ∷ []) t in
    has_change c table t r e (Has-right r (a ++ b) d (Has-all_when r (has_delete t) (delete_roles table t) on
    (Has-left r inputs (role.DeletePayload table ∷ []) (has_key r (λ key k. role.DeleteInput table key ∷ []) t key k g new (Has-here r [])))))

pub has_mutation_type : (c : CatalogParts) → has_mutation c ≡ true → Has role.Mutation (roles_of c)
unfolding changes
has_mutation_type c on =
    let r = role.Mutation in
    let m = when (has_mutation c) r in
    let z = each_at change_roles 0 c.tables in
    after_front c r (Has-right r (front c ++ per_table c) (changes c) (Has-there r role.Query (m ++ z) (Has-left r m z (subst (λ b. Has r (when b r)) (sym on) (Has-here r [])))))
