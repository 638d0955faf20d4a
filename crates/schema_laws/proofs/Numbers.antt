-- How many types a catalog has at most.
use Rattle.std.proofs.Common.{◌≡◌, ℕ, suc, ◌*◌, ◌≤◌, Bool, true, false, List, [], ◌∷◌, ◌++◌, length, Some, refl, arith, length-append}
use Rattle.std.specs.Prelude.{slice_get}
use Rattle.std.proofs.Math.Nat.{mul-suc}
use Rattle.pg_base.specs.declared.table_def.KeyDef.{KeyDef}
use Rattle.pg_base.specs.declared.table_def.TableDef.{TableDef}
use Rattle.pg_base.specs.declared.role.Role.{Role}
use Rattle.pg_base.specs.declared.role.Role.TheVariants as role
use Rattle.pg_base.specs.Schema.{int}
use Rattle.schema_laws.proofs.Eaches.{Each-get}
use Rattle.pg_base.specs.Catalog.{CatalogParts, IsValidCatalog, IsValidTable}
use Rattle.pg_base.specs.Listing.{when, all_when, each_at}
use Rattle.pg_base.specs.Roles.{roles_of, enum_roles, table_roles, change_roles, create_roles, update_roles, delete_roles, each_key, is_new_key, has_condition, has_create, has_update, has_delete, has_mutation}

-- no type stands at the numbers of those that are in no list
abbrev pub IsNumbered : CatalogParts → Type 0
IsNumbered catalog = length (roles_of catalog) ≤ int

pub when_length : {A : Type 0} (test : Bool) (x : A) → length (when test x) ≤ 1
when_length true x = omega arith
when_length false x = omega arith

pub all_when_length : {A : Type 0} (test : Bool) (xs : List A) (n : ℕ) → length xs ≤ n → length (all_when test xs) ≤ n
all_when_length true xs n h = h
all_when_length false xs n h = omega arith

pub each_at_length : {A B : Type 0} (f : ℕ → A → List B) (most from : ℕ) (xs : List A) → ((place : ℕ) (k : ℕ) (x : A) → slice_get xs k ≡ Some x → length (f place x) ≤ most)
    → length (each_at f from xs) ≤ most * length xs
each_at_length f most from [] h = omega arith
each_at_length f most from (x ∷ xs) h =
    let here = h from 0 x refl in
    let rest = each_at_length f most (suc from) xs (λ place k y e. h place (suc k) y e) in
    let e = length-append (f from x) (each_at f (suc from) xs) in
    let m = mul-suc most (length xs) in
    omega (arith, here, rest, e, m)

keys_length : (f : ℕ → KeyDef → List Role) (t : TableDef) → ((place : ℕ) (k : KeyDef) → length (f place k) ≤ 1) → length t.keys ≤ 64 → length (each_key f t) ≤ 64
keys_length f t h le =
    let n = each_at_length (λ place k. all_when (is_new_key t.keys place k) (f place k)) 1 0 t.keys (λ place k x e. all_when_length (is_new_key t.keys place x) (f place x) 1 (h place x)) in
    omega (arith, n, le)

table_length : (table : ℕ) (t : TableDef) → length (table_roles table t) ≤ 7
table_length table t =
    let a = when (has_condition t) (role.Condition table) in
    let b = when (has_create t) (role.Input table) in
    let d = when (has_update t) (role.Patch table) in
    let e = length-append (a ++ b) d in
    let f = length-append a b in
    let x = when_length (has_condition t) (role.Condition table) in
    let y = when_length (has_create t) (role.Input table) in
    let z = when_length (has_update t) (role.Patch table) in
    omega (arith, e, f, x, y, z)

change_length : (table : ℕ) (t : TableDef) → length t.keys ≤ 64 → length (change_roles table t) ≤ 132
change_length table t le =
    let a = all_when (has_create t) (create_roles table t) in
    let b = all_when (has_update t) (update_roles table t) in
    let d = all_when (has_delete t) (delete_roles table t) in
    let updates = each_key (λ key k. role.UpdateInput table key ∷ []) t in
    let deletes = each_key (λ key k. role.DeleteInput table key ∷ []) t in
    let m = length-append updates (role.UpdatePayload table ∷ []) in
    let n = length-append deletes (role.DeletePayload table ∷ []) in
    let p = keys_length (λ key k. role.UpdateInput table key ∷ []) t (λ place k. omega arith) le in
    let q = keys_length (λ key k. role.DeleteInput table key ∷ []) t (λ place k. omega arith) le in
    let x = all_when_length (has_create t) (create_roles table t) 2 (omega arith) in
    let y = all_when_length (has_update t) (update_roles table t) 65 (omega (arith, m, p)) in
    let z = all_when_length (has_delete t) (delete_roles table t) 65 (omega (arith, n, q)) in
    let e = length-append (a ++ b) d in
    let f = length-append a b in
    omega (arith, e, f, x, y, z)

keys_of : (c : CatalogParts) (k : ℕ) (t : TableDef) → IsValidCatalog c → slice_get c.tables k ≡ Some t → length t.keys ≤ 64
keys_of c k t valid e = let v = Each-get (IsValidTable c) c.tables k t valid.tables e in let l = v.constraint_limit in omega (arith, l)

pub is_numbered : (c : CatalogParts) → IsValidCatalog c → IsNumbered c
unfolding roles_of
is_numbered c valid =
    let enums = each_at enum_roles 0 c.enums in
    let tables = each_at table_roles 0 c.tables in
    let mutation = when (has_mutation c) role.Mutation in
    let changes = each_at change_roles 0 c.tables in
    let x = each_at_length enum_roles 1 0 c.enums (λ place k y e. omega arith) in
    let y = each_at_length table_roles 7 0 c.tables (λ place k t e. table_length place t) in
    let z = each_at_length change_roles 132 0 c.tables (λ place k t e. change_length place t (keys_of c k t valid e)) in
    let w = when_length (has_mutation c) role.Mutation in
    let a = length-append (enums ++ tables) (role.Query ∷ (mutation ++ changes)) in
    let b = length-append enums tables in
    let d = length-append mutation changes in
    let n = valid.enum_limit in
    let m = valid.table_limit in
    omega (arith, x, y, z, w, a, b, d, n, m)
