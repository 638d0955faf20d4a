-- No type of a schema stands at the number of a built-in one.
use Rattle.std.proofs.Common.{◌≡◌, ℕ, zero, suc, ◌<◌, ◌≤◌, Bool, true, false, List, [], ◌∷◌, ◌++◌, length, Option, Some, None, inl, inr, ap, ◌∙◌, subst, arith, length-append}
use Rattle.std.specs.Prelude.{slice_get, if◌then◌else◌, option_map, IsSomeAnd}
use Rattle.std.proofs.lemmas.Option.{slice_get-map}
use Rattle.pg_base.specs.Catalog.{CatalogParts, IsValidCatalog, IsValidTable}
use Rattle.pg_base.specs.Listing.{when, all_when, each_at}
use Rattle.pg_base.specs.Roles.{roles_of, enum_roles, table_roles, change_roles, create_roles, update_roles, delete_roles, each_key, is_new_key, has_condition, has_create, has_update, has_delete, has_mutation, place_of, is_role}
use Rattle.pg_base.specs.Schema.{int, is_built_in, is_input, IsTypeFor}
use Rattle.pg_base.specs.SchemaOf.{schema_of, type_of_role}
use Rattle.pg_base.specs.declared.role.Role.{Role}
use Rattle.pg_base.specs.declared.role.Role.TheVariants as role
use Rattle.pg_base.specs.declared.schema.TypeDef.{TypeDef}
use Rattle.pg_base.specs.declared.table_def.KeyDef.{KeyDef}
use Rattle.pg_base.specs.declared.table_def.TableDef.{TableDef}
use Rattle.schema_laws.proofs.Eaches.{Each-get, Has}
use Rattle.schema_laws.proofs.Numbers.{when_length, all_when_length, each_at_length}
use Rattle.schema_laws.proofs.Places.{at_place}

keys_length : (f : ℕ → KeyDef → List Role) (t : TableDef) → ((place : ℕ) (k : KeyDef) → length (f place k) ≤ 1) → length t.keys ≤ 64 → length (each_key f t) ≤ 64
keys_length f t h le =
    let n = each_at_length (λ place k. all_when (is_new_key t.keys place k) (f place k)) 1 0 t.keys (λ place k x e. all_when_length (is_new_key t.keys place x) (f place x) 1 (h place x)) in
    omega (arith, n, le)

table_length : (table : ℕ) (t : TableDef) → length (table_roles table t) ≤ 7
table_length table t =
    let a = when (has_condition t) (role.Condition table) in
    let b = when (has_create t) (role.Input table) in
    let d = when (has_update t) (role.Patch table) in
    let e = length-append (a ++ b) d in
    let f = length-append a b in
    let x = when_length (has_condition t) (role.Condition table) in
    let y = when_length (has_create t) (role.Input table) in
    let z = when_length (has_update t) (role.Patch table) in
    omega (arith, e, f, x, y, z)

change_length : (table : ℕ) (t : TableDef) → length t.keys ≤ 64 → length (change_roles table t) ≤ 132
change_length table t le =
    let a = all_when (has_create t) (create_roles table t) in
    let b = all_when (has_update t) (update_roles table t) in
    let d = all_when (has_delete t) (delete_roles table t) in
    let updates = each_key (λ key k. role.UpdateInput table key ∷ []) t in
    let deletes = each_key (λ key k. role.DeleteInput table key ∷ []) t in
    let m = length-append updates (role.UpdatePayload table ∷ []) in
    let n = length-append deletes (role.DeletePayload table ∷ []) in
    let p = keys_length (λ key k. role.UpdateInput table key ∷ []) t (λ place k. omega arith) le in
    let q = keys_length (λ key k. role.DeleteInput table key ∷ []) t (λ place k. omega arith) le in
    let x = all_when_length (has_create t) (create_roles table t) 2 (omega arith) in
    let y = all_when_length (has_update t) (update_roles table t) 65 (omega (arith, m, p)) in
    let z = all_when_length (has_delete t) (delete_roles table t) 65 (omega (arith, n, q)) in
    let e = length-append (a ++ b) d in
    let f = length-append a b in
    omega (arith, e, f, x, y, z)

keys_of : (c : CatalogParts) (k : ℕ) (t : TableDef) → IsValidCatalog c → slice_get c.tables k ≡ Some t → length t.keys ≤ 64
keys_of c k t valid e = let v = Each-get (IsValidTable c) c.tables k t valid.tables e in let l = v.constraint_limit in omega (arith, l)

pub few_types : (c : CatalogParts) → IsValidCatalog c → length (roles_of c) < int
unfolding roles_of
few_types c valid =
    let enums = each_at enum_roles 0 c.enums in
    let tables = each_at table_roles 0 c.tables in
    let mutation = when (has_mutation c) role.Mutation in
    let changes = each_at change_roles 0 c.tables in
    let x = each_at_length enum_roles 1 0 c.enums (λ place k y e. omega arith) in
    let y = each_at_length table_roles 7 0 c.tables (λ place k t e. table_length place t) in
    let z = each_at_length change_roles 132 0 c.tables (λ place k t e. change_length place t (keys_of c k t valid e)) in
    let w = when_length (has_mutation c) role.Mutation in
    let a = length-append (enums ++ tables) (role.Query ∷ (mutation ++ changes)) in
    let b = length-append enums tables in
    let d = length-append mutation changes in
    let n = valid.enum_limit in
    let m = valid.table_limit in
    omega (arith, x, y, z, w, a, b, d, n, m)

-- ---- a role whose place is that of a type is there

place_if : (test : Bool) (n m : ℕ) → n ≤ m → (if test then zero else suc n) ≤ suc m
place_if true n m h = omega arith
place_if false n m h = omega arith

place_most : (roles : List Role) (r : Role) → place_of roles r ≤ length roles
place_most [] r = omega arith
place_most (other ∷ roles) r = place_if (is_role r other) (place_of roles r) (length roles) (place_most roles r)

not_built_in : (n : ℕ) → n < int → is_built_in n ≡ false
not_built_in n lt = grind (arith, Rattle.std.proofs.lemmas.Grind.common_steps)

nothing_there : (c : CatalogParts) (k : ℕ) → slice_get (roles_of c) k ≡ None → slice_get (schema_of c).types k ≡ None
unfolding schema_of
nothing_there c k e = slice_get-map (type_of_role c (roles_of c)) (roles_of c) k ∙ ap (option_map (type_of_role c (roles_of c))) e

pub role_there : (c : CatalogParts) (r : Role) → IsValidCatalog c → IsTypeFor is_input (schema_of c) (place_of (roles_of c) r) → Has r (roles_of c)
role_there c r valid h =
    let few = few_types c valid in
    let most = place_most (roles_of c) r in
    let free = not_built_in (place_of (roles_of c) r) (omega (arith, few, most)) in
    elim (at_place (roles_of c) r) [
      | inl e ↦ (place_of (roles_of c) r, e)
      | inr e ↦ elim h [
        | inl b ↦ absurd cc
        | inr s ↦ absurd (subst (λ (o : Option TypeDef). IsSomeAnd o (λ t. is_input t.kind ≡ true)) (nothing_there c (place_of (roles_of c) r) e) s)
      ]
    ]
