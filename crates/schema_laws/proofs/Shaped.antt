-- Each field of a catalog's schema has the type and the arguments of what it does.
use Rattle.std.proofs.Common.{◌≡◌, ℕ, zero, suc, Bool, true, false, ◌&&◌, List, [], ◌∷◌, ◌++◌, Option, Some, None, refl, sym, ap, ◌∙◌, subst}
use Rattle.std.specs.Prelude.{slice_get, IsSomeAnd, unwrap_or, option_map, ◌==◌, if◌then◌else◌}
use Rattle.std.proofs.lemmas.Option.{slice_get-map}
use Rattle.pg_base.specs.Lists.{Each}
use Rattle.pg_base.specs.Catalog.{CatalogParts}
use Rattle.pg_base.specs.declared.table_def.KeyDef.{KeyDef}
use Rattle.pg_base.specs.declared.table_def.LinkDef.{LinkDef}
use Rattle.pg_base.specs.declared.table_def.ColumnDef.{ColumnDef}
use Rattle.pg_base.specs.declared.table_def.TableDef.{TableDef}
use Rattle.pg_base.specs.declared.schema.FieldDef.{FieldDef}
use Rattle.pg_base.specs.declared.schema.TypeDef.{TypeDef}
use Rattle.pg_base.specs.declared.role.Role.{Role}
use Rattle.pg_base.specs.declared.role.Role.TheVariants as role
use Rattle.pg_base.specs.Schema.{fields_of, kind_of}
use Rattle.pg_base.specs.Listing.{when, all_when}
use Rattle.pg_base.specs.Lookups.{no_table, table_at, no_column, no_key, key_in, link_at, finds_one}
use Rattle.pg_base.specs.Behaviors.{is_on, listing, selecting, connecting}
use Rattle.pg_base.specs.Roles.{roles_of, each_key, has_create, has_update, has_delete}
use Rattle.pg_base.specs.TypeRefs.{one, type_of_kind}
use Rattle.pg_base.specs.ColumnFields.{column_field, column_fields, key_arguments}
use Rattle.pg_base.specs.Connections.{page_fields, connection_fields, edge_fields, connection_arguments}
use Rattle.pg_base.specs.RowFields.{forward_field, forward_fields, backward_row, backward_rows, backward_field, backward_fields_from, backward_fields, row_fields}
use Rattle.pg_base.specs.MutationInputs.{payload_fields}
use Rattle.pg_base.specs.RootFields.{all_field, key_field, query_fields_of, query_fields, create_field, update_field, delete_field, mutation_fields_of, mutation_fields}
use Rattle.pg_base.specs.SchemaOf.{kind_of_role, type_of_role, schema_of}
use Rattle.schema_laws.specs.Shapes.{HasBackwardShape, HasShapeOf, HaveShapes, one_of}
use Rattle.schema_laws.proofs.Eaches.{Each-append, Each-when, Each-all_when, Each-get, Each-each_at}
use Rattle.schema_laws.proofs.Leading.{each_key_leads, link_is}

abbrev Shaped : CatalogParts → FieldDef → Type 0
Shaped c f = HasShapeOf c f f.does

same_table : (c : CatalogParts) (table : ℕ) (t : TableDef) → slice_get c.tables table ≡ Some t → t ≡ table_at c table
same_table c table t e = sym (ap (λ (o : Option TableDef). unwrap_or o no_table) e)

-- ---- rows

columns : (c : CatalogParts) (table : ℕ) → Each (Shaped c) (column_fields (roles_of c) table (table_at c table))
columns c table =
    let s = table_at c table in
    Each-each_at (Shaped c) (λ place col. when (is_on selecting col.tags) (column_field (roles_of c) table place col)) s.columns
    (λ place col g. Each-when (Shaped c) (is_on selecting col.tags) (column_field (roles_of c) table place col)
    (λ on. (ap (λ (o : Option ColumnDef). one (type_of_kind (roles_of c) (unwrap_or o no_column).kind) (unwrap_or o no_column).not_null) (sym g), refl)))

link_there : (c : CatalogParts) (table place : ℕ) (l : LinkDef) (o : Option TableDef) → slice_get c.tables table ≡ o → slice_get (unwrap_or o no_table).links place ≡ Some l → link_at c table place ≡ Some l
link_there c table zero l None e g = cc
link_there c table (suc place) l None e g = cc
link_there c table place l (Some t) e g = link_is c table place t l e g

forwards : (c : CatalogParts) (table : ℕ) → Each (Shaped c) (forward_fields c (roles_of c) table (table_at c table))
forwards c table =
    let s = table_at c table in
    Each-each_at (Shaped c) (λ place l. when (is_on selecting l.tags) (forward_field c (roles_of c) table s place l)) s.links
    (λ place l g. Each-when (Shaped c) (is_on selecting l.tags) (forward_field c (roles_of c) table s place l)
    (λ on. let f = forward_field c (roles_of c) table s place l in
    subst (λ (o : Option LinkDef). IsSomeAnd o (λ m. (f.ty ≡ one_of c (role.Row m.target) false) × (f.args ≡ []))) (sym (link_there c table place l (slice_get c.tables table) refl g)) (refl, refl)))

backward : (c : CatalogParts) (table place : ℕ) (l : LinkDef) (t : TableDef) (f : FieldDef) (single : Bool) → slice_get c.tables table ≡ Some t → slice_get t.links place ≡ Some l
    → finds_one (Some t) l ≡ single → HasBackwardShape c f table single
    → IsSomeAnd (link_at c table place) (λ m. HasBackwardShape c f table (finds_one (slice_get c.tables table) m))
backward c table place l t f single e g v h =
    subst (λ (o : Option LinkDef). IsSomeAnd o (λ m. HasBackwardShape c f table (finds_one (slice_get c.tables table) m))) (sym (link_is c table place t l e g))
    (subst (λ b. HasBackwardShape c f table b) (sym (ap (λ o. finds_one o l) e ∙ v)) h)

one_or_many : (c : CatalogParts) (table place : ℕ) (l : LinkDef) (t : TableDef) (single : Bool) → slice_get c.tables table ≡ Some t → slice_get t.links place ≡ Some l → finds_one (Some t) l ≡ single
    → Shaped c (if single then backward_row (roles_of c) table t place l else backward_rows (roles_of c) table t place l)
one_or_many c table place l t true e g v = backward c table place l t (backward_row (roles_of c) table t place l) true e g v (refl, refl)
one_or_many c table place l t false e g v =
    backward c table place l t (backward_rows (roles_of c) table t place l) false e g v (refl, ap (connection_arguments (roles_of c) table) (same_table c table t e))

backwards : (c : CatalogParts) (target : ℕ) → Each (Shaped c) (backward_fields c (roles_of c) target)
backwards c target =
    Each-each_at (Shaped c) (backward_fields_from (roles_of c) target) c.tables
    (λ table t e. Each-each_at (Shaped c) (λ place l. when (l.target == target && is_on connecting l.tags) (backward_field (roles_of c) table t place l)) t.links
    (λ place l g. Each-when (Shaped c) (l.target == target && is_on connecting l.tags) (backward_field (roles_of c) table t place l) (λ on. one_or_many c table place l t (finds_one (Some t) l) e g refl)))

rows : (c : CatalogParts) (table : ℕ) → Each (Shaped c) (row_fields c (roles_of c) table)
rows c table =
    let own = column_fields (roles_of c) table (table_at c table) in
    let to = forward_fields c (roles_of c) table (table_at c table) in
    Each-append (Shaped c) (own ++ to) (backward_fields c (roles_of c) table) (Each-append (Shaped c) own to (columns c table) (forwards c table)) (backwards c table)

-- ---- lists, pages, edges and payloads

page : (c : CatalogParts) → Each (Shaped c) (page_fields (roles_of c))
page c = ((refl, refl), ((refl, refl), ((refl, refl), ((refl, refl), tt))))

connection : (c : CatalogParts) (table : ℕ) (t : TableDef) → Each (Shaped c) (connection_fields (roles_of c) table t)
connection c table t =
    Each-append (Shaped c) (when (is_on listing t.tags) _) _ (Each-when (Shaped c) (is_on listing t.tags) _ (λ on. (table, (refl, refl))))
    ((table, (refl, refl)), ((refl, refl), ((refl, refl), tt)))

edge : (c : CatalogParts) (table : ℕ) → Each (Shaped c) (edge_fields (roles_of c) table)
edge c table = ((refl, refl), ((table, (refl, refl)), tt))

payload : (c : CatalogParts) (table : ℕ) (t : TableDef) → Each (Shaped c) (payload_fields (roles_of c) table t)
payload c table t = ((refl, refl), ((table, (refl, refl)), tt))

-- ---- roots

key_is : (types : List Role) (t s : TableDef) (k : KeyDef) (key : ℕ) → t ≡ s → slice_get t.keys key ≡ Some k → key_arguments types t k ≡ key_arguments types s (key_in s key)
key_is types t s k key same g =
    subst (λ (z : TableDef). key_arguments types t k ≡ key_arguments types z (key_in z key)) same (ap (λ (o : Option KeyDef). key_arguments types t (unwrap_or o no_key)) (sym g))

queries : (c : CatalogParts) → Each (Shaped c) (query_fields c (roles_of c))
queries c =
    Each-each_at (Shaped c) (query_fields_of (roles_of c)) c.tables
    (λ table t e. let keys = each_key (λ key k. key_field (roles_of c) table t key k ∷ []) t in
    Each-append (Shaped c) (when (is_on connecting t.tags) (all_field (roles_of c) table t)) (all_when (is_on selecting t.tags) keys)
    (Each-when (Shaped c) (is_on connecting t.tags) (all_field (roles_of c) table t) (λ on. (refl, ap (connection_arguments (roles_of c) table) (same_table c table t e))))
    (Each-all_when (Shaped c) (is_on selecting t.tags) keys
    (λ on. each_key_leads (Shaped c) t (λ key k. key_field (roles_of c) table t key k ∷ [])
    (λ key k g. ((refl, key_is (roles_of c) t (table_at c table) k key (same_table c table t e) g), tt)))))

mutations : (c : CatalogParts) → Each (Shaped c) (mutation_fields c (roles_of c))
mutations c =
    Each-each_at (Shaped c) (mutation_fields_of (roles_of c)) c.tables
    (λ table t e.
    let creates = when (has_create t) (create_field (roles_of c) table t) in
    let updates = all_when (has_update t) (each_key (λ key k. update_field (roles_of c) table t key k ∷ []) t) in
    let deletes = all_when (has_delete t) (each_key (λ key k. delete_field (roles_of c) table t key k ∷ []) t) in
    Each-append (Shaped c) (creates ++ updates) deletes
    (Each-append (Shaped c) creates updates (Each-when (Shaped c) (has_create t) (create_field (roles_of c) table t) (λ on. (refl, refl)))
    (Each-all_when (Shaped c) (has_update t) (each_key (λ key k. update_field (roles_of c) table t key k ∷ []) t)
    (λ on. each_key_leads (Shaped c) t (λ key k. update_field (roles_of c) table t key k ∷ []) (λ key k g. ((refl, refl), tt)))))
    (Each-all_when (Shaped c) (has_delete t) (each_key (λ key k. delete_field (roles_of c) table t key k ∷ []) t)
    (λ on. each_key_leads (Shaped c) t (λ key k. delete_field (roles_of c) table t key k ∷ []) (λ key k g. ((refl, refl), tt)))))

-- ---- all types

shaped : (c : CatalogParts) (r : Role) → Each (Shaped c) (fields_of (kind_of_role c (roles_of c) r))
shaped c role.BigInt = tt
shaped c role.Cursor = tt
shaped c role.PageInfo = page c
shaped c (role.Enum place) = tt
shaped c (role.Row table) = rows c table
shaped c (role.Connection table) = connection c table (table_at c table)
shaped c (role.Edge table) = edge c table
shaped c (role.Order table) = tt
shaped c (role.Condition table) = tt
shaped c (role.Input table) = tt
shaped c (role.Patch table) = tt
shaped c role.Query = queries c
shaped c role.Mutation = mutations c
shaped c (role.CreateInput table) = tt
shaped c (role.CreatePayload table) = payload c table (table_at c table)
shaped c (role.UpdateInput table key) = tt
shaped c (role.UpdatePayload table) = payload c table (table_at c table)
shaped c (role.DeleteInput table key) = tt
shaped c (role.DeletePayload table) = payload c table (table_at c table)

nothing_at : (k : ℕ) (f : FieldDef) (A : Type 0) → slice_get [] k ≡ Some f → A
nothing_at zero f A e = cc
nothing_at (suc k) f A e = cc

shaped_at : (c : CatalogParts) (place : ℕ) (f : FieldDef) (o : Option Role) → slice_get (fields_of (kind_of (option_map (type_of_role c (roles_of c)) o))) place ≡ Some f → Shaped c f
shaped_at c place f None g = nothing_at place f (Shaped c f) g
shaped_at c place f (Some r) g = Each-get (Shaped c) (fields_of (kind_of_role c (roles_of c) r)) place f (shaped c r) g

pub have_shapes : (c : CatalogParts) → HaveShapes c
unfolding schema_of
have_shapes c ty place f e =
    let at : slice_get (fields_of (kind_of (option_map (type_of_role c (roles_of c)) (slice_get (roles_of c) ty)))) place ≡ Some f =
    subst (λ (o : Option TypeDef). slice_get (fields_of (kind_of o)) place ≡ Some f) (slice_get-map (type_of_role c (roles_of c)) (roles_of c) ty) e in
    shaped_at c place f (slice_get (roles_of c) ty) at
