-- Each type that a field or an argument of a catalog's schema names is there, and may stand there.
use Rattle.std.proofs.Common.{◌≡◌, ℕ, Bool, true, false, ◌&&◌, List, [], ◌∷◌, ◌++◌, map, Option, Some, None, inl, inr, refl, sym, ap, ◌∙◌, subst}
use Rattle.std.specs.Prelude.{if◌then◌else◌, slice_get, IsSomeAnd, unwrap_or, option_map, ◌==◌}
use Rattle.std.proofs.lemmas.Option.{slice_get-map}
use Rattle.pg_base.specs.declared.kind.Kind.{Kind}
use Rattle.pg_base.specs.declared.kind.Kind.TheVariants as column
use Rattle.pg_base.specs.declared.table_def.ColumnDef.{ColumnDef}
use Rattle.pg_base.specs.declared.table_def.KeyDef.{KeyDef}
use Rattle.pg_base.specs.declared.table_def.LinkDef.{LinkDef}
use Rattle.pg_base.specs.declared.table_def.TableDef.{TableDef}
use Rattle.pg_base.specs.declared.schema.ArgDef.{ArgDef}
use Rattle.pg_base.specs.declared.schema.FieldDef.{FieldDef}
use Rattle.pg_base.specs.declared.schema.TypeDef.{TypeDef}
use Rattle.pg_base.specs.declared.schema.TypeKind.{TypeKind}
use Rattle.pg_base.specs.declared.role.Role.{Role}
use Rattle.pg_base.specs.declared.role.Role.TheVariants as role
use Rattle.schema_laws.proofs.Eaches.{Each-append, Each-when, Each-all_when, Each-get, Each-each_at, Each-map, Each-weaker, Each-filter, Each-all, Has}
use Rattle.schema_laws.proofs.Places.{found}
use Rattle.schema_laws.proofs.InRoles.{has_page, has_cursor, has_row, has_connection, has_edge, has_order, has_create_payload, has_update_payload, has_delete_payload, has_big_int, has_enum, has_create_input, has_update_input, has_delete_input}
use Rattle.schema_laws.proofs.Orders.{has_condition_type, has_input_type, has_patch_type}
use Rattle.schema_laws.proofs.Leading.{HasTarget, HasTargets, all_targets, each_key_leads, roles_is}
use Rattle.pg_base.specs.Lists.{Each}
use Rattle.pg_base.specs.Kind.{IsKind}
use Rattle.pg_base.specs.Catalog.{CatalogParts, IsValidCatalog, IsValidTable, IsValidColumn}
use Rattle.pg_base.specs.Lookups.{finds_one, no_column, column_at, no_table, table_at, key_in}
use Rattle.pg_base.specs.Listing.{when, all_when, each_at}
use Rattle.pg_base.specs.Behaviors.{is_on, selecting, connecting, listing, inserting, updating, filtering, columns_on}
use Rattle.pg_base.specs.Roles.{is_new_key, each_key, roles_of, enum_roles, table_roles, change_roles, create_roles, update_roles, delete_roles, has_condition, has_create, has_update, has_delete, has_mutation, place_of}
use Rattle.pg_base.specs.TypeRefs.{type_of_kind}
use Rattle.pg_base.specs.ColumnFields.{column_field, column_fields, input_field, must_be_given, key_arguments}
use Rattle.pg_base.specs.Connections.{page_fields, connection_fields, edge_fields, connection_arguments}
use Rattle.pg_base.specs.RowFields.{forward_field, backward_row, backward_rows, backward_field, forward_fields, backward_fields}
use Rattle.pg_base.specs.MutationInputs.{payload_fields}
use Rattle.pg_base.specs.RootFields.{all_field, key_field, query_fields_of, query_fields, create_field, update_field, delete_field, mutation_fields_of, mutation_fields}
use Rattle.pg_base.specs.SchemaOf.{kind_of_role, type_of_role, schema_of}
use Rattle.pg_base.specs.Schema.{is_input, is_output, IsTypeFor}
use Rattle.pg_base.specs.Schema.{SchemaParts, fields_of, inputs_of, IsValidArg}

-- the types that a field names
abbrev pub IsTypedField : SchemaParts → FieldDef → Type 0
IsTypedField schema f = IsTypeFor is_output schema f.ty.name × Each (IsValidArg schema) f.args

abbrev pub IsTypedType : SchemaParts → TypeDef → Type 0
IsTypedType schema t = Each (IsTypedField schema) (fields_of t.kind) × Each (IsValidArg schema) (inputs_of t.kind)

abbrev pub IsTyped : SchemaParts → Type 0
IsTyped schema = Each (IsTypedType schema) schema.types

-- a role that is there, of a type that may stand there
ref : (c : CatalogParts) (test : TypeKind → Bool) (r : Role) → Has r (roles_of c) → test (kind_of_role c (roles_of c) r) ≡ true → IsTypeFor test (schema_of c) (place_of (roles_of c) r)
unfolding schema_of
ref c test r h e =
    inr (subst (λ (o : Option TypeDef). IsSomeAnd o (λ t. test t.kind ≡ true))
    (sym (slice_get-map (type_of_role c (roles_of c)) (roles_of c) (place_of (roles_of c) r) ∙ ap (λ o. option_map (type_of_role c (roles_of c)) o) (found (roles_of c) r h))) e)

-- the kind's enum is there
abbrev KnownKind : CatalogParts → ColumnDef → Type 0
KnownKind c col = IsKind c.enums col.kind

column_in : (c : CatalogParts) (k : Kind) → IsKind c.enums k → IsTypeFor is_input (schema_of c) (type_of_kind (roles_of c) k)
column_in c column.Int h = inl refl
column_in c column.BigInt h = ref c is_input role.BigInt (has_big_int c) refl
column_in c column.Text h = inl refl
column_in c (column.Varchar n) h = inl refl
column_in c column.Bool h = inl refl
column_in c (column.Enum place) h = ref c is_input (role.Enum place) (has_enum c place h) refl

column_out : (c : CatalogParts) (k : Kind) → IsKind c.enums k → IsTypeFor is_output (schema_of c) (type_of_kind (roles_of c) k)
column_out c column.Int h = inl refl
column_out c column.BigInt h = ref c is_output role.BigInt (has_big_int c) refl
column_out c column.Text h = inl refl
column_out c (column.Varchar n) h = inl refl
column_out c column.Bool h = inl refl
column_out c (column.Enum place) h = ref c is_output (role.Enum place) (has_enum c place h) refl

-- ---- arguments

-- what is known of each table
record Known (c : CatalogParts) (t : TableDef) : Type 0 where
  columns : Each (KnownKind c) t.columns
  links : HasTargets c t

connection_args : (c : CatalogParts) (table : ℕ) (t : TableDef) → slice_get c.tables table ≡ Some t → Each (IsValidArg (schema_of c)) (connection_arguments (roles_of c) table t)
connection_args c table t e = (
  inl refl,
  (
    inl refl,
    (
      inl refl,
      (
        ref c is_input role.Cursor (has_cursor c) refl,
        (
          ref c is_input role.Cursor (has_cursor c) refl,
          (
            ref c is_input (role.Order table) (has_order c table t e) refl,
            Each-when (IsValidArg (schema_of c)) (has_condition t) _ (λ on. ref c is_input (role.Condition table) (has_condition_type c table t e on) refl),
          ),
        ),
      ),
    ),
  ),
)

made_of : (c : CatalogParts) (field : ColumnDef → ArgDef) → ((col : ColumnDef) → KnownKind c col → IsValidArg (schema_of c) (field col)) → (behavior : ℕ) (t : TableDef) → Each (KnownKind c) t.columns
    → Each (IsValidArg (schema_of c)) (map field (columns_on behavior t))
made_of c field f behavior t h =
    Each-map (IsValidArg (schema_of c)) field (columns_on behavior t)
    (Each-weaker (KnownKind c) (λ col. IsValidArg (schema_of c) (field col)) (columns_on behavior t) f (Each-filter (KnownKind c) (λ col. is_on behavior col.tags) t.columns h))

known_at : (c : CatalogParts) (o : Option ColumnDef) (columns : List ColumnDef) (place : ℕ) → slice_get columns place ≡ o → Each (KnownKind c) columns → KnownKind c (unwrap_or o no_column)
known_at c None columns place e h = tt
known_at c (Some col) columns place e h = Each-get (KnownKind c) columns place col h e

key_args : (c : CatalogParts) (t : TableDef) (k : KeyDef) → Each (KnownKind c) t.columns → Each (IsValidArg (schema_of c)) (key_arguments (roles_of c) t k)
key_args c t k h =
    Each-map (IsValidArg (schema_of c)) (λ place. input_field (roles_of c) true (column_at t place)) k.columns
    (Each-all (λ place. IsValidArg (schema_of c) (input_field (roles_of c) true (column_at t place))) k.columns
    (λ place. column_in c (column_at t place).kind (known_at c (slice_get t.columns place) t.columns place refl h)))

-- ---- fields

abbrev Out : CatalogParts → FieldDef → Type 0
Out c f = IsTypedField (schema_of c) f

-- a field without arguments of a role that is there
plain : (c : CatalogParts) (r : Role) → Has r (roles_of c) → is_output (kind_of_role c (roles_of c) r) ≡ true → IsTypeFor is_output (schema_of c) (place_of (roles_of c) r) × Each (IsValidArg (schema_of c)) []
plain c r h e = (ref c is_output r h e, tt)

page : (c : CatalogParts) → Each (Out c) (page_fields (roles_of c))
page c = ((inl refl, tt), ((inl refl, tt), (plain c role.Cursor (has_cursor c) refl, (plain c role.Cursor (has_cursor c) refl, tt))))

connections : (c : CatalogParts) (table : ℕ) (t s : TableDef) → slice_get c.tables table ≡ Some t → Each (Out c) (connection_fields (roles_of c) table s)
connections c table t s e =
    Each-append (Out c) (when (is_on listing s.tags) _) _
    (Each-when (Out c) (is_on listing s.tags) _ (λ on. plain c (role.Row table) (has_row c table t e) refl))
    (plain c (role.Edge table) (has_edge c table t e) refl, (plain c role.PageInfo (has_page c) refl, ((inl refl, tt), tt)))

edges : (c : CatalogParts) (table : ℕ) (t : TableDef) → slice_get c.tables table ≡ Some t → Each (Out c) (edge_fields (roles_of c) table)
edges c table t e = (plain c role.Cursor (has_cursor c) refl, (plain c (role.Row table) (has_row c table t e) refl, tt))

payloads : (c : CatalogParts) (table : ℕ) (t s : TableDef) → slice_get c.tables table ≡ Some t → Each (Out c) (payload_fields (roles_of c) table s)
payloads c table t s e = ((inl refl, tt), (plain c (role.Row table) (has_row c table t e) refl, tt))

columns : (c : CatalogParts) (table : ℕ) (t : TableDef) → Each (KnownKind c) t.columns → Each (Out c) (column_fields (roles_of c) table t)
columns c table t h =
    Each-each_at (Out c) (λ place col. when (is_on selecting col.tags) (column_field (roles_of c) table place col)) t.columns
    (λ place col g. Each-when (Out c) (is_on selecting col.tags) (column_field (roles_of c) table place col)
    (λ on. (column_out c col.kind (Each-get (KnownKind c) t.columns place col h g), tt)))

forwards : (c : CatalogParts) (table : ℕ) (t : TableDef) → HasTargets c t → Each (Out c) (forward_fields c (roles_of c) table t)
forwards c table t targets =
    Each-each_at (Out c) (λ place l. when (is_on selecting l.tags) (forward_field c (roles_of c) table t place l)) t.links
    (λ place l g. Each-when (Out c) (is_on selecting l.tags) (forward_field c (roles_of c) table t place l)
    (λ on. let target = Each-get (HasTarget c) t.links place l targets g in plain c (role.Row l.target) (has_row c l.target target.0 target.1) refl))

one_or_many : (c : CatalogParts) (table place : ℕ) (t : TableDef) (l : LinkDef) (single : Bool) → slice_get c.tables table ≡ Some t
    → Out c (if single then backward_row (roles_of c) table t place l else backward_rows (roles_of c) table t place l)
one_or_many c table place t l true e = plain c (role.Row table) (has_row c table t e) refl
one_or_many c table place t l false e = (ref c is_output (role.Connection table) (has_connection c table t e) refl, connection_args c table t e)

backwards : (c : CatalogParts) (target : ℕ) → Each (Out c) (backward_fields c (roles_of c) target)
backwards c target =
    Each-each_at (Out c) (λ table t. each_at (λ place l. when (l.target == target && is_on connecting l.tags) (backward_field (roles_of c) table t place l)) 0 t.links) c.tables
    (λ table t e. Each-each_at (Out c) (λ place l. when (l.target == target && is_on connecting l.tags) (backward_field (roles_of c) table t place l)) t.links
    (λ place l g. Each-when (Out c) (l.target == target && is_on connecting l.tags) (backward_field (roles_of c) table t place l) (λ on. one_or_many c table place t l (finds_one (Some t) l) e)))

queries : (c : CatalogParts) → Each (Known c) c.tables → Each (Out c) (query_fields c (roles_of c))
queries c known =
    Each-each_at (Out c) (query_fields_of (roles_of c)) c.tables
    (λ table t e. Each-append (Out c) (when (is_on connecting t.tags) (all_field (roles_of c) table t)) (all_when (is_on selecting t.tags) (each_key (λ key k. key_field (roles_of c) table t key k ∷ []) t))
    (Each-when (Out c) (is_on connecting t.tags) (all_field (roles_of c) table t) (λ on. (ref c is_output (role.Connection table) (has_connection c table t e) refl, connection_args c table t e)))
    (Each-all_when (Out c) (is_on selecting t.tags) (each_key (λ key k. key_field (roles_of c) table t key k ∷ []) t)
    (λ on. each_key_leads (Out c) t (λ key k. key_field (roles_of c) table t key k ∷ [])
    (λ key k g. ((ref c is_output (role.Row table) (has_row c table t e) refl, key_args c t k (Each-get (Known c) c.tables table t known e).columns), tt)))))

key_each : {A : Type 0} (P : A → Type 0) (t : TableDef) (f : ℕ → KeyDef → List A) → ((place : ℕ) (k : KeyDef) → slice_get t.keys place ≡ Some k → is_new_key t.keys place k ≡ true → Each P (f place k)) → Each P (each_key f t)
key_each P t f h =
    Each-each_at P (λ place k. all_when (is_new_key t.keys place k) (f place k)) t.keys (λ place k g. Each-all_when P (is_new_key t.keys place k) (f place k) (λ new. h place k g new))

mutations : (c : CatalogParts) → Each (Out c) (mutation_fields c (roles_of c))
mutations c =
    Each-each_at (Out c) (mutation_fields_of (roles_of c)) c.tables
    (λ table t e.
    let P = Out c in
    let creates = when (has_create t) (create_field (roles_of c) table t) in
    let updates = all_when (has_update t) (each_key (λ key k. update_field (roles_of c) table t key k ∷ []) t) in
    let deletes = all_when (has_delete t) (each_key (λ key k. delete_field (roles_of c) table t key k ∷ []) t) in
    Each-append P (creates ++ updates) deletes
    (Each-append P creates updates
    (Each-when P (has_create t) (create_field (roles_of c) table t)
    (λ on. (ref c is_output (role.CreatePayload table) (has_create_payload c table t e on) refl, (ref c is_input (role.CreateInput table) (has_create_input c table t e on) refl, tt))))
    (Each-all_when P (has_update t) (each_key (λ key k. update_field (roles_of c) table t key k ∷ []) t)
    (λ on. key_each P t (λ key k. update_field (roles_of c) table t key k ∷ [])
    (λ key k g new. ((ref c is_output (role.UpdatePayload table) (has_update_payload c table t e on) refl, (ref c is_input (role.UpdateInput table key) (has_update_input c table key t k e on g new) refl, tt)), tt)))))
    (Each-all_when P (has_delete t) (each_key (λ key k. delete_field (roles_of c) table t key k ∷ []) t)
    (λ on. key_each P t (λ key k. delete_field (roles_of c) table t key k ∷ [])
    (λ key k g new. ((ref c is_output (role.DeletePayload table) (has_delete_payload c table t e on) refl, (ref c is_input (role.DeleteInput table key) (has_delete_input c table key t k e on g new) refl, tt)), tt)))))

-- ---- all types

abbrev Typed : CatalogParts → Role → Type 0
Typed c r = IsTypedType (schema_of c) (type_of_role c (roles_of c) r)

table_is : (c : CatalogParts) (table : ℕ) (t : TableDef) → slice_get c.tables table ≡ Some t → t ≡ table_at c table
table_is c table t e = sym (ap (λ (o : Option TableDef). unwrap_or o no_table) e)

table_types : (c : CatalogParts) (table : ℕ) (t : TableDef) → slice_get c.tables table ≡ Some t → Known c t → Each (Typed c) (table_roles table t)
table_types c table t e known =
    let same = table_is c table t e in
    let s = table_at c table in
    let cols : Each (KnownKind c) s.columns = subst (λ (t : TableDef). Each (KnownKind c) t.columns) same known.columns in
    let targets : HasTargets c s = subst (λ (t : TableDef). HasTargets c t) same known.links in
    let condition = when (has_condition t) (role.Condition table) in
    let input = when (has_create t) (role.Input table) in
    let patch = when (has_update t) (role.Patch table) in
    let own = column_fields (roles_of c) table s in
    let to = forward_fields c (roles_of c) table s in (
      (Each-append (Out c) (own ++ to) (backward_fields c (roles_of c) table) (Each-append (Out c) own to (columns c table s cols) (forwards c table s targets)) (backwards c table), tt),
      (
        (connections c table t s e, tt),
        (
          (edges c table t e, tt),
          (
            (tt, tt),
            Each-append (Typed c) (condition ++ input) patch
                (Each-append (Typed c) condition input
                (Each-when (Typed c) (has_condition t) (role.Condition table) (λ on. (tt, made_of c (input_field (roles_of c) false) (λ col k. column_in c col.kind k) filtering s cols)))
                (Each-when (Typed c) (has_create t) (role.Input table) (λ on. (tt, made_of c (λ col. input_field (roles_of c) (must_be_given col) col) (λ col k. column_in c col.kind k) inserting s cols))))
                (Each-when (Typed c) (has_update t) (role.Patch table) (λ on. (tt, made_of c (input_field (roles_of c) false) (λ col k. column_in c col.kind k) updating s cols))),
          ),
        ),
      ),
    )

change_types : (c : CatalogParts) (table : ℕ) (t : TableDef) → slice_get c.tables table ≡ Some t → Known c t → Each (Typed c) (change_roles table t)
change_types c table t e known =
    let a = all_when (has_create t) (create_roles table t) in
    let b = all_when (has_update t) (update_roles table t) in
    let d = all_when (has_delete t) (delete_roles table t) in
    let s = table_at c table in
    let cols : Each (KnownKind c) s.columns = subst (λ (t : TableDef). Each (KnownKind c) t.columns) (table_is c table t e) known.columns in
    Each-append (Typed c) (a ++ b) d
    (Each-append (Typed c) a b
    (Each-all_when (Typed c) (has_create t) (create_roles table t)
    (λ on. ((tt, (inl refl, (ref c is_input (role.Input table) (has_input_type c table t e on) refl, tt))), ((payloads c table t s e, tt), tt))))
    (Each-all_when (Typed c) (has_update t) (update_roles table t)
    (λ on. Each-append (Typed c) (each_key (λ key k. role.UpdateInput table key ∷ []) t) (role.UpdatePayload table ∷ [])
    (key_each (Typed c) t (λ key k. role.UpdateInput table key ∷ [])
    (λ key k g new. ((tt, (inl refl, Each-append (IsValidArg (schema_of c)) (key_arguments (roles_of c) s (key_in s key)) _ (key_args c s (key_in s key) cols) (ref c is_input (role.Patch table) (has_patch_type c table t e on) refl, tt))), tt)))
    ((payloads c table t s e, tt), tt))))
    (Each-all_when (Typed c) (has_delete t) (delete_roles table t)
    (λ on. Each-append (Typed c) (each_key (λ key k. role.DeleteInput table key ∷ []) t) (role.DeletePayload table ∷ [])
    (key_each (Typed c) t (λ key k. role.DeleteInput table key ∷ []) (λ key k g new. ((tt, (inl refl, key_args c s (key_in s key) cols)), tt)))
    ((payloads c table t s e, tt), tt)))

all_types : (c : CatalogParts) → Each (Known c) c.tables → Each (Typed c) (roles_of c)
all_types c known =
    let enums = each_at enum_roles 0 c.enums in
    let tables = each_at table_roles 0 c.tables in
    let mutation = when (has_mutation c) role.Mutation in
    let changes = each_at change_roles 0 c.tables in
    let own : Each (Typed c) enums = Each-each_at (Typed c) enum_roles c.enums (λ k x g. ((tt, tt), tt)) in
    let rows : Each (Typed c) tables = Each-each_at (Typed c) table_roles c.tables (λ table t e. table_types c table t e (Each-get (Known c) c.tables table t known e)) in
    let written : Each (Typed c) changes = Each-each_at (Typed c) change_roles c.tables (λ table t e. change_types c table t e (Each-get (Known c) c.tables table t known e)) in
    let root : Each (Typed c) mutation = Each-when (Typed c) (has_mutation c) role.Mutation (λ on. (mutations c, tt)) in
    subst (λ roles. Each (Typed c) roles) (roles_is c)
    ((tt, tt), ((tt, tt), ((page c, tt), Each-append (Typed c) (enums ++ tables) (role.Query ∷ (mutation ++ changes)) (Each-append (Typed c) enums tables own rows) ((queries c known, tt), Each-append (Typed c) mutation changes root written))))

known_tables : (c : CatalogParts) (tables : List TableDef) → Each (IsValidTable c) tables → Each (HasTargets c) tables → Each (Known c) tables
known_tables c [] h k = tt
known_tables c (t ∷ tables) h k = (record { columns = Each-weaker (IsValidColumn c.enums) (KnownKind c) t.columns (λ col v. v.kind) h.0.columns; links = k.0 }, known_tables c tables h.1 k.1)

pub is_typed : (c : CatalogParts) → IsValidCatalog c → IsTyped (schema_of c)
unfolding schema_of
is_typed c valid = Each-map (IsTypedType (schema_of c)) (type_of_role c (roles_of c)) (roles_of c) (all_types c (known_tables c c.tables valid.tables (all_targets c c.tables valid.tables)))
