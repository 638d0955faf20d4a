-- Each field of a catalog's schema belongs to its type, and leads to a type of the right kind.
use Rattle.std.proofs.Common.{◌≡◌, ℕ, zero, suc, ◌<◌, ◌≤◌, Bool, true, false, ◌&&◌, List, [], ◌∷◌, ◌++◌, length, Option, Some, None, inl, inr, refl, sym, ap, ◌∙◌, subst, arith}
use Rattle.std.specs.Prelude.{if◌then◌else◌, slice_get, IsSomeAnd, IfSome, unwrap_or, option_map, ◌==◌}
use Rattle.std.specs.Option.{option_and_then}
use Rattle.std.proofs.lemmas.Option.{slice_get_within, slice_get_past, slice_get-map}
use Rattle.std.proofs.lemmas.Bool.Decides.{Decides-eqb}
use Rattle.pg_base.specs.declared.kind.Kind.{Kind}
use Rattle.pg_base.specs.declared.kind.Kind.TheVariants as column
use Rattle.pg_base.specs.declared.table_def.ColumnDef.{ColumnDef}
use Rattle.pg_base.specs.declared.table_def.KeyDef.{KeyDef}
use Rattle.pg_base.specs.declared.table_def.LinkDef.{LinkDef}
use Rattle.pg_base.specs.declared.table_def.TableDef.{TableDef}
use Rattle.pg_base.specs.declared.schema.FieldDef.{FieldDef}
use Rattle.pg_base.specs.declared.schema.TypeDef.{TypeDef}
use Rattle.schema_laws.specs.Leads as leads
use Rattle.pg_base.specs.declared.role.Role.{Role}
use Rattle.pg_base.specs.declared.role.Role.TheVariants as role
use Rattle.schema_laws.proofs.Eaches.{Each-append, Each-when, Each-all_when, Each-get, Each-each_at, Has}
use Rattle.schema_laws.proofs.Places.{found, at_place}
use Rattle.schema_laws.proofs.InRoles.{has_mutation_type, has_page, has_query, has_row, has_connection, has_edge, has_create_payload, has_update_payload, has_delete_payload}
use Rattle.pg_base.specs.Lists.{Each}
use Rattle.pg_base.specs.Catalog.{CatalogParts, IsValidCatalog, IsValidTable, IsValidLink}
use Rattle.pg_base.specs.Schema.{int, string, boolean, fields_of, kind_of}
use Rattle.pg_base.specs.Lookups.{columns_in, columns_of, key_at, link_at, finds_one, no_table, table_at}
use Rattle.schema_laws.specs.Leads.{OfQuery, OfMutation, OfRow, OfList, OfEdge, OfPage, OfPayload, NoObject, backward_kind, Leads, AreKinds, role_kind, kind_in, kinds_of, base_of}
use Rattle.pg_base.specs.Listing.{when, all_when, each_at}
use Rattle.pg_base.specs.Behaviors.{is_on, selecting, connecting, listing}
use Rattle.pg_base.specs.Roles.{is_new_key, each_key, roles_of, enum_roles, table_roles, change_roles, create_roles, update_roles, delete_roles, has_condition, has_create, has_update, has_delete, has_mutation, place_of}
use Rattle.pg_base.specs.TypeRefs.{type_of_kind}
use Rattle.pg_base.specs.ColumnFields.{column_field, column_fields}
use Rattle.pg_base.specs.Connections.{page_fields, connection_fields, edge_fields}
use Rattle.pg_base.specs.RowFields.{forward_field, backward_row, backward_rows, backward_field, forward_fields, backward_fields}
use Rattle.pg_base.specs.MutationInputs.{payload_fields}
use Rattle.pg_base.specs.RootFields.{all_field, key_field, query_fields_of, query_fields, create_field, update_field, delete_field, mutation_fields_of, mutation_fields}
use Rattle.pg_base.specs.SchemaOf.{kind_of_role, type_of_role, schema_of}
use Rattle.schema_laws.proofs.Numbers.{IsNumbered}

-- ---- kinds of the types that fields give

pub kind_found : (c : CatalogParts) (r : Role) → Has r (roles_of c) → kinds_of c (place_of (roles_of c) r) ≡ role_kind r
kind_found c r h = ap kind_in (found (roles_of c) r h)

no_object : (c : CatalogParts) (r : Role) → role_kind r ≡ NoObject → kinds_of c (place_of (roles_of c) r) ≡ NoObject
no_object c r e = elim (at_place (roles_of c) r) [ inl h ↦ ap kind_in h ∙ e | inr h ↦ ap kind_in h ]

built_in : (c : CatalogParts) (n : ℕ) → IsNumbered c → int ≤ n → kinds_of c n ≡ NoObject
built_in c n h le = ap kind_in (slice_get_past (roles_of c) n (omega arith))

column_kind : (c : CatalogParts) (k : Kind) → IsNumbered c → kinds_of c (type_of_kind (roles_of c) k) ≡ NoObject
column_kind c column.Int h = built_in c int h (omega arith)
column_kind c column.BigInt h = no_object c role.BigInt refl
column_kind c column.Text h = built_in c string h (omega arith)
column_kind c (column.Varchar n) h = built_in c string h (omega arith)
column_kind c column.Bool h = built_in c boolean h (omega arith)
column_kind c (column.Enum place) h = no_object c (role.Enum place) refl

-- a field that belongs to the type of a role
abbrev Belongs : CatalogParts → Role → FieldDef → Type 0
Belongs c r f = Leads c f.does (role_kind r) (kinds_of c f.ty.name)

-- ---- pages, connections, edges, payloads

page : (c : CatalogParts) → IsNumbered c → Each (Belongs c role.PageInfo) (page_fields (roles_of c))
page c h = ((refl, built_in c boolean h (omega arith)), ((refl, built_in c boolean h (omega arith)), ((refl, no_object c role.Cursor refl), ((refl, no_object c role.Cursor refl), tt))))

connection_leads : (c : CatalogParts) (table : ℕ) (t : TableDef) → IsNumbered c → slice_get c.tables table ≡ Some t → (s : TableDef) → Each (Belongs c (role.Connection table)) (connection_fields (roles_of c) table s)
connection_leads c table t h e s =
    Each-append (Belongs c (role.Connection table)) (when (is_on listing s.tags) _) _
    (Each-when (Belongs c (role.Connection table)) (is_on listing s.tags) _ (λ on. (table, refl, kind_found c (role.Row table) (has_row c table t e)))) (
      (table, refl, kind_found c (role.Edge table) (has_edge c table t e)),
      ((table, refl, kind_found c role.PageInfo (has_page c)), ((table, refl, built_in c int h (omega arith)), tt)),
    )

edge_leads : (c : CatalogParts) (table : ℕ) (t : TableDef) → slice_get c.tables table ≡ Some t → Each (Belongs c (role.Edge table)) (edge_fields (roles_of c) table)
edge_leads c table t e = ((table, refl, no_object c role.Cursor refl), ((table, refl, kind_found c (role.Row table) (has_row c table t e)), tt))

payload_leads : (c : CatalogParts) (table : ℕ) (t : TableDef) (r : Role) → IsNumbered c → role_kind r ≡ OfPayload table → slice_get c.tables table ≡ Some t → (s : TableDef) → Each (Belongs c r) (payload_fields (roles_of c) table s)
payload_leads c table t r h k e s = ((table, k, built_in c string h (omega arith)), ((table, k, kind_found c (role.Row table) (has_row c table t e)), tt))

-- ---- rows

columns_is : (c : CatalogParts) (table : ℕ) (t : TableDef) → slice_get c.tables table ≡ Some t → columns_of c table ≡ t.columns
columns_is c table t e = ap columns_in e

pub link_is : (c : CatalogParts) (table place : ℕ) (t : TableDef) (l : LinkDef) → slice_get c.tables table ≡ Some t → slice_get t.links place ≡ Some l → link_at c table place ≡ Some l
link_is c table place t l e k = ap (λ o. option_and_then (λ t. slice_get t.links place) o) e ∙ k

key_is : (c : CatalogParts) (table place : ℕ) (t : TableDef) (k : KeyDef) → slice_get c.tables table ≡ Some t → slice_get t.keys place ≡ Some k → key_at c table place ≡ Some k
key_is c table place t k e h = ap (λ o. option_and_then (λ t. slice_get t.keys place) o) e ∙ h

columns_lead : (c : CatalogParts) (table : ℕ) (t : TableDef) → IsNumbered c → slice_get c.tables table ≡ Some t → Each (Belongs c (role.Row table)) (column_fields (roles_of c) table t)
columns_lead c table t h e =
    Each-each_at (Belongs c (role.Row table)) (λ place col. when (is_on selecting col.tags) (column_field (roles_of c) table place col)) t.columns
    (λ place col g. Each-when (Belongs c (role.Row table)) (is_on selecting col.tags) (column_field (roles_of c) table place col)
    (λ on. (refl, subst (λ (cs : List ColumnDef). place < length cs) (sym (columns_is c table t e)) (slice_get_within t.columns place col g), column_kind c col.kind h)))

-- each link's target is a table
abbrev pub HasTarget : CatalogParts → LinkDef → Type 0
HasTarget c l = (target : TableDef) × (slice_get c.tables l.target ≡ Some target)

forward_at : (c : CatalogParts) (table place : ℕ) (t : TableDef) (l : LinkDef) (leads_to : leads.ObjectKind) → slice_get c.tables table ≡ Some t → slice_get t.links place ≡ Some l
    → leads_to ≡ OfRow l.target → IsSomeAnd (link_at c table place) (λ m. leads_to ≡ OfRow m.target)
forward_at c table place t l leads_to e g h = subst (λ (o : Option LinkDef). IsSomeAnd o (λ m. leads_to ≡ OfRow m.target)) (sym (link_is c table place t l e g)) h

forwards_lead : (c : CatalogParts) (table : ℕ) (t : TableDef) → slice_get c.tables table ≡ Some t → Each (HasTarget c) t.links → Each (Belongs c (role.Row table)) (forward_fields c (roles_of c) table t)
forwards_lead c table t e targets =
    Each-each_at (Belongs c (role.Row table)) (λ place l. when (is_on selecting l.tags) (forward_field c (roles_of c) table t place l)) t.links
    (λ place l g. Each-when (Belongs c (role.Row table)) (is_on selecting l.tags) (forward_field c (roles_of c) table t place l)
    (λ on. let target = Each-get (HasTarget c) t.links place l targets g in
    (refl, forward_at c table place t l (kinds_of c (place_of (roles_of c) (role.Row l.target))) e g (kind_found c (role.Row l.target) (has_row c l.target target.0 target.1)))))

backward_at : (c : CatalogParts) (table place target : ℕ) (t : TableDef) (l : LinkDef) (single : Bool) (leads_to : leads.ObjectKind) → slice_get c.tables table ≡ Some t → slice_get t.links place ≡ Some l
    → finds_one (Some t) l ≡ single → l.target ≡ target → leads_to ≡ backward_kind single table
    → IsSomeAnd (link_at c table place) (λ m. (OfRow target ≡ OfRow m.target) × (leads_to ≡ backward_kind (finds_one (slice_get c.tables table) m) table))
backward_at c table place target t l single leads_to e g v to h =
    subst (λ (o : Option LinkDef). IsSomeAnd o (λ m. (OfRow target ≡ OfRow m.target) × (leads_to ≡ backward_kind (finds_one (slice_get c.tables table) m) table))) (sym (link_is c table place t l e g))
    (ap OfRow (sym to), h ∙ sym (ap (λ b. backward_kind b table) (ap (λ o. finds_one o l) e ∙ v)))

one_or_many : (c : CatalogParts) (table place target : ℕ) (t : TableDef) (l : LinkDef) (single : Bool) → slice_get c.tables table ≡ Some t → slice_get t.links place ≡ Some l
    → finds_one (Some t) l ≡ single → l.target ≡ target
    → Belongs c (role.Row target) (if single then backward_row (roles_of c) table t place l else backward_rows (roles_of c) table t place l)
one_or_many c table place target t l true e g v to =
    backward_at c table place target t l true (kinds_of c (place_of (roles_of c) (role.Row table))) e g v to (kind_found c (role.Row table) (has_row c table t e))
one_or_many c table place target t l false e g v to =
    backward_at c table place target t l false (kinds_of c (place_of (roles_of c) (role.Connection table))) e g v to (kind_found c (role.Connection table) (has_connection c table t e))

both_true : (a b : Bool) → (a && b) ≡ true → a ≡ true
both_true true b h = refl
both_true false b h = h

backwards_lead : (c : CatalogParts) (target : ℕ) → Each (Belongs c (role.Row target)) (backward_fields c (roles_of c) target)
backwards_lead c target =
    Each-each_at (Belongs c (role.Row target)) (λ table t. each_at (λ place l. when (l.target == target && is_on connecting l.tags) (backward_field (roles_of c) table t place l)) 0 t.links) c.tables
    (λ table t e. Each-each_at (Belongs c (role.Row target)) (λ place l. when (l.target == target && is_on connecting l.tags) (backward_field (roles_of c) table t place l)) t.links
    (λ place l g. Each-when (Belongs c (role.Row target)) (l.target == target && is_on connecting l.tags) (backward_field (roles_of c) table t place l)
    (λ on. one_or_many c table place target t l (finds_one (Some t) l) e g refl ((Decides-eqb l.target target).0 (both_true (l.target == target) (is_on connecting l.tags) on)))))

-- ---- Query and Mutation

key_leads : (c : CatalogParts) (table key : ℕ) (t : TableDef) (k : KeyDef) → slice_get c.tables table ≡ Some t → slice_get t.keys key ≡ Some k → Belongs c role.Query (key_field (roles_of c) table t key k)
key_leads c table key t k e g =
    (refl, subst (λ (o : Option KeyDef). IsSomeAnd o (λ m. kinds_of c (place_of (roles_of c) (role.Row table)) ≡ OfRow table)) (sym (key_is c table key t k e g)) (kind_found c (role.Row table) (has_row c table t e)))

pub each_key_leads : {A : Type 0} (P : A → Type 0) (t : TableDef) (f : ℕ → KeyDef → List A) → ((place : ℕ) (k : KeyDef) → slice_get t.keys place ≡ Some k → Each P (f place k)) → Each P (each_key f t)
each_key_leads P t f h =
    Each-each_at P (λ place k. all_when (is_new_key t.keys place k) (f place k)) t.keys (λ place k g. Each-all_when P (is_new_key t.keys place k) (f place k) (λ new. h place k g))

query_leads : (c : CatalogParts) → Each (Belongs c role.Query) (query_fields c (roles_of c))
query_leads c =
    Each-each_at (Belongs c role.Query) (query_fields_of (roles_of c)) c.tables
    (λ table t e. Each-append (Belongs c role.Query) (when (is_on connecting t.tags) (all_field (roles_of c) table t)) (all_when (is_on selecting t.tags) (each_key (λ key k. key_field (roles_of c) table t key k ∷ []) t))
    (Each-when (Belongs c role.Query) (is_on connecting t.tags) (all_field (roles_of c) table t) (λ on. (refl, slice_get_within c.tables table t e, kind_found c (role.Connection table) (has_connection c table t e))))
    (Each-all_when (Belongs c role.Query) (is_on selecting t.tags) (each_key (λ key k. key_field (roles_of c) table t key k ∷ []) t)
    (λ on. each_key_leads (Belongs c role.Query) t (λ key k. key_field (roles_of c) table t key k ∷ []) (λ key k g. (key_leads c table key t k e g, tt)))))

mutation_leads : (c : CatalogParts) → Each (Belongs c role.Mutation) (mutation_fields c (roles_of c))
mutation_leads c =
    Each-each_at (Belongs c role.Mutation) (mutation_fields_of (roles_of c)) c.tables
    (λ table t e.
    let P = Belongs c role.Mutation in
    let creates = when (has_create t) (create_field (roles_of c) table t) in
    let updates = all_when (has_update t) (each_key (λ key k. update_field (roles_of c) table t key k ∷ []) t) in
    let deletes = all_when (has_delete t) (each_key (λ key k. delete_field (roles_of c) table t key k ∷ []) t) in
    Each-append P (creates ++ updates) deletes
    (Each-append P creates updates
    (Each-when P (has_create t) (create_field (roles_of c) table t) (λ on. (refl, kind_found c (role.CreatePayload table) (has_create_payload c table t e on))))
    (Each-all_when P (has_update t) (each_key (λ key k. update_field (roles_of c) table t key k ∷ []) t)
    (λ on. each_key_leads P t (λ key k. update_field (roles_of c) table t key k ∷ []) (λ key k g. ((refl, kind_found c (role.UpdatePayload table) (has_update_payload c table t e on)), tt)))))
    (Each-all_when P (has_delete t) (each_key (λ key k. delete_field (roles_of c) table t key k ∷ []) t)
    (λ on. each_key_leads P t (λ key k. delete_field (roles_of c) table t key k ∷ []) (λ key k g. ((refl, kind_found c (role.DeletePayload table) (has_delete_payload c table t e on)), tt)))))

-- ---- all types

pub roles_is : (c : CatalogParts) → role.BigInt ∷ role.Cursor ∷ role.PageInfo ∷ (each_at enum_roles 0 c.enums ++ each_at table_roles 0 c.tables ++ role.Query ∷ (when (has_mutation c) role.Mutation ++ each_at change_roles 0 c.tables)) ≡ roles_of c
unfolding roles_of
roles_is c = refl

-- the fields of a role's type belong there
abbrev Fields : CatalogParts → Role → Type 0
Fields c r = Each (Belongs c r) (fields_of (kind_of_role c (roles_of c) r))

abbrev pub HasTargets : CatalogParts → TableDef → Type 0
HasTargets c t = Each (HasTarget c) t.links

table_is : (c : CatalogParts) (table : ℕ) (t : TableDef) → slice_get c.tables table ≡ Some t → table_at c table ≡ t
table_is c table t e = ap (λ (o : Option TableDef). unwrap_or o no_table) e

row_leads : (c : CatalogParts) (table : ℕ) (t : TableDef) → IsNumbered c → slice_get c.tables table ≡ Some t → HasTargets c t → Fields c (role.Row table)
row_leads c table t h e targets =
    let P = Belongs c (role.Row table) in
    let is = sym (table_is c table t e) in
    let columns = subst (λ (s : TableDef). Each P (column_fields (roles_of c) table s)) is (columns_lead c table t h e) in
    let forwards = subst (λ (s : TableDef). Each P (forward_fields c (roles_of c) table s)) is (forwards_lead c table t e targets) in
    Each-append P (column_fields (roles_of c) table (table_at c table) ++ forward_fields c (roles_of c) table (table_at c table)) (backward_fields c (roles_of c) table)
    (Each-append P (column_fields (roles_of c) table (table_at c table)) (forward_fields c (roles_of c) table (table_at c table)) columns forwards)
    (backwards_lead c table)

table_types : (c : CatalogParts) (table : ℕ) (t : TableDef) → IsNumbered c → slice_get c.tables table ≡ Some t → HasTargets c t → Each (Fields c) (table_roles table t)
table_types c table t h e targets =
    let condition = when (has_condition t) (role.Condition table) in
    let input = when (has_create t) (role.Input table) in
    let patch = when (has_update t) (role.Patch table) in (
      row_leads c table t h e targets,
      (
        connection_leads c table t h e (table_at c table),
        (
          edge_leads c table t e,
          (
            tt,
            Each-append (Fields c) (condition ++ input) patch
                (Each-append (Fields c) condition input (Each-when (Fields c) (has_condition t) (role.Condition table) (λ on. tt)) (Each-when (Fields c) (has_create t) (role.Input table) (λ on. tt)))
                (Each-when (Fields c) (has_update t) (role.Patch table) (λ on. tt)),
          ),
        ),
      ),
    )

change_types : (c : CatalogParts) (table : ℕ) (t : TableDef) → IsNumbered c → slice_get c.tables table ≡ Some t → Each (Fields c) (change_roles table t)
change_types c table t h e =
    let a = all_when (has_create t) (create_roles table t) in
    let b = all_when (has_update t) (update_roles table t) in
    let d = all_when (has_delete t) (delete_roles table t) in
    let s = table_at c table in
    Each-append (Fields c) (a ++ b) d
    (Each-append (Fields c) a b
    (Each-all_when (Fields c) (has_create t) (create_roles table t) (λ on. (tt, (payload_leads c table t (role.CreatePayload table) h refl e s, tt))))
    (Each-all_when (Fields c) (has_update t) (update_roles table t)
    (λ on. Each-append (Fields c) (each_key (λ key k. role.UpdateInput table key ∷ []) t) (role.UpdatePayload table ∷ [])
    (each_key_leads (Fields c) t (λ key k. role.UpdateInput table key ∷ []) (λ key k g. (tt, tt)))
    (payload_leads c table t (role.UpdatePayload table) h refl e s, tt))))
    (Each-all_when (Fields c) (has_delete t) (delete_roles table t)
    (λ on. Each-append (Fields c) (each_key (λ key k. role.DeleteInput table key ∷ []) t) (role.DeletePayload table ∷ [])
    (each_key_leads (Fields c) t (λ key k. role.DeleteInput table key ∷ []) (λ key k g. (tt, tt)))
    (payload_leads c table t (role.DeletePayload table) h refl e s, tt)))

all_types : (c : CatalogParts) → IsNumbered c → Each (HasTargets c) c.tables → Each (Fields c) (roles_of c)
all_types c h targets =
    let enums = each_at enum_roles 0 c.enums in
    let tables = each_at table_roles 0 c.tables in
    let mutation = when (has_mutation c) role.Mutation in
    let changes = each_at change_roles 0 c.tables in
    let own : Each (Fields c) enums = Each-each_at (Fields c) enum_roles c.enums (λ k x g. (tt, tt)) in
    let rows : Each (Fields c) tables = Each-each_at (Fields c) table_roles c.tables (λ table t e. table_types c table t h e (Each-get (HasTargets c) c.tables table t targets e)) in
    let written : Each (Fields c) changes = Each-each_at (Fields c) change_roles c.tables (λ table t e. change_types c table t h e) in
    let root : Each (Fields c) mutation = Each-when (Fields c) (has_mutation c) role.Mutation (λ on. mutation_leads c) in
    opened c (tt, (tt, (page c h, Each-append (Fields c) (enums ++ tables) (role.Query ∷ (mutation ++ changes)) (Each-append (Fields c) enums tables own rows) (query_leads c, Each-append (Fields c) mutation changes root written))))
  where
    opened : (c : CatalogParts) → Each (Fields c) (role.BigInt ∷ role.Cursor ∷ role.PageInfo ∷ (each_at enum_roles 0 c.enums ++ each_at table_roles 0 c.tables ++ role.Query ∷ (when (has_mutation c) role.Mutation ++ each_at change_roles 0 c.tables))) → Each (Fields c) (roles_of c)
    opened c h = subst (λ roles. Each (Fields c) roles) (roles_is c) h

-- ---- the schema

nothing_at : (k : ℕ) (f : FieldDef) (A : Type 0) → slice_get [] k ≡ Some f → A
nothing_at zero f A e = cc
nothing_at (suc k) f A e = cc

leads_at : (c : CatalogParts) → IsNumbered c → Each (HasTargets c) c.tables → (ty place : ℕ) (f : FieldDef) (o : Option Role) → slice_get (roles_of c) ty ≡ o
    → slice_get (fields_of (kind_of (option_map (type_of_role c (roles_of c)) o))) place ≡ Some f → Leads c f.does (kind_in o) (kinds_of c f.ty.name)
leads_at c h targets ty place f None e g = nothing_at place f (Leads c f.does NoObject (kinds_of c f.ty.name)) g
leads_at c h targets ty place f (Some r) e g =
    Each-get (Belongs c r) (fields_of (kind_of_role c (roles_of c) r)) place f (Each-get (Fields c) (roles_of c) ty r (all_types c h targets) e) g

some_and : (o : Option TableDef) (P : TableDef → Type 0) → IsSomeAnd o P → (t : TableDef) × (o ≡ Some t)
some_and None P h = absurd h
some_and (Some t) P h = (t, refl)

targets_of : (c : CatalogParts) (own : List ColumnDef) (links : List LinkDef) → Each (IsValidLink c own) links → Each (HasTarget c) links
targets_of c own [] h = tt
targets_of c own (l ∷ links) h = (some_and (slice_get c.tables l.target) _ h.0.target, targets_of c own links h.1)

pub all_targets : (c : CatalogParts) (tables : List TableDef) → Each (IsValidTable c) tables → Each (HasTargets c) tables
all_targets c [] h = tt
all_targets c (t ∷ tables) h = (targets_of c t.columns t.links h.0.links, all_targets c tables h.1)

pub are_kinds : (c : CatalogParts) → IsValidCatalog c → IsNumbered c → AreKinds (base_of c) (kinds_of c)
unfolding schema_of
are_kinds c valid h = record {
  query = kind_found c role.Query (has_query c);
  fields = λ ty place f e.
      let at : slice_get (fields_of (kind_of (option_map (type_of_role c (roles_of c)) (slice_get (roles_of c) ty)))) place ≡ Some f =
      subst (λ (o : Option TypeDef). slice_get (fields_of (kind_of o)) place ≡ Some f) (slice_get-map (type_of_role c (roles_of c)) (roles_of c) ty) e in
      leads_at c h (all_targets c c.tables valid.tables) ty place f (slice_get (roles_of c) ty) refl at;
}

with_mutation : (c : CatalogParts) (on : Bool) → has_mutation c ≡ on → IfSome (if on then Some (place_of (roles_of c) role.Mutation) else None) (λ ty. kinds_of c ty ≡ OfMutation)
with_mutation c true e = kind_found c role.Mutation (has_mutation_type c e)
with_mutation c false e = tt

pub mutation_kind : (c : CatalogParts) → IfSome (schema_of c).mutation (λ ty. kinds_of c ty ≡ OfMutation)
unfolding schema_of
mutation_kind c = with_mutation c (has_mutation c) refl
