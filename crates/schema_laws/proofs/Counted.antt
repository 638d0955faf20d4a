-- Fields, arguments and cases can be numbered with 32 bits.
use Rattle.std.proofs.Common.{◌≡◌, ℕ, ◌+◌, ◌*◌, ◌≤◌, Bool, true, false, ◌&&◌, List, [], ◌∷◌, ◌++◌, map, filter, flat_map, length, Option, Some, None, refl, arith, length-append}
use Rattle.std.proofs.lemmas.List.{length-map}
use Rattle.std.specs.Prelude.{slice_get, unwrap_or, ◌==◌, if◌then◌else◌, codes}
use Rattle.pg_base.specs.Lists.{Each}
use Rattle.pg_base.specs.Catalog.{CatalogParts, IsValidCatalog, IsValidEnum, IsValidTable, IsValidKey}
use Rattle.pg_base.specs.Schema.{AreFew, fields_of, inputs_of, cases_of}
use Rattle.pg_base.specs.declared.enum_def.EnumDef.{EnumDef}
use Rattle.pg_base.specs.declared.table_def.ColumnDef.{ColumnDef}
use Rattle.pg_base.specs.declared.table_def.KeyDef.{KeyDef}
use Rattle.pg_base.specs.declared.table_def.LinkDef.{LinkDef}
use Rattle.pg_base.specs.declared.table_def.TableDef.{TableDef}
use Rattle.pg_base.specs.declared.schema.ArgDef.{ArgDef}
use Rattle.pg_base.specs.declared.schema.FieldDef.{FieldDef}
use Rattle.pg_base.specs.declared.schema.TypeKind.{TypeKind}
use Rattle.pg_base.specs.declared.role.Role.{Role}
use Rattle.pg_base.specs.declared.role.Role.TheVariants as role
use Rattle.pg_base.specs.EnumCases.{case_of_label}
use Rattle.pg_base.specs.Listing.{when, all_when, each_at}
use Rattle.pg_base.specs.Naming.{row_field_name}
use Rattle.pg_base.specs.Lookups.{no_enum, enum_at, no_table, table_at, no_key, key_in, column_at, finds_one}
use Rattle.pg_base.specs.Behaviors.{is_on, columns_on, listing, selecting, connecting, ordering, filtering, inserting, updating}
use Rattle.pg_base.specs.Roles.{is_new_key, each_key, has_create, has_update, has_delete, has_condition, place_of}
use Rattle.pg_base.specs.TypeRefs.{one, argument}
use Rattle.pg_base.specs.ColumnFields.{column_field, column_fields, must_be_given, input_field, key_arguments, column_cases, order_columns, order_cases}
use Rattle.pg_base.specs.Connections.{connection_fields, connection_arguments}
use Rattle.pg_base.specs.RowFields.{forward_field, forward_fields, backward_row, backward_rows, backward_field, backward_fields_from, backward_fields, row_fields}
use Rattle.pg_base.specs.MutationInputs.{update_input_fields}
use Rattle.pg_base.specs.RootFields.{all_field, key_field, query_fields_of, query_fields, create_field, update_field, delete_field, mutation_fields_of, mutation_fields}
use Rattle.pg_base.specs.SchemaOf.{kind_of_role}
use Rattle.schema_laws.proofs.Eaches.{Each-append, Each-when, Each-all_when, Each-get, Each-each_at}
use Rattle.schema_laws.proofs.Numbers.{when_length, all_when_length, each_at_length}

-- ---- what is known of each table and enum, also of the empty ones that stand for those that aren't there

record IsSmall (t : TableDef) : Type 0 where
  columns : length t.columns ≤ 100
  keys : length t.keys ≤ 64
  links : length t.links ≤ 64
  key_columns : Each (λ k. length k.columns ≤ 8) t.keys

small_keys : (own : List ColumnDef) (keys : List KeyDef) → Each (IsValidKey own) keys → Each (λ k. length k.columns ≤ 8) keys
small_keys own [] h = tt
small_keys own (k ∷ keys) h = let le = h.0.columns.limit in (omega (arith, le), small_keys own keys h.1)

small : (c : CatalogParts) (t : TableDef) → IsValidTable c t → IsSmall t
small c t v =
    let few = v.column_limit in
    let sum = v.constraint_limit in
    record { columns = omega (arith, few); keys = omega (arith, sum); links = omega (arith, sum); key_columns = small_keys t.columns t.keys v.keys }

all_small : (c : CatalogParts) (tables : List TableDef) → Each (IsValidTable c) tables → Each IsSmall tables
all_small c [] h = tt
all_small c (t ∷ tables) h = (small c t h.0, all_small c tables h.1)

small_or : (tables : List TableDef) (place : ℕ) (o : Option TableDef) → slice_get tables place ≡ o → Each IsSmall tables → IsSmall (unwrap_or o no_table)
small_or tables place None e h = record { columns = omega arith; keys = omega arith; links = omega arith; key_columns = tt }
small_or tables place (Some t) e h = Each-get IsSmall tables place t h e

-- what is known of a catalog
pub record AreSmall (c : CatalogParts) : Type 0 where
  tables : Each IsSmall c.tables
  few_tables : length c.tables ≤ 200
  enums : Each (λ e. length e.cases ≤ 200) c.enums

small_enums : (enums : List EnumDef) → Each IsValidEnum enums → Each (λ e. length e.cases ≤ 200) enums
small_enums [] h = tt
small_enums (e ∷ enums) h = let le = h.0.limit in (omega (arith, le), small_enums enums h.1)

pub are_small : (c : CatalogParts) → IsValidCatalog c → AreSmall c
are_small c valid = let few = valid.table_limit in record { tables = all_small c c.tables valid.tables; few_tables = omega (arith, few); enums = small_enums c.enums valid.enums }

small_at : (c : CatalogParts) → AreSmall c → (place : ℕ) → IsSmall (table_at c place)
small_at c h place = small_or c.tables place (slice_get c.tables place) refl h.tables

cases_or : (enums : List EnumDef) (place : ℕ) (o : Option EnumDef) → slice_get enums place ≡ o → Each (λ e. length e.cases ≤ 200) enums → length (unwrap_or o no_enum).cases ≤ 200
cases_or enums place None e h = omega arith
cases_or enums place (Some x) e h = Each-get (λ e. length e.cases ≤ 200) enums place x h e

key_or : (keys : List KeyDef) (place : ℕ) (o : Option KeyDef) → slice_get keys place ≡ o → Each (λ k. length k.columns ≤ 8) keys → length (unwrap_or o no_key).columns ≤ 8
key_or keys place None e h = omega arith
key_or keys place (Some k) e h = Each-get (λ k. length k.columns ≤ 8) keys place k h e

-- ---- lengths of lists that are made from others

kept_length : {A : Type 0} (test : Bool) (x : A) (xs : List A) (n : ℕ) → length xs ≤ n → length (if test then x ∷ xs else xs) ≤ n + 1
kept_length true x xs n h = omega (arith, h)
kept_length false x xs n h = omega (arith, h)

filter_length : {A : Type 0} (test : A → Bool) (xs : List A) → length (filter test xs) ≤ length xs
filter_length test [] = omega arith
filter_length test (x ∷ xs) = let h = kept_length (test x) x (filter test xs) (length xs) (filter_length test xs) in omega (arith, h)

made_length : (f : ColumnDef → ArgDef) (behavior : ℕ) (t : TableDef) → length (map f (columns_on behavior t)) ≤ length t.columns
made_length f behavior t =
    let a = length-map (columns_on behavior t) f in
    let b = filter_length (λ c. is_on behavior c.tags) t.columns in
    omega (arith, a, b)

cases_length : (columns : List ColumnDef) → length (flat_map column_cases columns) ≤ 2 * length columns
cases_length [] = omega arith
cases_length (c ∷ columns) = let h = cases_length columns in omega (arith, h)

-- ---- fields and their arguments

abbrev FewArgs : FieldDef → Type 0
FewArgs f = AreFew f.args

connection_few : (types : List Role) (table : ℕ) (t : TableDef) → AreFew (connection_arguments types table t)
connection_few types table t =
    let last = argument (codes "condition") (one (place_of types (role.Condition table)) false) in
    let h = when_length (has_condition t) last in
    omega (arith, h)

key_few : (types : List Role) (t : TableDef) (k : KeyDef) → length k.columns ≤ 8 → length (key_arguments types t k) ≤ 8
key_few types t k h = let e = length-map k.columns (λ place. input_field types true (column_at t place)) in omega (arith, e, h)

-- so many fields at most, each with few arguments
record IsCounted (most : ℕ) (fields : List FieldDef) : Type 0 where
  few : length fields ≤ most
  args : Each FewArgs fields

counted_append : (m n : ℕ) (xs ys : List FieldDef) → IsCounted m xs → IsCounted n ys → IsCounted (m + n) (xs ++ ys)
counted_append m n xs ys h k =
    let a = h.few in
    let b = k.few in
    let e = length-append xs ys in
    record { few = omega (arith, a, b, e); args = Each-append FewArgs xs ys h.args k.args }

counted_when : (test : Bool) (f : FieldDef) → FewArgs f → IsCounted 1 (when test f)
counted_when test f h = record { few = when_length test f; args = Each-when FewArgs test f (λ on. h) }

counted_all_when : (test : Bool) (most : ℕ) (fields : List FieldDef) → IsCounted most fields → IsCounted most (all_when test fields)
counted_all_when test most fields h = record { few = all_when_length test fields most h.few; args = Each-all_when FewArgs test fields (λ on. h.args) }

counted_at : {A : Type 0} (f : ℕ → A → List FieldDef) (most n : ℕ) (xs : List A) → ((place : ℕ) (x : A) (k : ℕ) → slice_get xs k ≡ Some x → IsCounted most (f place x)) → most * length xs ≤ n → IsCounted n (each_at f 0 xs)
counted_at f most n xs h le =
    let e = each_at_length f most 0 xs (λ place k x g. (h place x k g).few) in
    record { few = omega (arith, e, le); args = Each-each_at FewArgs f xs (λ k x g. (h k x k g).args) }

counted_keys : (f : ℕ → KeyDef → FieldDef) (t : TableDef) → IsSmall t → ((place : ℕ) (k : KeyDef) → length k.columns ≤ 8 → FewArgs (f place k)) → IsCounted 64 (each_key (λ key k. f key k ∷ []) t)
counted_keys f t s h =
    let le = s.keys in
    counted_at (λ place k. all_when (is_new_key t.keys place k) (f place k ∷ [])) 1 64 t.keys
    (λ place k n g. counted_all_when (is_new_key t.keys place k) 1 (f place k ∷ []) (record { few = omega arith; args = (h place k (Each-get (λ k. length k.columns ≤ 8) t.keys n k s.key_columns g), tt) }))
    (omega (arith, le))

-- ---- rows

columns_counted : (types : List Role) (table : ℕ) (t : TableDef) → IsSmall t → IsCounted 100 (column_fields types table t)
columns_counted types table t s =
    let le = s.columns in
    counted_at (λ place c. when (is_on selecting c.tags) (column_field types table place c)) 1 100 t.columns
    (λ place c n g. counted_when (is_on selecting c.tags) (column_field types table place c) (omega arith)) (omega (arith, le))

forwards_counted : (c : CatalogParts) (types : List Role) (table : ℕ) (t : TableDef) → IsSmall t → IsCounted 64 (forward_fields c types table t)
forwards_counted c types table t s =
    let le = s.links in
    counted_at (λ place l. when (is_on selecting l.tags) (forward_field c types table t place l)) 1 64 t.links
    (λ place l n g. counted_when (is_on selecting l.tags) (forward_field c types table t place l) (omega arith)) (omega (arith, le))

one_or_many : (types : List Role) (table place : ℕ) (t : TableDef) (l : LinkDef) (single : Bool) → FewArgs (if single then backward_row types table t place l else backward_rows types table t place l)
one_or_many types table place t l true = omega arith
one_or_many types table place t l false = connection_few types table t

backwards_counted : (types : List Role) (target table : ℕ) (t : TableDef) → IsSmall t → IsCounted 64 (backward_fields_from types target table t)
backwards_counted types target table t s =
    let le = s.links in
    counted_at (λ place l. when (l.target == target && is_on connecting l.tags) (backward_field types table t place l)) 1 64 t.links
    (λ place l n g. counted_when (l.target == target && is_on connecting l.tags) (backward_field types table t place l) (one_or_many types table place t l (finds_one (Some t) l))) (omega (arith, le))

all_backwards_counted : (c : CatalogParts) (types : List Role) (target : ℕ) → AreSmall c → IsCounted 12800 (backward_fields c types target)
all_backwards_counted c types target h =
    let le = h.few_tables in
    counted_at (backward_fields_from types target) 64 12800 c.tables (λ place t n g. backwards_counted types target place t (Each-get IsSmall c.tables n t h.tables g)) (omega (arith, le))

rows_counted : (c : CatalogParts) (types : List Role) (table : ℕ) → AreSmall c → IsCounted 12964 (row_fields c types table)
rows_counted c types table h =
    let t = table_at c table in
    counted_append 164 12800 (column_fields types table t ++ forward_fields c types table t) (backward_fields c types table)
    (counted_append 100 64 (column_fields types table t) (forward_fields c types table t) (columns_counted types table t (small_at c h table)) (forwards_counted c types table t (small_at c h table)))
    (all_backwards_counted c types table h)

-- ---- connections, pages, edges and payloads

connection_counted : (types : List Role) (table : ℕ) (t : TableDef) → IsCounted 4 (connection_fields types table t)
connection_counted types table t =
    counted_append 1 3 (when (is_on listing t.tags) _) _ (counted_when (is_on listing t.tags) _ (omega arith))
    (record { few = omega arith; args = (omega arith, (omega arith, (omega arith, tt))) })

-- ---- roots

query_counted : (types : List Role) (table : ℕ) (t : TableDef) → IsSmall t → IsCounted 65 (query_fields_of types table t)
query_counted types table t s =
    let keys = each_key (λ key k. key_field types table t key k ∷ []) t in
    counted_append 1 64 (when (is_on connecting t.tags) (all_field types table t)) (all_when (is_on selecting t.tags) keys)
    (counted_when (is_on connecting t.tags) (all_field types table t) (connection_few types table t))
    (counted_all_when (is_on selecting t.tags) 64 keys
    (counted_keys (λ key k. key_field types table t key k) t s (λ key k h. let le = key_few types t k h in omega (arith, le))))

queries_counted : (c : CatalogParts) (types : List Role) → AreSmall c → IsCounted 13000 (query_fields c types)
queries_counted c types h =
    let le = h.few_tables in
    counted_at (query_fields_of types) 65 13000 c.tables (λ place t n g. query_counted types place t (Each-get IsSmall c.tables n t h.tables g)) (omega (arith, le))

mutation_counted : (types : List Role) (table : ℕ) (t : TableDef) → IsSmall t → IsCounted 129 (mutation_fields_of types table t)
mutation_counted types table t s =
    let creates = when (has_create t) (create_field types table t) in
    let updates = each_key (λ key k. update_field types table t key k ∷ []) t in
    let deletes = each_key (λ key k. delete_field types table t key k ∷ []) t in
    counted_append 65 64 (creates ++ all_when (has_update t) updates) (all_when (has_delete t) deletes)
    (counted_append 1 64 creates (all_when (has_update t) updates) (counted_when (has_create t) (create_field types table t) (omega arith))
    (counted_all_when (has_update t) 64 updates (counted_keys (λ key k. update_field types table t key k) t s (λ key k h. omega arith))))
    (counted_all_when (has_delete t) 64 deletes (counted_keys (λ key k. delete_field types table t key k) t s (λ key k h. omega arith)))

mutations_counted : (c : CatalogParts) (types : List Role) → AreSmall c → IsCounted 25800 (mutation_fields c types)
mutations_counted c types h =
    let le = h.few_tables in
    counted_at (mutation_fields_of types) 129 25800 c.tables (λ place t n g. mutation_counted types place t (Each-get IsSmall c.tables n t h.tables g)) (omega (arith, le))

-- ---- each type

pub record HasFew (k : TypeKind) : Type 0 where
  pub fields : AreFew (fields_of k)
  pub args : Each (λ f. AreFew f.args) (fields_of k)
  pub inputs : AreFew (inputs_of k)
  pub cases : AreFew (cases_of k)

of_fields : (most : ℕ) (k : TypeKind) → most ≤ 4294967295 → IsCounted most (fields_of k) → AreFew (inputs_of k) → AreFew (cases_of k) → HasFew k
of_fields most k le h inputs cases = let few = h.few in record { fields = omega (arith, few, le); args = h.args; inputs = inputs; cases = cases }

input_few : (f : ColumnDef → ArgDef) (behavior : ℕ) (t : TableDef) → IsSmall t → AreFew (map f (columns_on behavior t))
input_few f behavior t s =
    let a = made_length f behavior t in
    let b = s.columns in
    omega (arith, a, b)

keys_few : (c : CatalogParts) (types : List Role) (table key : ℕ) → AreSmall c → length (key_arguments types (table_at c table) (key_in (table_at c table) key)) ≤ 8
keys_few c types table key h =
    let t = table_at c table in
    key_few types t (key_in t key) (key_or t.keys key (slice_get t.keys key) refl (small_at c h table).key_columns)

order_few : (t : TableDef) → IsSmall t → AreFew (order_cases t)
order_few t s =
    let a = cases_length (order_columns t) in
    let b = filter_length (λ c. is_on ordering t.tags && is_on ordering c.tags) t.columns in
    let le = s.columns in
    omega (arith, a, b, le)

enum_few : (c : CatalogParts) (place : ℕ) → AreSmall c → AreFew (map case_of_label (enum_at c place).cases)
enum_few c place h =
    let a = cases_or c.enums place (slice_get c.enums place) refl h.enums in
    let b = length-map (enum_at c place).cases case_of_label in
    omega (arith, a, b)

pub has_few : (c : CatalogParts) → AreSmall c → (types : List Role) (r : Role) → HasFew (kind_of_role c types r)
has_few c h types role.BigInt = record { fields = omega arith; args = tt; inputs = omega arith; cases = omega arith }
has_few c h types role.Cursor = record { fields = omega arith; args = tt; inputs = omega arith; cases = omega arith }
has_few c h types role.PageInfo = record { fields = omega arith; args = (omega arith, (omega arith, (omega arith, (omega arith, tt)))); inputs = omega arith; cases = omega arith }
has_few c h types (role.Enum place) = record { fields = omega arith; args = tt; inputs = omega arith; cases = enum_few c place h }
has_few c h types (role.Row table) = of_fields 12964 (kind_of_role c types (role.Row table)) (omega arith) (rows_counted c types table h) (omega arith) (omega arith)
has_few c h types (role.Connection table) = of_fields 4 (kind_of_role c types (role.Connection table)) (omega arith) (connection_counted types table (table_at c table)) (omega arith) (omega arith)
has_few c h types (role.Edge table) = record { fields = omega arith; args = (omega arith, (omega arith, tt)); inputs = omega arith; cases = omega arith }
has_few c h types (role.Order table) = record { fields = omega arith; args = tt; inputs = omega arith; cases = order_few (table_at c table) (small_at c h table) }
has_few c h types (role.Condition table) = record { fields = omega arith; args = tt; inputs = input_few (input_field types false) filtering (table_at c table) (small_at c h table); cases = omega arith }
has_few c h types (role.Input table) = record { fields = omega arith; args = tt; inputs = input_few (λ d. input_field types (must_be_given d) d) inserting (table_at c table) (small_at c h table); cases = omega arith }
has_few c h types (role.Patch table) = record { fields = omega arith; args = tt; inputs = input_few (input_field types false) updating (table_at c table) (small_at c h table); cases = omega arith }
has_few c h types role.Query = of_fields 13000 (kind_of_role c types role.Query) (omega arith) (queries_counted c types h) (omega arith) (omega arith)
has_few c h types role.Mutation = of_fields 25800 (kind_of_role c types role.Mutation) (omega arith) (mutations_counted c types h) (omega arith) (omega arith)
has_few c h types (role.CreateInput table) = record { fields = omega arith; args = tt; inputs = omega arith; cases = omega arith }
has_few c h types (role.CreatePayload table) = record { fields = omega arith; args = (omega arith, (omega arith, tt)); inputs = omega arith; cases = omega arith }
has_few c h types (role.UpdateInput table key) = record { fields = omega arith; args = tt; inputs = update_few c types table key h; cases = omega arith }
  where
    update_few : (c : CatalogParts) (types : List Role) (table key : ℕ) → AreSmall c → AreFew (update_input_fields types table (table_at c table) (key_in (table_at c table) key))
    update_few c types table key h =
        let t = table_at c table in
        let le = keys_few c types table key h in
        let last = argument (row_field_name t ++ codes "Patch") (one (place_of types (role.Patch table)) true) in
        let e = length-append (key_arguments types t (key_in t key)) (last ∷ []) in
        omega (arith, le, e)
has_few c h types (role.UpdatePayload table) = record { fields = omega arith; args = (omega arith, (omega arith, tt)); inputs = omega arith; cases = omega arith }
has_few c h types (role.DeleteInput table key) = record { fields = omega arith; args = tt; inputs = (let le = keys_few c types table key h in omega (arith, le)); cases = omega arith }
has_few c h types (role.DeletePayload table) = record { fields = omega arith; args = (omega arith, (omega arith, tt)); inputs = omega arith; cases = omega arith }
