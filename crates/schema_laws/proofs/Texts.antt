-- What is named and said in the schema of a valid catalog is text.
use Rattle.std.proofs.Common.{◌≡◌, ℕ, Bool, true, false, ◌&&◌, List, [], ◌∷◌, ◌++◌, map, flat_map, Option, Some, None, refl, sym, subst}
use Rattle.std.specs.Prelude.{slice_get, unwrap_or, IfSome, if◌then◌else◌, ◌==◌, codes}
use Rattle.std.specs.Str.{IsUtf8}
use Rattle.std.proofs.lemmas.Str.{IsUtf8-nil, IsUtf8-append}
use Rattle.name_rules.proofs.Joined.{IsUtf8-type_name_of, IsUtf8-field_name_of}
use Rattle.name_rules.proofs.Endings.{IsUtf8-singular_of, IsUtf8-plural_of}
use Rattle.name_rules.proofs.Cases.{IsUtf8-enum_case_of}
use Rattle.pg_base.specs.Lists.{Each}
use Rattle.pg_base.specs.Catalog.{CatalogParts, AreTexts, IsValidEnum, IsValidColumn, IsValidKey, IsValidLink, IsValidTable, IsValidCatalog}
use Rattle.pg_base.specs.declared.enum_def.EnumDef.{EnumDef}
use Rattle.pg_base.specs.declared.table_def.ColumnDef.{ColumnDef}
use Rattle.pg_base.specs.declared.table_def.KeyDef.{KeyDef}
use Rattle.pg_base.specs.declared.table_def.LinkDef.{LinkDef}
use Rattle.pg_base.specs.declared.table_def.TableDef.{TableDef}
use Rattle.pg_base.specs.declared.schema.ArgDef.{ArgDef}
use Rattle.pg_base.specs.declared.schema.FieldDef.{FieldDef}
use Rattle.pg_base.specs.declared.role.Role.{Role}
use Rattle.pg_base.specs.declared.role.Role.TheVariants as role
use Rattle.pg_base.specs.EnumCases.{case_of_label}
use Rattle.pg_base.specs.Listing.{when, all_when}
use Rattle.pg_base.specs.Lookups.{no_enum, enum_at, no_table, table_at, no_column, column_at, key_in, finds_one}
use Rattle.pg_base.specs.Behaviors.{is_on, columns_on, listing, selecting, connecting, ordering, filtering, inserting, updating}
use Rattle.pg_base.specs.Naming.{called, column_called, column_type_name, joined_by_and, by_columns, singular_name, plural_name, row_type_name, rows_type_name, row_field_name, rows_field_name}
use Rattle.pg_base.specs.Roles.{is_new_key, each_key, has_create, has_update, has_delete, has_condition, roles_of}
use Rattle.pg_base.specs.ColumnFields.{column_field, column_fields, must_be_given, input_field, key_arguments, column_cases, order_columns, order_cases}
use Rattle.pg_base.specs.Connections.{page_fields, connection_fields, edge_fields, connection_arguments}
use Rattle.pg_base.specs.RowFields.{forward_field, forward_fields, backward_row, backward_rows, backward_field, backward_fields_from, backward_fields, row_fields}
use Rattle.pg_base.specs.MutationInputs.{payload_fields}
use Rattle.pg_base.specs.RootFields.{all_field, key_field, query_fields_of, query_fields, create_field, update_field, delete_field, mutation_fields_of, mutation_fields}
use Rattle.pg_base.specs.SchemaOf.{type_of_role, schema_of}
use Rattle.schema_laws.specs.Texts.{IsTextArg, IsTextField, IsTextType}
use Rattle.schema_laws.proofs.Ascii.{ascii}
use Rattle.schema_laws.proofs.CaseBytes.{case_of_label-is}
use Rattle.schema_laws.proofs.Eaches.{Each-append, Each-when, Each-all_when, Each-get, Each-each_at, Each-map, Each-weaker, Each-filter, Each-all}

-- ---- what is known of each table and enum

text_or : (o : Option (List ℕ)) (name : List ℕ) → IfSome o IsUtf8 → IsUtf8 name → IsUtf8 (unwrap_or o name)
text_or None name h k = k
text_or (Some other) name h k = h

record IsTextColumn (c : ColumnDef) : Type 0 where
  name : IsUtf8 (column_called c)
  deprecated : IfSome c.tags.deprecated IsUtf8

record IsTextTable (t : TableDef) : Type 0 where
  name : IsUtf8 (called t.name t.tags)
  columns : Each IsTextColumn t.columns
  keys : Each (λ k. AreTexts k.tags) t.keys
  links : Each (λ l. AreTexts l.tags) t.links

text_column : (enums : List EnumDef) (c : ColumnDef) → IsValidColumn enums c → IsTextColumn c
text_column enums c v = record { name = text_or c.tags.name c.name v.tags.name v.named.0; deprecated = v.tags.deprecated }

text_table : (c : CatalogParts) (t : TableDef) → IsValidTable c t → IsTextTable t
text_table c t v = record {
  name = text_or t.tags.name t.name v.tags.name v.named.0;
  columns = Each-weaker (IsValidColumn c.enums) IsTextColumn t.columns (text_column c.enums) v.columns;
  keys = Each-weaker (IsValidKey t.columns) (λ k. AreTexts k.tags) t.keys (λ k h. h.tags) v.keys;
  links = Each-weaker (IsValidLink c t.columns) (λ l. AreTexts l.tags) t.links (λ l h. h.tags) v.links;
}

record IsTextEnum (e : EnumDef) : Type 0 where
  name : IsUtf8 (called e.name e.tags)
  cases : Each IsUtf8 e.cases

pub record AreTextTables (c : CatalogParts) : Type 0 where
  tables : Each IsTextTable c.tables
  enums : Each IsTextEnum c.enums

pub text_catalog : (c : CatalogParts) → IsValidCatalog c → AreTextTables c
text_catalog c valid = record {
  tables = Each-weaker (IsValidTable c) IsTextTable c.tables (text_table c) valid.tables;
  enums = Each-weaker IsValidEnum IsTextEnum c.enums (λ e v. record { name = text_or e.tags.name e.name v.tags.name v.named.0; cases = v.cases }) valid.enums;
}

-- the same where nothing stands at the place

table_or : (tables : List TableDef) (place : ℕ) (o : Option TableDef) → slice_get tables place ≡ o → Each IsTextTable tables → IsTextTable (unwrap_or o no_table)
table_or tables place None e h = record { name = IsUtf8-nil; columns = tt; keys = tt; links = tt }
table_or tables place (Some t) e h = Each-get IsTextTable tables place t h e

at : (c : CatalogParts) → AreTextTables c → (place : ℕ) → IsTextTable (table_at c place)
at c h place = table_or c.tables place (slice_get c.tables place) refl h.tables

enum_or : (enums : List EnumDef) (place : ℕ) (o : Option EnumDef) → slice_get enums place ≡ o → Each IsTextEnum enums → IsTextEnum (unwrap_or o no_enum)
enum_or enums place None e h = record { name = IsUtf8-nil; cases = tt }
enum_or enums place (Some x) e h = Each-get IsTextEnum enums place x h e

column_or : (columns : List ColumnDef) (place : ℕ) (o : Option ColumnDef) → slice_get columns place ≡ o → Each IsTextColumn columns → IsTextColumn (unwrap_or o no_column)
column_or columns place None e h = record { name = IsUtf8-nil; deprecated = tt }
column_or columns place (Some c) e h = Each-get IsTextColumn columns place c h e

column_in : (t : TableDef) → IsTextTable t → (place : ℕ) → IsTextColumn (column_at t place)
column_in t h place = column_or t.columns place (slice_get t.columns place) refl h.columns

-- ---- names

row_type : (t : TableDef) → IsTextTable t → IsUtf8 (row_type_name t)
row_type t h = IsUtf8-type_name_of (singular_name t) (IsUtf8-singular_of (called t.name t.tags) h.name)

rows_type : (t : TableDef) → IsTextTable t → IsUtf8 (rows_type_name t)
rows_type t h = IsUtf8-type_name_of (plural_name t) (IsUtf8-plural_of (singular_name t) (IsUtf8-singular_of (called t.name t.tags) h.name))

row_field : (t : TableDef) → IsTextTable t → IsUtf8 (row_field_name t)
row_field t h = IsUtf8-field_name_of (singular_name t) (IsUtf8-singular_of (called t.name t.tags) h.name)

rows_field : (t : TableDef) → IsTextTable t → IsUtf8 (rows_field_name t)
rows_field t h = IsUtf8-field_name_of (plural_name t) (IsUtf8-plural_of (singular_name t) (IsUtf8-singular_of (called t.name t.tags) h.name))

joined : (names : List (List ℕ)) → Each IsUtf8 names → IsUtf8 (joined_by_and names)
joined [] h = IsUtf8-nil
joined (name ∷ []) h = h.0
joined (name ∷ other ∷ names) h =
    IsUtf8-append (name ++ codes "And") (joined_by_and (other ∷ names)) (IsUtf8-append name (codes "And") h.0 (ascii (codes "And") refl)) (joined (other ∷ names) h.1)

by : (t : TableDef) → IsTextTable t → (places : List ℕ) → IsUtf8 (by_columns t places)
by t h places =
    IsUtf8-append (codes "By") (joined_by_and (map (column_type_name t) places)) (ascii (codes "By") refl)
    (joined (map (column_type_name t) places) (Each-map IsUtf8 (column_type_name t) places
    (Each-all (λ place. IsUtf8 (column_type_name t place)) places (λ place. IsUtf8-type_name_of (column_called (column_at t place)) (column_in t h place).name))))

case : (label : List ℕ) → IsUtf8 label → IsUtf8 (case_of_label label)
case label h = subst IsUtf8 (sym (case_of_label-is label h)) (IsUtf8-enum_case_of label)

around : (before after : List ℕ) (t : TableDef) → IsTextTable t → IsUtf8 before → IsUtf8 after → IsUtf8 (before ++ row_type_name t ++ after)
around before after t h b a = IsUtf8-append (before ++ row_type_name t) after (IsUtf8-append before (row_type_name t) b (row_type t h)) a

-- ---- arguments and input fields

input : (types : List Role) (not_null : Bool) (c : ColumnDef) → IsTextColumn c → IsTextArg (input_field types not_null c)
input types not_null c h = IsUtf8-field_name_of (column_called c) h.name

inputs : (types : List Role) (not_null : ColumnDef → Bool) (behavior : ℕ) (t : TableDef) → IsTextTable t → Each IsTextArg (map (λ c. input_field types (not_null c) c) (columns_on behavior t))
inputs types not_null behavior t h =
    Each-map IsTextArg (λ c. input_field types (not_null c) c) (columns_on behavior t)
    (Each-weaker IsTextColumn (λ c. IsTextArg (input_field types (not_null c) c)) (columns_on behavior t) (λ c k. input types (not_null c) c k) (Each-filter IsTextColumn (λ c. is_on behavior c.tags) t.columns h.columns))

key_args : (types : List Role) (t : TableDef) (k : KeyDef) → IsTextTable t → Each IsTextArg (key_arguments types t k)
key_args types t k h =
    Each-map IsTextArg (λ place. input_field types true (column_at t place)) k.columns
    (Each-all (λ place. IsTextArg (input_field types true (column_at t place))) k.columns (λ place. input types true (column_at t place) (column_in t h place)))

connection_args : (types : List Role) (table : ℕ) (t : TableDef) → Each IsTextArg (connection_arguments types table t)
connection_args types table t = (
  ascii (codes "first") refl,
  (
    ascii (codes "last") refl,
    (
      ascii (codes "offset") refl,
      (
        ascii (codes "before") refl,
        (
          ascii (codes "after") refl,
          (
            ascii (codes "orderBy") refl,
            Each-when IsTextArg (has_condition t) _ (λ on. ascii (codes "condition") refl),
          ),
        ),
      ),
    ),
  ),
)

-- ---- fields

plain : (f : FieldDef) → IsUtf8 f.name → f.args ≡ [] → f.deprecated ≡ None → IsTextField f
plain f h e d = record { name = h; args = subst (λ (args : List ArgDef). Each IsTextArg args) (sym e) tt; deprecated = subst (λ (o : Option (List ℕ)). IfSome o IsUtf8) (sym d) tt }

columns : (types : List Role) (table : ℕ) (t : TableDef) → IsTextTable t → Each IsTextField (column_fields types table t)
columns types table t h =
    Each-each_at IsTextField (λ place c. when (is_on selecting c.tags) (column_field types table place c)) t.columns
    (λ place c g. Each-when IsTextField (is_on selecting c.tags) (column_field types table place c)
    (λ on. let k = Each-get IsTextColumn t.columns place c h.columns g in record { name = IsUtf8-field_name_of (column_called c) k.name; args = tt; deprecated = k.deprecated }))

forwards : (c : CatalogParts) → AreTextTables c → (types : List Role) (table : ℕ) (t : TableDef) → IsTextTable t → Each IsTextField (forward_fields c types table t)
forwards c all types table t h =
    Each-each_at IsTextField (λ place l. when (is_on selecting l.tags) (forward_field c types table t place l)) t.links
    (λ place l g. Each-when IsTextField (is_on selecting l.tags) (forward_field c types table t place l)
    (λ on. let k = Each-get (λ l. AreTexts l.tags) t.links place l h.links g in
    let name = row_field_name (table_at c l.target) ++ by_columns t l.columns in
    record {
      name = text_or l.tags.field_name name k.field_name (IsUtf8-append (row_field_name (table_at c l.target)) (by_columns t l.columns) (row_field (table_at c l.target) (at c all l.target)) (by t h l.columns));
      args = tt;
      deprecated = k.deprecated;
    }))

one_or_many : (types : List Role) (table place : ℕ) (t : TableDef) (l : LinkDef) (single : Bool) → IsTextTable t → AreTexts l.tags
    → IsTextField (if single then backward_row types table t place l else backward_rows types table t place l)
one_or_many types table place t l true h k = record {
  name = text_or l.tags.foreign_field_name (row_field_name t ++ by_columns t l.columns) k.foreign_field_name (IsUtf8-append (row_field_name t) (by_columns t l.columns) (row_field t h) (by t h l.columns));
  args = tt;
  deprecated = k.deprecated;
}
one_or_many types table place t l false h k = record {
  name = text_or l.tags.foreign_field_name (rows_field_name t ++ by_columns t l.columns) k.foreign_field_name (IsUtf8-append (rows_field_name t) (by_columns t l.columns) (rows_field t h) (by t h l.columns));
  args = connection_args types table t;
  deprecated = k.deprecated;
}

backwards : (c : CatalogParts) → AreTextTables c → (types : List Role) (target : ℕ) → Each IsTextField (backward_fields c types target)
backwards c all types target =
    Each-each_at IsTextField (backward_fields_from types target) c.tables
    (λ table t e. Each-each_at IsTextField (λ place l. when (l.target == target && is_on connecting l.tags) (backward_field types table t place l)) t.links
    (λ place l g. Each-when IsTextField (l.target == target && is_on connecting l.tags) (backward_field types table t place l)
    (λ on. let h = Each-get IsTextTable c.tables table t all.tables e in
    one_or_many types table place t l (finds_one (Some t) l) h (Each-get (λ l. AreTexts l.tags) t.links place l h.links g))))

rows : (c : CatalogParts) → AreTextTables c → (types : List Role) (table : ℕ) → Each IsTextField (row_fields c types table)
rows c all types table =
    let t = table_at c table in
    let own = column_fields types table t in
    let to = forward_fields c types table t in
    Each-append IsTextField (own ++ to) (backward_fields c types table) (Each-append IsTextField own to (columns types table t (at c all table)) (forwards c all types table t (at c all table))) (backwards c all types table)

constant : (f : FieldDef) (name : List ℕ) → IsUtf8 name → f.name ≡ name → f.args ≡ [] → f.deprecated ≡ None → IsTextField f
constant f name h n e d = plain f (subst IsUtf8 (sym n) h) e d

page : (types : List Role) → Each IsTextField (page_fields types)
page types = (
  constant _ (codes "hasNextPage") (ascii (codes "hasNextPage") refl) refl refl refl,
  (
    constant _ (codes "hasPreviousPage") (ascii (codes "hasPreviousPage") refl) refl refl refl,
    (constant _ (codes "startCursor") (ascii (codes "startCursor") refl) refl refl refl, (constant _ (codes "endCursor") (ascii (codes "endCursor") refl) refl refl refl, tt)),
  ),
)

connection : (types : List Role) (table : ℕ) (t : TableDef) → Each IsTextField (connection_fields types table t)
connection types table t =
    Each-append IsTextField (when (is_on listing t.tags) _) _ (Each-when IsTextField (is_on listing t.tags) _ (λ on. constant _ (codes "nodes") (ascii (codes "nodes") refl) refl refl refl)) (
      constant _ (codes "edges") (ascii (codes "edges") refl) refl refl refl,
      (constant _ (codes "pageInfo") (ascii (codes "pageInfo") refl) refl refl refl, (constant _ (codes "totalCount") (ascii (codes "totalCount") refl) refl refl refl, tt)),
    )

edge : (types : List Role) (table : ℕ) → Each IsTextField (edge_fields types table)
edge types table = (constant _ (codes "cursor") (ascii (codes "cursor") refl) refl refl refl, (constant _ (codes "node") (ascii (codes "node") refl) refl refl refl, tt))

payload : (types : List Role) (table : ℕ) (t : TableDef) → IsTextTable t → Each IsTextField (payload_fields types table t)
payload types table t h =
    (constant _ (codes "clientMutationId") (ascii (codes "clientMutationId") refl) refl refl refl, (constant _ (row_field_name t) (row_field t h) refl refl refl, tt))

-- ---- roots

of_keys : (f : ℕ → KeyDef → FieldDef) (t : TableDef) → IsTextTable t → ((place : ℕ) (k : KeyDef) → AreTexts k.tags → IsTextField (f place k)) → Each IsTextField (each_key (λ key k. f key k ∷ []) t)
of_keys f t h each =
    Each-each_at IsTextField (λ place k. all_when (is_new_key t.keys place k) (f place k ∷ [])) t.keys
    (λ place k g. Each-all_when IsTextField (is_new_key t.keys place k) (f place k ∷ []) (λ new. (each place k (Each-get (λ k. AreTexts k.tags) t.keys place k h.keys g), tt)))

queries : (c : CatalogParts) → AreTextTables c → (types : List Role) → Each IsTextField (query_fields c types)
queries c all types =
    Each-each_at IsTextField (query_fields_of types) c.tables
    (λ table t e. let h = Each-get IsTextTable c.tables table t all.tables e in
    let keys = each_key (λ key k. key_field types table t key k ∷ []) t in
    Each-append IsTextField (when (is_on connecting t.tags) (all_field types table t)) (all_when (is_on selecting t.tags) keys)
    (Each-when IsTextField (is_on connecting t.tags) (all_field types table t)
    (λ on. record { name = IsUtf8-append (codes "all") (rows_type_name t) (ascii (codes "all") refl) (rows_type t h); args = connection_args types table t; deprecated = tt }))
    (Each-all_when IsTextField (is_on selecting t.tags) keys
    (λ on. of_keys (λ key k. key_field types table t key k) t h
    (λ key k tags. record {
      name = text_or k.tags.field_name (row_field_name t ++ by_columns t k.columns) tags.field_name (IsUtf8-append (row_field_name t) (by_columns t k.columns) (row_field t h) (by t h k.columns));
      args = key_args types t k h;
      deprecated = tags.deprecated;
    }))))

mutations : (c : CatalogParts) → AreTextTables c → (types : List Role) → Each IsTextField (mutation_fields c types)
mutations c all types =
    Each-each_at IsTextField (mutation_fields_of types) c.tables
    (λ table t e. let h = Each-get IsTextTable c.tables table t all.tables e in
    let creates = when (has_create t) (create_field types table t) in
    let updates = each_key (λ key k. update_field types table t key k ∷ []) t in
    let deletes = each_key (λ key k. delete_field types table t key k ∷ []) t in
    Each-append IsTextField (creates ++ all_when (has_update t) updates) (all_when (has_delete t) deletes)
    (Each-append IsTextField creates (all_when (has_update t) updates)
    (Each-when IsTextField (has_create t) (create_field types table t)
    (λ on. record { name = IsUtf8-append (codes "create") (row_type_name t) (ascii (codes "create") refl) (row_type t h); args = (ascii (codes "input") refl, tt); deprecated = tt }))
    (Each-all_when IsTextField (has_update t) updates
    (λ on. of_keys (λ key k. update_field types table t key k) t h
    (λ key k tags. record { name = around (codes "update") (by_columns t k.columns) t h (ascii (codes "update") refl) (by t h k.columns); args = (ascii (codes "input") refl, tt); deprecated = tags.deprecated }))))
    (Each-all_when IsTextField (has_delete t) deletes
    (λ on. of_keys (λ key k. delete_field types table t key k) t h
    (λ key k tags. record { name = around (codes "delete") (by_columns t k.columns) t h (ascii (codes "delete") refl) (by t h k.columns); args = (ascii (codes "input") refl, tt); deprecated = tags.deprecated }))))

-- ---- cases

two_cases : (columns : List ColumnDef) → Each IsTextColumn columns → Each IsUtf8 (flat_map column_cases columns)
two_cases [] h = tt
two_cases (c ∷ columns) h =
    let name = case (column_called c) h.0.name in
    (IsUtf8-append (case_of_label (column_called c)) (codes "_ASC") name (ascii (codes "_ASC") refl), (IsUtf8-append (case_of_label (column_called c)) (codes "_DESC") name (ascii (codes "_DESC") refl), two_cases columns h.1))

orders : (t : TableDef) → IsTextTable t → Each IsUtf8 (order_cases t)
orders t h = (ascii (codes "NATURAL") refl, two_cases (order_columns t) (Each-filter IsTextColumn (λ c. is_on ordering t.tags && is_on ordering c.tags) t.columns h.columns))

labels : (cases : List (List ℕ)) → Each IsUtf8 cases → Each IsUtf8 (map case_of_label cases)
labels cases h = Each-map IsUtf8 case_of_label cases (Each-weaker IsUtf8 (λ label. IsUtf8 (case_of_label label)) cases case h)

-- ---- each type

around_key : (before after : List ℕ) (t : TableDef) (key : ℕ) → IsTextTable t → IsUtf8 before → IsUtf8 after → IsUtf8 (before ++ row_type_name t ++ (by_columns t (key_in t key).columns ++ after))
around_key before after t key h b a = around before (by_columns t (key_in t key).columns ++ after) t h b (IsUtf8-append (by_columns t (key_in t key).columns) after (by t h (key_in t key).columns) a)

nil : IsUtf8 []
nil = IsUtf8-nil

client : IsUtf8 (codes "clientMutationId")
client = ascii (codes "clientMutationId") refl

text_type : (c : CatalogParts) → AreTextTables c → (types : List Role) (r : Role) → IsTextType (type_of_role c types r)
text_type c h types role.BigInt = record { name = ascii (codes "BigInt") refl; fields = tt; inputs = tt; cases = tt }
text_type c h types role.Cursor = record { name = ascii (codes "Cursor") refl; fields = tt; inputs = tt; cases = tt }
text_type c h types role.PageInfo = record { name = ascii (codes "PageInfo") refl; fields = page types; inputs = tt; cases = tt }
text_type c h types (role.Enum place) =
    let e = enum_or c.enums place (slice_get c.enums place) refl h.enums in
    record { name = IsUtf8-type_name_of (called (enum_at c place).name (enum_at c place).tags) e.name; fields = tt; inputs = tt; cases = labels (enum_at c place).cases e.cases }
text_type c h types (role.Row table) = record { name = row_type (table_at c table) (at c h table); fields = rows c h types table; inputs = tt; cases = tt }
text_type c h types (role.Connection table) =
    let t = table_at c table in
    record { name = IsUtf8-append (rows_type_name t) (codes "Connection") (rows_type t (at c h table)) (ascii (codes "Connection") refl); fields = connection types table t; inputs = tt; cases = tt }
text_type c h types (role.Edge table) =
    let t = table_at c table in
    record { name = IsUtf8-append (rows_type_name t) (codes "Edge") (rows_type t (at c h table)) (ascii (codes "Edge") refl); fields = edge types table; inputs = tt; cases = tt }
text_type c h types (role.Order table) =
    let t = table_at c table in
    record { name = IsUtf8-append (rows_type_name t) (codes "OrderBy") (rows_type t (at c h table)) (ascii (codes "OrderBy") refl); fields = tt; inputs = tt; cases = orders t (at c h table) }
text_type c h types (role.Condition table) =
    let t = table_at c table in
    record { name = around [] (codes "Condition") t (at c h table) nil (ascii (codes "Condition") refl); fields = tt; inputs = inputs types (λ d. false) filtering t (at c h table); cases = tt }
text_type c h types (role.Input table) =
    let t = table_at c table in
    record { name = around [] (codes "Input") t (at c h table) nil (ascii (codes "Input") refl); fields = tt; inputs = inputs types must_be_given inserting t (at c h table); cases = tt }
text_type c h types (role.Patch table) =
    let t = table_at c table in
    record { name = around [] (codes "Patch") t (at c h table) nil (ascii (codes "Patch") refl); fields = tt; inputs = inputs types (λ d. false) updating t (at c h table); cases = tt }
text_type c h types role.Query = record { name = ascii (codes "Query") refl; fields = queries c h types; inputs = tt; cases = tt }
text_type c h types role.Mutation = record { name = ascii (codes "Mutation") refl; fields = mutations c h types; inputs = tt; cases = tt }
text_type c h types (role.CreateInput table) =
    let t = table_at c table in
    record { name = around (codes "Create") (codes "Input") t (at c h table) (ascii (codes "Create") refl) (ascii (codes "Input") refl); fields = tt; inputs = (client, (row_field t (at c h table), tt)); cases = tt }
text_type c h types (role.CreatePayload table) =
    let t = table_at c table in
    record { name = around (codes "Create") (codes "Payload") t (at c h table) (ascii (codes "Create") refl) (ascii (codes "Payload") refl); fields = payload types table t (at c h table); inputs = tt; cases = tt }
text_type c h types (role.UpdateInput table key) =
    let t = table_at c table in
    record {
      name = around_key (codes "Update") (codes "Input") t key (at c h table) (ascii (codes "Update") refl) (ascii (codes "Input") refl);
      fields = tt;
      inputs = (client, Each-append IsTextArg (key_arguments types t (key_in t key)) _ (key_args types t (key_in t key) (at c h table)) (IsUtf8-append (row_field_name t) (codes "Patch") (row_field t (at c h table)) (ascii (codes "Patch") refl), tt));
      cases = tt;
    }
text_type c h types (role.UpdatePayload table) =
    let t = table_at c table in
    record { name = around (codes "Update") (codes "Payload") t (at c h table) (ascii (codes "Update") refl) (ascii (codes "Payload") refl); fields = payload types table t (at c h table); inputs = tt; cases = tt }
text_type c h types (role.DeleteInput table key) =
    let t = table_at c table in
    record { name = around_key (codes "Delete") (codes "Input") t key (at c h table) (ascii (codes "Delete") refl) (ascii (codes "Input") refl); fields = tt; inputs = (client, key_args types t (key_in t key) (at c h table)); cases = tt }
text_type c h types (role.DeletePayload table) =
    let t = table_at c table in
    record { name = around (codes "Delete") (codes "Payload") t (at c h table) (ascii (codes "Delete") refl) (ascii (codes "Payload") refl); fields = payload types table t (at c h table); inputs = tt; cases = tt }

all_texts : (c : CatalogParts) → AreTextTables c → (types roles : List Role) → Each IsTextType (map (type_of_role c types) roles)
all_texts c h types [] = tt
all_texts c h types (r ∷ roles) = (text_type c h types r, all_texts c h types roles)

pub are_texts : (c : CatalogParts) → IsValidCatalog c → Each IsTextType (schema_of c).types
unfolding schema_of
are_texts c valid = all_texts c (text_catalog c valid) (roles_of c) (roles_of c)
