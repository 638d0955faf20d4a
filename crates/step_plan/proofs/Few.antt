-- What a valid catalog or schema has is few enough for numbers of 32 bits.
use Rattle.std.proofs.Common.{◌≡◌, ℕ, ◌^◌, ◌<◌, zero, suc, List, [], ◌∷◌, length, Option, Some, None, sym, subst, arith}
use Rattle.std.specs.Prelude.{slice_get, option_map, IfSome}
use Rattle.pg_base.specs.Catalog.{CatalogParts, IsValidCatalog, IsValidTable}
use Rattle.pg_base.specs.Lists.{Each}
use Rattle.pg_base.specs.Schema.{SchemaParts, IsValidSchema, IsValidType, IsValidField, kind_of, kind_at, cases_of, fields_of}
use Rattle.pg_base.specs.declared.table_def.TableDef.{TableDef}
use Rattle.pg_base.specs.declared.schema.TypeDef.{TypeDef}
use Rattle.pg_base.specs.declared.schema.FieldDef.{FieldDef}
use Rattle.place_tree.specs.declared.place.Place.{Place}
use Rattle.place_tree.specs.Fields.{columns_in, columns_of, field_of}

abbrev Holds : {A : Type 0} → (A → Type 0) → Option A → Type 0
Holds P None = Unit {0}
Holds P (Some x) = P x

each_at : {A : Type 0} (P : A → Type 0) (xs : List A) (i : ℕ) → Each P xs → Holds P (slice_get xs i)
each_at P [] i h = tt
each_at P (y ∷ xs) zero h = h.0
each_at P (y ∷ xs) (suc i) h = each_at P xs i h.1

-- ---- of a schema

type_cases : (schema : SchemaParts) (o : Option TypeDef) → Holds (IsValidType schema) o → length (cases_of (kind_of o)) < 2 ^ 32
type_cases schema None h = omega arith
type_cases schema (Some t) h = h.few_cases

pub few_cases : (schema : SchemaParts) (ty : ℕ) → IsValidSchema schema → length (cases_of (kind_at schema ty)) < 2 ^ 32
few_cases schema ty h = type_cases schema (slice_get schema.types ty) (each_at (IsValidType schema) schema.types ty h.types)

type_fields : (schema : SchemaParts) (o : Option TypeDef) → Holds (IsValidType schema) o → Each (IsValidField schema) (fields_of (kind_of o))
type_fields schema None h = tt
type_fields schema (Some t) h = h.fields

args_of : (schema : SchemaParts) (o : Option FieldDef) (f : FieldDef) → Holds (IsValidField schema) o → o ≡ Some f → length f.args < 2 ^ 32
args_of schema None f h e = absurd cc
args_of schema (Some g) f h e = let same : g ≡ f = cc in subst (λ (k : FieldDef). length k.args < 2 ^ 32) same h.few

pub few_args : (schema : SchemaParts) (p : Place) (f : FieldDef) → IsValidSchema schema → field_of schema p ≡ Some f → length f.args < 2 ^ 32
few_args schema p f h e =
    args_of schema (field_of schema p) f
    (each_at (IsValidField schema) (fields_of (kind_at schema p.ty)) p.field
    (type_fields schema (slice_get schema.types p.ty) (each_at (IsValidType schema) schema.types p.ty h.types)))
    e

-- ---- of a catalog

table_columns : (c : CatalogParts) (o : Option TableDef) → Holds (IsValidTable c) o → length (columns_in o) < 2 ^ 32
table_columns c None h = omega arith
table_columns c (Some t) h = let few = h.column_limit in omega arith

pub few_columns : (c : CatalogParts) (table : ℕ) → IsValidCatalog c → length (columns_of c table) < 2 ^ 32
few_columns c table h = table_columns c (slice_get c.tables table) (each_at (IsValidTable c) c.tables table h.tables)

pub few_in : {X : Type 0} (schema : SchemaParts) (p : Place) (r : Option X) (v : X → FieldDef) → IsValidSchema schema → option_map v r ≡ field_of schema p
    → IfSome r (λ f. length (v f).args < 2 ^ 32)
few_in schema p None v h e = tt
few_in schema p (Some f) v h e = few_args schema p (v f) h (sym e)
