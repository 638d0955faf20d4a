-- A small base: users, their posts, and a profile that each user has once at most.
use Rattle.std.specs.Prelude.{ℕ, true, false, List, [], ◌∷◌, Some, None}
use Rattle.pg_base.specs.Base.{BaseParts}
use Rattle.pg_base.specs.Catalog.{CatalogParts}
use Rattle.pg_base.specs.Schema.{SchemaParts}
use Rattle.pg_base.specs.Tags.{no_tags}
use Rattle.pg_base.specs.declared.does.Does.{Does}
use Rattle.pg_base.specs.declared.does.Does.TheVariants as does
use Rattle.pg_base.specs.declared.schema.FieldDef.{FieldDef}
use Rattle.pg_base.specs.declared.schema.TypeDef.{TypeDef}
use Rattle.pg_base.specs.declared.schema.TypeKind.TheVariants as kind
use Rattle.pg_base.specs.declared.schema.TypeRef.{TypeRef}
use Rattle.pg_base.specs.declared.table_def.KeyDef.{KeyDef}
use Rattle.pg_base.specs.declared.table_def.LinkDef.{LinkDef}
use Rattle.pg_base.specs.declared.table_def.TableDef.{TableDef}

-- ---- the tables: what statements need of them are keys and links

abbrev key_on : List ℕ → KeyDef
key_on columns = record { name = []; columns = columns; primary = true; tags = no_tags }

abbrev link_to : List ℕ → ℕ → LinkDef
link_to columns target =
    record { name = []; columns = columns; target = target; target_columns = 0 ∷ []; tags = no_tags }

abbrev table_of : List KeyDef → List LinkDef → TableDef
table_of keys links = record { name = []; columns = []; keys = keys; links = links; tags = no_tags }

-- 0 users; 1 posts, whose author is a user; 2 profiles, whose key is their user
abbrev pub blog_catalog : CatalogParts
blog_catalog = record {
  enums = [];
  tables =
      table_of (key_on (0 ∷ []) ∷ []) []
      ∷ table_of (key_on (0 ∷ []) ∷ []) (link_to (1 ∷ []) 0 ∷ [])
      ∷ table_of (key_on (0 ∷ []) ∷ []) (link_to (0 ∷ []) 0 ∷ [])
      ∷ [];
}

-- ---- the types: what statements need of them is what each field does

abbrev any_type : TypeRef
any_type = record { name = 0; list = false; item_not_null = false; not_null = false }

abbrev field_that : Does → FieldDef
field_that d = record { name = []; args = []; ty = any_type; does = d; deprecated = None }

abbrev object_of : List FieldDef → TypeDef
object_of fields = record { name = []; kind = kind.Object fields }

-- 0 Query: the users, the posts, a user by the key; 1 User: a column, the posts, the profile; 2 Post: a column, the
-- author; 3 Profile: a column; 4 a connection: its rows, their number; 5 Mutation: a user made; 6 its payload: the user
abbrev pub blog_schema : SchemaParts
blog_schema = record {
  types =
      object_of (field_that (does.All 0) ∷ field_that (does.All 1) ∷ field_that (does.ByKey 0 0) ∷ [])
      ∷ object_of (field_that (does.Column 0 1) ∷ field_that (does.Backward 1 0) ∷ field_that (does.Backward 2 0) ∷ [])
      ∷ object_of (field_that (does.Column 1 2) ∷ field_that (does.Forward 1 0) ∷ [])
      ∷ object_of (field_that (does.Column 2 1) ∷ [])
      ∷ object_of (field_that does.Nodes ∷ field_that does.Total ∷ [])
      ∷ object_of (field_that (does.Create 0) ∷ [])
      ∷ object_of (field_that does.Payload ∷ [])
      ∷ [];
  query = 0;
  mutation = Some 5;
}

abbrev pub blog : BaseParts
blog = record { catalog = blog_catalog; schema = blog_schema }
