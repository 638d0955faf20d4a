-- The type and the arguments of each field, by what it does.
use Rattle.std.specs.Prelude.{◌≡◌, ℕ, Bool, true, false, List, [], ◌∷◌, Some, slice_get, IsSomeAnd, codes}
use Rattle.pg_base.specs.Catalog.{CatalogParts}
use Rattle.pg_base.specs.declared.table_def.ColumnDef.{ColumnDef}
use Rattle.pg_base.specs.declared.schema.TypeRef.{TypeRef}
use Rattle.pg_base.specs.declared.schema.ArgDef.{ArgDef}
use Rattle.pg_base.specs.declared.schema.FieldDef.{FieldDef}
use Rattle.pg_base.specs.declared.does.Does.{Does}
use Rattle.pg_base.specs.declared.does.Does.TheVariants as does
use Rattle.pg_base.specs.declared.role.Role.{Role}
use Rattle.pg_base.specs.declared.role.Role.TheVariants as role
use Rattle.pg_base.specs.Schema.{int, string, boolean, field_at}
use Rattle.pg_base.specs.SchemaOf.{schema_of}
use Rattle.pg_base.specs.Lookups.{table_at, column_at, key_in, link_at, finds_one}
use Rattle.pg_base.specs.Roles.{roles_of, place_of}
use Rattle.pg_base.specs.TypeRefs.{one, many, type_of_kind, argument}
use Rattle.pg_base.specs.ColumnFields.{key_arguments}
use Rattle.pg_base.specs.Connections.{connection_arguments}

-- the field has this type and these arguments
abbrev pub HasType : FieldDef → TypeRef → List ArgDef → Type 0
HasType f ty args = (f.ty ≡ ty) × (f.args ≡ args)

-- the type for this, and lists of it
abbrev pub one_of : CatalogParts → Role → Bool → TypeRef
one_of catalog r not_null = one (place_of (roles_of catalog) r) not_null

abbrev pub many_of : CatalogParts → Role → Bool → TypeRef
many_of catalog r not_null = many (place_of (roles_of catalog) r) not_null

abbrev pub type_of_column : CatalogParts → ColumnDef → TypeRef
type_of_column catalog c = one (type_of_kind (roles_of catalog) c.kind) c.not_null

-- ---- arguments

abbrev pub arguments_of_list : CatalogParts → ℕ → List ArgDef
arguments_of_list catalog table = connection_arguments (roles_of catalog) table (table_at catalog table)

abbrev pub arguments_of_key : CatalogParts → ℕ → ℕ → List ArgDef
arguments_of_key catalog table key =
    key_arguments (roles_of catalog) (table_at catalog table) (key_in (table_at catalog table) key)

abbrev pub arguments_of_change : CatalogParts → Role → List ArgDef
arguments_of_change catalog input = argument (codes "input") (one_of catalog input true) ∷ []

-- ---- fields

-- one row, or a list of rows
abbrev pub HasBackwardShape : CatalogParts → FieldDef → ℕ → Bool → Type 0
HasBackwardShape catalog f table true = HasType f (one_of catalog (role.Row table) false) []
HasBackwardShape catalog f table false =
    HasType f (one_of catalog (role.Connection table) false) (arguments_of_list catalog table)

abbrev pub HasShapeOf : CatalogParts → FieldDef → Does → Type 0
HasShapeOf catalog f (does.Column table column) =
    HasType f (type_of_column catalog (column_at (table_at catalog table) column)) []
HasShapeOf catalog f (does.Forward table link) =
    IsSomeAnd (link_at catalog table link) (λ l. HasType f (one_of catalog (role.Row l.target) false) [])
HasShapeOf catalog f (does.Backward table link) =
    IsSomeAnd (link_at catalog table link)
    (λ l. HasBackwardShape catalog f table (finds_one (slice_get catalog.tables table) l))
HasShapeOf catalog f (does.All table) =
    HasType f (one_of catalog (role.Connection table) false) (arguments_of_list catalog table)
HasShapeOf catalog f (does.ByKey table key) =
    HasType f (one_of catalog (role.Row table) false) (arguments_of_key catalog table key)
HasShapeOf catalog f (does.Create table) =
    HasType f (one_of catalog (role.CreatePayload table) false) (arguments_of_change catalog (role.CreateInput table))
HasShapeOf catalog f (does.Update table key) =
    HasType f (one_of catalog (role.UpdatePayload table) false)
    (arguments_of_change catalog (role.UpdateInput table key))
HasShapeOf catalog f (does.Delete table key) =
    HasType f (one_of catalog (role.DeletePayload table) false)
    (arguments_of_change catalog (role.DeleteInput table key))
HasShapeOf catalog f does.Nodes = (table : ℕ) × HasType f (many_of catalog (role.Row table) true) []
HasShapeOf catalog f does.Edges = (table : ℕ) × HasType f (many_of catalog (role.Edge table) true) []
HasShapeOf catalog f does.PageInfo = HasType f (one_of catalog role.PageInfo true) []
HasShapeOf catalog f does.Total = HasType f (one int true) []
HasShapeOf catalog f does.Node = (table : ℕ) × HasType f (one_of catalog (role.Row table) true) []
HasShapeOf catalog f does.Cursor = HasType f (one_of catalog role.Cursor true) []
HasShapeOf catalog f does.HasNext = HasType f (one boolean true) []
HasShapeOf catalog f does.HasPrevious = HasType f (one boolean true) []
HasShapeOf catalog f does.Start = HasType f (one_of catalog role.Cursor false) []
HasShapeOf catalog f does.End = HasType f (one_of catalog role.Cursor false) []
HasShapeOf catalog f does.ClientId = HasType f (one string false) []
HasShapeOf catalog f does.Payload = (table : ℕ) × HasType f (one_of catalog (role.Row table) false) []

-- each field of the catalog's schema
abbrev pub HaveShapes : CatalogParts → Type 0
HaveShapes catalog = (ty field : ℕ) (f : FieldDef) → field_at (schema_of catalog) ty field ≡ Some f
    → HasShapeOf catalog f f.does
