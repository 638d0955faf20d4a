-- What each object type is of, and to which types its fields lead.
use Rattle.std.specs.Prelude.{◌≡◌, ◌<◌, ℕ, Bool, true, false, length, Option, Some, None, slice_get, IsSomeAnd}
use Rattle.pg_base.specs.Catalog.{CatalogParts}
use Rattle.pg_base.specs.Base.{BaseParts}
use Rattle.pg_base.specs.Schema.{field_at}
use Rattle.pg_base.specs.SchemaOf.{schema_of}
use Rattle.pg_base.specs.Lookups.{columns_of, key_at, link_at, finds_one}
use Rattle.pg_base.specs.Roles.{roles_of}
use Rattle.pg_base.specs.declared.schema.FieldDef.{FieldDef}
use Rattle.pg_base.specs.declared.does.Does.{Does}
use Rattle.pg_base.specs.declared.does.Does.TheVariants as does
use Rattle.pg_base.specs.declared.role.Role.{Role}
use Rattle.pg_base.specs.declared.role.Role.TheVariants as role

-- the root of a query or a mutation; rows, lists, edges and payloads of a table; a page; or no object type
pub data ObjectKind : Type 0 where
  OfQuery : ObjectKind
  OfMutation : ObjectKind
  OfRow : ℕ → ObjectKind
  OfList : ℕ → ObjectKind
  OfEdge : ℕ → ObjectKind
  OfPage : ObjectKind
  OfPayload : ℕ → ObjectKind
  NoObject : ObjectKind

-- a backward field gives one row or a list
abbrev pub backward_kind : Bool → ℕ → ObjectKind
backward_kind true table = OfRow table
backward_kind false table = OfList table

-- the one row or the list that a backward field gives
abbrev pub LeadsBack : CatalogParts → ℕ → ℕ → ObjectKind → ObjectKind → Type 0
LeadsBack catalog table link kind next = IsSomeAnd (link_at catalog table link)
    (λ l. (kind ≡ OfRow l.target) × (next ≡ backward_kind (finds_one (slice_get catalog.tables table) l) table))

-- a field of a type of the first kind gives what is of the second
abbrev pub Leads : CatalogParts → Does → ObjectKind → ObjectKind → Type 0
Leads catalog (does.Column table column) kind next =
    (kind ≡ OfRow table) × (column < length (columns_of catalog table)) × (next ≡ NoObject)
Leads catalog (does.Forward table link) kind next =
    (kind ≡ OfRow table) × IsSomeAnd (link_at catalog table link) (λ l. next ≡ OfRow l.target)
Leads catalog (does.Backward table link) kind next = LeadsBack catalog table link kind next
Leads catalog (does.All table) kind next = (kind ≡ OfQuery) × (table < length catalog.tables) × (next ≡ OfList table)
Leads catalog (does.ByKey table key) kind next =
    (kind ≡ OfQuery) × IsSomeAnd (key_at catalog table key) (λ k. next ≡ OfRow table)
Leads catalog (does.Create table) kind next = (kind ≡ OfMutation) × (next ≡ OfPayload table)
Leads catalog (does.Update table key) kind next = (kind ≡ OfMutation) × (next ≡ OfPayload table)
Leads catalog (does.Delete table key) kind next = (kind ≡ OfMutation) × (next ≡ OfPayload table)
Leads catalog does.Nodes kind next = (table : ℕ) × (kind ≡ OfList table) × (next ≡ OfRow table)
Leads catalog does.Edges kind next = (table : ℕ) × (kind ≡ OfList table) × (next ≡ OfEdge table)
Leads catalog does.Node kind next = (table : ℕ) × (kind ≡ OfEdge table) × (next ≡ OfRow table)
Leads catalog does.PageInfo kind next = (table : ℕ) × (kind ≡ OfList table) × (next ≡ OfPage)
Leads catalog does.Total kind next = (table : ℕ) × (kind ≡ OfList table) × (next ≡ NoObject)
Leads catalog does.Cursor kind next = (table : ℕ) × (kind ≡ OfEdge table) × (next ≡ NoObject)
Leads catalog does.HasNext kind next = (kind ≡ OfPage) × (next ≡ NoObject)
Leads catalog does.HasPrevious kind next = (kind ≡ OfPage) × (next ≡ NoObject)
Leads catalog does.Start kind next = (kind ≡ OfPage) × (next ≡ NoObject)
Leads catalog does.End kind next = (kind ≡ OfPage) × (next ≡ NoObject)
Leads catalog does.ClientId kind next = (table : ℕ) × (kind ≡ OfPayload table) × (next ≡ NoObject)
Leads catalog does.Payload kind next = (table : ℕ) × (kind ≡ OfPayload table) × (next ≡ OfRow table)

-- each type has a kind, and its fields belong there
pub record AreKinds (base : BaseParts) (kinds : ℕ → ObjectKind) : Type 0 where
  pub query : kinds base.schema.query ≡ OfQuery
  pub fields : (ty field : ℕ) (f : FieldDef) → field_at base.schema ty field ≡ Some f
      → Leads base.catalog f.does (kinds ty) (kinds f.ty.name)

-- ---- the kinds in the schema of a catalog

abbrev pub role_kind : Role → ObjectKind
role_kind role.BigInt = NoObject
role_kind role.Cursor = NoObject
role_kind role.PageInfo = OfPage
role_kind (role.Enum place) = NoObject
role_kind (role.Row table) = OfRow table
role_kind (role.Connection table) = OfList table
role_kind (role.Edge table) = OfEdge table
role_kind (role.Order table) = NoObject
role_kind (role.Condition table) = NoObject
role_kind (role.Input table) = NoObject
role_kind (role.Patch table) = NoObject
role_kind role.Query = OfQuery
role_kind role.Mutation = OfMutation
role_kind (role.CreateInput table) = NoObject
role_kind (role.CreatePayload table) = OfPayload table
role_kind (role.UpdateInput table key) = NoObject
role_kind (role.UpdatePayload table) = OfPayload table
role_kind (role.DeleteInput table key) = NoObject
role_kind (role.DeletePayload table) = OfPayload table

abbrev pub kind_in : Option Role → ObjectKind
kind_in None = NoObject
kind_in (Some r) = role_kind r

-- the kind of the type at the place
abbrev pub kinds_of : CatalogParts → ℕ → ObjectKind
kinds_of catalog ty = kind_in (slice_get (roles_of catalog) ty)

abbrev pub base_of : CatalogParts → BaseParts
base_of catalog = record { catalog = catalog; schema = schema_of catalog }
