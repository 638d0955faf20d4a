-- Trees whose places stand where their fields belong.
use Rattle.std.specs.Prelude.{◌≡◌, ◌<◌, ◌≤◌, ℕ, Bool, true, false, List, Option, Some, None, slice_get, length, IsSomeAnd, ⊤}
use Rattle.pg_base.specs.Catalog.{CatalogParts}
use Rattle.pg_base.specs.Base.{BaseParts}
use Rattle.pg_base.specs.declared.schema.FieldDef.{FieldDef}
use Rattle.pg_base.specs.declared.does.Does.{Does}
use Rattle.pg_base.specs.declared.does.Does.TheVariants as does
use Rattle.pg_base.specs.Schema.{SchemaParts}
use Rattle.pg_base.specs.Schema.{field_at}
use Rattle.place_tree.specs.declared.place.Place.{Place}
use Rattle.place_tree.specs.Fields.{columns_of, key_at, link_at, finds_one}
use Rattle.place_tree.specs.declared.stand.Stand.{Stand}
use Rattle.place_tree.specs.declared.stand.Stand.TheVariants.{Root, AtRow, AtList, AtEdge, AtPayload}

-- What an object type is of: the root of a query or a mutation, or rows, lists, edges and payloads of a table, or a
-- page.
pub data Kind : Type 0 where
  OfQuery : Kind
  OfMutation : Kind
  OfRow : ℕ → Kind
  OfList : ℕ → Kind
  OfEdge : ℕ → Kind
  OfPage : Kind
  OfPayload : ℕ → Kind
  NoObject : Kind

-- the kind of a field's type, where the field belongs to a type of the other kind
abbrev pub backward_kind : Bool → ℕ → Kind
backward_kind true table = OfRow table
backward_kind false table = OfList table

-- a field of a type of the first kind gives what is of the second
abbrev pub Leads : CatalogParts → Does → Kind → Kind → Type 0
Leads catalog (does.Column table column) kind next =
    (kind ≡ OfRow table) × (column < length (columns_of catalog table)) × (next ≡ NoObject)
Leads catalog (does.Forward table link) kind next =
    (kind ≡ OfRow table) × IsSomeAnd (link_at catalog table link) (λ l. next ≡ OfRow l.target)
Leads catalog (does.Backward table link) kind next =
    IsSomeAnd (link_at catalog table link) (λ l.
    (kind ≡ OfRow l.target) × (next ≡ backward_kind (finds_one (slice_get catalog.tables table) l) table))
Leads catalog (does.All table) kind next = (kind ≡ OfQuery) × (table < length catalog.tables) × (next ≡ OfList table)
Leads catalog (does.ByKey table key) kind next =
    (kind ≡ OfQuery) × IsSomeAnd (key_at catalog table key) (λ k. next ≡ OfRow table)
Leads catalog (does.Create table) kind next = (kind ≡ OfMutation) × (next ≡ OfPayload table)
Leads catalog (does.Update table key) kind next = (kind ≡ OfMutation) × (next ≡ OfPayload table)
Leads catalog (does.Delete table key) kind next = (kind ≡ OfMutation) × (next ≡ OfPayload table)
Leads catalog does.Nodes kind next = (table : ℕ) × (kind ≡ OfList table) × (next ≡ OfRow table)
Leads catalog does.Edges kind next = (table : ℕ) × (kind ≡ OfList table) × (next ≡ OfEdge table)
Leads catalog does.Node kind next = (table : ℕ) × (kind ≡ OfEdge table) × (next ≡ OfRow table)
Leads catalog does.PageInfo kind next = (table : ℕ) × (kind ≡ OfList table) × (next ≡ OfPage)
Leads catalog does.Total kind next = (table : ℕ) × (kind ≡ OfList table) × (next ≡ NoObject)
Leads catalog does.Cursor kind next = (table : ℕ) × (kind ≡ OfEdge table) × (next ≡ NoObject)
Leads catalog does.HasNext kind next = (kind ≡ OfPage) × (next ≡ NoObject)
Leads catalog does.HasPrevious kind next = (kind ≡ OfPage) × (next ≡ NoObject)
Leads catalog does.Start kind next = (kind ≡ OfPage) × (next ≡ NoObject)
Leads catalog does.End kind next = (kind ≡ OfPage) × (next ≡ NoObject)
Leads catalog does.ClientId kind next = (table : ℕ) × (kind ≡ OfPayload table) × (next ≡ NoObject)
Leads catalog does.Payload kind next = (table : ℕ) × (kind ≡ OfPayload table) × (next ≡ OfRow table)

-- each type has a kind, and its fields belong there
pub record AreKinds (base : BaseParts) (kinds : ℕ → Kind) : Type 0 where
  pub query : kinds base.schema.query ≡ OfQuery
  pub fields : (ty field : ℕ) (f : FieldDef) → field_at base.schema ty field ≡ Some f
      → Leads base.catalog f.does (kinds ty) (kinds f.ty.name)

-- a place's type is that of the field above it, or the root's
pub record IsUnder (schema : SchemaParts) (places : List Place) (i : ℕ) (p : Place) (above : ℕ) : Type 0 where
  pub earlier : above < i
  pub place : Place
  pub field : FieldDef
  pub is_place : slice_get places above ≡ Some place
  pub is_field : field_at schema place.ty place.field ≡ Some field
  pub is_type : p.ty ≡ field.ty.name

abbrev pub StandsUnder : SchemaParts → ℕ → List Place → ℕ → Place → Option ℕ → Type 0
StandsUnder schema root places i p None = p.ty ≡ root
StandsUnder schema root places i p (Some above) = IsUnder schema places i p above

-- a tree whose roots are fields of this type
pub record IsTree (schema : SchemaParts) (root : ℕ) (places : List Place) : Type 0 where
  pub under : (i : ℕ) (p : Place) → slice_get places i ≡ Some p → StandsUnder schema root places i p p.parent
  pub few : length places ≤ 2000

-- ---- where execution stands

-- a stand at which the fields of a type of this kind are asked
abbrev pub IsAt : Kind → Stand → Type 0
IsAt OfQuery Root = ⊤
IsAt (OfRow table) (AtRow row) = ⊤
IsAt (OfList table) (AtList l) = l.table ≡ table
IsAt OfPage (AtList l) = ⊤
IsAt (OfEdge table) (AtEdge e) = e.table ≡ table
IsAt (OfPayload table) (AtPayload row) = ⊤
IsAt _ _ = ⊥
