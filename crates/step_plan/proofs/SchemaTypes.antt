-- The arguments of row fields, in the schema of a valid catalog, have such types.
use Rattle.std.proofs.Common.{◌≡◌, ℕ, Bool, true, false, List, [], ◌∷◌, map, length, Option, Some, None, refl, sym, ap, ◌∙◌, subst}
use Rattle.std.specs.Prelude.{slice_get, IfSome, IsSomeAnd, if◌then◌else◌, unwrap_or}
use Rattle.std.specs.Str.{bytes_eq}
use Rattle.gql_input.specs.Inputs.{text, reads_at, has_fields}
use Rattle.pg_base.specs.Base.{BaseParts}
use Rattle.pg_base.specs.Behaviors.{columns_on, columns_with, filtering}
use Rattle.pg_base.specs.Catalog.{CatalogParts, IsValidCatalog, IsValidTable, IsValidKey, IsValidColumn}
use Rattle.pg_base.specs.ColumnFields.{input_field, key_arguments, condition_fields}
use Rattle.pg_base.specs.Kind.{IsKind}
use Rattle.pg_base.specs.Lists.{Each, EachPair, AreBelow}
use Rattle.pg_base.specs.Lookups as lookups
use Rattle.pg_base.specs.Roles.{roles_of, place_of, has_condition}
use Rattle.pg_base.specs.Schema.{SchemaParts, kind_at, inputs_of}
use Rattle.pg_base.specs.SchemaOf.{schema_of}
use Rattle.pg_base.specs.TypeRefs.{type_of_kind}
use Rattle.pg_base.specs.declared.does.Does.{Does}
use Rattle.pg_base.specs.declared.does.Does.TheVariants as does
use Rattle.pg_base.specs.declared.kind.Kind.{Kind}
use Rattle.pg_base.specs.declared.kind.Kind.TheVariants as kind
use Rattle.pg_base.specs.declared.role.Role.TheVariants as role
use Rattle.pg_base.specs.declared.schema.ArgDef.{ArgDef}
use Rattle.pg_base.specs.declared.schema.FieldDef.{FieldDef}
use Rattle.pg_base.specs.declared.schema.TypeRef.{TypeRef}
use Rattle.pg_base.specs.declared.table_def.ColumnDef.{ColumnDef}
use Rattle.pg_base.specs.declared.table_def.KeyDef.{KeyDef}
use Rattle.pg_base.specs.declared.table_def.LinkDef.{LinkDef}
use Rattle.pg_base.specs.declared.table_def.TableDef.{TableDef}
use Rattle.place_tree.specs.Arguments.{type_in}
use Rattle.place_tree.specs.Fields.{key_at, key_in, link_at, finds_one}
use Rattle.schema_laws.proofs.Eaches.{Each-get}
use Rattle.schema_laws.proofs.InRoles.{has_order}
use Rattle.schema_laws.proofs.Orders.{kind_at-place, columns_stand, StandsAt, has_condition_type}
use Rattle.schema_laws.specs.Leads.{base_of}
use Rattle.schema_laws.specs.Shapes.{HasType, one_of, HasShapeOf, HasBackwardShape, arguments_of_list, arguments_of_key}
use Rattle.step_plan.proofs.ArgTypes.{IsLeafType, IsKeyType, AreListTypes, BackwardTypes, AreTyped}
use Rattle.step_plan.proofs.Facts.{IsTypeOf}
use Rattle.step_plan.proofs.Schemas.{reads_cases, small, kind_type, column_there, same_link, same_finds, table_of_link}

-- the type of a column has no fields
column_reads : (base : BaseParts) (k : Kind) (name : ℕ) → IsTypeOf base k name → has_fields (reads_at base.schema name) ≡ false
column_reads base kind.Int name h = ap has_fields h
column_reads base kind.BigInt name h = ap has_fields h
column_reads base kind.Bool name h = ap has_fields h
column_reads base kind.Text name h = ap has_fields h
column_reads base (kind.Varchar n) name h = ap has_fields h
column_reads base (kind.Enum e) name h = ap has_fields h.1

chosen_leaf : (base : BaseParts) (b : Bool) (x y : TypeRef) → IsLeafType base x → IsLeafType base y → IsLeafType base (if b then x else y)
chosen_leaf base true x y h k = h
chosen_leaf base false x y h k = k

each_standing : (all : List ColumnDef) (P : ColumnDef → Type 0) → ((place : ℕ) (d : ColumnDef) → slice_get all place ≡ Some d → P d) → (xs : List ℕ) (ys : List ColumnDef) → EachPair (StandsAt all) xs ys → Each P ys
each_standing all P law [] [] h = tt
each_standing all P law [] (y ∷ ys) h = absurd h
each_standing all P law (x ∷ xs) [] h = absurd h
each_standing all P law (x ∷ xs) (y ∷ ys) h = (law x y h.0, each_standing all P law xs ys h.1)

no_args : (c : CatalogParts) (f : FieldDef) (o : Option LinkDef) → IsSomeAnd o (λ l. HasType f (one_of c (role.Row l.target) false) []) → f.args ≡ []
no_args c f None h = absurd h
no_args c f (Some l) h = h.1

module _ (c : CatalogParts) (valid : IsValidCatalog c) where
  abbrev schema : SchemaParts
  schema = schema_of c

  abbrev base : BaseParts
  base = base_of c

  cursor_reads : reads_at (schema_of c) (place_of (roles_of c) role.Cursor) ≡ text
  unfolding schema_of roles_of
  cursor_reads = refl

  first_reads : has_fields (reads_at (schema_of c) 0) ≡ false
  unfolding schema_of roles_of
  first_reads = refl

  -- the type of a column
  kind_reads : (k : Kind) → IsKind c.enums k → has_fields (reads_at schema (type_of_kind (roles_of c) k)) ≡ false
  kind_reads k h = column_reads base k (type_of_kind (roles_of c) k) (kind_type c valid k h)

  column_kind : (t : TableDef) (table : ℕ) → slice_get c.tables table ≡ Some t → (place : ℕ) (d : ColumnDef) → slice_get t.columns place ≡ Some d → IsKind c.enums d.kind
  column_kind t table e place d at = (Each-get (IsValidColumn c.enums) t.columns place d (Each-get (IsValidTable c) c.tables table t valid.tables e).columns at).kind

  -- ---- the fields of a condition

  leaf_among : (columns : List ColumnDef) → Each (λ (d : ColumnDef). IsKind c.enums d.kind) columns → (name : List ℕ) → IsLeafType base (type_in (map (input_field (roles_of c) false) columns) name)
  leaf_among [] h name = ((refl, first_reads), refl)
  leaf_among (d ∷ columns) h name =
      chosen_leaf base (bytes_eq (input_field (roles_of c) false d).name name) (input_field (roles_of c) false d).ty (type_in (map (input_field (roles_of c) false) columns) name)
      ((refl, kind_reads d.kind h.0), refl) (leaf_among columns h.1 name)

  condition_leaves : (t : TableDef) (table : ℕ) → slice_get c.tables table ≡ Some t → has_condition (lookups.table_at c table) ≡ true → (name : List ℕ)
      → IsLeafType base (type_in (inputs_of (kind_at schema (place_of (roles_of c) (role.Condition table)))) name)
  condition_leaves t table e on name =
      let is : lookups.table_at c table ≡ t = ap (λ o. unwrap_or o lookups.no_table) e in
      let there = has_condition_type c table t e (sym (ap has_condition is) ∙ on) in
      let inputs : inputs_of (kind_at schema (place_of (roles_of c) (role.Condition table))) ≡ condition_fields (roles_of c) t =
      ap inputs_of (kind_at-place c (role.Condition table) there) ∙ ap (condition_fields (roles_of c)) is in
      subst (λ l. IsLeafType base (type_in l name)) (sym inputs)
      (leaf_among (columns_on filtering t) (each_standing t.columns (λ (d : ColumnDef). IsKind c.enums d.kind) (column_kind t table e) (columns_with filtering 0 t.columns) (columns_on filtering t) (columns_stand filtering t)) name)

  -- ---- lists

  list_types : (t : TableDef) (table : ℕ) → slice_get c.tables table ≡ Some t → (args : List ArgDef) → args ≡ arguments_of_list c table → AreListTypes base table args
  list_types t table e args is =
      let r = role.Order table in
      let h = has_order c table t e in
      record {
        all = is;
        cursor = cursor_reads;
        order = ap has_fields (reads_cases schema (place_of (roles_of c) r) _ (small c valid r h) (kind_at-place c r h));
        condition = condition_leaves t table e;
      }

  backward_by : (f : FieldDef) (t : TableDef) (table : ℕ) → slice_get c.tables table ≡ Some t → (one : Bool) → HasBackwardShape c f table one → BackwardTypes base table f.args one
  backward_by f t table e true h = h.1
  backward_by f t table e false h = list_types t table e f.args h.1

  backward_types : (f : FieldDef) (table link : ℕ) (o : Option LinkDef) → link_at c table link ≡ o → IsSomeAnd o (λ l. HasBackwardShape c f table (lookups.finds_one (slice_get c.tables table) l))
      → IfSome o (λ l. BackwardTypes base table f.args (finds_one (slice_get c.tables table) l))
  backward_types f table link None e h = tt
  backward_types f table link (Some l) e h =
      let t = table_of_link c valid table link l e in
      backward_by f t.0 table t.1 (finds_one (slice_get c.tables table) l) (subst (HasBackwardShape c f table) (same_finds c valid (slice_get c.tables table) l) h)

  -- ---- keys

  key_types : (t : TableDef) (table : ℕ) → slice_get c.tables table ≡ Some t → (columns : List ℕ) → AreBelow (length t.columns) columns
      → Each (IsKeyType base) (map (λ place. input_field (roles_of c) true (lookups.column_at t place)) columns)
  key_types t table e [] h = tt
  key_types t table e (place ∷ columns) h =
      let d = column_there c valid t place (slice_get t.columns place) refl h.0 in
      let reads : has_fields (reads_at schema (input_field (roles_of c) true (lookups.column_at t place)).ty.name) ≡ false =
      ap (λ o. has_fields (reads_at schema (type_of_kind (roles_of c) (unwrap_or o lookups.no_column).kind))) d.1 ∙ kind_reads d.0.kind (column_kind t table e place d.0 d.1) in
      (((refl, reads), refl), key_types t table e columns h.1)

  key_types_of : (f : FieldDef) (table key : ℕ) → f.args ≡ arguments_of_key c table key → (o : Option KeyDef) → key_at c table key ≡ o → IfSome o (λ k. Each (IsKeyType base) f.args)
  key_types_of f table key is None e = tt
  key_types_of f table key is (Some k) e = by (slice_get c.tables table) refl e
    where
      by : (o : Option TableDef) → slice_get c.tables table ≡ o → key_in o key ≡ Some k → Each (IsKeyType base) f.args
      by None at h = cc
      by (Some t) at h =
          let kv = Each-get (IsValidKey t.columns) t.keys key k (Each-get (IsValidTable c) c.tables table t valid.tables at).keys h in
          let all : f.args ≡ key_arguments (roles_of c) t k =
          is ∙ ap (λ o. key_arguments (roles_of c) (unwrap_or o lookups.no_table) (lookups.key_in (unwrap_or o lookups.no_table) key)) at
          ∙ ap (λ o. key_arguments (roles_of c) t (unwrap_or o lookups.no_key)) h in
          subst (Each (IsKeyType base)) (sym all) (key_types t table at k.columns kv.columns.below)

  -- ---- fields

  pub types_by : (f : FieldDef) (d : Does) → HasShapeOf c f d → ((table : ℕ) → d ≡ does.All table → (t : TableDef) × (slice_get c.tables table ≡ Some t)) → AreTyped base f.args d
  types_by f (does.All table) h there = let t = there table refl in list_types t.0 table t.1 f.args h.1
  types_by f (does.Backward table link) h there =
      backward_types f table link (link_at c table link) refl
      (subst (λ o. IsSomeAnd o (λ l. HasBackwardShape c f table (lookups.finds_one (slice_get c.tables table) l))) (same_link c valid table link) h)
  types_by f (does.ByKey table key) h there = key_types_of f table key h.1 (key_at c table key) refl
  types_by f (does.Forward table link) h there = no_args c f (lookups.link_at c table link) h
  types_by f (does.Create table) h there = tt
  types_by f (does.Update table key) h there = tt
  types_by f (does.Delete table key) h there = tt
  types_by f (does.Column table column) h there = tt
  types_by f does.Nodes h there = tt
  types_by f does.Edges h there = tt
  types_by f does.PageInfo h there = tt
  types_by f does.Total h there = tt
  types_by f does.Node h there = tt
  types_by f does.Cursor h there = tt
  types_by f does.HasNext h there = tt
  types_by f does.HasPrevious h there = tt
  types_by f does.Start h there = tt
  types_by f does.End h there = tt
  types_by f does.ClientId h there = tt
  types_by f does.Payload h there = tt
