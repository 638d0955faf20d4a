-- What planning takes from the schema of a catalog: arguments stand for columns, and their types for the columns' kinds.
use Rattle.std.proofs.Common.{◌≡◌, ℕ, suc, ◌<◌, true, false, List, [], ◌∷◌, length, Option, Some, None, refl, sym, ap, subst}
use Rattle.std.specs.Prelude.{slice_get, is_some, IfSome, IsSomeAnd, codes, ⊤}
use Rattle.std.specs.Str.{bytes_eq}
use Rattle.std.proofs.lemmas.Option.{slice_get_within}
use Rattle.gql_input.specs.Inputs.{int, big_int, text, boolean, cases, fields, reads_at}
use Rattle.pg_base.specs.Base.{BaseParts}
use Rattle.pg_base.specs.Behaviors.{columns_with, ordering, filtering}
use Rattle.pg_base.specs.Catalog.{CatalogParts, IsValidCatalog, IsValidTable, IsValidKey, IsValidLink, IsValidColumn, CanCompare}
use Rattle.pg_base.specs.Kind.{IsKind}
use Rattle.pg_base.specs.Lists.{EachPair, AreBelow}
use Rattle.pg_base.specs.Roles.{roles_of, place_of}
use Rattle.pg_base.specs.Schema.{kind_at, inputs_of, cases_of}
use Rattle.pg_base.specs.declared.does.Does.{Does}
use Rattle.pg_base.specs.declared.does.Does.TheVariants as does
use Rattle.pg_base.specs.declared.kind.Kind.{Kind}
use Rattle.pg_base.specs.declared.kind.Kind.TheVariants as kind
use Rattle.pg_base.specs.declared.role.Role.TheVariants as role
use Rattle.pg_base.specs.declared.schema.ArgDef.{ArgDef}
use Rattle.pg_base.specs.declared.schema.TypeRef.{TypeRef}
use Rattle.pg_base.specs.declared.table_def.ColumnDef.{ColumnDef}
use Rattle.pg_base.specs.declared.table_def.KeyDef.{KeyDef}
use Rattle.pg_base.specs.declared.table_def.LinkDef.{LinkDef}
use Rattle.pg_base.specs.declared.table_def.TableDef.{TableDef}
use Rattle.place_tree.specs.Arguments.{order_by, condition, by_name, type_in}
use Rattle.place_tree.specs.Fetch.{type_of_arg}
use Rattle.place_tree.specs.Fields.{columns_of, columns_in, key_at, key_in, link_at, link_in, finds_one, place_named}
use Rattle.plan_steps.specs.Check.{width_of}
use Rattle.plan_steps.specs.Filled.{enum_cases}
use Rattle.plan_steps.specs.Values.{order_name}
use Rattle.rel_model.specs.declared.window.By.{By}
use Rattle.schema_laws.proofs.Eaches.{Each-get}
use Rattle.step_plan.specs.Added.{id_name}

-- ---- the types of columns

abbrev pub IsTypeOf : BaseParts → Kind → ℕ → Type 0
IsTypeOf base kind.Int name = reads_at base.schema name ≡ int
IsTypeOf base kind.BigInt name = reads_at base.schema name ≡ big_int
IsTypeOf base kind.Bool name = reads_at base.schema name ≡ boolean
IsTypeOf base kind.Text name = reads_at base.schema name ≡ text
IsTypeOf base (kind.Varchar n) name = reads_at base.schema name ≡ text
IsTypeOf base (kind.Enum e) name = (name ≡ place_of (roles_of base.catalog) (role.Enum e)) × (reads_at base.schema name ≡ cases (enum_cases base e))

-- a type that stands for a column
abbrev pub IsColumnType : BaseParts → Option ColumnDef → TypeRef → Type 0
IsColumnType base o ty = IsSomeAnd o (λ c. IsTypeOf base c.kind ty.name)

-- ---- the arguments of row fields

-- one argument for each column of a key
abbrev pub AreKeyArgs : BaseParts → ℕ → List ℕ → List ArgDef → Type 0
AreKeyArgs base table columns args = EachPair (λ column (a : ArgDef). IsColumnType base (slice_get (columns_of base.catalog table) column) a.ty) columns args

-- a case of an order other than NATURAL stands for a column, and has its name
pub record IsOrderCase (columns : List ColumnDef) (names : List (List ℕ)) (name : List ℕ) : Type 0 where
  pub by : By
  pub is : by_name names (columns_with ordering 0 columns) name ≡ Some by
  pub named : order_name (slice_get columns by.column) by.descending ≡ name

-- the argument of a list's condition, whose fields stand for columns
pub record IsConditionArg (base : BaseParts) (table : ℕ) (a : ArgDef) : Type 0 where
  pub inputs : List ArgDef
  pub reads : reads_at base.schema a.ty.name ≡ fields inputs
  pub list : a.ty.list ≡ false
  pub each_input : (i column : ℕ) (b : ArgDef) → slice_get (columns_with filtering 0 (columns_of base.catalog table)) i ≡ Some column
      → slice_get (inputs_of (kind_at base.schema a.ty.name)) i ≡ Some b → IsColumnType base (slice_get (columns_of base.catalog table) column) b.ty

abbrev pub MayBeCondition : BaseParts → ℕ → List ArgDef → Option ArgDef → Type 0
MayBeCondition base table args None = inputs_of (kind_at base.schema (type_of_arg args condition)) ≡ []
MayBeCondition base table args (Some a) = IsConditionArg base table a

-- the arguments of a list of a table's rows
pub record AreListArgs (base : BaseParts) (table : ℕ) (args : List ArgDef) : Type 0 where
  pub order : ArgDef
  pub is_order : slice_get args order_by ≡ Some order
  pub order_items : order.ty.item_not_null ≡ true
  pub order_reads : reads_at base.schema order.ty.name ≡ cases (cases_of (kind_at base.schema order.ty.name))
  pub each_case : (name : List ℕ) → is_some (place_named (cases_of (kind_at base.schema order.ty.name)) name) ≡ true
      → bytes_eq name (codes "NATURAL") ≡ false → IsOrderCase (columns_of base.catalog table) (cases_of (kind_at base.schema order.ty.name)) name
  pub may_be_condition : MayBeCondition base table args (slice_get args condition)

-- the argument of a mutation, which has the client's id among its fields
pub record IsInputArg (base : BaseParts) (args : List ArgDef) : Type 0 where
  pub input : ArgDef
  pub is_input : slice_get args 0 ≡ Some input
  pub reads : reads_at base.schema (type_in (inputs_of (kind_at base.schema input.ty.name)) id_name).name ≡ text
  pub list : (type_in (inputs_of (kind_at base.schema input.ty.name)) id_name).list ≡ false

-- the arguments of a field
abbrev pub AreArgs : BaseParts → List ArgDef → Does → Type 0
AreArgs base args (does.All table) = AreListArgs base table args
AreArgs base args (does.Backward table link) = IfSome (link_at base.catalog table link) (λ l. finds_one (slice_get base.catalog.tables table) l ≡ false → AreListArgs base table args)
AreArgs base args (does.ByKey table key) = IfSome (key_at base.catalog table key) (λ k. AreKeyArgs base table k.columns args)
AreArgs base args (does.Create table) = IsInputArg base args
AreArgs base args (does.Update table key) = IsInputArg base args
AreArgs base args (does.Delete table key) = IsInputArg base args
AreArgs base args (does.Column table column) = ⊤
AreArgs base args (does.Forward table link) = ⊤
AreArgs base args does.Nodes = ⊤
AreArgs base args does.Edges = ⊤
AreArgs base args does.PageInfo = ⊤
AreArgs base args does.Total = ⊤
AreArgs base args does.Node = ⊤
AreArgs base args does.Cursor = ⊤
AreArgs base args does.HasNext = ⊤
AreArgs base args does.HasPrevious = ⊤
AreArgs base args does.Start = ⊤
AreArgs base args does.End = ⊤
AreArgs base args does.ClientId = ⊤
AreArgs base args does.Payload = ⊤

-- ---- the catalog's links and keys

abbrev pub IsTable : CatalogParts → ℕ → Type 0
IsTable c t = (d : TableDef) × (slice_get c.tables t ≡ Some d)

pub record IsLinkIn (c : CatalogParts) (table : ℕ) (link : LinkDef) : Type 0 where
  pub own : IsTable c table
  pub target : IsTable c link.target
  pub columns : AreBelow (width_of c table) link.columns
  pub target_columns : AreBelow (width_of c link.target) link.target_columns
  pub pairs : length link.columns ≡ length link.target_columns

pub record IsKeyIn (c : CatalogParts) (table : ℕ) (key : KeyDef) : Type 0 where
  pub own : IsTable c table
  pub columns : AreBelow (width_of c table) key.columns

key_of : (c : CatalogParts) (table place : ℕ) (o : Option TableDef) (k : KeyDef) → slice_get c.tables table ≡ o → key_in o place ≡ Some k → (t : TableDef) × (slice_get c.tables table ≡ Some t) × (slice_get t.keys place ≡ Some k)
key_of c table place None k e h = cc
key_of c table place (Some t) k e h = (t, e, h)

link_of : (c : CatalogParts) (table place : ℕ) (o : Option TableDef) (l : LinkDef) → slice_get c.tables table ≡ o → link_in o place ≡ Some l → (t : TableDef) × (slice_get c.tables table ≡ Some t) × (slice_get t.links place ≡ Some l)
link_of c table place None l e h = cc
link_of c table place (Some t) l e h = (t, e, h)

columns_are : (c : CatalogParts) (table : ℕ) (t : TableDef) → slice_get c.tables table ≡ Some t → columns_of c table ≡ t.columns
columns_are c table t e = ap columns_in e

below_width : (c : CatalogParts) (table : ℕ) (t : TableDef) (columns : List ℕ) → slice_get c.tables table ≡ Some t → AreBelow (length t.columns) columns → AreBelow (width_of c table) columns
below_width c table t columns e h = subst (λ (l : List ColumnDef). AreBelow (length l) columns) (sym (columns_are c table t e)) h

pub key_is_in : (c : CatalogParts) → IsValidCatalog c → (table place : ℕ) (k : KeyDef) → key_at c table place ≡ Some k → IsKeyIn c table k
key_is_in c valid table place k h =
    let f = key_of c table place (slice_get c.tables table) k refl h in
    let t = Each-get (IsValidTable c) c.tables table f.0 valid.tables f.1 in
    let key = Each-get (IsValidKey f.0.columns) f.0.keys place k t.keys f.2 in
    record { own = (f.0, f.1); columns = below_width c table f.0 k.columns f.1 key.columns.below }

pairs_long : {A B : Type 0} (R : A → B → Type 0) (xs : List A) (ys : List B) → EachPair R xs ys → length xs ≡ length ys
pairs_long R [] [] h = refl
pairs_long R [] (y ∷ ys) h = absurd h
pairs_long R (x ∷ xs) [] h = absurd h
pairs_long R (x ∷ xs) (y ∷ ys) h = ap suc (pairs_long R xs ys h.1)

some_within : (columns others : List ColumnDef) (place other : ℕ) → CanCompare columns others place other → other < length others
some_within columns others place other h = by (slice_get columns place) h
  where
    there : (c : ColumnDef) (o : Option ColumnDef) → slice_get others other ≡ o → IsSomeAnd o (λ d. Rattle.pg_base.specs.Kind.family c.kind ≡ Rattle.pg_base.specs.Kind.family d.kind) → other < length others
    there c None e k = absurd k
    there c (Some d) e k = slice_get_within others other d e

    by : (o : Option ColumnDef) → IsSomeAnd o (λ c. IsSomeAnd (slice_get others other) (λ d. Rattle.pg_base.specs.Kind.family c.kind ≡ Rattle.pg_base.specs.Kind.family d.kind)) → other < length others
    by None k = absurd k
    by (Some c) k = there c (slice_get others other) refl k

compared_below : (columns others : List ColumnDef) (xs ys : List ℕ) → EachPair (CanCompare columns others) xs ys → AreBelow (length others) ys
compared_below columns others [] [] h = tt
compared_below columns others [] (y ∷ ys) h = absurd h
compared_below columns others (x ∷ xs) [] h = absurd h
compared_below columns others (x ∷ xs) (y ∷ ys) h = (some_within columns others x y h.0, compared_below columns others xs ys h.1)

pub link_is_in : (c : CatalogParts) → IsValidCatalog c → (table place : ℕ) (l : LinkDef) → link_at c table place ≡ Some l → IsLinkIn c table l
link_is_in c valid table place l h =
    let f = link_of c table place (slice_get c.tables table) l refl h in
    let t = Each-get (IsValidTable c) c.tables table f.0 valid.tables f.1 in
    let link = Each-get (IsValidLink c f.0.columns) f.0.links place l t.links f.2 in
    by f.0 f.1 link.columns.below (slice_get c.tables l.target) refl link.target
  where
    by : (t : TableDef) → slice_get c.tables table ≡ Some t → AreBelow (length t.columns) l.columns → (o : Option TableDef) → slice_get c.tables l.target ≡ o → IsSomeAnd o (Rattle.pg_base.specs.Catalog.RefersTo t.columns l) → IsLinkIn c table l
    by t e below None is k = absurd k
    by t e below (Some d) is k = record {
      own = (t, e);
      target = (d, is);
      columns = below_width c table t l.columns e below;
      target_columns = below_width c l.target d l.target_columns is (compared_below t.columns d.columns l.columns l.target_columns k.1);
      pairs = pairs_long (CanCompare t.columns d.columns) l.columns l.target_columns k.1;
    }
