-- The schema of a valid catalog has what planning takes from it.
use Rattle.std.proofs.Common.{◌≡◌, ◌≢◌, ℕ, zero, suc, ◌+◌, ◌<◌, Bool, true, false, List, [], ◌∷◌, ◌++◌, map, length, Option, Some, None, refl, sym, ap, ◌∙◌, subst, arith, ne_eqb}
use Rattle.std.specs.Prelude.{slice_get, is_some, IfSome, IsSomeAnd, codes, ◌==◌, ◌-◌, ◌/◌, ◌%◌, if◌then◌else◌, unwrap_or, flat_map}
use Rattle.std.specs.Option.{option_and_then}
use Rattle.std.specs.Str.{bytes_eq}
use Rattle.std.proofs.lemmas.Option.{slice_get_within}
use Rattle.std.proofs.lemmas.Slice.Eq.{bytes_eq-Decides}
use Rattle.gql_input.specs.Inputs.{int, big_int, text, boolean, cases, fields, reads_at, reads_of}
use Rattle.pg_base.specs.Base.{BaseParts}
use Rattle.pg_base.specs.Behaviors.{is_on, columns_on, columns_with, ordering, filtering}
use Rattle.pg_base.specs.Catalog.{CatalogParts, IsValidCatalog, IsValidTable, IsValidKey, IsValidColumn}
use Rattle.pg_base.specs.ColumnFields.{column_cases, input_field, key_arguments, condition_fields}
use Rattle.pg_base.specs.Connections.{connection_arguments}
use Rattle.pg_base.specs.EnumCases.{case_of_label}
use Rattle.pg_base.specs.Kind.{IsKind}
use Rattle.pg_base.specs.Listing.{when}
use Rattle.pg_base.specs.Lists.{Each, EachPair, AreBelow}
use Rattle.pg_base.specs.Lookups as lookups
use Rattle.pg_base.specs.MutationInputs.{client_id}
use Rattle.pg_base.specs.Naming.{column_called}
use Rattle.pg_base.specs.Roles.{roles_of, place_of, has_condition}
use Rattle.pg_base.specs.Schema.{SchemaParts, kind_at, kind_of, inputs_of, cases_of, fields_of, field_at, IsTypeFor, is_input, IsValidField, IsValidType, IsValidArg, IsValidSchema, type_name_at}
use Rattle.pg_base.specs.Schema as numbers
use Rattle.pg_base.specs.SchemaOf.{schema_of, kind_of_role}
use Rattle.pg_base.specs.TypeRefs.{type_of_kind, one}
use Rattle.pg_base.specs.declared.does.Does.{Does}
use Rattle.pg_base.specs.declared.does.Does.TheVariants as does
use Rattle.pg_base.specs.declared.kind.Kind.{Kind}
use Rattle.pg_base.specs.declared.kind.Kind.TheVariants as kind
use Rattle.pg_base.specs.declared.role.Role.{Role}
use Rattle.pg_base.specs.declared.role.Role.TheVariants as role
use Rattle.pg_base.specs.declared.schema.ArgDef.{ArgDef}
use Rattle.pg_base.specs.declared.schema.FieldDef.{FieldDef}
use Rattle.pg_base.specs.declared.schema.TypeDef.{TypeDef}
use Rattle.pg_base.specs.declared.schema.TypeKind.{TypeKind}
use Rattle.pg_base.specs.declared.schema.TypeKind.TheVariants as type_kind
use Rattle.pg_base.specs.declared.schema.TypeRef.{TypeRef}
use Rattle.pg_base.specs.declared.table_def.ColumnDef.{ColumnDef}
use Rattle.pg_base.specs.declared.table_def.KeyDef.{KeyDef}
use Rattle.pg_base.specs.declared.table_def.LinkDef.{LinkDef}
use Rattle.pg_base.specs.declared.table_def.TableDef.{TableDef}
use Rattle.place_tree.specs.Arguments.{order_by, condition, by_place, type_in}
use Rattle.place_tree.specs.Fetch.{arg_type}
use Rattle.place_tree.specs.Fields.{columns_of, columns_in, key_at, key_in, link_at, link_in, finds_one, place_named, place_from, by_case, by_column}
use Rattle.plan_steps.specs.Values.{order_name}
use Rattle.schema_laws.proofs.Eaches.{Each-get, Has, same_some}
use Rattle.schema_laws.proofs.InRoles.{has_enum, has_order}
use Rattle.schema_laws.proofs.Orders.{kind_at-place, columns_stand, StandsAt, has_orders, has_inputs, has_condition_type}
use Rattle.schema_laws.proofs.Places.{found}
use Rattle.schema_laws.proofs.Valid.{is_valid}
use Rattle.schema_laws.specs.Leads.{base_of}
use Rattle.schema_laws.specs.Ordered.{order_cases_at}
use Rattle.schema_laws.specs.Shapes.{HasShapeOf, HasBackwardShape, arguments_of_list, arguments_of_key, arguments_of_change}
use Rattle.step_plan.specs.Added.{id_name}
use Rattle.step_plan.proofs.Facts.{IsTypeOf, IsColumnType, AreKeyArgs, IsOrderCase, MayBeCondition, AreListArgs, IsInputArg, AreArgs}
use Rattle.step_plan.proofs.FewTypes.{few_types, role_there}

-- ---- what types read

reads_beyond : (schema : SchemaParts) (n : ℕ) (a b c : Bool) → (n == numbers.int) ≡ a → (n == numbers.string) ≡ b → (n == numbers.boolean) ≡ c → a ≡ false → b ≡ false → c ≡ false → reads_at schema n ≡ reads_of (kind_at schema n) (type_name_at schema n)
reads_beyond schema n a b c e f g x y z =
    ap (λ t. if t then int else (if n == numbers.string then text else (if n == numbers.boolean then boolean else reads_of (kind_at schema n) (type_name_at schema n)))) (e ∙ x)
    ∙ ap (λ t. if t then text else (if n == numbers.boolean then boolean else reads_of (kind_at schema n) (type_name_at schema n))) (f ∙ y)
    ∙ ap (λ t. if t then boolean else reads_of (kind_at schema n) (type_name_at schema n)) (g ∙ z)

-- a type among the schema's reads what its kind does
reads_listed : (schema : SchemaParts) (n : ℕ) → n < numbers.int → reads_at schema n ≡ reads_of (kind_at schema n) (type_name_at schema n)
reads_listed schema n lt =
    reads_beyond schema n (n == numbers.int) (n == numbers.string) (n == numbers.boolean) refl refl refl
    (ne_eqb n numbers.int (λ e. omega (arith, e, lt))) (ne_eqb n numbers.string (λ e. omega (arith, e, lt))) (ne_eqb n numbers.boolean (λ e. omega (arith, e, lt)))

pub reads_cases : (schema : SchemaParts) (n : ℕ) (names : List (List ℕ)) → n < numbers.int → kind_at schema n ≡ type_kind.Enum names → reads_at schema n ≡ cases (cases_of (kind_at schema n))
reads_cases schema n names lt e = reads_listed schema n lt ∙ ap (λ k. reads_of k (type_name_at schema n)) e ∙ sym (ap (λ k. cases (cases_of k)) e)

reads_fields : (schema : SchemaParts) (n : ℕ) (args : List ArgDef) → n < numbers.int → kind_at schema n ≡ type_kind.Input args → reads_at schema n ≡ fields args
reads_fields schema n args lt e = reads_listed schema n lt ∙ ap (λ k. reads_of k (type_name_at schema n)) e

-- ---- cases of orders

-- a case of columns is that of one of them
pub data IsCaseOf (columns : List ColumnDef) (k : ℕ) (name : List ℕ) : Type 0 where
  ascends : (m : ℕ) → (d : ColumnDef) → slice_get columns m ≡ Some d → k ≡ m + m → name ≡ case_of_label (column_called d) ++ codes "_ASC" → IsCaseOf columns k name
  descends : (m : ℕ) → (d : ColumnDef) → slice_get columns m ≡ Some d → k ≡ m + m + 1 → name ≡ case_of_label (column_called d) ++ codes "_DESC" → IsCaseOf columns k name

later_case : (x : ColumnDef) (columns : List ColumnDef) (k : ℕ) (name : List ℕ) → IsCaseOf columns k name → IsCaseOf (x ∷ columns) (suc (suc k)) name
later_case x columns k name (ascends m d at e n) = ascends (suc m) d at (omega (arith, e)) n
later_case x columns k name (descends m d at e n) = descends (suc m) d at (omega (arith, e)) n

case_at : (columns : List ColumnDef) (k : ℕ) (name : List ℕ) → slice_get (flat_map column_cases columns) k ≡ Some name → IsCaseOf columns k name
case_at [] k name h = cc
case_at (x ∷ columns) zero name h = ascends 0 x refl (omega arith) (sym (same_some _ name h))
case_at (x ∷ columns) (suc zero) name h = descends 0 x refl (omega arith) (sym (same_some _ name h))
case_at (x ∷ columns) (suc (suc k)) name h = later_case x columns k name (case_at columns k name h)

pair_at : {A B : Type 0} (R : A → B → Type 0) (xs : List A) (ys : List B) (k : ℕ) (y : B) → EachPair R xs ys → slice_get ys k ≡ Some y → (x : A) × (slice_get xs k ≡ Some x) × R x y
pair_at R [] [] k y h e = cc
pair_at R [] (z ∷ ys) k y h e = absurd h
pair_at R (x ∷ xs) [] k y h e = absurd h
pair_at R (x ∷ xs) (z ∷ ys) zero y h e = (x, refl, subst (R x) (same_some z y e) h.0)
pair_at R (x ∷ xs) (z ∷ ys) (suc k) y h e = pair_at R xs ys k y h.1 e

-- the name that is found stands at its place
name_if : (names : List (List ℕ)) (n name : List ℕ) (from k : ℕ) (test : Bool) → bytes_eq n name ≡ test
    → (place_from (from + 1) names name ≡ Some k → (j : ℕ) × (k ≡ (from + 1) + j) × (slice_get names j ≡ Some name))
    → (if test then Some from else place_from (from + 1) names name) ≡ Some k → (j : ℕ) × (k ≡ from + j) × (slice_get (n ∷ names) j ≡ Some name)
name_if names n name from k true e h is =
    let same : from ≡ k = same_some from k is in
    (0, omega (arith, same), ap Some ((bytes_eq-Decides n name).0 e))
name_if names n name from k false e h is = let r = h is in (suc r.0, omega (arith, r.1), r.2)

name_from : (names : List (List ℕ)) (name : List ℕ) (from k : ℕ) → place_from from names name ≡ Some k → (j : ℕ) × (k ≡ from + j) × (slice_get names j ≡ Some name)
name_from [] name from k h = cc
name_from (n ∷ names) name from k h = name_if names n name from k (bytes_eq n name) refl (name_from names name (from + 1) k) h

name_at : (names : List (List ℕ)) (name : List ℕ) (k : ℕ) → place_named names name ≡ Some k → slice_get names k ≡ Some name
name_at names name k h =
    let r = name_from names name 0 k h in
    let e : r.0 ≡ k = omega (arith, r.1) in
    subst (λ j. slice_get names j ≡ Some name) e r.2

by_case-is : (columns : List ℕ) (k m place : ℕ) (descending : Bool) → k ≢ 0 → (k - 1) / 2 ≡ m → ((k - 1) % 2 == 1) ≡ descending → slice_get columns m ≡ Some place
    → by_case columns k ≡ Some (record { column = place; descending = descending })
by_case-is columns k m place descending pos half rest at =
    ap (λ t. if t then None else by_column (slice_get columns ((k - 1) / 2)) ((k - 1) % 2 == 1)) (ne_eqb k 0 pos)
    ∙ ap (λ j. by_column (slice_get columns j) ((k - 1) % 2 == 1)) half
    ∙ ap (λ o. by_column o ((k - 1) % 2 == 1)) at
    ∙ ap (λ b. Some (record { column = place; descending = b })) rest

case_order : (t : TableDef) (names : List (List ℕ)) (name : List ℕ) (j : ℕ) → place_named names name ≡ Some (suc j) → IsCaseOf (columns_on ordering t) j name → IsOrderCase t.columns names name
case_order t names name j e (ascends m d at k n) =
    let p = pair_at (StandsAt t.columns) (columns_with ordering 0 t.columns) (columns_on ordering t) m d (columns_stand ordering t) at in
    let half : (suc j - 1) / 2 ≡ m = omega (arith, k) in
    let rest : (suc j - 1) % 2 ≡ 0 = omega (arith, k) in
    record {
      by = record { column = p.0; descending = false };
      is = ap (by_place (columns_with ordering 0 t.columns)) e
          ∙ by_case-is (columns_with ordering 0 t.columns) (suc j) m p.0 false (λ q. omega (arith, q)) half (ap (λ x. x == 1) rest) p.1;
      named = ap (λ o. order_name o false) p.2 ∙ sym n;
    }
case_order t names name j e (descends m d at k n) =
    let p = pair_at (StandsAt t.columns) (columns_with ordering 0 t.columns) (columns_on ordering t) m d (columns_stand ordering t) at in
    let half : (suc j - 1) / 2 ≡ m = omega (arith, k) in
    let rest : (suc j - 1) % 2 ≡ 1 = omega (arith, k) in
    record {
      by = record { column = p.0; descending = true };
      is = ap (by_place (columns_with ordering 0 t.columns)) e
          ∙ by_case-is (columns_with ordering 0 t.columns) (suc j) m p.0 true (λ q. omega (arith, q)) half (ap (λ x. x == 1) rest) p.1;
      named = ap (λ o. order_name o true) p.2 ∙ sym n;
    }

natural_not : (name : List ℕ) (A : Type 0) → Some (codes "NATURAL") ≡ Some name → bytes_eq name (codes "NATURAL") ≡ false → A
natural_not name A e h = let t : bytes_eq name (codes "NATURAL") ≡ true = (bytes_eq-Decides name (codes "NATURAL")).1 (sym (same_some (codes "NATURAL") name e)) in cc

case_ordered : (t : TableDef) (names all : List (List ℕ)) → all ≡ codes "NATURAL" ∷ names → ((j : ℕ) (name : List ℕ) → slice_get names j ≡ Some name → IsCaseOf (columns_on ordering t) j name)
    → (name : List ℕ) (o : Option ℕ) → place_named all name ≡ o → is_some o ≡ true → bytes_eq name (codes "NATURAL") ≡ false → IsOrderCase t.columns all name
case_ordered t names all e law name None at there h = cc
case_ordered t names all e law name (Some zero) at there h =
    natural_not name (IsOrderCase t.columns all name) (sym (ap (λ (l : List (List ℕ)). slice_get l 0) e) ∙ name_at all name 0 at) h
case_ordered t names all e law name (Some (suc j)) at there h =
    case_order t all name j at (law j name (sym (ap (λ (l : List (List ℕ)). slice_get l (suc j)) e) ∙ name_at all name (suc j) at))

module _ (c : CatalogParts) (valid : IsValidCatalog c) where
  abbrev schema : SchemaParts
  schema = schema_of c

  abbrev base : BaseParts
  base = base_of c

  pub small : (r : Role) → Has r (roles_of c) → place_of (roles_of c) r < numbers.int
  small r h =
      let few = few_types c valid in
      let within = slice_get_within (roles_of c) (place_of (roles_of c) r) r (found (roles_of c) r h) in
      omega (arith, few, within)

  -- ---- columns

  big_int_type : reads_at (schema_of c) (place_of (roles_of c) role.BigInt) ≡ big_int
  unfolding schema_of roles_of
  big_int_type = refl

  enum_type : (e : ℕ) → e < length c.enums → IsTypeOf base (kind.Enum e) (place_of (roles_of c) (role.Enum e))
  enum_type e lt =
      let h = has_enum c e lt in
      (refl, reads_cases schema (place_of (roles_of c) (role.Enum e)) _ (small (role.Enum e) h) (kind_at-place c (role.Enum e) h))

  pub kind_type : (k : Kind) → IsKind c.enums k → IsTypeOf base k (type_of_kind (roles_of c) k)
  kind_type kind.Int h = refl
  kind_type kind.BigInt h = big_int_type
  kind_type kind.Bool h = refl
  kind_type kind.Text h = refl
  kind_type (kind.Varchar n) h = refl
  kind_type (kind.Enum e) h = enum_type e h

  column_type : (t : TableDef) (table place : ℕ) (d : ColumnDef) → slice_get c.tables table ≡ Some t → slice_get t.columns place ≡ Some d → (ty : TypeRef) → ty.name ≡ type_of_kind (roles_of c) d.kind → IsColumnType base (slice_get (columns_of c table) place) ty
  column_type t table place d e is ty n =
      let tv = Each-get (IsValidTable c) c.tables table t valid.tables e in
      let col = Each-get (IsValidColumn c.enums) t.columns place d tv.columns is in
      subst (λ (l : List ColumnDef). IsColumnType base (slice_get l place) ty) (sym (ap columns_in e))
      (subst (λ o. IsColumnType base o ty) (sym is) (subst (λ m. IsTypeOf base d.kind m) (sym n) (kind_type d.kind col.kind)))

  -- ---- keys

  pub column_there : (t : TableDef) (place : ℕ) (o : Option ColumnDef) → slice_get t.columns place ≡ o → place < length t.columns → (d : ColumnDef) × (slice_get t.columns place ≡ Some d)
  column_there t place None e lt = absurd (none_within t.columns place lt e)
    where
      none_within : (xs : List ColumnDef) (k : ℕ) → k < length xs → slice_get xs k ≡ None → ⊥
      none_within [] k lt e = omega arith
      none_within (x ∷ xs) zero lt e = cc
      none_within (x ∷ xs) (suc k) lt e = none_within xs k (omega arith) e
  column_there t place (Some d) e lt = (d, e)

  key_args : (t : TableDef) (table : ℕ) → slice_get c.tables table ≡ Some t → (columns : List ℕ) → AreBelow (length t.columns) columns
      → AreKeyArgs base table columns (map (λ place. input_field (roles_of c) true (lookups.column_at t place)) columns)
  key_args t table e [] h = tt
  key_args t table e (place ∷ columns) h =
      let d = column_there t place (slice_get t.columns place) refl h.0 in (
        column_type t table place d.0 e d.1 (input_field (roles_of c) true (lookups.column_at t place)).ty
            (ap (λ o. type_of_kind (roles_of c) (unwrap_or o lookups.no_column).kind) d.1),
        key_args t table e columns h.1,
      )

  -- ---- orders

  each_case_of : (t : TableDef) (table : ℕ) → slice_get c.tables table ≡ Some t → (on : Bool) → is_on ordering t.tags ≡ on → (name : List ℕ) → is_some (place_named (order_cases_at c table) name) ≡ true
      → bytes_eq name (codes "NATURAL") ≡ false → IsOrderCase t.columns (order_cases_at c table) name
  each_case_of t table e true on name there h =
      case_ordered t (flat_map column_cases (columns_on ordering t)) (order_cases_at c table) ((has_orders c table t e).all on) (case_at (columns_on ordering t)) name (place_named (order_cases_at c table) name) refl there h
  each_case_of t table e false on name there h =
      case_ordered t [] (order_cases_at c table) ((has_orders c table t e).off on) (λ j n q. cc) name (place_named (order_cases_at c table) name) refl there h

  -- ---- conditions

  each_input_of : (t : TableDef) (table : ℕ) → slice_get c.tables table ≡ Some t → has_condition t ≡ true → (i column : ℕ) (b : ArgDef) → slice_get (columns_with filtering 0 (columns_of c table)) i ≡ Some column
      → slice_get (inputs_of (kind_at schema (place_of (roles_of c) (role.Condition table)))) i ≡ Some b → IsColumnType base (slice_get (columns_of c table) column) b.ty
  each_input_of t table e on i column b at is =
      let there : slice_get (columns_with filtering 0 t.columns) i ≡ Some column = subst (λ (l : List ColumnDef). slice_get (columns_with filtering 0 l) i ≡ Some column) (ap columns_in e) at in
      let d = first_at (columns_with filtering 0 t.columns) (columns_on filtering t) i column (columns_stand filtering t) there in
      let due = ((has_inputs c table t e).condition on).each i d.0 (column, there, d.1) in
      let same : input_field (roles_of c) false d.0 ≡ b = same_some _ b (sym due ∙ is) in
      column_type t table column d.0 e d.1 b.ty (sym (ap (λ (a : ArgDef). a.ty.name) same))
    where
      first_at : (xs : List ℕ) (ys : List ColumnDef) (k x : ℕ) → EachPair (StandsAt t.columns) xs ys → slice_get xs k ≡ Some x → (d : ColumnDef) × (slice_get t.columns x ≡ Some d)
      first_at [] [] k x h e = cc
      first_at [] (y ∷ ys) k x h e = absurd h
      first_at (z ∷ xs) [] k x h e = absurd h
      first_at (z ∷ xs) (y ∷ ys) zero x h e = (y, subst (λ n. slice_get t.columns n ≡ Some y) (same_some z x e) h.0)
      first_at (z ∷ xs) (y ∷ ys) (suc k) x h e = first_at xs ys k x h.1 e

  no_inputs : inputs_of (kind_at (schema_of c) 0) ≡ []
  unfolding schema_of roles_of
  no_inputs = refl

  condition_arg : (t : TableDef) (table : ℕ) → slice_get c.tables table ≡ Some t → (on : Bool) → has_condition t ≡ on → (args : List ArgDef)
      → (o : Option ArgDef) → slice_get args condition ≡ o → o ≡ slice_get (when on (record { name = codes "condition"; ty = one (place_of (roles_of c) (role.Condition table)) false })) 0 → MayBeCondition base table args o
  condition_arg t table e true on args None at is = cc
  condition_arg t table e true on args (Some a) at is =
      let r = role.Condition table in
      let h = has_condition_type c table t e on in
      let same : a.ty ≡ one (place_of (roles_of c) r) false = ap (λ (d : ArgDef). d.ty) (same_some a _ is) in
      let name : a.ty.name ≡ place_of (roles_of c) r = ap (λ (y : TypeRef). y.name) same in
      record {
        inputs = condition_fields (roles_of c) (lookups.table_at c table);
        reads = ap (reads_at schema) name ∙ reads_fields schema (place_of (roles_of c) r) (condition_fields (roles_of c) (lookups.table_at c table)) (small r h) (kind_at-place c r h);
        list = ap (λ (y : TypeRef). y.list) same;
        each_input = λ i column b x y. each_input_of t table e on i column b x (subst (λ n. slice_get (inputs_of (kind_at schema n)) i ≡ Some b) name y);
      }
  condition_arg t table e false on args None at is = ap (λ o. inputs_of (kind_at schema (arg_type o))) at ∙ no_inputs
  condition_arg t table e false on args (Some a) at is = cc

  pub list_args : (t : TableDef) (table : ℕ) → slice_get c.tables table ≡ Some t → (args : List ArgDef) → args ≡ arguments_of_list c table → AreListArgs base table args
  list_args t table e args is =
      let r = role.Order table in
      let h = has_order c table t e in
      let all : args ≡ connection_arguments (roles_of c) table t = is ∙ ap (λ o. connection_arguments (roles_of c) table (unwrap_or o lookups.no_table)) e in
      record {
        order = record { name = codes "orderBy"; ty = Rattle.pg_base.specs.TypeRefs.many (place_of (roles_of c) r) false };
        is_order = ap (λ (l : List ArgDef). slice_get l order_by) all;
        order_items = refl;
        order_reads = reads_cases schema (place_of (roles_of c) r) _ (small r h) (kind_at-place c r h);
        each_case = λ name there not. subst (λ (l : List ColumnDef). IsOrderCase l (order_cases_at c table) name) (sym (ap columns_in e)) (each_case_of t table e (is_on ordering t.tags) refl name there not);
        may_be_condition = condition_arg t table e (has_condition t) refl args (slice_get args condition) refl (ap (λ (l : List ArgDef). slice_get l condition) all);
      }

  -- ---- mutations

  id_among : (rest : List ArgDef) (kind : TypeKind) → kind ≡ type_kind.Input (client_id ∷ rest) → type_in (inputs_of kind) id_name ≡ one numbers.string false
  id_among rest kind e = ap (λ k. type_in (inputs_of k) id_name) e

  input_arg : (r : Role) (rest : List ArgDef) → kind_of_role c (roles_of c) r ≡ type_kind.Input (client_id ∷ rest) → (args : List ArgDef) → args ≡ arguments_of_change c r → Each (IsValidArg schema) args → IsInputArg base args
  input_arg r rest e args is valid_args =
      let input : ArgDef = record { name = codes "input"; ty = one (place_of (roles_of c) r) true } in
      let first : slice_get args 0 ≡ Some input = ap (λ (l : List ArgDef). slice_get l 0) is in
      let typed : IsValidArg schema input = Each-get (IsValidArg schema) args 0 input valid_args first in
      let h = role_there c r valid typed in
      let id = id_among rest (kind_at schema (place_of (roles_of c) r)) (kind_at-place c r h ∙ e) in
      record {
        input = input;
        is_input = first;
        reads = ap (λ (y : TypeRef). reads_at schema y.name) id;
        list = ap (λ (y : TypeRef). y.list) id;
      }

  -- ---- fields

  pub field_valid : (ty field : ℕ) (f : FieldDef) → field_at schema ty field ≡ Some f → IsValidField schema f
  field_valid ty field f h = by (slice_get schema.types ty) refl h
    where
      by : (o : Option TypeDef) → slice_get schema.types ty ≡ o → slice_get (fields_of (kind_of o)) field ≡ Some f → IsValidField schema f
      by None e k = cc
      by (Some t) e k = Each-get (IsValidField schema) (fields_of t.kind) field f (Each-get (IsValidType schema) schema.types ty t (is_valid c valid).types e).fields k

  pub same_link : (table link : ℕ) → lookups.link_at c table link ≡ link_at c table link
  same_link table link = by (slice_get c.tables table)
    where
      by : (o : Option TableDef) → option_and_then (λ (t : TableDef). slice_get t.links link) o ≡ link_in o link
      by None = refl
      by (Some t) = refl

  pub same_key : (table key : ℕ) → lookups.key_at c table key ≡ key_at c table key
  same_key table key = by (slice_get c.tables table)
    where
      by : (o : Option TableDef) → option_and_then (λ (t : TableDef). slice_get t.keys key) o ≡ key_in o key
      by None = refl
      by (Some t) = refl

  pub same_finds : (o : Option TableDef) (l : LinkDef) → lookups.finds_one o l ≡ finds_one o l
  same_finds None l = refl
  same_finds (Some t) l = refl

  pub table_of_link : (table link : ℕ) (l : LinkDef) → link_at c table link ≡ Some l → (t : TableDef) × (slice_get c.tables table ≡ Some t)
  table_of_link table link l h = by (slice_get c.tables table) refl h
    where
      by : (o : Option TableDef) → slice_get c.tables table ≡ o → link_in o link ≡ Some l → (t : TableDef) × (slice_get c.tables table ≡ Some t)
      by None e k = cc
      by (Some t) e k = (t, e)

  backward_args : (f : FieldDef) (table link : ℕ) (o : Option LinkDef) → link_at c table link ≡ o → IsSomeAnd o (λ l. HasBackwardShape c f table (lookups.finds_one (slice_get c.tables table) l))
      → IfSome o (λ l. finds_one (slice_get c.tables table) l ≡ false → AreListArgs base table f.args)
  backward_args f table link None e h = tt
  backward_args f table link (Some l) e h = λ one.
      let t = table_of_link table link l e in
      list_args t.0 table t.1 f.args (subst (HasBackwardShape c f table) (same_finds (slice_get c.tables table) l ∙ one) h).1

  key_args_of : (f : FieldDef) (table key : ℕ) → f.args ≡ arguments_of_key c table key → (o : Option KeyDef) → key_at c table key ≡ o → IfSome o (λ k. AreKeyArgs base table k.columns f.args)
  key_args_of f table key is None e = tt
  key_args_of f table key is (Some k) e = by (slice_get c.tables table) refl e
    where
      by : (o : Option TableDef) → slice_get c.tables table ≡ o → key_in o key ≡ Some k → AreKeyArgs base table k.columns f.args
      by None at h = cc
      by (Some t) at h =
          let tv = Each-get (IsValidTable c) c.tables table t valid.tables at in
          let kv = Each-get (IsValidKey t.columns) t.keys key k tv.keys h in
          let all : f.args ≡ key_arguments (roles_of c) t k =
          is ∙ ap (λ o. key_arguments (roles_of c) (unwrap_or o lookups.no_table) (lookups.key_in (unwrap_or o lookups.no_table) key)) at
          ∙ ap (λ o. key_arguments (roles_of c) t (unwrap_or o lookups.no_key)) h in
          subst (AreKeyArgs base table k.columns) (sym all) (key_args t table at k.columns kv.columns.below)

  pub args_by : (f : FieldDef) (d : Does) → IsValidField schema f → HasShapeOf c f d → ((table : ℕ) → d ≡ does.All table → (t : TableDef) × (slice_get c.tables table ≡ Some t)) → AreArgs base f.args d
  args_by f (does.All table) v h there = let t = there table refl in list_args t.0 table t.1 f.args h.1
  args_by f (does.Backward table link) v h there =
      backward_args f table link (link_at c table link) refl
      (subst (λ o. IsSomeAnd o (λ l. HasBackwardShape c f table (lookups.finds_one (slice_get c.tables table) l))) (same_link table link) h)
  args_by f (does.ByKey table key) v h there = key_args_of f table key h.1 (key_at c table key) refl
  args_by f (does.Create table) v h there = input_arg (role.CreateInput table) _ refl f.args h.1 v.args
  args_by f (does.Update table key) v h there = input_arg (role.UpdateInput table key) _ refl f.args h.1 v.args
  args_by f (does.Delete table key) v h there = input_arg (role.DeleteInput table key) _ refl f.args h.1 v.args
  args_by f (does.Column table column) v h there = tt
  args_by f (does.Forward table link) v h there = tt
  args_by f does.Nodes v h there = tt
  args_by f does.Edges v h there = tt
  args_by f does.PageInfo v h there = tt
  args_by f does.Total v h there = tt
  args_by f does.Node v h there = tt
  args_by f does.Cursor v h there = tt
  args_by f does.HasNext v h there = tt
  args_by f does.HasPrevious v h there = tt
  args_by f does.Start v h there = tt
  args_by f does.End v h there = tt
  args_by f does.ClientId v h there = tt
  args_by f does.Payload v h there = tt
