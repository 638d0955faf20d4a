-- What is known of a tree and variables of which a plan is made.
use Rattle.std.proofs.Common.{◌≡◌, ℕ, zero, suc, ◌<◌, Bool, true, false, List, [], ◌∷◌, length, Option, Some, None, inl, inr, ◌⊎◌, refl, sym, ap, ◌∙◌, subst, arith, eq-eqb}
use Rattle.std.specs.Prelude.{slice_get, IfSome, IsSomeAnd, ◌==◌}
use Rattle.gql_collect.specs.CollectLaws.{HasField}
use Rattle.pg_base.specs.Base.{BaseParts, IsBase}
use Rattle.pg_base.specs.Catalog.{CatalogParts, IsValidCatalog}
use Rattle.pg_base.specs.Lookups as lookups
use Rattle.pg_base.specs.Schema.{field_at}
use Rattle.pg_base.specs.SchemaOf.{schema_of}
use Rattle.pg_base.specs.declared.does.Does.{Does}
use Rattle.pg_base.specs.declared.does.Does.TheVariants as does
use Rattle.pg_base.specs.declared.schema.FieldDef.{FieldDef}
use Rattle.pg_base.specs.declared.table_def.KeyDef.{KeyDef}
use Rattle.pg_base.specs.declared.table_def.LinkDef.{LinkDef}
use Rattle.pg_base.specs.declared.table_def.TableDef.{TableDef}
use Rattle.pg_base.specs.declared.vars.Vars.{Vars}
use Rattle.place_tree.specs.Arguments.{written}
use Rattle.place_tree.specs.Fields.{typename, field_of, columns_of, columns_in, key_at, link_at}
use Rattle.place_tree.specs.Typed.{Kind, OfQuery, OfMutation, OfRow, OfList, OfEdge, OfPage, OfPayload, NoObject, backward_kind, Leads, IsTree}
use Rattle.place_tree.specs.declared.place.Place.{Place}
use Rattle.place_tree.specs.declared.place.Tree.{Tree}
use Rattle.plan_steps.specs.Fitting.{FitTree}
use Rattle.schema_laws.specs.Leads as laws
use Rattle.schema_laws.specs.Leads.{ObjectKind, kinds_of, base_of}
use Rattle.schema_laws.proofs.Eaches.{Each-get}
use Rattle.schema_laws.proofs.Leading.{are_kinds, mutation_kind}
use Rattle.schema_laws.proofs.Numbers.{is_numbered}
use Rattle.schema_laws.proofs.Shaped.{have_shapes}
use Rattle.step_plan.specs.Planned.{IsRootType, HasOwnArgs, HasFieldsOnce, IsPlannable}
use Rattle.step_plan.proofs.ArgTypes.{AreTyped}
use Rattle.step_plan.proofs.Facts.{AreArgs, IsLinkIn, IsKeyIn, key_is_in, link_is_in}
use Rattle.step_plan.proofs.SchemaTypes.{types_by}
use Rattle.step_plan.proofs.Schemas.{same_link, same_key, same_finds, args_by, field_valid}

pub record IsPlanned (base : BaseParts) (tree : Tree) (vars : Vars) : Type 0 where
  pub kinds : ℕ → Kind
  pub query : kinds base.schema.query ≡ OfQuery
  pub leads : (ty field : ℕ) (f : FieldDef) → field_at base.schema ty field ≡ Some f → Leads base.catalog f.does (kinds ty) (kinds f.ty.name)
  pub args : (ty field : ℕ) (f : FieldDef) → field_at base.schema ty field ≡ Some f → AreArgs base f.args f.does
  pub types : (ty field : ℕ) (f : FieldDef) → field_at base.schema ty field ≡ Some f → AreTyped base f.args f.does
  pub links : (table place : ℕ) (l : LinkDef) → link_at base.catalog table place ≡ Some l → IsLinkIn base.catalog table l
  pub keys : (table place : ℕ) (k : KeyDef) → key_at base.catalog table place ≡ Some k → IsKeyIn base.catalog table k
  pub root : ℕ
  pub root_kind : (kinds root ≡ OfQuery) ⊎ (kinds root ≡ OfMutation)
  pub is_tree : IsTree base.schema root tree.places
  pub named : (i : ℕ) (p : Place) → slice_get tree.places i ≡ Some p → field_of base.schema p ≡ None → (p.field == typename) ≡ true
  pub own : (i : ℕ) (p : Place) → slice_get tree.places i ≡ Some p → HasOwnArgs base.schema p
  pub once : (i : ℕ) (p : Place) → slice_get tree.places i ≡ Some p → IfSome (written p.args 0) HasFieldsOnce
  pub fit : FitTree base vars tree

-- ---- kinds of types

abbrev to_kind : ObjectKind → Kind
to_kind laws.OfQuery = OfQuery
to_kind laws.OfMutation = OfMutation
to_kind (laws.OfRow t) = OfRow t
to_kind (laws.OfList t) = OfList t
to_kind (laws.OfEdge t) = OfEdge t
to_kind laws.OfPage = OfPage
to_kind (laws.OfPayload t) = OfPayload t
to_kind laws.NoObject = NoObject

backward_same : (b : Bool) (t : ℕ) → to_kind (laws.backward_kind b t) ≡ backward_kind b t
backward_same true t = refl
backward_same false t = refl

same_columns : (c : CatalogParts) (table : ℕ) → lookups.columns_of c table ≡ columns_of c table
same_columns c table = by (slice_get c.tables table)
  where
    by : (o : Option TableDef) → lookups.columns_in o ≡ columns_in o
    by None = refl
    by (Some t) = refl

some_as : {A : Type 0} (P Q : A → Type 0) (o p : Option A) → o ≡ p → ((x : A) → P x → Q x) → IsSomeAnd o P → IsSomeAnd p Q
some_as P Q o None e f h = absurd (subst (λ x. IsSomeAnd x P) e h)
some_as P Q o (Some x) e f h = f x (subst (λ y. IsSomeAnd y P) e h)

module _ (c : CatalogParts) (valid : IsValidCatalog c) where
  as_kinds : (d : Does) (k n : ObjectKind) → laws.Leads c d k n → Leads c d (to_kind k) (to_kind n)
  as_kinds (does.Column table column) k n h = (ap to_kind h.0, subst (λ (l : List _). column < length l) (same_columns c table) h.1, ap to_kind h.2)
  as_kinds (does.Forward table link) k n h = (ap to_kind h.0, some_as _ _ (lookups.link_at c table link) (link_at c table link) (same_link c valid table link) (λ l e. ap to_kind e) h.1)
  as_kinds (does.Backward table link) k n h =
      some_as _ _ (lookups.link_at c table link) (link_at c table link) (same_link c valid table link)
      (λ l e. (ap to_kind e.0, ap to_kind e.1 ∙ backward_same (lookups.finds_one (slice_get c.tables table) l) table ∙ ap (λ b. backward_kind b table) (same_finds c valid (slice_get c.tables table) l))) h
  as_kinds (does.All table) k n h = (ap to_kind h.0, h.1, ap to_kind h.2)
  as_kinds (does.ByKey table key) k n h = (ap to_kind h.0, some_as _ _ (lookups.key_at c table key) (key_at c table key) (same_key c valid table key) (λ x e. ap to_kind e) h.1)
  as_kinds (does.Create table) k n h = (ap to_kind h.0, ap to_kind h.1)
  as_kinds (does.Update table key) k n h = (ap to_kind h.0, ap to_kind h.1)
  as_kinds (does.Delete table key) k n h = (ap to_kind h.0, ap to_kind h.1)
  as_kinds does.Nodes k n h = (h.0, ap to_kind h.1, ap to_kind h.2)
  as_kinds does.Edges k n h = (h.0, ap to_kind h.1, ap to_kind h.2)
  as_kinds does.Node k n h = (h.0, ap to_kind h.1, ap to_kind h.2)
  as_kinds does.PageInfo k n h = (h.0, ap to_kind h.1, ap to_kind h.2)
  as_kinds does.Total k n h = (h.0, ap to_kind h.1, ap to_kind h.2)
  as_kinds does.Cursor k n h = (h.0, ap to_kind h.1, ap to_kind h.2)
  as_kinds does.HasNext k n h = (ap to_kind h.0, ap to_kind h.1)
  as_kinds does.HasPrevious k n h = (ap to_kind h.0, ap to_kind h.1)
  as_kinds does.Start k n h = (ap to_kind h.0, ap to_kind h.1)
  as_kinds does.End k n h = (ap to_kind h.0, ap to_kind h.1)
  as_kinds does.ClientId k n h = (h.0, ap to_kind h.1, ap to_kind h.2)
  as_kinds does.Payload k n h = (h.0, ap to_kind h.1, ap to_kind h.2)

  there : {X : Type 0} (xs : List X) (k : ℕ) → k < length xs → (x : X) × (slice_get xs k ≡ Some x)
  there [] k h = absurd (omega arith)
  there (a ∷ xs) zero h = (a, refl)
  there (a ∷ xs) (suc k) h = there xs k (omega arith)

  all_there : (d : Does) (k n : ObjectKind) → laws.Leads c d k n → (table : ℕ) → d ≡ does.All table → (t : TableDef) × (slice_get c.tables table ≡ Some t)
  all_there d k n h table e = there c.tables table (subst (λ x. laws.Leads c x k n) e h).1

  mutation_of : (ty : ℕ) (o : Option ℕ) → (schema_of c).mutation ≡ o → o ≡ Some ty → kinds_of c ty ≡ laws.OfMutation
  mutation_of ty None e h = cc
  mutation_of ty (Some n) e h = subst (λ o. IfSome o (λ m. kinds_of c m ≡ laws.OfMutation)) (e ∙ h) (mutation_kind c)

  root_of : (ty : ℕ) → IsRootType (schema_of c) ty → (to_kind (kinds_of c ty) ≡ OfQuery) ⊎ (to_kind (kinds_of c ty) ≡ OfMutation)
  root_of ty h = elim h [
    | inl e ↦ inl (ap (λ n. to_kind (kinds_of c n)) e ∙ ap to_kind (are_kinds c valid (is_numbered c valid)).query)
    | inr e ↦ inr (ap to_kind (mutation_of ty (schema_of c).mutation refl e))
  ]

  has_name : (p : Place) → HasField (schema_of c) p → field_of (schema_of c) p ≡ None → (p.field == typename) ≡ true
  has_name p h none = elim h [
    | inl e ↦ eq-eqb p.field typename e
    | inr f ↦ absurd (let e = f.1 in cc)
  ]

  planned_of : (tree : Tree) (vars : Vars) → IsPlannable (base_of c) tree vars → IsPlanned (base_of c) tree vars
  planned_of tree vars h =
      let laws_are = are_kinds c valid (is_numbered c valid) in
      record {
        kinds = λ ty. to_kind (kinds_of c ty);
        query = ap to_kind laws_are.query;
        leads = λ ty field f e. as_kinds f.does (kinds_of c ty) (kinds_of c f.ty.name) (laws_are.fields ty field f e);
        args = λ ty field f e. args_by c valid f f.does (field_valid c valid ty field f e) (have_shapes c ty field f e) (all_there f.does (kinds_of c ty) (kinds_of c f.ty.name) (laws_are.fields ty field f e));
        types = λ ty field f e. types_by c valid f f.does (have_shapes c ty field f e) (all_there f.does (kinds_of c ty) (kinds_of c f.ty.name) (laws_are.fields ty field f e));
        links = λ table place l e. link_is_in c valid table place l e;
        keys = λ table place k e. key_is_in c valid table place k e;
        root = h.root;
        root_kind = root_of h.root h.of_root;
        is_tree = h.formed.tree;
        named = λ i p at none. has_name p (Each-get (HasField (schema_of c)) tree.places i p h.formed.fields at) none;
        own = λ i p at. Each-get (HasOwnArgs (schema_of c)) tree.places i p h.own at;
        once = λ i p at. Each-get (λ (q : Place). IfSome (written q.args 0) HasFieldsOnce) tree.places i p h.once at;
        fit = h.fit;
      }

pub planned_is : (base : BaseParts) (tree : Tree) (vars : Vars) → IsBase base → IsValidCatalog base.catalog → IsPlannable base tree vars → IsPlanned base tree vars
planned_is base tree vars is valid h =
    let same : base_of base.catalog ≡ base = λ i. record { catalog = base.catalog; schema = sym is i } in
    subst (λ b. IsPlannable b tree vars → IsPlanned b tree vars) same (planned_of base.catalog valid tree vars) h
