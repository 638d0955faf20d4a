-- Trees whose places stand where their fields belong are trees over their base.
use Rattle.std.proofs.Common.{◌≡◌, ℕ, List, [], Option, Some, None, Bool, true, false, refl, sym, ap, ◌∙◌, subst}
use Rattle.std.specs.Prelude.{slice_get, option_map, is_some}
use Rattle.pg_base.specs.Base.{BaseParts}
use Rattle.pg_base.specs.Catalog.{CatalogParts}
use Rattle.pg_base.specs.declared.does.Does.{Does}
use Rattle.pg_base.specs.declared.does.Does.TheVariants as does
use Rattle.pg_base.specs.declared.schema.FieldDef.{FieldDef}
use Rattle.pg_base.specs.declared.table_def.KeyDef.{KeyDef}
use Rattle.pg_base.specs.declared.table_def.LinkDef.{LinkDef}
use Rattle.pg_base.specs.declared.vars.Vars.{Vars}
use Rattle.place_tree.specs.declared.fetch.Fetch.{Fetch}
use Rattle.place_tree.specs.declared.fetch.KeyCells.TheVariants.{Given}
use Rattle.place_tree.specs.declared.place.Place.{Place}
use Rattle.place_tree.specs.declared.place.Tree.{Tree}
use Rattle.place_tree.specs.Fetch.{list_fetch, key_fetch, forward_fetch, referring_fetch, fetch_by, fetch_in, fetch_of}
use Rattle.place_tree.specs.Fields.{field_of, does_of, key_at, link_at, finds_one, is_row_field}
use Rattle.place_tree.specs.Needs.{is_mutation}
use Rattle.place_tree.specs.Typed.{Kind, OfMutation, NoObject, backward_kind, Leads, AreKinds, IsUnder, StandsUnder, IsTree}
use Rattle.plan_steps.specs.Fetches.{gives_fields, has_fields, TypedTreesStandOverBases}
use Rattle.plan_steps.proofs.Served.{some_and}

module _ (catalog : CatalogParts) where
  -- a field without fields of its own leads to no object
  leaf_leads : (d : Does) (kind next : Kind) → Leads catalog d kind next → gives_fields d ≡ false → next ≡ NoObject
  leaf_leads (does.Column t c) kind next h e = h.2
  leaf_leads does.Total kind next h e = h.2
  leaf_leads does.Cursor kind next h e = h.2
  leaf_leads does.HasNext kind next h e = h.1
  leaf_leads does.HasPrevious kind next h e = h.1
  leaf_leads does.Start kind next h e = h.1
  leaf_leads does.End kind next h e = h.1
  leaf_leads does.ClientId kind next h e = h.2
  leaf_leads _ kind next h e = cc

  -- what is no object has no fields
  none_leads : (d : Does) (next : Kind) → Leads catalog d NoObject next → ⊥
  none_leads (does.Column t c) next h = let e = h.0 in cc
  none_leads (does.Forward t l) next h = let e = h.0 in cc
  none_leads (does.Backward t l) next h = let z = some_and _ (link_at catalog t l) h in let e = z.2.0 in cc
  none_leads (does.All t) next h = let e = h.0 in cc
  none_leads (does.ByKey t k) next h = let e = h.0 in cc
  none_leads (does.Create t) next h = let e = h.0 in cc
  none_leads (does.Update t k) next h = let e = h.0 in cc
  none_leads (does.Delete t k) next h = let e = h.0 in cc
  none_leads does.Nodes next h = let e = h.1 in cc
  none_leads does.Edges next h = let e = h.1 in cc
  none_leads does.Node next h = let e = h.1 in cc
  none_leads does.PageInfo next h = let e = h.1 in cc
  none_leads does.Total next h = let e = h.1 in cc
  none_leads does.Cursor next h = let e = h.1 in cc
  none_leads does.HasNext next h = let e = h.0 in cc
  none_leads does.HasPrevious next h = let e = h.0 in cc
  none_leads does.Start next h = let e = h.0 in cc
  none_leads does.End next h = let e = h.0 in cc
  none_leads does.ClientId next h = let e = h.1 in cc
  none_leads does.Payload next h = let e = h.1 in cc

  backward_no : (b : Bool) (t : ℕ) → OfMutation ≡ backward_kind b t → ⊥
  backward_no true t e = cc
  backward_no false t e = cc

  -- no field leads to the root of mutations
  no_mutation : (d : Does) (kind : Kind) → Leads catalog d kind OfMutation → ⊥
  no_mutation (does.Column t c) kind h = let e = h.2 in cc
  no_mutation (does.Forward t l) kind h = let z = some_and _ (link_at catalog t l) h.1 in let e = z.2 in cc
  no_mutation (does.Backward t l) kind h = let z = some_and _ (link_at catalog t l) h in backward_no (finds_one (slice_get catalog.tables t) z.0) t z.2.1
  no_mutation (does.All t) kind h = let e = h.2 in cc
  no_mutation (does.ByKey t k) kind h = let z = some_and _ (key_at catalog t k) h.1 in let e = z.2 in cc
  no_mutation (does.Create t) kind h = let e = h.1 in cc
  no_mutation (does.Update t k) kind h = let e = h.1 in cc
  no_mutation (does.Delete t k) kind h = let e = h.1 in cc
  no_mutation does.Nodes kind h = let e = h.2 in cc
  no_mutation does.Edges kind h = let e = h.2 in cc
  no_mutation does.Node kind h = let e = h.2 in cc
  no_mutation does.PageInfo kind h = let e = h.2 in cc
  no_mutation does.Total kind h = let e = h.2 in cc
  no_mutation does.Cursor kind h = let e = h.2 in cc
  no_mutation does.HasNext kind h = let e = h.1 in cc
  no_mutation does.HasPrevious kind h = let e = h.1 in cc
  no_mutation does.Start kind h = let e = h.1 in cc
  no_mutation does.End kind h = let e = h.1 in cc
  no_mutation does.ClientId kind h = let e = h.2 in cc
  no_mutation does.Payload kind h = let e = h.2 in cc

  mutation_from : (d : Does) (kind next : Kind) → is_mutation (Some d) ≡ true → Leads catalog d kind next → kind ≡ OfMutation
  mutation_from (does.Create t) kind next m h = h.0
  mutation_from (does.Update t k) kind next m h = h.0
  mutation_from (does.Delete t k) kind next m h = h.0
  mutation_from _ kind next m h = cc

module _ (base : BaseParts) (kinds : ℕ → Kind) (are : AreKinds base kinds) where
  abbrev Asks : FieldDef → Vars → Place → Does → Type 0
  Asks f vars p d = (due : Fetch) × (fetch_by base f vars p d ≡ Some due)

  by_key : (f : FieldDef) (vars : Vars) (p : Place) (table : ℕ) (o : Option KeyDef) (k : KeyDef) → o ≡ Some k → (due : Fetch) × (key_fetch base f vars p table o ≡ Some due)
  by_key f vars p table None k e = cc
  by_key f vars p table (Some k) other e = (_, refl)

  by_link : (o : Option LinkDef) (l : LinkDef) → o ≡ Some l → (due : Fetch) × (forward_fetch o ≡ Some due)
  by_link None l e = cc
  by_link (Some l) other e = (_, refl)

  by_referring : (f : FieldDef) (vars : Vars) (p : Place) (table : ℕ) (o : Option LinkDef) (l : LinkDef) → o ≡ Some l → (due : Fetch) × (referring_fetch base f vars p table o ≡ Some due)
  by_referring f vars p table None l e = cc
  by_referring f vars p table (Some l) other e = (_, refl)

  asks_by : (f : FieldDef) (vars : Vars) (p : Place) (d : Does) (kind next : Kind) → is_row_field (Some d) ≡ true → Leads base.catalog d kind next → Asks f vars p d
  asks_by f vars p (does.All table) kind next row h = (list_fetch base f vars p table [] (Given []), refl)
  asks_by f vars p (does.ByKey table key) kind next row h = let z = some_and _ (key_at base.catalog table key) h.1 in by_key f vars p table (key_at base.catalog table key) z.0 z.1
  asks_by f vars p (does.Forward table link) kind next row h = let z = some_and _ (link_at base.catalog table link) h.1 in by_link (link_at base.catalog table link) z.0 z.1
  asks_by f vars p (does.Backward table link) kind next row h = let z = some_and _ (link_at base.catalog table link) h in by_referring f vars p table (link_at base.catalog table link) z.0 z.1
  asks_by f vars p _ kind next row h = cc

  leads : (p : Place) (f : FieldDef) → field_of base.schema p ≡ Some f → Leads base.catalog f.does (kinds p.ty) (kinds f.ty.name)
  leads p f e = are.fields p.ty p.field f e

  asks : (p : Place) (vars : Vars) → is_row_field (does_of base.schema p) ≡ true → (due : Fetch) × (fetch_of base vars p ≡ Some due)
  unfolding fetch_of
  asks p vars row = by_definition (field_of base.schema p) refl row where
    by_definition : (o : Option FieldDef) → field_of base.schema p ≡ o → is_row_field (option_map (λ f. f.does) o) ≡ true → (due : Fetch) × (fetch_in base vars p o ≡ Some due)
    by_definition None e row = cc
    by_definition (Some f) e row = asks_by f vars p f.does (kinds p.ty) (kinds f.ty.name) row (leads p f e)

  module _ (root : ℕ) (tree : Tree) (is : IsTree base.schema root tree.places) where
    below : (i : ℕ) (p : Place) (a : ℕ) → slice_get tree.places i ≡ Some p → p.parent ≡ Some a → IsUnder base.schema tree.places i p a
    below i p a at e = subst (StandsUnder base.schema root tree.places i p) e (is.under i p at)

    -- the place above has a field, which leads to what the place is of
    above_leads : (i : ℕ) (p : Place) (a : ℕ) (q : Place) → slice_get tree.places i ≡ Some p → p.parent ≡ Some a → slice_get tree.places a ≡ Some q → (g : FieldDef) × (field_of base.schema q ≡ Some g) × Leads base.catalog g.does (kinds q.ty) (kinds p.ty)
    above_leads i p a q at e above =
        let u = below i p a at e in
        let same : u.place ≡ q = one_place tree.places a u.place q u.is_place above in
        let field = subst (λ x. field_of base.schema x ≡ Some u.field) same u.is_field in
        (u.field, field, subst (λ ty. Leads base.catalog u.field.does (kinds q.ty) (kinds ty)) (sym u.is_type) (leads q u.field field))
      where
        one_place : (places : List Place) (a : ℕ) (p q : Place) → slice_get places a ≡ Some p → slice_get places a ≡ Some q → p ≡ q
        one_place places a p q e h = cc

    field_told : (o : Option FieldDef) → is_some o ≡ true → (f : FieldDef) × (o ≡ Some f)
    field_told None h = cc
    field_told (Some f) h = (f, refl)

    fields_above : (p q : Place) (f g : FieldDef) (b : Bool) → gives_fields g.does ≡ b → Leads base.catalog f.does (kinds p.ty) (kinds f.ty.name) → Leads base.catalog g.does (kinds q.ty) (kinds p.ty) → b ≡ true
    fields_above p q f g true e h k = refl
    fields_above p q f g false e h k =
        absurd (none_leads base.catalog f.does (kinds f.ty.name) (subst (λ kind. Leads base.catalog f.does kind (kinds f.ty.name)) (leaf_leads base.catalog g.does (kinds q.ty) (kinds p.ty) k e) h))

    above_has : (i : ℕ) (p : Place) (a : ℕ) (q : Place) → slice_get tree.places i ≡ Some p → p.parent ≡ Some a → slice_get tree.places a ≡ Some q → is_some (field_of base.schema p) ≡ true → has_fields (does_of base.schema q) ≡ true
    above_has i p a q at e above field =
        let f = field_told (field_of base.schema p) field in
        let g = above_leads i p a q at e above in
        ap (λ o. has_fields (option_map (λ f. f.does) o)) g.1 ∙ fields_above p q f.0 g.0 (gives_fields g.0.does) refl (leads p f.0 f.1) g.2

    mutation_told : (o : Option FieldDef) → is_mutation (option_map (λ f. f.does) o) ≡ true → (f : FieldDef) × (o ≡ Some f) × (is_mutation (Some f.does) ≡ true)
    mutation_told None m = cc
    mutation_told (Some f) m = (f, refl, m)

    mutation_at : (i : ℕ) (p : Place) → slice_get tree.places i ≡ Some p → is_mutation (does_of base.schema p) ≡ true → (o : Option ℕ) → p.parent ≡ o → o ≡ None
    mutation_at i p at m None e = refl
    mutation_at i p at m (Some a) e =
        let u = below i p a at e in
        let g = above_leads i p a u.place at e u.is_place in
        let f = mutation_told (field_of base.schema p) m in
        let kind = mutation_from base.catalog f.0.does (kinds p.ty) (kinds f.0.ty.name) f.2 (leads p f.0 f.1) in
        absurd (no_mutation base.catalog g.0.does (kinds u.place.ty) (subst (Leads base.catalog g.0.does (kinds u.place.ty)) kind g.2))

-- the law
pub typed_trees : TypedTreesStandOverBases
typed_trees base kinds root tree valid are is named = record {
  catalog = valid;
  made = record { named = named; at_root = λ i p at m. mutation_at base kinds are root tree is i p at m p.parent refl };
  earlier = λ i p above at e. (below base kinds are root tree is i p above at e).earlier;
  above = above_has base kinds are root tree is;
  asks = λ i p vars at row. asks base kinds are p vars row;
}
