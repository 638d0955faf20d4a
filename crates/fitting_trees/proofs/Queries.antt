-- No place of a query's tree is a mutation field.
use Rattle.std.proofs.Common.{◌≡◌, ℕ, zero, suc, Bool, true, false, List, [], ◌∷◌, Option, Some, None, refl, sym, ap, ◌∙◌}
use Rattle.std.specs.Prelude.{slice_get, IsSomeAnd, option_map}
use Rattle.pg_base.specs.Catalog.{CatalogParts, IsValidCatalog}
use Rattle.pg_base.specs.Lists.{Each}
use Rattle.pg_base.specs.Lookups.{link_at, key_at, finds_one}
use Rattle.pg_base.specs.Schema.{field_at}
use Rattle.pg_base.specs.SchemaOf.{schema_of}
use Rattle.pg_base.specs.declared.does.Does.{Does}
use Rattle.pg_base.specs.declared.does.Does.TheVariants as does
use Rattle.pg_base.specs.declared.schema.FieldDef.{FieldDef}
use Rattle.place_tree.specs.Fields.{does_of, field_of}
use Rattle.place_tree.specs.Needs.{is_mutation}
use Rattle.place_tree.specs.Typed.{StandsUnder, IsTree}
use Rattle.place_tree.specs.declared.place.Place.{Place}
use Rattle.schema_laws.specs.Leads.{ObjectKind, OfQuery, OfMutation, OfRow, OfList, OfEdge, OfPage, OfPayload, NoObject, backward_kind, Leads, kinds_of}
use Rattle.schema_laws.proofs.Leading.{are_kinds}
use Rattle.schema_laws.proofs.Numbers.{is_numbered}
use Rattle.fitting_trees.proofs.Suited.{false_true}

some_and : {A : Type 0} (o : Option A) (P : A → Type 0) → IsSomeAnd o P → ((x : A) → P x → ⊥) → ⊥
some_and None P h f = h
some_and (Some x) P h f = f x h

no_object : (n : ObjectKind) → n ≡ NoObject → n ≡ OfMutation → ⊥
no_object n e h = let both : NoObject ≡ OfMutation = sym e ∙ h in cc

no_row : (n : ObjectKind) (t : ℕ) → n ≡ OfRow t → n ≡ OfMutation → ⊥
no_row n t e h = let both : OfRow t ≡ OfMutation = sym e ∙ h in cc

no_list : (n : ObjectKind) (t : ℕ) → n ≡ OfList t → n ≡ OfMutation → ⊥
no_list n t e h = let both : OfList t ≡ OfMutation = sym e ∙ h in cc

no_edge : (n : ObjectKind) (t : ℕ) → n ≡ OfEdge t → n ≡ OfMutation → ⊥
no_edge n t e h = let both : OfEdge t ≡ OfMutation = sym e ∙ h in cc

no_payload : (n : ObjectKind) (t : ℕ) → n ≡ OfPayload t → n ≡ OfMutation → ⊥
no_payload n t e h = let both : OfPayload t ≡ OfMutation = sym e ∙ h in cc

no_page : (n : ObjectKind) → n ≡ OfPage → n ≡ OfMutation → ⊥
no_page n e h = let both : OfPage ≡ OfMutation = sym e ∙ h in cc

no_query : (n : ObjectKind) → n ≡ OfQuery → n ≡ OfMutation → ⊥
no_query n e h = let both : OfQuery ≡ OfMutation = sym e ∙ h in cc

no_backward : (b : Bool) (n : ObjectKind) (t : ℕ) → n ≡ backward_kind b t → n ≡ OfMutation → ⊥
no_backward true n t e h = no_row n t e h
no_backward false n t e h = no_list n t e h

-- no field gives the root of mutations
no_lead : (c : CatalogParts) (d : Does) (k n : ObjectKind) → Leads c d k n → n ≡ OfMutation → ⊥
no_lead c (does.Column table column) k n h e = no_object n h.2 e
no_lead c (does.Forward table link) k n h e = some_and (link_at c table link) (λ l. n ≡ OfRow l.target) h.1 (λ l x. no_row n l.target x e)
no_lead c (does.Backward table link) k n h e =
    some_and (link_at c table link) (λ l. (k ≡ OfRow l.target) × (n ≡ backward_kind (finds_one (slice_get c.tables table) l) table)) h (λ l x. no_backward (finds_one (slice_get c.tables table) l) n table x.1 e)
no_lead c (does.All table) k n h e = no_list n table h.2 e
no_lead c (does.ByKey table key) k n h e = some_and (key_at c table key) (λ x. n ≡ OfRow table) h.1 (λ x y. no_row n table y e)
no_lead c (does.Create table) k n h e = no_payload n table h.1 e
no_lead c (does.Update table key) k n h e = no_payload n table h.1 e
no_lead c (does.Delete table key) k n h e = no_payload n table h.1 e
no_lead c does.Nodes k n h e = no_row n h.0 h.2 e
no_lead c does.Edges k n h e = no_edge n h.0 h.2 e
no_lead c does.Node k n h e = no_row n h.0 h.2 e
no_lead c does.PageInfo k n h e = no_page n h.2 e
no_lead c does.Total k n h e = no_object n h.2 e
no_lead c does.Cursor k n h e = no_object n h.2 e
no_lead c does.HasNext k n h e = no_object n h.1 e
no_lead c does.HasPrevious k n h e = no_object n h.1 e
no_lead c does.Start k n h e = no_object n h.1 e
no_lead c does.End k n h e = no_object n h.1 e
no_lead c does.ClientId k n h e = no_object n h.2 e
no_lead c does.Payload k n h e = no_row n h.0 h.2 e

-- a mutation field belongs to the root of mutations
of_mutation : (c : CatalogParts) (d : Does) (k n : ObjectKind) → Leads c d k n → is_mutation (Some d) ≡ true → k ≡ OfMutation
of_mutation c (does.Column table column) k n h e = false_true e
of_mutation c (does.Forward table link) k n h e = false_true e
of_mutation c (does.Backward table link) k n h e = false_true e
of_mutation c (does.All table) k n h e = false_true e
of_mutation c (does.ByKey table key) k n h e = false_true e
of_mutation c (does.Create table) k n h e = h.0
of_mutation c (does.Update table key) k n h e = h.0
of_mutation c (does.Delete table key) k n h e = h.0
of_mutation c does.Nodes k n h e = false_true e
of_mutation c does.Edges k n h e = false_true e
of_mutation c does.Node k n h e = false_true e
of_mutation c does.PageInfo k n h e = false_true e
of_mutation c does.Total k n h e = false_true e
of_mutation c does.Cursor k n h e = false_true e
of_mutation c does.HasNext k n h e = false_true e
of_mutation c does.HasPrevious k n h e = false_true e
of_mutation c does.Start k n h e = false_true e
of_mutation c does.End k n h e = false_true e
of_mutation c does.ClientId k n h e = false_true e
of_mutation c does.Payload k n h e = false_true e

each_of_places : {A : Type 0} (P : A → Type 0) (xs : List A) → ((i : ℕ) (x : A) → slice_get xs i ≡ Some x → P x) → Each P xs
each_of_places P [] h = tt
each_of_places P (x ∷ xs) h = (h zero x refl, each_of_places P xs (λ i y e. h (suc i) y e))

module _ (c : CatalogParts) (valid : IsValidCatalog c) (places : List Place) (tree : IsTree (schema_of c) (schema_of c).query places) where
  leads : (ty n : ℕ) (f : FieldDef) → field_at (schema_of c) ty n ≡ Some f → Leads c f.does (kinds_of c ty) (kinds_of c f.ty.name)
  leads ty n f e = (are_kinds c valid (is_numbered c valid)).fields ty n f e

  -- no place's type is the root of mutations
  type_by : (i : ℕ) (p : Place) (o : Option ℕ) → StandsUnder (schema_of c) (schema_of c).query places i p o → kinds_of c p.ty ≡ OfMutation → ⊥
  type_by i p None h e = no_query (kinds_of c (schema_of c).query) (are_kinds c valid (is_numbered c valid)).query (ap (kinds_of c) (sym h) ∙ e)
  type_by i p (Some above) h e =
      no_lead c h.field.does (kinds_of c h.place.ty) (kinds_of c h.field.ty.name) (leads h.place.ty h.place.field h.field h.is_field) (ap (kinds_of c) (sym h.is_type) ∙ e)

  field_by : (i : ℕ) (p : Place) (o : Option FieldDef) → slice_get places i ≡ Some p → field_of (schema_of c) p ≡ o → is_mutation (option_map (λ f. f.does) o) ≡ false
  field_by i p None at e = refl
  field_by i p (Some f) at e = by (is_mutation (Some f.does)) refl
    where
      by : (b : Bool) → is_mutation (Some f.does) ≡ b → is_mutation (Some f.does) ≡ false
      by true m = absurd (type_by i p p.parent (tree.under i p at) (of_mutation c f.does (kinds_of c p.ty) (kinds_of c f.ty.name) (leads p.ty p.field f e) m))
      by false m = m

  pub no_mutations : Each (λ (p : Place). is_mutation (does_of (schema_of c) p) ≡ false) places
  no_mutations = each_of_places (λ (p : Place). is_mutation (does_of (schema_of c) p) ≡ false) places (λ i p at. field_by i p (field_of (schema_of c) p) at refl)
