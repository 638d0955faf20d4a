-- The places that grow from selection sets of a valid document have arguments that fit.
use Rattle.std.proofs.Common.{◌≡◌, ℕ, zero, suc, Bool, true, false, cond, List, [], ◌∷◌, length, Option, Some, None, refl, sym, ap, ◌∙◌}
use Rattle.std.specs.Prelude.{slice_get, IfSome}
use Rattle.std.specs.Str.{bytes_eq}
use Rattle.pg_base.specs.Base.{BaseParts}
use Rattle.pg_base.specs.Lists.{Each}
use Rattle.pg_base.specs.Schema.{SchemaParts, field_at}
use Rattle.pg_base.specs.declared.pos.Pos.{Pos}
use Rattle.pg_base.specs.declared.schema.FieldDef.{FieldDef}
use Rattle.pg_base.specs.declared.schema.TypeRef.{TypeRef}
use Rattle.pg_base.specs.declared.vars.Vars.{Vars}
use Rattle.gql_reader.specs.declared.tree.Document.{Document}
use Rattle.gql_reader.specs.declared.tree.Field.{Field}
use Rattle.gql_reader.specs.declared.tree.Selection.{Selection}
use Rattle.gql_reader.specs.declared.tree.ValueKind.{Variable}
use Rattle.gql_types.specs.Types.{ty_of}
use Rattle.gql_nodes.specs.Nodes.{at_value, nodes}
use Rattle.gql_nodes.specs.Reached.{starts}
use Rattle.gql_nodes.specs.Uses.{Reaches}
use Rattle.gql_rules.specs.Rules.{IsValidDocument}
use Rattle.place_tree.specs.Arguments.{written}
use Rattle.place_tree.specs.declared.place.Place.{Place}
use Rattle.place_tree.specs.declared.place.Tree.{Tree}
use Rattle.gql_collect.specs.Collected.{Request, Met, collected}
use Rattle.gql_collect.specs.Growing.{response_key, keys_of, fields_with, merged, number_of, place_of, with_place, below_place, by_number, with_group, with_keys, with_asked, with_set}
use Rattle.gql_collect.specs.Trees.{request}
use Rattle.plan_steps.specs.Fitting.{FitsPlace}
use Rattle.step_plan.specs.Planned.{HasFieldsOnce, HasOwnArgs}
use Rattle.schema_laws.proofs.Eaches.{Each-append}
use Rattle.fitting_trees.proofs.Named.{same_bytes}
use Rattle.fitting_trees.proofs.Uses.{IsUsed}
use Rattle.fitting_trees.proofs.Collecting.{IsOwner, Standing, Comes, ComesSomewhere, to_standing, within_all, collected_come}
use Rattle.fitting_trees.proofs.Merging.{AllMeet, together}
use Rattle.fitting_trees.proofs.Placed.{IsNamedSchema, placed, below_stand}

-- a field that is collected, with its response key
pub record InGroup (schema : SchemaParts) (document : Document) (place : ℕ) (Base : ℕ → Type 0) (ty : ℕ) (key : List ℕ) (at : ℕ) : Type 0 where
  pub field : Field
  pub comes : Comes schema document place Base ty field at
  pub key_is : response_key field ≡ key

record HasKey (schema : SchemaParts) (document : Document) (place : ℕ) (Base : ℕ → Type 0) (ty : ℕ) (key : List ℕ) (f : Field) : Type 0 where
  pub at : ℕ
  pub comes : Comes schema document place Base ty f at
  pub key_is : response_key f ≡ key

with_key : (schema : SchemaParts) (document : Document) (place : ℕ) (Base : ℕ → Type 0) (ty : ℕ) (key : List ℕ) (fields : List Field) → Each (ComesSomewhere schema document place Base ty) fields → Each (HasKey schema document place Base ty key) (fields_with key fields)
with_key schema document place Base ty key [] h = tt
with_key schema document place Base ty key (f ∷ fields) h = by (bytes_eq key (response_key f)) refl (with_key schema document place Base ty key fields h.1)
  where
    by : (b : Bool) → bytes_eq key (response_key f) ≡ b → Each (HasKey schema document place Base ty key) (fields_with key fields) → Each (HasKey schema document place Base ty key) (cond b (f ∷ fields_with key fields) (fields_with key fields))
    by true e later = (record { at = h.0.0; comes = h.0.1; key_is = sym (same_bytes key (response_key f) e) }, later)
    by false e later = later

abbrev pub IsGood : BaseParts → Vars → Place → Type 0
IsGood base vars p = FitsPlace base vars p × IfSome (written p.args 0) HasFieldsOnce × HasOwnArgs base.schema p

abbrev pub AllGood : BaseParts → Vars → Tree → Type 0
AllGood base vars tree = Each (IsGood base vars) tree.places

module _ (base : BaseParts) (named : IsNamedSchema base.schema) (document : Document) (valid : IsValidDocument base.schema document) (place : ℕ) (vars : Vars)
    (used : (within i : ℕ) (r : TypeRef) (name : List ℕ) (at : Pos) → Reaches (nodes base.schema document) document place within
    → slice_get (nodes base.schema document) i ≡ Some (record { within = within; node = at_value (Some (ty_of r)) (Variable name) at }) → IsUsed base.schema document valid vars r name) where
  abbrev Step : (Option ℕ → ℕ → List Selection → Tree → Tree) → Type 1
  Step next = (Base : ℕ → Type 0) (parent : Option ℕ) (ty : ℕ) (selections : List Selection) (tree : Tree) → AllMeet base.schema document place valid Base → Each (Standing base.schema document place Base ty) selections → AllGood base vars tree
      → AllGood base vars (next parent ty selections tree)

  module _ (next : Option ℕ → ℕ → List Selection → Tree → Tree) (step : Step next) (Base : ℕ → Type 0) (meets : AllMeet base.schema document place valid Base) (parent : Option ℕ) (ty : ℕ) (key : List ℕ) where
    group_meets : AllMeet base.schema document place valid (InGroup base.schema document place Base ty key)
    group_meets a b x y = (together base.schema document place valid Base meets ty x.field y.field a b x.comes y.comes (x.key_is ∙ sym y.key_is)).sets

    merged_stand : (f : Field) (at n : ℕ) (d : FieldDef) → Comes base.schema document place Base ty f at → response_key f ≡ key → number_of base.schema ty f.name ≡ Some n → field_at base.schema ty n ≡ Some d
        → (fields : List Field) → Each (HasKey base.schema document place Base ty key) fields → Each (Standing base.schema document place (InGroup base.schema document place Base ty key) d.ty.name) (merged fields)
    merged_stand f at n d comes key_is number is [] h = tt
    merged_stand f at n d comes key_is number is (g ∷ fields) h =
        let c = h.0.comes in
        let same : f.name ≡ g.name = (together base.schema document place valid Base meets ty f g at h.0.at comes c (key_is ∙ sym h.0.key_is)).name in
        let own : IsOwner base.schema document place h.0.at c.within h.0.at = record {
          reach = c.own.reach;
          enters = λ joined x. starts x;
          owned = within_all (nodes base.schema document) h.0.at _ c.stands;
        } in
        Each-append (Standing base.schema document place (InGroup base.schema document place Base ty key) d.ty.name) g.selections (merged fields)
        (to_standing base.schema document place (InGroup base.schema document place Base ty key) h.0.at c.within h.0.at d.ty.name (Some d.ty.name) g.selections
        (record { field = g; comes = c; key_is = h.0.key_is }) own refl
        (below_stand base named document valid place vars used Base ty g h.0.at c n (ap (number_of base.schema ty) (sym same) ∙ number) parent key d is))
        (merged_stand f at n d comes key_is number is fields h.1)

    below_good : (f : Field) (at n : ℕ) (o : Option FieldDef) (fields : List Field) (i : ℕ) (tree : Tree) → field_at base.schema ty n ≡ o → Comes base.schema document place Base ty f at → response_key f ≡ key → number_of base.schema ty f.name ≡ Some n
        → Each (HasKey base.schema document place Base ty key) fields → AllGood base vars tree → AllGood base vars (below_place next o i (merged fields) tree)
    below_good f at n None fields i tree is comes key_is number h good = good
    below_good f at n (Some d) fields i tree is comes key_is number h good =
        step (InGroup base.schema document place Base ty key) (Some i) d.ty.name (merged fields) tree group_meets (merged_stand f at n d comes key_is number is fields h) good

    number_good : (f : Field) (o : Option ℕ) (fields : List Field) (tree : Tree) → number_of base.schema ty f.name ≡ o → HasKey base.schema document place Base ty key f
        → Each (HasKey base.schema document place Base ty key) fields → AllGood base vars tree → AllGood base vars (by_number next base.schema parent ty key f (merged fields) o tree)
    number_good f None fields tree number k h good = good
    number_good f (Some n) fields tree number k h good =
        let p : Place = place_of base.schema parent ty key f n in
        let own = placed base named document valid place vars used Base ty f k.at k.comes n number parent key in
        below_good f k.at n (field_at base.schema ty n) fields (length tree.places) (with_place p tree) refl k.comes k.key_is number h (Each-append (IsGood base vars) tree.places (p ∷ []) good (own, tt))

    group_good : (fields : List Field) (tree : Tree) → Each (HasKey base.schema document place Base ty key) fields → AllGood base vars tree → AllGood base vars (with_group next base.schema parent ty key fields tree)
    group_good [] tree h good = good
    group_good (f ∷ fields) tree h good = number_good f (number_of base.schema ty f.name) (f ∷ fields) tree refl h.0 h good

  keys_good : (next : Option ℕ → ℕ → List Selection → Tree → Tree) → Step next → (Base : ℕ → Type 0) → AllMeet base.schema document place valid Base → (parent : Option ℕ) (ty : ℕ) (fields : List Field) (keys : List (List ℕ)) (tree : Tree)
      → Each (ComesSomewhere base.schema document place Base ty) fields → AllGood base vars tree → AllGood base vars (with_keys next base.schema parent ty fields keys tree)
  keys_good next step Base meets parent ty fields [] tree h good = good
  keys_good next step Base meets parent ty fields (key ∷ keys) tree h good =
      keys_good next step Base meets parent ty fields keys (with_group next base.schema parent ty key (fields_with key fields) tree) h
      (group_good next step Base meets parent ty key (fields_with key fields) tree (with_key base.schema document place Base ty key fields h) good)

  pub set_good : (n : ℕ) → Step (with_set n (request base.schema document.definitions vars))
  unfolding with_set
  set_good zero Base parent ty selections tree meets h good = good
  set_good (suc n) Base parent ty selections tree meets h good =
      let r : Request = request base.schema document.definitions vars in
      let met : Met = collected r ty selections tree.asked in
      keys_good (with_set n r) (set_good n) Base meets parent ty met.fields (keys_of met.fields) (with_asked met.asked tree)
      (collected_come base.schema document place valid Base ty r selections tree.asked refl h) good
