-- Fields with one response key that are collected from joined selection sets of a valid document have one name, and
-- their own selection sets are joined.
use Rattle.std.proofs.Common.{◌≡◌, ◌<◌, ◌⊎◌, ℕ, Bool, true, false, ◌&&◌, List, [], ◌∷◌, length, Option, Some, None, inl, inr, refl, sym, ap, ◌∙◌, subst, arith, eq-eqb, ltb-true, ltb-false}
use Rattle.std.specs.Prelude.{nat_lt, unwrap_or, ◌==◌}
use Rattle.std.specs.Str.{bytes_eq}
use Rattle.std.proofs.lemmas.Bool.{and_parts}
use Rattle.pg_base.specs.Schema.{SchemaParts}
use Rattle.gql_reader.specs.declared.tree.Document.{Document}
use Rattle.gql_reader.specs.declared.tree.Field.{Field}
use Rattle.gql_nodes.specs.Fields.{field_of}
use Rattle.gql_nodes.specs.Nodes.{at_field, At, nodes}
use Rattle.gql_nodes.specs.Reached.{IsIn}
use Rattle.gql_rules.specs.Rules.{IsValidDocument, on_shapes}
use Rattle.gql_validate.specs.declared.rule.ShapeRule.TheVariants as shape
use Rattle.gql_validate.specs.SameValues.{same_arguments}
use Rattle.gql_validate.specs.FieldSelectionMerging.{IsFieldOf, FieldOn, field_here, field_at, both, share_key, are_alike, are_unlike, IsPair, below, they_differ, AreJoined, alone, of_pair}
use Rattle.gql_validate.specs.FieldSelectionMerging.{response_key as merging_key}
use Rattle.gql_collect.specs.Growing.{key_by, response_key}
use Rattle.fitting_trees.proofs.Named.{same_bytes, equal_bytes, some_is}
use Rattle.fitting_trees.proofs.SoundLiterals.{must}
use Rattle.fitting_trees.proofs.Collecting.{Comes, is_field_of, is_below, within_all}

key_same : (f : Field) → merging_key f ≡ response_key f
key_same f = by f.alias
  where
    by : (o : Option (List ℕ)) → unwrap_or o f.name ≡ key_by o f.name
    by None = refl
    by (Some alias) = refl

and_true : (a b : Bool) → a ≡ true → b ≡ true → (a && b) ≡ true
and_true true b e h = h
and_true false b e h = e

less_or : (m n : ℕ) → (m < n) ⊎ (m ≡ n) ⊎ (n < m)
less_or m n = by (nat_lt m n) (nat_lt n m) refl refl
  where
    by : (a b : Bool) → nat_lt m n ≡ a → nat_lt n m ≡ b → (m < n) ⊎ (m ≡ n) ⊎ (n < m)
    by true b e h = inl (ltb-true m n e)
    by false true e h = inr (inr (ltb-true n m h))
    by false false e h = let p = ltb-false m n e in let q = ltb-false n m h in inr (inl (omega (arith, p, q)))

module _ (schema : SchemaParts) (document : Document) (place : ℕ) (valid : IsValidDocument schema document) where
  -- two selection sets are among some that are joined
  pub record Meets (a b : ℕ) : Type 0 where
    pub joined : List ℕ
    pub are : AreJoined (nodes schema document) joined
    pub first : IsIn joined a
    pub second : IsIn joined b

  abbrev pub AllMeet : (ℕ → Type 0) → Type 0
  AllMeet Base = (a b : ℕ) → Base a → Base b → Meets a b

  turned : (a b : ℕ) → Meets a b → Meets b a
  turned a b h = record { joined = h.joined; are = h.are; first = h.second; second = h.first }

  pub meets_itself : (a : ℕ) → a < length (nodes schema document) → Meets a a
  meets_itself a lt = record { joined = a ∷ []; are = alone a lt; first = inl refl; second = inl refl }

  module _ (Base : ℕ → Type 0) (meets : AllMeet Base) (ty : ℕ) where
    field_at_is : (f : Field) (k : ℕ) → Comes schema document place Base ty f k → field_at (nodes schema document) k ≡ Some (record { parent = ty; field = f })
    field_at_is f k c = ap field_here c.stands

    field_in : (f : Field) (k : ℕ) (joined : List ℕ) (c : Comes schema document place Base ty f k) → IsIn joined c.base → IsFieldOf (nodes schema document) joined k
    field_in f k joined c h = record {
      set = c.owner;
      entered = c.own.enters joined h;
      stands = is_field_of (nodes schema document) c.owner k c.within (Some ty) (field_of schema (Some ty) f.name) f c.own.owned c.stands;
    }

    -- the names are equal, and the sets below are joined
    pub record Together (f g : Field) (i k : ℕ) : Type 0 where
      pub name : f.name ≡ g.name
      pub sets : Meets i k

    in_order : (f g : Field) (i k : ℕ) → Comes schema document place Base ty f i → Comes schema document place Base ty g k → response_key f ≡ response_key g → i < k → Together f g i k
    in_order f g i k c d key lt =
        let all : List At = nodes schema document in
        let m = meets c.base d.base c.of_base d.of_base in
        let x : FieldOn = record { parent = ty; field = f } in
        let y : FieldOn = record { parent = ty; field = g } in
        let shared : share_key x y ≡ true = and_true (ty == ty) (bytes_eq (merging_key f) (merging_key g)) (eq-eqb ty ty refl) (equal_bytes (merging_key f) (merging_key g) (key_same f ∙ key ∙ sym (key_same g))) in
        let both_are : (test : FieldOn → FieldOn → Bool) → both test (field_at all i) (field_at all k) ≡ test x y = λ test. ap (λ o. both test o (field_at all k)) (field_at_is f i c) ∙ ap (λ o. both test (Some x) o) (field_at_is g k d) in
        let pair : IsPair all m.joined i k = record {
          first = field_in f i m.joined c m.first;
          second = field_in g k m.joined d m.second;
          meet = and_true (nat_lt i k) (both share_key (field_at all i) (field_at all k)) (is_below i k lt) (both_are share_key ∙ shared);
        } in
        let alike : are_alike f g ≡ true = must (are_alike f g) (λ h. valid (on_shapes shape.FieldSelectionMerging) k (record { within = d.within; node = at_field d.owner (Some ty) (field_of schema (Some ty) g.name) g }) d.stands
        (record { joined = m.joined; are_joined = m.are; first = i; cannot = they_differ pair (both_are are_unlike ∙ h) })) in
        record {
          name = same_bytes f.name g.name (and_parts (bytes_eq f.name g.name) (same_arguments f.arguments g.arguments) alike).0;
          sets = record { joined = below i k; are = of_pair m.joined m.are pair; first = inl refl; second = inr (inl refl) };
        }

    field_name : {o : Option FieldOn} (f g : Field) → o ≡ Some (record { parent = ty; field = f }) → o ≡ Some (record { parent = ty; field = g }) → f.name ≡ g.name
    field_name f g e h = ap (λ (x : FieldOn). x.field.name) (some_is (record { parent = ty; field = f }) (record { parent = ty; field = g }) (sym e ∙ h))

    pub together : (f g : Field) (i k : ℕ) → Comes schema document place Base ty f i → Comes schema document place Base ty g k → response_key f ≡ response_key g → Together f g i k
    together f g i k c d key = elim (less_or i k) [
      | inl lt ↦ in_order f g i k c d key lt
      | inr (inl same) ↦ record {
        name = field_name f g (field_at_is f i c) (ap (field_at (nodes schema document)) same ∙ field_at_is g k d);
        sets = subst (Meets i) same (meets_itself i (within_all (nodes schema document) i _ c.stands));
      }
      | inr (inr lt) ↦ let h = in_order g f k i d c (sym key) lt in record { name = sym h.name; sets = turned k i h.sets }
    ]
