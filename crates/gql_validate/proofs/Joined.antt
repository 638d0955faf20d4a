-- Where all sets are joined that have to be, nothing breaks the rule on merging.
use Rattle.std.proofs.Common.{◌≡◌, inl, inr, ℕ, zero, suc, ◌+◌, Bool, true, false, if◌then◌else◌, List, [], ◌∷◌, Option, Some, None, length, refl, sym, ap, subst, ◌∙◌, arith}
use Rattle.std.specs.Prelude.{◌==◌, nat_lt, not, slice_get}
use Rattle.std.specs.Str.{bytes_eq}
use Rattle.std.proofs.lemmas.Bool.{and_parts}
use Rattle.std.proofs.lemmas.Bool.Decides.{eqb_tells}
use Rattle.std.proofs.lemmas.Slice.Eq.{bytes_eq-Decides}
use Rattle.gql_reader.specs.declared.tree.Field.{Field}
use Rattle.gql_nodes.specs.Fields.{Known}
use Rattle.gql_nodes.specs.Nodes.{Node, at_definition, at_variable, at_field, at_spread, at_inline, at_directive, at_argument, at_value, at_object_field, At}
use Rattle.gql_nodes.specs.Reached.{IsIn}
use Rattle.gql_nodes.proofs.Closures.{some_same}
use Rattle.gql_validate.specs.declared.slots.Slot.{Slot}
use Rattle.gql_validate.specs.FieldSelectionMerging.{these, fragment_node, field_in, set_in, fields_from, sets_from, fields_of, FieldOn, with_parent, field_on, field_here, field_at, response_key, both, share_key, are_alike, are_unlike, differ, Breaks}
use Rattle.gql_validate.specs.JoinedSets.{head_at, print_from, slot_of, first_in, alike_to, joins_first, field_joins, target_joins, joins, all_join}
use Rattle.gql_validate.proofs.PairLists.{in-either}
use Rattle.gql_validate.proofs.Alike.{alike_third}
use Rattle.gql_validate.proofs.Peaceful.{IsPeaceful, quiet}

equal : (a b : ℕ) → (a == b) ≡ true → a ≡ b
equal a b e = elim (eqb_tells a b) [ inl t ↦ t.1 | inr t ↦ absurd (let both : true ≡ false = sym e ∙ t.0 in cc) ]

if_in : (b : Bool) (xs : List ℕ) (x : ℕ) → IsIn (if b then xs else []) x → IsIn xs x
if_in true xs x h = h
if_in false xs x h = absurd h

-- ---- the fields of a set

record IsOwned (set : ℕ) (x : Node) : Type 0 where
  parent : Option ℕ
  known : Option Known
  field : Field
  is : x ≡ at_field set parent known field

record Here (set place : ℕ) (x : Node) (f : ℕ) : Type 0 where
  same : place ≡ f
  owned : IsOwned set x

owned_by : (owner set place f : ℕ) (parent : Option ℕ) (known : Option Known) (field : Field) (b : Bool) → (owner == set) ≡ b → IsIn (if b then place ∷ [] else []) f → Here set place (at_field owner parent known field) f
owned_by owner set place f parent known field true e (inl same) =
    record { same = same; owned = record { parent = parent; known = known; field = field; is = ap (λ o. at_field o parent known field) (equal owner set e) } }
owned_by owner set place f parent known field true e (inr h) = absurd h
owned_by owner set place f parent known field false e h = absurd h

here : (set place : ℕ) (x : Node) (f : ℕ) → IsIn (field_in set place x) f → Here set place x f
here set place (at_definition repeated d) f h = absurd h
here set place (at_variable repeated v) f h = absurd h
here set place (at_field owner parent known field) f h = owned_by owner set place f parent known field (owner == set) refl h
here set place (at_spread owner parent s) f h = absurd h
here set place (at_inline owner parent i) f h = absurd h
here set place (at_directive repeated at defs d) f h = absurd h
here set place (at_argument repeated defs a) f h = absurd h
here set place (at_value ty kind pos) f h = absurd h
here set place (at_object_field repeated defs name pos) f h = absurd h

record Owned (set place : ℕ) (rest : List At) (f : ℕ) : Type 0 where
  at : ℕ
  node : At
  there : slice_get rest at ≡ Some node
  same : place + at ≡ f
  owned : IsOwned set node.node

later : (place at : ℕ) → (place + 1) + at ≡ place + suc at
later place at = omega arith

first : (place : ℕ) → place + zero ≡ place
first place = omega arith

in_fields : (set place : ℕ) (rest : List At) (f : ℕ) → IsIn (fields_from place rest set) f → Owned set place rest f
in_fields set place [] f h = absurd h
in_fields set place (x ∷ rest) f h = elim (in-either (field_in set place x.node) (fields_from (place + 1) rest set) f h) [
  | inl a ↦ (let k = here set place x.node f a in record { at = zero; node = x; there = refl; same = first place ∙ k.same; owned = k.owned })
  | inr b ↦ (let o = in_fields set (place + 1) rest f b in record { at = suc o.at; node = o.node; there = o.there; same = sym (later place o.at) ∙ o.same; owned = o.owned })
]

-- ---- two fields of one key

record BothAre (o p : Option FieldOn) : Type 0 where
  f : FieldOn
  g : FieldOn
  left : o ≡ Some f
  right : p ≡ Some g
  share : share_key f g ≡ true

both_are : (o p : Option FieldOn) → both share_key o p ≡ true → BothAre o p
both_are None p e = absurd (cc)
both_are (Some f) None e = absurd (cc)
both_are (Some f) (Some g) e = record { f = f; g = g; left = refl; right = refl; share = e }

slots_same : (head : ℕ) (f g : FieldOn) → share_key f g ≡ true → slot_of head f ≡ slot_of head g
slots_same head f g e =
    let p = and_parts (f.parent == g.parent) (bytes_eq (response_key f.field) (response_key g.field)) e in
    let parent = equal f.parent g.parent p.0 in
    let key = (bytes_eq-Decides (response_key f.field) (response_key g.field)).0 p.1 in
    λ i. record { head = head; parent = parent i; print = print_from 0 (key i) }

alike_by : (o : Option FieldOn) (f g : FieldOn) → alike_to o f ≡ true → alike_to o g ≡ true → are_alike f.field g.field ≡ true
alike_by None f g e d = absurd (cc)
alike_by (Some k) f g e d = alike_third k.field f.field g.field e d

no_difference : (o p : Option FieldOn) (f g : FieldOn) → o ≡ Some f → p ≡ Some g → are_alike f.field g.field ≡ true → both are_unlike o p ≡ true → ⊥
no_difference o p f g left right alike d =
    let here : both are_unlike (Some f) (Some g) ≡ true = sym (ap (λ x. both are_unlike x (Some g)) left) ∙ sym (ap (both are_unlike o) right) ∙ d in
    let other : not (are_alike f.field g.field) ≡ false = ap not alike in
    absurd (let clash : true ≡ false = sym here ∙ other in cc)

-- ---- all sets are joined

module _ (nodes : List At) (heads : List ℕ) (slots : List (Slot × ℕ)) where
  abbrev head : ℕ → ℕ
  head set = head_at heads set

  joined_from : (place : ℕ) (rest : List At) (at : ℕ) (x : At) → all_join nodes heads slots place rest ≡ true → slice_get rest at ≡ Some x → joins nodes heads slots (place + at) x.node ≡ true
  joined_from place [] at x e there = absurd (cc)
  joined_from place (y ∷ rest) zero x e there =
      subst (λ (z : At). joins nodes heads slots (place + zero) z.node ≡ true) (some_same y x there)
      (subst (λ n. joins nodes heads slots n y.node ≡ true) (sym (first place)) (and_parts (joins nodes heads slots place y.node) (all_join nodes heads slots (place + 1) rest) e).0)
  joined_from place (y ∷ rest) (suc at) x e there =
      subst (λ n. joins nodes heads slots n x.node ≡ true) (later place at)
      (joined_from (place + 1) rest at x (and_parts (joins nodes heads slots place y.node) (all_join nodes heads slots (place + 1) rest) e).1 there)

  -- the sets of fragments

  target_by : (owner set inner : ℕ) (o : Option ℕ) (b : Bool) → (owner == set) ≡ b → target_joins heads owner o ≡ true → IsIn (if b then these o else []) inner → head inner ≡ head set
  target_by owner set inner None true same e h = absurd h
  target_by owner set inner (Some t) true same e (inl is) = sym (ap head is) ∙ equal (head t) (head owner) e ∙ ap head (equal owner set same)
  target_by owner set inner (Some t) true same e (inr h) = absurd h
  target_by owner set inner o false same e h = absurd h

  inline_by : (owner set place inner : ℕ) (b : Bool) → (owner == set) ≡ b → (head place == head owner) ≡ true → IsIn (if b then place ∷ [] else []) inner → head inner ≡ head set
  inline_by owner set place inner true same e (inl is) = sym (ap head is) ∙ equal (head place) (head owner) e ∙ ap head (equal owner set same)
  inline_by owner set place inner true same e (inr h) = absurd h
  inline_by owner set place inner false same e h = absurd h

  set_here : (set place : ℕ) (x : Node) (inner : ℕ) → joins nodes heads slots place x ≡ true → IsIn (set_in nodes set place x) inner → head inner ≡ head set
  set_here set place (at_definition repeated d) inner e h = absurd h
  set_here set place (at_variable repeated v) inner e h = absurd h
  set_here set place (at_field owner parent known field) inner e h = absurd h
  set_here set place (at_spread owner parent s) inner e h = target_by owner set inner (fragment_node nodes s.name) (owner == set) refl e h
  set_here set place (at_inline owner parent i) inner e h = inline_by owner set place inner (owner == set) refl e h
  set_here set place (at_directive repeated at defs d) inner e h = absurd h
  set_here set place (at_argument repeated defs a) inner e h = absurd h
  set_here set place (at_value ty kind pos) inner e h = absurd h
  set_here set place (at_object_field repeated defs name pos) inner e h = absurd h

  in_sets : (set place : ℕ) (rest : List At) (inner : ℕ) → all_join nodes heads slots place rest ≡ true → IsIn (sets_from nodes place rest set) inner → head inner ≡ head set
  in_sets set place [] inner e h = absurd h
  in_sets set place (x ∷ rest) inner e h =
      let p = and_parts (joins nodes heads slots place x.node) (all_join nodes heads slots (place + 1) rest) e in
      elim (in-either (set_in nodes set place x.node) (sets_from nodes (place + 1) rest set) inner h)
      [ inl a ↦ set_here set place x.node inner p.0 a | inr b ↦ in_sets set (place + 1) rest inner p.1 b ]

  -- the first field of a slot

  record HasFirst (set place : ℕ) (f : FieldOn) : Type 0 where
    first : ℕ
    stands : first_in slots (slot_of (head set) f) ≡ Some first
    joined : head first ≡ head place
    alike : alike_to (field_at nodes first) f ≡ true

  first_by : (set place : ℕ) (f : FieldOn) (o : Option ℕ) → first_in slots (slot_of (head set) f) ≡ o → joins_first nodes heads place f o ≡ true → HasFirst set place f
  first_by set place f None is e = absurd (cc)
  first_by set place f (Some k) is e =
      let p = and_parts (head k == head place) (alike_to (field_at nodes k) f) e in
      record { first = k; stands = is; joined = equal (head k) (head place) p.0; alike = p.1 }

  module _ (e : all_join nodes heads slots 0 nodes ≡ true) where
    first_of : (set place : ℕ) (f : FieldOn) → IsIn (fields_of nodes set) place → field_at nodes place ≡ Some f → HasFirst set place f
    first_of set place f h is =
        let o = in_fields set 0 nodes place (if_in (nat_lt set (length nodes)) (fields_from 0 nodes set) place h) in
        let joined : joins nodes heads slots place o.node.node ≡ true = subst (λ n. joins nodes heads slots n o.node.node ≡ true) o.same (joined_from 0 nodes o.at o.node e o.there) in
        let field : field_joins nodes heads slots place set (with_parent o.owned.parent o.owned.field) ≡ true = subst (λ x. joins nodes heads slots place x ≡ true) o.owned.is joined in
        let there : slice_get nodes place ≡ Some o.node = subst (λ n. slice_get nodes n ≡ Some o.node) (zero_more o.at ∙ o.same) o.there in
        let same : with_parent o.owned.parent o.owned.field ≡ Some f = sym (ap field_on o.owned.is) ∙ sym (ap field_here there) ∙ is in
        first_by set place f (first_in slots (slot_of (head set) f)) refl (subst (λ x. field_joins nodes heads slots place set x ≡ true) same field)
      where
        zero_more : (n : ℕ) → n ≡ 0 + n
        zero_more n = omega arith

    firsts_same : (s t f g : ℕ) (x y : FieldOn) → head s ≡ head t → share_key x y ≡ true → (p : HasFirst s f x) (q : HasFirst t g y) → p.first ≡ q.first
    firsts_same s t f g x y heads_same share p q =
        some_same p.first q.first (sym p.stands ∙ ap (first_in slots) (slots_same (head s) x y share ∙ ap (λ a. slot_of a y) heads_same) ∙ q.stands)

    abbrev Joined : ℕ → ℕ → Type 0
    Joined s t = head s ≡ head t

    below_by : (s t f g : ℕ) → Joined s t → IsIn (fields_of nodes s) f → IsIn (fields_of nodes t) g → BothAre (field_at nodes f) (field_at nodes g) → Joined f g
    below_by s t f g j hf hg b =
        let p = first_of s f b.f hf b.left in
        let q = first_of t g b.g hg b.right in
        sym p.joined ∙ ap head (firsts_same s t f g b.f b.g j b.share p q) ∙ q.joined

    alike_here : (s t f g : ℕ) → Joined s t → IsIn (fields_of nodes s) f → IsIn (fields_of nodes t) g → BothAre (field_at nodes f) (field_at nodes g) → differ nodes f g ≡ true → ⊥
    alike_here s t f g j hf hg b d =
        let p = first_of s f b.f hf b.left in
        let q = first_of t g b.g hg b.right in
        let same = firsts_same s t f g b.f b.g j b.share p q in
        let other : alike_to (field_at nodes q.first) b.f ≡ true = subst (λ n. alike_to (field_at nodes n) b.f ≡ true) same p.alike in
        no_difference (field_at nodes f) (field_at nodes g) b.f b.g b.left b.right (alike_by (field_at nodes q.first) b.f b.g other q.alike) d

    peaceful : IsPeaceful nodes Joined
    peaceful = record {
      self = λ s. refl;
      turned = λ s t j. sym j;
      entered = λ s t set j h. in_sets s 0 nodes set e (if_in (nat_lt s (length nodes)) (sets_from nodes 0 nodes s) set h) ∙ j;
      below = λ s t f g j hf hg share. below_by s t f g j hf hg (both_are (field_at nodes f) (field_at nodes g) share);
      alike = λ s t f g j hf hg share d. alike_here s t f g j hf hg (both_are (field_at nodes f) (field_at nodes g) share) d;
    }

    pub nothing_breaks : (place : ℕ) → Breaks nodes place → ⊥
    nothing_breaks = quiet nodes Joined peaceful
