-- Types where they are used, and the values that are of them.
use Rattle.std.proofs.Common.{◌≡◌, ℕ, Bool, true, false, List, [], ◌∷◌, map, inl, inr, refl, sym, ap, subst, ◌∙◌}
use Rattle.std.specs.Prelude.{if◌then◌else◌, ◌==◌, is_ok, IsTrue}
use Rattle.std.proofs.lemmas.Bool.{and_parts}
use Rattle.std.proofs.lemmas.Bool.Decides.{eqb_tells}
use Rattle.pg_base.specs.Lists.{Each, AreDistinct}
use Rattle.pg_base.specs.Schema.{SchemaParts, kind_at, inputs_of}
use Rattle.pg_base.specs.Value.{member_list}
use Rattle.pg_base.specs.declared.schema.ArgDef.{ArgDef}
use Rattle.pg_base.specs.declared.schema.TypeRef.{TypeRef}
use Rattle.pg_base.specs.declared.value.Member.{Member}
use Rattle.pg_base.specs.declared.value.Value.{Value}
use Rattle.pg_base.specs.declared.value.Value.TheVariants as value
use Rattle.pg_base.specs.declared.value.Value.TheBlock.{hidden-the_row-Value-0, hidden-the_row-Member-1}
use Rattle.gql_types.specs.Types.{Ty, named, list_of, innermost, is_not_null, ty_of}
use Rattle.gql_input.specs.Coercions.{in_lists}
use Rattle.gql_input.specs.Given.{one}
use Rattle.gql_input.specs.Inputs.{Reads, reads_at, has_fields}
use Rattle.gql_input.specs.Leaves.{Leaf, number, truth, words, one_of, as_value, integer_at, boolean_at, case_at}
use Rattle.gql_scopes.specs.AllVariableUsagesAreAllowed.{are_compatible_but_null, null_fits}
use Rattle.place_tree.specs.Arguments.{item_type, type_in}
use Rattle.plan_steps.specs.Fitting.{IsOf, AreOf, AreFields, reads_texts}

-- ---- types

-- the type, but for nulls
abbrev pub Suits : Ty → TypeRef → Type 0
Suits (named n b) r = (r.list ≡ false) × (n ≡ r.name)
Suits (list_of (named n b) c) r = (r.list ≡ true) × (n ≡ r.name)
Suits (list_of (list_of u b) c) r = ⊥

pub suits_itself : (r : TypeRef) → Suits (ty_of r) r
suits_itself r = by r.list refl
  where
    by : (b : Bool) → r.list ≡ b → Suits (if b then list_of (named r.name r.item_not_null) r.not_null else named r.name r.not_null) r
    by true e = (e, refl)
    by false e = (e, refl)

pub null_is : (r : TypeRef) → is_not_null (ty_of r) ≡ r.not_null
null_is r = by r.list
  where
    by : (b : Bool) → is_not_null (if b then list_of (named r.name r.item_not_null) r.not_null else named r.name r.not_null) ≡ r.not_null
    by true = refl
    by false = refl

pub number_is : (a b : ℕ) → (a == b) ≡ true → a ≡ b
number_is a b e = elim (eqb_tells a b) [ inl t ↦ t.1 | inr t ↦ absurd (let both : true ≡ false = sym e ∙ t.0 in cc) ]

pub false_true : {A : Type 0} → false ≡ true → A
false_true e = absurd (cc)

pub suits_compatible : (t : Ty) (r : TypeRef) → are_compatible_but_null t (ty_of r) ≡ true → Suits t r
suits_compatible t r = by t r.list refl
  where
    by : (t : Ty) (b : Bool) → r.list ≡ b → are_compatible_but_null t (if b then list_of (named r.name r.item_not_null) r.not_null else named r.name r.not_null) ≡ true → Suits t r
    by (named n c) false e h = (e, number_is n r.name h)
    by (list_of u c) false e h = false_true h
    by (named n c) true e h = false_true h
    by (list_of (named n c) d) true e h = (e, number_is n r.name (and_parts (n == r.name) (null_fits c r.item_not_null) h).0)
    by (list_of (list_of u c) d) true e h = false_true h

-- ---- lists and objects

items_are : (schema : SchemaParts) (r : TypeRef) (vs : List Value) → Each (IsOf schema r) vs → AreOf schema r (hidden-the_row-Value-0 vs)
unfolding hidden-the_row-Value-0 denote.Hole.Carrier.hidden
items_are schema r [] h = tt
items_are schema r (v ∷ vs) h = (h.0, items_are schema r vs h.1)

pub list_is_of : (schema : SchemaParts) (r : TypeRef) (vs : List Value) → r.list ≡ true → Each (IsOf schema (item_type r)) vs → IsOf schema r (value.List vs)
unfolding hidden-the_row-Value-0 denote.Hole.Carrier.hidden
list_is_of schema r vs e h = (e, items_are schema (item_type r) vs h)

abbrev pub MemberIsOf : SchemaParts → List ArgDef → Member → Type 0
MemberIsOf schema inputs m = IsOf schema (type_in inputs m.name) m.value

members_are : (schema : SchemaParts) (inputs : List ArgDef) (ms : List Member) → Each (MemberIsOf schema inputs) ms → AreFields schema inputs (hidden-the_row-Member-1 ms)
unfolding hidden-the_row-Member-1 denote.Hole.Carrier.hidden
members_are schema inputs [] h = tt
members_are schema inputs (m ∷ ms) h = (h.0, members_are schema inputs ms h.1)

members_row : (ms : List Member) → member_list (hidden-the_row-Member-1 ms) ≡ ms
unfolding hidden-the_row-Member-1 denote.Hole.Carrier.hidden
members_row [] = refl
members_row (m ∷ ms) = ap (λ l. m ∷ l) (members_row ms)

pub object_is_of : (schema : SchemaParts) (r : TypeRef) (ms : List Member) → r.list ≡ false → has_fields (reads_at schema r.name) ≡ true → Each (MemberIsOf schema (inputs_of (kind_at schema r.name))) ms
    → AreDistinct (map (λ m. m.name) ms) → IsOf schema r (value.Object ms)
unfolding hidden-the_row-Member-1 denote.Hole.Carrier.hidden
object_is_of schema r ms e reads h d =
    (e, members_are schema (inputs_of (kind_at schema r.name)) ms h, subst (λ (l : List Member). AreDistinct (map (λ m. m.name) l)) (sym (members_row ms)) d, reads)

-- what isn't a list, in as many lists as the type has
pub wrapped_is_of : (schema : SchemaParts) (t : Ty) (r : TypeRef) (v : Value) → Suits t r → ((q : TypeRef) → q.list ≡ false → innermost t ≡ q.name → IsOf schema q v) → IsOf schema r (in_lists one t v)
wrapped_is_of schema (named n b) r v s h = h r s.0 s.1
wrapped_is_of schema (list_of (named n b) c) r v s h = list_is_of schema r (v ∷ []) s.0 (h (item_type r) refl s.1, tt)
wrapped_is_of schema (list_of (list_of u b) c) r v s h = absurd s

-- ---- leaves

abbrev pub LeafFits : Reads → Leaf → Type 0
LeafFits of (number z) = IsTrue (is_ok (integer_at of z))
LeafFits of (truth b) = IsTrue (is_ok (boolean_at of b))
LeafFits of (words t) = IsTrue (reads_texts of)
LeafFits of (one_of name) = IsTrue (is_ok (case_at of name))

pub leaf_is_of : (schema : SchemaParts) (r : TypeRef) (l : Leaf) → r.list ≡ false → LeafFits (reads_at schema r.name) l → IsOf schema r (as_value l)
leaf_is_of schema r (number z) flat h = (flat, h)
leaf_is_of schema r (truth b) flat h = (flat, h)
leaf_is_of schema r (words t) flat h = (flat, h)
leaf_is_of schema r (one_of name) flat h = (flat, h)

pub leaf_in_lists : (schema : SchemaParts) (t : Ty) (r : TypeRef) (l : Leaf) → Suits t r → LeafFits (reads_at schema (innermost t)) l → IsOf schema r (in_lists one t (as_value l))
leaf_in_lists schema t r l s h =
    wrapped_is_of schema t r (as_value l) s (λ q flat is. leaf_is_of schema q l flat (subst (λ n. LeafFits (reads_at schema n) l) is h))
