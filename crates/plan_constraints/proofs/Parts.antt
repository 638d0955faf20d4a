-- The parts of a value, as code finds them.
use Rattle.std.proofs.Common.{◌≡◌, ℕ, ◌+◌, ◌<◌, Bool, ◌&&◌, List, [], ◌∷◌, length, get_or, drop, Option, Some, None, refl, sym, ap, ◌∙◌}
use Rattle.std.specs.Prelude.{slice_get}
use Rattle.pg_base.specs.declared.value.Value.{Value}
use Rattle.pg_base.specs.declared.value.Value.TheVariants as value
use Rattle.pg_base.specs.declared.value.Value.TheBlock.{hidden-the_row-Value-0, hidden-the_row-Member-1}
use Rattle.pg_base.specs.declared.value.Member.{Member}
use Rattle.pg_base.specs.Value.{member_in, members_of, items_of, is_object}
use Rattle.pg_base.proofs.ListSteps.{drop-item}
use Rattle.plan_constraints.specs.declared.part.Part.{Part}
use Rattle.plan_constraints.specs.Path.{part_of, below}
use Rattle.plan_constraints.specs.Tests.{are_named, has_fields}

-- the fields of an object that is made from a list, and the items of such a list
pub members_of-Object : (ms : List Member) → members_of (value.Object ms) ≡ ms
unfolding hidden-the_row-Member-1 denote.Hole.Carrier.hidden
members_of-Object [] = refl
members_of-Object (m ∷ ms) = ap (λ xs. m ∷ xs) (members_of-Object ms)

pub items_of-List : (vs : List Value) → items_of (value.List vs) ≡ vs
unfolding hidden-the_row-Value-0 denote.Hole.Carrier.hidden
items_of-List [] = refl
items_of-List (v ∷ vs) = ap (λ xs. v ∷ xs) (items_of-List vs)

pub member_found : (v : Value) (name : List ℕ) (members slice : List Member) → v ≡ value.Object members → slice ≡ members → member_in slice name ≡ member_in (members_of v) name
member_found v name members slice is same =
    ap (λ ms. member_in ms name) (same ∙ sym (members_of-Object members)) ∙ ap (λ w. member_in (members_of w) name) (sym is)

pub item_found : (v : Value) (i : ℕ) (items : List Value) → v ≡ value.List items → slice_get items i ≡ slice_get (items_of v) i
item_found v i items is = ap (λ vs. slice_get vs i) (sym (items_of-List items)) ∙ ap (λ w. slice_get (items_of w) i) (sym is)

pub keys_object : (r : Bool) (v : Value) (members slice : List Member) (names : List (List ℕ)) → v ≡ value.Object members → slice ≡ members → r ≡ are_named slice names → r ≡ has_fields v names
keys_object r v members slice names is same h =
    h ∙ ap (λ ms. are_named ms names) (same ∙ sym (members_of-Object members))
    ∙ ap (λ w. is_object w && are_named (members_of w) names) (sym is)

none_below : (path : List Part) → below None path ≡ None
none_below [] = refl
none_below (p ∷ path) = refl

pub stops_below : (at : Value) (path : List Part) (i : ℕ) (p : Part) (total : Option Value) → below (Some at) (drop i path) ≡ total → i < length path → p ≡ get_or path i p → part_of at p ≡ None → None ≡ total
stops_below at path i p total e lt is none =
    sym (none_below (drop (i + 1) path)) ∙ ap (λ o. below o (drop (i + 1) path)) (sym none) ∙ ap (below (Some at)) (sym (drop-item path i p lt is)) ∙ e
