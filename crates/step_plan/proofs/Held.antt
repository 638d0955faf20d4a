-- The items of a list and the fields of an object, as the code goes through them.
use Rattle.std.proofs.Common.{◌≡◌, List, [], ◌∷◌, refl, sym, ap, ◌∙◌}
use Rattle.pg_base.specs.declared.value.Value.{Value}
use Rattle.pg_base.specs.declared.value.Value.TheVariants as made
use Rattle.pg_base.specs.declared.value.Value.TheBlock.{hidden-the_row-Value-0, hidden-the_row-Member-1}
use Rattle.pg_base.specs.declared.value.Member.{Member}
use Rattle.pg_base.specs.Value.{item_list, member_list, items_of, members_of}

items_row : (items : List Value) → item_list (hidden-the_row-Value-0 items) ≡ items
unfolding hidden-the_row-Value-0 denote.Hole.Carrier.hidden
items_row [] = refl
items_row (v ∷ items) = ap (λ vs. v ∷ vs) (items_row items)

members_row : (members : List Member) → member_list (hidden-the_row-Member-1 members) ≡ members
unfolding hidden-the_row-Member-1 denote.Hole.Carrier.hidden
members_row [] = refl
members_row (m ∷ members) = ap (λ ms. m ∷ ms) (members_row members)

list_made : (items : List Value) → items_of (made.List items) ≡ items
unfolding hidden-the_row-Value-0 denote.Hole.Carrier.hidden
list_made items = items_row items

object_made : (members : List Member) → members_of (made.Object members) ≡ members
unfolding hidden-the_row-Member-1 denote.Hole.Carrier.hidden
object_made members = members_row members

pub items_are : (v : Value) (items slice : List Value) → v ≡ made.List items → slice ≡ items → slice ≡ items_of v
items_are v items slice is same = same ∙ sym (list_made items) ∙ sym (ap items_of is)

pub members_are : (v : Value) (members slice : List Member) → v ≡ made.Object members → slice ≡ members → slice ≡ members_of v
members_are v members slice is same = same ∙ sym (object_made members) ∙ sym (ap members_of is)
