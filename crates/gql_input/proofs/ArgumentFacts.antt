-- Values of arguments with their variables, as the code makes them.
use Rattle.std.proofs.Common.{◌≡◌, List, [], ◌∷◌, Some, unwrap_or, refl, sym, ap, ◌∙◌}
use Rattle.pg_base.specs.declared.value.Value.{Value}
use Rattle.pg_base.specs.declared.value.Value.TheVariants as value
use Rattle.pg_base.specs.declared.value.Member.{Member}
use Rattle.pg_base.specs.declared.vars.Vars.{Vars}
use Rattle.gql_input.specs.declared.argument.ArgValue.{ArgValue}
use Rattle.gql_input.specs.declared.argument.ArgValue.TheVariants as made
use Rattle.gql_input.specs.declared.argument.ArgValue.TheBlock.{hidden-the_row-ArgValue-0, hidden-the_row-ArgMember-1}
use Rattle.gql_input.specs.declared.argument.ArgMember.{ArgMember}
use Rattle.gql_input.specs.Arguments.{value_with, values_with, members_with, and_given}
use Rattle.gql_input.specs.Listed.{each_value, each_member}

items_row : (vars : Vars) (items : List ArgValue) → values_with vars (hidden-the_row-ArgValue-0 items) ≡ each_value vars items
unfolding hidden-the_row-ArgValue-0 denote.Hole.Carrier.hidden
items_row vars [] = refl
items_row vars (v ∷ items) = ap (λ vs. unwrap_or (value_with vars v) value.Null ∷ vs) (items_row vars items)

members_row : (vars : Vars) (members : List ArgMember) → members_with vars (hidden-the_row-ArgMember-1 members) ≡ each_member vars members
unfolding hidden-the_row-ArgMember-1 denote.Hole.Carrier.hidden
members_row vars [] = refl
members_row vars (m ∷ members) = ap (and_given m.name (value_with vars m.value)) (members_row vars members)

list_made : (vars : Vars) (items : List ArgValue) → value_with vars (made.List items) ≡ Some (value.List (each_value vars items))
unfolding hidden-the_row-ArgValue-0 denote.Hole.Carrier.hidden
list_made vars items = ap (λ vs. Some (value.List vs)) (items_row vars items)

object_made : (vars : Vars) (members : List ArgMember) → value_with vars (made.Object members) ≡ Some (value.Object (each_member vars members))
unfolding hidden-the_row-ArgMember-1 denote.Hole.Carrier.hidden
object_made vars members = ap (λ ms. Some (value.Object ms)) (members_row vars members)

pub list_is : (vars : Vars) (v : ArgValue) (items slice : List ArgValue) (values : List Value)
    → v ≡ made.List items → slice ≡ items → values ≡ each_value vars slice → Some (value.List values) ≡ value_with vars v
list_is vars v items slice values is same e =
    ap (λ vs. Some (value.List vs)) (e ∙ ap (each_value vars) same) ∙ sym (list_made vars items) ∙ sym (ap (value_with vars) is)

pub object_is : (vars : Vars) (v : ArgValue) (members slice : List ArgMember) (given : List Member)
    → v ≡ made.Object members → slice ≡ members → given ≡ each_member vars slice → Some (value.Object given) ≡ value_with vars v
object_is vars v members slice given is same e =
    ap (λ ms. Some (value.Object ms)) (e ∙ ap (each_member vars) same) ∙ sym (object_made vars members) ∙ sym (ap (value_with vars) is)
