-- Lists and objects, as the code goes through them.
use Rattle.std.proofs.Common.{◌≡◌, ℕ, Bool, List, [], ◌∷◌, ◌++◌, Option, Some, refl, sym, ap, ◌∙◌, append_assoc}
use Rattle.std.specs.List.{list_any}
use Rattle.pg_base.specs.declared.value.Value.{Value}
use Rattle.pg_base.specs.declared.value.Value.TheVariants as made
use Rattle.pg_base.specs.declared.value.Value.TheBlock.{hidden-the_row-Value-0, hidden-the_row-Member-1}
use Rattle.pg_base.specs.declared.value.Member.{Member}
use Rattle.pg_base.specs.Value.{item_list, items_of, is_null}
use Rattle.gql_input.specs.declared.argument.ArgValue.{ArgValue}
use Rattle.gql_input.specs.declared.argument.ArgValue.TheVariants as arg
use Rattle.gql_input.specs.declared.argument.ArgValue.TheBlock.{hidden-the_row-ArgValue-0, hidden-the_row-ArgMember-1}
use Rattle.gql_input.specs.declared.argument.ArgMember.{ArgMember}
use Rattle.plan_constraints.specs.declared.constraint.Constraint.{Constraint}
use Rattle.plan_steps.specs.Fetches.{holds_null}
use Rattle.dedupe_steps.specs.declared.words.Word.{Word}
use Rattle.dedupe_steps.specs.declared.words.Word.TheVariants as word
use Rattle.dedupe_steps.specs.Words.{value_words, item_words, member_words, each_value, each_member}
use Rattle.dedupe_steps.specs.ArgWords as args
use Rattle.dedupe_steps.specs.Orders.{null_in, null_items, either_of, null_item}
use Rattle.dedupe_steps.specs.Sights.{each_null}

-- ---- values

items_row : (items : List Value) → item_words (hidden-the_row-Value-0 items) ≡ each_value items
unfolding hidden-the_row-Value-0 denote.Hole.Carrier.hidden
items_row [] = refl
items_row (v ∷ items) = ap (λ ws. (word.Number 1 ∷ value_words v) ++ ws) (items_row items)

members_row : (members : List Member) → member_words (hidden-the_row-Member-1 members) ≡ each_member members
unfolding hidden-the_row-Member-1 denote.Hole.Carrier.hidden
members_row [] = refl
members_row (m ∷ members) = ap (λ ws. (word.Number 1 ∷ word.Letters m.name ∷ value_words m.value) ++ ws) (members_row members)

pub list_made : (items : List Value) → value_words (made.List items) ≡ word.Number 5 ∷ each_value items
unfolding hidden-the_row-Value-0 denote.Hole.Carrier.hidden
list_made items = ap (λ ws. word.Number 5 ∷ ws) (items_row items)

pub object_made : (members : List Member) → value_words (made.Object members) ≡ word.Number 6 ∷ each_member members
unfolding hidden-the_row-Member-1 denote.Hole.Carrier.hidden
object_made members = ap (λ ws. word.Number 6 ∷ ws) (members_row members)

-- ---- arguments

args_row : (items : List ArgValue) → args.item_words (hidden-the_row-ArgValue-0 items) ≡ args.each_arg items
unfolding hidden-the_row-ArgValue-0 denote.Hole.Carrier.hidden
args_row [] = refl
args_row (a ∷ items) = ap (λ ws. (word.Number 1 ∷ args.arg_words a) ++ ws) (args_row items)

fields_row : (members : List ArgMember) → args.member_words (hidden-the_row-ArgMember-1 members) ≡ args.each_field members
unfolding hidden-the_row-ArgMember-1 denote.Hole.Carrier.hidden
fields_row [] = refl
fields_row (m ∷ members) = ap (λ ws. (word.Number 1 ∷ word.Letters m.name ∷ args.arg_words m.value) ++ ws) (fields_row members)

pub arg_list_made : (items : List ArgValue) → args.arg_words (arg.List items) ≡ word.Number 5 ∷ args.each_arg items
unfolding hidden-the_row-ArgValue-0 denote.Hole.Carrier.hidden
arg_list_made items = ap (λ ws. word.Number 5 ∷ ws) (args_row items)

pub arg_object_made : (members : List ArgMember) → args.arg_words (arg.Object members) ≡ word.Number 6 ∷ args.each_field members
unfolding hidden-the_row-ArgMember-1 denote.Hole.Carrier.hidden
arg_object_made members = ap (λ ws. word.Number 6 ∷ ws) (fields_row members)

-- ---- nulls

value_row : (items : List Value) → item_list (hidden-the_row-Value-0 items) ≡ items
unfolding hidden-the_row-Value-0 denote.Hole.Carrier.hidden
value_row [] = refl
value_row (v ∷ items) = ap (λ vs. v ∷ vs) (value_row items)

pub nulls_made : (items : List Value) → list_any is_null items ≡ holds_null (Some (made.List items))
unfolding hidden-the_row-Value-0 denote.Hole.Carrier.hidden
nulls_made items = sym (ap (list_any is_null) (value_row items))

null_row : (constraints : List Constraint) (items : List ArgValue) → null_items constraints (hidden-the_row-ArgValue-0 items) ≡ each_null constraints items
unfolding hidden-the_row-ArgValue-0 denote.Hole.Carrier.hidden
null_row constraints [] = refl
null_row constraints (a ∷ items) = ap (either_of (null_item constraints a)) (null_row constraints items)

pub nulls_in : (constraints : List Constraint) (items : List ArgValue) → each_null constraints items ≡ null_in constraints (arg.List items)
unfolding hidden-the_row-ArgValue-0 denote.Hole.Carrier.hidden
nulls_in constraints items = sym (null_row constraints items)

-- ---- put after others

pub value_list_put : (before one after : List Word) (v : Value) (items slice : List Value) → v ≡ made.List items → slice ≡ items
    → one ≡ before ++ word.Number 5 ∷ [] → after ≡ one ++ each_value slice → after ≡ before ++ value_words v
value_list_put before one after v items slice is same a b =
    b ∙ ap (λ l. l ++ each_value slice) a ∙ append_assoc before (word.Number 5 ∷ []) (each_value slice)
    ∙ ap (λ l. before ++ (word.Number 5 ∷ each_value l)) same ∙ ap (λ l. before ++ l) (sym (list_made items) ∙ sym (ap value_words is))

pub value_object_put : (before one after : List Word) (v : Value) (members slice : List Member) → v ≡ made.Object members → slice ≡ members
    → one ≡ before ++ word.Number 6 ∷ [] → after ≡ one ++ each_member slice → after ≡ before ++ value_words v
value_object_put before one after v members slice is same a b =
    b ∙ ap (λ l. l ++ each_member slice) a ∙ append_assoc before (word.Number 6 ∷ []) (each_member slice)
    ∙ ap (λ l. before ++ (word.Number 6 ∷ each_member l)) same ∙ ap (λ l. before ++ l) (sym (object_made members) ∙ sym (ap value_words is))

pub arg_list_put : (before one after : List Word) (v : ArgValue) (items slice : List ArgValue) → v ≡ arg.List items → slice ≡ items
    → one ≡ before ++ word.Number 5 ∷ [] → after ≡ one ++ args.each_arg slice → after ≡ before ++ args.arg_words v
arg_list_put before one after v items slice is same a b =
    b ∙ ap (λ l. l ++ args.each_arg slice) a ∙ append_assoc before (word.Number 5 ∷ []) (args.each_arg slice)
    ∙ ap (λ l. before ++ (word.Number 5 ∷ args.each_arg l)) same ∙ ap (λ l. before ++ l) (sym (arg_list_made items) ∙ sym (ap args.arg_words is))

pub arg_object_put : (before one after : List Word) (v : ArgValue) (members slice : List ArgMember) → v ≡ arg.Object members → slice ≡ members
    → one ≡ before ++ word.Number 6 ∷ [] → after ≡ one ++ args.each_field slice → after ≡ before ++ args.arg_words v
arg_object_put before one after v members slice is same a b =
    b ∙ ap (λ l. l ++ args.each_field slice) a ∙ append_assoc before (word.Number 6 ∷ []) (args.each_field slice)
    ∙ ap (λ l. before ++ (word.Number 6 ∷ args.each_field l)) same ∙ ap (λ l. before ++ l) (sym (arg_object_made members) ∙ sym (ap args.arg_words is))

-- ---- nulls of what is held

pub nulls_of : (r : Bool) (v : Value) (items slice : List Value) → v ≡ made.List items → slice ≡ items → r ≡ list_any is_null slice → r ≡ holds_null (Some v)
nulls_of r v items slice is same e = e ∙ ap (list_any is_null) same ∙ nulls_made items ∙ sym (ap (λ x. holds_null (Some x)) is)

pub null_of : (constraints : List Constraint) (r : Option Bool) (v : ArgValue) (items slice : List ArgValue) → v ≡ arg.List items → slice ≡ items
    → r ≡ each_null constraints slice → r ≡ null_in constraints v
null_of constraints r v items slice is same e = e ∙ ap (each_null constraints) same ∙ nulls_in constraints items ∙ sym (ap (null_in constraints) is)
