-- Lists and objects, as the code goes through them.
use Rattle.std.proofs.Common.{◌≡◌, List, [], ◌∷◌, ◌++◌, refl, sym, ap, ◌∙◌, append_assoc}
use Rattle.gql_input.specs.declared.argument.ArgValue.{ArgValue}
use Rattle.gql_input.specs.declared.argument.ArgValue.TheVariants as arg
use Rattle.gql_input.specs.declared.argument.ArgValue.TheBlock.{hidden-the_row-ArgValue-0, hidden-the_row-ArgMember-1}
use Rattle.gql_input.specs.declared.argument.ArgMember.{ArgMember}
use Rattle.needed_count.specs.declared.words.Word.{Word}
use Rattle.needed_count.specs.declared.words.Word.TheVariants as word
use Rattle.needed_count.specs.ArgWords as args

args_row : (items : List ArgValue) → args.item_words (hidden-the_row-ArgValue-0 items) ≡ args.each_arg items
unfolding hidden-the_row-ArgValue-0 denote.Hole.Carrier.hidden
args_row [] = refl
args_row (a ∷ items) = ap (λ ws. (word.Number 1 ∷ args.arg_words a) ++ ws) (args_row items)

fields_row : (members : List ArgMember) → args.member_words (hidden-the_row-ArgMember-1 members) ≡ args.each_field members
unfolding hidden-the_row-ArgMember-1 denote.Hole.Carrier.hidden
fields_row [] = refl
fields_row (m ∷ members) = ap (λ ws. (word.Number 1 ∷ word.Letters m.name ∷ args.arg_words m.value) ++ ws) (fields_row members)

arg_list_made : (items : List ArgValue) → args.arg_words (arg.List items) ≡ word.Number 5 ∷ args.each_arg items
unfolding hidden-the_row-ArgValue-0 denote.Hole.Carrier.hidden
arg_list_made items = ap (λ ws. word.Number 5 ∷ ws) (args_row items)

arg_object_made : (members : List ArgMember) → args.arg_words (arg.Object members) ≡ word.Number 6 ∷ args.each_field members
unfolding hidden-the_row-ArgMember-1 denote.Hole.Carrier.hidden
arg_object_made members = ap (λ ws. word.Number 6 ∷ ws) (fields_row members)

-- ---- put after others

pub arg_list_put : (before one after : List Word) (v : ArgValue) (items slice : List ArgValue) → v ≡ arg.List items → slice ≡ items
    → one ≡ before ++ word.Number 5 ∷ [] → after ≡ one ++ args.each_arg slice → after ≡ before ++ args.arg_words v
arg_list_put before one after v items slice is same a b =
    b ∙ ap (λ l. l ++ args.each_arg slice) a ∙ append_assoc before (word.Number 5 ∷ []) (args.each_arg slice)
    ∙ ap (λ l. before ++ (word.Number 5 ∷ args.each_arg l)) same ∙ ap (λ l. before ++ l) (sym (arg_list_made items) ∙ sym (ap args.arg_words is))

pub arg_object_put : (before one after : List Word) (v : ArgValue) (members slice : List ArgMember) → v ≡ arg.Object members → slice ≡ members
    → one ≡ before ++ word.Number 6 ∷ [] → after ≡ one ++ args.each_field slice → after ≡ before ++ args.arg_words v
arg_object_put before one after v members slice is same a b =
    b ∙ ap (λ l. l ++ args.each_field slice) a ∙ append_assoc before (word.Number 6 ∷ []) (args.each_field slice)
    ∙ ap (λ l. before ++ (word.Number 6 ∷ args.each_field l)) same ∙ ap (λ l. before ++ l) (sym (arg_object_made members) ∙ sym (ap args.arg_words is))
