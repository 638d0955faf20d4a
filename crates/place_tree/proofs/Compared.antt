-- Comparing arguments that are made from lists.
use Rattle.std.specs.Prelude.{◌≡◌, List, [], ◌∷◌, Bool, true, false, ◌&&◌}
use Rattle.std.proofs.Common.{refl, ap, sym, ◌∙◌}
use Rattle.std.specs.Str.{bytes_eq}
use Rattle.std.specs.Cmp.Lexicographic.{pointwise}
use Rattle.gql_input.specs.declared.argument.ArgValue.{ArgValue}
use Rattle.gql_input.specs.declared.argument.ArgValue.TheVariants as arg
use Rattle.gql_input.specs.declared.argument.ArgValue.TheBlock.{hidden-the_row-ArgValue-0, hidden-the_row-ArgMember-1}
use Rattle.gql_input.specs.declared.argument.ArgMember.{ArgMember}
use Rattle.place_tree.specs.Same.{same_arg, same_items, same_members, same_member}

and_assoc : (a b c : Bool) → (a && (b && c)) ≡ ((a && b) && c)
and_assoc true b c = refl
and_assoc false b c = refl

items_row : (xs ys : List ArgValue) → same_items (hidden-the_row-ArgValue-0 xs) (hidden-the_row-ArgValue-0 ys) ≡ pointwise same_arg xs ys
unfolding hidden-the_row-ArgValue-0 denote.Hole.Carrier.hidden
items_row [] [] = refl
items_row [] (y ∷ ys) = refl
items_row (x ∷ xs) [] = refl
items_row (x ∷ xs) (y ∷ ys) = ap (λ b. same_arg x y && b) (items_row xs ys)

members_row : (xs ys : List ArgMember) → same_members (hidden-the_row-ArgMember-1 xs) (hidden-the_row-ArgMember-1 ys) ≡ pointwise same_member xs ys
unfolding hidden-the_row-ArgMember-1 denote.Hole.Carrier.hidden
members_row [] [] = refl
members_row [] (y ∷ ys) = refl
members_row (x ∷ xs) [] = refl
members_row (x ∷ xs) (y ∷ ys) =
    ap (λ b. bytes_eq x.name y.name && (same_arg x.value y.value && b)) (members_row xs ys)
    ∙ and_assoc (bytes_eq x.name y.name) (same_arg x.value y.value) (pointwise same_member xs ys)

pub lists_alike : (r : Bool) (a b : ArgValue) (xs ys left right : List ArgValue) → a ≡ arg.List xs → b ≡ arg.List ys → left ≡ xs → right ≡ ys → r ≡ pointwise same_arg left right → r ≡ same_arg a b
lists_alike r a b xs ys left right p q l m h =
    h ∙ ap (λ v. pointwise same_arg v right) l ∙ ap (pointwise same_arg xs) m
    ∙ sym (items_row xs ys)
    ∙ ap (λ v. same_arg v (arg.List ys)) (sym p) ∙ ap (same_arg a) (sym q)

pub objects_alike : (r : Bool) (a b : ArgValue) (xs ys left right : List ArgMember) → a ≡ arg.Object xs → b ≡ arg.Object ys → left ≡ xs → right ≡ ys → r ≡ pointwise same_member left right → r ≡ same_arg a b
objects_alike r a b xs ys left right p q l m h =
    h ∙ ap (λ v. pointwise same_member v right) l ∙ ap (pointwise same_member xs) m
    ∙ sym (members_row xs ys)
    ∙ ap (λ v. same_arg v (arg.Object ys)) (sym p) ∙ ap (same_arg a) (sym q)
