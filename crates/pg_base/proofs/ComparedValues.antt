-- Comparing values that are made from lists.
use Rattle.std.specs.Prelude.{◌≡◌, List, [], ◌∷◌, Bool, true, false, ◌&&◌}
use Rattle.std.proofs.Common.{refl, ap, sym, ◌∙◌}
use Rattle.std.specs.Str.{bytes_eq}
use Rattle.std.specs.Cmp.Lexicographic.{pointwise}
use Rattle.pg_base.specs.declared.value.Value.{Value}
use Rattle.pg_base.specs.declared.value.Value.TheVariants as made
use Rattle.pg_base.specs.declared.value.Value.TheBlock.{hidden-the_row-Value-0, hidden-the_row-Member-1}
use Rattle.pg_base.specs.declared.value.Member.{Member}
use Rattle.pg_base.specs.SameValue.{same_value, same_value_items, same_value_members, same_value_member}

and_assoc : (a b c : Bool) → (a && (b && c)) ≡ ((a && b) && c)
and_assoc true b c = refl
and_assoc false b c = refl

items_row : (xs ys : List Value) → same_value_items (hidden-the_row-Value-0 xs) (hidden-the_row-Value-0 ys) ≡ pointwise same_value xs ys
unfolding hidden-the_row-Value-0 denote.Hole.Carrier.hidden
items_row [] [] = refl
items_row [] (y ∷ ys) = refl
items_row (x ∷ xs) [] = refl
items_row (x ∷ xs) (y ∷ ys) = ap (λ b. same_value x y && b) (items_row xs ys)

members_row : (xs ys : List Member) → same_value_members (hidden-the_row-Member-1 xs) (hidden-the_row-Member-1 ys) ≡ pointwise same_value_member xs ys
unfolding hidden-the_row-Member-1 denote.Hole.Carrier.hidden
members_row [] [] = refl
members_row [] (y ∷ ys) = refl
members_row (x ∷ xs) [] = refl
members_row (x ∷ xs) (y ∷ ys) =
    ap (λ b. bytes_eq x.name y.name && (same_value x.value y.value && b)) (members_row xs ys)
    ∙ and_assoc (bytes_eq x.name y.name) (same_value x.value y.value) (pointwise same_value_member xs ys)

pub lists_same : (r : Bool) (a b : Value) (xs ys left right : List Value) → a ≡ made.List xs → b ≡ made.List ys → left ≡ xs → right ≡ ys → r ≡ pointwise same_value left right → r ≡ same_value a b
lists_same r a b xs ys left right p q l m h =
    h ∙ ap (λ v. pointwise same_value v right) l ∙ ap (pointwise same_value xs) m
    ∙ sym (items_row xs ys)
    ∙ ap (λ v. same_value v (made.List ys)) (sym p) ∙ ap (same_value a) (sym q)

pub objects_same : (r : Bool) (a b : Value) (xs ys left right : List Member) → a ≡ made.Object xs → b ≡ made.Object ys → left ≡ xs → right ≡ ys → r ≡ pointwise same_value_member left right → r ≡ same_value a b
objects_same r a b xs ys left right p q l m h =
    h ∙ ap (λ v. pointwise same_value_member v right) l ∙ ap (pointwise same_value_member xs) m
    ∙ sym (members_row xs ys)
    ∙ ap (λ v. same_value v (made.Object ys)) (sym p) ∙ ap (same_value a) (sym q)
