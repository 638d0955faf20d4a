-- Arguments that are written alike are equal.
use Rattle.std.specs.Prelude.{◌≡◌, ℕ, List, ◌∷◌, Bool, true, false}
use Rattle.std.proofs.Common.{refl, sym, ap, ◌∙◌}
use Rattle.std.specs.Bool.{beq}
use Rattle.std.specs.Cmp.{first_so, second_so, signed_Decides}
use Rattle.std.specs.Str.{bytes_eq}
use Rattle.std.proofs.lemmas.Slice.Eq.{bytes_eq-Decides}
use Rattle.gql_input.specs.declared.argument.ArgValue.{ArgValue, Null, Int, Bool as BoolOf, Text, Case, List', Object', Variable, Row_of-ArgValue, end_of-ArgValue, more_of-ArgValue, Row_of-ArgMember, end_of-ArgMember, more_of-ArgMember, items-the_row-ArgValue, items-the_row-ArgMember, items_shown-the_row-ArgValue-0, items_shown-the_row-ArgMember-1, out-ArgValue, roll-out-ArgValue, roll-ArgValue}
use Rattle.gql_input.specs.declared.argument.ArgValue.TheVariants as arg
use Rattle.gql_input.specs.declared.argument.ArgValue.TheVariants.{rolls-List, rolls-Object}
use Rattle.gql_input.specs.declared.argument.ArgValue.TheOpen as layer
use Rattle.gql_input.specs.declared.argument.ArgMember.{ArgMember}
use Rattle.place_tree.specs.Same.{same_arg, same_items, same_members}

-- a list and an object, by the lists of what they hold
list_is : (s : _) (xs : Row_of-ArgValue _) → List' s xs ≡ arg.List (items-the_row-ArgValue _ xs)
unfolding out-ArgValue roll-ArgValue denote.Hole.Carrier.out
list_is s xs = sym (roll-out-ArgValue (List' s xs)) ∙ ap (λ v. roll-ArgValue (layer.List v)) (items_shown-the_row-ArgValue-0 s xs) ∙ rolls-List (items-the_row-ArgValue _ xs)

object_is : (s : _) (xs : Row_of-ArgMember _) → Object' s xs ≡ arg.Object (items-the_row-ArgMember _ xs)
unfolding out-ArgValue roll-ArgValue denote.Hole.Carrier.out
object_is s xs = sym (roll-out-ArgValue (Object' s xs)) ∙ ap (λ v. roll-ArgValue (layer.Object v)) (items_shown-the_row-ArgMember-1 s xs) ∙ rolls-Object (items-the_row-ArgMember _ xs)

truth_same : (a b : Bool) → beq a b ≡ true → a ≡ b
truth_same true true h = refl
truth_same true false h = cc
truth_same false true h = cc
truth_same false false h = refl

bytes_same : (s t : List ℕ) → bytes_eq s t ≡ true → s ≡ t
bytes_same s t h = (bytes_eq-Decides s t).0 h

mutual
  pub same_arg_true : (a b : ArgValue) → same_arg a b ≡ true → a ≡ b
  same_arg_true Null Null h = refl
  same_arg_true (Int m) (Int n) h = ap Int ((signed_Decides m n).0 h)
  same_arg_true (BoolOf a) (BoolOf b) h = ap BoolOf (truth_same a b h)
  same_arg_true (Text s) (Text t) h = ap Text (bytes_same s t h)
  same_arg_true (Case s) (Case t) h = ap Case (bytes_same s t h)
  same_arg_true (Variable s) (Variable t) h = ap Variable (bytes_same s t h)
  same_arg_true (List' s xs) (List' t ys) h = list_is s xs ∙ ap arg.List (items_true xs ys h) ∙ sym (list_is t ys)
  same_arg_true (Object' s xs) (Object' t ys) h = object_is s xs ∙ ap arg.Object (members_true xs ys h) ∙ sym (object_is t ys)
  same_arg_true _ _ h = cc

  items_true : {m : _} {n : _} (xs : Row_of-ArgValue m) (ys : Row_of-ArgValue n) → same_items xs ys ≡ true → items-the_row-ArgValue m xs ≡ items-the_row-ArgValue n ys
  items_true end_of-ArgValue end_of-ArgValue h = refl
  items_true (more_of-ArgValue a xs) (more_of-ArgValue b ys) h =
      ap (λ v. v ∷ items-the_row-ArgValue _ xs) (same_arg_true a b (first_so _ _ h)) ∙ ap (λ vs. b ∷ vs) (items_true xs ys (second_so (same_arg a b) _ h))
  items_true _ _ h = cc

  members_true : {m : _} {n : _} (xs : Row_of-ArgMember m) (ys : Row_of-ArgMember n) → same_members xs ys ≡ true → items-the_row-ArgMember m xs ≡ items-the_row-ArgMember n ys
  members_true end_of-ArgMember end_of-ArgMember h = refl
  members_true (more_of-ArgMember s a xs) (more_of-ArgMember t b ys) h =
      let rest = second_so (bytes_eq s t) _ h in
      let member : List ℕ → ArgValue → ArgMember = λ name value. record { name = name; value = value } in
      ap (λ n. member n a ∷ items-the_row-ArgMember _ xs) (bytes_same s t (first_so _ _ h))
      ∙ ap (λ v. member t v ∷ items-the_row-ArgMember _ xs) (same_arg_true a b (first_so _ _ rest))
      ∙ ap (λ vs. member t b ∷ vs) (members_true xs ys (second_so (same_arg a b) _ rest))
  members_true _ _ h = cc
