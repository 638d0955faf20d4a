-- Values that are the same are equal.
use Rattle.std.specs.Prelude.{◌≡◌, ℕ, List, [], ◌∷◌, Bool, true, false, ◌&&◌}
use Rattle.std.proofs.Common.{refl, sym, ap, ◌∙◌}
use Rattle.std.specs.Bool.{beq}
use Rattle.std.specs.Cmp.{first_so, second_so, signed_Decides}
use Rattle.std.specs.Str.{bytes_eq}
use Rattle.std.proofs.lemmas.Slice.Eq.{bytes_eq-Decides}
use Rattle.pg_base.specs.declared.value.Value.{Value, Null, Int, Bool as BoolOf, Text, Case, List', Object', Row_of-Value, end_of-Value, more_of-Value, Row_of-Member, end_of-Member, more_of-Member, items-the_row-Value, items-the_row-Member, items_shown-the_row-Value-0, items_shown-the_row-Member-1, out-Value, roll-out-Value, roll-Value}
use Rattle.pg_base.specs.declared.value.Value.TheVariants as made
use Rattle.pg_base.specs.declared.value.Value.TheVariants.{rolls-List, rolls-Object}
use Rattle.pg_base.specs.declared.value.Value.TheOpen as layer
use Rattle.pg_base.specs.declared.value.Member.{Member}
use Rattle.pg_base.specs.SameValue.{same_value, same_value_items, same_value_members}

-- a list and an object, by the lists of what they hold
list_is : (s : _) (xs : Row_of-Value _) → List' s xs ≡ made.List (items-the_row-Value _ xs)
unfolding out-Value roll-Value denote.Hole.Carrier.out
list_is s xs = sym (roll-out-Value (List' s xs)) ∙ ap (λ v. roll-Value (layer.List v)) (items_shown-the_row-Value-0 s xs) ∙ rolls-List (items-the_row-Value _ xs)

object_is : (s : _) (xs : Row_of-Member _) → Object' s xs ≡ made.Object (items-the_row-Member _ xs)
unfolding out-Value roll-Value denote.Hole.Carrier.out
object_is s xs = sym (roll-out-Value (Object' s xs)) ∙ ap (λ v. roll-Value (layer.Object v)) (items_shown-the_row-Member-1 s xs) ∙ rolls-Object (items-the_row-Member _ xs)

truth_same : (a b : Bool) → beq a b ≡ true → a ≡ b
truth_same true true h = refl
truth_same true false h = cc
truth_same false true h = cc
truth_same false false h = refl

bytes_same : (s t : List ℕ) → bytes_eq s t ≡ true → s ≡ t
bytes_same s t h = (bytes_eq-Decides s t).0 h

mutual
  pub same_value_true : (a b : Value) → same_value a b ≡ true → a ≡ b
  same_value_true Null Null h = refl
  same_value_true (Int m) (Int n) h = ap Int ((signed_Decides m n).0 h)
  same_value_true (BoolOf a) (BoolOf b) h = ap BoolOf (truth_same a b h)
  same_value_true (Text s) (Text t) h = ap Text (bytes_same s t h)
  same_value_true (Case s) (Case t) h = ap Case (bytes_same s t h)
  same_value_true (List' s xs) (List' t ys) h = list_is s xs ∙ ap made.List (items_true xs ys h) ∙ sym (list_is t ys)
  same_value_true (Object' s xs) (Object' t ys) h = object_is s xs ∙ ap made.Object (members_true xs ys h) ∙ sym (object_is t ys)
  same_value_true _ _ h = cc

  items_true : {m : _} {n : _} (xs : Row_of-Value m) (ys : Row_of-Value n) → same_value_items xs ys ≡ true → items-the_row-Value m xs ≡ items-the_row-Value n ys
  items_true end_of-Value end_of-Value h = refl
  items_true (more_of-Value a xs) (more_of-Value b ys) h =
      ap (λ v. v ∷ items-the_row-Value _ xs) (same_value_true a b (first_so _ _ h)) ∙ ap (λ vs. b ∷ vs) (items_true xs ys (second_so (same_value a b) _ h))
  items_true _ _ h = cc

  members_true : {m : _} {n : _} (xs : Row_of-Member m) (ys : Row_of-Member n) → same_value_members xs ys ≡ true → items-the_row-Member m xs ≡ items-the_row-Member n ys
  members_true end_of-Member end_of-Member h = refl
  members_true (more_of-Member s a xs) (more_of-Member t b ys) h =
      let rest = second_so (bytes_eq s t) _ h in
      let member : List ℕ → Value → Member = λ name value. record { name = name; value = value } in
      ap (λ n. member n a ∷ items-the_row-Member _ xs) (bytes_same s t (first_so _ _ h))
      ∙ ap (λ v. member t v ∷ items-the_row-Member _ xs) (same_value_true a b (first_so _ _ rest))
      ∙ ap (λ vs. member t b ∷ vs) (members_true xs ys (second_so (same_value a b) _ rest))
  members_true _ _ h = cc

-- ---- a value is the same as itself

both_true : (a b : Bool) → a ≡ true → b ≡ true → (a && b) ≡ true
both_true true true p q = refl
both_true true false p q = cc
both_true false b p q = cc

truth_itself : (b : Bool) → beq b b ≡ true
truth_itself true = refl
truth_itself false = refl

mutual
  pub same_value_itself : (v : Value) → same_value v v ≡ true
  same_value_itself Null = refl
  same_value_itself (Int n) = (signed_Decides n n).1 refl
  same_value_itself (BoolOf b) = truth_itself b
  same_value_itself (Text t) = (bytes_eq-Decides t t).1 refl
  same_value_itself (Case c) = (bytes_eq-Decides c c).1 refl
  same_value_itself (List' s xs) = items_itself xs
  same_value_itself (Object' s ms) = members_itself ms

  items_itself : {n : _} (xs : Row_of-Value n) → same_value_items xs xs ≡ true
  items_itself end_of-Value = refl
  items_itself (more_of-Value v rest) = both_true _ _ (same_value_itself v) (items_itself rest)

  members_itself : {n : _} (ms : Row_of-Member n) → same_value_members ms ms ≡ true
  members_itself end_of-Member = refl
  members_itself (more_of-Member name v rest) = both_true _ _ ((bytes_eq-Decides name name).1 refl) (both_true _ _ (same_value_itself v) (members_itself rest))

pub same_decides : (r : Bool) (a b : Value) → r ≡ same_value a b → (r ≡ true → a ≡ b) × (a ≡ b → r ≡ true)
same_decides r a b h = (λ e. same_value_true a b (sym h ∙ e), λ e. h ∙ ap (λ v. same_value a v) (sym e) ∙ same_value_itself a)
