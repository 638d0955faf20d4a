-- Paths of the same words are equal.
use Rattle.std.proofs.Common.{◌≡◌, ◌≢◌, ℕ, List, [], ◌∷◌, ◌++◌, Option, Some, None, Bool, true, false, refl, sym, ap, ◌∙◌, arith}
use Rattle.std.specs.Prelude.{ℤ, ◌&&◌}
use Rattle.std.specs.Cmp.{signed_Decides}
use Rattle.std.specs.Bool.{beq}
use Rattle.std.proofs.lemmas.Slice.Eq.{bytes_eq-Decides}
use Rattle.gql_input.specs.declared.argument.ArgValue as arg
use Rattle.gql_input.specs.declared.argument.ArgValue.{ArgValue, Row_of-ArgValue, end_of-ArgValue, more_of-ArgValue, Row_of-ArgMember, end_of-ArgMember, more_of-ArgMember}
use Rattle.place_tree.specs.declared.place.PlaceArg.{PlaceArg}
use Rattle.place_tree.specs.Needs.{RowField}
use Rattle.place_tree.specs.Same.{same_arg, same_items, same_members}
use Rattle.place_tree.proofs.Same.{same_arg_true}
use Rattle.needed_count.specs.declared.words.Word.{Word}
use Rattle.needed_count.specs.declared.words.Word.TheVariants as word
use Rattle.needed_count.specs.ArgWords.{truth, arg_words, item_words, member_words}
use Rattle.needed_count.specs.PathWords.{written_words, row_words, above_words, path_words}

-- ---- words

abbrev head_or : List Word → Word → Word
head_or [] d = d
head_or (w ∷ ws) d = w

abbrev tail_of : List Word → List Word
tail_of [] = []
tail_of (w ∷ ws) = ws

abbrev number_in : Word → ℕ → ℕ
number_in (word.Number n) d = n
number_in (word.Whole z) d = d
number_in (word.Letters t) d = d

abbrev whole_in : Word → ℤ → ℤ
whole_in (word.Number n) d = d
whole_in (word.Whole z) d = z
whole_in (word.Letters t) d = d

abbrev letters_in : Word → List ℕ → List ℕ
letters_in (word.Number n) d = d
letters_in (word.Whole z) d = d
letters_in (word.Letters t) d = t

tails : (a b : Word) (x y : List Word) → a ∷ x ≡ b ∷ y → x ≡ y
tails a b x y e = ap tail_of e

heads : (a b : Word) (x y : List Word) → a ∷ x ≡ b ∷ y → a ≡ b
heads a b x y e = ap (λ l. head_or l a) e

numbers : (m n : ℕ) (x y : List Word) → word.Number m ∷ x ≡ word.Number n ∷ y → m ≡ n
numbers m n x y e = ap (λ w. number_in w m) (heads (word.Number m) (word.Number n) x y e)

wholes : (m n : ℤ) (x y : List Word) → word.Whole m ∷ x ≡ word.Whole n ∷ y → m ≡ n
wholes m n x y e = ap (λ w. whole_in w m) (heads (word.Whole m) (word.Whole n) x y e)

letters : (m n : List ℕ) (x y : List Word) → word.Letters m ∷ x ≡ word.Letters n ∷ y → m ≡ n
letters m n x y e = ap (λ w. letters_in w m) (heads (word.Letters m) (word.Letters n) x y e)

truths : (a b : Bool) (x y : List Word) → truth a ∷ x ≡ truth b ∷ y → a ≡ b
truths true true x y e = refl
truths true false x y e = let z = numbers 1 0 x y e in absurd (omega (arith, z))
truths false true x y e = let z = numbers 0 1 x y e in absurd (omega (arith, z))
truths false false x y e = refl

-- other sorts begin with other numbers
other : {P : Type 0} (m n : ℕ) (x y : List Word) → m ≢ n → word.Number m ∷ x ≡ word.Number n ∷ y → P
other m n x y apart e = absurd (apart (numbers m n x y e))

regroup : (p q r : List Word) → (p ++ q) ++ r ≡ p ++ (q ++ r)
regroup [] q r = refl
regroup (w ∷ p) q r = ap (λ l. w ∷ l) (regroup p q r)

grouped : (p q r s t u : List Word) → (p ++ q) ++ r ≡ (s ++ t) ++ u → p ++ (q ++ r) ≡ s ++ (t ++ u)
grouped p q r s t u e = sym (regroup p q r) ∙ e ∙ regroup s t u

-- ---- arguments

truth_same : (a b : Bool) → a ≡ b → beq a b ≡ true
truth_same true true h = refl
truth_same true false h = cc
truth_same false true h = cc
truth_same false false h = refl

both_so : (a b : Bool) → a ≡ true → b ≡ true → (a && b) ≡ true
both_so true b h k = k
both_so false b h k = cc

-- what is written comes back, whatever follows
mutual
  arg_apart : (a b : ArgValue) (x y : List Word) → arg_words a ++ x ≡ arg_words b ++ y → (same_arg a b ≡ true) × (x ≡ y)
  arg_apart arg.Null arg.Null x y e = (refl, tails _ _ x y e)
  arg_apart (arg.Int m) (arg.Int n) x y e = let rest = tails _ _ _ _ e in ((signed_Decides m n).1 (wholes m n x y rest), tails _ _ x y rest)
  arg_apart (arg.Bool a) (arg.Bool b) x y e = let rest = tails _ _ _ _ e in (truth_same a b (truths a b x y rest), tails _ _ x y rest)
  arg_apart (arg.Text s) (arg.Text t) x y e = let rest = tails _ _ _ _ e in ((bytes_eq-Decides s t).1 (letters s t x y rest), tails _ _ x y rest)
  arg_apart (arg.Case s) (arg.Case t) x y e = let rest = tails _ _ _ _ e in ((bytes_eq-Decides s t).1 (letters s t x y rest), tails _ _ x y rest)
  arg_apart (arg.Variable s) (arg.Variable t) x y e = let rest = tails _ _ _ _ e in ((bytes_eq-Decides s t).1 (letters s t x y rest), tails _ _ x y rest)
  arg_apart (arg.List' _ xs) (arg.List' _ ys) x y e = args_apart xs ys x y (tails _ _ _ _ e)
  arg_apart (arg.Object' _ xs) (arg.Object' _ ys) x y e = fields_apart xs ys x y (tails _ _ _ _ e)
  arg_apart _ _ x y e = cc

  args_apart : {m : _} {n : _} (xs : Row_of-ArgValue m) (ys : Row_of-ArgValue n) (x y : List Word) → item_words xs ++ x ≡ item_words ys ++ y → (same_items xs ys ≡ true) × (x ≡ y)
  args_apart end_of-ArgValue end_of-ArgValue x y e = (refl, tails _ _ x y e)
  args_apart (more_of-ArgValue a xs) (more_of-ArgValue b ys) x y e =
      let one = arg_apart a b (item_words xs ++ x) (item_words ys ++ y) (grouped (arg_words a) (item_words xs) x (arg_words b) (item_words ys) y (tails _ _ _ _ e)) in
      let rest = args_apart xs ys x y one.1 in
      (both_so _ _ one.0 rest.0, rest.1)
  args_apart end_of-ArgValue (more_of-ArgValue b ys) x y e = other 0 1 _ _ (λ z. absurd (omega (arith, z))) e
  args_apart (more_of-ArgValue a xs) end_of-ArgValue x y e = other 1 0 _ _ (λ z. absurd (omega (arith, z))) e

  fields_apart : {m : _} {n : _} (xs : Row_of-ArgMember m) (ys : Row_of-ArgMember n) (x y : List Word) → member_words xs ++ x ≡ member_words ys ++ y → (same_members xs ys ≡ true) × (x ≡ y)
  fields_apart end_of-ArgMember end_of-ArgMember x y e = (refl, tails _ _ x y e)
  fields_apart (more_of-ArgMember s a xs) (more_of-ArgMember t b ys) x y e =
      let named = tails _ _ _ _ e in
      let one = arg_apart a b (member_words xs ++ x) (member_words ys ++ y) (grouped (arg_words a) (member_words xs) x (arg_words b) (member_words ys) y (tails _ _ _ _ named)) in
      let rest = fields_apart xs ys x y one.1 in
      (both_so _ _ ((bytes_eq-Decides s t).1 (letters s t _ _ named)) (both_so _ _ one.0 rest.0), rest.1)
  fields_apart end_of-ArgMember (more_of-ArgMember t b ys) x y e = other 0 1 _ _ (λ z. absurd (omega (arith, z))) e
  fields_apart (more_of-ArgMember s a xs) end_of-ArgMember x y e = other 1 0 _ _ (λ z. absurd (omega (arith, z))) e

-- an argument is written as it is itself
pub arg_itself : (a : ArgValue) → same_arg a a ≡ true
arg_itself a = (arg_apart a a [] [] refl).0

-- ---- row fields

written_apart : (as_ bs : List PlaceArg) (x y : List Word) → written_words as_ ++ x ≡ written_words bs ++ y → (as_ ≡ bs) × (x ≡ y)
written_apart [] [] x y e = (refl, tails _ _ x y e)
written_apart [] (b ∷ bs) x y e = other 0 1 _ _ (λ z. absurd (omega (arith, z))) e
written_apart (a ∷ as_) [] x y e = other 1 0 _ _ (λ z. absurd (omega (arith, z))) e
written_apart (a ∷ as_) (b ∷ bs) x y e =
    let named = tails _ _ _ _ e in
    let valued = grouped (arg_words a.value) (written_words as_) x (arg_words b.value) (written_words bs) y (tails _ _ _ _ named) in
    let one = arg_apart a.value b.value (written_words as_ ++ x) (written_words bs ++ y) valued in
    let rest = written_apart as_ bs x y one.1 in
    let place = numbers a.arg b.arg _ _ named in
    let value = same_arg_true a.value b.value one.0 in
    let same : a ≡ b = λ i. record { arg = place i; value = value i } in
    (ap (λ z. z ∷ as_) same ∙ ap (λ zs. b ∷ zs) rest.0, rest.1)

above_apart : (m n : Option ℕ) (x y : List Word) → above_words m ++ x ≡ above_words n ++ y → (m ≡ n) × (x ≡ y)
above_apart None None x y e = (refl, tails _ _ x y e)
above_apart None (Some n) x y e = other 0 1 _ _ (λ z. absurd (omega (arith, z))) e
above_apart (Some m) None x y e = other 1 0 _ _ (λ z. absurd (omega (arith, z))) e
above_apart (Some m) (Some n) x y e =
    let rest = tails _ _ _ _ e in
    (ap (λ k. Some k) (numbers m n x y rest), tails _ _ x y rest)

row_apart : (f g : RowField) → row_words f ≡ row_words g → f ≡ g
row_apart f g e =
    let ty = numbers f.ty g.ty _ _ e in
    let rest = tails _ _ _ _ e in
    let field = numbers f.field g.field _ _ rest in
    let args = written_apart f.args g.args [] [] (ap (λ ws. ws ++ []) (tails _ _ _ _ rest)) in
    λ i. record { ty = ty i; field = field i; args = args.0 i }

-- paths of the same words go on from one number by one row field
pub path_apart : (m n : Option ℕ) (f g : RowField) → path_words m f ≡ path_words n g → (m ≡ n) × (f ≡ g)
path_apart m n f g e =
    let above = above_apart m n (row_words f) (row_words g) e in
    (above.0, row_apart f g above.1)
