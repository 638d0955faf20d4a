-- What is the same is equal.
use Rattle.std.proofs.Common.{◌≡◌, ℕ, List, [], ◌∷◌, Option, Some, None, Bool, true, false, refl, sym, ap, ◌∙◌, eq-eqb, eqb-true}
use Rattle.std.specs.Prelude.{◌&&◌}
use Rattle.std.specs.Bool.{Decides, one_answer}
use Rattle.std.specs.Cmp.{IsEquivalence, first_so, second_so, signed_Decides}
use Rattle.std.specs.Cmp.Lexicographic.{pointwise}
use Rattle.std.proofs.lemmas.Slice.Eq.{bytes_eq-Decides}
use Rattle.place_tree.specs.declared.place.PlaceArg.{PlaceArg}
use Rattle.place_tree.specs.Fold.{same_place}
use Rattle.place_tree.specs.Needs.{RowField, Signature, same_written, same_row_field, same_signature}
use Rattle.place_tree.proofs.Folds.{same_place_true}
use Rattle.place_tree.proofs.Signatures.{same_signature_true}
use Rattle.needed_count.specs.declared.marks.Mark.{Mark}
use Rattle.needed_count.specs.declared.words.Word.{Word}
use Rattle.needed_count.specs.declared.words.Word.TheVariants as word
use Rattle.needed_count.specs.PathWords.{same_word, same_key}
use Rattle.needed_count.specs.Walk.{same_mark}
use Rattle.needed_count.proofs.Apart.{arg_itself}

both_so : (a b : Bool) → a ≡ true → b ≡ true → (a && b) ≡ true
both_so true b h k = k
both_so false b h k = cc

-- ---- lists

all_same : {A : Type 0} (same : A → A → Bool) → ((a b : A) → same a b ≡ true → a ≡ b) → (xs ys : List A) → pointwise same xs ys ≡ true → xs ≡ ys
all_same same f [] [] h = refl
all_same same f [] (y ∷ ys) h = cc
all_same same f (x ∷ xs) [] h = cc
all_same same f (x ∷ xs) (y ∷ ys) h = ap (λ z. z ∷ xs) (f x y (first_so _ _ h)) ∙ ap (λ l. y ∷ l) (all_same same f xs ys (second_so (same x y) _ h))

all_itself : {A : Type 0} (same : A → A → Bool) → ((a : A) → same a a ≡ true) → (xs : List A) → pointwise same xs xs ≡ true
all_itself same f [] = refl
all_itself same f (x ∷ xs) = both_so _ _ (f x) (all_itself same f xs)

-- ---- words

word_same : (a b : Word) → same_word a b ≡ true → a ≡ b
word_same (word.Number m) (word.Number n) h = ap (λ z. word.Number z) (eqb-true m n h)
word_same (word.Whole m) (word.Whole n) h = ap (λ z. word.Whole z) ((signed_Decides m n).0 h)
word_same (word.Letters s) (word.Letters t) h = ap (λ z. word.Letters z) ((bytes_eq-Decides s t).0 h)
word_same (word.Number m) (word.Whole n) h = cc
word_same (word.Number m) (word.Letters t) h = cc
word_same (word.Whole m) (word.Number n) h = cc
word_same (word.Whole m) (word.Letters t) h = cc
word_same (word.Letters s) (word.Number n) h = cc
word_same (word.Letters s) (word.Whole n) h = cc

word_itself : (a : Word) → same_word a a ≡ true
word_itself (word.Number m) = eq-eqb m m refl
word_itself (word.Whole m) = (signed_Decides m m).1 refl
word_itself (word.Letters s) = (bytes_eq-Decides s s).1 refl

pub key_same : (a b : List Word) → same_key a b ≡ true → a ≡ b
key_same a b h = all_same same_word word_same a b h

pub key_itself : (a : List Word) → same_key a a ≡ true
key_itself a = all_itself same_word word_itself a

-- ---- signatures

place_itself : (a : Option ℕ) → same_place a a ≡ true
place_itself None = refl
place_itself (Some x) = eq-eqb x x refl

written_itself : (a : PlaceArg) → same_written a a ≡ true
written_itself a = both_so _ _ (eq-eqb a.arg a.arg refl) (arg_itself a.value)

field_itself : (f : RowField) → same_row_field f f ≡ true
field_itself f = both_so _ _ (eq-eqb f.ty f.ty refl) (both_so _ _ (eq-eqb f.field f.field refl) (all_itself same_written written_itself f.args))

signature_itself : (s : Signature) → same_signature s s ≡ true
signature_itself s = both_so _ _ (place_itself s.root) (all_itself same_row_field field_itself s.path)

pub signature_Decides : (s t : Signature) → Decides (same_signature s t) (s ≡ t)
signature_Decides s t = (same_signature_true s t, λ e. sym (ap (same_signature s) e) ∙ signature_itself s)

-- ---- marks

mark_same : (a b : Mark) → same_mark a b ≡ true → a ≡ b
mark_same a b h =
    let root = same_place_true a.root b.root (first_so _ _ h) in
    let path = same_place_true a.path b.path (second_so (same_place a.root b.root) _ h) in
    λ i. record { root = root i; path = path i }

mark_itself : (a : Mark) → same_mark a a ≡ true
mark_itself a = both_so _ _ (place_itself a.root) (place_itself a.path)

pub mark_Decides : (a b : Mark) → Decides (same_mark a b) (a ≡ b)
mark_Decides a b = (mark_same a b, λ e. sym (ap (same_mark a) e) ∙ mark_itself a)

turned : (a b : Mark) → Decides (same_mark b a) (a ≡ b)
turned a b = (λ h. sym (mark_same b a h), λ e. (mark_Decides b a).1 (sym e))

pub marks_equivalent : IsEquivalence same_mark
marks_equivalent = record {
  refl = mark_itself;
  symm = λ a b. one_answer (same_mark a b) (same_mark b a) (mark_Decides a b) (turned a b);
  congr = λ a b c h. ap (λ m. same_mark m c) (mark_same a b h);
}
