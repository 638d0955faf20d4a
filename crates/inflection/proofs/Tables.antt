-- The steps of a word's ending: first the words of one form, then the irregular ones, then the rules.
use Rattle.std.proofs.Common.{◌≡◌, ℕ, true, false, ◌&&◌, List, [], ◌∷◌, ◌++◌, Option, Some, None, option_map, unwrap_or, find, length, refl, ap, ◌∙◌, eq-eqb}
use Rattle.std.proofs.lemmas.Bool.{cond-true, cond-false, false_from_ne_true}
use Rattle.std.proofs.lemmas.Slice.Eq.{bytes_eq-Decides}
use Rattle.std.specs.Option.{option_map_or}
use Rattle.std.specs.Str.{bytes_eq}
use Rattle.name_rules.specs.Inflection.{Ending, ending, same_ending, is_uncounted, irregular_words, singular_ending, plural_ending}
use Rattle.inflection.specs.declared.number.Number.{Number}
use Rattle.inflection.specs.declared.number.Number.TheVariants.{Singular, Plural}
use Rattle.inflection.specs.Number.{ending_of, regular_of, irregular_of, old_end, new_end}

pub bytes_eq_after : (front rest end : List ℕ) → bytes_eq (front ++ rest) (front ++ end) ≡ bytes_eq rest end
bytes_eq_after [] rest end = refl
bytes_eq_after (c ∷ front) rest end = ap (λ b. b && bytes_eq (front ++ rest) (front ++ end)) (eq-eqb c c refl) ∙ bytes_eq_after front rest end

pub bytes_eq_apart : (word other : List ℕ) → (word ≡ other → ⊥) → bytes_eq word other ≡ false
bytes_eq_apart word other apart = false_from_ne_true _ (λ e. apart ((bytes_eq-Decides word other).0 e))

map_or_is : {A B : Type 0} (f : A → B) (o : Option A) (d : B) → option_map_or f o d ≡ unwrap_or (option_map f o) d
map_or_is f None d = refl
map_or_is f (Some a) d = refl

pub ending_of_uncounted : (number : Number) (word : List ℕ) → is_uncounted word ≡ true → ending_of number word ≡ same_ending
unfolding singular_ending plural_ending
ending_of_uncounted Singular word e = cond-true _ _ _ e
ending_of_uncounted Plural word e = cond-true _ _ _ e

-- the table, and then the rules
by_table : Number → List ℕ → Ending
by_table number word =
    option_map_or (λ w. ending (length (old_end number w)) (new_end number w)) (find (λ w. bytes_eq word (w.front ++ old_end number w)) irregular_words) (regular_of number word)

by_table_is : (number : Number) (word : List ℕ) → by_table number word ≡ unwrap_or (irregular_of number word irregular_words) (regular_of number word)
unfolding by_table
by_table_is number word =
    map_or_is (λ w. ending (length (old_end number w)) (new_end number w)) (find (λ w. bytes_eq word (w.front ++ old_end number w)) irregular_words) (regular_of number word)

pub ending_of_others : (number : Number) (word : List ℕ) → is_uncounted word ≡ false → ending_of number word ≡ unwrap_or (irregular_of number word irregular_words) (regular_of number word)
unfolding singular_ending plural_ending by_table
ending_of_others Singular word e = cond-false (is_uncounted word) same_ending (by_table Singular word) e ∙ by_table_is Singular word
ending_of_others Plural word e = cond-false (is_uncounted word) same_ending (by_table Plural word) e ∙ by_table_is Plural word
