-- The derived tests of words and marks are those that are defined.
use Rattle.std.proofs.Common.{◌≡◌, refl, rules}
use Rattle.needed_count.specs.declared.words.Word.{Word}
use Rattle.needed_count.specs.declared.words.Word.TheVariants as word
use Rattle.needed_count.specs.contracts.words.WordPartialEq.TheImpl as worded
use Rattle.needed_count.specs.PathWords.{same_word}

word_is : (a b : Word) → worded.eq-value.it a b ≡ same_word a b
word_is (word.Number x) (word.Number y) = search rules
word_is (word.Number x) (word.Whole y) = refl
word_is (word.Number x) (word.Letters y) = refl
word_is (word.Whole x) (word.Number y) = refl
word_is (word.Whole x) (word.Whole y) = search rules
word_is (word.Whole x) (word.Letters y) = refl
word_is (word.Letters x) (word.Number y) = refl
word_is (word.Letters x) (word.Whole y) = refl
word_is (word.Letters x) (word.Letters y) = search rules

pub words_are : worded.eq-value.it ≡ same_word
words_are = λ i a b. word_is a b i
