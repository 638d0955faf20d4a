-- The derived test of words is the one that is defined.
use Rattle.std.proofs.Common.{◌≡◌, refl, rules}
use Rattle.dedupe_steps.specs.declared.words.Word.{Word}
use Rattle.dedupe_steps.specs.declared.words.Word.TheVariants as word
use Rattle.dedupe_steps.specs.contracts.words.WordPartialEq.TheImpl as derived
use Rattle.dedupe_steps.specs.Numbering.{same_word}

test_is : (a b : Word) → derived.eq-value.it a b ≡ same_word a b
test_is (word.Number x) (word.Number y) = search rules
test_is (word.Number x) (word.Whole y) = refl
test_is (word.Number x) (word.Letters y) = refl
test_is (word.Whole x) (word.Number y) = refl
test_is (word.Whole x) (word.Whole y) = search rules
test_is (word.Whole x) (word.Letters y) = refl
test_is (word.Letters x) (word.Number y) = refl
test_is (word.Letters x) (word.Whole y) = refl
test_is (word.Letters x) (word.Letters y) = search rules

pub tests_are : derived.eq-value.it ≡ same_word
tests_are = λ i a b. test_is a b i
