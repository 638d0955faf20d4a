-- Paths of row fields written as lists of words, which tell them apart.
use Rattle.std.specs.Prelude.{ℕ, Bool, false, nat_eq, List, [], ◌∷◌, ◌++◌, Option, Some, None}
use Rattle.std.specs.Ordering.{int_eq}
use Rattle.std.specs.Str.{bytes_eq}
use Rattle.std.specs.Cmp.Lexicographic.{pointwise}
use Rattle.place_tree.specs.Needs.{RowField}
use Rattle.place_tree.specs.declared.place.PlaceArg.{PlaceArg}
use Rattle.place_tree.specs.declared.place.Place.{Place}
use Rattle.needed_count.specs.declared.words.Word.{Word}
use Rattle.needed_count.specs.declared.words.Word.TheVariants as word
use Rattle.needed_count.specs.ArgWords.{arg_words}

-- the row field of a place
abbrev pub row_of : Place → RowField
row_of p = record { ty = p.ty; field = p.field; args = p.args }

abbrev pub written_words : List PlaceArg → List Word
written_words [] = word.Number 0 ∷ []
written_words (a ∷ args) = (word.Number 1 ∷ word.Number a.arg ∷ arg_words a.value) ++ written_words args

abbrev pub row_words : RowField → List Word
row_words f = word.Number f.ty ∷ word.Number f.field ∷ written_words f.args

-- a path by its number, where it has row fields
abbrev pub above_words : Option ℕ → List Word
above_words None = word.Number 0 ∷ []
above_words (Some number) = word.Number 1 ∷ word.Number number ∷ []

-- the path that goes on from the one with this number by a row field
abbrev pub path_words : Option ℕ → RowField → List Word
path_words above f = above_words above ++ row_words f

-- ---- tests

abbrev pub same_word : Word → Word → Bool
same_word (word.Number m) (word.Number n) = nat_eq m n
same_word (word.Number m) (word.Whole n) = false
same_word (word.Number m) (word.Letters t) = false
same_word (word.Whole m) (word.Number n) = false
same_word (word.Whole m) (word.Whole n) = int_eq m n
same_word (word.Whole m) (word.Letters t) = false
same_word (word.Letters s) (word.Number n) = false
same_word (word.Letters s) (word.Whole n) = false
same_word (word.Letters s) (word.Letters t) = bytes_eq s t

abbrev pub same_key : List Word → List Word → Bool
same_key = pointwise same_word
