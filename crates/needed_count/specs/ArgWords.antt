-- Arguments as they are written, as lists of words.
use Rattle.std.specs.Prelude.{Bool, true, false, List, [], ◌∷◌, ◌++◌}
use Rattle.gql_input.specs.declared.argument.ArgMember.{ArgMember}
use Rattle.gql_input.specs.declared.argument.ArgValue.{ArgValue, Null, Int, Bool as BoolOf, Text, Case, List', Object', Variable}
use Rattle.gql_input.specs.declared.argument.ArgValue.{Row_of-ArgValue, end_of-ArgValue, more_of-ArgValue}
use Rattle.gql_input.specs.declared.argument.ArgValue.{Row_of-ArgMember, end_of-ArgMember, more_of-ArgMember}
use Rattle.needed_count.specs.declared.words.Word.{Word}
use Rattle.needed_count.specs.declared.words.Word.TheVariants as word

abbrev pub truth : Bool → Word
truth true = word.Number 1
truth false = word.Number 0

abbrev mutual
  pub arg_words : ArgValue → List Word
  arg_words Null = word.Number 0 ∷ []
  arg_words (Int n) = word.Number 1 ∷ word.Whole n ∷ []
  arg_words (BoolOf b) = word.Number 2 ∷ truth b ∷ []
  arg_words (Text t) = word.Number 3 ∷ word.Letters t ∷ []
  arg_words (Case c) = word.Number 4 ∷ word.Letters c ∷ []
  arg_words (List' _ items) = word.Number 5 ∷ item_words items
  arg_words (Object' _ members) = word.Number 6 ∷ member_words members
  arg_words (Variable name) = word.Number 7 ∷ word.Letters name ∷ []

  pub item_words : {n : _} → Row_of-ArgValue n → List Word
  item_words end_of-ArgValue = word.Number 0 ∷ []
  item_words (more_of-ArgValue a rest) = (word.Number 1 ∷ arg_words a) ++ item_words rest

  pub member_words : {n : _} → Row_of-ArgMember n → List Word
  member_words end_of-ArgMember = word.Number 0 ∷ []
  member_words (more_of-ArgMember name a rest) = (word.Number 1 ∷ word.Letters name ∷ arg_words a) ++ member_words rest

-- the same of lists
abbrev pub each_arg : List ArgValue → List Word
each_arg [] = word.Number 0 ∷ []
each_arg (a ∷ items) = (word.Number 1 ∷ arg_words a) ++ each_arg items

abbrev pub each_field : List ArgMember → List Word
each_field [] = word.Number 0 ∷ []
each_field (m ∷ members) = (word.Number 1 ∷ word.Letters m.name ∷ arg_words m.value) ++ each_field members
