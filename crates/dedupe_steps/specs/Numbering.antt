-- Things that are numbered one after the other, by their keys.
use Rattle.std.specs.Prelude.{ℕ, Bool, true, false, not, if◌then◌else◌, List, [], ◌∷◌, ◌++◌, length, nat_eq}
use Rattle.std.specs.List.{list_any, position_or_len}
use Rattle.std.specs.Ordering.{int_eq}
use Rattle.std.specs.Str.{bytes_eq}
use Rattle.std.specs.Cmp.Lexicographic.{pointwise}
use Rattle.dedupe_steps.specs.declared.words.Word.{Word}
use Rattle.dedupe_steps.specs.declared.words.Word.TheVariants as word
use Rattle.dedupe_steps.specs.Numbered.{Renaming}

abbrev pub same_word : Word → Word → Bool
same_word (word.Number m) (word.Number n) = nat_eq m n
same_word (word.Number m) (word.Whole n) = false
same_word (word.Number m) (word.Letters t) = false
same_word (word.Whole m) (word.Number n) = false
same_word (word.Whole m) (word.Whole n) = int_eq m n
same_word (word.Whole m) (word.Letters t) = false
same_word (word.Letters s) (word.Number n) = false
same_word (word.Letters s) (word.Whole n) = false
same_word (word.Letters s) (word.Letters t) = bytes_eq s t

abbrev pub same_key : List Word → List Word → Bool
same_key = pointwise same_word

-- the keys so far, each once, the number of each thing, and the first thing that has each number
pub record Numbers : Type 0 where
  pub keys : List (List Word)
  pub to : List ℕ
  pub firsts : List ℕ

abbrev pub no_numbers : Numbers
no_numbers = record { keys = []; to = []; firsts = [] }

-- whether no key so far is the same
abbrev pub is_new : List (List Word) → List Word → Bool
is_new keys key = not (list_any (same_key key) keys)

-- the place of the key that is the same, or else the next one
abbrev pub number_in : List (List Word) → List Word → ℕ
number_in keys key = position_or_len (same_key key) keys

abbrev pub with_key : List (List Word) → List Word → List (List Word)
with_key keys key = if list_any (same_key key) keys then keys else keys ++ key ∷ []

abbrev pub with_first : List ℕ → ℕ → Bool → List ℕ
with_first firsts place new = if new then firsts ++ place ∷ [] else firsts

abbrev pub numbered_with : Numbers → List Word → Numbers
numbered_with n key = record {
  keys = with_key n.keys key;
  to = n.to ++ number_in n.keys key ∷ [];
  firsts = with_first n.firsts (length n.to) (is_new n.keys key);
}

-- the renaming that they are
abbrev pub renaming : Numbers → Renaming
renaming n = record { to = n.to; firsts = n.firsts }
