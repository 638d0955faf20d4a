-- The bytes of which tokens consist, as the lexical structure of PostgreSQL's SQL names them.
use Rattle.std.specs.Prelude.{ℕ, ◌-◌, Bool, false, ◌&&◌, ◌||◌, ◌==◌, nat_le, not, List, [], ◌∷◌, length, take_while, drop}

-- space, tab, LF, form feed and CR
abbrev pub is_blank : ℕ → Bool
is_blank b = b == 32 || b == 9 || b == 10 || b == 12 || b == 13

-- what ends the line of a comment that begins with two dashes
abbrev pub is_line_end : ℕ → Bool
is_line_end b = b == 10 || b == 13

abbrev pub is_digit : ℕ → Bool
is_digit b = nat_le 48 b && nat_le b 57

-- a letter or an underscore
abbrev pub is_word_start : ℕ → Bool
is_word_start b = b == 95 || (nat_le 97 b && nat_le b 122) || (nat_le 65 b && nat_le b 90)

abbrev pub is_word_byte : ℕ → Bool
is_word_byte b = is_word_start b || is_digit b

-- any other character of ASCII that is seen
abbrev pub is_sign : ℕ → Bool
is_sign b = nat_le 33 b && nat_le b 126 && not (is_word_byte b) && not (b == 34) && not (b == 39)

-- the letter that makes a string after it one with escapes
abbrev pub is_escape_mark : ℕ → Bool
is_escape_mark b = b == 69 || b == 101

-- n, t, the backslash and the quote
abbrev pub is_escape : ℕ → Bool
is_escape b = b == 110 || b == 116 || b == 92 || b == 39

abbrev pub begins_word : List ℕ → Bool
begins_word [] = false
begins_word (b ∷ z) = is_word_start b

abbrev pub begins_escape : List ℕ → Bool
begins_escape [] = false
begins_escape (b ∷ z) = is_escape b

abbrev pub begins_with : ℕ → List ℕ → Bool
begins_with a [] = false
begins_with a (b ∷ z) = b == a

-- the list begins with the two bytes
abbrev pub begins_with_pair : ℕ → ℕ → List ℕ → Bool
begins_with_pair a d [] = false
begins_with_pair a d (b ∷ z) = b == a && begins_with d z

-- what stands after the longest run of bytes that pass
abbrev pub after_run : (ℕ → Bool) → List ℕ → List ℕ
after_run p z = drop (length (take_while p z)) z

-- how many bytes of the text stand before this end of it
abbrev pub before : List ℕ → List ℕ → ℕ
before text rest = length text - length rest
