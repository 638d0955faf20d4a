-- The lexical grammar of scripts (PostgreSQL's documentation, "Lexical Structure"): what separates tokens, what the
-- text of
-- each kind of token is, and what it stands for. The lexer's own definitions don't occur here.
use Rattle.std.specs.Prelude.{◌≡◌, ◌≢◌, ◌⊎◌, ℕ, ◌≤◌, Bool, true, false, List, [], ◌∷◌, ◌++◌, map, ⊤}
use Rattle.std.specs.Char.{to_ascii_lowercase}
use Rattle.pg_base.specs.Lists.{Each}
use Rattle.sql_lex.specs.declared.token.TokenKind.{TokenKind}
use Rattle.sql_lex.specs.declared.token.TokenKind.TheVariants.{Word, Quoted, Str, EscStr, Number, Sign, End}
use Rattle.sql_lex.specs.Faults.{unterminated_text, unterminated_comment, stray_byte}

-- ---- characters

abbrev pub IsOneOf : List ℕ → ℕ → Type 0
IsOneOf [] b = ⊥
IsOneOf (c ∷ cs) b = (b ≡ c) ⊎ IsOneOf cs b

-- space, tab, LF, CR and form feed
abbrev pub IsBlank : ℕ → Type 0
IsBlank b = IsOneOf (32 ∷ 9 ∷ 10 ∷ 13 ∷ 12 ∷ []) b

-- LF and CR
abbrev pub IsLineEnd : ℕ → Type 0
IsLineEnd b = IsOneOf (10 ∷ 13 ∷ []) b

abbrev pub IsBetween : ℕ → ℕ → ℕ → Type 0
IsBetween low high b = (low ≤ b) × (b ≤ high)

-- A to Z, a to z
abbrev pub IsLetter : ℕ → Type 0
IsLetter b = IsBetween 65 90 b ⊎ IsBetween 97 122 b

-- 0 to 9
abbrev pub IsDigit : ℕ → Type 0
IsDigit b = IsBetween 48 57 b

-- a letter or `_`
abbrev pub BeginsWord : ℕ → Type 0
BeginsWord b = IsLetter b ⊎ (b ≡ 95)

abbrev pub GoesOnWord : ℕ → Type 0
GoesOnWord b = BeginsWord b ⊎ IsDigit b

-- any other character from `!` to `~` but the two quotes
abbrev pub IsSign : ℕ → Type 0
IsSign b = IsBetween 33 126 b × ((GoesOnWord b → ⊥) × ((b ≢ 34) × (b ≢ 39)))

-- what begins some token
abbrev pub BeginsToken : ℕ → Type 0
BeginsToken b = GoesOnWord b ⊎ (IsOneOf (34 ∷ 39 ∷ []) b ⊎ IsSign b)

-- the text begins with these two characters
abbrev pub Begins : ℕ → ℕ → List ℕ → Type 0
Begins a d text = (rest : List ℕ) × (text ≡ a ∷ d ∷ rest)

-- the text begins with such a character
abbrev pub BeginsSo : (ℕ → Type 0) → List ℕ → Type 0
BeginsSo P [] = ⊥
BeginsSo P (b ∷ rest) = P b

-- ---- separators

-- the text ends here, or its line
abbrev pub IsAtLineEnd : List ℕ → Type 0
IsAtLineEnd [] = ⊤
IsAtLineEnd (b ∷ rest) = IsLineEnd b

-- a character of a comment's line
abbrev pub IsOfLine : ℕ → Type 0
IsOfLine b = (b ≢ 0) × (IsLineEnd b → ⊥)

-- Neither opens nor closes a comment. Pairs are read from left to right.
abbrev pub IsNoMark : List ℕ → Type 0
IsNoMark text = (Begins 47 42 text → ⊥) × (Begins 42 47 text → ⊥)

-- a comment from after its `/*` on, and what stands after the `*/` that closes it: comments nest
pub data ClosesComment : List ℕ → List ℕ → Type 0 where
  closes : (rest : List ℕ) → ClosesComment (42 ∷ 47 ∷ rest) rest
  nests : (text after rest : List ℕ) → ClosesComment text after → ClosesComment after rest
      → ClosesComment (47 ∷ 42 ∷ text) rest
  passes : (b : ℕ) (text rest : List ℕ) → b ≢ 0 → IsNoMark (b ∷ text) → ClosesComment text rest
      → ClosesComment (b ∷ text) rest

-- the same up to a place at which no `*/` has closed it yet
pub data StaysOpen : List ℕ → List ℕ → Type 0 where
  opened : (rest : List ℕ) → StaysOpen rest rest
  holds : (text after rest : List ℕ) → ClosesComment text after → StaysOpen after rest → StaysOpen (47 ∷ 42 ∷ text) rest
  deepens : (text rest : List ℕ) → StaysOpen text rest → StaysOpen (47 ∷ 42 ∷ text) rest
  lasts : (b : ℕ) (text rest : List ℕ) → b ≢ 0 → IsNoMark (b ∷ text) → StaysOpen text rest → StaysOpen (b ∷ text) rest

-- a separator at the front of a text, and what stands after it
pub data IsSeparator : List ℕ → List ℕ → Type 0 where
  blank : (b : ℕ) (rest : List ℕ) → IsBlank b → IsSeparator (b ∷ rest) rest
  line_comment : (line rest : List ℕ) → Each IsOfLine line → IsAtLineEnd rest
      → IsSeparator (45 ∷ 45 ∷ (line ++ rest)) rest
  comment : (text rest : List ℕ) → ClosesComment text rest → IsSeparator (47 ∷ 42 ∷ text) rest

-- any number of them
pub data AreSeparators : List ℕ → List ℕ → Type 0 where
  are_none : (rest : List ℕ) → AreSeparators rest rest
  are_more : (text after rest : List ℕ) → IsSeparator text after → AreSeparators after rest → AreSeparators text rest

-- a blank or a comment begins here
abbrev pub BeginsSeparator : List ℕ → Type 0
BeginsSeparator text = BeginsSo IsBlank text ⊎ (Begins 45 45 text ⊎ Begins 47 42 text)

-- ---- tokens

-- an escape and what it stands for: `\n` LF, `\t` tab, and the backslash and the quote themselves
abbrev pub IsEscape : ℕ → ℕ → Type 0
IsEscape c value = ((c ≡ 110) × (value ≡ 10)) ⊎ (((c ≡ 116) × (value ≡ 9)) ⊎ (IsOneOf (92 ∷ 39 ∷ []) c × (value ≡ c)))

-- A text between quotes, and what it stands for: any characters but U+0000, two quotes for one, and with escapes a
-- backslash and the character after it for what these say.
pub data IsQuoted (escapes : Bool) (quote : ℕ) : List ℕ → List ℕ → Type 0 where
  is_nothing : IsQuoted escapes quote [] []
  is_character : (b : ℕ) (text value : List ℕ) → b ≢ 0 → b ≢ quote → (escapes ≡ true → b ≢ 92)
      → IsQuoted escapes quote text value → IsQuoted escapes quote (b ∷ text) (b ∷ value)
  is_pair : (text value : List ℕ) → IsQuoted escapes quote text value
      → IsQuoted escapes quote (quote ∷ quote ∷ text) (quote ∷ value)
  is_escape : (c v : ℕ) (text value : List ℕ) → escapes ≡ true → IsEscape c v → IsQuoted escapes quote text value
      → IsQuoted escapes quote (92 ∷ c ∷ text) (v ∷ value)

-- the letter directly before a string in which escapes count
abbrev pub IsEscapeMark : ℕ → Type 0
IsEscapeMark b = IsOneOf (69 ∷ 101 ∷ []) b

-- an opening quote and what may follow it, without a closing one
pub data IsOpenText : List ℕ → Type 0 where
  is_open_name : (text value : List ℕ) → IsQuoted false 34 text value → IsOpenText (34 ∷ text)
  is_open_string : (text value : List ℕ) → IsQuoted false 39 text value → IsOpenText (39 ∷ text)
  is_open_escapes : (mark : ℕ) (text value : List ℕ) → IsEscapeMark mark → IsQuoted true 39 text value
      → IsOpenText (mark ∷ 39 ∷ text)

-- a letter or `_`, and then letters, digits and `_`
abbrev pub IsWord : List ℕ → Type 0
IsWord [] = ⊥
IsWord (b ∷ text) = BeginsWord b × Each GoesOnWord text

-- digits, of which there is one
abbrev pub IsNumber : List ℕ → Type 0
IsNumber [] = ⊥
IsNumber (b ∷ text) = IsDigit b × Each IsDigit text

-- the text of a token of each kind, and what it stands for: a word is folded to lower case
abbrev pub Spells : TokenKind → List ℕ → List ℕ → Type 0
Spells Word text value = IsWord text × (value ≡ map to_ascii_lowercase text)
Spells Quoted text value = (inner : List ℕ) × ((inner ≢ []) × (IsQuoted false 34 inner value
    × (text ≡ 34 ∷ (inner ++ 34 ∷ []))))
Spells Str text value = (inner : List ℕ) × (IsQuoted false 39 inner value × (text ≡ 39 ∷ (inner ++ 39 ∷ [])))
Spells EscStr text value = (mark : ℕ) × ((inner : List ℕ) × (IsEscapeMark mark × (IsQuoted true 39 inner value
    × (text ≡ mark ∷ 39 ∷ (inner ++ 39 ∷ [])))))
Spells Number text value = IsNumber text × (value ≡ text)
Spells (Sign b) text value = IsSign b × ((text ≡ b ∷ []) × (value ≡ text))
Spells End text value = (text ≡ []) × (value ≡ text)

-- the text of a token of this kind
abbrev pub IsSpelling : TokenKind → List ℕ → Type 0
IsSpelling kind text = (value : List ℕ) × Spells kind text value

-- what may stand after a token of this kind: no letter or `_` directly after a number
abbrev pub MayFollow : TokenKind → List ℕ → Type 0
MayFollow kind rest = kind ≡ Number → BeginsSo BeginsWord rest → ⊥

-- ---- faults

-- the character after a backslash makes an escape with it
abbrev pub HasMeaning : ℕ → Type 0
HasMeaning c = (value : ℕ) × IsEscape c value

-- Why a text after separators has no token: the number of the fault, that text, and the part of it at which the fault
-- stands. A part that isn't closed goes up to the end of the text.
pub data HasNoToken : ℕ → List ℕ → List ℕ → Type 0 where
  open_text : (text : List ℕ) → IsOpenText text → HasNoToken unterminated_text text text
  open_comment : (text : List ℕ) → StaysOpen text [] → HasNoToken unterminated_comment (47 ∷ 42 ∷ text) (47 ∷ 42 ∷ text)
  no_token : (b : ℕ) (rest : List ℕ) → (BeginsSeparator (b ∷ rest) → ⊥) → (BeginsToken b → ⊥)
      → HasNoToken stray_byte (b ∷ rest) (b ∷ rest)
  empty_name : (rest : List ℕ) → (BeginsSo (λ b. b ≡ 34) rest → ⊥)
      → HasNoToken stray_byte (34 ∷ 34 ∷ rest) (34 ∷ 34 ∷ rest)
  word_after_number : (digits : List ℕ) (b : ℕ) (rest : List ℕ) → IsNumber digits → BeginsWord b
      → HasNoToken stray_byte (digits ++ b ∷ rest) (b ∷ rest)
  zero_in_text : (text rest : List ℕ) → IsOpenText text → HasNoToken stray_byte (text ++ 0 ∷ rest) (0 ∷ rest)
  zero_in_line : (line rest : List ℕ) → Each IsOfLine line
      → HasNoToken stray_byte (45 ∷ 45 ∷ (line ++ 0 ∷ rest)) (0 ∷ rest)
  zero_in_comment : (text rest : List ℕ) → StaysOpen text (0 ∷ rest) → HasNoToken stray_byte (47 ∷ 42 ∷ text) (0 ∷ rest)
  no_escape : (mark : ℕ) (text value rest : List ℕ) → IsEscapeMark mark → IsQuoted true 39 text value
      → (BeginsSo HasMeaning rest → ⊥)
      → HasNoToken stray_byte (mark ∷ 39 ∷ (text ++ 92 ∷ rest)) (92 ∷ rest)

-- What is read runs up to the end of the text: separators alone, or after them a text between quotes or a comment that
-- is open there.
pub data IsCutOff : List ℕ → Type 0 where
  in_separators : (text : List ℕ) → AreSeparators text [] → IsCutOff text
  in_text : (text next : List ℕ) → AreSeparators text next → IsOpenText next → IsCutOff text
  in_comment : (text next : List ℕ) → AreSeparators text (47 ∷ 42 ∷ next) → StaysOpen next [] → IsCutOff text
