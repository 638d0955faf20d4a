-- The lexical grammar of documents (sections 2.1 and 2.9 of the GraphQL specification, October 2021): what is ignored,
-- what the text of each kind of token is, and what it stands for. The lexer's own definitions don't occur here. A
-- character beyond ASCII is seen as its bytes, which are 128 and above.
use Rattle.std.specs.Prelude.{◌≡◌, ◌≢◌, ◌⊎◌, ℕ, ◌+◌, ◌*◌, ◌<◌, ◌≤◌, List, [], ◌∷◌, ◌++◌, length, codes, encode_utf8, ⊤}
use Rattle.pg_base.specs.Lists.{Each, EachPair}
use Rattle.gql_lex.specs.declared.token.Punctuator.{Punctuator}
use Rattle.gql_lex.specs.declared.token.Punctuator.TheVariants as p
use Rattle.gql_lex.specs.declared.token.TokenKind.{TokenKind}
use Rattle.gql_lex.specs.declared.token.TokenKind.TheVariants as k
use Rattle.gql_lex.specs.declared.token.Word.{Word}
use Rattle.gql_lex.specs.declared.token.Word.TheVariants as w

-- ---- characters

abbrev pub IsOneOf : List ℕ → ℕ → Type 0
IsOneOf [] b = ⊥
IsOneOf (c ∷ cs) b = (b ≡ c) ⊎ IsOneOf cs b

abbrev pub IsBetween : ℕ → ℕ → ℕ → Type 0
IsBetween low high b = (low ≤ b) × (b ≤ high)

-- 2.1.2, WhiteSpace: tab and space
abbrev pub IsWhiteSpace : ℕ → Type 0
IsWhiteSpace b = IsOneOf (9 ∷ 32 ∷ []) b

-- 2.1.3, LineTerminator: LF and CR
abbrev pub IsLineTerminator : ℕ → Type 0
IsLineTerminator b = IsOneOf (10 ∷ 13 ∷ []) b

-- 2.1.1, SourceCharacter: tab, LF, CR, and every character from the space on
abbrev pub IsSourceCharacter : ℕ → Type 0
IsSourceCharacter b = IsOneOf (9 ∷ 10 ∷ 13 ∷ []) b ⊎ (32 ≤ b)

-- 2.1.4, CommentChar
abbrev pub IsCommentCharacter : ℕ → Type 0
IsCommentCharacter b = IsSourceCharacter b × (IsLineTerminator b → ⊥)

-- 2.1.9, Letter
abbrev pub IsLetter : ℕ → Type 0
IsLetter b = IsBetween 65 90 b ⊎ IsBetween 97 122 b

-- 2.1.9, Digit
abbrev pub IsDigit : ℕ → Type 0
IsDigit b = IsBetween 48 57 b

-- 2.9.1, NonZeroDigit
abbrev pub IsNonZeroDigit : ℕ → Type 0
IsNonZeroDigit b = IsBetween 49 57 b

-- 2.1.9, NameStart
abbrev pub IsNameStart : ℕ → Type 0
IsNameStart b = IsLetter b ⊎ (b ≡ 95)

-- 2.1.9, NameContinue
abbrev pub IsNameContinue : ℕ → Type 0
IsNameContinue b = IsNameStart b ⊎ IsDigit b

-- the text begins with such a character
abbrev pub BeginsSo : (ℕ → Type 0) → List ℕ → Type 0
BeginsSo P [] = ⊥
BeginsSo P (b ∷ rest) = P b

-- the text begins with these
abbrev pub Begins : List ℕ → List ℕ → Type 0
Begins front text = (rest : List ℕ) × (text ≡ front ++ rest)

-- ---- 2.1.7, what is ignored

-- U+FEFF
abbrev pub byte_order_mark : List ℕ
byte_order_mark = 0xef ∷ 0xbb ∷ 0xbf ∷ []

-- something that is ignored at the front of a text, and what stands after it
pub data IsIgnored : List ℕ → List ℕ → Type 0 where
  mark : (rest : List ℕ) → IsIgnored (0xef ∷ 0xbb ∷ 0xbf ∷ rest) rest
  white_space : (b : ℕ) (rest : List ℕ) → IsWhiteSpace b → IsIgnored (b ∷ rest) rest
  line_terminator : (b : ℕ) (rest : List ℕ) → IsLineTerminator b → IsIgnored (b ∷ rest) rest
  comma : (rest : List ℕ) → IsIgnored (44 ∷ rest) rest
  comment : (text rest : List ℕ) → Each IsCommentCharacter text → (BeginsSo IsCommentCharacter rest → ⊥)
      → IsIgnored (35 ∷ (text ++ rest)) rest

-- any number of these
pub data AreIgnored : List ℕ → List ℕ → Type 0 where
  are_none : (text : List ℕ) → AreIgnored text text
  are_more : (text next rest : List ℕ) → AreIgnored text next → IsIgnored next rest → AreIgnored text rest

-- something that is ignored begins here
abbrev pub BeginsIgnored : List ℕ → Type 0
BeginsIgnored text = Begins byte_order_mark text ⊎ BeginsSo (IsOneOf (9 ∷ 32 ∷ 10 ∷ 13 ∷ 44 ∷ 35 ∷ [])) text

-- ---- 2.1.8, punctuators

abbrev pub punctuator_text : Punctuator → List ℕ
punctuator_text p.Bang = codes "!"
punctuator_text p.Dollar = codes "$"
punctuator_text p.Ampersand = codes "&"
punctuator_text p.OpenParen = codes "("
punctuator_text p.CloseParen = codes ")"
punctuator_text p.Spread = codes "..."
punctuator_text p.Colon = codes ":"
punctuator_text p.Equals = codes "="
punctuator_text p.At = codes "@"
punctuator_text p.OpenBracket = codes "["
punctuator_text p.CloseBracket = codes "]"
punctuator_text p.OpenBrace = codes "{"
punctuator_text p.Pipe = codes "|"
punctuator_text p.CloseBrace = codes "}"

-- the first characters of these, but `.`
abbrev pub BeginsPunctuator : ℕ → Type 0
BeginsPunctuator b = IsOneOf (codes "!$&():=@[]{|}") b

-- ---- 2.1.9, names

abbrev pub IsName : List ℕ → Type 0
IsName [] = ⊥
IsName (b ∷ text) = IsNameStart b × Each IsNameContinue text

-- the names with which a definition of a type system begins
abbrev pub IsTypeSystemWord : List ℕ → Type 0
IsTypeSystemWord name =
    (name ≡ codes "schema") ⊎ ((name ≡ codes "scalar") ⊎ ((name ≡ codes "type") ⊎ ((name ≡ codes "interface")
    ⊎ ((name ≡ codes "union") ⊎ ((name ≡ codes "enum") ⊎ ((name ≡ codes "input") ⊎ ((name ≡ codes "directive")
    ⊎ (name ≡ codes "extend"))))))))

-- ---- 2.9.1 and 2.9.2, numbers

-- 0, or digits of which the first is another
pub data IsUnsigned : List ℕ → Type 0 where
  zero_alone : IsUnsigned (48 ∷ [])
  digits : (b : ℕ) (text : List ℕ) → IsNonZeroDigit b → Each IsDigit text → IsUnsigned (b ∷ text)

-- IntegerPart
pub data IsIntegerPart : List ℕ → Type 0 where
  plain : (text : List ℕ) → IsUnsigned text → IsIntegerPart text
  negative : (text : List ℕ) → IsUnsigned text → IsIntegerPart (45 ∷ text)

-- digits, of which there is one
abbrev pub AreDigits : List ℕ → Type 0
AreDigits [] = ⊥
AreDigits (b ∷ text) = IsDigit b × Each IsDigit text

-- FractionalPart
pub data IsFractionalPart : List ℕ → Type 0 where
  fraction : (text : List ℕ) → AreDigits text → IsFractionalPart (46 ∷ text)

-- ExponentPart
pub data IsExponentPart : List ℕ → Type 0 where
  exponent : (e : ℕ) (text : List ℕ) → IsOneOf (codes "eE") e → AreDigits text → IsExponentPart (e ∷ text)
  signed_exponent : (e sign : ℕ) (text : List ℕ) → IsOneOf (codes "eE") e → IsOneOf (codes "+-") sign
      → AreDigits text → IsExponentPart (e ∷ sign ∷ text)

abbrev pub IsOptional : (List ℕ → Type 0) → List ℕ → Type 0
IsOptional P text = (text ≡ []) ⊎ P text

-- an integer part, and then what a float may have
pub record IsNumber (text : List ℕ) : Type 0 where
  pub integer : List ℕ
  pub fractional : List ℕ
  pub exponential : List ℕ
  pub is_integer : IsIntegerPart integer
  pub is_fractional : IsOptional IsFractionalPart fractional
  pub is_exponential : IsOptional IsExponentPart exponential
  pub parts : text ≡ integer ++ (fractional ++ exponential)

-- FloatValue: one of the two parts is there
abbrev pub IsFloat : List ℕ → Type 0
IsFloat text = (number : IsNumber text) × (number.fractional ++ number.exponential ≢ [])

-- no digit, `.` or name start follows a number
abbrev pub IsNumberFollower : ℕ → Type 0
IsNumberFollower b = IsDigit b ⊎ ((b ≡ 46) ⊎ IsNameStart b)

-- ---- 2.9.4, strings

-- EscapedCharacter and what it stands for
abbrev pub IsEscapedCharacter : ℕ → ℕ → Type 0
IsEscapedCharacter c value =
    (IsOneOf (34 ∷ 92 ∷ 47 ∷ []) c × (value ≡ c)) ⊎ (((c ≡ 98) × (value ≡ 8)) ⊎ (((c ≡ 102) × (value ≡ 12))
    ⊎ (((c ≡ 110) × (value ≡ 10)) ⊎ (((c ≡ 114) × (value ≡ 13)) ⊎ ((c ≡ 116) × (value ≡ 9))))))

-- a hexadecimal digit, and its value
abbrev pub IsHexDigit : ℕ → ℕ → Type 0
IsHexDigit b value = (IsBetween 48 57 b × (48 + value ≡ b)) ⊎ ((IsBetween 65 70 b × (55 + value ≡ b))
    ⊎ (IsBetween 97 102 b × (87 + value ≡ b)))

abbrev pub IsSurrogate : ℕ → Type 0
IsSurrogate code = IsBetween 0xd800 0xdfff code

-- what stands after a backslash, and the character that it stands for
pub data IsEscape : List ℕ → ℕ → Type 0 where
  character : (c value : ℕ) → IsEscapedCharacter c value → IsEscape (c ∷ []) value
  unicode : (a b c d i j m n : ℕ) → IsHexDigit a i → IsHexDigit b j → IsHexDigit c m → IsHexDigit d n
      → (IsSurrogate (16 * (16 * (16 * (16 * 0 + i) + j) + m) + n) → ⊥)
      → IsEscape (117 ∷ a ∷ b ∷ c ∷ d ∷ []) (16 * (16 * (16 * (16 * 0 + i) + j) + m) + n)

-- an escape stands at the front
abbrev pub BeginsEscape : List ℕ → Type 0
BeginsEscape text = (escape rest : List ℕ) × ((value : ℕ) × (IsEscape escape value × (text ≡ escape ++ rest)))

-- what a text that ends in an escape has of it: nothing, or `u` and less than four digits
abbrev pub IsEscapeBegun : List ℕ → Type 0
IsEscapeBegun [] = ⊤
IsEscapeBegun (c ∷ text) = (c ≡ 117) × ((length text < 4) × Each (λ b. (value : ℕ) × IsHexDigit b value) text)

-- a character of a string that stands for itself
abbrev pub IsStringCharacter : ℕ → Type 0
IsStringCharacter b = IsCommentCharacter b × ((b ≢ 34) × (b ≢ 92))

-- what stands between a string's quotes, and what it stands for
pub data IsStringText : List ℕ → List ℕ → Type 0 where
  string_end : IsStringText [] []
  string_character : (b : ℕ) (text value : List ℕ) → IsStringCharacter b → IsStringText text value
      → IsStringText (b ∷ text) (b ∷ value)
  string_escape : (escape : List ℕ) (c : ℕ) (text value : List ℕ) → IsEscape escape c → IsStringText text value
      → IsStringText (92 ∷ (escape ++ text)) (encode_utf8 c ++ value)

abbrev pub three_quotes : List ℕ
three_quotes = 34 ∷ 34 ∷ 34 ∷ []

-- neither a block string's end nor an escape of one stands here
abbrev pub IsNoBlockMark : List ℕ → Type 0
IsNoBlockMark text = (Begins three_quotes text → ⊥) × (Begins (92 ∷ three_quotes) text → ⊥)

-- a block string after its opening quotes, up to a place within it, and its raw value so far
pub data IsInBlock : List ℕ → List ℕ → List ℕ → Type 0 where
  block_here : (rest : List ℕ) → IsInBlock rest [] rest
  block_character : (b : ℕ) (text raw rest : List ℕ) → IsSourceCharacter b → IsNoBlockMark (b ∷ text)
      → IsInBlock text raw rest → IsInBlock (b ∷ text) (b ∷ raw) rest
  block_quotes : (text raw rest : List ℕ) → IsInBlock text raw rest
      → IsInBlock (92 ∷ 34 ∷ 34 ∷ 34 ∷ text) (34 ∷ 34 ∷ 34 ∷ raw) rest

-- ---- 2.9.4, what a block string stands for

-- LineTerminator at the front of a text, and what stands after it: LF, CR LF, and CR where no LF follows
pub data EndsLine : List ℕ → List ℕ → Type 0 where
  ends_by_lf : (rest : List ℕ) → EndsLine (10 ∷ rest) rest
  ends_by_both : (rest : List ℕ) → EndsLine (13 ∷ 10 ∷ rest) rest
  ends_by_cr : (rest : List ℕ) → (BeginsSo (λ b. b ≡ 10) rest → ⊥) → EndsLine (13 ∷ rest) rest

abbrev pub IsOfLine : ℕ → Type 0
IsOfLine b = IsLineTerminator b → ⊥

-- a text, and its lines
pub data HasLines : List ℕ → List (List ℕ) → Type 0 where
  has_last : (line : List ℕ) → Each IsOfLine line → HasLines line (line ∷ [])
  has_line : (line next rest : List ℕ) (lines : List (List ℕ)) → Each IsOfLine line → EndsLine next rest
      → HasLines rest lines → HasLines (line ++ next) (line ∷ lines)

-- white space alone, or nothing
abbrev pub IsBlankLine : List ℕ → Type 0
IsBlankLine line = Each IsWhiteSpace line

-- a line that isn't blank begins with n characters of white space
pub data IsIndented : ℕ → List ℕ → Type 0 where
  indent_ends : (b : ℕ) (line : List ℕ) → (IsWhiteSpace b → ⊥) → IsIndented 0 (b ∷ line)
  indent_more : (b n : ℕ) (line : List ℕ) → IsWhiteSpace b → IsIndented n line → IsIndented (1 + n) (b ∷ line)

-- the least indent of the lines that aren't blank, or 0 where all are
pub data IsCommonIndent : ℕ → List (List ℕ) → Type 0 where
  none_indented : (lines : List (List ℕ)) → Each IsBlankLine lines → IsCommonIndent 0 lines
  least_indent : (n : ℕ) (before : List (List ℕ)) (line : List ℕ) (after : List (List ℕ)) → IsIndented n line
      → Each (λ other. (m : ℕ) → IsIndented m other → n ≤ m) (before ++ line ∷ after)
      → IsCommonIndent n (before ++ line ∷ after)

-- a line, and the same without its first n characters: without any, where it has no more
pub data IsUndented (n : ℕ) : List ℕ → List ℕ → Type 0 where
  front_off : (front rest : List ℕ) → length front ≡ n → IsUndented n (front ++ rest) rest
  all_off : (line : List ℕ) → length line ≤ n → IsUndented n line []

-- lines without the common indent of those after the first, which keeps its own
pub data AreUndented : List (List ℕ) → List (List ℕ) → Type 0 where
  are_undented : (n : ℕ) (first : List ℕ) (lines others : List (List ℕ)) → IsCommonIndent n lines
      → EachPair (IsUndented n) lines others → AreUndented (first ∷ lines) (first ∷ others)

-- lines without the blank ones at both ends
pub record AreTrimmed (lines kept : List (List ℕ)) : Type 0 where
  pub front : List (List ℕ)
  pub back : List (List ℕ)
  pub split : lines ≡ front ++ (kept ++ back)
  pub front_blank : Each IsBlankLine front
  pub back_blank : Each IsBlankLine back
  pub first : (line : List ℕ) (rest : List (List ℕ)) → kept ≡ line ∷ rest → IsBlankLine line → ⊥
  pub last : (rest : List (List ℕ)) (line : List ℕ) → kept ≡ rest ++ line ∷ [] → IsBlankLine line → ⊥

-- lines, and these with an LF between each two
pub data AreJoined : List (List ℕ) → List ℕ → Type 0 where
  join_none : AreJoined [] []
  join_one : (line : List ℕ) → AreJoined (line ∷ []) line
  join_more : (line next : List ℕ) (lines : List (List ℕ)) (text : List ℕ) → AreJoined (next ∷ lines) text
      → AreJoined (line ∷ next ∷ lines) (line ++ 10 ∷ text)

-- BlockStringValue of a raw value
pub record IsBlockValue (raw value : List ℕ) : Type 0 where
  pub lines : List (List ℕ)
  pub undented : List (List ℕ)
  pub kept : List (List ℕ)
  pub has_lines : HasLines raw lines
  pub are_undented : AreUndented lines undented
  pub are_trimmed : AreTrimmed undented kept
  pub are_joined : AreJoined kept value

-- ---- tokens

-- the text of a token of each kind, and what it stands for
abbrev pub Spells : TokenKind → List ℕ → List ℕ → Type 0
Spells (k.Punctuator punctuator) text value = (text ≡ punctuator_text punctuator) × (value ≡ text)
Spells (k.Name word) text value = IsName text × (value ≡ text)
Spells k.Int text value = IsIntegerPart text × (value ≡ text)
Spells k.Float text value = IsFloat text × (value ≡ text)
Spells k.String text value = (inner : List ℕ) × (IsStringText inner value × (text ≡ 34 ∷ (inner ++ 34 ∷ [])))
Spells k.BlockString text value =
    (inner raw : List ℕ) × (IsInBlock inner raw three_quotes × (IsBlockValue raw value
    × (text ≡ three_quotes ++ inner)))

abbrev pub IsSpelling : TokenKind → List ℕ → Type 0
IsSpelling kind text = (value : List ℕ) × Spells kind text value

-- what may stand after a token of each kind
abbrev pub MayFollow : TokenKind → List ℕ → Type 0
MayFollow k.Int rest = BeginsSo IsNumberFollower rest → ⊥
MayFollow k.Float rest = BeginsSo IsNumberFollower rest → ⊥
MayFollow (k.Punctuator punctuator) rest = ⊤
MayFollow (k.Name word) rest = ⊤
MayFollow k.String rest = ⊤
MayFollow k.BlockString rest = ⊤

-- the name is one that the word stands for
abbrev pub HasText : Word → List ℕ → Type 0
HasText w.Query name = name ≡ codes "query"
HasText w.Mutation name = name ≡ codes "mutation"
HasText w.Subscription name = name ≡ codes "subscription"
HasText w.Fragment name = name ≡ codes "fragment"
HasText w.On name = name ≡ codes "on"
HasText w.True name = name ≡ codes "true"
HasText w.False name = name ≡ codes "false"
HasText w.Null name = name ≡ codes "null"
HasText w.TypeSystem name = IsTypeSystemWord name
HasText w.Other name = ⊥

-- the word that a name is, and no other
abbrev pub IsWordOf : TokenKind → List ℕ → Type 0
IsWordOf (k.Punctuator punctuator) text = ⊤
IsWordOf (k.Name word) text = ((other : Word) → HasText other text → word ≡ other) × (word ≢ w.Other
    → HasText word text)
IsWordOf k.Int text = ⊤
IsWordOf k.Float text = ⊤
IsWordOf k.String text = ⊤
IsWordOf k.BlockString text = ⊤

-- ---- faults

-- why no token stands at the front of a text, in which nothing is ignored there
pub data HasNoToken : List ℕ → Type 0 where
  no_character : (b : ℕ) (rest : List ℕ) → (IsNameStart b → ⊥) → (IsDigit b → ⊥) → (BeginsPunctuator b → ⊥) → b ≢ 34
      → b ≢ 45 → b ≢ 46 → HasNoToken (b ∷ rest)
  no_spread : (rest : List ℕ) → (Begins (46 ∷ 46 ∷ []) rest → ⊥) → HasNoToken (46 ∷ rest)
  no_number : (b : ℕ) (rest : List ℕ) → IsDigit b ⊎ (b ≡ 45)
      → ((front after : List ℕ) → b ∷ rest ≡ front ++ after → IsNumber front → BeginsSo IsNumberFollower after)
      → HasNoToken (b ∷ rest)
  no_string_character : (text value : List ℕ) (b : ℕ) (rest : List ℕ)
      → (Begins three_quotes (34 ∷ (text ++ b ∷ rest)) → ⊥)
      → IsStringText text value → (IsCommentCharacter b → ⊥) → HasNoToken (34 ∷ (text ++ b ∷ rest))
  no_escape : (text value rest : List ℕ) → IsStringText text value → (BeginsEscape rest → ⊥)
      → HasNoToken (34 ∷ (text ++ 92 ∷ rest))
  no_block_character : (text raw : List ℕ) (b : ℕ) (rest : List ℕ) → IsInBlock text raw (b ∷ rest)
      → (IsSourceCharacter b → ⊥) → HasNoToken (34 ∷ 34 ∷ 34 ∷ text)

-- a string that goes up to the end of the text without being closed
pub data IsOpenString : List ℕ → Type 0 where
  open_string : (text value : List ℕ) → IsStringText text value → IsOpenString (34 ∷ text)
  open_escape : (text value rest : List ℕ) → IsStringText text value → IsEscapeBegun rest
      → IsOpenString (34 ∷ (text ++ 92 ∷ rest))
  open_block : (text raw : List ℕ) → IsInBlock text raw [] → IsOpenString (34 ∷ 34 ∷ 34 ∷ text)
