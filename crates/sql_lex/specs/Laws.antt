-- What a token or a fault of a text is by the grammar, and what all tokens of a text have to do with it.
use Rattle.std.specs.Prelude.{◌≡◌, ◌≢◌, ℕ, ◌-◌, ◌<◌, ◌≤◌, List, [], ◌∷◌, ◌++◌, length, take, drop, Ok, ⊤}
use Rattle.std.specs.Str.{IsUtf8}
use Rattle.std.specs.Str.Lossy.{utf8_valid_len}
use Rattle.pg_base.specs.Pos.{position_after}
use Rattle.sql_lex.specs.declared.token.Token.{Token}
use Rattle.sql_lex.specs.declared.token.LexFault.{LexFault}
use Rattle.sql_lex.specs.declared.token.TokenKind.{TokenKind}
use Rattle.sql_lex.specs.declared.token.TokenKind.TheVariants.{End}
use Rattle.sql_lex.specs.Faults.{stray_byte, not_utf8}
use Rattle.sql_lex.specs.Grammar.{AreSeparators, BeginsSeparator, IsSpelling, MayFollow, HasNoToken, IsCutOff}
use Rattle.sql_lex.specs.Lex.{first_token}
use Rattle.sql_lex.specs.Value.{spelling}

-- where a token that is read from a place on stands
pub record StandsIn (text : List ℕ) (at : ℕ) (t : Token) : Type 0 where
  pub from : at ≤ t.from
  pub order : t.from ≤ t.«to»
  pub within : t.«to» ≤ length text
  pub some : t.kind ≢ End → t.from < t.«to»
  pub last : t.kind ≡ End → t.from ≡ length text

-- no text of a token that stands here is longer than this
abbrev pub IsLongest : List ℕ → ℕ → Type 0
IsLongest text len = (kind : TokenKind) (front rest : List ℕ) → text ≡ front ++ rest → IsSpelling kind front
    → length front ≤ len

-- the token that stands behind the separators from a place on
pub record IsTokenFrom (text : List ℕ) (at : ℕ) (t : Token) : Type 0 where
  pub separated : AreSeparators (drop at text) (drop t.from text)
  pub begins : BeginsSeparator (drop t.from text) → ⊥
  pub spelled : IsSpelling t.kind (spelling text t)
  pub longest : IsLongest (drop t.from text) (t.«to» - t.from)
  pub follows : MayFollow t.kind (drop t.«to» text)
  pub utf8 : IsUtf8 (take (t.«to» - at) (drop at text))
  pub pos : t.pos ≡ position_after (take t.from text)

-- the bytes up to here are UTF-8, and no more of them are
abbrev pub EndsUtf8 : List ℕ → ℕ → Type 0
EndsUtf8 bytes n = (n < length bytes) × (IsUtf8 (take n bytes) × ((k : ℕ) → k ≤ length bytes → IsUtf8 (take k bytes)
    → k ≤ n))

-- the longest front that is UTF-8 of the text from a place on
abbrev pub utf8_from : List ℕ → ℕ → List ℕ
utf8_from text at = take (utf8_valid_len (drop at text)) (drop at text)

-- What stands n bytes after the start of the text, where it is read from a place on, by the number of the fault. It is
-- judged on the longest front that is UTF-8: a byte after it is the fault only where what is read runs up to its end,
-- and what is open at its end is the fault only where all of the text is UTF-8.
pub data IsReason (text : List ℕ) (at n : ℕ) : ℕ → Type 0 where
  no_character : EndsUtf8 (drop at text) (n - at) → IsCutOff (take (n - at) (drop at text))
      → IsReason text at n not_utf8
  no_token_here : (which : ℕ) (next : List ℕ) → AreSeparators (utf8_from text at) next
      → HasNoToken which next (drop (n - at) (utf8_from text at)) → (which ≢ stray_byte → IsUtf8 (drop at text))
      → IsReason text at n which

-- the fault for which no token is read from a place on
pub record IsFaultFrom (text : List ℕ) (at : ℕ) (fault : LexFault) : Type 0 where
  pub stands : ℕ
  pub from : at ≤ stands
  pub within : stands ≤ length text
  pub pos : fault.pos ≡ position_after (take stands text)
  pub reason : IsReason text at stands fault.which

-- what stands before a token that is read from a place on
abbrev pub gap : List ℕ → ℕ → Token → List ℕ
gap text at t = take (t.from - at) (drop at text)

-- all tokens of a text from a place on, up to its end
pub data AreTokens (text : List ℕ) : ℕ → List Token → Type 0 where
  ends : (at : ℕ) (t : Token) → first_token text at ≡ Ok t → t.kind ≡ End → AreTokens text at (t ∷ [])
  goes_on : (at : ℕ) (t : Token) (rest : List Token) → first_token text at ≡ Ok t → t.kind ≢ End
      → AreTokens text t.«to» rest → AreTokens text at (t ∷ rest)

-- the tokens and what stands before each
abbrev pub laid_out : List ℕ → ℕ → List Token → List ℕ
laid_out text at [] = []
laid_out text at (t ∷ rest) = gap text at t ++ (spelling text t ++ laid_out text t.«to» rest)

-- only separators stand before each
abbrev pub AreSeparated : List ℕ → ℕ → List Token → Type 0
AreSeparated text at [] = ⊤
AreSeparated text at (t ∷ rest) = AreSeparators (drop at text) (drop t.from text) × AreSeparated text t.«to» rest
