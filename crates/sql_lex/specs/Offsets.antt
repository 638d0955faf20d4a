-- What is found of a text, by places in it, and what the same is by rests of the text.
use Rattle.std.specs.Prelude.{Bool, true, false, ◌≡◌, ℕ, ◌≤◌, List, length, drop, Result, Ok, Err}
use Rattle.sql_lex.specs.declared.token.Halt.{Halt}
use Rattle.sql_lex.specs.declared.token.Piece.{Piece}
use Rattle.sql_lex.specs.declared.token.TokenKind.{TokenKind}
use Rattle.sql_lex.specs.declared.token.TokenKind.TheVariants.{Word, Quoted, Str, EscStr, Number, Sign, End}
use Rattle.sql_lex.specs.Separators.{Stop}
use Rattle.sql_lex.specs.Lex.{Found}

abbrev pub stop_of : List ℕ → Halt → Stop
stop_of text halt = record { which = halt.which; stands = drop halt.stands text; unread = drop halt.unread text }

abbrev pub found_of : List ℕ → Piece → Found
found_of text piece = record { kind = piece.kind; front = drop piece.from text; after = drop piece.«to» text }

-- both places of the halt are in the text
abbrev pub IsHaltIn : List ℕ → Halt → Type 0
IsHaltIn text halt = (halt.stands ≤ length text) × (halt.unread ≤ length text)

-- a place from one on, at which it goes on so, or the stop that is wanted
abbrev pub GoesOn : List ℕ → ℕ → Result (List ℕ) Stop → (List ℕ → Result (List ℕ) Stop) → Result ℕ Halt → Type 0
GoesOn text start wanted next (Ok at) = (start ≤ at) × (at ≤ length text) × (wanted ≡ next (drop at text))
GoesOn text start wanted next (Err halt) = IsHaltIn text halt × (wanted ≡ Err (stop_of text halt))

-- the piece of the text, from a place on, or the stop that is wanted
abbrev pub IsFound : List ℕ → ℕ → Result Found Stop → Result Piece Halt → Type 0
IsFound text start wanted (Ok piece) = (start ≤ piece.from) × (piece.from ≤ piece.«to») × (piece.«to» ≤ length text)
    × (wanted ≡ Ok (found_of text piece))
IsFound text start wanted (Err halt) = IsHaltIn text halt × (wanted ≡ Err (stop_of text halt))

-- the kinds whose tokens are of ASCII without line ends
abbrev pub is_plain_kind_of : TokenKind → Bool
is_plain_kind_of Word = true
is_plain_kind_of Number = true
is_plain_kind_of (Sign b) = true
is_plain_kind_of Quoted = false
is_plain_kind_of Str = false
is_plain_kind_of EscStr = false
is_plain_kind_of End = false
