-- The tokens of a script.
use Rattle.std.specs.Prelude.{◌≡◌, ℕ, ◌+◌, ◌≤◌, true, false, ◌&&◌, ◌==◌, nat_lt, if◌then◌else◌, List, [], ◌∷◌, length, take, drop, Result, Ok, Err}
use Rattle.std.specs.Str.Lossy.{utf8_valid_len}
use Rattle.pg_base.specs.Pos.{position_after}
use Rattle.sql_lex.specs.declared.token.Token.{Token}
use Rattle.sql_lex.specs.declared.token.LexFault.{LexFault}
use Rattle.sql_lex.specs.declared.token.TokenKind.{TokenKind}
use Rattle.sql_lex.specs.declared.token.TokenKind.TheVariants.{Word, Quoted, Str, EscStr, Number, Sign, End}
use Rattle.sql_lex.specs.Bytes.{is_word_start, is_word_byte, is_digit, is_sign, is_escape_mark, after_run, before}
use Rattle.sql_lex.specs.Separators.{Stop, stray, after_separators}
use Rattle.sql_lex.specs.Faults.{not_utf8}
use Rattle.sql_lex.specs.Quoted.{after_quoted}

-- a token, the rest of the text at which it begins, and the rest after it
pub record Found : Type 0 where
  pub kind : TokenKind
  pub front : List ℕ
  pub after : List ℕ

abbrev pub found : TokenKind → List ℕ → List ℕ → Result Found Stop
found kind front after = Ok (record { kind = kind; front = front; after = after })

-- a string that begins at the front
abbrev pub string_at : TokenKind → List ℕ → Result (List ℕ) Stop → Result Found Stop
string_at kind front (Ok after) = found kind front after
string_at kind front (Err stop) = Err stop

-- a quoted name, which is not empty
abbrev pub name_at : ℕ → List ℕ → Result (List ℕ) Stop → Result Found Stop
name_at b z (Ok after) = if before (b ∷ z) after == 2 then Err (stray b z) else found Quoted (b ∷ z) after
name_at b z (Err stop) = Err stop

-- a number, directly after which no word begins
abbrev pub number_at : List ℕ → List ℕ → Result Found Stop
number_at front [] = found Number front []
number_at front (b ∷ z) = if is_word_start b then Err (stray b z) else found Number front (b ∷ z)

-- a word, or a string with escapes
abbrev pub word_at : ℕ → List ℕ → Result Found Stop
word_at b [] = found Word (b ∷ []) []
word_at b (c ∷ z) =
    if is_escape_mark b && c == 39 then string_at EscStr (b ∷ c ∷ z) (after_quoted (b ∷ c ∷ z) true 39 z)
    else found Word (b ∷ c ∷ z) (after_run is_word_byte (c ∷ z))

-- the token at the front
unfoldable pub token_at : List ℕ → Result Found Stop
token_at [] = found End [] []
token_at (b ∷ z) =
    if is_word_start b then word_at b z
    else (if b == 34 then name_at b z (after_quoted (b ∷ z) false 34 z)
    else (if b == 39 then string_at Str (b ∷ z) (after_quoted (b ∷ z) false 39 z)
    else (if is_digit b then number_at (b ∷ z) (after_run is_digit z)
    else (if is_sign b then found (Sign b) (b ∷ z) z
    else Err (stray b z)))))

-- the token after the separators
abbrev pub token_after : Result (List ℕ) Stop → Result Found Stop
token_after (Ok front) = token_at front
token_after (Err stop) = Err stop

abbrev pub fault_at : ℕ → List ℕ → ℕ → LexFault
fault_at which text n = record { which = which; pos = position_after (take n text) }

-- The answer for a text whose first byte that is not UTF-8 stands after `bad` bytes: that byte is the fault where the
-- token ends after it, or another fault is found after it.
abbrev pub answer : List ℕ → ℕ → Result Found Stop → Result Token LexFault
answer text bad (Ok f) =
    if nat_lt bad (before text f.after) then Err (fault_at not_utf8 text bad)
    else Ok (record {
      kind = f.kind;
      from = before text f.front;
      «to» = before text f.after;
      pos =
          position_after (take (before text f.front) text);
    })
answer text bad (Err stop) = if nat_lt bad (before text stop.unread) then Err (fault_at not_utf8 text bad)
    else Err (fault_at stop.which text (before text stop.stands))

-- how many bytes stand before the first one, from a place on, that belongs to no character
abbrev pub bad_byte : List ℕ → ℕ → ℕ
bad_byte text at = at + utf8_valid_len (drop at text)

-- the first token of a text from a place on, or why there is none
unfoldable pub first_token : List ℕ → ℕ → Result Token LexFault
first_token text at = answer text (bad_byte text at) (token_after (after_separators (drop at text)))

-- the token is one of those of the text
pub record IsTokenOf (text : List ℕ) (token : Token) : Type 0 where
  pub at : ℕ
  pub within : at ≤ length text
  pub reads : first_token text at ≡ Ok token
