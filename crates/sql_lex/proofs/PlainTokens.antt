-- What blanks and tokens of ASCII do to the position and to what is UTF-8.
use Rattle.std.proofs.Common.{◌≡◌, ℕ, suc, ◌+◌, ◌-◌, ◌<◌, ◌≤◌, true, List, [], ◌∷◌, ◌++◌, length, get_or, take, drop, refl, sym, ap, subst, ◌∙◌, inl, inr, arith, length-append, length-drop, Result, Ok, Err}
use Rattle.std.specs.List.{list_all}
use Rattle.std.specs.Str.{IsUtf8}
use Rattle.std.specs.Str.Lossy.{utf8_valid_len}
use Rattle.std.proofs.lemmas.Bool.{false≢true}
use Rattle.std.proofs.lemmas.Bool.Decides.{nat_tests}
use Rattle.std.proofs.lemmas.List.{take_at}
use Rattle.std.proofs.lemmas.Str.{IsUtf8-nil, IsUtf8-append, IsUtf8-drop, IsUtf8-from_ascii, IsCharBoundary-after_ascii, utf8_valid_len_le}
use Rattle.std.proofs.lemmas.Str.Ascii.{IsAscii-cons, IsAscii-nil}
use Rattle.pg_base.specs.Lists.{Each}
use Rattle.pg_base.specs.Pos.{is_plain, start, passed, counter_after}
use Rattle.sql_lex.specs.declared.token.TokenKind.{TokenKind}
use Rattle.sql_lex.specs.declared.token.TokenKind.TheVariants.{Word, Quoted, Str, EscStr, Number, Sign, End}
use Rattle.sql_lex.specs.declared.token.Piece.{Piece}
use Rattle.sql_lex.specs.Bytes.{is_blank}
use Rattle.sql_lex.specs.Separators.{Stop, after_separators}
use Rattle.sql_lex.specs.Lex.{token_at, token_after, answer, bad_byte, first_token}
use Rattle.sql_lex.specs.Offsets.{found_of, is_plain_kind_of}
use Rattle.sql_lex.specs.Grammar.{IsDigit, GoesOnWord, IsSign, IsNumber, IsWord, Spells}
use Rattle.sql_lex.proofs.Rests.{split}
use Rattle.sql_lex.proofs.Utf8.{valid_front, valid_longest}
use Rattle.sql_lex.proofs.SeparatorSteps.{separators_blank}
use Rattle.sql_lex.proofs.Answering.{place_on}
use Rattle.sql_lex.proofs.Shapes.{token_shape, err_ok}
use Rattle.sql_lex.proofs.Spelled.{token_found}

-- ---- UTF-8 after a byte of ASCII

pub one_utf8 : (b : ℕ) → b < 128 → IsUtf8 (b ∷ [])
one_utf8 b lt = IsUtf8-from_ascii (b ∷ []) (IsAscii-cons b [] lt IsAscii-nil)

more_utf8 : (b : ℕ) (w : List ℕ) → b < 128 → IsUtf8 w → IsUtf8 (b ∷ w)
more_utf8 b w lt u = IsUtf8-append (b ∷ []) w (one_utf8 b lt) u

less_utf8 : (b : ℕ) (w : List ℕ) → b < 128 → IsUtf8 (b ∷ w) → IsUtf8 w
less_utf8 b w lt u = IsUtf8-drop (b ∷ w) 1 u (IsCharBoundary-after_ascii (b ∷ w) 0 u (omega arith) lt)

valid_more : (b : ℕ) (w : List ℕ) → b < 128 → utf8_valid_len (b ∷ w) ≡ 1 + utf8_valid_len w
valid_more b w lt =
    let m = utf8_valid_len w in
    let short : m ≤ length w = utf8_valid_len_le w in
    let up = valid_longest (b ∷ w) (suc m) (omega arith) (more_utf8 b (take m w) lt (valid_front w)) in
    let n = utf8_valid_len (b ∷ w) in
    let long : n ≤ suc (length w) = utf8_valid_len_le (b ∷ w) in
    let k : suc (n - 1) ≡ n = omega arith in
    let down = valid_longest w (n - 1) (omega arith) (less_utf8 b (take (n - 1) w) lt (subst (λ (i : ℕ). IsUtf8 (take i (b ∷ w))) (sym k) (valid_front (b ∷ w)))) in
    omega arith

blank_ascii : (b : ℕ) → is_blank b ≡ true → b < 128
blank_ascii b e = grind (arith, nat_tests)

module _ (z : List ℕ) (i : ℕ) (lt : i < length z) (blank : is_blank (get_or z i 0) ≡ true) where
  bad_further : bad_byte z i ≡ bad_byte z (i + 1)
  bad_further = let k = ap utf8_valid_len (split z i lt) ∙ valid_more (get_or z i 0) (drop (i + 1) z) (blank_ascii _ blank) in omega (arith, k)

  pub first_token-blank : first_token z i ≡ first_token z (i + 1)
  unfolding first_token
  first_token-blank =
      ap (λ (n : ℕ). answer z n (token_after (after_separators (drop i z)))) bad_further
      ∙ ap (λ r. answer z (bad_byte z (i + 1)) (token_after r)) (separators_blank z i lt blank)

-- the place after one byte more
pub place_more : (z : List ℕ) (i : ℕ) → i < length z → passed (counter_after start (take i z)) (get_or z i 0) ≡ counter_after start (take (i + 1) z)
unfolding counter_after
place_more z i lt =
    let one : i + 1 - i ≡ suc 0 = omega arith in
    let byte : take (i + 1 - i) (drop i z) ≡ get_or z i 0 ∷ [] = ap (λ (n : ℕ). take n (drop i z)) one ∙ ap (take (suc 0)) (split z i lt) in
    sym (place_on z i (i + 1) (omega arith) ∙ ap (counter_after (counter_after start (take i z))) byte)

-- ---- tokens of ASCII without line ends

record IsPlain (text : List ℕ) : Type 0 where
  plain : list_all is_plain text ≡ true
  utf8 : IsUtf8 text

plain_word : (b : ℕ) → GoesOnWord b → (is_plain b ≡ true) × (b < 128)
plain_word b h = (grind (arith, nat_tests), grind (arith, nat_tests))

plain_sign : (b : ℕ) → IsSign b → (is_plain b ≡ true) × (b < 128)
plain_sign b h = let low = h.0.0 in let high = h.0.1 in (grind (arith, nat_tests), omega arith)

plain_more : (b : ℕ) (text : List ℕ) → (is_plain b ≡ true) × (b < 128) → IsPlain text → IsPlain (b ∷ text)
plain_more b text h p = record { plain = rw h.0 p.plain; utf8 = more_utf8 b text h.1 p.utf8 }

plain_none : IsPlain []
plain_none = record { plain = refl; utf8 = IsUtf8-nil }

plain_each : (text : List ℕ) → Each GoesOnWord text → IsPlain text
plain_each [] h = plain_none
plain_each (b ∷ text) h = plain_more b text (plain_word b h.0) (plain_each text h.1)

digits_each : (text : List ℕ) → Each IsDigit text → IsPlain text
digits_each [] h = plain_none
digits_each (b ∷ text) h = plain_more b text (plain_word b (inr h.0)) (digits_each text h.1)

word_plain : (text : List ℕ) → IsWord text → IsPlain text
word_plain [] h = absurd h
word_plain (b ∷ text) h = plain_more b text (plain_word b (inl h.0)) (plain_each text h.1)

number_plain : (text : List ℕ) → IsNumber text → IsPlain text
number_plain [] h = absurd h
number_plain (b ∷ text) h = plain_more b text (plain_word b (inr h.0)) (digits_each text h.1)

kind_plain : (kind : TokenKind) (text value : List ℕ) → is_plain_kind_of kind ≡ true → Spells kind text value → IsPlain text
kind_plain Word text value e h = word_plain text h.0
kind_plain Number text value e h = number_plain text h.0
kind_plain (Sign b) text value e h = subst IsPlain (sym h.1.0) (plain_more b [] (plain_sign b h.0) plain_none)
kind_plain Quoted text value e h = absurd (false≢true e)
kind_plain Str text value e h = absurd (false≢true e)
kind_plain EscStr text value e h = absurd (false≢true e)
kind_plain End text value e h = absurd (false≢true e)

module _ (z : List ℕ) (at : ℕ) (piece : Piece) (wanted : token_after (after_separators (drop at z)) ≡ Ok (found_of z piece)) (here : piece.from ≡ at) (order : piece.from ≤ piece.«to») (within : piece.«to» ≤ length z) (plain : is_plain_kind_of piece.kind ≡ true) where
  is_plain_piece : IsPlain (take (piece.«to» - piece.from) (drop piece.from z))
  is_plain_piece = from_separators (after_separators (drop at z)) wanted
    where
      from_token : (w : List ℕ) → token_at w ≡ Ok (found_of z piece) → IsPlain (take (piece.«to» - piece.from) (drop piece.from z))
      from_token w e =
          let t = token_found w (found_of z piece) e in
          let front = (token_shape w (found_of z piece) e).front in
          let split : drop piece.from z ≡ t.text ++ drop piece.«to» z = front ∙ t.split in
          let len : length t.text ≡ piece.«to» - piece.from = omega (arith, ap length split, length-append t.text (drop piece.«to» z), length-drop piece.from z, length-drop piece.«to» z) in
          let same : take (piece.«to» - piece.from) (drop piece.from z) ≡ t.text = ap (take (piece.«to» - piece.from)) split ∙ take_at t.text (drop piece.«to» z) (piece.«to» - piece.from) len in
          subst IsPlain (sym same) (kind_plain piece.kind t.text t.value plain t.spelled)

      from_separators : (r : Result (List ℕ) Stop) → token_after r ≡ Ok (found_of z piece) → IsPlain (take (piece.«to» - piece.from) (drop piece.from z))
      from_separators (Ok w) e = from_token w e
      from_separators (Err s) e = absurd (err_ok _ _ e)

  pub piece_plain : list_all is_plain (take (piece.«to» - piece.from) (drop piece.from z)) ≡ true
  piece_plain = is_plain_piece.plain

  pub piece_utf8 : IsUtf8 (take (piece.«to» - at) (drop at z))
  piece_utf8 = subst (λ (i : ℕ). IsUtf8 (take (piece.«to» - i) (drop i z))) here is_plain_piece.utf8
