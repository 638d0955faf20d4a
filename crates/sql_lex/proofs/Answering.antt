-- The first token of a text, by places in it.
use Rattle.std.proofs.Common.{◌≡◌, ℕ, ◌+◌, ◌-◌, ◌<◌, ◌≤◌, ◌⊎◌, List, [], ◌∷◌, length, get_or, take, drop, refl, sym, ap, subst, ◌∙◌, ⊎_elim, inl, inr, arith, length-append, length-drop, Result, Ok, Err}
use borrow.Author.Tests.{le-ltb, lt-ltb}
use Rattle.std.proofs.Math.Seq.{take-add}
use Rattle.std.proofs.lemmas.List.{get_or_at, get_or-drop}
use Rattle.std.specs.Str.{IsUtf8}
use Rattle.std.specs.Str.Lossy.{utf8_valid_len}
use Rattle.pg_base.specs.Pos.{start, counter_after, position_after}
use Rattle.pg_base.proofs.PosCounters.{counter_after-append}
use Rattle.sql_lex.specs.declared.token.Token.{Token}
use Rattle.sql_lex.specs.declared.token.LexFault.{LexFault}
use Rattle.sql_lex.specs.declared.token.TokenKind.TheVariants.{End}
use Rattle.sql_lex.specs.declared.token.Halt.{Halt}
use Rattle.sql_lex.specs.declared.token.Piece.{Piece}
use Rattle.sql_lex.specs.Bytes.{before}
use Rattle.sql_lex.specs.Separators.{Stop, after_separators}
use Rattle.sql_lex.specs.Lex.{token_after, fault_at, answer, bad_byte, first_token}
use Rattle.sql_lex.specs.Offsets.{stop_of, found_of}
use Rattle.sql_lex.proofs.Utf8.{bad_within, valid_longest}
use Rattle.sql_lex.proofs.Shapes.{IsAfterAscii, token_shape, err_ok}

pub before_drop : (z : List ℕ) (i : ℕ) → i ≤ length z → before z (drop i z) ≡ i
before_drop z i le = omega (arith, length-drop i z)

-- a place further on
pub place_on : (z : List ℕ) (i j : ℕ) → i ≤ j → counter_after start (take j z) ≡ counter_after (counter_after start (take i z)) (take (j - i) (drop i z))
place_on z i j le =
    let sum : i + (j - i) ≡ j = omega arith in
    ap (λ (n : ℕ). counter_after start (take n z)) (sym sum) ∙ ap (λ (w : List ℕ). counter_after start w) (take-add i (j - i) z) ∙ counter_after-append start (take i z) (take (j - i) (drop i z))

answer_found : (z : List ℕ) (bad : ℕ) (piece : Piece) → piece.from ≤ length z → piece.«to» ≤ length z → piece.«to» ≤ bad
    → answer z bad (Ok (found_of z piece)) ≡ Ok (record { kind = piece.kind; from = piece.from; «to» = piece.«to»; pos = position_after (take piece.from z) })
answer_found z bad piece from within good = rw (before_drop z piece.«to» within, before_drop z piece.from from, le-ltb bad piece.«to» good) refl

answer_bad : (z : List ℕ) (bad : ℕ) (piece : Piece) → piece.«to» ≤ length z → bad < piece.«to» → answer z bad (Ok (found_of z piece)) ≡ Err (fault_at 4 z bad)
answer_bad z bad piece within early = rw (before_drop z piece.«to» within, lt-ltb bad piece.«to» early) refl

pub answer_bad_stop : (z : List ℕ) (bad : ℕ) (halt : Halt) → halt.unread ≤ length z → bad < halt.unread → answer z bad (Err (stop_of z halt)) ≡ Err (fault_at 4 z bad)
answer_bad_stop z bad halt within early = rw (before_drop z halt.unread within, lt-ltb bad halt.unread early) refl

pub answer_stop : (z : List ℕ) (bad : ℕ) (halt : Halt) → halt.stands ≤ length z → halt.unread ≤ length z → halt.unread ≤ bad → answer z bad (Err (stop_of z halt)) ≡ Err (fault_at halt.which z halt.stands)
answer_stop z bad halt stands within good = rw (before_drop z halt.unread within, before_drop z halt.stands stands, le-ltb bad halt.unread good) refl

pub first_token-stop : (z : List ℕ) (at : ℕ) (stop : Stop) (r : Result Token LexFault) → token_after (after_separators (drop at z)) ≡ Err stop → answer z (bad_byte z at) (Err stop) ≡ r → first_token z at ≡ r
unfolding first_token
first_token-stop z at stop r e a = ap (answer z (bad_byte z at)) e ∙ a

module _ (z : List ℕ) (at : ℕ) (piece : Piece) (wanted : token_after (after_separators (drop at z)) ≡ Ok (found_of z piece)) (from : at ≤ piece.from) (order : piece.from ≤ piece.«to») (within : piece.«to» ≤ length z) where
  pub first_token-found : IsUtf8 (take (piece.«to» - at) (drop at z)) → first_token z at ≡ Ok (record { kind = piece.kind; from = piece.from; «to» = piece.«to»; pos = position_after (take piece.from z) })
  unfolding first_token
  first_token-found text =
      let long = valid_longest (drop at z) (piece.«to» - at) (omega (arith, length-drop at z)) text in
      ap (answer z (bad_byte z at)) wanted ∙ answer_found z (bad_byte z at) piece (omega arith) within (omega arith)

  -- a token ends with a byte of ASCII, unless it is the end
  pub ends : (r : Result (List ℕ) Stop) → token_after r ≡ Ok (found_of z piece) → (piece.«to» - at ≡ length (drop at z)) ⊎ ((0 < piece.«to» - at) × (get_or (drop at z) (piece.«to» - at - 1) 0 < 128))
  ends (Err stop) e = absurd (err_ok _ _ e)
  ends (Ok front) e =
      let s = token_shape front (found_of z piece) e in
      ⊎_elim
      (λ (over : (front ≡ []) × (drop piece.«to» z ≡ []) × (piece.kind ≡ End)). inl (omega (arith, ap length over.1, length-drop piece.«to» z, length-drop at z)))
      (λ (after : IsAfterAscii front (drop piece.«to» z)).
      let split = s.front ∙ after.split in
      let n = length after.front in
      let len : piece.«to» ≡ piece.from + n + 1 = omega (arith, ap length split, length-append after.front (after.last ∷ drop piece.«to» z), length-drop piece.from z, length-drop piece.«to» z) in
      let at_last : at + (piece.«to» - at - 1) ≡ piece.from + n = omega arith in
      let last : get_or (drop at z) (piece.«to» - at - 1) 0 ≡ after.last =
      get_or-drop at z (piece.«to» - at - 1) 0 ∙ ap (λ (k : ℕ). get_or z k 0) at_last ∙ sym (get_or-drop piece.from z n 0) ∙ ap (λ (w : List ℕ). get_or w n 0) split ∙ get_or_at after.front after.last (drop piece.«to» z) 0 n refl in
      inr (omega arith, subst (λ (b : ℕ). b < 128) (sym last) after.ascii))
      s.ends

  pub first_token-bad : (IsUtf8 (take (piece.«to» - at) (drop at z)) → ⊥) → first_token z at ≡ Err (fault_at 4 z (at + utf8_valid_len (take (piece.«to» - at) (drop at z))))
  unfolding first_token
  first_token-bad bad =
      let b = bad_within (drop at z) (piece.«to» - at) (omega (arith, length-drop at z)) (ends _ wanted) bad in
      let early = b.0 in
      ap (answer z (bad_byte z at)) wanted ∙ answer_bad z (bad_byte z at) piece within (omega arith) ∙ ap (λ (n : ℕ). Err (fault_at 4 z (at + n))) (sym b.1)
