-- What stands at the fault of a text.
use Rattle.std.proofs.Common.{◌≡◌, ◌≢◌, inl, inr, ℕ, suc, ◌+◌, ◌-◌, ◌<◌, ◌≤◌, Bool, true, false, List, [], ◌∷◌, ◌++◌, length, get_or, take, drop, refl, sym, ap, subst, ◌∙◌, arith, length-append, length-drop, Result, Ok, Err}
use borrow.Author.Tests.{ltb-true, ltb-false}
use Rattle.std.proofs.Math.Seq.{take-add, drop-append_seam}
use Rattle.std.proofs.lemmas.List.{take_all, take-append-drop, length-take-le}
use Rattle.std.proofs.lemmas.Str.{utf8_valid_len_le, IsUtf8-append}
use Rattle.std.specs.Bool.{nat_lt}
use Rattle.std.specs.Str.{IsUtf8}
use Rattle.std.specs.Str.Lossy.{utf8_valid_len}
use Rattle.sql_lex.specs.declared.token.Token.{Token}
use Rattle.sql_lex.specs.declared.token.LexFault.{LexFault}
use Rattle.sql_lex.specs.Bytes.{before}
use Rattle.sql_lex.specs.Faults.{stray_byte, not_utf8}
use Rattle.sql_lex.specs.Separators.{Stop, after_separators}
use Rattle.sql_lex.specs.Lex.{Found, token_after, fault_at, answer, bad_byte, first_token}
use Rattle.sql_lex.specs.Grammar.{AreSeparators, HasNoToken, IsCutOff}
use Rattle.sql_lex.specs.Laws.{EndsUtf8, IsReason, no_character, no_token_here, IsFaultFrom}
use Rattle.sql_lex.proofs.Utf8.{valid_front, valid_longest}
use Rattle.sql_lex.proofs.PlainTokens.{one_utf8}
use Rattle.sql_lex.proofs.Rests.{split}
use Rattle.sql_lex.proofs.Shapes.{cond_is}
use Rattle.sql_lex.proofs.Separating.{front_join, separators_front, IsStopped, separators_passed, separators_stopped, ok_err}
use Rattle.sql_lex.proofs.Spelled.{token_stopped, err_found}
use Rattle.sql_lex.proofs.Cuts.{reason_front, IsCut, goes_past, is_found, is_stopped, cut}

fault_same : (f g : LexFault) → (let r : Result Token LexFault = Err f in r) ≡ Err g → f ≡ g
fault_same f g e = cc

-- the first byte that belongs to no character is beyond ASCII
high_byte : (w : List ℕ) → utf8_valid_len w < length w → 128 ≤ get_or w (utf8_valid_len w) 0
high_byte w lt = chosen (nat_lt (get_or w (utf8_valid_len w) 0) 128) refl
  where
    chosen : (v : Bool) → nat_lt (get_or w (utf8_valid_len w) 0) 128 ≡ v → 128 ≤ get_or w (utf8_valid_len w) 0
    chosen true e =
        let n = utf8_valid_len w in
        let byte = get_or w n 0 in
        let one : take 1 (drop n w) ≡ byte ∷ [] = ap (λ (x : List ℕ). take 1 x) (split w n lt) in
        let all : IsUtf8 (take (n + 1) w) = subst IsUtf8 (sym (take-add n 1 w)) (IsUtf8-append (take n w) (take 1 (drop n w)) (valid_front w) (subst IsUtf8 (sym one) (one_utf8 byte (ltb-true byte 128 e)))) in
        let long = valid_longest w (n + 1) (omega arith) all in
        absurd (omega arith)
    chosen false e = ltb-false (get_or w (utf8_valid_len w) 0) 128 e

-- a stop, wherever it comes from, stands after separators
stopped_of : (z : List ℕ) (r : Result (List ℕ) Stop) → after_separators z ≡ r → (s : Stop) → token_after r ≡ Err s → IsStopped s z
stopped_of z (Ok front) e s h = let p = separators_passed z front e in record { next = front; separators = p.separators; here = token_stopped front s p.over h }
stopped_of z (Err stop) e s h = separators_stopped z s (e ∙ ap Err (err_found stop s h))

module _ (z : List ℕ) (at : ℕ) (fault : LexFault) (le : at ≤ length z) where
  abbrev bytes : List ℕ
  bytes = drop at z

  abbrev valid : ℕ
  valid = utf8_valid_len (drop at z)

  fault_here : (which n : ℕ) → fault_at which z n ≡ fault → at ≤ n → n ≤ length z → IsReason z at n which → IsFaultFrom z at fault
  fault_here which n e from within reason = subst (IsFaultFrom z at) e (record { stands = n; from = from; within = within; pos = refl; reason = reason })

  -- a byte that belongs to no character, up to which all is read
  not_utf8_here : valid < length bytes → IsCutOff (take valid bytes) → fault_at not_utf8 z (bad_byte z at) ≡ fault → IsFaultFrom z at fault
  not_utf8_here early off e =
      let len = length-drop at z in
      let k : bad_byte z at - at ≡ valid = omega arith in
      let ends : EndsUtf8 bytes valid = (early, (valid_front bytes, λ i short u. valid_longest bytes i short u)) in
      fault_here not_utf8 (bad_byte z at) e (omega arith) (omega arith)
      (no_character (subst (λ (m : ℕ). EndsUtf8 bytes m) (sym k) ends) (subst (λ (m : ℕ). IsCutOff (take m bytes)) (sym k) off))

  -- another fault, in the front
  reason_here : (which n : ℕ) (next stands : List ℕ) → fault_at which z (at + n) ≡ fault → at + n ≤ length z → AreSeparators (take valid bytes) next → HasNoToken which next stands → drop n (take valid bytes) ≡ stands
      → (which ≢ stray_byte → IsUtf8 bytes) → IsFaultFrom z at fault
  reason_here which n next stands e within seps reason place all =
      let k : at + n - at ≡ n = omega arith in
      let same : stands ≡ drop (at + n - at) (take valid bytes) = sym place ∙ ap (λ (m : ℕ). drop m (take valid bytes)) (sym k) in
      fault_here which (at + n) e (omega arith) within (no_token_here which next seps (subst (λ (w : List ℕ). HasNoToken which next w) same reason) all)

  -- ---- where all is UTF-8

  whole_stopped : length bytes ≤ valid → (s : Stop) → IsStopped s bytes → fault_at s.which z (before z s.stands) ≡ fault → IsFaultFrom z at fault
  whole_stopped long s h e =
      let len = length-drop at z in
      let short = utf8_valid_len_le bytes in
      let full : take valid bytes ≡ bytes = take_all valid bytes long in
      let same : valid ≡ length bytes = omega arith in
      let utf8 : IsUtf8 bytes = subst IsUtf8 full (valid_front bytes) in
      let front = front_join bytes h.next s.stands (separators_front bytes h.next h.separators) (reason_front s.which h.next s.stands h.here.reason) in
      let sum : length bytes ≡ length front.0 + length s.stands = ap length front.1 ∙ length-append front.0 s.stands in
      let n : before z s.stands ≡ at + length front.0 = omega arith in
      let place : drop (length front.0) (take valid bytes) ≡ s.stands = ap (λ (w : List ℕ). drop (length front.0) w) (full ∙ front.1) ∙ drop-append_seam front.0 s.stands in
      reason_here s.which (length front.0) h.next s.stands (ap (fault_at s.which z) (sym n) ∙ e) (omega arith) (subst (λ (w : List ℕ). AreSeparators w h.next) (sym full) h.separators) h.here.reason place (λ (x : s.which ≢ stray_byte). utf8)

  whole_when : length bytes ≤ valid → (r : Result (List ℕ) Stop) → after_separators bytes ≡ r → (o : Result Found Stop) → token_after r ≡ o → answer z (bad_byte z at) o ≡ Err fault → IsFaultFrom z at fault
  whole_when long r k (Ok f) e a = elim (cond_is (nat_lt (bad_byte z at) (before z f.after)) _ _ _ a) [
    | inl bad ↦ let len = length-drop at z in let beyond = ltb-true (bad_byte z at) (before z f.after) bad.0 in absurd (omega arith)
    | inr good ↦ absurd (ok_err _ _ good.1)
  ]
  whole_when long r k (Err s) e a = elim (cond_is (nat_lt (bad_byte z at) (before z s.unread)) _ _ _ a) [
    | inl bad ↦ let len = length-drop at z in let beyond = ltb-true (bad_byte z at) (before z s.unread) bad.0 in absurd (omega arith)
    | inr good ↦ whole_stopped long s (stopped_of bytes r k s e) (fault_same _ _ good.1)
  ]

  -- ---- where a byte belongs to no character

  module _ (c : ℕ) (t : List ℕ) (high : 128 ≤ c) (parts : bytes ≡ take valid bytes ++ c ∷ t) where
    size : length z ≡ bad_byte z at + suc (length t)
    size =
        let len = length-drop at z in
        let short = utf8_valid_len_le bytes in
        let front = length-take-le valid bytes short in
        omega (arith, ap length parts, length-append (take valid bytes) (c ∷ t))

    cut_here : (o : Result Found Stop) → IsCut c t high (take valid bytes) o → answer z (bad_byte z at) o ≡ Err fault → IsFaultFrom z at fault
    cut_here (Ok f) (goes_past off le) a = elim (cond_is (nat_lt (bad_byte z at) (before z f.after)) _ _ _ a) [
      | inl bad ↦ let len = length-drop at z in let all = size in not_utf8_here (omega arith) off (fault_same _ _ bad.1)
      | inr good ↦ absurd (ok_err _ _ good.1)
    ]
    cut_here (Err s) (goes_past off le) a = elim (cond_is (nat_lt (bad_byte z at) (before z s.unread)) _ _ _ a) [
      | inl bad ↦ let len = length-drop at z in let all = size in not_utf8_here (omega arith) off (fault_same _ _ bad.1)
      | inr good ↦ let all = size in let clear = ltb-false (bad_byte z at) (before z s.unread) good.0 in absurd (omega arith)
    ]
    cut_here o (is_found f same) a = elim (cond_is (nat_lt (bad_byte z at) (before z (f.after ++ c ∷ t))) _ _ _ (ap (answer z (bad_byte z at)) (sym same) ∙ a)) [
      | inl bad ↦ let all = size in let late = ltb-true (bad_byte z at) (before z (f.after ++ c ∷ t)) bad.0 in absurd (omega (arith, length-append f.after (c ∷ t)))
      | inr good ↦ absurd (ok_err _ _ good.1)
    ]
    cut_here o (is_stopped s next seps reason which same) a = elim (cond_is (nat_lt (bad_byte z at) (before z (s.unread ++ c ∷ t))) _ _ _ (ap (answer z (bad_byte z at)) (sym same) ∙ a)) [
      | inl bad ↦ let all = size in let late = ltb-true (bad_byte z at) (before z (s.unread ++ c ∷ t)) bad.0 in absurd (omega (arith, length-append s.unread (c ∷ t)))
      | inr good ↦
          let all = size in
          let u = take valid bytes in
          let front = front_join u next s.stands (separators_front u next seps) (reason_front stray_byte next s.stands reason) in
          let length_u = length-take-le valid bytes (utf8_valid_len_le bytes) in
          let sum : length u ≡ length front.0 + length s.stands = ap length front.1 ∙ length-append front.0 s.stands in
          let n : before z (s.stands ++ c ∷ t) ≡ at + length front.0 = omega (arith, length-append s.stands (c ∷ t)) in
          let place : drop (length front.0) u ≡ s.stands = ap (λ (w : List ℕ). drop (length front.0) w) front.1 ∙ drop-append_seam front.0 s.stands in
          let fault_is : fault_at stray_byte z (at + length front.0) ≡ fault = ap (λ (m : ℕ). fault_at m z (at + length front.0)) (sym which) ∙ ap (fault_at s.which z) (sym n) ∙ fault_same _ _ good.1 in
          reason_here stray_byte (length front.0) next s.stands fault_is (omega arith) seps reason place (λ (x : stray_byte ≢ stray_byte). absurd (x refl))
    ]

  pub fault_from : first_token z at ≡ Err fault → IsFaultFrom z at fault
  unfolding first_token
  fault_from e = chosen (nat_lt valid (length bytes)) refl
    where
      chosen : (v : Bool) → nat_lt valid (length bytes) ≡ v → IsFaultFrom z at fault
      chosen true early =
          let lt = ltb-true valid (length bytes) early in
          let c = get_or bytes valid 0 in
          let t = drop (valid + 1) bytes in
          let parts : bytes ≡ take valid bytes ++ c ∷ t = sym (take-append-drop valid bytes) ∙ ap (λ (w : List ℕ). take valid bytes ++ w) (split bytes valid lt) in
          let high = high_byte bytes lt in
          cut_here c t high parts (token_after (after_separators bytes))
          (subst (λ (w : List ℕ). IsCut c t high (take valid bytes) (token_after (after_separators w))) (sym parts) (cut c t high (take valid bytes))) e
      chosen false late = whole_when (ltb-false valid (length bytes) late) _ refl _ refl e
