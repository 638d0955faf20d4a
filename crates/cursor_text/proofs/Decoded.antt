-- From the JSON of a cursor to its text.
use Rattle.std.proofs.Common.{◌≡◌, ℕ, List, Option, Some, None, Result, Ok, Err, IfOk, refl, sym, ap, subst, ◌∙◌, ◌↔◌}
use Rattle.std.specs.Prelude.{IfSome}
use Rattle.base64.specs.declared.decode.DecodeError.{DecodeError}
use Rattle.base64.specs.declared.decode.DecodeAllocError.{DecodeAllocError}
use Rattle.base64.specs.declared.decode.DecodeAllocError.TheVariants as fault
use Rattle.base64.specs.Engines.{standard}
use Rattle.base64.specs.GeneralPurpose.{IsBytes, IsDecodeFailure, decode_of, encode_of}
use Rattle.base64.proofs.EngineFacts.{decode_of-encode_of, decode_of_strict}
use Rattle.cursor_text.specs.declared.cursor.Cursor.{Cursor}
use Rattle.cursor_text.specs.CursorText.{cursor_json, cursor_text, IsValidCursor, IsCursor, IsNoCursor}
use Rattle.cursor_text.specs.Reading.{cursor_in, decoded_cursor, cursor_at}
use Rattle.cursor_text.proofs.Bounds.{json_bytes}
use Rattle.cursor_text.proofs.CursorExact.{cursor_in_reads, cursor_in_spelled}

-- the text of a cursor is decoded to its JSON
decoded : (text : List ℕ) (c : Cursor) → IsCursor text c → decode_of standard text ≡ Ok (cursor_json c)
decoded text c is =
    subst (λ (t : List ℕ). decode_of standard t ≡ Ok (cursor_json c)) (sym is.spelled)
    (decode_of-encode_of standard (cursor_json c) refl (json_bytes c is.valid))

same_json : {E : Type 0} (a b : List ℕ) → (let x : Result (List ℕ) E = Ok a in x) ≡ Ok b → a ≡ b
same_json a b e = cc

pub read_so : (text json : List ℕ) (c : Cursor) → decode_of standard text ≡ Ok json → IsCursor text c → cursor_in json ≡ Some c
read_so text json c e is =
    subst (λ (l : List ℕ). cursor_in l ≡ Some c) (same_json {E = DecodeError} (cursor_json c) json (sym (decoded text c is) ∙ e)) (cursor_in_reads c is.valid)

pub found_by : {E : Type 0} (text json given : List ℕ) (r : Result (Option Cursor) E) → text ≡ encode_of standard json → given ≡ json
    → IfOk r (λ o. o ≡ cursor_in given) → IfOk r (λ o. IfSome o (IsCursor text))
found_by text json given (Ok (Some c)) is same e =
    let s = cursor_in_spelled given c (sym e) in
    record { spelled = is ∙ ap (λ (l : List ℕ). encode_of standard l) (sym same ∙ s.spelled); valid = s.valid }
found_by text json given (Ok None) is same e = tt
found_by text json given (Err f) is same e = tt

none_is : (text json : List ℕ) (o : Option Cursor) → decode_of standard text ≡ Ok json → o ≡ cursor_in json → o ≡ None → IsNoCursor text
none_is text json o e is none c s = let clash : None ≡ Some c = sym none ∙ is ∙ read_so text json c e s in absurd cc

pub none_by : {E : Type 0} (text json given : List ℕ) (r : Result (Option Cursor) E) → decode_of standard text ≡ Ok json → given ≡ json
    → IfOk r (λ o. o ≡ cursor_in given) → IfOk r (λ o. o ≡ None → IsNoCursor text)
none_by text json given (Ok o) e same is = none_is text json o e (is ∙ ap cursor_in same)
none_by text json given (Err f) e same is = tt

no_cursor : (text : List ℕ) (f : DecodeError) → decode_of standard text ≡ Err f → IsNoCursor text
no_cursor text f e c is = let clash : Err f ≡ Ok (cursor_json c) = sym e ∙ decoded text c is in absurd cc

pub not_decoded : (text : List ℕ) (g : DecodeAllocError) (f : DecodeError) → IsDecodeFailure standard text g → g ≡ fault.DecodeError f → IsNoCursor text
not_decoded text g f failed is = no_cursor text f (subst (λ (h : DecodeAllocError). IsDecodeFailure standard text h) is failed)

pub one_cursor : (text : List ℕ) (c d : Cursor) → IsCursor text c → IsCursor text d → c ≡ d
one_cursor text c d is other =
    some_same c d (sym (read_so text (cursor_json d) c (decoded text d other) is) ∙ cursor_in_reads d other.valid)
  where
    some_same : (x y : Cursor) → Some x ≡ Some y → x ≡ y
    some_same x y k = cc

pub read_back : (c : Cursor) (o : Option Cursor) → IsValidCursor c → IfSome o (IsCursor (cursor_text c)) → (o ≡ None → IsNoCursor (cursor_text c)) → o ≡ Some c
read_back c (Some d) v found none = ap (λ (k : Cursor). Some k) (one_cursor (cursor_text c) d c found (record { spelled = refl; valid = v }))
read_back c None v found none = absurd (none refl c (record { spelled = refl; valid = v }))

-- ---- the definition of the reader

at_json : (text json : List ℕ) → decode_of standard text ≡ Ok json → cursor_at text ≡ cursor_in json
unfolding cursor_at
at_json text json e = ap decoded_cursor e

at_fault : (text : List ℕ) (f : DecodeError) → decode_of standard text ≡ Err f → cursor_at text ≡ None
unfolding cursor_at
at_fault text f e = ap decoded_cursor e

pub value_by : {E : Type 0} (text json given : List ℕ) (r : Result (Option Cursor) E) → decode_of standard text ≡ Ok json → given ≡ json
    → IfOk r (λ o. o ≡ cursor_in given) → IfOk r (λ o. o ≡ cursor_at text)
value_by text json given (Ok o) e same is = is ∙ ap cursor_in same ∙ sym (at_json text json e)
value_by text json given (Err f) e same is = tt

pub none_at : (text : List ℕ) (g : DecodeAllocError) (f : DecodeError) → IsDecodeFailure standard text g → g ≡ fault.DecodeError f → None ≡ cursor_at text
none_at text g f failed is = sym (at_fault text f (subst (λ (h : DecodeAllocError). IsDecodeFailure standard text h) is failed))

spelled_by : (text : List ℕ) (c : Cursor) → IsBytes text → (r : Result (List ℕ) DecodeError) → decode_of standard text ≡ r → decoded_cursor r ≡ Some c → IsCursor text c
spelled_by text c bytes (Ok json) is e =
    let s = cursor_in_spelled json c e in
    record { spelled = decode_of_strict standard text json (refl, refl) bytes is ∙ ap (λ (l : List ℕ). encode_of standard l) s.spelled; valid = s.valid }
spelled_by text c bytes (Err f) is e = absurd cc

pub at_is : (text : List ℕ) (c : Cursor) → IsBytes text → (cursor_at text ≡ Some c) ↔ IsCursor text c
unfolding cursor_at
at_is text c bytes = (
  λ e. spelled_by text c bytes (decode_of standard text) refl e,
  λ is. ap decoded_cursor (decoded text c is) ∙ cursor_in_reads c is.valid,
)
