-- Bytes that are UTF-8, by the test of them.
use Rattle.std.proofs.Common.{◌≡◌, ℕ, Bool, true, false, if◌then◌else◌, List, Some, None, refl, subst, IsUtf8}
use Rattle.std.specs.Str.{is_utf8}
use Rattle.std.proofs.lemmas.Str.{IsUtf8-from_is_utf8, is_utf8-from_IsUtf8}
use Rattle.cursor_text.specs.Reading.{utf8_of}
use Rattle.cursor_text.proofs.Exact.{if_of}

some_by : (bs : List ℕ) (v : Bool) → v ≡ true → (if v then Some bs else None) ≡ Some bs
some_by bs true e = refl
some_by bs false e = absurd cc

none_by : (bs : List ℕ) (v : Bool) → v ≡ false → (if v then Some bs else None) ≡ None
none_by bs false e = refl
none_by bs true e = absurd cc

not_true : (v : Bool) → (v ≡ true → ⊥) → v ≡ false
not_true true h = absurd (h refl)
not_true false h = refl

pub utf8_some : (bs : List ℕ) → IsUtf8 bs → utf8_of bs ≡ Some bs
utf8_some bs u = some_by bs (is_utf8 bs) (is_utf8-from_IsUtf8 bs u)

pub utf8_none : (bs : List ℕ) → (IsUtf8 bs → ⊥) → utf8_of bs ≡ None
utf8_none bs no_utf8 = none_by bs (is_utf8 bs) (not_true (is_utf8 bs) (λ e. no_utf8 (IsUtf8-from_is_utf8 bs e)))

pub utf8_is : (bs t : List ℕ) → utf8_of bs ≡ Some t → IsUtf8 t × (bs ≡ t)
utf8_is bs t e =
    let f = if_of (is_utf8 bs) bs t e in
    (subst IsUtf8 f.1 (IsUtf8-from_is_utf8 bs f.0), f.1)
