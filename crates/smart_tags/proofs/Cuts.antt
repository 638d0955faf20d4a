-- Where a text is cut, it stays UTF-8.
use Rattle.std.proofs.Common.{◌≡◌, ℕ, ◌+◌, ◌<◌, List, [], ◌∷◌, ◌++◌, length, length-append, get_or, drop, drop-cons, refl, sym, ap, subst, ◌∙◌, append_assoc, add-one, arith}
use Rattle.std.specs.Str.{IsUtf8}
use Rattle.std.proofs.lemmas.List.{get_or_at, take_at, drop_at}
use Rattle.std.proofs.lemmas.Str.{IsUtf8-take, IsUtf8-drop, IsCharBoundary-before_ascii, IsCharBoundary-after_ascii}

pub split : (z : List ℕ) (i : ℕ) → i < length z → drop i z ≡ get_or z i 0 ∷ drop (i + 1) z
split z i lt = rw add-one (drop-cons z i 0 lt)

-- a text without a byte of ASCII is two texts
pub cut : (p : List ℕ) (b : ℕ) (z : List ℕ) → b < 128 → IsUtf8 (p ++ b ∷ z) → IsUtf8 p × IsUtf8 z
cut p b z lt u =
    let n = length p in
    let byte : get_or (p ++ b ∷ z) n 0 ≡ b = get_or_at p b z 0 n refl in
    let ascii : get_or (p ++ b ∷ z) n 0 < 128 = subst (λ (x : ℕ). x < 128) (sym byte) lt in
    let len : n < length (p ++ b ∷ z) = omega (arith, length-append p (b ∷ z)) in
    let again : p ++ b ∷ z ≡ (p ++ b ∷ []) ++ z = sym (append_assoc p (b ∷ []) z) in (
      subst IsUtf8 (take_at p (b ∷ z) n refl) (IsUtf8-take _ n u (IsCharBoundary-before_ascii _ n len ascii)),
      subst IsUtf8 (ap (λ (w : List ℕ). drop (n + 1) w) again ∙ drop_at (p ++ b ∷ []) z (n + 1) (length-append p (b ∷ []))) (IsUtf8-drop _ (n + 1) u (IsCharBoundary-after_ascii _ n u len ascii)),
    )

-- any byte of a text, where what is after it is made into another
pub past : (p : List ℕ) (b : ℕ) (z w : List ℕ) → IsUtf8 (p ++ b ∷ z) → (IsUtf8 ((p ++ b ∷ []) ++ z) → IsUtf8 ((p ++ b ∷ []) ++ w)) → IsUtf8 (p ++ b ∷ w)
past p b z w u made = subst IsUtf8 (append_assoc p (b ∷ []) w) (made (subst IsUtf8 (sym (append_assoc p (b ∷ []) z)) u))
