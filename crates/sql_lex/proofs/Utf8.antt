-- The longest front of bytes that is UTF-8.
use Rattle.std.proofs.Common.{◌≡◌, ℕ, zero, suc, ◌+◌, ◌-◌, ◌<◌, ◌≤◌, ◌⊎◌, ◌≢◌, Bool, true, false, cond, List, length, get_or, take, refl, sym, ap, subst, ◌∙◌, ⊎_elim, arith}
use Rattle.std.specs.Str.{IsUtf8, is_utf8}
use Rattle.std.specs.Str.Lossy.{utf8_valid_len, valid_len_up_to}
use Rattle.std.proofs.lemmas.Bool.{false≢true}
use Rattle.std.proofs.lemmas.List.{take-take, length-take-le, get_or-take}
use Rattle.std.proofs.lemmas.Str.{IsUtf8-nil, IsUtf8-from_is_utf8, is_utf8-from_IsUtf8, IsUtf8-take, IsCharBoundary-after_ascii, utf8_valid_len_le}

front_up_to : (bs : List ℕ) (m : ℕ) → IsUtf8 (take (valid_len_up_to bs m) bs)
front_up_to bs zero = IsUtf8-nil
front_up_to bs (suc m) = chosen (is_utf8 (take (suc m) bs)) refl (front_up_to bs m)
  where
    chosen : (t : Bool) → is_utf8 (take (suc m) bs) ≡ t → IsUtf8 (take (valid_len_up_to bs m) bs) → IsUtf8 (take (cond t (suc m) (valid_len_up_to bs m)) bs)
    chosen true e ih = IsUtf8-from_is_utf8 _ e
    chosen false e ih = ih

-- that front is UTF-8
pub valid_front : (bs : List ℕ) → IsUtf8 (take (utf8_valid_len bs) bs)
unfolding utf8_valid_len
valid_front bs = front_up_to bs (length bs)

longest_up_to : (bs : List ℕ) (k m : ℕ) → IsUtf8 (take k bs) → k ≤ m → k ≤ valid_len_up_to bs m
longest_up_to bs k zero u le = le
longest_up_to bs k (suc m) u le = chosen (is_utf8 (take (suc m) bs)) refl (λ h. longest_up_to bs k m u h)
  where
    chosen : (t : Bool) → is_utf8 (take (suc m) bs) ≡ t → (k ≤ m → k ≤ valid_len_up_to bs m) → k ≤ cond t (suc m) (valid_len_up_to bs m)
    chosen true e ih = le
    chosen false e ih =
        let differs : k ≢ suc m = λ (h : k ≡ suc m). false≢true (sym e ∙ is_utf8-from_IsUtf8 _ (subst (λ (n : ℕ). IsUtf8 (take n bs)) h u)) in
        ih (omega arith)

-- no longer one is
pub valid_longest : (bs : List ℕ) (k : ℕ) → k ≤ length bs → IsUtf8 (take k bs) → k ≤ utf8_valid_len bs
unfolding utf8_valid_len
valid_longest bs k le u = longest_up_to bs k (length bs) u le

-- a front that ends with a byte of ASCII is UTF-8 where a longer one is
pub cut_after_ascii : (bs : List ℕ) (k : ℕ) → 0 < k → k ≤ length bs → get_or bs (k - 1) 0 < 128 → k ≤ utf8_valid_len bs → IsUtf8 (take k bs)
cut_after_ascii bs k some le ascii long =
    let n = utf8_valid_len bs in
    let short : n ≤ length bs = utf8_valid_len_le bs in
    let len : length (take n bs) ≡ n = length-take-le n bs short in
    let front = valid_front bs in
    let at : k - 1 < n = omega arith in
    let byte : get_or (take n bs) (k - 1) 0 < 128 = subst (λ (b : ℕ). b < 128) (sym (get_or-take n bs (k - 1) 0 at)) ascii in
    let after : k - 1 + 1 ≡ k = omega arith in
    let cut = IsUtf8-take (take n bs) (k - 1 + 1) front (IsCharBoundary-after_ascii (take n bs) (k - 1) front (omega (arith, len)) byte) in
    subst IsUtf8 (ap (λ (m : ℕ). take m (take n bs)) after ∙ take-take k n bs long) cut

-- Where a front is not UTF-8, and it is all or ends with a byte of ASCII, it is its own bytes that are not.
pub bad_within : (bs : List ℕ) (k : ℕ) → k ≤ length bs → (k ≡ length bs) ⊎ ((0 < k) × (get_or bs (k - 1) 0 < 128)) → (IsUtf8 (take k bs) → ⊥)
    → (utf8_valid_len bs < k) × (utf8_valid_len (take k bs) ≡ utf8_valid_len bs)
bad_within bs k le ends bad =
    let n = utf8_valid_len bs in
    let m = utf8_valid_len (take k bs) in
    let len : length (take k bs) ≡ k = length-take-le k bs le in
    let short : k ≤ n → ⊥ = λ (long : k ≤ n). ⊎_elim
    (λ (all : k ≡ length bs). bad (let same : n ≡ k = omega (arith, utf8_valid_len_le bs) in subst (λ (i : ℕ). IsUtf8 (take i bs)) same (valid_front bs)))
    (λ (e : (0 < k) × (get_or bs (k - 1) 0 < 128)). bad (cut_after_ascii bs k e.0 le e.1 long))
    ends in
    let below : n < k = omega arith in
    let own : m ≤ k = omega (arith, utf8_valid_len_le (take k bs), len) in
    let up = valid_longest bs m (omega arith) (subst IsUtf8 (take-take m k bs own) (valid_front (take k bs))) in
    let down = valid_longest (take k bs) n (omega (arith, len)) (subst IsUtf8 (sym (take-take n k bs (omega arith))) (valid_front bs)) in
    (below, omega (arith, up, down))
