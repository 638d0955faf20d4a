-- The longest front of bytes that is UTF-8.
use Rattle.std.proofs.Common.{◌≡◌, ℕ, zero, suc, ◌≤◌, ◌≢◌, Bool, true, false, cond, List, length, take, refl, sym, subst, ◌∙◌, arith}
use Rattle.std.specs.Str.{IsUtf8, is_utf8}
use Rattle.std.specs.Str.Lossy.{utf8_valid_len, valid_len_up_to}
use Rattle.std.proofs.lemmas.Bool.{false≢true}
use Rattle.std.proofs.lemmas.Str.{IsUtf8-nil, IsUtf8-from_is_utf8, is_utf8-from_IsUtf8}

front_up_to : (bs : List ℕ) (m : ℕ) → IsUtf8 (take (valid_len_up_to bs m) bs)
front_up_to bs zero = IsUtf8-nil
front_up_to bs (suc m) = chosen (is_utf8 (take (suc m) bs)) refl (front_up_to bs m)
  where
    chosen : (t : Bool) → is_utf8 (take (suc m) bs) ≡ t → IsUtf8 (take (valid_len_up_to bs m) bs) → IsUtf8 (take (cond t (suc m) (valid_len_up_to bs m)) bs)
    chosen true e ih = IsUtf8-from_is_utf8 _ e
    chosen false e ih = ih

-- that front is UTF-8
pub valid_front : (bs : List ℕ) → IsUtf8 (take (utf8_valid_len bs) bs)
unfolding utf8_valid_len
valid_front bs = front_up_to bs (length bs)

longest_up_to : (bs : List ℕ) (k m : ℕ) → IsUtf8 (take k bs) → k ≤ m → k ≤ valid_len_up_to bs m
longest_up_to bs k zero u le = le
longest_up_to bs k (suc m) u le = chosen (is_utf8 (take (suc m) bs)) refl (λ h. longest_up_to bs k m u h)
  where
    chosen : (t : Bool) → is_utf8 (take (suc m) bs) ≡ t → (k ≤ m → k ≤ valid_len_up_to bs m) → k ≤ cond t (suc m) (valid_len_up_to bs m)
    chosen true e ih = le
    chosen false e ih =
        let differs : k ≢ suc m = λ (h : k ≡ suc m). false≢true (sym e ∙ is_utf8-from_IsUtf8 _ (subst (λ (n : ℕ). IsUtf8 (take n bs)) h u)) in
        ih (omega arith)

-- no longer one is
pub valid_longest : (bs : List ℕ) (k : ℕ) → k ≤ length bs → IsUtf8 (take k bs) → k ≤ utf8_valid_len bs
unfolding utf8_valid_len
valid_longest bs k le u = longest_up_to bs k (length bs) u le
