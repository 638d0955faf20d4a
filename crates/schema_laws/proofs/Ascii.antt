-- A list of ASCII bytes is text.
use Rattle.std.proofs.Common.{◌≡◌, ℕ, zero, suc, ◌<◌, Bool, true, false, ◌&&◌, nat_lt, List, [], ◌∷◌, refl, arith}
use Rattle.std.specs.Prelude.{slice_index}
use Rattle.std.specs.List.{list_all}
use Rattle.std.specs.Str.{IsUtf8}
use Rattle.std.proofs.lemmas.Bool.Decides.{nat_tests}
use Rattle.std.proofs.lemmas.Str.{IsUtf8-from_ascii}

pub and_left : (a b : Bool) → (a && b) ≡ true → a ≡ true
and_left true b e = refl
and_left false b e = e

pub and_right : (a b : Bool) → (a && b) ≡ true → b ≡ true
and_right true b e = e
and_right false b e = cc

low : (b : ℕ) → nat_lt b 128 ≡ true → b < 128
low b e = grind (arith, nat_tests, e)

abbrev pub are_low : List ℕ → Bool
are_low bytes = list_all (λ b. nat_lt b 128) bytes

low_at : (bytes : List ℕ) → are_low bytes ≡ true → (i : ℕ) → slice_index bytes i < 128
low_at [] e zero = omega arith
low_at [] e (suc i) = omega arith
low_at (b ∷ bytes) e zero = low b (and_left (nat_lt b 128) (are_low bytes) e)
low_at (b ∷ bytes) e (suc i) = low_at bytes (and_right (nat_lt b 128) (are_low bytes) e) i

pub ascii : (bytes : List ℕ) → are_low bytes ≡ true → IsUtf8 bytes
ascii bytes e = IsUtf8-from_ascii bytes (low_at bytes e)
