-- Texts that are UTF-8.
use Rattle.std.proofs.Common.{◌<◌, ◌^◌, ℕ, suc, ℤ, pos, negsuc, [], ◌∷◌, codes, decimal, IsUtf8, refl, arith}
use Rattle.std.specs.Int.Signed.{mag}
use Rattle.std.proofs.Math.Utf8.{encode}
use Rattle.std.proofs.lemmas.Str.{IsUtf8-append, IsUtf8-from_ascii}
use Rattle.std.proofs.lemmas.Fmt.{IsAscii-decimal}
use Rattle.json_out.specs.JsonText.{json_int}

pub IsUtf8-start : IsUtf8 (codes "null for argument ")
unfolding encode
IsUtf8-start = (codes "null for argument ", (refl, refl))

IsUtf8-minus : IsUtf8 (45 ∷ [])
unfolding encode
IsUtf8-minus = (45 ∷ [], (refl, refl))

IsUtf8-decimal : (n : ℕ) → n < 2 ^ 64 → IsUtf8 (decimal n)
IsUtf8-decimal n below = IsUtf8-from_ascii (decimal n) (IsAscii-decimal n below)

pub IsUtf8-int : (z : ℤ) → mag z < 2 ^ 63 → IsUtf8 (json_int z)
IsUtf8-int (pos n) fits = let below : n < 2 ^ 64 = omega (arith, fits) in IsUtf8-decimal n below
IsUtf8-int (negsuc n) fits =
    let below : suc n < 2 ^ 64 = omega (arith, fits) in
    IsUtf8-append (45 ∷ []) (decimal (suc n)) IsUtf8-minus (IsUtf8-decimal (suc n) below)
