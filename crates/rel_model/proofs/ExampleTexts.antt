-- The texts of the examples, computed.
use Rattle.std.proofs.Common.{◌≡◌, true, false, [], ◌∷◌, length, refl}
use Rattle.std.specs.Prelude.{codes}
use Rattle.std.specs.Str.{IsUtf8, is_utf8, chars}
use Rattle.std.proofs.Math.Utf8.{encode}
use Rattle.std.proofs.lemmas.Str.{is_utf8-from_IsUtf8}

pub ab_text : IsUtf8 (codes "ab")
unfolding encode
ab_text = (97 ∷ 98 ∷ [], (refl, refl))

pub zz_text : IsUtf8 (codes "zz")
unfolding encode
zz_text = (122 ∷ 122 ∷ [], (refl, refl))

pub accents_text : IsUtf8 (195 ∷ 169 ∷ 195 ∷ 169 ∷ [])
unfolding encode
accents_text = (233 ∷ 233 ∷ [], (refl, refl))

pub length-ab : length (chars (codes "ab")) ≡ 2
unfolding chars
length-ab = refl

pub length-accents : length (chars (195 ∷ 169 ∷ 195 ∷ 169 ∷ [])) ≡ 2
unfolding chars
length-accents = refl

pub length-abc : length (chars (codes "abc")) ≡ 3
unfolding chars
length-abc = refl

pub is_no_text : IsUtf8 (255 ∷ []) → ⊥
unfolding is_utf8 chars
is_no_text text = let e : false ≡ true = is_utf8-from_IsUtf8 (255 ∷ []) text in absurd (cc)
