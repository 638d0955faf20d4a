-- The signs of a text of bytes.
use Rattle.std.specs.Prelude.{ℕ, Bool, ◌||◌, ◌==◌, if◌then◌else◌, List, [], ◌∷◌}
use Rattle.parse_rules.specs.declared.samples.sign.Sign.{Sign}
use Rattle.parse_rules.specs.declared.samples.sign.Sign.TheVariants as sign

-- a space or a line feed
abbrev pub is_blank : ℕ → Bool
is_blank byte = (byte == 32) || (byte == 10)

-- brackets, a comma, an equals sign; any other byte is a word
abbrev pub sign_of : ℕ → Sign
sign_of byte =
    if byte == 40 then sign.Open else (
    if byte == 41 then sign.Close else (
    if byte == 44 then sign.Comma else (
    if byte == 61 then sign.Equals else
    sign.Word byte)))

-- the text from its first byte on that is no blank
abbrev pub passed : List ℕ → List ℕ
passed [] = []
passed (byte ∷ text) = if is_blank byte then passed text else byte ∷ text

-- a sign for each byte that is no blank
abbrev pub signs : List ℕ → List Sign
signs [] = []
signs (byte ∷ text) = if is_blank byte then signs text else sign_of byte ∷ signs text
