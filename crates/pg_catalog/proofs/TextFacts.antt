-- Texts that are joined.
use Rattle.std.proofs.Common.{◌≡◌, ℕ, List, [], ◌∷◌, ◌++◌, sym, ap, subst, ◌∙◌, append_assoc, rules}
use Rattle.std.specs.Str.{IsUtf8}
use Rattle.std.proofs.lemmas.Str.{IsUtf8-append, IsUtf8-from_ascii}

-- `_` is text
underscore : IsUtf8 (95 ∷ [])
underscore = IsUtf8-from_ascii (95 ∷ []) (search rules)

-- one byte, and then more bytes
pub pushed : (old new all name : List ℕ) (b : ℕ) → new ≡ old ++ b ∷ [] → all ≡ new ++ name → all ≡ old ++ (b ∷ name)
pushed old new all name b e f = f ∙ ap (λ l. l ++ name) e ∙ append_assoc old (b ∷ []) name

-- a text, `_`, and one more text
pub IsUtf8-named : (old all name : List ℕ) → all ≡ old ++ (95 ∷ name) → IsUtf8 old → IsUtf8 name → IsUtf8 all
IsUtf8-named old all name e h k = subst IsUtf8 (sym e) (IsUtf8-append old (95 ∷ name) h (IsUtf8-append (95 ∷ []) name underscore k))

pub IsUtf8-ended : (old all ending : List ℕ) → all ≡ old ++ ending → IsUtf8 old → IsUtf8 ending → IsUtf8 all
IsUtf8-ended old all ending e h k = subst IsUtf8 (sym e) (IsUtf8-append old ending h k)
