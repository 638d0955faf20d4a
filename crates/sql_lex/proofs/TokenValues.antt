-- What tokens stand for, by the grammar.
use Rattle.std.proofs.Common.{◌≡◌, ◌≢◌, ◌<◌, ◌⊎◌, ⊎_elim, arith, ℕ, Bool, false, true, List, [], ◌∷◌, ◌++◌, drop, map, refl, sym, ap, subst, ◌∙◌}
use Rattle.std.specs.Char.{to_ascii_lowercase}
use Rattle.sql_lex.specs.declared.token.Token.{Token}
use Rattle.sql_lex.specs.declared.token.TokenKind.{TokenKind}
use Rattle.sql_lex.specs.declared.token.TokenKind.TheVariants.{Word, Quoted, Str, EscStr}
use Rattle.sql_lex.specs.Lex.{IsTokenOf}
use Rattle.sql_lex.specs.Value.{spelling, folded, unquoted, unquoted_name, string_value_of, string_value}
use Rattle.sql_lex.specs.Grammar.{IsQuoted, Spells, IsSpelling}
use Rattle.sql_lex.proofs.Known.{spelled}
use Rattle.sql_lex.proofs.Quoting.{quoted_value}

spelled_so : (z : List ℕ) (t : Token) → IsTokenOf z t → (kind : TokenKind) → t.kind ≡ kind → IsSpelling kind (spelling z t)
spelled_so z t h kind e = let P : TokenKind → Type 0 = λ k. IsSpelling k (spelling z t) in subst P e (spelled z h.at t h.within h.reads)

word_value : (text : List ℕ) → IsSpelling Word text → Spells Word text (map to_ascii_lowercase text)
word_value text (value, h) = (h.0, refl)

-- the value of what stands after an opening quote, and of what the grammar has there
module _ (esc : Bool) (q : ℕ) (some : q ≢ 0) (other : q ≢ 92) where
  after_opening : (rest inner value : List ℕ) → rest ≡ inner ++ q ∷ [] → IsQuoted esc q inner value → IsQuoted esc q inner (unquoted esc q rest)
  after_opening rest inner value e h = subst (IsQuoted esc q inner) (sym (ap (unquoted esc q) e ∙ quoted_value esc q some other inner value h)) h

no_zero : (b : ℕ) → 0 < b → b ≢ 0
no_zero b lt e = absurd (omega arith)

no_slash : (b : ℕ) → b < 92 → b ≢ 92
no_slash b lt e = absurd (omega arith)

name_value : (text : List ℕ) → IsSpelling Quoted text → Spells Quoted text (unquoted false 34 (drop 1 text))
name_value text h =
    let p = h.1 in
    (p.0, (p.1.0, (after_opening false 34 (no_zero 34 (omega arith)) (no_slash 34 (omega arith)) (drop 1 text) p.0 h.0 (ap (drop 1) p.1.1.1) p.1.1.0, p.1.1.1)))

plain_value : (text : List ℕ) → IsSpelling Str text → Spells Str text (unquoted false 39 (drop 1 text))
plain_value text h =
    let p = h.1 in
    (p.0, (after_opening false 39 (no_zero 39 (omega arith)) (no_slash 39 (omega arith)) (drop 1 text) p.0 h.0 (ap (drop 1) p.1.1) p.1.0, p.1.1))

escapes_value : (text : List ℕ) → IsSpelling EscStr text → Spells EscStr text (unquoted true 39 (drop 2 text))
escapes_value text h =
    let p = h.1.1 in
    (h.1.0, (p.0, (p.1.0, (after_opening true 39 (no_zero 39 (omega arith)) (no_slash 39 (omega arith)) (drop 2 text) p.0 h.0 (ap (drop 2) p.1.1.1) p.1.1.0, p.1.1.1))))

pub word_spells : (z : List ℕ) (t : Token) → IsTokenOf z t → t.kind ≡ Word → Spells Word (spelling z t) (folded z t)
word_spells z t h k = word_value (spelling z t) (spelled_so z t h Word k)

pub name_spells : (z : List ℕ) (t : Token) → IsTokenOf z t → t.kind ≡ Quoted → Spells Quoted (spelling z t) (unquoted_name z t)
name_spells z t h k = name_value (spelling z t) (spelled_so z t h Quoted k)

pub string_spells : (z : List ℕ) (t : Token) → IsTokenOf z t → (t.kind ≡ Str) ⊎ (t.kind ≡ EscStr) → Spells t.kind (spelling z t) (string_value z t)
string_spells z t h k =
    let P : TokenKind → Type 0 = λ kind. Spells kind (spelling z t) (string_value_of kind (spelling z t)) in
    ⊎_elim (λ (e : t.kind ≡ Str). subst P (sym e) (plain_value (spelling z t) (spelled_so z t h Str e))) (λ (e : t.kind ≡ EscStr). subst P (sym e) (escapes_value (spelling z t) (spelled_so z t h EscStr e))) k
