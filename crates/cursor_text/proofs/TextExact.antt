-- The reader of a text's bytes is exact: each byte has one escape, or none.
use Rattle.std.proofs.Common.{◌≡◌, ℕ, zero, suc, ◌+◌, ◌-◌, ◌*◌, ◌/◌, ◌%◌, ◌<◌, Bool, true, false, ◌==◌, nat_lt, if◌then◌else◌, List, [], ◌∷◌, ◌++◌, Option, Some, None, refl, sym, ap, ap₂, subst, ◌∙◌, arith}
use Rattle.std.specs.Prelude.{⊤, codes}
use Rattle.std.specs.Option.{option_and_then}
use Rattle.std.proofs.lemmas.Bool.Decides.{nat_tests}
use Rattle.json_out.specs.JsonText.{hex_digit, escaped_byte}
use Rattle.cursor_text.specs.Reader.{◌>>=◌, pure, given, fails, any_byte, byte}
use Rattle.cursor_text.specs.Reading.{hex_value, is_numbered, numbered_of, control_of, numbered, lettered, escape, text_byte}
use Rattle.cursor_text.proofs.Exact.{IsExact, Gave, same_pair, same_value, then_of, given_of, if_of, any_of, byte_of}

-- ---- a byte that stands for itself

raw : (b : ℕ) → nat_lt b 32 ≡ false → (b == 34) ≡ false → (b == 92) ≡ false → escaped_byte b ≡ b ∷ []
unfolding escaped_byte
raw b high quote slash = grind (arith, nat_tests, high, quote, slash)

raw_by : (b : ℕ) (rest : List ℕ) (u v w : Bool) → u ≡ false → v ≡ false → w ≡ false
    → Gave ((if u then escape else (if v then fails else (if w then fails else pure b))) rest) b rest
raw_by b rest false false false d e f = refl
raw_by b rest true v w d e f = absurd cc
raw_by b rest false true w d e f = absurd cc
raw_by b rest false false true d e f = absurd cc

raw_reads : (b : ℕ) (rest : List ℕ) → nat_lt b 32 ≡ false → (b == 34) ≡ false → (b == 92) ≡ false → text_byte (escaped_byte b ++ rest) ≡ Some (b, rest)
unfolding text_byte
raw_reads b rest high quote slash =
    ap (λ (l : List ℕ). text_byte (l ++ rest)) (raw b high quote slash)
    ∙ raw_by b rest (b == 92) (b == 34) (nat_lt b 32) slash quote high

-- ---- a byte with an escape

abbrev IsReadBack : List ℕ → ℕ → Type 0
IsReadBack rest b = text_byte (escaped_byte b ++ rest) ≡ Some (b, rest)

quote_reads : (rest : List ℕ) → IsReadBack rest 34
unfolding text_byte escape escaped_byte
quote_reads rest = refl

slash_reads : (rest : List ℕ) → IsReadBack rest 92
unfolding text_byte escape escaped_byte
slash_reads rest = refl

-- the numbers below a bound, the greatest first
abbrev Below : (ℕ → Type 0) → ℕ → Type 0
Below P zero = Unit {0}
Below P (suc n) = P n × Below P n

below_by : (P : ℕ → Type 0) (n : ℕ) → P n → ((b : ℕ) → b < n → P b) → (b : ℕ) → b < suc n → (v : Bool) → (b == n) ≡ v → P b
below_by P n last others b lt true e = let same : b ≡ n = grind (arith, nat_tests) in subst P (sym same) last
below_by P n last others b lt false e = let less : b < n = grind (arith, nat_tests) in others b less

below : (P : ℕ → Type 0) (n : ℕ) → Below P n → (b : ℕ) → b < n → P b
below P zero all b lt = absurd (omega arith)
below P (suc n) all b lt = below_by P n all.0 (λ c less. below P n all.1 c less) b lt (b == n) refl

controls_read : (rest : List ℕ) → Below (IsReadBack rest) 32
unfolding text_byte escape numbered escaped_byte
controls_read rest = (
  refl,
  (
    refl,
    (
      refl,
      (
        refl,
        (
          refl,
          (
            refl,
            (
              refl,
              (
                refl,
                (
                  refl,
                  (
                    refl,
                    (
                      refl,
                      (
                        refl,
                        (
                          refl,
                          (
                            refl,
                            (
                              refl,
                              (
                                refl,
                                (
                                  refl,
                                  (
                                    refl,
                                    (
                                      refl,
                                      (
                                        refl,
                                        (
                                          refl,
                                          (
                                            refl,
                                            (
                                              refl,
                                              (
                                                refl,
                                                (
                                                  refl,
                                                  (
                                                    refl,
                                                    (
                                                      refl,
                                                      (
                                                        refl,
                                                        (
                                                          refl,
                                                          (
                                                            refl,
                                                            (
                                                              refl,
                                                              (
                                                                refl,
                                                                tt,
                                                              ),
                                                            ),
                                                          ),
                                                        ),
                                                      ),
                                                    ),
                                                  ),
                                                ),
                                              ),
                                            ),
                                          ),
                                        ),
                                      ),
                                    ),
                                  ),
                                ),
                              ),
                            ),
                          ),
                        ),
                      ),
                    ),
                  ),
                ),
              ),
            ),
          ),
        ),
      ),
    ),
  ),
)

byte_reads : (b : ℕ) (rest : List ℕ) → IsReadBack rest b
byte_reads b rest = by (nat_lt b 32) (b == 34) (b == 92) refl refl refl
  where
    by : (low quote slash : Bool) → nat_lt b 32 ≡ low → (b == 34) ≡ quote → (b == 92) ≡ slash → IsReadBack rest b
    by true quote slash d e f = let lt : b < 32 = grind (arith, nat_tests, d) in below (IsReadBack rest) 32 (controls_read rest) b lt
    by false true slash d e f = let same : b ≡ 34 = grind (arith, nat_tests, e) in subst (IsReadBack rest) (sym same) (quote_reads rest)
    by false false true d e f = let same : b ≡ 92 = grind (arith, nat_tests, f) in subst (IsReadBack rest) (sym same) (slash_reads rest)
    by false false false d e f = raw_reads b rest d e f

-- ---- what was read is spelled so

abbrev HexIs : ℕ → ℕ → Type 0
HexIs d v = (v < 16) × (hex_digit v ≡ d)

hex_value_is : (d v : ℕ) → hex_value d ≡ Some v → HexIs d v
hex_value_is d v e = by (nat_lt d 48) (nat_lt d 58) (nat_lt d 97) (nat_lt d 103) refl refl refl refl e
  where
    by : (p q r s : Bool) → nat_lt d 48 ≡ p → nat_lt d 58 ≡ q → nat_lt d 97 ≡ r → nat_lt d 103 ≡ s
        → (if p then None else (if q then Some (d - 48) else (if r then None else (if s then Some (d - 87) else None)))) ≡ Some v → HexIs d v
    by true q r s a b c f h = absurd cc
    by false true r s a b c f h =
        let same : d - 48 ≡ v = same_value (d - 48) v h in
        (grind (arith, nat_tests, a, b, same), grind (arith, nat_tests, a, b, same))
    by false false true s a b c f h = absurd cc
    by false false false true a b c f h =
        let same : d - 87 ≡ v = same_value (d - 87) v h in
        (grind (arith, nat_tests, c, f, same), grind (arith, nat_tests, c, f, same))
    by false false false false a b c f h = absurd cc

numbered_spelling : (b : ℕ) → is_numbered b ≡ true → escaped_byte b ≡ codes "\\u00" ++ hex_digit (b / 16) ∷ hex_digit (b % 16) ∷ []
unfolding escaped_byte
numbered_spelling b e = grind (arith, nat_tests, e)

control_is : (h l x y b : ℕ) → HexIs h x → HexIs l y → numbered_of x y ≡ Some b → escaped_byte b ≡ codes "\\u00" ++ h ∷ l ∷ []
control_is h l x y b high low e =
    let f = if_of (is_numbered (16 * x + y)) (16 * x + y) b e in
    let is : is_numbered b ≡ true = subst (λ (n : ℕ). is_numbered n ≡ true) f.1 f.0 in
    let sum : 16 * x + y ≡ b = f.1 in
    let first : b / 16 ≡ x = omega (arith, high.0, low.0, sum) in
    let second : b % 16 ≡ y = omega (arith, high.0, low.0, sum) in
    numbered_spelling b is
    ∙ ap₂ (λ (p q : ℕ). codes "\\u00" ++ p ∷ q ∷ []) (ap hex_digit first ∙ high.1) (ap hex_digit second ∙ low.1)

control_of_is : (h l b : ℕ) → control_of h l ≡ Some b → escaped_byte b ≡ codes "\\u00" ++ h ∷ l ∷ []
control_of_is h l b e = by (hex_value h) (hex_value l) refl refl e
  where
    by : (p q : Option ℕ) → hex_value h ≡ p → hex_value l ≡ q → option_and_then (λ x. option_and_then (λ y. numbered_of x y) q) p ≡ Some b → escaped_byte b ≡ codes "\\u00" ++ h ∷ l ∷ []
    by None q f g k = absurd cc
    by (Some x) None f g k = absurd cc
    by (Some x) (Some y) f g k = control_is h l x y b (hex_value_is h x f) (hex_value_is l y g) k

abbrev IsEscaped : List ℕ → ℕ → List ℕ → Type 0
IsEscaped bytes b rest = (92 ∷ bytes) ≡ escaped_byte b ++ rest

joined : (bytes one two three four rest : List ℕ) (h l b : ℕ) → bytes ≡ 48 ∷ one → one ≡ 48 ∷ two → two ≡ h ∷ three → three ≡ l ∷ four → four ≡ rest
    → escaped_byte b ≡ codes "\\u00" ++ h ∷ l ∷ [] → IsEscaped (117 ∷ bytes) b rest
joined bytes one two three four rest h l b p q r s t is =
    ap (λ (z : List ℕ). 92 ∷ 117 ∷ z) p
    ∙ ap (λ (z : List ℕ). 92 ∷ 117 ∷ 48 ∷ z) q
    ∙ ap (λ (z : List ℕ). 92 ∷ 117 ∷ 48 ∷ 48 ∷ z) r
    ∙ ap (λ (z : List ℕ). 92 ∷ 117 ∷ 48 ∷ 48 ∷ h ∷ z) s
    ∙ ap (λ (z : List ℕ). 92 ∷ 117 ∷ 48 ∷ 48 ∷ h ∷ l ∷ z) t
    ∙ ap (λ (z : List ℕ). z ++ rest) (sym is)

numbered_spelled : (bytes rest : List ℕ) (b : ℕ) → numbered bytes ≡ Some (b, rest) → IsEscaped (117 ∷ bytes) b rest
unfolding numbered
numbered_spelled bytes rest b e =
    let p = then_of (byte 48 bytes) (λ _. byte 48 >>= λ _. any_byte >>= λ h. any_byte >>= λ l. given (control_of h l)) b rest e in
    let q = then_of (byte 48 p.1) (λ _. any_byte >>= λ h. any_byte >>= λ l. given (control_of h l)) b rest p.3 in
    let r = then_of (any_byte q.1) (λ h. any_byte >>= λ l. given (control_of h l)) b rest q.3 in
    let s = then_of (any_byte r.1) (λ l. given (control_of r.0 l)) b rest r.3 in
    let g = given_of (control_of r.0 s.0) s.1 rest b s.3 in
    let first : bytes ≡ 48 ∷ p.1 = byte_of 48 bytes p.1 p.2 in
    let second : p.1 ≡ 48 ∷ q.1 = byte_of 48 p.1 q.1 q.2 in
    let third : q.1 ≡ r.0 ∷ r.1 = any_of q.1 r.1 r.0 r.2 in
    let fourth : r.1 ≡ s.0 ∷ s.1 = any_of r.1 s.1 s.0 s.2 in
    joined bytes p.1 q.1 r.1 s.1 rest r.0 s.0 b first second third fourth g.1 (control_of_is r.0 s.0 b g.0)

abbrev IsLetter : ℕ → ℕ → Type 0
IsLetter c b = escaped_byte b ≡ 92 ∷ c ∷ []

letter_by : (c k m b : ℕ) (others : Option ℕ) (v : Bool) → (c == k) ≡ v → IsLetter k m → (others ≡ Some b → IsLetter c b) → (if v then Some m else others) ≡ Some b → IsLetter c b
letter_by c k m b others true e is later h =
    let same : k ≡ c = grind (arith, nat_tests, e) in
    subst (λ (d : ℕ). IsLetter d b) same (subst (IsLetter k) (same_value m b h) is)
letter_by c k m b others false e is later h = later h

no_letter : (c b : ℕ) → (let x : Option ℕ = None in x) ≡ Some b → IsLetter c b
no_letter c b e = absurd cc

lettered_is : (c b : ℕ) → lettered c ≡ Some b → IsLetter c b
unfolding escaped_byte
lettered_is c b e =
    letter_by c 34 34 b _ (c == 34) refl refl
    (letter_by c 92 92 b _ (c == 92) refl refl
    (letter_by c 98 8 b _ (c == 98) refl refl
    (letter_by c 116 9 b _ (c == 116) refl refl
    (letter_by c 110 10 b _ (c == 110) refl refl
    (letter_by c 102 12 b _ (c == 102) refl refl
    (letter_by c 114 13 b _ (c == 114) refl refl (no_letter c b))))))) e

escape_by : (c : ℕ) (bytes rest : List ℕ) (b : ℕ) (v : Bool) → (c == 117) ≡ v → Gave ((if v then numbered else given (lettered c)) bytes) b rest → IsEscaped (c ∷ bytes) b rest
escape_by c bytes rest b true e h =
    let same : 117 ≡ c = grind (arith, nat_tests, e) in
    subst (λ (d : ℕ). IsEscaped (d ∷ bytes) b rest) same (numbered_spelled bytes rest b h)
escape_by c bytes rest b false e h =
    let g = given_of (lettered c) bytes rest b h in
    ap (λ (l : List ℕ). 92 ∷ c ∷ l) g.1 ∙ ap (λ (l : List ℕ). l ++ rest) (sym (lettered_is c b g.0))

escape_spelled : (bytes rest : List ℕ) (b : ℕ) → escape bytes ≡ Some (b, rest) → IsEscaped bytes b rest
unfolding escape
escape_spelled [] rest b e = absurd cc
escape_spelled (c ∷ bytes) rest b e = escape_by c bytes rest b (c == 117) refl e

byte_spelled : (bytes rest : List ℕ) (b : ℕ) → text_byte bytes ≡ Some (b, rest) → bytes ≡ escaped_byte b ++ rest
unfolding text_byte
byte_spelled [] rest b e = absurd cc
byte_spelled (c ∷ bytes) rest b e = by (c == 92) (c == 34) (nat_lt c 32) refl refl refl e
  where
    by : (u v w : Bool) → (c == 92) ≡ u → (c == 34) ≡ v → nat_lt c 32 ≡ w
        → Gave ((if u then escape else (if v then fails else (if w then fails else pure c))) bytes) b rest → (c ∷ bytes) ≡ escaped_byte b ++ rest
    by true v w d f g h =
        let same : 92 ≡ c = grind (arith, nat_tests, d) in
        subst (λ (k : ℕ). (k ∷ bytes) ≡ escaped_byte b ++ rest) same (escape_spelled bytes rest b h)
    by false true w d f g h = absurd cc
    by false false true d f g h = absurd cc
    by false false false d f g h =
        let same = same_pair c b bytes rest h in
        ap (λ (l : List ℕ). l ++ bytes) (sym (raw c g f d))
        ∙ ap₂ (λ (k : ℕ) (l : List ℕ). escaped_byte k ++ l) same.0 same.1

abbrev pub Any : List ℕ → Type 0
Any rest = ⊤

abbrev pub AnyByte : ℕ → Type 0
AnyByte b = ⊤

pub byte_exact : IsExact AnyByte escaped_byte Any text_byte
byte_exact = record {
  reads = λ b rest any follows. byte_reads b rest;
  spelled = λ bytes rest b e. (tt, byte_spelled bytes rest b e);
}
