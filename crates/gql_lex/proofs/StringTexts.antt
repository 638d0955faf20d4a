-- Strings by the grammar: what the lexer takes for one is one, it takes no shorter one, and where it takes none there is none.
use Rattle.std.proofs.Common.{◌≡◌, ◌≢◌, ℕ, zero, suc, ◌+◌, ◌*◌, ◌≤◌, Bool, true, false, if◌then◌else◌, ◌&&◌, ◌==◌, List, [], ◌∷◌, ◌++◌, Option, Some, None, length, drop, encode_utf8, refl, sym, ap, subst, ◌∙◌, append_assoc, length-append, arith}
use borrow.Author.Tests.{eqb-true, eqb-false, ne_eqb}
use Rattle.std.proofs.Math.Seq.{drop-append_seam}
use Rattle.std.proofs.lemmas.Bool.{false≢true, and_parts}
use Rattle.std.proofs.lemmas.Bool.Decides.{nat_tests}
use Rattle.gql_lex.specs.declared.string.Scan.{Scan}
use Rattle.gql_lex.specs.declared.string.Scan.TheVariants as s
use Rattle.gql_lex.specs.declared.string.Escape.{Escape}
use Rattle.gql_lex.specs.declared.string.Escape.TheVariants as e
use Rattle.gql_lex.specs.Bytes.{is_plain, is_source}
use Rattle.gql_lex.specs.Strings.{opens_block, is_block_escape, escaped, hex_value, is_surrogate, with_digit, hex_escape, one_byte_escape, escape_at, string_scan, block_scan, longer, string_value}
use Rattle.gql_lex.specs.Block.{raw_value}
use Rattle.gql_lex.specs.Grammar.{Begins, IsSourceCharacter, IsCommentCharacter, IsEscapedCharacter, IsHexDigit, IsSurrogate, IsEscape, character, unicode, BeginsEscape, IsEscapeBegun, IsStringText, string_end, string_character, string_escape, three_quotes, IsNoBlockMark, IsInBlock, block_here, block_character, block_quotes}
use Rattle.gql_lex.proofs.Classes.{plain_decides, source_decides, surrogate_decides, hex_is, hex_value_is, escaped_is, escaped_value_is}
use Rattle.gql_lex.proofs.Scans.{farther, scan-pass, string_passes, block_passes, string_scan-quote, string_scan-plain, string_scan-invalid, string_scan-escape, string_scan-end, block_scan-quotes, block_scan-escape, block_scan-source, block_scan-invalid, block_scan-end}
use Rattle.gql_lex.proofs.StringValues.{string_value-pass, string_value-plain, string_value-escape, string_value-end}

-- ---- escapes

pub data EscapeIs (z : List ℕ) : Escape → Type 0 where
  escape_found : (escape rest : List ℕ) (c n : ℕ) → z ≡ escape ++ rest → n ≡ length escape → IsEscape escape c → EscapeIs z (e.Char c n)
  escape_invalid : (BeginsEscape z → ⊥) → EscapeIs z e.Invalid
  escape_begun : IsEscapeBegun z → EscapeIs z e.Unterminated

-- the escape that stands after a `u`
record HasDigits (z : List ℕ) : Type 0 where
  a : ℕ
  b : ℕ
  c : ℕ
  d : ℕ
  rest : List ℕ
  i : ℕ
  j : ℕ
  m : ℕ
  n : ℕ
  split : z ≡ a ∷ b ∷ c ∷ d ∷ rest
  first : IsHexDigit a i
  second : IsHexDigit b j
  third : IsHexDigit c m
  fourth : IsHexDigit d n
  scalar : IsSurrogate (16 * (16 * (16 * (16 * 0 + i) + j) + m) + n) → ⊥

no_escaped_u : (v : ℕ) → IsEscapedCharacter 117 v → ⊥
no_escaped_u v h = absurd (grind arith)

digits_of : (b : ℕ) (z escape rest : List ℕ) (v : ℕ) → b ≡ 117 → IsEscape escape v → b ∷ z ≡ escape ++ rest → HasDigits z
digits_of b z _ rest v k (character c value h) e = let same : 117 ≡ c = cc in absurd (no_escaped_u value (subst (λ (x : ℕ). IsEscapedCharacter x value) (sym same) h))
digits_of b z _ rest v k (unicode a1 b1 c1 d1 i j m n f g h o p) e = record { a = a1; b = b1; c = c1; d = d1; rest = rest; i = i; j = j; m = m; n = n; split = cc; first = f; second = g; third = h; fourth = o; scalar = p }

no_digits : (b : ℕ) (z : List ℕ) → b ≡ 117 → (HasDigits z → ⊥) → BeginsEscape (b ∷ z) → ⊥
no_digits b z k n h = n (digits_of b z h.0 h.1 h.2.0 k h.2.1.0 h.2.1.1)

none_some : (v : ℕ) → (let x : Option ℕ = None in x) ≡ Some v → ⊥
none_some v h = cc

not_hex : (x y v : ℕ) → hex_value x ≡ None → x ≡ y → IsHexDigit y v → ⊥
not_hex x y v e k h = none_some v (sym e ∙ ap hex_value k ∙ hex_value_is y v h)

some_is : (v w : ℕ) → Some v ≡ Some w → v ≡ w
some_is v w h = cc

same_hex : (x y v w : ℕ) → hex_value x ≡ Some v → x ≡ y → IsHexDigit y w → v ≡ w
same_hex x y v w e k h = some_is v w (sym e ∙ ap hex_value k ∙ hex_value_is y w h)

abbrev code_of : ℕ → ℕ → ℕ → ℕ → ℕ
code_of i j m n = 16 * (16 * (16 * (16 * 0 + i) + j) + m) + n

surrogate_none : (a b c d i j m n : ℕ) (z : List ℕ) → hex_value a ≡ Some i → hex_value b ≡ Some j → hex_value c ≡ Some m → hex_value d ≡ Some n → IsSurrogate (code_of i j m n) → HasDigits (a ∷ b ∷ c ∷ d ∷ z) → ⊥
surrogate_none a b c d i j m n z f g h o p t =
    let s = t.split in
    let ka : a ≡ t.a = cc in
    let kb : b ≡ t.b = cc in
    let kc : c ≡ t.c = cc in
    let kd : d ≡ t.d = cc in
    let ei = same_hex a t.a i t.i f ka t.first in
    let ej = same_hex b t.b j t.j g kb t.second in
    let em = same_hex c t.c m t.m h kc t.third in
    let en = same_hex d t.d n t.n o kd t.fourth in
    let same : code_of i j m n ≡ code_of t.i t.j t.m t.n = omega arith in
    t.scalar (subst IsSurrogate same p)

module _ (b : ℕ) (k : b ≡ 117) where
  last_code : (a1 b1 c1 d1 i j m n : ℕ) (z : List ℕ) → hex_value a1 ≡ Some i → hex_value b1 ≡ Some j → hex_value c1 ≡ Some m → hex_value d1 ≡ Some n → (t : Bool) → is_surrogate (code_of i j m n) ≡ t
      → EscapeIs (b ∷ a1 ∷ b1 ∷ c1 ∷ d1 ∷ z) (if t then e.Invalid else e.Char (code_of i j m n) 5)
  last_code a1 b1 c1 d1 i j m n z f g h o true p = escape_invalid (no_digits b _ k (surrogate_none a1 b1 c1 d1 i j m n z f g h o ((surrogate_decides (code_of i j m n)).0 p)))
  last_code a1 b1 c1 d1 i j m n z f g h o false p =
      escape_found (117 ∷ a1 ∷ b1 ∷ c1 ∷ d1 ∷ []) z (code_of i j m n) 5 (ap (λ (x : ℕ). x ∷ a1 ∷ b1 ∷ c1 ∷ d1 ∷ z) k) refl
      (unicode a1 b1 c1 d1 i j m n (hex_is a1 i f) (hex_is b1 j g) (hex_is c1 m h) (hex_is d1 n o) (λ q. false≢true (sym p ∙ (surrogate_decides (code_of i j m n)).1 q)))

  fourth_digit : (a1 b1 c1 i j m : ℕ) (z : List ℕ) → hex_value a1 ≡ Some i → hex_value b1 ≡ Some j → hex_value c1 ≡ Some m → EscapeIs (b ∷ a1 ∷ b1 ∷ c1 ∷ z) (hex_escape 1 (16 * (16 * (16 * 0 + i) + j) + m) z)
  unfolding hex_escape
  fourth_digit a1 b1 c1 i j m [] f g h = escape_begun (k, (omega arith, ((i, hex_is a1 i f), ((j, hex_is b1 j g), ((m, hex_is c1 m h), tt)))))
  fourth_digit a1 b1 c1 i j m (d1 ∷ z) f g h = by_value (hex_value d1) refl
    where
      by_value : (v : Option ℕ) → hex_value d1 ≡ v → EscapeIs (b ∷ a1 ∷ b1 ∷ c1 ∷ d1 ∷ z) (with_digit v (λ value. hex_escape 0 (16 * (16 * (16 * (16 * 0 + i) + j) + m) + value) z))
      by_value None o = escape_invalid (no_digits b _ k (λ t. let s = t.split in let same : d1 ≡ t.d = cc in not_hex d1 t.d t.n o same t.fourth))
      by_value (Some n) o = last_code a1 b1 c1 d1 i j m n z f g h o (is_surrogate (code_of i j m n)) refl

  third_digit : (a1 b1 i j : ℕ) (z : List ℕ) → hex_value a1 ≡ Some i → hex_value b1 ≡ Some j → EscapeIs (b ∷ a1 ∷ b1 ∷ z) (hex_escape 2 (16 * (16 * 0 + i) + j) z)
  unfolding hex_escape
  third_digit a1 b1 i j [] f g = escape_begun (k, (omega arith, ((i, hex_is a1 i f), ((j, hex_is b1 j g), tt))))
  third_digit a1 b1 i j (c1 ∷ z) f g = by_value (hex_value c1) refl
    where
      by_value : (v : Option ℕ) → hex_value c1 ≡ v → EscapeIs (b ∷ a1 ∷ b1 ∷ c1 ∷ z) (with_digit v (λ value. hex_escape 1 (16 * (16 * (16 * 0 + i) + j) + value) z))
      by_value None o = escape_invalid (no_digits b _ k (λ t. let s = t.split in let same : c1 ≡ t.c = cc in not_hex c1 t.c t.m o same t.third))
      by_value (Some m) o = fourth_digit a1 b1 c1 i j m z f g o

  second_digit : (a1 i : ℕ) (z : List ℕ) → hex_value a1 ≡ Some i → EscapeIs (b ∷ a1 ∷ z) (hex_escape 3 (16 * 0 + i) z)
  unfolding hex_escape
  second_digit a1 i [] f = escape_begun (k, (omega arith, ((i, hex_is a1 i f), tt)))
  second_digit a1 i (b1 ∷ z) f = by_value (hex_value b1) refl
    where
      by_value : (v : Option ℕ) → hex_value b1 ≡ v → EscapeIs (b ∷ a1 ∷ b1 ∷ z) (with_digit v (λ value. hex_escape 2 (16 * (16 * 0 + i) + value) z))
      by_value None o = escape_invalid (no_digits b _ k (λ t. let s = t.split in let same : b1 ≡ t.b = cc in not_hex b1 t.b t.j o same t.second))
      by_value (Some j) o = third_digit a1 b1 i j z f o

  first_digit : (z : List ℕ) → EscapeIs (b ∷ z) (hex_escape 4 0 z)
  unfolding hex_escape
  first_digit [] = escape_begun (k, (omega arith, tt))
  first_digit (a1 ∷ z) = by_value (hex_value a1) refl
    where
      by_value : (v : Option ℕ) → hex_value a1 ≡ v → EscapeIs (b ∷ a1 ∷ z) (with_digit v (λ value. hex_escape 3 (16 * 0 + value) z))
      by_value None o = escape_invalid (no_digits b _ k (λ t. let s = t.split in let same : a1 ≡ t.a = cc in not_hex a1 t.a t.i o same t.first))
      by_value (Some i) o = second_digit a1 i z o

no_short : (b : ℕ) (z escape rest : List ℕ) (v : ℕ) → b ≢ 117 → escaped b ≡ None → IsEscape escape v → b ∷ z ≡ escape ++ rest → ⊥
no_short b z _ rest v n o (character c value h) e = let same : b ≡ c = cc in none_some value (sym o ∙ ap escaped same ∙ escaped_value_is c value h)
no_short b z _ rest v n o (unicode a1 b1 c1 d1 i j m w f g h p q) e = let same : b ≡ 117 = cc in n same

pub escape_cases : (z : List ℕ) → EscapeIs z (escape_at z)
unfolding escape_at
escape_cases [] = escape_begun tt
escape_cases (b ∷ z) = chosen (b == 117) refl
  where
    short : b ≢ 117 → (v : Option ℕ) → escaped b ≡ v → EscapeIs (b ∷ z) (one_byte_escape v)
    short n None o = escape_invalid (λ h. no_short b z h.0 h.1 h.2.0 n o h.2.1.0 h.2.1.1)
    short n (Some c) o = escape_found (b ∷ []) z c 1 refl refl (character b c (escaped_is b c o))

    chosen : (t : Bool) → (b == 117) ≡ t → EscapeIs (b ∷ z) (if t then hex_escape 4 0 z else one_byte_escape (escaped b))
    chosen true h = first_digit b (eqb-true b 117 h) z
    chosen false h = short (eqb-false b 117 h) (escaped b) refl

not_u : (c v : ℕ) → IsEscapedCharacter c v → c ≢ 117
not_u c v h k = no_escaped_u v (subst (λ (x : ℕ). IsEscapedCharacter x v) k h)

-- an escape that is there is found
pub escape_at_is : (escape rest : List ℕ) (c : ℕ) → IsEscape escape c → escape_at (escape ++ rest) ≡ e.Char c (length escape)
unfolding escape_at hex_escape
escape_at_is _ rest _ (character c value h) = rw (ne_eqb c 117 (not_u c value h), escaped_value_is c value h) refl
escape_at_is _ rest _ (unicode a b c d i j m n f g h o p) =
    let no : is_surrogate (code_of i j m n) ≡ false = surrogate_none_test (is_surrogate (code_of i j m n)) refl in
    rw (hex_value_is a i f, hex_value_is b j g, hex_value_is c m h, hex_value_is d n o, no) refl
  where
    surrogate_none_test : (t : Bool) → is_surrogate (code_of i j m n) ≡ t → is_surrogate (code_of i j m n) ≡ false
    surrogate_none_test true q = absurd (p ((surrogate_decides (code_of i j m n)).0 q))
    surrogate_none_test false q = q

-- ---- strings

pub data StringIs (z : List ℕ) : Scan → Type 0 where
  string_closed : (text value rest : List ℕ) (n : ℕ) → z ≡ text ++ 34 ∷ rest → n ≡ length text + 1 → IsStringText text value → StringIs z (s.Closed n)
  string_cut : (text value : List ℕ) (b : ℕ) (rest : List ℕ) → z ≡ text ++ b ∷ rest → IsStringText text value → (IsCommentCharacter b → ⊥) → StringIs z s.Invalid
  string_no_escape : (text value rest : List ℕ) → z ≡ text ++ 92 ∷ rest → IsStringText text value → (BeginsEscape rest → ⊥) → StringIs z s.Invalid
  string_open : (value : List ℕ) → IsStringText z value → StringIs z s.Unterminated
  string_open_escape : (text value rest : List ℕ) → z ≡ text ++ 92 ∷ rest → IsStringText text value → IsEscapeBegun rest → StringIs z s.Unterminated

-- after one more piece of the text
module _ (piece : List ℕ) (add : List ℕ → List ℕ) (is : (text value : List ℕ) → IsStringText text value → IsStringText (piece ++ text) (add value)) where
  join : (z text rest : List ℕ) → z ≡ text ++ rest → piece ++ z ≡ (piece ++ text) ++ rest
  join z text rest h = ap (λ (w : List ℕ). piece ++ w) h ∙ sym (append_assoc piece text rest)

  string_more : (z : List ℕ) (x : Scan) → StringIs z x → StringIs (piece ++ z) (farther (length piece) x)
  string_more z _ (string_closed text value rest n h k t) =
      string_closed (piece ++ text) (add value) rest (length piece + n) (join z text (34 ∷ rest) h) (omega (arith, k, length-append piece text)) (is text value t)
  string_more z _ (string_cut text value b rest h t m) = string_cut (piece ++ text) (add value) b rest (join z text (b ∷ rest) h) (is text value t) m
  string_more z _ (string_no_escape text value rest h t m) = string_no_escape (piece ++ text) (add value) rest (join z text (92 ∷ rest) h) (is text value t) m
  string_more z _ (string_open value t) = string_open (add value) (is z value t)
  string_more z _ (string_open_escape text value rest h t m) = string_open_escape (piece ++ text) (add value) rest (join z text (92 ∷ rest) h) (is text value t) m

longer-is : (x : Scan) → longer x ≡ farther 1 x
longer-is (s.Closed n) = refl
longer-is s.Invalid = refl
longer-is s.Unterminated = refl

longer_farther : (n : ℕ) (x : Scan) → longer (farther n x) ≡ farther (suc n) x
longer_farther n (s.Closed len) = ap s.Closed (let k : 1 + (n + len) ≡ suc n + len = omega arith in k)
longer_farther n s.Invalid = refl
longer_farther n s.Unterminated = refl

string_plain : (b : ℕ) (z : List ℕ) → b ≢ 34 → b ≢ 92 → is_plain b ≡ true → StringIs z (string_scan 0 z) → StringIs (b ∷ z) (string_scan 0 (b ∷ z))
string_plain b z m n p h =
    let same : string_scan 0 (b ∷ z) ≡ farther 1 (string_scan 0 z) = string_scan-plain b z m n p ∙ longer-is (string_scan 0 z) in
    subst (StringIs (b ∷ z)) (sym same) (string_more (b ∷ []) (λ value. b ∷ value) (λ text value t. string_character b text value ((plain_decides b).0 p, (m, n)) t) z (string_scan 0 z) h)

string_escaped : (b : ℕ) (z escape rest : List ℕ) (c n : ℕ) → b ≡ 92 → z ≡ escape ++ rest → n ≡ length escape → IsEscape escape c → escape_at z ≡ e.Char c n → StringIs rest (string_scan 0 rest) → StringIs (b ∷ z) (string_scan 0 (b ∷ z))
string_escaped b z escape rest c n k h l is found rec =
    let within : n ≤ length z = omega (arith, ap length h, length-append escape rest) in
    let dropped : drop n z ≡ rest = ap (λ (i : ℕ). drop i z) l ∙ ap (λ (w : List ℕ). drop (length escape) w) h ∙ drop-append_seam escape rest in
    let same : string_scan 0 (b ∷ z) ≡ farther (suc (length escape)) (string_scan 0 rest) =
    string_scan-escape b z (e.Char c n) k found ∙ ap longer (scan-pass string_scan string_passes n z within) ∙ longer_farther n (string_scan 0 (drop n z))
    ∙ ap (λ (w : List ℕ). farther (suc n) (string_scan 0 w)) dropped ∙ ap (λ (i : ℕ). farther (suc i) (string_scan 0 rest)) l in
    let whole : 92 ∷ (escape ++ rest) ≡ b ∷ z = ap (λ (x : ℕ). x ∷ (escape ++ rest)) (sym k) ∙ ap (λ (w : List ℕ). b ∷ w) (sym h) in
    subst (λ (w : List ℕ). StringIs w (string_scan 0 (b ∷ z))) whole (subst (StringIs (92 ∷ (escape ++ rest))) (sym same) (string_more (92 ∷ escape) (λ value. encode_utf8 c ++ value) (λ text value t. string_escape escape c text value is t) rest (string_scan 0 rest) rec))

string_slash : (b : ℕ) (z : List ℕ) (x : Escape) → b ≡ 92 → escape_at z ≡ x → EscapeIs z x → ((rest : List ℕ) → length rest ≤ length z → StringIs rest (string_scan 0 rest)) → StringIs (b ∷ z) (string_scan 0 (b ∷ z))
string_slash b z _ k found (escape_found escape rest c n h l is) rec = string_escaped b z escape rest c n k h l is found (rec rest (omega (arith, ap length h, length-append escape rest)))
string_slash b z _ k found (escape_invalid n) rec = subst (StringIs (b ∷ z)) (sym (string_scan-escape b z e.Invalid k found)) (string_no_escape [] [] z (ap (λ (x : ℕ). x ∷ z) k) string_end n)
string_slash b z _ k found (escape_begun h) rec = subst (StringIs (b ∷ z)) (sym (string_scan-escape b z e.Unterminated k found)) (string_open_escape [] [] z (ap (λ (x : ℕ). x ∷ z) k) string_end h)

string_at_byte : (b : ℕ) (z : List ℕ) (q : Bool) → (b == 34) ≡ q → (l : Bool) → (b == 92) ≡ l → (p : Bool) → is_plain b ≡ p → ((rest : List ℕ) → length rest ≤ length z → StringIs rest (string_scan 0 rest)) → StringIs (b ∷ z) (string_scan 0 (b ∷ z))
string_at_byte b z true h l g p o rec =
    let quote = eqb-true b 34 h in
    subst (StringIs (b ∷ z)) (sym (string_scan-quote b z quote)) (string_closed [] [] z 1 (ap (λ (x : ℕ). x ∷ z) quote) refl string_end)
string_at_byte b z false h true g p o rec = string_slash b z (escape_at z) (eqb-true b 92 g) refl (escape_cases z) rec
string_at_byte b z false h false g true o rec = string_plain b z (eqb-false b 34 h) (eqb-false b 92 g) o (rec z (omega arith))
string_at_byte b z false h false g false o rec =
    subst (StringIs (b ∷ z)) (sym (string_scan-invalid b z (eqb-false b 34 h) (eqb-false b 92 g) o)) (string_cut [] [] b z refl string_end (λ x. false≢true (sym o ∙ (plain_decides b).1 x)))

string_within : (fuel : ℕ) (z : List ℕ) → length z ≤ fuel → StringIs z (string_scan 0 z)
string_within fuel [] le = subst (StringIs []) (sym string_scan-end) (string_open [] string_end)
string_within zero (b ∷ z) le = absurd (omega arith)
string_within (suc fuel) (b ∷ z) le = string_at_byte b z (b == 34) refl (b == 92) refl (is_plain b) refl (λ rest short. string_within fuel rest (omega arith))

-- what the lexer finds after an opening quote
pub string_cases : (z : List ℕ) → StringIs z (string_scan 0 z)
string_cases z = string_within (length z) z (omega arith)

-- a string that is there is found
pub string_scan_is : (text value rest : List ℕ) → IsStringText text value → string_scan 0 (text ++ 34 ∷ rest) ≡ s.Closed (length text + 1)
string_scan_is _ _ rest string_end = string_scan-quote 34 rest refl
string_scan_is _ _ rest (string_character b text value h t) =
    let count : length text + 1 + 1 ≡ suc (length text) + 1 = omega arith in
    string_scan-plain b (text ++ 34 ∷ rest) h.1.0 h.1.1 ((plain_decides b).1 h.0) ∙ ap longer (string_scan_is text value rest t) ∙ ap s.Closed (let k : 1 + (length text + 1) ≡ suc (length text) + 1 = omega arith in k)
string_scan_is _ _ rest (string_escape escape c text value h t) =
    let z = text ++ 34 ∷ rest in
    let n = length escape in
    let whole : (escape ++ text) ++ 34 ∷ rest ≡ escape ++ z = append_assoc escape text (34 ∷ rest) in
    let within : n ≤ length (escape ++ z) = omega (arith, length-append escape z) in
    ap (λ (w : List ℕ). string_scan 0 (92 ∷ w)) whole
    ∙ string_scan-escape 92 (escape ++ z) (e.Char c n) refl (escape_at_is escape z c h)
    ∙ ap longer (scan-pass string_scan string_passes n (escape ++ z) within)
    ∙ longer_farther n (string_scan 0 (drop n (escape ++ z)))
    ∙ ap (λ (w : List ℕ). farther (suc n) (string_scan 0 w)) (drop-append_seam escape z)
    ∙ ap (farther (suc n)) (string_scan_is text value rest t)
    ∙ ap s.Closed (let k : suc n + (length text + 1) ≡ suc (length (escape ++ text)) + 1 = omega (arith, length-append escape text) in k)

-- and stands for what the grammar says
pub string_value_is : (text value : List ℕ) → IsStringText text value → string_value 0 text ≡ value
string_value_is _ _ string_end = string_value-end
string_value_is _ _ (string_character b text value h t) = string_value-plain b text h.1.1 ∙ ap (λ (w : List ℕ). b ∷ w) (string_value_is text value t)
string_value_is _ _ (string_escape escape c text value h t) =
    string_value-escape 92 (escape ++ text) (e.Char c (length escape)) refl (escape_at_is escape text c h)
    ∙ ap (λ (w : List ℕ). encode_utf8 c ++ w) (string_value-pass (length escape) (escape ++ text) ∙ ap (string_value 0) (drop-append_seam escape text) ∙ string_value_is text value t)

-- ---- block strings

pub begins_longer : (front w rest : List ℕ) → Begins front w → Begins front (w ++ rest)
begins_longer front w rest h = (h.0 ++ rest, ap (λ (x : List ℕ). x ++ rest) h.1 ∙ append_assoc front h.0 rest)

no_mark_front : (w rest : List ℕ) → IsNoBlockMark (w ++ rest) → IsNoBlockMark w
no_mark_front w rest h = (λ g. h.0 (begins_longer three_quotes w rest g), λ g. h.1 (begins_longer (92 ∷ three_quotes) w rest g))

three_of : (a b c : ℕ) (z : List ℕ) → (a == 34 && b == 34 && c == 34) ≡ true → a ∷ b ∷ c ∷ z ≡ 34 ∷ 34 ∷ 34 ∷ z
three_of a b c z h =
    let p : a ≡ 34 = grind (arith, nat_tests) in
    let q : b ≡ 34 = grind (arith, nat_tests) in
    let r : c ≡ 34 = grind (arith, nat_tests) in
    rw (p, q, r) refl

pub quotes_begin : (z : List ℕ) → opens_block z ≡ true → Begins three_quotes z
quotes_begin [] h = absurd (false≢true h)
quotes_begin (a ∷ []) h = absurd (false≢true h)
quotes_begin (a ∷ b ∷ []) h = absurd (false≢true h)
quotes_begin (a ∷ b ∷ c ∷ z) h = (z, three_of a b c z h)

pub begins_quotes : (z : List ℕ) → Begins three_quotes z → opens_block z ≡ true
begins_quotes z h = ap opens_block h.1

escape_begins : (z : List ℕ) → is_block_escape z ≡ true → Begins (92 ∷ three_quotes) z
escape_begins [] h = absurd (false≢true h)
escape_begins (b ∷ z) h =
    let p = and_parts (b == 92) (opens_block z) h in
    let q = quotes_begin z p.1 in
    (q.0, ap (λ (x : ℕ). x ∷ z) (eqb-true b 92 p.0) ∙ ap (λ (w : List ℕ). 92 ∷ w) q.1)

begins_escape : (z : List ℕ) → Begins (92 ∷ three_quotes) z → is_block_escape z ≡ true
begins_escape z h = ap is_block_escape h.1

marks_none : (z : List ℕ) → opens_block z ≡ false → is_block_escape z ≡ false → IsNoBlockMark z
marks_none z h g = (λ x. false≢true (sym h ∙ begins_quotes z x), λ x. false≢true (sym g ∙ begins_escape z x))

none_of : (f : List ℕ → Bool) (z : List ℕ) (v : Bool) → f z ≡ v → (f z ≡ true → ⊥) → f z ≡ false
none_of f z true e n = absurd (n e)
none_of f z false e n = e

no_quotes_test : (z : List ℕ) → IsNoBlockMark z → opens_block z ≡ false
no_quotes_test z h = none_of opens_block z (opens_block z) refl (λ x. h.0 (quotes_begin z x))

no_escape_test : (z : List ℕ) → IsNoBlockMark z → is_block_escape z ≡ false
no_escape_test z h = none_of is_block_escape z (is_block_escape z) refl (λ x. h.1 (escape_begins z x))

pub data BlockIs (z : List ℕ) : Scan → Type 0 where
  block_closed : (inner raw rest : List ℕ) (n : ℕ) → z ≡ inner ++ rest → n ≡ length inner → IsInBlock inner raw three_quotes → BlockIs z (s.Closed n)
  block_cut : (raw : List ℕ) (b : ℕ) (rest : List ℕ) → IsInBlock z raw (b ∷ rest) → (IsSourceCharacter b → ⊥) → BlockIs z s.Invalid
  block_open : (raw : List ℕ) → IsInBlock z raw [] → BlockIs z s.Unterminated

block_more : (b : ℕ) (z : List ℕ) (x : Scan) → IsSourceCharacter b → IsNoBlockMark (b ∷ z) → BlockIs z x → BlockIs (b ∷ z) (farther 1 x)
block_more b z _ h m (block_closed inner raw rest n e l t) =
    let cut : IsNoBlockMark (b ∷ inner) = no_mark_front (b ∷ inner) rest (subst (λ (w : List ℕ). IsNoBlockMark (b ∷ w)) e m) in
    block_closed (b ∷ inner) (b ∷ raw) rest (1 + n) (ap (λ (w : List ℕ). b ∷ w) e) (omega (arith, l)) (block_character b inner raw three_quotes h cut t)
block_more b z _ h m (block_cut raw c rest t n) = block_cut (b ∷ raw) c rest (block_character b z raw (c ∷ rest) h m t) n
block_more b z _ h m (block_open raw t) = block_open (b ∷ raw) (block_character b z raw [] h m t)

block_escaped : (z : List ℕ) (x : Scan) → BlockIs z x → BlockIs (92 ∷ 34 ∷ 34 ∷ 34 ∷ z) (farther 4 x)
block_escaped z _ (block_closed inner raw rest n e l t) =
    block_closed (92 ∷ 34 ∷ 34 ∷ 34 ∷ inner) (34 ∷ 34 ∷ 34 ∷ raw) rest (4 + n) (ap (λ (w : List ℕ). 92 ∷ 34 ∷ 34 ∷ 34 ∷ w) e) (omega (arith, l)) (block_quotes inner raw three_quotes t)
block_escaped z _ (block_cut raw c rest t n) = block_cut (34 ∷ 34 ∷ 34 ∷ raw) c rest (block_quotes z raw (c ∷ rest) t) n
block_escaped z _ (block_open raw t) = block_open (34 ∷ 34 ∷ 34 ∷ raw) (block_quotes z raw [] t)

block_ends : (b : ℕ) (z : List ℕ) → opens_block (b ∷ z) ≡ true → BlockIs (b ∷ z) (block_scan 0 (b ∷ z))
block_ends b z h =
    let q = quotes_begin (b ∷ z) h in
    subst (BlockIs (b ∷ z)) (sym (block_scan-quotes b z h)) (block_closed three_quotes [] q.0 3 q.1 refl (block_here three_quotes))

block_slash : (b : ℕ) (z : List ℕ) → opens_block (b ∷ z) ≡ false → is_block_escape (b ∷ z) ≡ true → ((rest : List ℕ) → length rest ≤ length z → BlockIs rest (block_scan 0 rest)) → BlockIs (b ∷ z) (block_scan 0 (b ∷ z))
block_slash b z h g rec =
    let q = escape_begins (b ∷ z) g in
    let tail : z ≡ 34 ∷ 34 ∷ 34 ∷ q.0 = cc q.1 in
    let within : 3 ≤ length z = omega (arith, ap length tail) in
    let same : block_scan 0 (b ∷ z) ≡ farther 4 (block_scan 0 q.0) =
    block_scan-escape b z h g ∙ ap longer (scan-pass block_scan block_passes 3 z within) ∙ longer_farther 3 (block_scan 0 (drop 3 z)) ∙ ap (λ (w : List ℕ). farther 4 (block_scan 0 (drop 3 w))) tail in
    subst (λ (w : List ℕ). BlockIs w (block_scan 0 (b ∷ z))) (sym q.1) (subst (BlockIs (92 ∷ 34 ∷ 34 ∷ 34 ∷ q.0)) (sym same) (block_escaped q.0 (block_scan 0 q.0) (rec q.0 (omega (arith, ap length tail)))))

block_byte : (b : ℕ) (z : List ℕ) (t : Bool) → is_source b ≡ t → opens_block (b ∷ z) ≡ false → is_block_escape (b ∷ z) ≡ false → BlockIs z (block_scan 0 z) → BlockIs (b ∷ z) (block_scan 0 (b ∷ z))
block_byte b z true o h g rec =
    let same : block_scan 0 (b ∷ z) ≡ farther 1 (block_scan 0 z) = block_scan-source b z h g o ∙ longer-is (block_scan 0 z) in
    subst (BlockIs (b ∷ z)) (sym same) (block_more b z (block_scan 0 z) ((source_decides b).0 o) (marks_none (b ∷ z) h g) rec)
block_byte b z false o h g rec =
    subst (BlockIs (b ∷ z)) (sym (block_scan-invalid b z h g o)) (block_cut [] b z (block_here (b ∷ z)) (λ x. false≢true (sym o ∙ (source_decides b).1 x)))

block_at_byte : (b : ℕ) (z : List ℕ) (t : Bool) → opens_block (b ∷ z) ≡ t → (u : Bool) → is_block_escape (b ∷ z) ≡ u → ((rest : List ℕ) → length rest ≤ length z → BlockIs rest (block_scan 0 rest)) → BlockIs (b ∷ z) (block_scan 0 (b ∷ z))
block_at_byte b z true h u g rec = block_ends b z h
block_at_byte b z false h true g rec = block_slash b z h g rec
block_at_byte b z false h false g rec = block_byte b z (is_source b) refl h g (rec z (omega arith))

block_within : (fuel : ℕ) (z : List ℕ) → length z ≤ fuel → BlockIs z (block_scan 0 z)
block_within fuel [] le = subst (BlockIs []) (sym block_scan-end) (block_open [] (block_here []))
block_within zero (b ∷ z) le = absurd (omega arith)
block_within (suc fuel) (b ∷ z) le = block_at_byte b z (opens_block (b ∷ z)) refl (is_block_escape (b ∷ z)) refl (λ rest short. block_within fuel rest (omega arith))

-- what the lexer finds after three opening quotes
pub block_cases : (z : List ℕ) → BlockIs z (block_scan 0 z)
block_cases z = block_within (length z) z (omega arith)

-- a block string ends with its three closing quotes, and its raw value is what stands before these
pub record HasRaw (inner raw : List ℕ) : Type 0 where
  pub front : List ℕ
  pub split : inner ≡ front ++ three_quotes
  pub value : raw_value 0 front ≡ raw

raw_of : (inner raw end : List ℕ) → end ≡ three_quotes → IsInBlock inner raw end → HasRaw inner raw
unfolding raw_value
raw_of _ _ _ k (block_here rest) = record { front = []; split = k; value = refl }
raw_of _ _ _ k (block_character b text raw rest h m t) =
    let r = raw_of text raw rest k t in
    let no : is_block_escape (b ∷ r.front) ≡ false = no_escape_test (b ∷ r.front) (no_mark_front (b ∷ r.front) three_quotes (subst (λ (w : List ℕ). IsNoBlockMark (b ∷ w)) r.split m)) in
    record { front = b ∷ r.front; split = ap (λ (w : List ℕ). b ∷ w) r.split; value = rw no (ap (λ (w : List ℕ). b ∷ w) r.value) }
raw_of _ _ _ k (block_quotes text raw rest t) =
    let r = raw_of text raw rest k t in
    record { front = 92 ∷ 34 ∷ 34 ∷ 34 ∷ r.front; split = ap (λ (w : List ℕ). 92 ∷ 34 ∷ 34 ∷ 34 ∷ w) r.split; value = ap (λ (w : List ℕ). 34 ∷ 34 ∷ 34 ∷ w) r.value }

pub block_raw : (inner raw : List ℕ) → IsInBlock inner raw three_quotes → HasRaw inner raw
block_raw inner raw t = raw_of inner raw three_quotes refl t

block_shift : (b : ℕ) (z : List ℕ) (n : ℕ) → IsNoBlockMark (b ∷ z) → IsSourceCharacter b → block_scan 0 z ≡ s.Closed n → block_scan 0 (b ∷ z) ≡ s.Closed (1 + n)
block_shift b z n m h e = block_scan-source b z (no_quotes_test (b ∷ z) m) (no_escape_test (b ∷ z) m) ((source_decides b).1 h) ∙ ap longer e

-- a mark at the front of what is long enough is one of its own
mark_cut : (a b c d : ℕ) (w rest : List ℕ) → IsNoBlockMark (a ∷ b ∷ c ∷ d ∷ w) → IsNoBlockMark ((a ∷ b ∷ c ∷ d ∷ w) ++ rest)
mark_cut a b c d w rest m = (λ h. m.0 (d ∷ w, first h.0 h.1), λ h. m.1 (w, second h.0 h.1))
  where
    first : (r : List ℕ) → a ∷ b ∷ c ∷ d ∷ (w ++ rest) ≡ 34 ∷ 34 ∷ 34 ∷ r → a ∷ b ∷ c ∷ d ∷ w ≡ 34 ∷ 34 ∷ 34 ∷ d ∷ w
    first r e = cc

    second : (r : List ℕ) → a ∷ b ∷ c ∷ d ∷ (w ++ rest) ≡ 92 ∷ 34 ∷ 34 ∷ 34 ∷ r → a ∷ b ∷ c ∷ d ∷ w ≡ 92 ∷ 34 ∷ 34 ∷ 34 ∷ w
    second r e = cc

mark_longer : (b : ℕ) (front rest : List ℕ) → IsNoBlockMark (b ∷ (front ++ three_quotes)) → IsNoBlockMark (b ∷ ((front ++ three_quotes) ++ rest))
mark_longer b [] rest m = mark_cut b 34 34 34 [] rest m
mark_longer b (c ∷ []) rest m = mark_cut b c 34 34 (34 ∷ []) rest m
mark_longer b (c ∷ d ∷ []) rest m = mark_cut b c d 34 (34 ∷ 34 ∷ []) rest m
mark_longer b (c ∷ d ∷ f ∷ front) rest m = mark_cut b c d f (front ++ three_quotes) rest m

scan_of : (inner raw end rest : List ℕ) → end ≡ three_quotes → IsInBlock inner raw end → block_scan 0 (inner ++ rest) ≡ s.Closed (length inner)
scan_of _ _ _ rest k (block_here end) =
    ap (λ (w : List ℕ). block_scan 0 (w ++ rest)) k ∙ block_scan-quotes 34 (34 ∷ 34 ∷ rest) refl ∙ ap (λ (w : List ℕ). s.Closed (length w)) (sym k)
scan_of _ _ _ rest k (block_character b text raw end h m t) =
    let r = raw_of text raw end k t in
    let long : IsNoBlockMark (b ∷ (text ++ rest)) = subst (λ (w : List ℕ). IsNoBlockMark (b ∷ (w ++ rest))) (sym r.split) (mark_longer b r.front rest (subst (λ (w : List ℕ). IsNoBlockMark (b ∷ w)) r.split m)) in
    block_shift b (text ++ rest) (length text) long h (scan_of text raw end rest k t) ∙ ap s.Closed (let n : 1 + length text ≡ suc (length text) = omega arith in n)
scan_of _ _ _ rest k (block_quotes text raw end t) =
    let z = text ++ rest in
    let within : 3 ≤ length (34 ∷ 34 ∷ 34 ∷ z) = omega arith in
    block_scan-escape 92 (34 ∷ 34 ∷ 34 ∷ z) refl refl ∙ ap longer (scan-pass block_scan block_passes 3 (34 ∷ 34 ∷ 34 ∷ z) within) ∙ longer_farther 3 (block_scan 0 z)
    ∙ ap (farther 4) (scan_of text raw end rest k t) ∙ ap s.Closed (let n : 4 + length text ≡ suc (suc (suc (suc (length text)))) = omega arith in n)

-- a block string that is there is found
pub block_scan_is : (inner raw rest : List ℕ) → IsInBlock inner raw three_quotes → block_scan 0 (inner ++ rest) ≡ s.Closed (length inner)
block_scan_is inner raw rest t = scan_of inner raw three_quotes rest refl t
