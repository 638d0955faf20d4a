-- The JSON of a cursor is UTF-8, so each of its numbers is a byte.
use Rattle.std.proofs.Common.{◌≡◌, ℕ, zero, suc, ◌+◌, ◌/◌, ◌<◌, ◌^◌, pos, negsuc, Bool, true, false, cond, List, [], ◌∷◌, ◌++◌, flat_map, decimal, refl, subst, arith, IsUtf8}
use lib.Utf8.{scalars, encode, encodes, next}
use lib.Dec.{ltb}
use Rattle.std.specs.Prelude.{slice_index}
use Rattle.std.specs.Char.{IsScalar}
use Rattle.std.proofs.lemmas.Bool.Decides.{nat_tests}
use Rattle.std.proofs.lemmas.Fmt.{IsAscii-decimal}
use Rattle.std.proofs.lemmas.Str.{IsUtf8-append, IsUtf8-nil, IsUtf8-from_ascii}
use Rattle.std.proofs.lemmas.Str.Ascii.{IsAscii-cons, IsAscii-nil}
use Rattle.base64.specs.GeneralPurpose.{IsBytes}
use Rattle.json_out.specs.JsonText.{json_text}
use Rattle.json_out.proofs.Readers.{IsUtf8-json_text}
use Rattle.pg_base.specs.Lists.{Each}
use Rattle.pg_base.specs.declared.value.Value.{Value, Null, Int, Bool as BoolOf, Text, Case, List', Object'}
use Rattle.cursor_text.specs.declared.cursor.Cursor.{Cursor}
use Rattle.cursor_text.specs.CursorText.{later_json, list_json, value_json, cursor_json, IsMarkValue, IsValidCursor}
use Rattle.cursor_text.proofs.Exact.{and_of}

-- ---- characters are bytes

abbrev AreBytes : List ℕ → Type 0
AreBytes [] = Unit {0}
AreBytes (b ∷ bytes) = (b < 256) × AreBytes bytes

append_bytes : (a b : List ℕ) → AreBytes a → AreBytes b → AreBytes (a ++ b)
append_bytes [] b p q = q
append_bytes (x ∷ a) b p q = (p.0, append_bytes a b p.1 q)

char_bytes : (c : ℕ) → c < 1114112 → (o p q : Bool) → ltb c 128 ≡ o → ltb c 2048 ≡ p → ltb c 65536 ≡ q
    → AreBytes (cond o (c ∷ []) (cond p ((192 + c / 64) ∷ next c ∷ []) (cond q ((224 + c / 4096) ∷ next (c / 64) ∷ next c ∷ []) ((240 + c / 262144) ∷ next (c / 4096) ∷ next (c / 64) ∷ next c ∷ []))))
char_bytes c lt true p q d e f = (grind (arith, nat_tests, d), tt)
char_bytes c lt false true q d e f = (grind (arith, nat_tests, e), (omega arith, tt))
char_bytes c lt false false true d e f = (grind (arith, nat_tests, f), (omega arith, (omega arith, tt)))
char_bytes c lt false false false d e f = (omega arith, (omega arith, (omega arith, (omega arith, tt))))

encode_bytes : (c : ℕ) → IsScalar c → AreBytes (encode c)
unfolding encode
encode_bytes c s = let lt : c < 1114112 = grind (arith, nat_tests, s) in char_bytes c lt (ltb c 128) (ltb c 2048) (ltb c 65536) refl refl refl

encodes_bytes : (cs : List ℕ) → scalars cs ≡ true → AreBytes (encodes cs)
encodes_bytes [] e = tt
encodes_bytes (c ∷ cs) e = let p = and_of _ _ e in append_bytes (encode c) (encodes cs) (encode_bytes c p.0) (encodes_bytes cs p.1)

utf8_bytes : (z : List ℕ) → IsUtf8 z → AreBytes z
utf8_bytes z u = subst AreBytes u.1.1 (encodes_bytes u.0 u.1.0)

at_bytes : (z : List ℕ) → AreBytes z → (i : ℕ) → slice_index z i < 256
at_bytes [] p i = omega arith
at_bytes (b ∷ z) p zero = p.0
at_bytes (b ∷ z) p (suc i) = at_bytes z p.1 i

-- ---- the JSON is UTF-8

low : (b : ℕ) (z : List ℕ) → b < 128 → IsUtf8 z → IsUtf8 (b ∷ z)
low b z lt u = IsUtf8-append (b ∷ []) z (IsUtf8-from_ascii (b ∷ []) (IsAscii-cons b [] lt IsAscii-nil)) u

decimal_utf8 : (n : ℕ) → n < 2 ^ 64 → IsUtf8 (decimal n)
decimal_utf8 n lt = IsUtf8-from_ascii (decimal n) (IsAscii-decimal n lt)

module _ {A : Type 0} (V : A → Type 0) (json : A → List ℕ) (each : (a : A) → V a → IsUtf8 (json a)) where
  later_utf8 : (xs : List A) → Each V xs → IsUtf8 (later_json json xs)
  later_utf8 xs all = IsUtf8-append (flat_map (λ x. 44 ∷ json x) xs) (93 ∷ []) (items xs all) (low 93 [] (omega arith) IsUtf8-nil)
    where
      items : (xs : List A) → Each V xs → IsUtf8 (flat_map (λ x. 44 ∷ json x) xs)
      items [] all = IsUtf8-nil
      items (x ∷ xs) all = low 44 _ (omega arith) (IsUtf8-append (json x) (flat_map (λ x. 44 ∷ json x) xs) (each x all.0) (items xs all.1))

  list_utf8 : (xs : List A) → Each V xs → IsUtf8 (list_json json xs)
  list_utf8 [] all = low 91 _ (omega arith) (low 93 [] (omega arith) IsUtf8-nil)
  list_utf8 (x ∷ xs) all = low 91 _ (omega arith) (IsUtf8-append (json x) (later_json json xs) (each x all.0) (later_utf8 xs all.1))

value_utf8 : (v : Value) → IsMarkValue v → IsUtf8 (value_json v)
value_utf8 Null is = low 110 _ (omega arith) (low 117 _ (omega arith) (low 108 _ (omega arith) (low 108 _ (omega arith) IsUtf8-nil)))
value_utf8 (Int (pos n)) is = decimal_utf8 n (omega (arith, is))
value_utf8 (Int (negsuc n)) is = low 45 (decimal (suc n)) (omega arith) (decimal_utf8 (suc n) (omega (arith, is)))
value_utf8 (BoolOf true) is = low 116 _ (omega arith) (low 114 _ (omega arith) (low 117 _ (omega arith) (low 101 _ (omega arith) IsUtf8-nil)))
value_utf8 (BoolOf false) is = low 102 _ (omega arith) (low 97 _ (omega arith) (low 108 _ (omega arith) (low 115 _ (omega arith) (low 101 _ (omega arith) IsUtf8-nil))))
value_utf8 (Text t) is = IsUtf8-json_text t is
value_utf8 (Case t) is = absurd is
value_utf8 (List' _ xs) is = absurd is
value_utf8 (Object' _ ms) is = absurd is

cursor_utf8 : (c : Cursor) → IsValidCursor c → IsUtf8 (cursor_json c)
cursor_utf8 c v =
    low 91 _ (omega arith)
    (IsUtf8-append (list_json json_text c.order) _ (list_utf8 IsUtf8 json_text IsUtf8-json_text c.order v.order)
    (low 44 _ (omega arith)
    (IsUtf8-append (list_json value_json c.values) _ (list_utf8 IsMarkValue value_json value_utf8 c.values v.values)
    (low 44 _ (omega arith)
    (IsUtf8-append (decimal c.number) _ (decimal_utf8 c.number v.number.1) (low 93 [] (omega arith) IsUtf8-nil))))))

pub json_bytes : (c : Cursor) → IsValidCursor c → IsBytes (cursor_json c)
json_bytes c v i = at_bytes (cursor_json c) (utf8_bytes (cursor_json c) (cursor_utf8 c v)) i
