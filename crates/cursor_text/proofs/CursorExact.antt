-- The reader of a cursor's JSON is exact.
use Rattle.std.proofs.Common.{◌≡◌, ◌⊎◌, inl, inr, ℕ, ◌<◌, ℤ, Bool, true, false, ◌&&◌, ◌==◌, nat_lt, if◌then◌else◌, List, [], ◌∷◌, ◌++◌, length, Option, Some, None, decimal, refl, sym, ap, subst, ◌∙◌, append_assoc, arith, IsUtf8, w64}
use Rattle.std.specs.Prelude.{codes}
use Rattle.std.specs.Int.RustNames.{FitsSigned}
use Rattle.std.proofs.lemmas.Bool.Decides.{nat_tests}
use Rattle.pg_base.specs.Lists.{Each}
use Rattle.pg_base.specs.declared.value.Value.{Value, Null, Int, Bool as BoolOf, Text, Case, List', Object'}
use Rattle.json_out.specs.JsonText.{json_text, json_int}
use Rattle.cursor_text.specs.declared.cursor.Cursor.{Cursor}
use Rattle.cursor_text.specs.CursorText.{list_json, value_json, cursor_json, IsMarkValue, IsValidCursor}
use Rattle.cursor_text.specs.Reader.{Reader, and_then, ◌>>=◌, pure, byte, after_byte}
use Rattle.cursor_text.specs.Reading.{natural, integer, text, text_rest, null_rest, true_rest, false_rest, text_value, int_value, text_or_int, mark_value, list, cursor, is_whole, whole, cursor_in}
use Rattle.cursor_text.proofs.Exact.{IsExact, Gave, same_pair, then_of, byte_of, after_of, after_not, then_gives}
use Rattle.cursor_text.proofs.NumberExact.{NoDigit, IsU64, natural_exact, int_not, integer_exact}
use Rattle.cursor_text.proofs.TextExact.{Any}
use Rattle.cursor_text.proofs.ListExact.{text_end, text_rest_exact, text_exact, list_exact}

-- ---- values

int_reads : (n : ℤ) (rest : List ℕ) → FitsSigned w64 n → NoDigit rest → mark_value (json_int n ++ rest) ≡ Some (Int n, rest)
unfolding mark_value text_or_int int_value
int_reads n rest fits stops =
    after_not 110 null_rest (after_byte 116 true_rest (after_byte 102 false_rest text_or_int)) (json_int n ++ rest) (int_not 110 refl refl n rest fits)
    ∙ after_not 116 true_rest (after_byte 102 false_rest text_or_int) (json_int n ++ rest) (int_not 116 refl refl n rest fits)
    ∙ after_not 102 false_rest text_or_int (json_int n ++ rest) (int_not 102 refl refl n rest fits)
    ∙ after_not 34 text_value int_value (json_int n ++ rest) (int_not 34 refl refl n rest fits)
    ∙ then_gives (integer (json_int n ++ rest)) (λ m. pure (Int m)) n rest (integer_exact.reads n rest fits stops)

text_reads : (t rest : List ℕ) → IsUtf8 t → mark_value (json_text t ++ rest) ≡ Some (Text t, rest)
unfolding mark_value text_or_int text_value
text_reads t rest u = then_gives (text_rest (text_end t ++ rest)) (λ s. pure (Text s)) t rest (text_rest_exact.reads t rest u tt)

value_reads : (v : Value) (rest : List ℕ) → IsMarkValue v → NoDigit rest → mark_value (value_json v ++ rest) ≡ Some (v, rest)
unfolding mark_value null_rest true_rest false_rest
value_reads Null rest is stops = refl
value_reads (Int n) rest is stops = int_reads n rest is stops
value_reads (BoolOf true) rest is stops = refl
value_reads (BoolOf false) rest is stops = refl
value_reads (Text t) rest is stops = text_reads t rest is
value_reads (Case t) rest is stops = absurd is
value_reads (List' _ xs) rest is stops = absurd is
value_reads (Object' _ ms) rest is stops = absurd is

abbrev IsSpelled : List ℕ → Value → List ℕ → Type 0
IsSpelled bytes v rest = IsMarkValue v × (bytes ≡ value_json v ++ rest)

null_spelled : (bytes rest : List ℕ) (v : Value) → null_rest bytes ≡ Some (v, rest) → IsSpelled (110 ∷ bytes) v rest
unfolding null_rest
null_spelled bytes rest v e =
    let p = then_of (byte 117 bytes) (λ _. byte 108 >>= λ _. byte 108 >>= λ _. pure Null) v rest e in
    let q = then_of (byte 108 p.1) (λ _. byte 108 >>= λ _. pure Null) v rest p.3 in
    let r = then_of (byte 108 q.1) (λ _. pure Null) v rest q.3 in
    let same = same_pair Null v r.1 rest r.3 in
    subst (λ (w : Value). IsSpelled (110 ∷ bytes) w rest) same.0
    (tt, spelled_by bytes p.1 q.1 r.1 rest (byte_of 117 bytes p.1 p.2) (byte_of 108 p.1 q.1 q.2) (byte_of 108 q.1 r.1 r.2) same.1)
  where
    spelled_by : (bytes one two three rest : List ℕ) → bytes ≡ 117 ∷ one → one ≡ 108 ∷ two → two ≡ 108 ∷ three → three ≡ rest → (110 ∷ bytes) ≡ codes "null" ++ rest
    spelled_by bytes one two three rest a b c d =
        ap (λ (z : List ℕ). 110 ∷ z) a ∙ ap (λ (z : List ℕ). 110 ∷ 117 ∷ z) b ∙ ap (λ (z : List ℕ). 110 ∷ 117 ∷ 108 ∷ z) c
        ∙ ap (λ (z : List ℕ). 110 ∷ 117 ∷ 108 ∷ 108 ∷ z) d

true_spelled : (bytes rest : List ℕ) (v : Value) → true_rest bytes ≡ Some (v, rest) → IsSpelled (116 ∷ bytes) v rest
unfolding true_rest
true_spelled bytes rest v e =
    let p = then_of (byte 114 bytes) (λ _. byte 117 >>= λ _. byte 101 >>= λ _. pure (BoolOf true)) v rest e in
    let q = then_of (byte 117 p.1) (λ _. byte 101 >>= λ _. pure (BoolOf true)) v rest p.3 in
    let r = then_of (byte 101 q.1) (λ _. pure (BoolOf true)) v rest q.3 in
    let same = same_pair (BoolOf true) v r.1 rest r.3 in
    subst (λ (w : Value). IsSpelled (116 ∷ bytes) w rest) same.0
    (tt, spelled_by bytes p.1 q.1 r.1 rest (byte_of 114 bytes p.1 p.2) (byte_of 117 p.1 q.1 q.2) (byte_of 101 q.1 r.1 r.2) same.1)
  where
    spelled_by : (bytes one two three rest : List ℕ) → bytes ≡ 114 ∷ one → one ≡ 117 ∷ two → two ≡ 101 ∷ three → three ≡ rest → (116 ∷ bytes) ≡ codes "true" ++ rest
    spelled_by bytes one two three rest a b c d =
        ap (λ (z : List ℕ). 116 ∷ z) a ∙ ap (λ (z : List ℕ). 116 ∷ 114 ∷ z) b ∙ ap (λ (z : List ℕ). 116 ∷ 114 ∷ 117 ∷ z) c
        ∙ ap (λ (z : List ℕ). 116 ∷ 114 ∷ 117 ∷ 101 ∷ z) d

false_spelled : (bytes rest : List ℕ) (v : Value) → false_rest bytes ≡ Some (v, rest) → IsSpelled (102 ∷ bytes) v rest
unfolding false_rest
false_spelled bytes rest v e =
    let p = then_of (byte 97 bytes) (λ _. byte 108 >>= λ _. byte 115 >>= λ _. byte 101 >>= λ _. pure (BoolOf false)) v rest e in
    let q = then_of (byte 108 p.1) (λ _. byte 115 >>= λ _. byte 101 >>= λ _. pure (BoolOf false)) v rest p.3 in
    let r = then_of (byte 115 q.1) (λ _. byte 101 >>= λ _. pure (BoolOf false)) v rest q.3 in
    let s = then_of (byte 101 r.1) (λ _. pure (BoolOf false)) v rest r.3 in
    let same = same_pair (BoolOf false) v s.1 rest s.3 in
    subst (λ (w : Value). IsSpelled (102 ∷ bytes) w rest) same.0
    (tt, spelled_by bytes p.1 q.1 r.1 s.1 rest (byte_of 97 bytes p.1 p.2) (byte_of 108 p.1 q.1 q.2) (byte_of 115 q.1 r.1 r.2) (byte_of 101 r.1 s.1 s.2) same.1)
  where
    spelled_by : (bytes one two three four rest : List ℕ) → bytes ≡ 97 ∷ one → one ≡ 108 ∷ two → two ≡ 115 ∷ three → three ≡ 101 ∷ four → four ≡ rest → (102 ∷ bytes) ≡ codes "false" ++ rest
    spelled_by bytes one two three four rest a b c d e =
        ap (λ (z : List ℕ). 102 ∷ z) a ∙ ap (λ (z : List ℕ). 102 ∷ 97 ∷ z) b ∙ ap (λ (z : List ℕ). 102 ∷ 97 ∷ 108 ∷ z) c
        ∙ ap (λ (z : List ℕ). 102 ∷ 97 ∷ 108 ∷ 115 ∷ z) d ∙ ap (λ (z : List ℕ). 102 ∷ 97 ∷ 108 ∷ 115 ∷ 101 ∷ z) e

text_spelled : (bytes rest : List ℕ) (v : Value) → text_value bytes ≡ Some (v, rest) → IsSpelled (34 ∷ bytes) v rest
unfolding text_value
text_spelled bytes rest v e =
    let p = then_of (text_rest bytes) (λ t. pure (Text t)) v rest e in
    let same = same_pair (Text p.0) v p.1 rest p.3 in
    let s = text_rest_exact.spelled bytes p.1 p.0 p.2 in
    subst (λ (w : Value). IsSpelled (34 ∷ bytes) w rest) same.0
    (s.0, ap (λ (l : List ℕ). 34 ∷ l) (s.1 ∙ ap (λ (l : List ℕ). text_end p.0 ++ l) same.1))

int_spelled : (bytes rest : List ℕ) (v : Value) → int_value bytes ≡ Some (v, rest) → IsSpelled bytes v rest
unfolding int_value
int_spelled bytes rest v e =
    let p = then_of (integer bytes) (λ n. pure (Int n)) v rest e in
    let same = same_pair (Int p.0) v p.1 rest p.3 in
    let s = integer_exact.spelled bytes p.1 p.0 p.2 in
    subst (λ (w : Value). IsSpelled bytes w rest) same.0
    (s.0, s.1 ∙ ap (λ (l : List ℕ). json_int p.0 ++ l) same.1)

-- one step of the choice by the first byte
choice : (wanted : ℕ) (p q : Reader Value) → ((z rest : List ℕ) (v : Value) → p z ≡ Some (v, rest) → IsSpelled (wanted ∷ z) v rest)
    → ((z rest : List ℕ) (v : Value) → q z ≡ Some (v, rest) → IsSpelled z v rest)
    → (bytes rest : List ℕ) (v : Value) → after_byte wanted p q bytes ≡ Some (v, rest) → IsSpelled bytes v rest
choice wanted p q first others bytes rest v e = by (after_of wanted p q bytes rest v e)
  where
    by : ((z : List ℕ) × (bytes ≡ wanted ∷ z) × Gave (p z) v rest) ⊎ Gave (q bytes) v rest → IsSpelled bytes v rest
    by (inl x) = subst (λ (l : List ℕ). IsSpelled l v rest) (sym x.1) (first x.0 rest v x.2)
    by (inr h) = others bytes rest v h

text_or_int_spelled : (bytes rest : List ℕ) (v : Value) → text_or_int bytes ≡ Some (v, rest) → IsSpelled bytes v rest
unfolding text_or_int
text_or_int_spelled = choice 34 text_value int_value text_spelled int_spelled

value_spelled : (bytes rest : List ℕ) (v : Value) → mark_value bytes ≡ Some (v, rest) → IsSpelled bytes v rest
unfolding mark_value
value_spelled =
    choice 110 null_rest (after_byte 116 true_rest (after_byte 102 false_rest text_or_int)) null_spelled
    (choice 116 true_rest (after_byte 102 false_rest text_or_int) true_spelled
    (choice 102 false_rest text_or_int false_spelled text_or_int_spelled))

pub value_exact : IsExact IsMarkValue value_json NoDigit mark_value
value_exact = record { reads = value_reads; spelled = value_spelled }

-- no value begins with a bracket that closes
value_begins : (v : Value) (z : List ℕ) → IsMarkValue v → byte 93 (value_json v ++ z) ≡ None
value_begins Null z is = refl
value_begins (Int n) z is = int_not 93 refl refl n z is
value_begins (BoolOf true) z is = refl
value_begins (BoolOf false) z is = refl
value_begins (Text t) z is = refl
value_begins (Case t) z is = absurd is
value_begins (List' _ xs) z is = absurd is
value_begins (Object' _ ms) z is = absurd is

-- ---- lists

order_exact : IsExact (Each IsUtf8) (list_json json_text) Any (list text)
order_exact = list_exact IsUtf8 json_text Any text text_exact (λ t z u. refl) (λ z. tt) (λ z. tt)

values_exact : IsExact (Each IsMarkValue) (list_json value_json) Any (list mark_value)
values_exact = list_exact IsMarkValue value_json NoDigit mark_value value_exact value_begins (λ z. refl) (λ z. refl)

-- ---- cursors

pub record AreParts (c : Cursor) : Type 0 where
  pub order : Each IsUtf8 c.order
  pub values : Each IsMarkValue c.values
  pub number : IsU64 c.number

abbrev after_number : List (List ℕ) → List Value → ℕ → Reader Cursor
after_number order values number = byte 93 >>= λ _. pure (record { order = order; values = values; number = number })

abbrev after_values : List (List ℕ) → List Value → Reader Cursor
after_values order values = byte 44 >>= λ _. natural >>= λ number. after_number order values number

abbrev after_order : List (List ℕ) → Reader Cursor
after_order order = byte 44 >>= λ _. list mark_value >>= λ values. after_values order values

cursor_reads : (c : Cursor) (rest : List ℕ) → AreParts c → cursor (cursor_json c ++ rest) ≡ Some (c, rest)
unfolding cursor
cursor_reads c rest v =
    let last : List ℕ = 93 ∷ rest in
    let third : List ℕ = decimal c.number ++ last in
    let second : List ℕ = list_json value_json c.values ++ 44 ∷ third in
    let a = append_assoc (list_json json_text c.order) (44 ∷ (list_json value_json c.values ++ 44 ∷ (decimal c.number ++ 93 ∷ []))) rest in
    let b = append_assoc (list_json value_json c.values) (44 ∷ (decimal c.number ++ 93 ∷ [])) rest in
    let d = append_assoc (decimal c.number) (93 ∷ []) rest in
    let seams : ((list_json json_text c.order ++ 44 ∷ (list_json value_json c.values ++ 44 ∷ (decimal c.number ++ 93 ∷ []))) ++ rest) ≡ list_json json_text c.order ++ 44 ∷ second =
    a ∙ ap (λ (l : List ℕ). list_json json_text c.order ++ 44 ∷ l) (b ∙ ap (λ (l : List ℕ). list_json value_json c.values ++ 44 ∷ l) d) in
    ap (λ (l : List ℕ). and_then (list text l) after_order) seams
    ∙ then_gives (list text (list_json json_text c.order ++ 44 ∷ second)) after_order c.order (44 ∷ second) (order_exact.reads c.order (44 ∷ second) v.order tt)
    ∙ then_gives (list mark_value second) (λ values. after_values c.order values) c.values (44 ∷ third) (values_exact.reads c.values (44 ∷ third) v.values tt)
    ∙ then_gives (natural third) (λ number. after_number c.order c.values number) c.number last (natural_exact.reads c.number last v.number refl)

abbrev IsParted : List ℕ → Cursor → List ℕ → Type 0
IsParted bytes c rest = AreParts c × (bytes ≡ cursor_json c ++ rest)

joined : (bytes one two three four five six seven rest : List ℕ) (order : List (List ℕ)) (values : List Value) (number : ℕ)
    → bytes ≡ 91 ∷ one → one ≡ list_json json_text order ++ two → two ≡ 44 ∷ three → three ≡ list_json value_json values ++ four
    → four ≡ 44 ∷ five → five ≡ decimal number ++ six → six ≡ 93 ∷ seven → seven ≡ rest
    → bytes ≡ cursor_json (record { order = order; values = values; number = number }) ++ rest
joined bytes one two three four five six seven rest order values number a b c d e f g h =
    let last = f ∙ ap (λ (l : List ℕ). decimal number ++ l) (g ∙ ap (λ (l : List ℕ). 93 ∷ l) h) ∙ sym (append_assoc (decimal number) (93 ∷ []) rest) in
    let second = d ∙ ap (λ (l : List ℕ). list_json value_json values ++ l) (e ∙ ap (λ (l : List ℕ). 44 ∷ l) last) ∙ sym (append_assoc (list_json value_json values) (44 ∷ (decimal number ++ 93 ∷ [])) rest) in
    let first = b ∙ ap (λ (l : List ℕ). list_json json_text order ++ l) (c ∙ ap (λ (l : List ℕ). 44 ∷ l) second) ∙ sym (append_assoc (list_json json_text order) (44 ∷ (list_json value_json values ++ 44 ∷ (decimal number ++ 93 ∷ []))) rest) in
    a ∙ ap (λ (l : List ℕ). 91 ∷ l) first

cursor_spelled : (bytes rest : List ℕ) (c : Cursor) → cursor bytes ≡ Some (c, rest) → IsParted bytes c rest
unfolding cursor
cursor_spelled bytes rest c e =
    let p = then_of (byte 91 bytes) (λ _. list text >>= after_order) c rest e in
    let q = then_of (list text p.1) after_order c rest p.3 in
    let r = then_of (byte 44 q.1) (λ _. list mark_value >>= λ values. after_values q.0 values) c rest q.3 in
    let s = then_of (list mark_value r.1) (λ values. after_values q.0 values) c rest r.3 in
    let t = then_of (byte 44 s.1) (λ _. natural >>= λ number. after_number q.0 s.0 number) c rest s.3 in
    let u = then_of (natural t.1) (λ number. after_number q.0 s.0 number) c rest t.3 in
    let w = then_of (byte 93 u.1) (λ _. pure (record { order = q.0; values = s.0; number = u.0 })) c rest u.3 in
    let same = same_pair (record { order = q.0; values = s.0; number = u.0 }) c w.1 rest w.3 in
    let order = order_exact.spelled p.1 q.1 q.0 q.2 in
    let values = values_exact.spelled r.1 s.1 s.0 s.2 in
    let number = natural_exact.spelled t.1 u.1 u.0 u.2 in
    subst (λ (d : Cursor). IsParted bytes d rest) same.0 (
      record { order = order.0; values = values.0; number = number.0 },
      joined bytes p.1 q.1 r.1 s.1 t.1 u.1 w.1 rest q.0 s.0 u.0 (byte_of 91 bytes p.1 p.2) order.1 (byte_of 44 q.1 r.1 r.2) values.1 (byte_of 44 s.1 t.1 t.2) number.1 (byte_of 93 u.1 w.1 w.2) same.1,
    )

-- ---- whole texts

is_whole_of : (c : Cursor) → IsValidCursor c → is_whole c [] ≡ true
is_whole_of c v =
    let pairs : (length c.values == length c.order) ≡ true = grind (arith, nat_tests, v.pairs) in
    let some : nat_lt 0 c.number ≡ true = grind (arith, nat_tests, v.number.0) in
    both (length c.values == length c.order) (nat_lt 0 c.number) pairs some
  where
    both : (a b : Bool) → a ≡ true → b ≡ true → (a && b) ≡ true
    both true b e f = f
    both false b e f = absurd cc

whole_by : (c : Cursor) (v : Bool) → v ≡ true → (if v then Some c else None) ≡ Some c
whole_by c true e = refl
whole_by c false e = absurd cc

pub cursor_in_reads : (c : Cursor) → IsValidCursor c → cursor_in (cursor_json c) ≡ Some c
unfolding cursor_in
cursor_in_reads c v =
    let parts : AreParts c = record { order = v.order; values = v.values; number = v.number.1 } in
    ap whole (subst (λ (l : List ℕ). cursor l ≡ Some (c, [])) (no_more (cursor_json c)) (cursor_reads c [] parts))
    ∙ whole_by c (is_whole c []) (is_whole_of c v)
  where
    no_more : (l : List ℕ) → (l ++ []) ≡ l
    no_more [] = refl
    no_more (b ∷ l) = ap (λ (m : List ℕ). b ∷ m) (no_more l)

pub record IsSpelledCursor (bytes : List ℕ) (c : Cursor) : Type 0 where
  pub spelled : bytes ≡ cursor_json c
  pub valid : IsValidCursor c

whole_spelled : (bytes rest : List ℕ) (d c : Cursor) → IsParted bytes d rest → (if is_whole d rest then Some d else None) ≡ Some c → IsSpelledCursor bytes c
whole_spelled bytes [] d c p e = by (length d.values == length d.order) (nat_lt 0 d.number) refl refl e
  where
    no_more : (l : List ℕ) → (l ++ []) ≡ l
    no_more [] = refl
    no_more (b ∷ l) = ap (λ (m : List ℕ). b ∷ m) (no_more l)

    by : (v w : Bool) → (length d.values == length d.order) ≡ v → nat_lt 0 d.number ≡ w → (if v && w then Some d else None) ≡ Some c → IsSpelledCursor bytes c
    by true true f g h =
        let same : d ≡ c = some_same d c h in
        let pairs : length d.values ≡ length d.order = grind (arith, nat_tests, f) in
        let some : 0 < d.number = grind (arith, nat_tests, g) in
        subst (λ (k : Cursor). IsSpelledCursor bytes k) same
        (record { spelled = p.1 ∙ no_more (cursor_json d); valid = record { order = p.0.order; values = p.0.values; pairs = pairs; number = (some, p.0.number) } })
      where
        some_same : (x y : Cursor) → Some x ≡ Some y → x ≡ y
        some_same x y k = cc
    by false w f g h = absurd cc
    by true false f g h = absurd cc
whole_spelled bytes (b ∷ rest) d c p e = absurd cc

pub cursor_in_spelled : (bytes : List ℕ) (c : Cursor) → cursor_in bytes ≡ Some c → IsSpelledCursor bytes c
unfolding cursor_in
cursor_in_spelled bytes c e = by (cursor bytes) refl e
  where
    by : (o : Option (Cursor × List ℕ)) → cursor bytes ≡ o → whole o ≡ Some c → IsSpelledCursor bytes c
    by None is h = absurd cc
    by (Some x) is h = whole_spelled bytes x.1 x.0 c (cursor_spelled bytes x.1 x.0 is) h
