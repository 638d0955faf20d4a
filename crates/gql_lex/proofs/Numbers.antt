-- Numbers by the grammar: what the lexer takes for one is one, it takes no shorter one, and where it takes none there is none.
use Rattle.std.proofs.Common.{◌≡◌, ◌≢◌, ◌⊎◌, inl, inr, ℕ, suc, ◌+◌, ◌≤◌, Bool, true, false, cond, ◌||◌, ◌==◌, not, if◌then◌else◌, List, [], ◌∷◌, ◌++◌, length, drop, take_while, codes, Decides, refl, sym, ap, subst, ◌∙◌, append_assoc, append-nil, length-append, drop-drop, arith}
use borrow.Author.Tests.{eqb-true, eqb-false, ne_eqb}
use Rattle.std.specs.List.{prefix_len}
use Rattle.std.proofs.Math.Seq.{drop-append_seam}
use Rattle.std.proofs.lemmas.Bool.{false≢true}
use Rattle.std.proofs.lemmas.Bool.Decides.{nat_tests}
use Rattle.pg_base.specs.Lists.{Each}
use Rattle.gql_lex.specs.declared.token.TokenKind.{TokenKind}
use Rattle.gql_lex.specs.declared.token.TokenKind.TheVariants as k
use Rattle.gql_lex.specs.declared.front.Front.{Front}
use Rattle.gql_lex.specs.declared.front.Front.TheVariants.{Ignored, Token, Invalid, Unterminated}
use Rattle.gql_lex.specs.Bytes.{is_digit, is_name_byte}
use Rattle.gql_lex.specs.Number.{digits_len, after_mark, unsigned_len, integer_len, fraction_len, sign_len, exponent_len, ends_number, number_at}
use Rattle.gql_lex.specs.Grammar.{IsOneOf, IsDigit, IsNonZeroDigit, IsNameContinue, BeginsSo, IsUnsigned, zero_alone, digits, IsIntegerPart, plain, negative, AreDigits, IsFractionalPart, fraction, IsExponentPart, exponent, signed_exponent, IsOptional, IsNumber, IsNumberFollower, Spells, IsWordOf, MayFollow}
use Rattle.gql_lex.proofs.Classes.{digit_decides, name_byte_decides}

pub cond_is : {A : Type 0} (t : Bool) (x y v : A) → cond t x y ≡ v → ((t ≡ true) × (x ≡ v)) ⊎ ((t ≡ false) × (y ≡ v))
cond_is true x y v e = inl (refl, e)
cond_is false x y v e = inr (refl, e)

-- ---- runs

pub record IsRun (p : ℕ → Bool) (P : ℕ → Type 0) (z : List ℕ) : Type 0 where
  pub run : List ℕ
  pub rest : List ℕ
  pub split : z ≡ run ++ rest
  pub long : length run ≡ length (take_while p z)
  pub passes : Each P run
  pub stops : BeginsSo P rest → ⊥

module _ (p : ℕ → Bool) (P : ℕ → Type 0) (decides : (b : ℕ) → Decides (p b) (P b)) where
  run_more : (b : ℕ) (z : List ℕ) → p b ≡ true → length (take_while p (b ∷ z)) ≡ 1 + length (take_while p z)
  run_more b z e = let one : 1 + prefix_len p z ≡ suc (prefix_len p z) = omega arith in let two : 1 + length (take_while p z) ≡ suc (length (take_while p z)) = omega arith in rw (e, one) (sym two)

  run_none : (b : ℕ) (z : List ℕ) → p b ≡ false → length (take_while p (b ∷ z)) ≡ 0
  run_none b z e = rw e refl

  pub run_is : (z : List ℕ) → IsRun p P z
  run_is [] = record { run = []; rest = []; split = refl; long = refl; passes = tt; stops = λ h. h }
  run_is (b ∷ z) = chosen (p b) refl (run_is z)
    where
      chosen : (t : Bool) → p b ≡ t → IsRun p P z → IsRun p P (b ∷ z)
      chosen true e r =
          record { run = b ∷ r.run; rest = r.rest; split = ap (λ (w : List ℕ). b ∷ w) r.split; long = omega (arith, r.long, run_more b z e); passes = ((decides b).0 e, r.passes); stops = r.stops }
      chosen false e r = record { run = []; rest = b ∷ z; split = refl; long = sym (run_none b z e); passes = tt; stops = λ h. false≢true (sym e ∙ (decides b).1 h) }

  pub run_over : (run rest : List ℕ) → Each P run → length (take_while p (run ++ rest)) ≡ length run + length (take_while p rest)
  run_over [] rest h = let k : length (take_while p rest) ≡ 0 + length (take_while p rest) = omega arith in k
  run_over (b ∷ run) rest h = omega (arith, run_more b (run ++ rest) ((decides b).1 h.0), run_over run rest h.1)

  pub run_stops : (rest : List ℕ) → (BeginsSo P rest → ⊥) → length (take_while p rest) ≡ 0
  run_stops [] n = refl
  run_stops (b ∷ rest) n = chosen (p b) refl
    where
      chosen : (t : Bool) → p b ≡ t → length (take_while p (b ∷ rest)) ≡ 0
      chosen true e = absurd (n ((decides b).0 e))
      chosen false e = run_none b rest e

-- ---- parts that are found

-- a part of this length at the front
pub record IsPart (P : List ℕ → Type 0) (z : List ℕ) (n : ℕ) : Type 0 where
  pub part : List ℕ
  pub rest : List ℕ
  pub split : z ≡ part ++ rest
  pub long : length part ≡ n
  pub is : P part

digits_part : (z : List ℕ) → digits_len z ≢ 0 → IsPart AreDigits z (digits_len z)
digits_part z some =
    let r = run_is is_digit IsDigit digit_decides z in
    record { part = r.run; rest = r.rest; split = r.split; long = r.long; is = are (r.run) r.passes (λ e. some (sym r.long ∙ ap length e)) }
  where
    are : (run : List ℕ) → Each IsDigit run → run ≢ [] → AreDigits run
    are [] h n = absurd (n refl)
    are (b ∷ run) h n = h

part_after : (P Q : List ℕ → Type 0) (b : ℕ) (z : List ℕ) (n : ℕ) → ((part : List ℕ) → P part → Q (b ∷ part)) → IsPart P z n → IsPart Q (b ∷ z) (1 + n)
part_after P Q b z n f h = record { part = b ∷ h.part; rest = h.rest; split = ap (λ (w : List ℕ). b ∷ w) h.split; long = omega (arith, h.long); is = f h.part h.is }

mark_some : (n mark : ℕ) → after_mark mark n ≢ 0 → (n ≢ 0) × (after_mark mark n ≡ mark + n)
mark_some n mark h = chosen (n == 0) refl
  where
    chosen : (t : Bool) → (n == 0) ≡ t → (n ≢ 0) × (after_mark mark n ≡ mark + n)
    chosen true e = absurd (h (rw e refl))
    chosen false e = (eqb-false n 0 e, rw e refl)

mark_of : (n mark : ℕ) → n ≢ 0 → after_mark mark n ≡ mark + n
mark_of n mark h = rw (ne_eqb n 0 h) refl

nonzero : (b : ℕ) → IsDigit b → b ≢ 48 → IsNonZeroDigit b
nonzero b h n = (let low = h.0 in omega arith, h.1)

unsigned_digits : (b : ℕ) (z : List ℕ) → b ≢ 48 → digits_len (b ∷ z) ≢ 0 → IsPart IsUnsigned (b ∷ z) (digits_len (b ∷ z))
unsigned_digits b z n some =
    let d = digits_part (b ∷ z) some in
    record { part = d.part; rest = d.rest; split = d.split; long = d.long; is = are d.rest d.part d.split d.is }
  where
    are : (rest part : List ℕ) → b ∷ z ≡ part ++ rest → AreDigits part → IsUnsigned part
    are rest [] e h = absurd h
    are rest (c ∷ part) e h = let same : b ≡ c = cc in digits c part (nonzero c h.0 (λ x. n (same ∙ x))) h.1

unsigned_part : (z : List ℕ) → unsigned_len z ≢ 0 → IsPart IsUnsigned z (unsigned_len z)
unsigned_part [] some = absurd (some refl)
unsigned_part (b ∷ z) some = chosen (b == 48) refl
  where
    chosen : (t : Bool) → (b == 48) ≡ t → IsPart IsUnsigned (b ∷ z) (unsigned_len (b ∷ z))
    chosen true e =
        let is : unsigned_len (b ∷ z) ≡ 1 = rw e refl in
        subst (IsPart IsUnsigned (b ∷ z)) (sym is) (record { part = 48 ∷ []; rest = z; split = ap (λ (x : ℕ). x ∷ z) (eqb-true b 48 e); long = refl; is = zero_alone })
    chosen false e =
        let is : unsigned_len (b ∷ z) ≡ digits_len (b ∷ z) = rw e refl in
        subst (IsPart IsUnsigned (b ∷ z)) (sym is) (unsigned_digits b z (eqb-false b 48 e) (λ x. some (is ∙ x)))

integer_part : (z : List ℕ) → integer_len z ≢ 0 → IsPart IsIntegerPart z (integer_len z)
integer_part [] some = absurd (some refl)
integer_part (b ∷ z) some = chosen (b == 45) refl
  where
    chosen : (t : Bool) → (b == 45) ≡ t → IsPart IsIntegerPart (b ∷ z) (integer_len (b ∷ z))
    chosen true e =
        let is : integer_len (b ∷ z) ≡ after_mark 1 (unsigned_len z) = rw e refl in
        let m = mark_some (unsigned_len z) 1 (λ x. some (is ∙ x)) in
        let minus = eqb-true b 45 e in
        subst (IsPart IsIntegerPart (b ∷ z)) (sym (is ∙ m.1)) (part_after IsUnsigned IsIntegerPart b z (unsigned_len z) (λ part h. subst (λ (x : ℕ). IsIntegerPart (x ∷ part)) (sym minus) (negative part h)) (unsigned_part z m.0))
    chosen false e =
        let is : integer_len (b ∷ z) ≡ unsigned_len (b ∷ z) = rw e refl in
        let u = unsigned_part (b ∷ z) (λ x. some (is ∙ x)) in
        subst (IsPart IsIntegerPart (b ∷ z)) (sym is) (record { part = u.part; rest = u.rest; split = u.split; long = u.long; is = plain u.part u.is })

optional_none : (P : List ℕ → Type 0) (z : List ℕ) (n : ℕ) → n ≡ 0 → IsPart (IsOptional P) z n
optional_none P z n e = record { part = []; rest = z; split = refl; long = sym e; is = inl refl }

optional_some : (P : List ℕ → Type 0) (z : List ℕ) (n : ℕ) → IsPart P z n → IsPart (IsOptional P) z n
optional_some P z n h = record { part = h.part; rest = h.rest; split = h.split; long = h.long; is = inr h.is }

fraction_part : (z : List ℕ) → IsPart (IsOptional IsFractionalPart) z (fraction_len z)
fraction_part [] = optional_none IsFractionalPart [] 0 refl
fraction_part (b ∷ z) = chosen (b == 46) refl
  where
    counted : (t : Bool) → (b == 46) ≡ true → (digits_len z == 0) ≡ t → IsPart (IsOptional IsFractionalPart) (b ∷ z) (after_mark 1 (digits_len z))
    counted true e d = optional_none IsFractionalPart (b ∷ z) _ (rw d refl)
    counted false e d =
        let some = eqb-false (digits_len z) 0 d in
        let dot = eqb-true b 46 e in
        let h = part_after AreDigits IsFractionalPart b z (digits_len z) (λ part g. subst (λ (x : ℕ). IsFractionalPart (x ∷ part)) (sym dot) (fraction part g)) (digits_part z some) in
        optional_some IsFractionalPart (b ∷ z) _ (subst (IsPart IsFractionalPart (b ∷ z)) (sym (mark_of (digits_len z) 1 some)) h)

    chosen : (t : Bool) → (b == 46) ≡ t → IsPart (IsOptional IsFractionalPart) (b ∷ z) (fraction_len (b ∷ z))
    chosen true e = let is : fraction_len (b ∷ z) ≡ after_mark 1 (digits_len z) = rw e refl in subst (IsPart (IsOptional IsFractionalPart) (b ∷ z)) (sym is) (counted (digits_len z == 0) e refl)
    chosen false e = optional_none IsFractionalPart (b ∷ z) _ (rw e refl)

mark_e : (b : ℕ) → (b == 69 || b == 101) ≡ true → IsOneOf (codes "eE") b
mark_e b e = grind (arith, nat_tests)

mark_sign : (b : ℕ) → (b == 43 || b == 45) ≡ true → IsOneOf (codes "+-") b
mark_sign b e = grind (arith, nat_tests)

-- the digits of an exponent, with the sign before them
exponent_digits : (e : ℕ) (z : List ℕ) → IsOneOf (codes "eE") e → digits_len (drop (sign_len z) z) ≢ 0 → IsPart IsExponentPart (e ∷ z) (1 + sign_len z + digits_len (drop (sign_len z) z))
exponent_digits e [] h some = absurd (some refl)
exponent_digits e (c ∷ z) h some = chosen (c == 43 || c == 45) refl
  where
    chosen : (t : Bool) → (c == 43 || c == 45) ≡ t → IsPart IsExponentPart (e ∷ c ∷ z) (1 + sign_len (c ∷ z) + digits_len (drop (sign_len (c ∷ z)) (c ∷ z)))
    chosen true s =
        let is : sign_len (c ∷ z) ≡ 1 = rw s refl in
        let count : 1 + sign_len (c ∷ z) + digits_len (drop (sign_len (c ∷ z)) (c ∷ z)) ≡ 2 + digits_len z = ap (λ (n : ℕ). 1 + n + digits_len (drop n (c ∷ z))) is in
        let d = digits_part z (λ x. some (ap (λ (n : ℕ). digits_len (drop n (c ∷ z))) is ∙ x)) in
        subst (IsPart IsExponentPart (e ∷ c ∷ z)) (sym count) (record { part = e ∷ c ∷ d.part; rest = d.rest; split = ap (λ (w : List ℕ). e ∷ c ∷ w) d.split; long = omega (arith, d.long); is = signed_exponent e c d.part h (mark_sign c s) d.is })
    chosen false s =
        let is : sign_len (c ∷ z) ≡ 0 = rw s refl in
        let count : 1 + sign_len (c ∷ z) + digits_len (drop (sign_len (c ∷ z)) (c ∷ z)) ≡ 1 + digits_len (c ∷ z) = ap (λ (n : ℕ). 1 + n + digits_len (drop n (c ∷ z))) is in
        let d = digits_part (c ∷ z) (λ x. some (ap (λ (n : ℕ). digits_len (drop n (c ∷ z))) is ∙ x)) in
        subst (IsPart IsExponentPart (e ∷ c ∷ z)) (sym count) (record { part = e ∷ d.part; rest = d.rest; split = ap (λ (w : List ℕ). e ∷ w) d.split; long = omega (arith, d.long); is = exponent e d.part h d.is })

exponent_part : (z : List ℕ) → IsPart (IsOptional IsExponentPart) z (exponent_len z)
exponent_part [] = optional_none IsExponentPart [] 0 refl
exponent_part (b ∷ z) = chosen (b == 69 || b == 101) refl
  where
    n : ℕ
    n = digits_len (drop (sign_len z) z)

    counted : (t : Bool) → (b == 69 || b == 101) ≡ true → (digits_len (drop (sign_len z) z) == 0) ≡ t → IsPart (IsOptional IsExponentPart) (b ∷ z) (after_mark (1 + sign_len z) (digits_len (drop (sign_len z) z)))
    counted true e d = optional_none IsExponentPart (b ∷ z) _ (rw d refl)
    counted false e d =
        let some = eqb-false (digits_len (drop (sign_len z) z)) 0 d in
        optional_some IsExponentPart (b ∷ z) _ (subst (IsPart IsExponentPart (b ∷ z)) (sym (mark_of (digits_len (drop (sign_len z) z)) (1 + sign_len z) some)) (exponent_digits b z (mark_e b e) some))

    chosen : (t : Bool) → (b == 69 || b == 101) ≡ t → IsPart (IsOptional IsExponentPart) (b ∷ z) (exponent_len (b ∷ z))
    chosen true e =
        let is : exponent_len (b ∷ z) ≡ after_mark (1 + sign_len z) (digits_len (drop (sign_len z) z)) = rw e refl in
        subst (IsPart (IsOptional IsExponentPart) (b ∷ z)) (sym is) (counted (digits_len (drop (sign_len z) z) == 0) e refl)
    chosen false e = optional_none IsExponentPart (b ∷ z) _ (rw e refl)

-- ---- parts that are there

-- so far at least the length goes, and no farther where no digit follows
record Reaches (n : ℕ) (part rest : List ℕ) : Type 0 where
  least : length part ≤ n
  exact : (BeginsSo IsDigit rest → ⊥) → n ≡ length part

digits_reach : (part rest : List ℕ) → Each IsDigit part → Reaches (digits_len (part ++ rest)) part rest
digits_reach part rest h =
    let over = run_over is_digit IsDigit digit_decides part rest h in
    record { least = omega (arith, over); exact = λ (n : BeginsSo IsDigit rest → ⊥). omega (arith, over, run_stops is_digit IsDigit digit_decides rest n) }

unsigned_reach : (part rest : List ℕ) → IsUnsigned part → Reaches (unsigned_len (part ++ rest)) part rest
unsigned_reach _ rest zero_alone = record { least = omega arith; exact = λ n. refl }
unsigned_reach _ rest (digits b text h g) =
    let low : 49 ≤ b = h.0 in
    let no : (b == 48) ≡ false = ne_eqb b 48 (λ (x : b ≡ 48). absurd (omega arith)) in
    let is : unsigned_len (b ∷ (text ++ rest)) ≡ digits_len (b ∷ (text ++ rest)) = rw no refl in
    let digit : IsDigit b = (omega arith, h.1) in
    let r = digits_reach (b ∷ text) rest (digit, g) in
    record { least = omega (arith, r.least, is); exact = λ n. is ∙ r.exact n }

unsigned_some : (part : List ℕ) → IsUnsigned part → 1 ≤ length part
unsigned_some _ zero_alone = omega arith
unsigned_some _ (digits b text h g) = omega arith

no_minus : (part rest : List ℕ) → IsUnsigned part → integer_len (part ++ rest) ≡ unsigned_len (part ++ rest)
no_minus _ rest zero_alone = refl
no_minus _ rest (digits b text h g) =
    let low : 49 ≤ b = h.0 in
    let no : (b == 45) ≡ false = ne_eqb b 45 (λ (x : b ≡ 45). absurd (omega arith)) in
    rw no refl

integer_reach : (part rest : List ℕ) → IsIntegerPart part → Reaches (integer_len (part ++ rest)) part rest
integer_reach _ rest (plain text h) =
    let r = unsigned_reach text rest h in
    let is = no_minus text rest h in
    record { least = omega (arith, r.least, is); exact = λ n. is ∙ r.exact n }
integer_reach _ rest (negative text h) =
    let r = unsigned_reach text rest h in
    let some : unsigned_len (text ++ rest) ≢ 0 = λ (e : unsigned_len (text ++ rest) ≡ 0). absurd (omega (arith, r.least, unsigned_some text h)) in
    let is : integer_len (45 ∷ (text ++ rest)) ≡ 1 + unsigned_len (text ++ rest) = mark_of (unsigned_len (text ++ rest)) 1 some in
    record { least = omega (arith, r.least, is); exact = λ (n : BeginsSo IsDigit rest → ⊥). omega (arith, is, r.exact n) }

are_digits : (text : List ℕ) → AreDigits text → Each IsDigit text × (1 ≤ length text)
are_digits [] h = absurd h
are_digits (b ∷ text) h = (h, omega arith)

fraction_reach : (part rest : List ℕ) → IsFractionalPart part → Reaches (fraction_len (part ++ rest)) part rest
fraction_reach _ rest (fraction text h) =
    let d = are_digits text h in
    let r = digits_reach text rest d.0 in
    let some : digits_len (text ++ rest) ≢ 0 = λ (e : digits_len (text ++ rest) ≡ 0). absurd (omega (arith, r.least, d.1)) in
    let is : fraction_len (46 ∷ (text ++ rest)) ≡ 1 + digits_len (text ++ rest) = mark_of (digits_len (text ++ rest)) 1 some in
    record { least = omega (arith, r.least, is); exact = λ (n : BeginsSo IsDigit rest → ⊥). omega (arith, is, r.exact n) }

e_test : (b : ℕ) → IsOneOf (codes "eE") b → (b == 69 || b == 101) ≡ true
e_test b h = grind (arith, nat_tests)

sign_test : (b : ℕ) → IsOneOf (codes "+-") b → (b == 43 || b == 45) ≡ true
sign_test b h = grind (arith, nat_tests)

digit_no_sign : (b : ℕ) → IsDigit b → (b == 43 || b == 45) ≡ false
digit_no_sign b h = let low = h.0 in grind (arith, nat_tests)

unsigned_exponent : (e : ℕ) (text rest : List ℕ) → IsOneOf (codes "eE") e → AreDigits text → exponent_len (e ∷ (text ++ rest)) ≡ after_mark 1 (digits_len (text ++ rest))
unsigned_exponent e [] rest h d = absurd d
unsigned_exponent e (b ∷ text) rest h d = rw (e_test e h, digit_no_sign b d.0) refl

exponent_reach : (part rest : List ℕ) → IsExponentPart part → Reaches (exponent_len (part ++ rest)) part rest
exponent_reach _ rest (exponent e text h g) =
    let d = are_digits text g in
    let r = digits_reach text rest d.0 in
    let some : digits_len (text ++ rest) ≢ 0 = λ (x : digits_len (text ++ rest) ≡ 0). absurd (omega (arith, r.least, d.1)) in
    let is = unsigned_exponent e text rest h g ∙ mark_of (digits_len (text ++ rest)) 1 some in
    record { least = omega (arith, r.least, is); exact = λ (n : BeginsSo IsDigit rest → ⊥). omega (arith, is, r.exact n) }
exponent_reach _ rest (signed_exponent e sign text h s g) =
    let d = are_digits text g in
    let r = digits_reach text rest d.0 in
    let some : digits_len (text ++ rest) ≢ 0 = λ (x : digits_len (text ++ rest) ≡ 0). absurd (omega (arith, r.least, d.1)) in
    let marked : exponent_len (e ∷ sign ∷ (text ++ rest)) ≡ after_mark 2 (digits_len (text ++ rest)) = rw (e_test e h, sign_test sign s) refl in
    let is = marked ∙ mark_of (digits_len (text ++ rest)) 2 some in
    record { least = omega (arith, r.least, is); exact = λ (n : BeginsSo IsDigit rest → ⊥). omega (arith, is, r.exact n) }

no_fraction : (z : List ℕ) → (BeginsSo (λ b. b ≡ 46) z → ⊥) → fraction_len z ≡ 0
no_fraction [] n = refl
no_fraction (b ∷ z) n = rw (ne_eqb b 46 n) refl

no_exponent : (z : List ℕ) → (BeginsSo (IsOneOf (codes "eE")) z → ⊥) → exponent_len z ≡ 0
no_exponent [] n = refl
no_exponent (b ∷ z) n = chosen (b == 69 || b == 101) refl
  where
    chosen : (t : Bool) → (b == 69 || b == 101) ≡ t → exponent_len (b ∷ z) ≡ 0
    chosen true e = absurd (n (mark_e b e))
    chosen false e = rw e refl

-- ---- numbers that are there

abbrev pub fraction_at : List ℕ → ℕ
fraction_at z = fraction_len (drop (integer_len z) z)

abbrev pub exponent_at : List ℕ → ℕ
exponent_at z = exponent_len (drop (integer_len z + fraction_at z) z)

-- the lengths of the parts of a number, as the lexer finds them
pub record HasLengths (z : List ℕ) (i f e : ℕ) : Type 0 where
  pub integer : integer_len z ≡ i
  pub fractional : fraction_at z ≡ f
  pub exponential : exponent_at z ≡ e

digit_no_fraction : (part rest : List ℕ) → IsFractionalPart part → BeginsSo IsDigit (part ++ rest) → ⊥
digit_no_fraction _ rest (fraction text h) d = let low = d.0 in absurd (omega arith)

e_high : (e : ℕ) → IsOneOf (codes "eE") e → 69 ≤ e
e_high e h = grind arith

digit_no_exponent : (part rest : List ℕ) → IsExponentPart part → BeginsSo IsDigit (part ++ rest) → ⊥
digit_no_exponent _ rest (exponent e text h g) d = let high : e ≤ 57 = d.1 in absurd (omega (arith, e_high e h))
digit_no_exponent _ rest (signed_exponent e sign text h s g) d = let high : e ≤ 57 = d.1 in absurd (omega (arith, e_high e h))

dot_no_exponent : (part rest : List ℕ) → IsExponentPart part → BeginsSo (λ b. b ≡ 46) (part ++ rest) → ⊥
dot_no_exponent _ rest (exponent e text h g) d = absurd (omega (arith, e_high e h))
dot_no_exponent _ rest (signed_exponent e sign text h s g) d = absurd (omega (arith, e_high e h))

drop_part : (z part rest : List ℕ) (n : ℕ) → z ≡ part ++ rest → n ≡ length part → drop n z ≡ rest
drop_part z part rest n e k = ap (λ (m : ℕ). drop m z) k ∙ ap (λ (w : List ℕ). drop (length part) w) e ∙ drop-append_seam part rest

drop_two : (z one two rest : List ℕ) (m n : ℕ) → z ≡ one ++ (two ++ rest) → m ≡ length one → n ≡ length two → drop (m + n) z ≡ rest
drop_two z one two rest m n e j k =
    sym (drop-drop n m z) ∙ ap (λ (w : List ℕ). drop n w) (drop_part z one (two ++ rest) m e j) ∙ drop_part (two ++ rest) two rest n refl k

module _ (z i f e rest : List ℕ) (split : z ≡ i ++ (f ++ (e ++ rest))) (int : IsIntegerPart i) where
  integer_here : Reaches (integer_len z) i (f ++ (e ++ rest))
  integer_here = subst (λ (w : List ℕ). Reaches (integer_len w) i (f ++ (e ++ rest))) (sym split) (integer_reach i (f ++ (e ++ rest)) int)

  fraction_here : integer_len z ≡ length i → fraction_at z ≡ fraction_len (f ++ (e ++ rest))
  fraction_here k = ap fraction_len (drop_part z i (f ++ (e ++ rest)) (integer_len z) split k)

  exponent_here : integer_len z ≡ length i → fraction_at z ≡ length f → exponent_at z ≡ exponent_len (e ++ rest)
  exponent_here j k = ap exponent_len (drop_two z i f (e ++ rest) (integer_len z) (fraction_at z) split j k)

  abbrev Long : Type 0
  Long = length i + length f + length e ≤ integer_len z + fraction_at z + exponent_at z

  abbrev Exact : Type 0
  Exact = HasLengths z (length i) (length f) (length e)

  both_there : IsFractionalPart f → IsExponentPart e → Long × ((BeginsSo IsDigit rest → ⊥) → Exact)
  both_there fr ex =
      let j = integer_here.exact (digit_no_fraction f (e ++ rest) fr) in
      let fh = fraction_reach f (e ++ rest) fr in
      let k = fraction_here j ∙ fh.exact (digit_no_exponent e rest ex) in
      let eh = exponent_reach e rest ex in
      let at = exponent_here j k in
      (omega (arith, j, k, at, eh.least), λ n. record { integer = j; fractional = k; exponential = at ∙ eh.exact n })

  fraction_there : IsFractionalPart f → e ≡ [] → Long × ((BeginsSo IsDigit rest → ⊥) → (BeginsSo (IsOneOf (codes "eE")) rest → ⊥) → Exact)
  fraction_there fr none =
      let j = integer_here.exact (digit_no_fraction f (e ++ rest) fr) in
      let fh = fraction_reach f (e ++ rest) fr in
      let same : e ++ rest ≡ rest = ap (λ (w : List ℕ). w ++ rest) none in
      let at = fraction_here j in
      let long : Long = omega (arith, j, at, fh.least, ap length none) in (
        long,
        λ n m.
            let k = at ∙ fh.exact (λ d. n (subst (BeginsSo IsDigit) same d)) in
            record { integer = j; fractional = k; exponential = exponent_here j k ∙ ap exponent_len same ∙ no_exponent rest m ∙ sym (ap length none) },
      )

  exponent_there : f ≡ [] → IsExponentPart e → Long × ((BeginsSo IsDigit rest → ⊥) → Exact)
  exponent_there none ex =
      let same : f ++ (e ++ rest) ≡ e ++ rest = ap (λ (w : List ℕ). w ++ (e ++ rest)) none in
      let j = integer_here.exact (λ d. digit_no_exponent e rest ex (subst (BeginsSo IsDigit) same d)) in
      let k : fraction_at z ≡ length f = fraction_here j ∙ ap fraction_len same ∙ no_fraction (e ++ rest) (dot_no_exponent e rest ex) ∙ sym (ap length none) in
      let eh = exponent_reach e rest ex in
      let at = exponent_here j k in
      (omega (arith, j, k, at, eh.least), λ n. record { integer = j; fractional = k; exponential = at ∙ eh.exact n })

  integer_there : f ≡ [] → e ≡ [] → Long × ((BeginsSo IsDigit rest → ⊥) → (BeginsSo (λ b. b ≡ 46) rest → ⊥) → (BeginsSo (IsOneOf (codes "eE")) rest → ⊥) → Exact)
  integer_there none none' =
      let tail : e ++ rest ≡ rest = ap (λ (w : List ℕ). w ++ rest) none' in
      let same : f ++ (e ++ rest) ≡ rest = ap (λ (w : List ℕ). w ++ (e ++ rest)) none ∙ tail in
      let long : Long = omega (arith, integer_here.least, ap length none, ap length none') in (
        long,
        λ n o m.
            let j = integer_here.exact (λ d. n (subst (BeginsSo IsDigit) same d)) in
            let k : fraction_at z ≡ length f = fraction_here j ∙ ap fraction_len same ∙ no_fraction rest o ∙ sym (ap length none) in
            record { integer = j; fractional = k; exponential = exponent_here j k ∙ ap exponent_len tail ∙ no_exponent rest m ∙ sym (ap length none') },
      )

  pub number_long : IsOptional IsFractionalPart f → IsOptional IsExponentPart e → Long
  number_long (inr fr) (inr ex) = (both_there fr ex).0
  number_long (inr fr) (inl none) = (fraction_there fr none).0
  number_long (inl none) (inr ex) = (exponent_there none ex).0
  number_long (inl none) (inl none') = (integer_there none none').0

  pub number_exact : IsOptional IsFractionalPart f → IsOptional IsExponentPart e → (BeginsSo IsDigit rest → ⊥) → (BeginsSo (λ b. b ≡ 46) rest → ⊥) → (BeginsSo (IsOneOf (codes "eE")) rest → ⊥) → Exact
  number_exact (inr fr) (inr ex) n o m = (both_there fr ex).1 n
  number_exact (inr fr) (inl none) n o m = (fraction_there fr none).1 n m
  number_exact (inl none) (inr ex) n o m = (exponent_there none ex).1 n
  number_exact (inl none) (inl none') n o m = (integer_there none none').1 n o m

-- ---- the number at the front

follower_decides : (rest : List ℕ) → ((ends_number rest ≡ true) × (BeginsSo IsNumberFollower rest → ⊥)) ⊎ ((ends_number rest ≡ false) × BeginsSo IsNumberFollower rest)
follower_decides [] = inl (refl, λ h. h)
follower_decides (b ∷ rest) = chosen (b == 46) refl (is_name_byte b) refl
  where
    follower : IsNameContinue b → IsNumberFollower b
    follower (inl h) = inr (inr h)
    follower (inr h) = inl h

    no_follower : b ≢ 46 → (IsNameContinue b → ⊥) → IsNumberFollower b → ⊥
    no_follower n m (inl h) = m (inr h)
    no_follower n m (inr (inl h)) = n h
    no_follower n m (inr (inr h)) = m (inl h)

    chosen : (s : Bool) → (b == 46) ≡ s → (t : Bool) → is_name_byte b ≡ t → ((ends_number (b ∷ rest) ≡ true) × (IsNumberFollower b → ⊥)) ⊎ ((ends_number (b ∷ rest) ≡ false) × IsNumberFollower b)
    chosen true e t f = inr (rw e refl, inr (inl (eqb-true b 46 e)))
    chosen false e true f = inr (rw (e, f) refl, follower ((name_byte_decides b).0 f))
    chosen false e false f = inl (rw (e, f) refl, no_follower (eqb-false b 46 e) (λ h. false≢true (sym f ∙ (name_byte_decides b).1 h)))

no_follower_parts : (rest : List ℕ) → (BeginsSo IsNumberFollower rest → ⊥) → (BeginsSo IsDigit rest → ⊥) × ((BeginsSo (λ b. b ≡ 46) rest → ⊥) × (BeginsSo (IsOneOf (codes "eE")) rest → ⊥))
no_follower_parts [] n = (λ h. h, (λ h. h, λ h. h))
no_follower_parts (b ∷ rest) n = (λ d. n (inl d), (λ d. n (inr (inl d)), λ d. n (inr (inr (letter d)))))
  where
    letter : IsOneOf (codes "eE") b → ((65 ≤ b) × (b ≤ 90) ⊎ (97 ≤ b) × (b ≤ 122)) ⊎ (b ≡ 95)
    letter (inl e) = inl (inr (omega arith, omega arith))
    letter (inr (inl e)) = inl (inl (omega arith, omega arith))
    letter (inr (inr x)) = absurd x

-- the whole of a number's length
abbrev pub number_len : List ℕ → ℕ
number_len z = integer_len z + fraction_at z + exponent_at z

-- what the lexer answers where a number may stand
data NumberIs (z : List ℕ) : Front → Type 0 where
  no_integer : integer_len z ≡ 0 → NumberIs z Invalid
  followed : integer_len z ≢ 0 → BeginsSo IsNumberFollower (drop (number_len z) z) → NumberIs z Invalid
  is_int : integer_len z ≢ 0 → number_len z ≡ integer_len z → (BeginsSo IsNumberFollower (drop (number_len z) z) → ⊥) → NumberIs z (Token k.Int (number_len z))
  is_float : integer_len z ≢ 0 → number_len z ≢ integer_len z → (BeginsSo IsNumberFollower (drop (number_len z) z) → ⊥) → NumberIs z (Token k.Float (number_len z))

number_cases : (z : List ℕ) → NumberIs z (number_at z)
unfolding number_at
number_cases z = first (integer_len z == 0) refl
  where
    last : (t : Bool) → (number_len z == integer_len z) ≡ t → integer_len z ≢ 0 → (BeginsSo IsNumberFollower (drop (number_len z) z) → ⊥) → NumberIs z (if t then Token k.Int (number_len z) else Token k.Float (number_len z))
    last true e some n = is_int some (eqb-true (number_len z) (integer_len z) e) n
    last false e some n = is_float some (eqb-false (number_len z) (integer_len z) e) n

    second : integer_len z ≢ 0 → ((ends_number (drop (number_len z) z) ≡ true) × (BeginsSo IsNumberFollower (drop (number_len z) z) → ⊥)) ⊎ ((ends_number (drop (number_len z) z) ≡ false) × BeginsSo IsNumberFollower (drop (number_len z) z))
        → NumberIs z (if not (ends_number (drop (number_len z) z)) then Invalid else (if number_len z == integer_len z then Token k.Int (number_len z) else Token k.Float (number_len z)))
    second some (inl h) = rw h.0 (last (number_len z == integer_len z) refl some h.1)
    second some (inr h) = rw h.0 (followed some h.1)

    first : (t : Bool) → (integer_len z == 0) ≡ t
        → NumberIs z (if t then Invalid else (if not (ends_number (drop (number_len z) z)) then Invalid else (if number_len z == integer_len z then Token k.Int (number_len z) else Token k.Float (number_len z))))
    first true e = no_integer (eqb-true (integer_len z) 0 e)
    first false e = second (eqb-false (integer_len z) 0 e) (follower_decides (drop (number_len z) z))

-- ---- the number by the grammar

-- the parts of the number at the front
record HasParts (z : List ℕ) : Type 0 where
  number : List ℕ
  rest : List ℕ
  split : z ≡ number ++ rest
  long : length number ≡ number_len z
  is : IsNumber number
  integer : length is.integer ≡ integer_len z
  tail : length (is.fractional ++ is.exponential) ≡ fraction_at z + exponent_at z

parts_of : (z : List ℕ) → integer_len z ≢ 0 → HasParts z
parts_of z some =
    let i = integer_part z some in
    let after_i : drop (integer_len z) z ≡ i.rest = drop_part z i.part i.rest (integer_len z) i.split (sym i.long) in
    let fr = fraction_part (drop (integer_len z) z) in
    let split_f : i.rest ≡ fr.part ++ fr.rest = sym after_i ∙ fr.split in
    let whole : z ≡ i.part ++ (fr.part ++ fr.rest) = i.split ∙ ap (λ (w : List ℕ). i.part ++ w) split_f in
    let after_f : drop (integer_len z + fraction_at z) z ≡ fr.rest = drop_two z i.part fr.part fr.rest (integer_len z) (fraction_at z) whole (sym i.long) (sym fr.long) in
    let ex = exponent_part (drop (integer_len z + fraction_at z) z) in
    let split_e : fr.rest ≡ ex.part ++ ex.rest = sym after_f ∙ ex.split in
    let number = i.part ++ (fr.part ++ ex.part) in
    let regroup : i.part ++ (fr.part ++ (ex.part ++ ex.rest)) ≡ number ++ ex.rest =
    ap (λ (w : List ℕ). i.part ++ w) (sym (append_assoc fr.part ex.part ex.rest)) ∙ sym (append_assoc i.part (fr.part ++ ex.part) ex.rest) in
    record {
      number = number;
      rest = ex.rest;
      split = whole ∙ ap (λ (w : List ℕ). i.part ++ (fr.part ++ w)) split_e ∙ regroup;
      long = omega (arith, length-append i.part (fr.part ++ ex.part), length-append fr.part ex.part, i.long, fr.long, ex.long);
      is = record { integer = i.part; fractional = fr.part; exponential = ex.part; is_integer = i.is; is_fractional = fr.is; is_exponential = ex.is; parts = refl };
      integer = i.long;
      tail = omega (arith, length-append fr.part ex.part, fr.long, ex.long);
    }

-- a number of this length and kind at the front
pub record IsNumberToken (z : List ℕ) (kind : TokenKind) (n : ℕ) : Type 0 where
  pub text : List ℕ
  pub rest : List ℕ
  pub split : z ≡ text ++ rest
  pub long : length text ≡ n
  pub spelled : Spells kind text text
  pub word : IsWordOf kind text
  pub follows : MayFollow kind rest
  pub number : n ≡ number_len z

rest_is_after : (z : List ℕ) (h : HasParts z) → drop (number_len z) z ≡ h.rest
rest_is_after z h = drop_part z h.number h.rest (number_len z) h.split (sym h.long)

nil_of : (xs : List ℕ) → length xs ≡ 0 → xs ≡ []
nil_of [] e = refl
nil_of (x ∷ xs) e = absurd (let k : suc (length xs) ≡ 0 = e in omega arith)

int_token : (z : List ℕ) → integer_len z ≢ 0 → number_len z ≡ integer_len z → (BeginsSo IsNumberFollower (drop (number_len z) z) → ⊥) → IsNumberToken z k.Int (number_len z)
int_token z some same n =
    let h = parts_of z some in
    let none = nil_of (h.is.fractional ++ h.is.exponential) (omega (arith, h.tail)) in
    let only : h.number ≡ h.is.integer = h.is.parts ∙ ap (λ (w : List ℕ). h.is.integer ++ w) none ∙ append-nil h.is.integer in
    record {
      text = h.number;
      rest = h.rest;
      split = h.split;
      long = h.long;
      spelled = (subst IsIntegerPart (sym only) h.is.is_integer, refl);
      word = tt;
      follows = λ b. n (subst (BeginsSo IsNumberFollower) (sym (rest_is_after z h)) b);
      number = refl;
    }

float_token : (z : List ℕ) → integer_len z ≢ 0 → number_len z ≢ integer_len z → (BeginsSo IsNumberFollower (drop (number_len z) z) → ⊥) → IsNumberToken z k.Float (number_len z)
float_token z some differs n =
    let h = parts_of z some in
    let more : h.is.fractional ++ h.is.exponential ≢ [] = λ (e : h.is.fractional ++ h.is.exponential ≡ []). differs (omega (arith, h.tail, ap length e)) in
    record {
      text = h.number;
      rest = h.rest;
      split = h.split;
      long = h.long;
      spelled = ((h.is, more), refl);
      word = tt;
      follows = λ b. n (subst (BeginsSo IsNumberFollower) (sym (rest_is_after z h)) b);
      number = refl;
    }

found_token : (z : List ℕ) (x : Front) (kind : TokenKind) (n : ℕ) → NumberIs z x → x ≡ Token kind n → IsNumberToken z kind n
found_token z _ kind n (no_integer e) h = absurd (let q : Invalid ≡ Token kind n = h in cc q)
found_token z _ kind n (followed e g) h = absurd (let q : Invalid ≡ Token kind n = h in cc q)
found_token z _ kind n (is_int some same g) h =
    let a : k.Int ≡ kind = cc h in
    let b : number_len z ≡ n = cc h in
    subst (λ (y : TokenKind). IsNumberToken z y n) a (subst (IsNumberToken z k.Int) b (int_token z some same g))
found_token z _ kind n (is_float some same g) h =
    let a : k.Float ≡ kind = cc h in
    let b : number_len z ≡ n = cc h in
    subst (λ (y : TokenKind). IsNumberToken z y n) a (subst (IsNumberToken z k.Float) b (float_token z some same g))

pub number_found : (z : List ℕ) (kind : TokenKind) (n : ℕ) → number_at z ≡ Token kind n → IsNumberToken z kind n
number_found z kind n h = found_token z (number_at z) kind n (number_cases z) h

-- no longer number stands there
pub number_longest : (text rest : List ℕ) → IsNumber text → length text ≤ number_len (text ++ rest)
number_longest text rest h =
    let z = text ++ rest in
    let split : z ≡ h.integer ++ (h.fractional ++ (h.exponential ++ rest)) =
    ap (λ (w : List ℕ). w ++ rest) h.parts ∙ append_assoc h.integer (h.fractional ++ h.exponential) rest ∙ ap (λ (w : List ℕ). h.integer ++ w) (append_assoc h.fractional h.exponential rest) in
    let long = number_long z h.integer h.fractional h.exponential rest split h.is_integer h.is_fractional h.is_exponential in
    omega (arith, long, ap length h.parts, length-append h.integer (h.fractional ++ h.exponential), length-append h.fractional h.exponential)

integer_some : (text : List ℕ) → IsIntegerPart text → 1 ≤ length text
integer_some _ (plain text h) = unsigned_some text h
integer_some _ (negative text h) = omega arith

-- where the lexer finds none, what could be one is followed by what may not follow it
pub number_none : (z front after : List ℕ) → number_at z ≡ Invalid → z ≡ front ++ after → IsNumber front → BeginsSo IsNumberFollower after
number_none z front after h e number = elim (follower_decides after) [ inr g ↦ g.1 | inl g ↦ absurd (refused (number_at z) (number_cases z) h g.1) ]
  where
    split : z ≡ number.integer ++ (number.fractional ++ (number.exponential ++ after))
    split = e ∙ ap (λ (w : List ℕ). w ++ after) number.parts ∙ append_assoc number.integer (number.fractional ++ number.exponential) after ∙ ap (λ (w : List ℕ). number.integer ++ w) (append_assoc number.fractional number.exponential after)

    refused : (x : Front) → NumberIs z x → x ≡ Invalid → (BeginsSo IsNumberFollower after → ⊥) → ⊥
    refused _ (is_int some same g) q n = let r : Token k.Int (number_len z) ≡ Invalid = q in cc r
    refused _ (is_float some same g) q n = let r : Token k.Float (number_len z) ≡ Invalid = q in cc r
    refused _ (no_integer none) q n =
        let parts = no_follower_parts after n in
        let x = number_exact z number.integer number.fractional number.exponential after split number.is_integer number.is_fractional number.is_exponential parts.0 parts.1.0 parts.1.1 in
        omega (arith, x.integer, none, integer_some number.integer number.is_integer)
    refused _ (followed some g) q n =
        let parts = no_follower_parts after n in
        let x = number_exact z number.integer number.fractional number.exponential after split number.is_integer number.is_fractional number.is_exponential parts.0 parts.1.0 parts.1.1 in
        let len : number_len z ≡ length front = omega (arith, x.integer, x.fractional, x.exponential, ap length number.parts, length-append number.integer (number.fractional ++ number.exponential), length-append number.fractional number.exponential) in
        n (subst (BeginsSo IsNumberFollower) (drop_part z front after (number_len z) e len) g)

pub number_not_ignored : (z : List ℕ) (n : ℕ) → number_at z ≡ Ignored n → ⊥
number_not_ignored z n e = chosen (number_at z) (number_cases z) e
  where
    chosen : (x : Front) → NumberIs z x → x ≡ Ignored n → ⊥
    chosen _ (no_integer h) q = let r : Invalid ≡ Ignored n = q in cc r
    chosen _ (followed h g) q = let r : Invalid ≡ Ignored n = q in cc r
    chosen _ (is_int h g o) q = let r : Token k.Int (number_len z) ≡ Ignored n = q in cc r
    chosen _ (is_float h g o) q = let r : Token k.Float (number_len z) ≡ Ignored n = q in cc r

pub number_not_open : (z : List ℕ) → number_at z ≡ Unterminated → ⊥
number_not_open z e = chosen (number_at z) (number_cases z) e
  where
    chosen : (x : Front) → NumberIs z x → x ≡ Unterminated → ⊥
    chosen _ (no_integer h) q = let r : Invalid ≡ Unterminated = q in cc r
    chosen _ (followed h g) q = let r : Invalid ≡ Unterminated = q in cc r
    chosen _ (is_int h g o) q = let r : Token k.Int (number_len z) ≡ Unterminated = q in cc r
    chosen _ (is_float h g o) q = let r : Token k.Float (number_len z) ≡ Unterminated = q in cc r
