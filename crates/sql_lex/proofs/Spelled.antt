-- The token at a front: its text is spelled as its kind is, no longer one stands there, and where there is none the
-- grammar has none.
use Rattle.std.proofs.Common.{◌≡◌, ◌≢◌, inl, inr, ⊎_elim, ℕ, suc, ◌+◌, ◌-◌, ◌≤◌, Bool, true, false, ◌&&◌, ◌==◌, List, [], ◌∷◌, ◌++◌, length, length-append, length-drop, map, take_while, Decides, refl, sym, ap, subst, ◌∙◌, append_assoc, append-nil, arith, eq-eqb, Result, Ok, Err}
use Rattle.std.proofs.lemmas.List.{nil_from_length}
use borrow.Author.Tests.{eqb-true, eqb-false, ne_eqb}
use Rattle.std.specs.List.{prefix_len}
use Rattle.std.specs.Char.{to_ascii_lowercase}
use Rattle.std.proofs.lemmas.Bool.{and_parts, false≢true}
use Rattle.std.proofs.lemmas.Bool.Decides.{nat_tests}
use Rattle.pg_base.specs.Lists.{Each}
use Rattle.sql_lex.specs.declared.token.TokenKind.{TokenKind}
use Rattle.sql_lex.specs.declared.token.TokenKind.TheVariants.{Word, Quoted, Str, EscStr, Number, Sign, End}
use Rattle.sql_lex.specs.Bytes.{is_word_start, is_word_byte, is_digit, is_sign, is_escape_mark, after_run, before}
use Rattle.sql_lex.specs.Faults.{unterminated_text}
use Rattle.sql_lex.specs.Separators.{Stop, unterminated, stray}
use Rattle.sql_lex.specs.Quoted.{after_quoted}
use Rattle.sql_lex.specs.Lex.{Found, found, string_at, name_at, number_at, word_at, token_at}
use Rattle.sql_lex.specs.Grammar.{IsDigit, BeginsWord, GoesOnWord, BeginsToken, BeginsSo, BeginsSeparator, IsEscapeMark, IsQuoted, IsOpenText, is_open_name, is_open_string, is_open_escapes, IsNumber, IsWord, Spells, MayFollow, open_text, no_token, empty_name, word_after_number, zero_in_text, no_escape}
use Rattle.sql_lex.proofs.Classes.{digit_decides, word_start_decides, word_byte_decides, sign_decides, escape_mark_decides}
use Rattle.sql_lex.proofs.Shapes.{IsAfterAscii, token_shape, cond_is, err_ok, ok_same}
use Rattle.sql_lex.proofs.Separating.{IsStop, stop_at, ok_err}
use Rattle.sql_lex.proofs.Quoting.{quoted_closed, IsCut, cut_at_end, cut_at_zero, cut_at_escape, quoted_cut, quoted_longest}

-- ---- runs

-- a run of bytes that pass, and what is after it
record IsRun (p : ℕ → Bool) (P : ℕ → Type 0) (z : List ℕ) : Type 0 where
  run : List ℕ
  split : z ≡ run ++ after_run p z
  passes : Each P run

module _ (p : ℕ → Bool) (P : ℕ → Type 0) (decides : (b : ℕ) → Decides (p b) (P b)) where
  run_passes : (b : ℕ) (z : List ℕ) → p b ≡ true → after_run p (b ∷ z) ≡ after_run p z
  run_passes b z e = let one : 1 + prefix_len p z ≡ suc (prefix_len p z) = omega arith in rw (e, one) refl

  run_is : (z : List ℕ) → IsRun p P z
  run_is [] = record { run = []; split = refl; passes = tt }
  run_is (b ∷ z) = chosen (p b) refl (run_is z)
    where
      chosen : (t : Bool) → p b ≡ t → IsRun p P z → IsRun p P (b ∷ z)
      chosen true e r =
          record { run = b ∷ r.run; split = ap (λ (w : List ℕ). b ∷ w) r.split ∙ ap (λ (w : List ℕ). b ∷ (r.run ++ w)) (sym (run_passes b z e)); passes = ((decides b).0 e, r.passes) }
      chosen false e r = let same : after_run p (b ∷ z) ≡ b ∷ z = rw e refl in record { run = []; split = sym same; passes = tt }

  run_short : (z : List ℕ) → length (after_run p z) ≤ length z
  run_short z = omega (arith, length-drop (length (take_while p z)) z)

  run_longest : (run rest : List ℕ) → Each P run → length (after_run p (run ++ rest)) ≤ length rest
  run_longest [] rest h = run_short rest
  run_longest (b ∷ run) rest h = rw (run_passes b (run ++ rest) ((decides b).1 h.0)) (run_longest run rest h.1)

-- ---- tokens that are found

pub record IsToken (w : List ℕ) (f : Found) : Type 0 where
  pub text : List ℕ
  pub value : List ℕ
  pub split : w ≡ text ++ f.after
  pub spelled : Spells f.kind text value
  pub follows : MayFollow f.kind f.after

token_is : (kind : TokenKind) (w text value rest : List ℕ) (f : Found) → w ≡ text ++ rest → Spells kind text value → MayFollow kind rest → found kind w rest ≡ Ok f → IsToken w f
token_is kind w text value rest f split spelled follows e = subst (IsToken w) (ok_same _ _ e) (record { text = text; value = value; split = split; spelled = spelled; follows = follows })

-- a quote, and what is after it
closed : (p rest : List ℕ) (q : ℕ) → p ++ q ∷ rest ≡ (p ++ q ∷ []) ++ rest
closed p rest q = sym (append_assoc p (q ∷ []) rest)

string_is : (b : ℕ) (z : List ℕ) (f : Found) (whole : List ℕ) → b ≡ 39 → (r : Result (List ℕ) Stop) → after_quoted whole false 39 z ≡ r → string_at Str (b ∷ z) r ≡ Ok f → IsToken (b ∷ z) f
string_is b z f whole quote (Ok rest) e s =
    let c = quoted_closed false 39 whole z rest e in
    token_is Str (b ∷ z) (39 ∷ (c.inner ++ 39 ∷ [])) c.value rest f (ap (λ (x : ℕ). x ∷ z) quote ∙ ap (λ (w : List ℕ). 39 ∷ w) (c.split ∙ closed c.inner rest 39)) (c.inner, (c.quoted, refl)) (λ (h : Str ≡ Number). cc) s
string_is b z f whole quote (Err stop) e s = absurd (err_ok _ _ s)

name_is : (b : ℕ) (z : List ℕ) (f : Found) (whole : List ℕ) → b ≡ 34 → (r : Result (List ℕ) Stop) → after_quoted whole false 34 z ≡ r → name_at b z r ≡ Ok f → IsToken (b ∷ z) f
name_is b z f whole quote (Ok rest) e s =
    let c = quoted_closed false 34 whole z rest e in
    elim (cond_is (before (b ∷ z) rest == 2) _ _ _ s) [
      | inl stop ↦ absurd (err_ok _ _ stop.1)
      | inr some ↦
          let inner : c.inner ≢ [] = λ (none : c.inner ≡ []).
          let len : length z ≡ suc (length rest) = ap length (c.split ∙ ap (λ (w : List ℕ). w ++ 34 ∷ rest) none) in
          let two : before (b ∷ z) rest ≡ 2 = omega arith in
          false≢true (sym some.0 ∙ eq-eqb (before (b ∷ z) rest) 2 two) in
          token_is Quoted (b ∷ z) (34 ∷ (c.inner ++ 34 ∷ [])) c.value rest f
          (ap (λ (x : ℕ). x ∷ z) quote ∙ ap (λ (w : List ℕ). 34 ∷ w) (c.split ∙ closed c.inner rest 34)) (c.inner, (inner, (c.quoted, refl))) (λ (h : Quoted ≡ Number). cc) some.1
    ]
name_is b z f whole quote (Err stop) e s = absurd (err_ok _ _ s)

no_word : (b : ℕ) → is_word_start b ≡ false → BeginsWord b → ⊥
no_word b e h = false≢true (sym e ∙ (word_start_decides b).1 h)

number_is : (w : List ℕ) (f : Found) (text rest : List ℕ) → w ≡ text ++ rest → IsNumber text → number_at w rest ≡ Ok f → IsToken w f
number_is w f text [] split number e = token_is Number w text text [] f split (number, refl) (λ (h : Number ≡ Number) (x : ⊥). x) e
number_is w f text (b ∷ rest) split number e = elim (cond_is (is_word_start b) _ _ _ e) [
  | inl stop ↦ absurd (err_ok _ _ stop.1)
  | inr over ↦ token_is Number w text text (b ∷ rest) f split (number, refl) (λ (h : Number ≡ Number) (x : BeginsWord b). no_word b over.0 x) over.1
]

escaped_is : (b c : ℕ) (z : List ℕ) (f : Found) (whole : List ℕ) → is_escape_mark b ≡ true → c ≡ 39 → (r : Result (List ℕ) Stop) → after_quoted whole true 39 z ≡ r → string_at EscStr (b ∷ c ∷ z) r ≡ Ok f → IsToken (b ∷ c ∷ z) f
escaped_is b c z f whole mark quote (Ok rest) e s =
    let k = quoted_closed true 39 whole z rest e in
    token_is EscStr (b ∷ c ∷ z) (b ∷ 39 ∷ (k.inner ++ 39 ∷ [])) k.value rest f
    (ap (λ (x : ℕ). b ∷ x ∷ z) quote ∙ ap (λ (w : List ℕ). b ∷ 39 ∷ w) (k.split ∙ closed k.inner rest 39)) (b, (k.inner, ((escape_mark_decides b).0 mark, (k.quoted, refl)))) (λ (h : EscStr ≡ Number). cc) s
escaped_is b c z f whole mark quote (Err stop) e s = absurd (err_ok _ _ s)

word_is : (b : ℕ) (z : List ℕ) (f : Found) → is_word_start b ≡ true → word_at b z ≡ Ok f → IsToken (b ∷ z) f
word_is b [] f start e = token_is Word (b ∷ []) (b ∷ []) (map to_ascii_lowercase (b ∷ [])) [] f refl (((word_start_decides b).0 start, tt), refl) (λ (h : Word ≡ Number). cc) e
word_is b (c ∷ z) f start e = elim (cond_is (is_escape_mark b && (c == 39)) _ _ _ e) [
  | inl string ↦
      let both = and_parts (is_escape_mark b) (c == 39) string.0 in
      escaped_is b c z f (b ∷ c ∷ z) both.0 (eqb-true c 39 both.1) _ refl string.1
  | inr word ↦
      let r = run_is is_word_byte GoesOnWord word_byte_decides (c ∷ z) in
      token_is Word (b ∷ c ∷ z) (b ∷ r.run) (map to_ascii_lowercase (b ∷ r.run)) (after_run is_word_byte (c ∷ z)) f (ap (λ (w : List ℕ). b ∷ w) r.split) (((word_start_decides b).0 start, r.passes), refl) (λ (h : Word ≡ Number). cc) word.1
]

pub token_found : (w : List ℕ) (f : Found) → token_at w ≡ Ok f → IsToken w f
unfolding token_at
token_found [] f e = token_is End [] [] [] [] f refl (refl, refl) (λ (h : End ≡ Number). cc) e
token_found (b ∷ z) f e = elim (cond_is (is_word_start b) _ _ _ e) [
  | inl word ↦ word_is b z f word.0 word.1
  | inr other ↦ elim (cond_is (b == 34) _ _ _ other.1) [
    | inl name ↦ name_is b z f (b ∷ z) (eqb-true b 34 name.0) _ refl name.1
    | inr other ↦ elim (cond_is (b == 39) _ _ _ other.1) [
      | inl string ↦ string_is b z f (b ∷ z) (eqb-true b 39 string.0) _ refl string.1
      | inr other ↦ elim (cond_is (is_digit b) _ _ _ other.1) [
        | inl digit ↦
            let r = run_is is_digit IsDigit digit_decides z in
            number_is (b ∷ z) f (b ∷ r.run) (after_run is_digit z) (ap (λ (w : List ℕ). b ∷ w) r.split) ((digit_decides b).0 digit.0, r.passes) digit.1
        | inr other ↦ elim (cond_is (is_sign b) _ _ _ other.1) [
          | inl sign ↦ token_is (Sign b) (b ∷ z) (b ∷ []) (b ∷ []) z f refl ((sign_decides b).0 sign.0, (refl, refl)) (λ (h : Sign b ≡ Number). cc) sign.1
          | inr stop ↦ absurd (err_ok _ _ stop.1)
        ]
      ]
    ]
  ]
]

-- ---- texts that have none

append_none : (xs : List ℕ) → xs ++ [] ≡ xs
append_none xs = append-nil xs

nil_of : (xs : List ℕ) → length xs ≡ 0 → xs ≡ []
nil_of xs e = nil_from_length xs e

pub err_found : (s t : Stop) → (let r : Result Found Stop = Err s in r) ≡ Err t → s ≡ t
err_found s t e = cc

-- a text that ends with its second quote has no third there
no_third : (whole rest : List ℕ) → after_quoted whole false 34 (34 ∷ rest) ≡ Ok rest → BeginsSo (λ b. b ≡ 34) rest → ⊥
unfolding after_quoted
no_third whole [] e h = h
no_third whole (c ∷ rest) e h = elim (cond_is (c == 34) _ _ _ e) [
  | inl again ↦ let r = quoted_closed false 34 whole rest (c ∷ rest) again.1 in absurd (omega (arith, ap length r.split, length-append r.inner (34 ∷ c ∷ rest)))
  | inr over ↦ eqb-false c 34 over.0 h
]

-- a text without escapes, after its opening quote
plain_stop : (q : ℕ) (inner next whole : List ℕ) (s : Stop) → q ∷ (inner ++ next) ≡ whole → IsOpenText (q ∷ inner) → IsCut whole s false next → IsStop s (q ∷ (inner ++ next))
plain_stop q inner _ whole s e h (cut_at_end f) =
    let P : List ℕ → Type 0 = λ w. IsStop s (q ∷ w) in
    let same = append_none inner in
    subst P (sym same) (stop_at s (unterminated unterminated_text (q ∷ inner)) _ (ap (unterminated unterminated_text) (ap (λ (w : List ℕ). q ∷ w) (sym same) ∙ e) ∙ f) (open_text (q ∷ inner) h) (omega arith))
plain_stop q inner _ whole s e h (cut_at_zero v f) = stop_at s (stray 0 v) _ f (zero_in_text (q ∷ inner) v h) (omega arith)
plain_stop q inner _ whole s e h (cut_at_escape v t m f) = absurd (false≢true t)

-- a text with escapes, after its letter and opening quote
escaped_stop : (mark : ℕ) (inner value next whole : List ℕ) (s : Stop) → mark ∷ 39 ∷ (inner ++ next) ≡ whole → IsEscapeMark mark → IsQuoted true 39 inner value → IsCut whole s true next → IsStop s (mark ∷ 39 ∷ (inner ++ next))
escaped_stop mark inner value _ whole s e m h (cut_at_end f) =
    let P : List ℕ → Type 0 = λ w. IsStop s (mark ∷ 39 ∷ w) in
    let same = append_none inner in
    subst P (sym same) (stop_at s (unterminated unterminated_text (mark ∷ 39 ∷ inner)) _ (ap (unterminated unterminated_text) (ap (λ (w : List ℕ). mark ∷ 39 ∷ w) (sym same) ∙ e) ∙ f) (open_text _ (is_open_escapes mark inner value m h)) (omega arith))
escaped_stop mark inner value _ whole s e m h (cut_at_zero v f) = stop_at s (stray 0 v) _ f (zero_in_text (mark ∷ 39 ∷ inner) v (is_open_escapes mark inner value m h)) (omega arith)
escaped_stop mark inner value _ whole s e m h (cut_at_escape v t n f) = stop_at s (stray 92 v) _ f (no_escape mark inner value v m h n) (omega arith)

string_stop : (kind : TokenKind) (w : List ℕ) (s : Stop) (r : Result (List ℕ) Stop) → string_at kind w r ≡ Err s → r ≡ Err s
string_stop kind w s (Ok rest) e = absurd (ok_err _ _ e)
string_stop kind w s (Err t) e = ap Err (err_found t s e)

text_stopped : (kind : TokenKind) (q b : ℕ) (z : List ℕ) (s : Stop) (open_is : (text value : List ℕ) → IsQuoted false q text value → IsOpenText (q ∷ text)) → b ≡ q → after_quoted (b ∷ z) false q z ≡ Err s → IsStop s (b ∷ z)
text_stopped kind q b z s open_is k e =
    let c = quoted_cut (b ∷ z) s false q z e in
    let same : q ∷ (c.inner ++ c.next) ≡ b ∷ z = ap (λ (w : List ℕ). q ∷ w) (sym c.split) ∙ ap (λ (x : ℕ). x ∷ z) (sym k) in
    subst (IsStop s) same (plain_stop q c.inner c.next (b ∷ z) s same (open_is c.inner c.value c.quoted) c.cut)

escapes_stopped : (b d : ℕ) (z : List ℕ) (s : Stop) → IsEscapeMark b → d ≡ 39 → after_quoted (b ∷ d ∷ z) true 39 z ≡ Err s → IsStop s (b ∷ d ∷ z)
escapes_stopped b d z s m k e =
    let c = quoted_cut (b ∷ d ∷ z) s true 39 z e in
    let same : b ∷ 39 ∷ (c.inner ++ c.next) ≡ b ∷ d ∷ z = ap (λ (w : List ℕ). b ∷ 39 ∷ w) (sym c.split) ∙ ap (λ (x : ℕ). b ∷ x ∷ z) (sym k) in
    subst (IsStop s) same (escaped_stop b c.inner c.value c.next (b ∷ d ∷ z) s same m c.quoted c.cut)

-- an empty name is two quotes, after which no third stands
empty_stopped : (b : ℕ) (z rest : List ℕ) (s : Stop) → b ≡ 34 → after_quoted (b ∷ z) false 34 z ≡ Ok rest → before (b ∷ z) rest ≡ 2 → stray b z ≡ s → IsStop s (b ∷ z)
empty_stopped b z rest s k e two f =
    let c = quoted_closed false 34 (b ∷ z) z rest e in
    let len : length z ≡ length c.inner + suc (length rest) = ap length c.split ∙ length-append c.inner (34 ∷ rest) in
    let none : length c.inner ≡ 0 = omega arith in
    let same : z ≡ 34 ∷ rest = c.split ∙ ap (λ (w : List ℕ). w ++ 34 ∷ rest) (nil_of c.inner none) in
    let both : 34 ∷ 34 ∷ rest ≡ b ∷ z = ap (λ (x : ℕ). x ∷ 34 ∷ rest) (sym k) ∙ ap (λ (w : List ℕ). b ∷ w) (sym same) in
    subst (IsStop s) both (stop_at s (stray 34 (34 ∷ rest)) _ (ap (λ (x : ℕ). stray x (34 ∷ rest)) (sym k) ∙ ap (stray b) (sym same) ∙ f)
    (empty_name rest (no_third (b ∷ z) rest (ap (λ (w : List ℕ). after_quoted (b ∷ z) false 34 w) (sym same) ∙ e))) (omega arith))

none_here : (b : ℕ) (z : List ℕ) → is_word_start b ≡ false → (b == 34) ≡ false → (b == 39) ≡ false → is_digit b ≡ false → is_sign b ≡ false → BeginsToken b → ⊥
none_here b z e f g h i (inl (inl w)) = no_word b e w
none_here b z e f g h i (inl (inr d)) = false≢true (sym h ∙ (digit_decides b).1 d)
none_here b z e f g h i (inr (inl (inl q))) = eqb-false b 34 f q
none_here b z e f g h i (inr (inl (inr (inl q)))) = eqb-false b 39 g q
none_here b z e f g h i (inr (inl (inr (inr x)))) = x
none_here b z e f g h i (inr (inr s)) = false≢true (sym i ∙ (sign_decides b).1 s)

number_stopped : (w text rest : List ℕ) (s : Stop) → w ≡ text ++ rest → IsNumber text → number_at w rest ≡ Err s → IsStop s w
number_stopped w text [] s split number e = absurd (ok_err _ _ e)
number_stopped w text (b ∷ rest) s split number e = elim (cond_is (is_word_start b) _ _ _ e) [
  | inl h ↦ subst (IsStop s) (sym split) (stop_at s (stray b rest) _ (err_found _ _ h.1) (word_after_number text b rest number ((word_start_decides b).0 h.0)) (omega arith))
  | inr h ↦ absurd (ok_err _ _ h.1)
]

name_stopped : (b : ℕ) (z : List ℕ) (s : Stop) (r : Result (List ℕ) Stop) → b ≡ 34 → after_quoted (b ∷ z) false 34 z ≡ r → name_at b z r ≡ Err s → IsStop s (b ∷ z)
name_stopped b z s (Ok rest) k e h = elim (cond_is (before (b ∷ z) rest == 2) _ _ _ h) [
  | inl stop ↦ empty_stopped b z rest s k e (eqb-true (before (b ∷ z) rest) 2 stop.0) (err_found _ _ stop.1)
  | inr some ↦ absurd (ok_err _ _ some.1)
]
name_stopped b z s (Err t) k e h = text_stopped Quoted 34 b z s is_open_name k (e ∙ ap Err (err_found t s h))

word_stopped : (b : ℕ) (z : List ℕ) (s : Stop) → word_at b z ≡ Err s → IsStop s (b ∷ z)
word_stopped b [] s e = absurd (ok_err _ _ e)
word_stopped b (c ∷ z) s e = elim (cond_is (is_escape_mark b && (c == 39)) _ _ _ e) [
  | inl h ↦
      let both = and_parts (is_escape_mark b) (c == 39) h.0 in
      escapes_stopped b c z s ((escape_mark_decides b).0 both.0) (eqb-true c 39 both.1) (string_stop EscStr (b ∷ c ∷ z) s _ h.1)
  | inr h ↦ absurd (ok_err _ _ h.1)
]

pub token_stopped : (w : List ℕ) (s : Stop) → (BeginsSeparator w → ⊥) → token_at w ≡ Err s → IsStop s w
unfolding token_at
token_stopped [] s over e = absurd (ok_err _ _ e)
token_stopped (b ∷ z) s over e = elim (cond_is (is_word_start b) _ _ _ e) [
  | inl word ↦ word_stopped b z s word.1
  | inr a ↦ elim (cond_is (b == 34) _ _ _ a.1) [
    | inl name ↦ name_stopped b z s _ (eqb-true b 34 name.0) refl name.1
    | inr n ↦ elim (cond_is (b == 39) _ _ _ n.1) [
      | inl string ↦ text_stopped Str 39 b z s is_open_string (eqb-true b 39 string.0) (string_stop Str (b ∷ z) s _ string.1)
      | inr q ↦ elim (cond_is (is_digit b) _ _ _ q.1) [
        | inl digit ↦
            let r = run_is is_digit IsDigit digit_decides z in
            number_stopped (b ∷ z) (b ∷ r.run) (after_run is_digit z) s (ap (λ (w : List ℕ). b ∷ w) r.split) ((digit_decides b).0 digit.0, r.passes) digit.1
        | inr d ↦ elim (cond_is (is_sign b) _ _ _ d.1) [
          | inl sign ↦ absurd (ok_err _ _ sign.1)
          | inr h ↦ stop_at s (stray b z) _ (err_found _ _ h.1) (no_token b z over (none_here b z a.0 n.0 q.0 d.0 h.0)) (omega arith)
        ]
      ]
    ]
  ]
]

-- ---- no longer token stands there

kept : (kind : TokenKind) (w rest : List ℕ) (f : Found) → found kind w rest ≡ Ok f → length f.after ≤ length rest
kept kind w rest f e = let g : Found = record { kind = kind; front = w; after = rest } in omega (arith, ap (λ (x : Found). length x.after) (ok_same g f e))

string_kept : (kind : TokenKind) (w rest : List ℕ) (r : Result (List ℕ) Stop) (f : Found) → ((after : List ℕ) → r ≡ Ok after → length after ≤ length rest) → string_at kind w r ≡ Ok f → length f.after ≤ length rest
string_kept kind w rest (Ok after) f short e = omega (arith, short after refl, kept kind w after f e)
string_kept kind w rest (Err s) f short e = absurd (err_ok _ _ e)

name_kept : (b : ℕ) (z rest : List ℕ) (r : Result (List ℕ) Stop) (f : Found) → ((after : List ℕ) → r ≡ Ok after → length after ≤ length rest) → name_at b z r ≡ Ok f → length f.after ≤ length rest
name_kept b z rest (Ok after) f short e = elim (cond_is (before (b ∷ z) after == 2) _ _ _ e) [
  | inl h ↦ absurd (err_ok _ _ h.1)
  | inr h ↦ omega (arith, short after refl, kept Quoted (b ∷ z) after f h.1)
]
name_kept b z rest (Err s) f short e = absurd (err_ok _ _ e)

number_kept : (w after : List ℕ) (f : Found) → number_at w after ≡ Ok f → length f.after ≤ length after
number_kept w [] f e = kept Number w [] f e
number_kept w (b ∷ after) f e = elim (cond_is (is_word_start b) _ _ _ e) [
  | inl h ↦ absurd (err_ok _ _ h.1)
  | inr h ↦ kept Number w (b ∷ after) f h.1
]

-- what is after a string with escapes is behind its quote
escapes_short : (whole z after : List ℕ) → after_quoted whole true 39 z ≡ Ok after → length after ≤ length z
escapes_short whole z after e = let c = quoted_closed true 39 whole z after e in omega (arith, ap length c.split, length-append c.inner (39 ∷ after))

no_quote_in_word : (b : ℕ) → GoesOnWord b → b ≡ 39 → ⊥
no_quote_in_word b h e = let k : is_word_byte 39 ≡ true = ap is_word_byte (sym e) ∙ (word_byte_decides b).1 h in false≢true k

beyond : (c : ℕ) (z run rest : List ℕ) → c ∷ z ≡ run ++ rest → Each GoesOnWord run → c ≡ 39 → length z ≤ length rest
beyond c z [] rest e h k = omega (arith, ap length e)
beyond c z (b ∷ run) rest e h k = let same : b ≡ c = cc in absurd (no_quote_in_word b h.0 (same ∙ k))

word_kept : (b : ℕ) (z run rest : List ℕ) (f : Found) → z ≡ run ++ rest → Each GoesOnWord run → word_at b z ≡ Ok f → length f.after ≤ length rest
word_kept b [] run rest f split h e = omega (arith, kept Word (b ∷ []) [] f e)
word_kept b (c ∷ z) run rest f split h e = elim (cond_is (is_escape_mark b && (c == 39)) _ _ _ e) [
  | inl string ↦
      let quote = eqb-true c 39 (and_parts (is_escape_mark b) (c == 39) string.0).1 in
      let short = string_kept EscStr (b ∷ c ∷ z) z _ f (λ after k. escapes_short (b ∷ c ∷ z) z after k) string.1 in
      omega (arith, short, beyond c z run rest split h quote)
  | inr word ↦
      let len : length (after_run is_word_byte (c ∷ z)) ≤ length rest = subst (λ (w : List ℕ). length (after_run is_word_byte w) ≤ length rest) (sym split) (run_longest is_word_byte GoesOnWord word_byte_decides run rest h) in
      omega (arith, len, kept Word (b ∷ c ∷ z) (after_run is_word_byte (c ∷ z)) f word.1)
]

module _ (f : Found) where
  longest_word : (text rest : List ℕ) → IsWord text → token_at (text ++ rest) ≡ Ok f → length f.after ≤ length rest
  unfolding token_at
  longest_word [] rest h e = absurd h
  longest_word (b ∷ text) rest h e =
      let start = (word_start_decides b).1 h.0 in
      let w : token_at (b ∷ (text ++ rest)) ≡ word_at b (text ++ rest) = rw start refl in
      word_kept b (text ++ rest) text rest f refl h.1 (sym w ∙ e)

  longest_number : (text rest : List ℕ) → IsNumber text → token_at (text ++ rest) ≡ Ok f → length f.after ≤ length rest
  unfolding token_at
  longest_number [] rest h e = absurd h
  longest_number (b ∷ text) rest h e =
      let digit = (digit_decides b).1 h.0 in
      let low : 48 ≤ b = h.0.0 in
      let high : b ≤ 57 = h.0.1 in
      let no : is_word_start b ≡ false = grind (arith, nat_tests) in
      let k : (b == 34) ≡ false = ne_eqb b 34 (λ (x : b ≡ 34). absurd (omega arith)) in
      let l : (b == 39) ≡ false = ne_eqb b 39 (λ (x : b ≡ 39). absurd (omega arith)) in
      let w : token_at (b ∷ (text ++ rest)) ≡ number_at (b ∷ (text ++ rest)) (after_run is_digit (text ++ rest)) = rw (no, k, l, digit) refl in
      omega (arith, number_kept (b ∷ (text ++ rest)) (after_run is_digit (text ++ rest)) f (sym w ∙ e), run_longest is_digit IsDigit digit_decides text rest h.1)

  longest_name : (inner value rest : List ℕ) → IsQuoted false 34 inner value → token_at (34 ∷ (inner ++ 34 ∷ rest)) ≡ Ok f → length f.after ≤ length rest
  unfolding token_at
  longest_name inner value rest h e = name_kept 34 (inner ++ 34 ∷ rest) rest _ f (λ after k. quoted_longest false 34 (λ x. cc x) (λ x. cc x) (34 ∷ (inner ++ 34 ∷ rest)) inner value rest after h k) e

  longest_string : (inner value rest : List ℕ) → IsQuoted false 39 inner value → token_at (39 ∷ (inner ++ 39 ∷ rest)) ≡ Ok f → length f.after ≤ length rest
  unfolding token_at
  longest_string inner value rest h e = string_kept Str (39 ∷ (inner ++ 39 ∷ rest)) rest _ f (λ after k. quoted_longest false 39 (λ x. cc x) (λ x. cc x) (39 ∷ (inner ++ 39 ∷ rest)) inner value rest after h k) e

  longest_escapes : (mark : ℕ) (inner value rest : List ℕ) → IsEscapeMark mark → IsQuoted true 39 inner value → token_at (mark ∷ 39 ∷ (inner ++ 39 ∷ rest)) ≡ Ok f → length f.after ≤ length rest
  unfolding token_at
  longest_escapes mark inner value rest m h e =
      let is = (escape_mark_decides mark).1 m in
      let start : is_word_start mark ≡ true = grind (arith, nat_tests) in
      let all = mark ∷ 39 ∷ (inner ++ 39 ∷ rest) in
      let w : token_at all ≡ string_at EscStr all (after_quoted all true 39 (inner ++ 39 ∷ rest)) = rw (start, is) refl in
      string_kept EscStr all rest _ f (λ after k. quoted_longest true 39 (λ x. cc x) (λ x. cc x) all inner value rest after h k) (sym w ∙ e)

  -- a token takes a byte, unless it is the end
  pub takes_one : (w : List ℕ) → token_at w ≡ Ok f → length f.after ≤ length w - 1
  takes_one w e = ⊎_elim
      (λ (over : (w ≡ []) × (f.after ≡ []) × (f.kind ≡ End)). omega (arith, ap length over.1))
      (λ (after : IsAfterAscii w f.after). omega (arith, ap length after.split, length-append after.front (after.last ∷ f.after)))
      (token_shape w f e).ends

  closed_rest : (front inner rest : List ℕ) (q : ℕ) → (front ++ (inner ++ q ∷ [])) ++ rest ≡ front ++ (inner ++ q ∷ rest)
  closed_rest front inner rest q = append_assoc front (inner ++ q ∷ []) rest ∙ ap (λ (w : List ℕ). front ++ w) (append_assoc inner (q ∷ []) rest)

  pub token_longest : (kind : TokenKind) (text value rest : List ℕ) → Spells kind text value → token_at (text ++ rest) ≡ Ok f → length f.after ≤ length rest
  token_longest Word text value rest h e = longest_word text rest h.0 e
  token_longest Quoted text value rest (inner, (some, (h, k))) e =
      longest_name inner value rest h (ap token_at (sym (ap (λ (w : List ℕ). w ++ rest) k ∙ closed_rest (34 ∷ []) inner rest 34)) ∙ e)
  token_longest Str text value rest (inner, (h, k)) e =
      longest_string inner value rest h (ap token_at (sym (ap (λ (w : List ℕ). w ++ rest) k ∙ closed_rest (39 ∷ []) inner rest 39)) ∙ e)
  token_longest EscStr text value rest (mark, (inner, (m, (h, k)))) e =
      longest_escapes mark inner value rest m h (ap token_at (sym (ap (λ (w : List ℕ). w ++ rest) k ∙ closed_rest (mark ∷ 39 ∷ []) inner rest 39)) ∙ e)
  token_longest Number text value rest h e = longest_number text rest h.0 e
  token_longest (Sign b) text value rest h e = omega (arith, takes_one (text ++ rest) e, ap length (ap (λ (w : List ℕ). w ++ rest) h.1.0))
  token_longest End text value rest h e = omega (arith, takes_one (text ++ rest) e, ap length (ap (λ (w : List ℕ). w ++ rest) h.0))
