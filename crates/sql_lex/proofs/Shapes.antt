-- What tokens look like: a token is a front of what it is read from, and its first and its last byte are ASCII.
use Rattle.std.proofs.Common.{◌≡◌, ℕ, suc, ◌+◌, ◌<◌, ◌⊎◌, Bool, true, false, cond, ◌&&◌, ◌==◌, List, [], ◌∷◌, ◌++◌, length, length-append, get_or, refl, ap, subst, ◌∙◌, inl, inr, arith, Result, Ok, Err}
use borrow.Author.Tests.{eqb-true}
use Rattle.std.specs.List.{prefix_len}
use Rattle.std.proofs.lemmas.Bool.{and_parts}
use Rattle.std.proofs.lemmas.Bool.Decides.{nat_tests}
use Rattle.sql_lex.specs.declared.token.TokenKind.{TokenKind}
use Rattle.sql_lex.specs.declared.token.TokenKind.TheVariants.{Word, Quoted, Str, EscStr, Number, Sign, End}
use Rattle.sql_lex.specs.Bytes.{is_word_start, is_word_byte, is_digit, is_sign, is_escape_mark, is_escape, after_run, before}
use Rattle.sql_lex.specs.Separators.{Stop}
use Rattle.sql_lex.specs.Quoted.{after_quoted, after_quote, after_backslash}
use Rattle.sql_lex.specs.Lex.{Found, found, string_at, name_at, number_at, word_at, token_at}

-- the rest stands after a byte of ASCII in a list that begins with one
pub record IsAfterAscii (w rest : List ℕ) : Type 0 where
  pub front : List ℕ
  pub last : ℕ
  pub split : w ≡ front ++ last ∷ rest
  pub ascii : last < 128
  pub first : get_or w 0 0 < 128

pub record Shape (w : List ℕ) (f : Found) : Type 0 where
  pub front : f.front ≡ w
  pub ends : ((w ≡ []) × (f.after ≡ []) × (f.kind ≡ End)) ⊎ IsAfterAscii w f.after
  pub ended : f.kind ≡ End → w ≡ []
  -- a string with escapes has two bytes of ASCII in front
  pub marked : f.kind ≡ EscStr → (get_or w 1 0 < 128) × (length f.after + 2 < length w)

pub cond_is : {A : Type 0} (t : Bool) (x y v : A) → cond t x y ≡ v → ((t ≡ true) × (x ≡ v)) ⊎ ((t ≡ false) × (y ≡ v))
cond_is true x y v e = inl (refl, e)
cond_is false x y v e = inr (refl, e)

pub err_ok : {A B : Type 0} (s : B) (a : A) → Err s ≡ Ok a → ⊥
err_ok s a e = cc

pub ok_same : {A B : Type 0} (a a' : A) → (let x : Result A B = Ok a in x) ≡ Ok a' → a ≡ a'
ok_same a a' e = cc

-- ---- texts between quotes

module _ (whole : List ℕ) (esc : Bool) (q : ℕ) where
  abbrev Ends : List ℕ → List ℕ → Type 0
  Ends z rest = (p : List ℕ) × (z ≡ p ++ q ∷ rest)

  longer : (b : ℕ) (z rest : List ℕ) → Ends z rest → Ends (b ∷ z) rest
  longer b z rest e = (b ∷ e.0, ap (λ (w : List ℕ). b ∷ w) e.1)

  mutual
    unfolding after_quoted

    pub quoted_split : (z rest : List ℕ) → after_quoted whole esc q z ≡ Ok rest → (p : List ℕ) × (z ≡ p ++ q ∷ rest)
    quoted_split [] rest e = absurd (err_ok _ _ e)
    quoted_split (b ∷ z) rest e = elim (cond_is (b == 0) _ _ _ e) [
      | inl stop ↦ absurd (err_ok _ _ stop.1)
      | inr seen ↦ elim (cond_is (b == q) _ _ _ seen.1) [
        | inl quote ↦ elim (quote_split z rest quote.1) [
          | inl here ↦ ([], ap (λ (w : List ℕ). b ∷ w) here ∙ ap (λ (x : ℕ). x ∷ rest) (eqb-true b q quote.0))
          | inr further ↦ longer b z rest further
        ]
        | inr plain ↦ elim (cond_is (esc && (b == 92)) _ _ _ plain.1) [
          | inl escape ↦ longer b z rest (backslash_split z b rest escape.1)
          | inr other ↦ longer b z rest (quoted_split z rest other.1)
        ]
      ]
    ]

    quote_split : (z rest : List ℕ) → after_quote whole esc q z ≡ Ok rest → (z ≡ rest) ⊎ ((p : List ℕ) × (z ≡ p ++ q ∷ rest))
    quote_split [] rest e = inl (ok_same _ _ e)
    quote_split (b ∷ z) rest e = elim (cond_is (b == q) _ _ _ e) [
      | inl again ↦ inr (longer b z rest (quoted_split z rest again.1))
      | inr over ↦ inl (ok_same _ _ over.1)
    ]

    backslash_split : (z : List ℕ) (b : ℕ) (rest : List ℕ) → after_backslash whole esc q b z ≡ Ok rest → (p : List ℕ) × (z ≡ p ++ q ∷ rest)
    backslash_split [] b rest e = absurd (err_ok _ _ e)
    backslash_split (c ∷ z) b rest e = elim (cond_is (is_escape c) _ _ _ e) [
      | inl escape ↦ longer c z rest (quoted_split z rest escape.1)
      | inr stop ↦ absurd (err_ok _ _ stop.1)
    ]

-- ---- runs

one : (b : ℕ) (z : List ℕ) → b < 128 → IsAfterAscii (b ∷ z) z
one b z lt = record { front = []; last = b; split = refl; ascii = lt; first = lt }

further : (b : ℕ) (z rest : List ℕ) → b < 128 → IsAfterAscii z rest → IsAfterAscii (b ∷ z) rest
further b z rest lt e = record { front = b ∷ e.front; last = e.last; split = ap (λ (w : List ℕ). b ∷ w) e.split; ascii = e.ascii; first = lt }

run_split : (p : ℕ → Bool) → ((x : ℕ) → p x ≡ true → x < 128) → (z : List ℕ) (b : ℕ) → b < 128 → IsAfterAscii (b ∷ z) (after_run p z)
run_split p ascii [] b lt = one b [] lt
run_split p ascii (c ∷ z) b lt = chosen (p c) refl (λ (h : c < 128). run_split p ascii z c h)
  where
    chosen : (t : Bool) → p c ≡ t → (c < 128 → IsAfterAscii (c ∷ z) (after_run p z)) → IsAfterAscii (b ∷ c ∷ z) (after_run p (c ∷ z))
    chosen true e ih = let more : 1 + prefix_len p z ≡ suc (prefix_len p z) = omega arith in rw (e, more) (further b (c ∷ z) (after_run p z) lt (ih (ascii c e)))
    chosen false e ih = rw e (one b (c ∷ z) lt)

word_start_ascii : (x : ℕ) → is_word_start x ≡ true → x < 128
word_start_ascii x e = grind (arith, nat_tests)

digit_ascii : (x : ℕ) → is_digit x ≡ true → x < 128
digit_ascii x e = grind (arith, nat_tests)

word_byte_ascii : (x : ℕ) → is_word_byte x ≡ true → x < 128
word_byte_ascii x e = grind (arith, nat_tests)

sign_ascii : (x : ℕ) → is_sign x ≡ true → x < 128
sign_ascii x e = grind (arith, nat_tests)

-- ---- tokens

-- what a string with escapes owes
abbrev Marked : TokenKind → List ℕ → List ℕ → Type 0
Marked kind w rest = kind ≡ EscStr → (get_or w 1 0 < 128) × (length rest + 2 < length w)

shape : (kind : TokenKind) (w rest : List ℕ) (f : Found) → found kind w rest ≡ Ok f → (kind ≡ End → ⊥) → Marked kind w rest → IsAfterAscii w rest → Shape w f
shape kind w rest f e some marked ends =
    let same = ok_same _ _ e in
    subst (Shape w) same (record { front = refl; ends = inr ends; ended = λ (h : kind ≡ End). absurd (some h); marked = marked })

-- a text between quotes, after a front of ASCII
quotes_shape : (kind : TokenKind) (w rest p : List ℕ) (q : ℕ) (f : Found) → q < 128 → get_or w 0 0 < 128 → w ≡ p ++ q ∷ rest → (kind ≡ End → ⊥) → Marked kind w rest → found kind w rest ≡ Ok f → Shape w f
quotes_shape kind w rest p q f ascii first split some marked e = shape kind w rest f e some marked (record { front = p; last = q; split = split; ascii = ascii; first = first })

string_shape : (b : ℕ) (z : List ℕ) (f : Found) (whole : List ℕ) → b < 128 → (r : Result (List ℕ) Stop) → after_quoted whole false 39 z ≡ r → string_at Str (b ∷ z) r ≡ Ok f → Shape (b ∷ z) f
string_shape b z f whole first (Ok rest) e s =
    let split = quoted_split whole false 39 z rest e in
    quotes_shape Str (b ∷ z) rest (b ∷ split.0) 39 f (omega arith) first (ap (λ (w : List ℕ). b ∷ w) split.1) (λ (h : Str ≡ End). cc) (λ (h : Str ≡ EscStr). cc) s
string_shape b z f whole first (Err stop) e s = absurd (err_ok _ _ s)

name_shape : (b : ℕ) (z : List ℕ) (f : Found) (whole : List ℕ) → b < 128 → (r : Result (List ℕ) Stop) → after_quoted whole false 34 z ≡ r → name_at b z r ≡ Ok f → Shape (b ∷ z) f
name_shape b z f whole first (Ok rest) e s =
    let split = quoted_split whole false 34 z rest e in
    elim (cond_is (before (b ∷ z) rest == 2) _ _ _ s) [
      | inl stop ↦ absurd (err_ok _ _ stop.1)
      | inr some ↦ quotes_shape Quoted (b ∷ z) rest (b ∷ split.0) 34 f (omega arith) first (ap (λ (w : List ℕ). b ∷ w) split.1) (λ (h : Quoted ≡ End). cc) (λ (h : Quoted ≡ EscStr). cc) some.1
    ]
name_shape b z f whole first (Err stop) e s = absurd (err_ok _ _ s)

number_shape : (w : List ℕ) (f : Found) (rest : List ℕ) → IsAfterAscii w rest → number_at w rest ≡ Ok f → Shape w f
number_shape w f [] ends e = shape Number w [] f e (λ (h : Number ≡ End). cc) (λ (h : Number ≡ EscStr). cc) ends
number_shape w f (b ∷ rest) ends e = elim (cond_is (is_word_start b) _ _ _ e) [
  | inl stop ↦ absurd (err_ok _ _ stop.1)
  | inr over ↦ shape Number w (b ∷ rest) f over.1 (λ (h : Number ≡ End). cc) (λ (h : Number ≡ EscStr). cc) ends
]

escaped_shape : (b c : ℕ) (z : List ℕ) (f : Found) (whole : List ℕ) → b < 128 → c ≡ 39 → (r : Result (List ℕ) Stop) → after_quoted whole true 39 z ≡ r → string_at EscStr (b ∷ c ∷ z) r ≡ Ok f → Shape (b ∷ c ∷ z) f
escaped_shape b c z f whole first quote (Ok rest) q s =
    let split = quoted_split whole true 39 z rest q in
    let len : length z ≡ length split.0 + suc (length rest) = ap length split.1 ∙ length-append split.0 (39 ∷ rest) in
    quotes_shape EscStr (b ∷ c ∷ z) rest (b ∷ c ∷ split.0) 39 f (omega arith) first (ap (λ (w : List ℕ). b ∷ c ∷ w) split.1) (λ (h : EscStr ≡ End). cc) (λ (h : EscStr ≡ EscStr). (omega arith, omega arith)) s
escaped_shape b c z f whole first quote (Err stop) q s = absurd (err_ok _ _ s)

word_shape : (b : ℕ) (z : List ℕ) (f : Found) → b < 128 → word_at b z ≡ Ok f → Shape (b ∷ z) f
word_shape b [] f first e = shape Word (b ∷ []) [] f e (λ (h : Word ≡ End). cc) (λ (h : Word ≡ EscStr). cc) (one b [] first)
word_shape b (c ∷ z) f first e = elim (cond_is (is_escape_mark b && (c == 39)) _ _ _ e) [
  | inl string ↦ escaped_shape b c z f (b ∷ c ∷ z) first (eqb-true c 39 (and_parts (is_escape_mark b) (c == 39) string.0).1) _ refl string.1
  | inr word ↦ shape Word (b ∷ c ∷ z) (after_run is_word_byte (c ∷ z)) f word.1 (λ (h : Word ≡ End). cc) (λ (h : Word ≡ EscStr). cc) (run_split is_word_byte word_byte_ascii (c ∷ z) b first)
]

pub token_shape : (w : List ℕ) (f : Found) → token_at w ≡ Ok f → Shape w f
unfolding token_at
token_shape [] f e = subst (Shape []) (ok_same _ _ e) (record { front = refl; ends = inl (refl, refl, refl); ended = λ (h : End ≡ End). refl; marked = λ (h : End ≡ EscStr). cc })
token_shape (b ∷ z) f e = elim (cond_is (is_word_start b) _ _ _ e) [
  | inl word ↦ word_shape b z f (word_start_ascii b word.0) word.1
  | inr other ↦ elim (cond_is (b == 34) _ _ _ other.1) [
    | inl name ↦ let is = eqb-true b 34 name.0 in name_shape b z f (b ∷ z) (omega arith) _ refl name.1
    | inr other ↦ elim (cond_is (b == 39) _ _ _ other.1) [
      | inl string ↦ let is = eqb-true b 39 string.0 in string_shape b z f (b ∷ z) (omega arith) _ refl string.1
      | inr other ↦ elim (cond_is (is_digit b) _ _ _ other.1) [
        | inl digit ↦ number_shape (b ∷ z) f (after_run is_digit z) (run_split is_digit digit_ascii z b (digit_ascii b digit.0)) digit.1
        | inr other ↦ elim (cond_is (is_sign b) _ _ _ other.1) [
          | inl sign ↦ shape (Sign b) (b ∷ z) z f sign.1 (λ (h : Sign b ≡ End). cc) (λ (h : Sign b ≡ EscStr). cc) (one b z (sign_ascii b sign.0))
          | inr stop ↦ absurd (err_ok _ _ stop.1)
        ]
      ]
    ]
  ]
]
