-- Tokens other than strings are of ASCII, without ends of lines.
use Rattle.std.proofs.Common.{◌≡◌, inl, inr, ℕ, true, List, [], ◌∷◌, ◌++◌, take, length, codes, refl, sym, ap, subst, ◌∙◌, arith}
use Rattle.std.specs.List.{list_all}
use Rattle.std.proofs.Math.Seq.{take-append_seam}
use Rattle.std.proofs.lemmas.Bool.{false≢true, and_parts}
use Rattle.std.proofs.lemmas.Bool.Decides.{nat_tests}
use Rattle.pg_base.specs.Lists.{Each}
use Rattle.pg_base.specs.Pos.{is_plain}
use Rattle.gql_lex.specs.declared.token.Punctuator.{Punctuator}
use Rattle.gql_lex.specs.declared.token.Punctuator.TheVariants as p
use Rattle.gql_lex.specs.declared.token.TokenKind.{TokenKind}
use Rattle.gql_lex.specs.declared.token.TokenKind.TheVariants as k
use Rattle.gql_lex.specs.declared.front.Front.TheVariants as f
use Rattle.gql_lex.specs.Front.{front_of}
use Rattle.gql_lex.specs.Lex.{is_plain_kind}
use Rattle.gql_lex.specs.Grammar.{IsOneOf, IsDigit, IsNameContinue, IsName, punctuator_text, IsUnsigned, zero_alone, digits, IsIntegerPart, plain, negative, AreDigits, IsFractionalPart, fraction, IsExponentPart, exponent, signed_exponent, IsOptional, IsNumber, Spells}
use Rattle.gql_lex.proofs.Fronts.{front_is}
use Rattle.gql_lex.proofs.Values.{token_of}

abbrev IsPlain : List ℕ → Type 0
IsPlain text = list_all is_plain text ≡ true

append_plain : (xs ys : List ℕ) → IsPlain xs → IsPlain ys → IsPlain (xs ++ ys)
append_plain [] ys h g = g
append_plain (x ∷ xs) ys h g = let q = and_parts (is_plain x) (list_all is_plain xs) h in rw q.0 (append_plain xs ys q.1 g)

cons_plain : (b : ℕ) (text : List ℕ) → is_plain b ≡ true → IsPlain text → IsPlain (b ∷ text)
cons_plain b text h g = rw h g

name_plain : (b : ℕ) → IsNameContinue b → is_plain b ≡ true
name_plain b h = grind (arith, nat_tests)

names_plain : (text : List ℕ) → Each IsNameContinue text → IsPlain text
names_plain [] h = refl
names_plain (b ∷ text) h = cons_plain b text (name_plain b h.0) (names_plain text h.1)

word_plain : (text : List ℕ) → IsName text → IsPlain text
word_plain [] h = absurd h
word_plain (b ∷ text) h = cons_plain b text (name_plain b (inl h.0)) (names_plain text h.1)

digits_plain : (text : List ℕ) → Each IsDigit text → IsPlain text
digits_plain [] h = refl
digits_plain (b ∷ text) h = cons_plain b text (name_plain b (inr h.0)) (digits_plain text h.1)

are_plain : (text : List ℕ) → AreDigits text → IsPlain text
are_plain [] h = absurd h
are_plain (b ∷ text) h = digits_plain (b ∷ text) h

unsigned_plain : (text : List ℕ) → IsUnsigned text → IsPlain text
unsigned_plain _ zero_alone = refl
unsigned_plain _ (digits b text h g) = let low = h.0 in let digit : IsDigit b = (omega arith, h.1) in cons_plain b text (name_plain b (inr digit)) (digits_plain text g)

integer_plain : (text : List ℕ) → IsIntegerPart text → IsPlain text
integer_plain _ (plain text h) = unsigned_plain text h
integer_plain _ (negative text h) = unsigned_plain text h

fraction_plain : (text : List ℕ) → IsFractionalPart text → IsPlain text
fraction_plain _ (fraction text h) = are_plain text h

e_plain : (b : ℕ) → IsOneOf (codes "eE") b → is_plain b ≡ true
e_plain b h = grind (arith, nat_tests)

sign_plain : (b : ℕ) → IsOneOf (codes "+-") b → is_plain b ≡ true
sign_plain b h = grind (arith, nat_tests)

exponent_plain : (text : List ℕ) → IsExponentPart text → IsPlain text
exponent_plain _ (exponent e text h g) = cons_plain e text (e_plain e h) (are_plain text g)
exponent_plain _ (signed_exponent e sign text h s g) = cons_plain e (sign ∷ text) (e_plain e h) (cons_plain sign text (sign_plain sign s) (are_plain text g))

optional_plain : (P : List ℕ → Type 0) (text : List ℕ) → ((text : List ℕ) → P text → IsPlain text) → IsOptional P text → IsPlain text
optional_plain P text f (inl h) = ap (list_all is_plain) h
optional_plain P text f (inr h) = f text h

number_plain : (text : List ℕ) → IsNumber text → IsPlain text
number_plain text h =
    subst IsPlain (sym h.parts) (append_plain h.integer (h.fractional ++ h.exponential) (integer_plain h.integer h.is_integer)
    (append_plain h.fractional h.exponential (optional_plain IsFractionalPart h.fractional fraction_plain h.is_fractional) (optional_plain IsExponentPart h.exponential exponent_plain h.is_exponential)))

mark_plain : (x : Punctuator) → IsPlain (punctuator_text x)
mark_plain p.Bang = refl
mark_plain p.Dollar = refl
mark_plain p.Ampersand = refl
mark_plain p.OpenParen = refl
mark_plain p.CloseParen = refl
mark_plain p.Spread = refl
mark_plain p.Colon = refl
mark_plain p.Equals = refl
mark_plain p.At = refl
mark_plain p.OpenBracket = refl
mark_plain p.CloseBracket = refl
mark_plain p.OpenBrace = refl
mark_plain p.Pipe = refl
mark_plain p.CloseBrace = refl

spelled_plain : (kind : TokenKind) (text value : List ℕ) → Spells kind text value → is_plain_kind kind ≡ true → IsPlain text
spelled_plain (k.Punctuator x) text value h e = subst IsPlain (sym h.0) (mark_plain x)
spelled_plain (k.Name x) text value h e = word_plain text h.0
spelled_plain k.Int text value h e = integer_plain text h.0
spelled_plain k.Float text value h e = number_plain text h.0.0
spelled_plain k.String text value h e = absurd (false≢true e)
spelled_plain k.BlockString text value h e = absurd (false≢true e)

pub token_plain : (b : ℕ) (z : List ℕ) (kind : TokenKind) (n : ℕ) → front_of (b ∷ z) ≡ f.Token kind n → is_plain_kind kind ≡ true → list_all is_plain (take n (b ∷ z)) ≡ true
token_plain b z kind n e ascii =
    let t = token_of (b ∷ z) kind n (front_of (b ∷ z)) (front_is b z) e in
    let same : take n (b ∷ z) ≡ t.text = ap (λ (i : ℕ). take i (b ∷ z)) (sym t.long) ∙ ap (take (length t.text)) t.split ∙ take-append_seam t.text t.rest in
    subst IsPlain (sym same) (spelled_plain kind t.text t.value t.spelled ascii)
