-- What the tests of tokens say, and parsers of one token.
use Rattle.std.proofs.Common.{◌≡◌, ℕ, suc, Bool, true, false, not, ◌&&◌, List, [], ◌∷◌, ◌++◌, refl, sym, ap, subst, arith, rules}
use denote.Enum.Bare.{same_true}
use Rattle.gql_lex.specs.contracts.token.Punctuator as punctuator
use Rattle.gql_lex.specs.contracts.token.Word as word
use Rattle.gql_lex.specs.declared.token.Punctuator.{Punctuator}
use Rattle.gql_lex.specs.declared.token.Punctuator.TheVariants as p
use Rattle.gql_lex.specs.declared.token.Word.{Word}
use Rattle.gql_lex.specs.declared.token.Word.TheVariants as w
use Rattle.gql_lex.specs.declared.token.TokenKind.{TokenKind}
use Rattle.gql_lex.specs.declared.token.TokenKind.TheVariants as k
use Rattle.parse_rules.specs.Tokens.{sees}
use Rattle.parse_rules.specs.Rules.{Rule, pure_rule, map_rule, token_rule, behind_rule}
use Rattle.parse_rules.specs.Parser.{Parser, ◌>>=◌, pure, stops, expect}
use Rattle.parse_rules.specs.Exact.{Follow, Anything, IsExact, Spelling, Lowers, IsOpener, TakesToken, TakesAny}
use Rattle.parse_rules.proofs.Exact.{plain_lowers, closer_lowers, token_exact, token_spelling, map_exact}
use Rattle.parse_rules.proofs.Until.{unless}
use Rattle.parse_rules.proofs.Choice.{opened_none_exact, opened_some_exact}
use Rattle.gql_reader.specs.declared.lexeme.Lexeme.{Lexeme}
use Rattle.gql_reader.specs.declared.expected.Expected.{Expected}
use Rattle.gql_reader.specs.declared.expected.Expected.TheVariants as want
use Rattle.gql_reader.specs.Expected.{same_word, is_punctuator, is_word, is_name, is_scalar, kind_is}
use Rattle.gql_reader.specs.Lexemes.{is}
use Rattle.gql_reader.specs.Reading.{}
use Rattle.gql_reader.specs.Grammar.{kind_opens, kind_closes, brackets}

-- ---- tests

pub and-true : (a b : Bool) → (a && b) ≡ true → (a ≡ true) × (b ≡ true)
and-true true b e = (refl, e)
and-true false b e = absurd cc

pub and-false : (a : Bool) → (a && false) ≡ false
and-false true = refl
and-false false = refl

-- ---- tokens that show what may be spelled

abbrev pub sample : TokenKind → Lexeme
sample kind = record { kind = kind; text = []; pos = record { line = 0; column = 0 } }

abbrev pub a_punctuator : Punctuator → Lexeme
a_punctuator m = sample (k.Punctuator m)

abbrev pub a_name : Lexeme
a_name = sample (k.Name w.Other)

-- ---- kinds by their tests

kind_of_punctuator : (kind : TokenKind) (m : Punctuator) → is_punctuator kind m ≡ true → kind ≡ k.Punctuator m
kind_of_punctuator (k.Punctuator q) m e = ap (λ (x : Punctuator). k.Punctuator x) (same_true punctuator.the_type (search rules) q m e)
kind_of_punctuator (k.Name v) m e = absurd cc
kind_of_punctuator k.Int m e = absurd cc
kind_of_punctuator k.Float m e = absurd cc
kind_of_punctuator k.String m e = absurd cc
kind_of_punctuator k.BlockString m e = absurd cc

-- what holds of a punctuator holds of a token that is it
pub by_punctuator : (m : Punctuator) (l : Lexeme) (P : TokenKind → Type 0) → is (want.Punctuator m) l ≡ true → P (k.Punctuator m) → P l.kind
by_punctuator m l P hit h = subst P (sym (kind_of_punctuator l.kind m hit)) h

-- a punctuator isn't of a wanted that it isn't of
pub punctuator_apart : (m : Punctuator) (wanted : Expected) (l : Lexeme) → kind_is wanted (k.Punctuator m) ≡ false → is (want.Punctuator m) l ≡ true → is wanted l ≡ false
punctuator_apart m wanted l e hit = by_punctuator m l (λ kind. kind_is wanted kind ≡ false) hit e

scalar_kind : (kind : TokenKind) (m : Punctuator) → is_scalar kind ≡ true → is_punctuator kind m ≡ false
scalar_kind (k.Punctuator q) m e = absurd cc
scalar_kind (k.Name v) m e = refl
scalar_kind k.Int m e = refl
scalar_kind k.Float m e = refl
scalar_kind k.String m e = refl
scalar_kind k.BlockString m e = refl

pub scalar_apart : (m : Punctuator) (l : Lexeme) → is want.Scalar l ≡ true → is (want.Punctuator m) l ≡ false
scalar_apart m l hit = scalar_kind l.kind m hit

name_kind : (kind : TokenKind) (m : Punctuator) → is_name kind ≡ true → is_punctuator kind m ≡ false
name_kind (k.Punctuator q) m e = absurd cc
name_kind (k.Name v) m e = refl
name_kind k.Int m e = absurd cc
name_kind k.Float m e = absurd cc
name_kind k.String m e = absurd cc
name_kind k.BlockString m e = absurd cc

pub name_apart : (m : Punctuator) (l : Lexeme) → is want.Name l ≡ true → is (want.Punctuator m) l ≡ false
name_apart m l hit = name_kind l.kind m hit

-- ---- what tokens open and close

plain_by : (wanted : Expected) → ((kind : TokenKind) → kind_is wanted kind ≡ true → (kind_opens kind ≡ false) × (kind_closes kind ≡ false)) → Lowers brackets 0 (is wanted)
plain_by wanted plain l hit = let x = plain l.kind hit in plain_lowers brackets l x.0 x.1

pub punctuator_lowers : (m : Punctuator) → kind_opens (k.Punctuator m) ≡ false → kind_closes (k.Punctuator m) ≡ false → Lowers brackets 0 (is (want.Punctuator m))
punctuator_lowers m e f l hit = plain_lowers brackets l (by_punctuator m l (λ kind. kind_opens kind ≡ false) hit e) (by_punctuator m l (λ kind. kind_closes kind ≡ false) hit f)

pub closing_lowers : (m : Punctuator) → kind_opens (k.Punctuator m) ≡ false → kind_closes (k.Punctuator m) ≡ true → Lowers brackets 1 (is (want.Punctuator m))
closing_lowers m e f l hit = closer_lowers brackets l (by_punctuator m l (λ kind. kind_opens kind ≡ false) hit e) (by_punctuator m l (λ kind. kind_closes kind ≡ true) hit f)

pub punctuator_opens : (m : Punctuator) → kind_opens (k.Punctuator m) ≡ true → IsOpener brackets (is (want.Punctuator m))
punctuator_opens m e l hit = by_punctuator m l (λ kind. kind_opens kind ≡ true) hit e

name_plain : (kind : TokenKind) → is_name kind ≡ true → (kind_opens kind ≡ false) × (kind_closes kind ≡ false)
name_plain (k.Name v) e = (refl, refl)
name_plain (k.Punctuator q) e = absurd cc
name_plain k.Int e = absurd cc
name_plain k.Float e = absurd cc
name_plain k.String e = absurd cc
name_plain k.BlockString e = absurd cc

pub name_lowers : Lowers brackets 0 (is want.Name)
name_lowers = plain_by want.Name name_plain

pub fragment_name_lowers : Lowers brackets 0 (is want.FragmentName)
fragment_name_lowers = plain_by want.FragmentName (λ kind e. name_plain kind (and-true (is_name kind) (not (is_word kind w.On)) e).0)

pub word_is_name : (kind : TokenKind) (v : Word) → is_word kind v ≡ true → is_name kind ≡ true
word_is_name (k.Name u) v e = refl
word_is_name (k.Punctuator q) v e = absurd cc
word_is_name k.Int v e = absurd cc
word_is_name k.Float v e = absurd cc
word_is_name k.String v e = absurd cc
word_is_name k.BlockString v e = absurd cc

pub word_lowers : (v : Word) → Lowers brackets 0 (is (want.Word v))
word_lowers v = plain_by (want.Word v) (λ kind e. name_plain kind (word_is_name kind v e))

pub operation_is_name : (kind : TokenKind) → kind_is want.OperationType kind ≡ true → is_name kind ≡ true
operation_is_name (k.Name u) e = refl
operation_is_name (k.Punctuator q) e = absurd cc
operation_is_name k.Int e = absurd cc
operation_is_name k.Float e = absurd cc
operation_is_name k.String e = absurd cc
operation_is_name k.BlockString e = absurd cc

pub operation_lowers : Lowers brackets 0 (is want.OperationType)
operation_lowers = plain_by want.OperationType (λ kind e. name_plain kind (operation_is_name kind e))

scalar_plain : (kind : TokenKind) → is_scalar kind ≡ true → (kind_opens kind ≡ false) × (kind_closes kind ≡ false)
scalar_plain (k.Punctuator q) e = absurd cc
scalar_plain (k.Name v) e = (refl, refl)
scalar_plain k.Int e = (refl, refl)
scalar_plain k.Float e = (refl, refl)
scalar_plain k.String e = (refl, refl)
scalar_plain k.BlockString e = (refl, refl)

pub scalar_lowers : Lowers brackets 0 (is want.Scalar)
scalar_lowers = plain_by want.Scalar scalar_plain

-- ---- one token

pub name_exact : (n : ℕ) (F : Follow Lexeme) → IsExact brackets n 0 F (token_rule (is want.Name)) (expect (is want.Name))
name_exact n F = token_exact brackets n 0 F (is want.Name) name_lowers a_name refl

pub name_spelling : (F : Follow Lexeme) → Spelling F Anything (token_rule (is want.Name))
name_spelling F = token_spelling F Anything (is want.Name) a_name refl (λ k f. tt)

-- ---- behind a token

pub behind_spelling : {A : Type 0} (F E : Follow Lexeme) (wanted : Expected) (S : Lexeme → Rule Lexeme A) (some : Lexeme) → is wanted some ≡ true → ((k : List Lexeme) → E (some ∷ k)) → Spelling F Anything (S some) → Spelling F E (behind_rule (is wanted) S)
behind_spelling F E wanted S some hit fits x = record { text = some ∷ x.text; made = x.made; spelled = λ k f. (x.text ++ k, some, (refl, hit), x.spelled k f); fits = λ k f. fits (x.text ++ k) }

module _ {A : Type 0} (F : Follow Lexeme) (wanted : Expected) (S : Lexeme → Rule Lexeme A) (opener : IsOpener brackets (is wanted)) (way : Spelling F Anything (behind_rule (is wanted) S)) where
  pub open_none_exact : ((l : Lexeme) → TakesAny (S l)) → IsExact brackets 0 0 F (behind_rule (is wanted) S) stops
  open_none_exact any = opened_none_exact brackets F (is wanted) S opener way any

  pub open_some_exact : (n : ℕ) (g : Lexeme → Parser Lexeme A) → ((l : Lexeme) → IsExact brackets n 1 F (S l) (g l)) → IsExact brackets (suc n) 0 F (behind_rule (is wanted) S) (expect (is wanted) >>= g)
  open_some_exact n g x = opened_some_exact brackets F (is wanted) S opener way n g x

-- what takes a token isn't spelled by none
pub takes_not : {A : Type 0} (R : Rule Lexeme A) → TakesToken R → (ts : List Lexeme) (a : A) → R ts ts a → ⊥
takes_not R takes ts a r = let h = takes ts ts a r in omega (arith, h)

-- what comes next isn't of the wanted
abbrev pub Not : Expected → Follow Lexeme
Not wanted ts = sees (is wanted) ts ≡ false

pub pure_spelling : {A : Type 0} (F : Follow Lexeme) (a : A) → Spelling F Anything (pure_rule a)
pure_spelling F a = record { text = []; made = a; spelled = λ z f. (refl, refl); fits = λ z f. tt }

-- a bracket that closes, behind a value
pub closing_exact : {A : Type 0} (n : ℕ) (F : Follow Lexeme) (m : Punctuator) → kind_opens (k.Punctuator m) ≡ false → kind_closes (k.Punctuator m) ≡ true → is (want.Punctuator m) (a_punctuator m) ≡ true → (a : A)
    → IsExact brackets n 1 F (map_rule (λ c. a) (token_rule (is (want.Punctuator m)))) (expect (is (want.Punctuator m)) >>= λ c. pure a)
closing_exact n F m e f hit a =
    map_exact brackets n 1 F (token_rule (is (want.Punctuator m))) (expect (is (want.Punctuator m))) (λ c. a) (token_exact brackets n 1 F (is (want.Punctuator m)) (closing_lowers m e f) (a_punctuator m) hit)

-- what comes next goes on with nothing that may be left out
pub record Calm (ts : List Lexeme) : Type 0 where
  pub bang : sees (is (want.Punctuator p.Bang)) ts ≡ false
  pub equals : sees (is (want.Punctuator p.Equals)) ts ≡ false
  pub paren : sees (is (want.Punctuator p.OpenParen)) ts ≡ false
  pub at : sees (is (want.Punctuator p.At)) ts ≡ false
  pub colon : sees (is (want.Punctuator p.Colon)) ts ≡ false
  pub brace : sees (is (want.Punctuator p.OpenBrace)) ts ≡ false

not-false : (b : Bool) → not b ≡ false → b ≡ true
not-false true e = refl
not-false false e = absurd cc

-- nor does a punctuator that doesn't, or the end
pub closed_calm : (m : Punctuator) (ts : List Lexeme) → Calm (a_punctuator m ∷ []) → sees (unless (is (want.Punctuator m))) ts ≡ false → Calm ts
closed_calm m [] x h = record { bang = refl; equals = refl; paren = refl; at = refl; colon = refl; brace = refl }
closed_calm m (c ∷ ts) x h =
    let hit : is (want.Punctuator m) c ≡ true = not-false (is (want.Punctuator m) c) h in
    record {
      bang = punctuator_apart m (want.Punctuator p.Bang) c x.bang hit;
      equals = punctuator_apart m (want.Punctuator p.Equals) c x.equals hit;
      paren = punctuator_apart m (want.Punctuator p.OpenParen) c x.paren hit;
      at = punctuator_apart m (want.Punctuator p.At) c x.at hit;
      colon = punctuator_apart m (want.Punctuator p.Colon) c x.colon hit;
      brace = punctuator_apart m (want.Punctuator p.OpenBrace) c x.brace hit;
    }

-- names that mean the same
pub word_is : (u v : Word) → same_word u v ≡ true → u ≡ v
word_is u v e = same_true word.the_type (search rules) u v e
