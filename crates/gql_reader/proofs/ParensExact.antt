-- One item or more between parentheses, or nothing, are exact where an item is: arguments, and definitions of variables.
use Rattle.std.proofs.Common.{◌≡◌, ℕ, suc, Bool, false, List, [], ◌∷◌, refl}
use Rattle.gql_lex.specs.declared.token.Punctuator.TheVariants as p
use Rattle.parse_rules.specs.Tokens.{sees}
use Rattle.parse_rules.specs.Rules.{Rule, pure_rule, optional_rule, behind_rule, some_until_rule}
use Rattle.parse_rules.specs.Parser.{Parser, ◌>>=◌, stops, expect, optional, some_until}
use Rattle.parse_rules.specs.Exact.{Follow, Anything, IsExact, Spelling, TakesToken, TakesAny}
use Rattle.parse_rules.proofs.Exact.{takes_any, pure-takes_any}
use Rattle.parse_rules.proofs.Choice.{either-takes_any, optional_exact, behind-takes}
use Rattle.parse_rules.proofs.Until.{unless, some_until_exact, some_until_spelling, some_until-takes}
use Rattle.gql_reader.specs.declared.lexeme.Lexeme.{Lexeme}
use Rattle.gql_reader.specs.declared.expected.Expected.TheVariants as want
use Rattle.gql_reader.specs.Lexemes.{is}
use Rattle.gql_reader.specs.Grammar.{brackets}
use Rattle.gql_reader.proofs.TokenKinds.{a_punctuator, closing_lowers, punctuator_opens, behind_spelling, open_none_exact, open_some_exact, Not}

abbrev opens : Lexeme → Bool
opens = is (want.Punctuator p.OpenParen)

abbrev closes : Lexeme → Bool
closes = is (want.Punctuator p.CloseParen)

abbrev in_parens : {A : Type 0} → Rule Lexeme A → Lexeme → Rule Lexeme (List A)
in_parens R o = some_until_rule closes R

-- the items with their parentheses
abbrev pub parens_rule : {A : Type 0} → Rule Lexeme A → Rule Lexeme (List A)
parens_rule R = behind_rule opens (in_parens R)

module _ {A : Type 0} (R : Rule Lexeme A) (takes : TakesToken R) where
  in_parens_any : (o : Lexeme) → TakesAny (in_parens R o)
  in_parens_any o = takes_any (in_parens R o) (some_until-takes closes R (takes_any R takes))

  parens_takes : TakesToken (parens_rule R)
  parens_takes = behind-takes opens (in_parens R) in_parens_any

  pub parens_any : TakesAny (optional_rule opens [] (parens_rule R))
  parens_any = either-takes_any opens (parens_rule R) (pure_rule []) (takes_any (parens_rule R) parens_takes) (pure-takes_any [])

  -- A closing parenthesis, or the end, may follow an item, and none begins with it. What may follow the whole doesn't open one.
  module _ (E F : Follow Lexeme) (way : Spelling E Anything R) (fits : (z : List Lexeme) → sees (unless closes) z ≡ false → E z) (unseen : (z : List Lexeme) → F z → Not (want.Punctuator p.OpenParen) z) where
    parens_spelling : Spelling F Anything (parens_rule R)
    parens_spelling = behind_spelling F Anything (want.Punctuator p.OpenParen) (in_parens R) (a_punctuator p.OpenParen) refl (λ z. tt) (some_until_spelling F E Anything closes R (a_punctuator p.CloseParen) refl (λ z f. fits (a_punctuator p.CloseParen ∷ z) refl) way)

    pub parens_none : IsExact brackets 0 0 F (optional_rule opens [] (parens_rule R)) (optional opens [] stops)
    parens_none = optional_exact brackets 0 F opens [] (parens_rule R) stops (open_none_exact F (want.Punctuator p.OpenParen) (in_parens R) (punctuator_opens p.OpenParen refl) parens_spelling in_parens_any) parens_takes unseen

    pub parens_some : ((c : Lexeme) (ts rest : List Lexeme) (x : A) → R (c ∷ ts) rest x → closes c ≡ false) → (n : ℕ) (item : Parser Lexeme A) → IsExact brackets n 0 E R item
        → IsExact brackets (suc n) 0 F (optional_rule opens [] (parens_rule R)) (optional opens [] (expect opens >>= λ o. some_until closes item))
    parens_some apart n item exact = optional_exact brackets (suc n) F opens [] (parens_rule R) (expect opens >>= λ o. some_until closes item)
        (open_some_exact F (want.Punctuator p.OpenParen) (in_parens R) (punctuator_opens p.OpenParen refl) parens_spelling n (λ o. some_until closes item)
        (λ o. some_until_exact brackets n E F closes R item exact takes (closing_lowers p.CloseParen refl refl) (a_punctuator p.CloseParen) refl apart fits)) parens_takes unseen
