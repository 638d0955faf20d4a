-- A token that is looked at, and taken where it passes a test of its kind and text.
use Rattle.std.proofs.Common.{◌≡◌, Bool, true, false, List, [], ◌∷◌, Some, Ok, Err, sym, ap, ◌∙◌}
use Rattle.parse_rules.specs.Tokens.{head, tail}
use Rattle.parse_rules.specs.Parser.{expect}
use Rattle.parse_rules.proofs.Outcomes.{done, expect-seen, expect-unseen}
use Rattle.ddl_reader.specs.declared.lexeme.Lexeme.{Lexeme}

some_is : (a b : Lexeme) → Some a ≡ Some b → a ≡ b
some_is a b e = cc

pub peeked : (test : Lexeme → Bool) (ts new : List Lexeme) (l : Lexeme) → Some l ≡ head ts → new ≡ tail ts → test l ≡ true → expect test ts ≡ Ok (l, new)
peeked test [] new l e moved hit = absurd cc
peeked test (t ∷ ts) new l e moved hit =
    let same = some_is l t e in
    let passed : test t ≡ true = sym (ap test same) ∙ hit in
    expect-seen test t ts passed ∙ ap (λ (x : Lexeme). done x ts) (sym same) ∙ ap (λ (w : List Lexeme). done l w) (sym moved)

-- it stays where it doesn't pass
pub unpeeked : (test : Lexeme → Bool) (ts : List Lexeme) (l : Lexeme) → Some l ≡ head ts → test l ≡ false → expect test ts ≡ Err ts
unpeeked test [] l e miss = absurd cc
unpeeked test (t ∷ ts) l e miss = expect-unseen test (t ∷ ts) (sym (ap test (some_is l t e)) ∙ miss)
