use Rattle.std.proofs.Common.{◌≡◌, ◌≤◌, ◌∙◌, ℕ, List, length, Result, Ok, Err, IfOk, MatchResult}
use Rattle.pg_base.specs.declared.pos.PosCounter.{PosCounter}
use Rattle.sql_lex.specs.declared.token.Token.{Token}
use Rattle.sql_lex.specs.declared.token.LexFault.{LexFault}
use Rattle.sql_lex.specs.Lex.{first_token}
use Rattle.sql_lex.specs.Value.{spelling}
use Rattle.sql_lex.specs.Grammar.{IsSpelling}
use Rattle.sql_lex.specs.Laws.{StandsIn}
use Rattle.sql_lex.proofs.Answering.{first_token-stop}
use Rattle.sql_lex.proofs.Known.{stands, spelled}
use Rattle.sql_lex.proofs.lex.next_from.Goals as goal

-- what is read after the blanks is read from the place itself
read_so : (z : List ℕ) (at from : ℕ) (r : Result (Token × PosCounter) LexFault) → first_token z at ≡ first_token z from
    → MatchResult r (λ read. first_token z from ≡ Ok read.0) (λ fault. first_token z from ≡ Err fault)
    → MatchResult r (λ read. first_token z at ≡ Ok read.0) (λ fault. first_token z at ≡ Err fault)
read_so z at from (Ok read) e h = e ∙ h
read_so z at from (Err fault) e h = e ∙ h

stands_so : (z : List ℕ) (at : ℕ) (r : Result (Token × PosCounter) LexFault) → at ≤ length z → MatchResult r (λ read. first_token z at ≡ Ok read.0) (λ fault. first_token z at ≡ Err fault) → IfOk r (λ read. StandsIn z at read.0)
stands_so z at (Ok read) le h = stands z at read.0 le h
stands_so z at (Err fault) le h = tt

spelled_so : (z : List ℕ) (at : ℕ) (r : Result (Token × PosCounter) LexFault) → at ≤ length z → MatchResult r (λ read. first_token z at ≡ Ok read.0) (λ fault. first_token z at ≡ Err fault) → IfOk r (λ read. IsSpelling read.0.kind (spelling z read.0))
spelled_so z at (Ok read) le h = spelled z at read.0 le h
spelled_so z at (Err fault) le h = tt

pub returns-in-Ok-clause-token : goal.returns-in-Ok-clause-token
returns-in-Ok-clause-token c = read_so c.args.text.now c.args.at c.after_blanks-from.result.0 c.token_of.result c.after_blanks-from.ensures.same c.token_of.ensures.token

pub returns-in-Ok-clause-stands : goal.returns-in-Ok-clause-stands
returns-in-Ok-clause-stands c = stands_so c.args.text.now c.args.at c.token_of.result c.requires.within (returns-in-Ok-clause-token c)

pub returns-in-Ok-clause-spelling : goal.returns-in-Ok-clause-spelling
returns-in-Ok-clause-spelling c = spelled_so c.args.text.now c.args.at c.token_of.result c.requires.within (returns-in-Ok-clause-token c)

pub returns-in-Err-clause-token : goal.returns-in-Err-clause-token
returns-in-Err-clause-token c = c.after_blanks-from.ensures.same ∙ first_token-stop c.args.text.now c.after_blanks-from.result.0 _ _ c.in-Err.ensures.1 c.halted.ensures
