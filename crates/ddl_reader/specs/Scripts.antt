-- The statements of a script by the grammar's rules: statements with `;` between, each spelled over the enums of the
-- catalog so far, and each added to it.
use Rattle.std.specs.Prelude.{◌≡◌, true, false, List, ◌∷◌, length, Ok, Err}
use Rattle.pg_base.specs.Catalog.{CatalogParts}
use Rattle.parse_rules.specs.Tokens.{sees}
use Rattle.ddl_reader.specs.declared.fault.ScriptFault.{ScriptFault}
use Rattle.ddl_reader.specs.declared.lexeme.Lexeme.{Lexeme}
use Rattle.ddl_reader.specs.declared.reading.Progress.{Progress}
use Rattle.ddl_reader.specs.declared.statement.Row.{Row}
use Rattle.ddl_reader.specs.declared.statement.Statement.{Statement}
use Rattle.ddl_reader.specs.Grammar.{IsStatement}
use Rattle.ddl_reader.specs.Lexemes.{is_the}
use Rattle.ddl_reader.specs.Script.{progress, inserts_with, after_statement}
use Rattle.ddl_reader.specs.Sentences.{StopsAt}
use Rattle.ddl_reader.specs.Stops.{stop_fault}

-- These lexemes begin with a statement, of which the parts can be added: what stands after it.
pub record IsStep (p : Progress) (ts rest : List Lexeme) (q : Progress) : Type 0 where
  pub made : Statement
  pub rows : List Row
  pub catalog : CatalogParts
  pub spelled : IsStatement p.catalog.enums (length p.inserts) p.rows ts rest (made, rows)
  pub added : after_statement p.catalog made ≡ Ok catalog
  pub is : q ≡ progress catalog (inserts_with p.inserts made) rows

pub data AreStatements : Progress → List Lexeme → Progress → Type 0 where
  last_one : (p q : Progress) (ts rest : List Lexeme) → IsStep p ts rest q → sees (is_the 59) rest ≡ false
      → AreStatements p ts q
  one_more : (p q r : Progress) (ts rest : List Lexeme) (semicolon : Lexeme) → IsStep p ts (semicolon ∷ rest) q
      → is_the 59 semicolon ≡ true → AreStatements q rest r → AreStatements p ts r

-- The statements of these lexemes have a fault: the first statement that stops, or whose parts can't be added.
pub data HaveFault : Progress → List Lexeme → ScriptFault → Type 0 where
  stops : (p : Progress) (ts rest : List Lexeme) → StopsAt p.catalog.enums (length p.inserts) p.rows ts rest
      → HaveFault p ts (stop_fault p.catalog.enums ts rest)
  refused : (p : Progress) (ts rest : List Lexeme) (made : Statement) (rows : List Row) (f : ScriptFault)
      → IsStatement p.catalog.enums (length p.inserts) p.rows ts rest (made, rows)
      → after_statement p.catalog made ≡ Err f → HaveFault p ts f
  later : (p q : Progress) (ts rest : List Lexeme) (semicolon : Lexeme) (f : ScriptFault)
      → IsStep p ts (semicolon ∷ rest) q → is_the 59 semicolon ≡ true → HaveFault q rest f → HaveFault p ts f
