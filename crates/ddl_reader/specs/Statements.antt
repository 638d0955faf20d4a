-- Statements with their rows.
use Rattle.std.specs.Prelude.{◌≡◌, ℕ, List, [], Result, Ok, Err}
use Rattle.pg_base.specs.declared.enum_def.EnumDef.{EnumDef}
use Rattle.parse_rules.specs.declared.error.ReadError.{ReadError}
use Rattle.parse_rules.specs.declared.error.ReadError.TheVariants as errors
use Rattle.parse_rules.specs.Parser.{Outcome, ◌>>=◌, pure, before}
use Rattle.ddl_reader.specs.declared.lexeme.Lexeme.{Lexeme}
use Rattle.ddl_reader.specs.declared.lexeme.Expected.TheVariants as want
use Rattle.ddl_reader.specs.declared.statement.Row.{Row}
use Rattle.ddl_reader.specs.declared.statement.Statement.{Statement}
use Rattle.ddl_reader.specs.declared.statement.Statement.TheVariants as statement_is
use Rattle.ddl_reader.specs.Lexemes.{is}
use Rattle.ddl_reader.specs.Reading.{Reader, head, rows}

-- an INSERT's rows, after those found
abbrev pub rows_after : ℕ → List Row → Statement → Reader (List Row)
rows_after number found (statement_is.Insert i) = rows number found
rows_after number found statement_is.Nothing = pure found
rows_after number found (statement_is.Enum e) = pure found
rows_after number found (statement_is.Table t) = pure found
rows_after number found (statement_is.Rule r) = pure found
rows_after number found (statement_is.Comment m) = pure found

-- up to `;` or the end, which isn't taken
unfoldable pub statement_with : List EnumDef → ℕ → List Row → Reader (Statement × List Row)
statement_with enums number found = do
  made ← head enums
  after ← rows_after number found made
  before (is want.Last) (made, after)

abbrev pub whole_statement : List EnumDef → Reader (Statement × List Row)
whole_statement enums = statement_with enums 0 []

-- What a function ensures that reads by a parser and puts a part of what it reads where `now` stands at the return: its
-- outcome, unless memory runs out.
abbrev pub ReadsBeside : {A B : Type 0} → Outcome Lexeme (A × B) → Result A ReadError → B → List Lexeme → Type 0
ReadsBeside outcome (Ok a) now rest = outcome ≡ Ok ((a, now), rest)
ReadsBeside outcome (Err errors.Memory) now rest = Unit {0}
ReadsBeside outcome (Err errors.Unexpected) now rest = outcome ≡ Err rest
