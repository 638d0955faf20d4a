-- What a script gives, and its first fault: statement by statement its tokens and its grammar, then its parts in order,
-- and after the whole script the names of its INSERTs.
use Rattle.std.specs.Prelude.{◌≡◌, ◌⊎◌, ℕ, zero, suc, Bool, ◌&&◌, if◌then◌else◌, List, [], ◌∷◌, ◌++◌, length, min, Option, Some, None, Result, Ok, Err, slice_get}
use Rattle.pg_base.specs.Lists.{EachPair}
use Rattle.pg_base.specs.Catalog.{CatalogParts, names}
use Rattle.pg_base.specs.declared.table_def.TableDef.{TableDef}
use Rattle.parse_rules.specs.Parser.{Outcome}
use Rattle.pg_catalog.specs.declared.fault.CatalogFault.{CatalogFault}
use Rattle.pg_catalog.specs.declared.part.Part.{Part}
use Rattle.pg_catalog.specs.Built.{empty, catalog_after}
use Rattle.pg_catalog.specs.Names.{place_of, places_of, table_names, column_names, stands}
use Rattle.pg_catalog.specs.Added.{is_target}
use Rattle.pg_base.specs.declared.enum_def.EnumDef.{EnumDef}
use Rattle.ddl_reader.specs.declared.reading.Progress.{Progress}
use Rattle.ddl_reader.specs.declared.fault.ScriptFault.{ScriptFault}
use Rattle.ddl_reader.specs.declared.fault.ScriptFault.TheVariants as fault
use Rattle.ddl_reader.specs.declared.lexeme.Lexeme.{Lexeme}
use Rattle.ddl_reader.specs.declared.script.Script.{Script}
use Rattle.ddl_reader.specs.declared.script.RowText.{RowText}
use Rattle.ddl_reader.specs.declared.statement.Row.{Row}
use Rattle.ddl_reader.specs.declared.statement.Statement.{Statement}
use Rattle.ddl_reader.specs.declared.statement.Statement.TheVariants as statement_is
use Rattle.ddl_reader.specs.declared.statement.InsertStatement.{InsertStatement}
use Rattle.ddl_reader.specs.declared.statement.CommentStatement.{CommentStatement}
use Rattle.ddl_reader.specs.declared.statement.TableStatement.{TableStatement}
use Rattle.ddl_reader.specs.Lexemes.{is_the, lexemes}
use Rattle.ddl_reader.specs.Statements.{statement_with}
use Rattle.ddl_reader.specs.Parts.{enum_part, table_parts, rule_part, comment_part, commented_by, target_pos, target_name}
use Rattle.ddl_reader.specs.Stops.{stop_fault}
use Rattle.ddl_reader.specs.Compact.{below}
pub use Rattle.ddl_reader.specs.InsertNames.{named_columns, columns_of, insert_fault, double_column, unknown_column, unknown_in, unknown_name, names_fault, first_fault}

abbrev pub progress : CatalogParts → List InsertStatement → List Row → Progress
progress c inserts rows = record { catalog = c; inserts = inserts; rows = rows }

-- ---- a statement

-- what is read, or the fault of the stop
abbrev pub or_stop : List EnumDef → List Lexeme → Outcome Lexeme (Statement × List Row)
    → Result ((Statement × List Row) × List Lexeme) ScriptFault
or_stop enums ts (Err rest) = Err (stop_fault enums ts rest)
or_stop enums ts (Ok read) = Ok read

-- the next statement with the rows so far and its own, the INSERTs before it being as many as the number
abbrev pub next_statement : List EnumDef → ℕ → List Row → List Lexeme
    → Result ((Statement × List Row) × List Lexeme) ScriptFault
next_statement enums number rows ts = or_stop enums ts (statement_with enums number rows ts)

-- ---- its parts

-- the catalog after parts, or the first one's fault
abbrev pub of_parts : Result CatalogParts CatalogFault → Result CatalogParts ScriptFault
of_parts (Ok c) = Ok c
of_parts (Err f) = Err (fault.Catalog f)

abbrev pub with_parts : CatalogParts → List Part → Result CatalogParts ScriptFault
with_parts c parts = of_parts (catalog_after c parts)

-- with IF NOT EXISTS a name that is taken makes the statement have no effect
abbrev pub has_no_effect : CatalogParts → TableStatement → Bool
has_no_effect c t = t.unless_there && stands (names c) t.name.text

abbrev pub with_table : CatalogParts → TableStatement → Result CatalogParts ScriptFault
with_table c t = if has_no_effect c t then Ok c else with_parts c (table_parts t)

-- 6: what a comment speaks of doesn't stand
abbrev pub with_comment : CatalogParts → CommentStatement → Result CatalogParts ScriptFault
with_comment c m =
    if is_target c (commented_by m.target) then with_parts c (comment_part m ∷ [])
    else Err (fault.NothingToComment (target_pos m.target) (target_name m.target))

-- the catalog after a statement, or the first fault of its parts
abbrev pub after_statement : CatalogParts → Statement → Result CatalogParts ScriptFault
after_statement c statement_is.Nothing = Ok c
after_statement c (statement_is.Enum e) = with_parts c (enum_part e ∷ [])
after_statement c (statement_is.Table t) = with_table c t
after_statement c (statement_is.Rule r) = with_parts c (rule_part r.table.text r.rule ∷ [])
after_statement c (statement_is.Comment m) = with_comment c m
after_statement c (statement_is.Insert i) = Ok c

abbrev pub inserts_with : List InsertStatement → Statement → List InsertStatement
inserts_with inserts (statement_is.Insert i) = inserts ++ i ∷ []
inserts_with inserts statement_is.Nothing = inserts
inserts_with inserts (statement_is.Enum e) = inserts
inserts_with inserts (statement_is.Table t) = inserts
inserts_with inserts (statement_is.Rule r) = inserts
inserts_with inserts (statement_is.Comment m) = inserts

-- a call answers what is due, or that memory ran out
abbrev pub Answers : {A : Type 0} → Result A ScriptFault → Result A ScriptFault → Type 0
Answers due (Ok a) = due ≡ Ok a
Answers due (Err f) = (f ≡ fault.Memory) ⊎ (due ≡ Err f)

-- a call tells the fault, or that there is none, or that memory ran out
abbrev pub Tells : {A : Type 0} → Option ScriptFault → Result A ScriptFault → Type 0
Tells due (Ok a) = due ≡ None
Tells due (Err f) = (f ≡ fault.Memory) ⊎ (due ≡ Some f)

-- the same of the lexemes, with what a function leaves in its arguments
abbrev pub StepsBeside : Result ((Statement × List Row) × List Lexeme) ScriptFault → Result Statement ScriptFault
    → List Row → List Lexeme → Type 0
StepsBeside due (Ok made) rows rest = due ≡ Ok ((made, rows), rest)
StepsBeside due (Err f) rows rest = (f ≡ fault.Memory) ⊎ (due ≡ Err f)

abbrev pub Keeps : List InsertStatement → Result (Unit {0}) ScriptFault → List InsertStatement → Type 0
Keeps due (Ok done) inserts = inserts ≡ due
Keeps due (Err f) inserts = f ≡ fault.Memory

abbrev pub Steps : Result (Progress × List Lexeme) ScriptFault → Result CatalogParts ScriptFault
    → List InsertStatement → List Row → List Lexeme → Type 0
Steps due (Ok c) inserts rows rest = due ≡ Ok (progress c inserts rows, rest)
Steps due (Err f) inserts rows rest = (f ≡ fault.Memory) ⊎ (due ≡ Err f)

-- ---- the statements of a script

abbrev pub with_catalog : Progress → (Statement × List Row) × List Lexeme → Result CatalogParts ScriptFault
    → Result (Progress × List Lexeme) ScriptFault
with_catalog p read (Err f) = Err f
with_catalog p read (Ok c) = Ok (progress c (inserts_with p.inserts read.0.0) read.0.1, read.1)

abbrev pub with_statement : Progress → Result ((Statement × List Row) × List Lexeme) ScriptFault
    → Result (Progress × List Lexeme) ScriptFault
with_statement p (Err f) = Err f
with_statement p (Ok read) = with_catalog p read (after_statement p.catalog read.0.0)

-- a statement is read, and then its parts are added
unfoldable pub step : Progress → List Lexeme → Result (Progress × List Lexeme) ScriptFault
step p ts = with_statement p (next_statement p.catalog.enums (length p.inserts) p.rows ts)

-- after a statement: the next one after `;`, or the end
abbrev pub goes_on : (Progress → List Lexeme → Result Progress ScriptFault) → Progress → List Lexeme
    → Result Progress ScriptFault
goes_on next p [] = Ok p
goes_on next p (l ∷ ts) = if is_the 59 l then next p ts else Ok p

abbrev pub after_step : (Progress → List Lexeme → Result Progress ScriptFault)
    → Result (Progress × List Lexeme) ScriptFault → Result Progress ScriptFault
after_step next (Err f) = Err f
after_step next (Ok (p, rest)) = goes_on next p rest

-- at most n statements from here on
unfoldable pub statements : ℕ → Progress → List Lexeme → Result Progress ScriptFault
statements zero p ts = Ok p
statements (suc n) p ts = after_step (statements n) (step p ts)

-- ---- rows

-- the places of the named columns, or of the table's first columns, as many as the row has values
abbrev pub row_columns : TableDef → Option (List (List ℕ)) → ℕ → List ℕ
row_columns t None values = below (min values (length t.columns))
row_columns t (Some names) values = places_of (column_names t) names

-- the row of an INSERT into the table at the place
abbrev pub row_text : ℕ → TableDef → InsertStatement → Row → RowText
row_text place t i row = record {
  pos = row.pos;
  table = place;
  columns = row_columns t i.columns (length row.cells);
  cells = row.cells;
}

-- the row is that of its INSERT, with its names looked up
pub record IsResolved (c : CatalogParts) (inserts : List InsertStatement) (row : Row) (made : RowText) : Type 0 where
  pub insert : InsertStatement
  pub table : TableDef
  pub place : ℕ
  pub written : slice_get inserts row.insert ≡ Some insert
  pub named : place_of (table_names c) insert.table.text ≡ Some place
  pub stands : slice_get c.tables place ≡ Some table
  pub is : made ≡ row_text place table insert row

-- ---- scripts

abbrev pub begins : Progress
begins = progress empty [] []

-- What the statements of a script give, before the names of its INSERTs are looked up. There are no more of them than
-- lexemes, since each but the last has a `;` after it.
abbrev pub read : List ℕ → Result Progress ScriptFault
read bytes = statements (suc (length (lexemes bytes))) begins (lexemes bytes)

-- the bytes are a script that gives this
pub record IsScript (bytes : List ℕ) (s : Script) : Type 0 where
  pub progress : Progress
  pub reads : read bytes ≡ Ok progress
  pub names : first_fault progress.catalog progress.inserts ≡ None
  pub catalog : s.catalog ≡ progress.catalog
  pub rows : EachPair (IsResolved progress.catalog progress.inserts) progress.rows s.rows

-- a name of an INSERT is at fault, and nothing before
pub record IsNamesFault (bytes : List ℕ) (f : ScriptFault) : Type 0 where
  pub progress : Progress
  pub reads : read bytes ≡ Ok progress
  pub names : first_fault progress.catalog progress.inserts ≡ Some f

-- the first fault of the bytes
abbrev pub IsScriptFault : List ℕ → ScriptFault → Type 0
IsScriptFault bytes f = (read bytes ≡ Err f) ⊎ IsNamesFault bytes f
