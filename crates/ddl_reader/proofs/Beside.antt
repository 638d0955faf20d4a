-- A statement stops where its rows stop.
use Rattle.std.proofs.Common.{◌≡◌, ℕ, List, ◌∙◌, ap, Ok, Err}
use Rattle.pg_base.specs.declared.enum_def.EnumDef.{EnumDef}
use Rattle.parse_rules.specs.declared.error.ReadError.{ReadError}
use Rattle.parse_rules.specs.declared.error.ReadError.TheVariants as errors
use Rattle.parse_rules.specs.Parser.{Outcome, and_then, before, ReadsInto}
use Rattle.ddl_reader.specs.declared.lexeme.Lexeme.{Lexeme}
use Rattle.ddl_reader.specs.declared.lexeme.Expected.TheVariants as want
use Rattle.ddl_reader.specs.declared.statement.Row.{Row}
use Rattle.ddl_reader.specs.declared.statement.Statement.{Statement}
use Rattle.ddl_reader.specs.Lexemes.{is}
use Rattle.ddl_reader.specs.Reading.{head}
use Rattle.ddl_reader.specs.Statements.{rows_after, statement_with, ReadsBeside}

pub beside_stops : (enums : List EnumDef) (number : ℕ) (found now : List Row) (made : Statement) (ts mid rest : List Lexeme) (error : ReadError) → head enums ts ≡ Ok (made, mid) → ReadsInto (rows_after number found made mid) (Err error) now rest
    → ReadsBeside (statement_with enums number found ts) (Err error) now rest
unfolding statement_with
beside_stops enums number found now made ts mid rest errors.Memory e stop = tt
beside_stops enums number found now made ts mid rest errors.Unexpected e stop =
    ap (λ (o : Outcome Lexeme Statement). and_then o (λ s. λ us. and_then (rows_after number found s us) (λ after. before (is want.Last) (s, after)))) e
    ∙ ap (λ (o : Outcome Lexeme (List Row)). and_then o (λ after. before (is want.Last) (made, after))) stop
