-- What the grammar's statements are to their reader: where a statement stops.
use Rattle.std.specs.Prelude.{◌≡◌, ℕ, List, [], ◌∷◌, ◌++◌}
use Rattle.pg_base.specs.declared.enum_def.EnumDef.{EnumDef}
use Rattle.ddl_reader.specs.declared.lexeme.Lexeme.{Lexeme}
use Rattle.ddl_reader.specs.declared.statement.Row.{Row}
use Rattle.ddl_reader.specs.declared.statement.Statement.{Statement}
use Rattle.ddl_reader.specs.Grammar.{IsStatement}

-- some statement begins with these lexemes
abbrev pub IsFront : List EnumDef → ℕ → List Row → List Lexeme → Type 0
IsFront enums number found front =
    (more : List Lexeme) × (rest : List Lexeme) × (s : Statement × List Row)
    × IsStatement enums number found (front ++ more) rest s

-- A statement of these lexemes stops before the rest: some statement begins with the lexemes before it, and none with
-- those up to and including the next one.
pub record StopsAt (enums : List EnumDef) (number : ℕ) (found : List Row) (ts rest : List Lexeme) : Type 0 where
  pub front : List Lexeme
  pub whole : ts ≡ front ++ rest
  pub begins : IsFront enums number found front
  pub unread : (after : List Lexeme) (s : Statement × List Row) → IsStatement enums number found ts after s → ⊥
  pub none : (stop : Lexeme) (after : List Lexeme) → rest ≡ stop ∷ after
      → IsFront enums number found (front ++ stop ∷ []) → ⊥
