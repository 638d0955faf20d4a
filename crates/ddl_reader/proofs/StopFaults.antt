-- No stop is told as want of memory.
use Rattle.std.proofs.Common.{◌≡◌, Bool, true, false, cond, List, [], ◌∷◌, ℕ}
use Rattle.std.specs.Prelude.{Option, None, Some}
use Rattle.pg_base.specs.declared.enum_def.EnumDef.{EnumDef}
use Rattle.ddl_reader.specs.declared.fault.ScriptFault.{ScriptFault}
use Rattle.ddl_reader.specs.declared.fault.ScriptFault.TheVariants as fault
use Rattle.ddl_reader.specs.declared.lexeme.Lexeme.{Lexeme}
use Rattle.ddl_reader.specs.declared.lexeme.LexemeKind.{LexemeKind}
use Rattle.ddl_reader.specs.declared.lexeme.LexemeKind.TheVariants as kind
use Rattle.ddl_reader.specs.declared.word.Word.TheVariants as word
use Rattle.ddl_reader.specs.Stops.{has_word, is_refused_in_insert, back_from, bad_type, is_refused, other_schema, bad_type_at, bad_clause_at, fault_by_schema, fault_by_clause, fault_by_type, statement_fault, insert_fault, inner_fault, fault_at_kind, lexemes_before, stop_fault}

abbrev pub NotMemory : ScriptFault → Type 0
NotMemory f = f ≡ fault.Memory → ⊥

neither : (b : Bool) (x y : ScriptFault) → NotMemory x → NotMemory y → NotMemory (cond b x y)
neither true x y h k = h
neither false x y h k = k

type_not : (l : Lexeme) → NotMemory (bad_type_at l)
type_not l e = absurd cc

clause_not : (l : Lexeme) → NotMemory (bad_clause_at l)
clause_not l e = absurd cc

syntax_not : (l : Lexeme) → NotMemory (fault.Syntax l.pos)
syntax_not l e = absurd cc

by_schema : (front : List Lexeme) (stop : Lexeme) (o : Option ℕ) → NotMemory (fault_by_schema front stop o)
by_schema front stop None = syntax_not stop
by_schema front stop (Some n) = clause_not (back_from front stop n)

by_clause : (enums : List EnumDef) (front : List Lexeme) (stop : Lexeme) → NotMemory (fault_by_clause enums front stop)
by_clause enums front stop =
    neither (is_refused enums front stop.kind) (bad_clause_at stop) (fault_by_schema front stop (other_schema enums front stop.kind))
    (clause_not stop) (by_schema front stop (other_schema enums front stop.kind))

by_type : (enums : List EnumDef) (front : List Lexeme) (stop : Lexeme) (o : Option ℕ) → NotMemory (fault_by_type enums front stop o)
by_type enums front stop None = by_clause enums front stop
by_type enums front stop (Some n) = type_not (back_from front stop n)

in_insert : (front : List Lexeme) (stop : Lexeme) → NotMemory (insert_fault front stop)
in_insert front stop =
    neither (is_refused_in_insert stop.kind) (bad_clause_at stop) _ (clause_not stop)
    (neither _ (bad_clause_at (back_from front stop 1)) (fault.Syntax stop.pos) (clause_not (back_from front stop 1)) (syntax_not stop))

inner_not : (enums : List EnumDef) (front : List Lexeme) (stop : Lexeme) → NotMemory (inner_fault enums front stop)
inner_not enums front stop =
    neither (has_word 0 word.Insert front) (insert_fault front stop) (statement_fault enums front stop) (in_insert front stop)
    (by_type enums front stop (bad_type enums front stop.kind))

at_kind : (enums : List EnumDef) (front : List Lexeme) (stop : Lexeme) (k : LexemeKind) → NotMemory (fault_at_kind enums front stop k)
at_kind enums front stop (kind.Invalid which) e = absurd cc
at_kind enums front stop kind.End e = absurd cc
at_kind enums front stop (kind.Word w) e = inner_not enums front stop e
at_kind enums front stop kind.Name e = inner_not enums front stop e
at_kind enums front stop kind.Str e = inner_not enums front stop e
at_kind enums front stop kind.Number e = inner_not enums front stop e
at_kind enums front stop (kind.Sign byte) e = inner_not enums front stop e

pub stop_not : (enums : List EnumDef) (ts rest : List Lexeme) → NotMemory (stop_fault enums ts rest)
stop_not enums ts [] e = absurd cc
stop_not enums ts (stop ∷ rest) e = at_kind enums (lexemes_before stop.pos ts) stop stop.kind e
