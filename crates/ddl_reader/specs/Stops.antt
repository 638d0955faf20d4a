-- The fault of a statement that stops: a type or a clause that isn't supported, or else a syntax fault. What would have
-- fitted in the place of the stop is asked of the grammar: a text fits after a front where a statement that begins so
-- doesn't stop before the text's end.
use Rattle.std.specs.Prelude.{ℕ, ◌-◌, Bool, true, false, not, ◌&&◌, ◌||◌, ◌==◌, nat_lt, slice_get, unwrap_or, if◌then◌else◌, List, [], ◌∷◌, ◌++◌, length, take, drop, codes, Option, Some, None, Ok, Err}
use Rattle.pg_base.specs.Pos.{start}
use Rattle.pg_base.specs.declared.pos.Pos.{Pos}
use Rattle.pg_base.specs.declared.enum_def.EnumDef.{EnumDef}
use Rattle.parse_rules.specs.Parser.{Outcome}
use Rattle.ddl_reader.specs.declared.fault.ScriptFault.{ScriptFault}
use Rattle.ddl_reader.specs.declared.fault.ScriptFault.TheVariants as fault
use Rattle.ddl_reader.specs.declared.lexeme.Lexeme.{Lexeme}
use Rattle.ddl_reader.specs.declared.lexeme.LexemeKind.{LexemeKind}
use Rattle.ddl_reader.specs.declared.lexeme.LexemeKind.TheVariants as kind
use Rattle.ddl_reader.specs.declared.word.Word.{Word}
use Rattle.ddl_reader.specs.declared.word.Word.TheVariants as word
use Rattle.ddl_reader.specs.Lexemes.{is_word, is_sign, is_identifier, is_at_end, lexemes}
use Rattle.ddl_reader.specs.Trees.{is_public}
use Rattle.ddl_reader.specs.Reading.{column_type}
use Rattle.ddl_reader.specs.Statements.{whole_statement}

-- ---- what fits

-- a parser of whole statements didn't stop before the end
abbrev pub takes_all : {A : Type 0} → Outcome Lexeme A → Bool
takes_all (Ok read) = true
takes_all (Err rest) = is_at_end rest

-- the text fits after the front
abbrev pub fits : List EnumDef → List Lexeme → List ℕ → Bool
fits enums front text = takes_all (whole_statement enums (front ++ lexemes text))

-- a name that no enum has: it is longer than 63 bytes
abbrev pub no_name : List ℕ
no_name = codes "xxxxxxxxxxxxxxxxxxxxxxxxxxxxxxxxxxxxxxxxxxxxxxxxxxxxxxxxxxxxxxxx"

-- ---- the end of a front

-- the last lexemes, this many
abbrev pub last_from : ℕ → List Lexeme → List Lexeme
last_from n front = drop (length front - n) front

abbrev pub without_last : ℕ → List Lexeme → List Lexeme
without_last n front = take (length front - n) front

-- ---- tests of a lexeme that may stand there

abbrev pub a_word_is : Word → Option Lexeme → Bool
a_word_is w None = false
a_word_is w (Some l) = is_word l.kind w

abbrev pub a_sign_is : ℕ → Option Lexeme → Bool
a_sign_is byte None = false
a_sign_is byte (Some l) = is_sign l.kind byte

abbrev pub is_a_name : Option Lexeme → Bool
is_a_name None = false
is_a_name (Some l) = is_identifier l.kind

abbrev pub is_schema : Option Lexeme → Bool
is_schema None = false
is_schema (Some l) = is_identifier l.kind && is_public l.text

-- the lexeme this many before the end of the front
abbrev pub last : ℕ → List Lexeme → Option Lexeme
last n front = if nat_lt (length front) n then None else slice_get front (length front - n)

-- the front's lexeme of this number, from 0 on
abbrev pub has_word : ℕ → Word → List Lexeme → Bool
has_word n w front = a_word_is w (slice_get front n)

-- ---- types

-- a type is wanted after the front: a built-in one fits there, and not every name
abbrev pub wants_type : List EnumDef → List Lexeme → Bool
wants_type enums front = fits enums front (codes "varchar(1)") && not (fits enums front no_name)

-- a parser took all lexemes up to the end
abbrev pub takes_whole : {A : Type 0} → Outcome Lexeme A → Bool
takes_whole (Ok read) = is_at_end read.1
takes_whole (Err rest) = false

abbrev pub is_type : List EnumDef → List Lexeme → Bool
is_type enums ts = takes_whole (column_type enums (ts ++ lexemes []))

-- the last lexemes of the front, this many, are a type in a type's place
abbrev pub ends_with_type : List EnumDef → List Lexeme → ℕ → Bool
ends_with_type enums front n = not (nat_lt (length front) n) && wants_type enums (without_last n front)
    && is_type enums (last_from n front)

-- how many lexemes the type has that ends the front: at most five
abbrev pub type_length : List EnumDef → List Lexeme → Option ℕ
type_length enums front = if ends_with_type enums front 1 then Some 1
    else (if ends_with_type enums front 2 then Some 2 else (if ends_with_type enums front 3 then Some 3
    else (if ends_with_type enums front 4 then Some 4 else (if ends_with_type enums front 5 then Some 5 else None))))

-- CHARACTER without VARYING, or the schema without an enum
abbrev pub is_half_type : List EnumDef → List Lexeme → Bool
is_half_type enums front = (a_word_is word.Character (last 1 front) || is_schema (last 1 front))
    && wants_type enums (without_last 1 front) && not (fits enums front (codes ")"))

-- the schema and `.`, and then a name that no enum has
abbrev pub is_half_enum : List EnumDef → List Lexeme → Bool
is_half_enum enums front = a_sign_is 46 (last 1 front) && is_schema (last 2 front)
    && wants_type enums (without_last 2 front)

-- how many lexemes before a name the first word of a type stands that isn't supported
abbrev pub bad_type_before_name : List EnumDef → List Lexeme → Option ℕ
bad_type_before_name enums front = if wants_type enums front then Some 0
    else (if is_half_type enums front then Some 1 else (if is_half_enum enums front then Some 2 else None))

-- before another token than a name: a half type, a type before `[`, or an enum before `.`
abbrev pub bad_type_before_sign : List EnumDef → List Lexeme → LexemeKind → Option ℕ
bad_type_before_sign enums front k = if is_half_type enums front then Some 1
    else (if is_sign k 91 then type_length enums front
    else (if not (is_sign k 46) then None else (if ends_with_type enums front 1 then Some 1 else None)))

-- how many lexemes before the stop the first word of a type stands that isn't supported
abbrev pub bad_type : List EnumDef → List Lexeme → LexemeKind → Option ℕ
bad_type enums front k = if is_identifier k then bad_type_before_name enums front
    else bad_type_before_sign enums front k

-- ---- clauses

abbrev pub is_refused_rule_word : LexemeKind → Bool
is_refused_rule_word k = is_word k word.Check || is_word k word.Exclude || is_word k word.Like || is_word k word.Collate

abbrev pub is_any_word : LexemeKind → Bool
is_any_word (kind.Word w) = true
is_any_word kind.Name = false
is_any_word kind.Str = false
is_any_word kind.Number = false
is_any_word (kind.Sign byte) = false
is_any_word kind.End = false
is_any_word (kind.Invalid which) = false

-- no lexeme stands before the stop, or CREATE alone
abbrev pub is_first_word : List Lexeme → Bool
is_first_word [] = true
is_first_word (l ∷ []) = is_word l.kind word.Create
is_first_word (l ∷ m ∷ ls) = false

-- CHECK, EXCLUDE, LIKE or COLLATE where a rule may begin
abbrev pub is_refused_rule : List EnumDef → List Lexeme → LexemeKind → Bool
is_refused_rule enums front k = is_refused_rule_word k && fits enums front (codes "unique")

-- another rule than those that ADD may have
abbrev pub is_refused_addition : List EnumDef → List Lexeme → Bool
is_refused_addition enums front =
    has_word 0 word.Alter front && a_word_is word.Add (last 1 front) && fits enums front (codes "constraint")

-- a word after the parenthesis that ends CREATE TABLE
abbrev pub is_refused_end : List EnumDef → List Lexeme → Bool
is_refused_end enums front = has_word 0 word.Create front && has_word 1 word.Table front && fits enums front (codes ";")

-- another action than those that are supported
abbrev pub is_refused_action : List EnumDef → List Lexeme → Bool
is_refused_action enums front = fits enums front (codes "no action") && not (fits enums front no_name)

abbrev pub is_refused_word : List EnumDef → List Lexeme → LexemeKind → Bool
is_refused_word enums front k = is_any_word k && (is_first_word front || (is_refused_rule enums front k
    || (is_refused_addition enums front || (is_refused_end enums front || is_refused_action enums front))))

-- after DEFAULT in a column another lexeme than a literal's first
abbrev pub is_refused_default : List EnumDef → List Lexeme → Bool
is_refused_default enums front = a_word_is word.Default (last 1 front) && fits enums front (codes "true")

-- an expression after GENERATED ALWAYS AS
abbrev pub is_refused_expression : List EnumDef → List Lexeme → LexemeKind → Bool
is_refused_expression enums front k = is_sign k 40 && a_word_is word.As (last 1 front)
    && a_word_is word.Always (last 2 front) && fits enums front (codes "identity")

abbrev pub is_refused : List EnumDef → List Lexeme → LexemeKind → Bool
is_refused enums front k = is_refused_default enums front || (is_refused_expression enums front k
    || is_refused_word enums front k)

-- ---- schemas

-- the last name of the front stands where a schema may
abbrev pub ends_with_schema : List EnumDef → List Lexeme → Bool
ends_with_schema enums front = is_a_name (last 1 front) && fits enums (without_last 1 front) (codes "public.")

-- so does the name before the last one, with `.` between
abbrev pub has_schema_before : List EnumDef → List Lexeme → Bool
has_schema_before enums front = is_a_name (last 3 front) && a_sign_is 46 (last 2 front) && is_a_name (last 1 front)
    && fits enums (without_last 3 front) (codes "public.x.")

-- how many lexemes before a `.` another schema stands
abbrev pub other_schema : List EnumDef → List Lexeme → LexemeKind → Option ℕ
other_schema enums front k =
    if not (is_sign k 46) then None
    else (if ends_with_schema enums front then Some 1 else (if has_schema_before enums front then Some 3 else None))

-- ---- the fault

-- the lexeme this many before the stop
abbrev pub back_from : List Lexeme → Lexeme → ℕ → Lexeme
back_from front stop n = unwrap_or (last n front) stop

abbrev pub bad_type_at : Lexeme → ScriptFault
bad_type_at l = fault.UnsupportedType l.pos l.text

abbrev pub bad_clause_at : Lexeme → ScriptFault
bad_clause_at l = fault.UnsupportedClause l.pos l.text

abbrev pub fault_by_schema : List Lexeme → Lexeme → Option ℕ → ScriptFault
fault_by_schema front stop None = fault.Syntax stop.pos
fault_by_schema front stop (Some n) = bad_clause_at (back_from front stop n)

abbrev pub fault_by_clause : List EnumDef → List Lexeme → Lexeme → ScriptFault
fault_by_clause enums front stop = if is_refused enums front stop.kind then bad_clause_at stop
    else fault_by_schema front stop (other_schema enums front stop.kind)

abbrev pub fault_by_type : List EnumDef → List Lexeme → Lexeme → Option ℕ → ScriptFault
fault_by_type enums front stop None = fault_by_clause enums front stop
fault_by_type enums front stop (Some n) = bad_type_at (back_from front stop n)

-- in another statement than an INSERT
abbrev pub statement_fault : List EnumDef → List Lexeme → Lexeme → ScriptFault
statement_fault enums front stop = fault_by_type enums front stop (bad_type enums front stop.kind)

-- SELECT, RETURNING and ON wherever they don't fit in an INSERT
abbrev pub is_refused_in_insert : LexemeKind → Bool
is_refused_in_insert k = is_word k word.Select || is_word k word.Returning || is_word k word.On

-- INSERT INTO and a name
abbrev pub is_insert_name : List Lexeme → Bool
is_insert_name front = (length front == 3) && is_a_name (last 1 front)

-- in an INSERT, where names stand before VALUES alone
abbrev pub insert_fault : List Lexeme → Lexeme → ScriptFault
insert_fault front stop = if is_refused_in_insert stop.kind then bad_clause_at stop
    else (if is_sign stop.kind 46 && is_insert_name front then bad_clause_at (back_from front stop 1)
    else fault.Syntax stop.pos)

abbrev pub inner_fault : List EnumDef → List Lexeme → Lexeme → ScriptFault
inner_fault enums front stop = if has_word 0 word.Insert front then insert_fault front stop
    else statement_fault enums front stop

-- at a stop: the lexical fault that stands there, a syntax fault at the end, or what the front tells
abbrev pub fault_at_kind : List EnumDef → List Lexeme → Lexeme → LexemeKind → ScriptFault
fault_at_kind enums front stop (kind.Invalid which) = fault.Lexical (record { which = which; pos = stop.pos })
fault_at_kind enums front stop kind.End = fault.Syntax stop.pos
fault_at_kind enums front stop (kind.Word w) = inner_fault enums front stop
fault_at_kind enums front stop kind.Name = inner_fault enums front stop
fault_at_kind enums front stop kind.Str = inner_fault enums front stop
fault_at_kind enums front stop kind.Number = inner_fault enums front stop
fault_at_kind enums front stop (kind.Sign byte) = inner_fault enums front stop

abbrev pub fault_before : List EnumDef → List Lexeme → Lexeme → ScriptFault
fault_before enums front stop = fault_at_kind enums front stop stop.kind

abbrev pub stands_at : Pos → Pos → Bool
stands_at p q = (p.line == q.line) && (p.column == q.column)

-- the lexemes before the one at the position
abbrev pub lexemes_before : Pos → List Lexeme → List Lexeme
lexemes_before pos [] = []
lexemes_before pos (l ∷ ls) = if stands_at l.pos pos then [] else l ∷ lexemes_before pos ls

-- Of a statement that stops before the rest. The lexemes never run out before a fault, since the end is one of them:
-- where none is left there is no place to name, and the fault is told at the start.
abbrev pub stop_fault : List EnumDef → List Lexeme → List Lexeme → ScriptFault
stop_fault enums ts [] = fault.Syntax start.pos
stop_fault enums ts (stop ∷ rest) = fault_before enums (lexemes_before stop.pos ts) stop
