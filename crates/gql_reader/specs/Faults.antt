-- How the tokens of a document end, and the fault where a document doesn't go on.
use Rattle.std.specs.Prelude.{ℕ, Bool, true, false, ◌&&◌, ◌==◌, if◌then◌else◌, Option, Some, None}
use Rattle.pg_base.specs.declared.pos.Pos.{Pos}
use Rattle.gql_lex.specs.declared.lexer.Ending.{Ending}
use Rattle.gql_lex.specs.declared.lexer.Ending.TheVariants.{End, Invalid, TooManyTokens}
use Rattle.gql_reader.specs.declared.fault.ReadFault.{ReadFault}
use Rattle.gql_reader.specs.declared.fault.ReadFault.TheVariants.{At}
use Rattle.gql_reader.specs.declared.lexeme.Lexeme.{Lexeme}
use Rattle.gql_reader.specs.Grammar.{kind_opens}
use Rattle.gql_reader.specs.Reading.{limit}

-- the tokens end with the text
abbrev pub is_end : Ending → Bool
is_end (End pos) = true
is_end (Invalid pos) = false
is_end (TooManyTokens pos) = false

-- no token begins, or the bytes aren't UTF-8
abbrev pub lexical_fault : ℕ
lexical_fault = 1

-- no document has this token, or the end, after the tokens before it
abbrev pub syntax_fault : ℕ
syntax_fault = 2

-- one bracket too many opens
abbrev pub too_deep : ℕ
too_deep = 3

-- one token too many begins
abbrev pub too_many_tokens : ℕ
too_many_tokens = 4

abbrev pub fault : ℕ → Pos → ReadFault
fault which pos = At which pos

-- where the tokens end
abbrev pub fault_at_end : Ending → ReadFault
fault_at_end (End pos) = fault syntax_fault pos
fault_at_end (Invalid pos) = fault lexical_fault pos
fault_at_end (TooManyTokens pos) = fault too_many_tokens pos

-- where a token comes next, or the tokens end, with this many brackets open
abbrev pub fault_before : Ending → ℕ → Option Lexeme → ReadFault
fault_before ending depth None = fault_at_end ending
fault_before ending depth (Some m) = fault
    (if kind_opens m.kind && depth == limit then too_deep else syntax_fault) m.pos
