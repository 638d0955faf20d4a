-- The tokens of a script with what they stand for. They end with the end of the script, or where no token can be read.
use Rattle.std.specs.Prelude.{◌≡◌, ℕ, zero, suc, ◌-◌, ◌≤◌, take, Bool, true, false, ◌&&◌, ◌||◌, ◌==◌, not, if◌then◌else◌, List, [], ◌∷◌, length, Result, Ok, Err, Option, Some, None, ⊤}
use Rattle.sql_lex.specs.declared.token.Token.{Token}
use Rattle.sql_lex.specs.declared.token.LexFault.{LexFault}
use Rattle.sql_lex.specs.declared.token.TokenKind.{TokenKind}
use Rattle.sql_lex.specs.declared.token.TokenKind.TheVariants as token
use Rattle.sql_lex.specs.Lex.{first_token, IsTokenOf}
use Rattle.sql_lex.specs.Value.{spelling, folded, unquoted_name, string_value}
use Rattle.ddl_reader.specs.declared.lexeme.Lexeme.{Lexeme}
use Rattle.ddl_reader.specs.declared.lexeme.LexemeKind.{LexemeKind}
use Rattle.ddl_reader.specs.declared.lexeme.LexemeKind.TheVariants as kind
use Rattle.ddl_reader.specs.declared.lexeme.Expected.{Expected}
use Rattle.ddl_reader.specs.declared.lexeme.Expected.TheVariants as want
use Rattle.ddl_reader.specs.declared.word.Word.{Word}
use Rattle.ddl_reader.specs.declared.word.Word.TheVariants as word
use Rattle.pg_base.specs.declared.pos.PosCounter.{PosCounter}
use Rattle.pg_base.specs.Pos.{counter_after, start}
use Rattle.ddl_reader.specs.Words.{word_of, same_word, is_reserved}

-- ---- lexemes

abbrev pub kind_by : TokenKind → List ℕ → LexemeKind
kind_by token.Word bytes = kind.Word (word_of bytes)
kind_by token.Quoted bytes = kind.Name
kind_by token.Str bytes = kind.Str
kind_by token.EscStr bytes = kind.Str
kind_by token.Number bytes = kind.Number
kind_by (token.Sign byte) bytes = kind.Sign byte
kind_by token.End bytes = kind.End

-- what a token of this text is
abbrev pub kind_of : List ℕ → Token → LexemeKind
kind_of text t = kind_by t.kind (spelling text t)

-- what it stands for: a word in lower case, a name or a string without its quotes, what else as it is written
abbrev pub text_by : TokenKind → List ℕ → Token → List ℕ
text_by token.Word text t = folded text t
text_by token.Quoted text t = unquoted_name text t
text_by token.Str text t = string_value text t
text_by token.EscStr text t = string_value text t
text_by token.Number text t = spelling text t
text_by (token.Sign byte) text t = spelling text t
text_by token.End text t = spelling text t

abbrev pub lexeme_of : List ℕ → Token → Lexeme
lexeme_of text t = record { kind = kind_of text t; text = text_by t.kind text t; pos = t.pos }

-- what stands in the place of a token that can't be read
abbrev pub invalid : LexFault → Lexeme
invalid fault = record { kind = kind.Invalid fault.which; text = []; pos = fault.pos }

abbrev pub lexeme_at : List ℕ → Result Token LexFault → Lexeme
lexeme_at text (Ok t) = lexeme_of text t
lexeme_at text (Err fault) = invalid fault

abbrev pub is_end_token : TokenKind → Bool
is_end_token token.End = true
is_end_token token.Word = false
is_end_token token.Quoted = false
is_end_token token.Str = false
is_end_token token.EscStr = false
is_end_token token.Number = false
is_end_token (token.Sign byte) = false

-- the lexemes after one, by those from each place on
abbrev pub after_by : (ℕ → List Lexeme) → Result Token LexFault → List Lexeme
after_by from (Ok t) = if is_end_token t.kind then [] else from t.«to»
after_by from (Err fault) = []

-- at most n lexemes from a place on
unfoldable pub some_lexemes : ℕ → List ℕ → ℕ → List Lexeme
some_lexemes zero text at = []
some_lexemes (suc n) text at =
    lexeme_at text (first_token text at) ∷ after_by (some_lexemes n text) (first_token text at)

-- the lexemes of the text from a place on: each token but the end takes a byte
abbrev pub lexemes_from : List ℕ → ℕ → List Lexeme
lexemes_from text at = some_lexemes (suc (length text - at)) text at

-- all lexemes of a script
abbrev pub lexemes : List ℕ → List Lexeme
lexemes text = lexemes_from text 0

-- the lexemes from one on
abbrev pub lexemes_on : List ℕ → Option (Result Token LexFault) → List Lexeme
lexemes_on text None = []
lexemes_on text (Some read) = lexeme_at text read ∷ after_by (lexemes_from text) read

-- the lexemes after the next one, by those from each place on
abbrev pub after_next : (ℕ → List Lexeme) → Option (Result Token LexFault) → List Lexeme
after_next from None = []
after_next from (Some read) = after_by from read

-- a token that was read is one of the text's
abbrev pub IsReadOf : List ℕ → Result Token LexFault → Type 0
IsReadOf text (Ok t) = IsTokenOf text t
IsReadOf text (Err fault) = ⊤

-- ---- what the grammar asks of a lexeme

abbrev pub is_word : LexemeKind → Word → Bool
is_word (kind.Word w) wanted = same_word w wanted
is_word kind.Name wanted = false
is_word kind.Str wanted = false
is_word kind.Number wanted = false
is_word (kind.Sign byte) wanted = false
is_word kind.End wanted = false
is_word (kind.Invalid which) wanted = false

abbrev pub is_sign : LexemeKind → ℕ → Bool
is_sign (kind.Sign byte) wanted = byte == wanted
is_sign (kind.Word w) wanted = false
is_sign kind.Name wanted = false
is_sign kind.Str wanted = false
is_sign kind.Number wanted = false
is_sign kind.End wanted = false
is_sign (kind.Invalid which) wanted = false

-- a quoted name, or a word that isn't reserved
abbrev pub is_identifier : LexemeKind → Bool
is_identifier (kind.Word w) = not (is_reserved w)
is_identifier kind.Name = true
is_identifier kind.Str = false
is_identifier kind.Number = false
is_identifier (kind.Sign byte) = false
is_identifier kind.End = false
is_identifier (kind.Invalid which) = false

abbrev pub is_str : LexemeKind → Bool
is_str kind.Str = true
is_str (kind.Word w) = false
is_str kind.Name = false
is_str kind.Number = false
is_str (kind.Sign byte) = false
is_str kind.End = false
is_str (kind.Invalid which) = false

abbrev pub is_number : LexemeKind → Bool
is_number kind.Number = true
is_number (kind.Word w) = false
is_number kind.Name = false
is_number kind.Str = false
is_number (kind.Sign byte) = false
is_number kind.End = false
is_number (kind.Invalid which) = false

abbrev pub is_end : LexemeKind → Bool
is_end kind.End = true
is_end (kind.Word w) = false
is_end kind.Name = false
is_end kind.Str = false
is_end kind.Number = false
is_end (kind.Sign byte) = false
is_end (kind.Invalid which) = false

abbrev pub is_invalid : LexemeKind → Bool
is_invalid (kind.Invalid which) = true
is_invalid (kind.Word w) = false
is_invalid kind.Name = false
is_invalid kind.Str = false
is_invalid kind.Number = false
is_invalid (kind.Sign byte) = false
is_invalid kind.End = false

-- `;` or the end
abbrev pub is_last : LexemeKind → Bool
is_last k = is_sign k 59 || is_end k

abbrev pub begins_literal : LexemeKind → Bool
begins_literal k = is_number k || is_str k || is_sign k 45 || is_word k word.True || is_word k word.False
    || is_word k word.Null

abbrev pub is_column_rule_word : LexemeKind → Bool
is_column_rule_word k = is_word k word.Not || is_word k word.Null || is_word k word.Primary || is_word k word.Unique
    || is_word k word.Default || is_word k word.References || is_word k word.Generated

abbrev pub is_rule_word : LexemeKind → Bool
is_rule_word k = is_word k word.Primary || is_word k word.Unique || is_word k word.Foreign

-- a rule, or CHECK, EXCLUDE, LIKE, COLLATE, of which no rule begins
abbrev pub begins_table_rule : LexemeKind → Bool
begins_table_rule k = is_word k word.Constraint || is_rule_word k || is_word k word.Check || is_word k word.Exclude
    || is_word k word.Like
    || is_word k word.Collate

abbrev pub is_built_in : LexemeKind → Bool
is_built_in k = is_word k word.TextType || is_word k word.IntegerType || is_word k word.BigIntType
    || is_word k word.SerialType || is_word k word.BigSerialType || is_word k word.BooleanType

-- a lexeme of this kind is what is expected
abbrev pub kind_is : Expected → LexemeKind → Bool
kind_is (want.Word wanted) k = is_word k wanted
kind_is (want.Sign wanted) k = is_sign k wanted
kind_is want.Identifier k = is_identifier k
kind_is want.Str k = is_str k
kind_is want.Number k = is_number k
kind_is want.LiteralStart k = begins_literal k
kind_is want.SkippedStart k =
    is_word k word.Begin || is_word k word.Commit || is_word k word.Start || is_word k word.Set
kind_is want.SkippedObject k = is_word k word.Index || is_word k word.Extension
kind_is want.Inner k = not (is_last k) && not (is_invalid k)
kind_is want.Last k = is_last k
kind_is want.ColumnRule k = is_word k word.Constraint || is_column_rule_word k
kind_is want.ColumnRuleWord k = is_column_rule_word k
kind_is want.RuleWord k = is_rule_word k
kind_is want.TableRule k = begins_table_rule k
kind_is want.Change k = is_word k word.Delete || is_word k word.Update

abbrev pub is : Expected → Lexeme → Bool
is wanted lexeme = kind_is wanted lexeme.kind

abbrev pub is_a : Word → Lexeme → Bool
is_a w = is (want.Word w)

abbrev pub is_the : ℕ → Lexeme → Bool
is_the byte = is (want.Sign byte)

-- no lexeme but the end is left
abbrev pub is_at_end : List Lexeme → Bool
is_at_end [] = true
is_at_end (l ∷ ls) = is_end l.kind

-- ---- how a reader keeps its place

-- a token of the text, or a fault, with its kind
abbrev pub IsRead : List ℕ → Result Token LexFault → LexemeKind → Type 0
IsRead text read k = IsReadOf text read × (k ≡ (lexeme_at text read).kind)

-- where the counter stands after a token
abbrev pub CountsAfter : List ℕ → Result Token LexFault → PosCounter → Type 0
CountsAfter text (Ok t) counter = (t.«to» ≤ length text) × (counter ≡ counter_after start (take t.«to» text))
CountsAfter text (Err fault) counter = ⊤

abbrev pub CountsAfterNext : List ℕ → Option (Result Token LexFault) → PosCounter → Type 0
CountsAfterNext text None counter = ⊤
CountsAfterNext text (Some read) counter = CountsAfter text read counter

abbrev pub IsNext : List ℕ → Option (Result Token LexFault) → LexemeKind → Type 0
IsNext text None k = ⊤
IsNext text (Some read) k = IsRead text read k

abbrev pub StandsBefore : List ℕ → Option (Result Token LexFault) → LexemeKind → PosCounter → Type 0
StandsBefore text next k counter = IsNext text next k × CountsAfterNext text next counter
