-- What the tokens of a production spell.
use Rattle.std.specs.Prelude.{ℕ, ◌+◌, ◌*◌, ◌-◌, Bool, true, false, ◌&&◌, ◌||◌, nat_le, nat_lt, if◌then◌else◌, List, [], ◌∷◌, Option, unwrap_or, codes, position, min}
use Rattle.std.specs.List.{list_any}
use Rattle.std.specs.Str.{bytes_eq}
use Rattle.pg_base.specs.Limits.{most_text_bytes}
use Rattle.pg_base.specs.declared.pos.Pos.{Pos}
use Rattle.pg_base.specs.declared.kind.Kind.{Kind}
use Rattle.pg_base.specs.declared.kind.Kind.TheVariants as column_kind
use Rattle.pg_base.specs.declared.enum_def.EnumDef.{EnumDef}
use Rattle.ddl_reader.specs.declared.lexeme.Lexeme.{Lexeme}
use Rattle.ddl_reader.specs.declared.lexeme.LexemeKind.{LexemeKind}
use Rattle.ddl_reader.specs.declared.word.Word.TheVariants as word
use Rattle.ddl_reader.specs.declared.script.Literal.{Literal}
use Rattle.ddl_reader.specs.declared.script.Literal.TheVariants as literal_is
use Rattle.ddl_reader.specs.declared.statement.Name.{Name}
use Rattle.ddl_reader.specs.declared.statement.Statement.{Statement}
use Rattle.ddl_reader.specs.declared.statement.Statement.TheVariants as statement_is
use Rattle.ddl_reader.specs.declared.statement.Element.{Element}
use Rattle.ddl_reader.specs.declared.statement.Element.TheVariants as element_is
use Rattle.ddl_reader.specs.declared.statement.ColumnType.{ColumnType}
use Rattle.ddl_reader.specs.declared.statement.ColumnRule.{ColumnRule}
use Rattle.ddl_reader.specs.declared.statement.ColumnRuleKind.{ColumnRuleKind}
use Rattle.ddl_reader.specs.declared.statement.Rule.{Rule}
use Rattle.ddl_reader.specs.declared.statement.RuleKind.{RuleKind}
use Rattle.ddl_reader.specs.declared.statement.Reference.{Reference}
use Rattle.ddl_reader.specs.declared.statement.Target.{Target}
use Rattle.ddl_reader.specs.declared.statement.Row.{Row}
use Rattle.ddl_reader.specs.Lexemes.{is_word, is_number, is_str, is_identifier, is_built_in}

-- ---- names

abbrev pub named : Lexeme → Name
named l = record { text = l.text; pos = l.pos }

-- the one schema that there is
abbrev pub is_public : List ℕ → Bool
is_public text = bytes_eq text (codes "public")

-- ---- literals

abbrev pub literal_of : Lexeme → Literal
literal_of l =
    if is_number l.kind then literal_is.Number l.text
    else (if is_str l.kind then literal_is.Str l.text
    else (if is_word l.kind word.True then literal_is.True
    else (if is_word l.kind word.False then literal_is.False
    else literal_is.Null)))

-- ---- types

-- the least number that is too great for a length
abbrev pub too_great : ℕ
too_great = most_text_bytes + 1

-- a number with one more digit, where those that are too great are one
abbrev pub longer : ℕ → ℕ → ℕ
longer n digit = min (10 * n + (digit - 48)) too_great

abbrev pub decimal_after : ℕ → List ℕ → ℕ
decimal_after n [] = n
decimal_after n (digit ∷ digits) = decimal_after (longer n digit) digits

-- the number that digits spell, where it isn't too great
abbrev pub decimal : List ℕ → ℕ
decimal digits = decimal_after 0 digits

abbrev pub plain_type : Kind → ColumnType
plain_type k = record { kind = k; serial = false }

abbrev pub serial_type : Kind → ColumnType
serial_type k = record { kind = k; serial = true }

abbrev pub text_type : ColumnType
text_type = plain_type column_kind.Text

abbrev pub is_length_number : ℕ → Bool
is_length_number n = nat_le 1 n && nat_lt n too_great

abbrev pub is_length_text : List ℕ → Bool
is_length_text digits = is_length_number (decimal digits)

abbrev pub is_length_of : LexemeKind → List ℕ → Bool
is_length_of k digits = is_number k && is_length_text digits

-- what a length may be
abbrev pub is_length : Lexeme → Bool
is_length l = is_length_of l.kind l.text

abbrev pub length_type : List ℕ → ColumnType
length_type digits = plain_type (column_kind.Varchar (decimal digits))

abbrev pub built_in_type : LexemeKind → ColumnType
built_in_type k =
    if is_word k word.TextType then text_type
    else (if is_word k word.IntegerType then plain_type column_kind.Int
    else (if is_word k word.BigIntType then plain_type column_kind.BigInt
    else (if is_word k word.SerialType then serial_type column_kind.Int
    else (if is_word k word.BigSerialType then serial_type column_kind.BigInt
    else plain_type column_kind.Bool))))

-- an enum of these has the name
abbrev pub stands_in : List EnumDef → List ℕ → Bool
stands_in enums name = list_any (λ e. bytes_eq name e.name) enums

abbrev pub place_in : List EnumDef → List ℕ → ℕ
place_in enums name = unwrap_or (position (λ e. bytes_eq name e.name) enums) 0

abbrev pub enum_type : List EnumDef → List ℕ → ColumnType
enum_type enums name = plain_type (column_kind.Enum (place_in enums name))

abbrev pub is_enum_of : List EnumDef → LexemeKind → List ℕ → Bool
is_enum_of enums k text = is_identifier k && stands_in enums text

abbrev pub is_enum : List EnumDef → Lexeme → Bool
is_enum enums l = is_enum_of enums l.kind l.text

-- some enum stands
abbrev pub has_some : List EnumDef → Bool
has_some [] = false
has_some (e ∷ enums) = true

-- the schema, after which an enum may follow
abbrev pub is_schema_of : List EnumDef → List ℕ → Bool
is_schema_of enums text = is_public text && has_some enums

-- an enum, or the schema before it
abbrev pub begins_enum_of : List EnumDef → LexemeKind → List ℕ → Bool
begins_enum_of enums k text = is_identifier k && (is_schema_of enums text || stands_in enums text)

-- a type's first word: a built-in type of one word, an enum, or the schema before it
abbrev pub is_known_type_of : List EnumDef → LexemeKind → List ℕ → Bool
is_known_type_of enums k text = is_built_in k || begins_enum_of enums k text

abbrev pub is_known_type : List EnumDef → Lexeme → Bool
is_known_type enums l = is_known_type_of enums l.kind l.text

-- ---- rules and elements

abbrev pub reference_of : Name → Option (List (List ℕ)) → Reference
reference_of table columns = record { table = table.text; columns = columns }

-- where a rule begins: at CONSTRAINT, or else at its first word
abbrev pub column_rule_of : Option Pos → Option (List ℕ) → Lexeme → ColumnRuleKind → ColumnRule
column_rule_of begins name first what = record { pos = unwrap_or begins first.pos; name = name; what = what }

abbrev pub rule_of : Option Pos → Option (List ℕ) → Lexeme → RuleKind → Rule
rule_of begins name first what = record { pos = unwrap_or begins first.pos; name = name; what = what }

abbrev pub column_of : Lexeme → ColumnType → List ColumnRule → Element
column_of first kind rules = element_is.Column (record { name = named first; kind = kind; rules = rules })

-- ---- statements

abbrev pub enum_statement : Name → List (List ℕ) → Statement
enum_statement name labels = statement_is.Enum (record { name = name; labels = labels })

abbrev pub table_statement : (Bool × Name) → List Element → Statement
table_statement table elements =
    statement_is.Table (record { name = table.1; unless_there = table.0; elements = elements })

abbrev pub rule_statement : Name → Rule → Statement
rule_statement table added = statement_is.Rule (record { table = table; rule = added })

abbrev pub comment_statement : Target → Option (List ℕ) → Statement
comment_statement on text = statement_is.Comment (record { target = on; text = text })

abbrev pub insert_statement : Name → Option (List (List ℕ)) → Statement
insert_statement table columns = statement_is.Insert (record { table = table; columns = columns })

abbrev pub row_of : Lexeme → ℕ → List Literal → Row
row_of first number cells = record { pos = first.pos; insert = number; cells = cells }
