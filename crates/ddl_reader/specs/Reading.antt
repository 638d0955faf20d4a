-- The grammar as parsers that look one token ahead.
use Rattle.std.specs.Prelude.{ℕ, Bool, true, false, if◌then◌else◌, List, [], ◌∷◌, ◌++◌, Option, Some, None}
use Rattle.pg_base.specs.declared.pos.Pos.{Pos}
use Rattle.pg_base.specs.declared.enum_def.EnumDef.{EnumDef}
use Rattle.parse_rules.specs.Parser.{Parser, ◌>>=◌, pure, expect, either, optional, while, separated, while_onto, skip_while, before}
use Rattle.ddl_reader.specs.declared.lexeme.Lexeme.{Lexeme}
use Rattle.ddl_reader.specs.declared.lexeme.LexemeKind.{LexemeKind}
use Rattle.ddl_reader.specs.declared.lexeme.Expected.TheVariants as want
use Rattle.ddl_reader.specs.declared.word.Word.{Word}
use Rattle.ddl_reader.specs.declared.word.Word.TheVariants as word
use Rattle.ddl_reader.specs.declared.script.Literal.{Literal}
use Rattle.ddl_reader.specs.declared.script.Literal.TheVariants as literal_is
use Rattle.ddl_reader.specs.declared.statement.Name.{Name}
use Rattle.ddl_reader.specs.declared.statement.Statement.{Statement}
use Rattle.ddl_reader.specs.declared.statement.Statement.TheVariants as statement_is
use Rattle.ddl_reader.specs.declared.statement.Element.{Element}
use Rattle.ddl_reader.specs.declared.statement.Element.TheVariants as element_is
use Rattle.ddl_reader.specs.declared.statement.ColumnType.{ColumnType}
use Rattle.ddl_reader.specs.declared.statement.ColumnRule.{ColumnRule}
use Rattle.ddl_reader.specs.declared.statement.ColumnRuleKind.{ColumnRuleKind}
use Rattle.ddl_reader.specs.declared.statement.ColumnRuleKind.TheVariants as column_rule_is
use Rattle.ddl_reader.specs.declared.statement.Rule.{Rule}
use Rattle.ddl_reader.specs.declared.statement.RuleKind.{RuleKind}
use Rattle.ddl_reader.specs.declared.statement.RuleKind.TheVariants as rule_is
use Rattle.ddl_reader.specs.declared.statement.Reference.{Reference}
use Rattle.ddl_reader.specs.declared.statement.Target.{Target}
use Rattle.ddl_reader.specs.declared.statement.Target.TheVariants as target_is
use Rattle.ddl_reader.specs.declared.statement.Row.{Row}
use Rattle.ddl_reader.specs.Lexemes.{is, is_a, is_the, is_word, is_sign, is_built_in}
use Rattle.ddl_reader.specs.Trees.{named, is_public, is_length, length_type, built_in_type, stands_in, enum_type, is_enum, is_known_type, is_schema_of, literal_of, text_type, column_of, rule_of, column_rule_of, reference_of, table_statement, enum_statement, rule_statement, comment_statement, insert_statement, row_of}

abbrev pub Reader : Type 0 → Type 0
Reader A = Parser Lexeme A

-- one of two parsers, by a fact that is known
abbrev pub choose : {A : Type 0} → Bool → Reader A → Reader A → Reader A
choose b p q = λ ts. if b then p ts else q ts

abbrev pub a_word : Word → Reader Lexeme
a_word w = expect (is_a w)

abbrev pub a_sign : ℕ → Reader Lexeme
a_sign byte = expect (is_the byte)

abbrev pub comma : Lexeme → Bool
comma = is_the 44

abbrev pub opening : Lexeme → Bool
opening = is_the 40

abbrev pub dot : Lexeme → Bool
dot = is_the 46

-- ---- names

-- '.' identifier
unfoldable pub qualified : Pos → Reader Name
qualified place = do
  t ← a_sign 46
  inner ← expect (is want.Identifier)
  pure (record { text = inner.text; pos = place })

-- [public '.'] identifier
unfoldable pub name : Reader Name
name = do
  first ← expect (is want.Identifier)
  choose (is_public first.text) (optional dot (named first) (qualified first.pos)) (pure (named first))

unfoldable pub identifier : Reader (List ℕ)
identifier = do
  l ← expect (is want.Identifier)
  pure l.text

abbrev pub identifiers : Reader (List (List ℕ))
identifiers = separated comma identifier

-- '(' identifier {',' identifier} ')'
unfoldable pub columns : Reader (List (List ℕ))
columns = do
  t ← a_sign 40
  found ← identifiers
  u ← a_sign 41
  pure found

unfoldable pub some_columns : Reader (Option (List (List ℕ)))
some_columns = do
  found ← columns
  pure (Some found)

-- ['(' identifier {',' identifier} ')']
abbrev pub optional_columns : Reader (Option (List (List ℕ)))
optional_columns = optional opening None some_columns

-- ---- literals

unfoldable pub negative : Reader Literal
negative = do
  digits ← expect (is want.Number)
  pure (literal_is.Number (45 ∷ digits.text))

-- ['-'] Number | string | TRUE | FALSE | NULL
unfoldable pub literal : Reader Literal
literal = do
  first ← expect (is want.LiteralStart)
  choose (is_sign first.kind 45) negative (pure (literal_of first))

unfoldable pub default_value : Reader Literal
default_value = do
  t ← a_word word.Default
  pure literal_is.Default

-- literal | DEFAULT
unfoldable pub value : Reader Literal
value = either (is_a word.Default) default_value literal

-- ---- types

unfoldable pub length_number : Reader ColumnType
length_number = do
  n ← expect is_length
  pure (length_type n.text)

-- '(' Number ')'
unfoldable pub type_length : Reader ColumnType
type_length = do
  t ← a_sign 40
  found ← length_number
  u ← a_sign 41
  pure found

-- varchar or character varying after its words
abbrev pub optional_length : Reader ColumnType
optional_length = optional opening text_type type_length

unfoldable pub varchar : Reader ColumnType
varchar = do
  t ← a_word word.Varchar
  optional_length

unfoldable pub varying : Reader ColumnType
varying = do
  t ← a_word word.Varying
  optional_length

-- CHARACTER VARYING, or an enum of this name
unfoldable pub character : List EnumDef → Reader ColumnType
character enums = do
  first ← a_word word.Character
  choose (stands_in enums first.text) (optional (is_a word.Varying) (enum_type enums first.text) varying) varying

unfoldable pub plain_enum : List EnumDef → Reader ColumnType
plain_enum enums = do
  l ← expect (is_enum enums)
  pure (enum_type enums l.text)

-- '.' enum
unfoldable pub qualified_enum : List EnumDef → Reader ColumnType
qualified_enum enums = do
  t ← a_sign 46
  plain_enum enums

-- after a type's first word: a built-in type, the schema before an enum, or an enum
abbrev pub type_after : List EnumDef → LexemeKind → List ℕ → Reader ColumnType
type_after enums k text = choose (is_built_in k) (pure (built_in_type k)) (choose (is_schema_of enums text)
    (choose (stands_in enums text) (optional dot (enum_type enums text) (qualified_enum enums)) (qualified_enum enums))
    (pure (enum_type enums text)))

-- a built-in type of one word, or [public '.'] enum
unfoldable pub known_type : List EnumDef → Reader ColumnType
known_type enums = do
  first ← expect (is_known_type enums)
  type_after enums first.kind first.text

unfoldable pub column_type : List EnumDef → Reader ColumnType
column_type enums =
    either (is_a word.Character) (character enums) (either (is_a word.Varchar) varchar (known_type enums))

-- ---- rules

unfoldable pub no_action : Reader (Unit {0})
no_action = do
  t ← a_word word.No
  u ← a_word word.Action
  pure tt

unfoldable pub restrict : Reader (Unit {0})
restrict = do
  t ← a_word word.Restrict
  pure tt

-- ON (DELETE | UPDATE) (NO ACTION | RESTRICT)
unfoldable pub action : Reader (Unit {0})
action = do
  t ← a_word word.On
  u ← expect (is want.Change)
  either (is_a word.No) no_action restrict

abbrev pub actions : Reader (Unit {0})
actions = while (is_a word.On) action >>= λ found. pure tt

-- after REFERENCES
unfoldable pub reference : Reader Reference
reference = do
  table ← name
  named_columns ← optional_columns
  ignored ← actions
  pure (reference_of table named_columns)

unfoldable pub always : Reader (Unit {0})
always = do
  t ← a_word word.Always
  pure tt

unfoldable pub by_default : Reader (Unit {0})
by_default = do
  t ← a_word word.By
  u ← a_word word.Default
  pure tt

abbrev pub generation : Reader (Unit {0})
generation = either (is_a word.Always) always by_default

-- after GENERATED
unfoldable pub identity : Reader ColumnRuleKind
identity = do
  ignored ← generation
  t ← a_word word.As
  u ← a_word word.Identity
  pure column_rule_is.Identity

unfoldable pub not_null : Reader ColumnRuleKind
not_null = do
  t ← a_word word.Null
  pure column_rule_is.NotNull

unfoldable pub primary : Reader ColumnRuleKind
primary = do
  t ← a_word word.Key
  pure column_rule_is.Primary

unfoldable pub default : Reader ColumnRuleKind
default = do
  value ← literal
  pure (column_rule_is.Default value)

unfoldable pub refers : Reader ColumnRuleKind
refers = do
  target ← reference
  pure (column_rule_is.Refers target)

-- after a column rule's first word
abbrev pub column_rule_after : LexemeKind → Reader ColumnRuleKind
column_rule_after k = choose (is_word k word.Not) not_null (choose (is_word k word.Null) (pure column_rule_is.Null)
    (choose (is_word k word.Primary) primary (choose (is_word k word.Unique) (pure column_rule_is.Unique)
    (choose (is_word k word.Default) default (choose (is_word k word.References) refers identity)))))

-- a column rule without its name, which begins there
unfoldable pub unnamed_column_rule : Option Pos → Option (List ℕ) → Reader ColumnRule
unnamed_column_rule begins constraint = do
  first ← expect (is want.ColumnRuleWord)
  what ← column_rule_after first.kind
  pure (column_rule_of begins constraint first what)

unfoldable pub named_column_rule : Reader ColumnRule
named_column_rule = do
  first ← a_word word.Constraint
  constraint ← identifier
  unnamed_column_rule (Some first.pos) (Some constraint)

-- [CONSTRAINT identifier] columnrule
unfoldable pub column_rule : Reader ColumnRule
column_rule = either (is_a word.Constraint) named_column_rule (unnamed_column_rule None None)

abbrev pub column_rules : Reader (List ColumnRule)
column_rules = while (is want.ColumnRule) column_rule

unfoldable pub primary_key : Reader RuleKind
primary_key = do
  t ← a_word word.Key
  found ← columns
  pure (rule_is.Primary found)

unfoldable pub unique : Reader RuleKind
unique = do
  found ← columns
  pure (rule_is.Unique found)

unfoldable pub foreign : Reader RuleKind
foreign = do
  t ← a_word word.Key
  found ← columns
  u ← a_word word.References
  target ← reference
  pure (rule_is.Foreign found target)

-- after a rule's first word
abbrev pub rule_after : LexemeKind → Reader RuleKind
rule_after k = choose (is_word k word.Primary) primary_key (choose (is_word k word.Unique) unique foreign)

unfoldable pub unnamed_rule : Option Pos → Option (List ℕ) → Reader Rule
unnamed_rule begins constraint = do
  first ← expect (is want.RuleWord)
  what ← rule_after first.kind
  pure (rule_of begins constraint first what)

unfoldable pub named_rule : Reader Rule
named_rule = do
  first ← a_word word.Constraint
  constraint ← identifier
  unnamed_rule (Some first.pos) (Some constraint)

-- [CONSTRAINT identifier] (PRIMARY KEY columns | UNIQUE columns | FOREIGN KEY columns refers)
unfoldable pub rule : Reader Rule
rule = either (is_a word.Constraint) named_rule (unnamed_rule None None)

-- ---- statements

unfoldable pub rule_element : Reader Element
rule_element = do
  found ← rule
  pure (element_is.Rule found)

-- column type {[CONSTRAINT identifier] columnrule}
unfoldable pub column_element : List EnumDef → Reader Element
column_element enums = do
  first ← expect (is want.Identifier)
  kind ← column_type enums
  rules ← column_rules
  pure (column_of first kind rules)

unfoldable pub element : List EnumDef → Reader Element
element enums = either (is want.TableRule) rule_element (column_element enums)

-- NOT EXISTS name
unfoldable pub not_exists : Reader (Bool × Name)
not_exists = do
  t ← a_word word.Not
  u ← a_word word.Exists
  table ← name
  pure (true, table)

-- after IF, which is the table's name where NOT doesn't follow
unfoldable pub if_not_exists : Reader (Bool × Name)
if_not_exists = do
  first ← a_word word.If
  optional (is_a word.Not) (false, named first) not_exists

unfoldable pub plain_name : Reader (Bool × Name)
plain_name = do
  table ← name
  pure (false, table)

-- [IF NOT EXISTS] name
abbrev pub new_name : Reader (Bool × Name)
new_name = either (is_a word.If) if_not_exists plain_name

-- TABLE [IF NOT EXISTS] name '(' element {',' element} ')'
abbrev pub elements : List EnumDef → Reader (List Element)
elements enums = separated comma (element enums)

unfoldable pub create_table : List EnumDef → Reader Statement
create_table enums = do
  t ← a_word word.Table
  table ← new_name
  u ← a_sign 40
  inner ← elements enums
  v ← a_sign 41
  pure (table_statement table inner)

unfoldable pub string : Reader (List ℕ)
string = do
  l ← expect (is want.Str)
  pure l.text

abbrev pub strings : Reader (List (List ℕ))
strings = separated comma string

-- TYPE name AS ENUM '(' string {',' string} ')'
unfoldable pub create_type : Reader Statement
create_type = do
  t ← a_word word.Type
  type_name ← name
  u ← a_word word.As
  v ← a_word word.Enum
  w ← a_sign 40
  labels ← strings
  x ← a_sign 41
  pure (enum_statement type_name labels)

abbrev pub any : Reader Statement
any = skip_while (is want.Inner) statement_is.Nothing

-- (INDEX | EXTENSION) any
unfoldable pub create_skipped : Reader Statement
create_skipped = do
  t ← expect (is want.SkippedObject)
  any

unfoldable pub create : List EnumDef → Reader Statement
create enums = do
  t ← a_word word.Create
  either (is want.SkippedObject) create_skipped (either (is_a word.Type) create_type (create_table enums))

-- (BEGIN | COMMIT | START | SET) any
unfoldable pub skipped : Reader Statement
skipped = do
  t ← expect (is want.SkippedStart)
  any

unfoldable pub only : Reader (Unit {0})
only = do
  t ← a_word word.Only
  pure tt

abbrev pub optional_only : Reader (Unit {0})
optional_only = optional (is_a word.Only) tt only

-- ALTER TABLE [ONLY] name ADD rule
unfoldable pub alter : Reader Statement
alter = do
  t ← a_word word.Alter
  u ← a_word word.Table
  ignored ← optional_only
  table ← name
  v ← a_word word.Add
  added ← rule
  pure (rule_statement table added)

unfoldable pub table_target : Reader Target
table_target = do
  t ← a_word word.Table
  found ← name
  pure (target_is.Table found)

-- '.' identifier, after public '.' identifier
unfoldable pub qualified_column : Pos → List ℕ → Reader Target
qualified_column place table = do
  t ← a_sign 46
  third ← expect (is want.Identifier)
  pure (target_is.Column (record { text = table; pos = place }) third.text)

-- COLUMN name '.' column
unfoldable pub column_target : Reader Target
column_target = do
  t ← a_word word.Column
  first ← expect (is want.Identifier)
  u ← a_sign 46
  second ← expect (is want.Identifier)
  choose (is_public first.text)
      (optional dot (target_is.Column (named first) second.text) (qualified_column first.pos second.text))
      (pure (target_is.Column (named first) second.text))

-- CONSTRAINT identifier ON name
unfoldable pub constraint_target : Reader Target
constraint_target = do
  t ← a_word word.Constraint
  first ← expect (is want.Identifier)
  u ← a_word word.On
  table ← name
  pure (target_is.Constraint (named first) table.text)

unfoldable pub type_target : Reader Target
type_target = do
  t ← a_word word.Type
  found ← name
  pure (target_is.Enum found)

unfoldable pub target : Reader Target
target = either (is_a word.Table) table_target (either (is_a word.Column) column_target
    (either (is_a word.Constraint) constraint_target type_target))

unfoldable pub no_text : Reader (Option (List ℕ))
no_text = do
  t ← a_word word.Null
  pure None

unfoldable pub some_text : Reader (Option (List ℕ))
some_text = do
  found ← string
  pure (Some found)

abbrev pub comment_text : Reader (Option (List ℕ))
comment_text = either (is_a word.Null) no_text some_text

-- COMMENT ON target IS (string | NULL)
unfoldable pub comment : Reader Statement
comment = do
  t ← a_word word.Comment
  u ← a_word word.On
  on ← target
  v ← a_word word.Is
  text ← comment_text
  pure (comment_statement on text)

-- INSERT INTO name [columns] VALUES
unfoldable pub insert : Reader Statement
insert = do
  t ← a_word word.Insert
  u ← a_word word.Into
  table ← name
  named_columns ← optional_columns
  v ← a_word word.Values
  pure (insert_statement table named_columns)

-- a statement up to its rows, or nothing before `;` or the end
unfoldable pub head : List EnumDef → Reader Statement
head enums = either (is want.SkippedStart) skipped (either (is_a word.Create) (create enums)
    (either (is_a word.Alter) alter (either (is_a word.Comment) comment (either (is_a word.Insert) insert
    (before (is want.Last) statement_is.Nothing)))))

-- ---- rows

abbrev pub values : Reader (List Literal)
values = separated comma value

-- '(' value {',' value} ')'
unfoldable pub row : ℕ → Reader Row
row number = do
  first ← a_sign 40
  cells ← values
  t ← a_sign 41
  pure (row_of first number cells)

unfoldable pub other_row : ℕ → Reader Row
other_row number = do
  t ← a_sign 44
  row number

abbrev pub other_rows : ℕ → List Row → Reader (List Row)
other_rows number found = while_onto comma (other_row number) found

-- row {',' row}, after those found
unfoldable pub rows : ℕ → List Row → Reader (List Row)
rows number found = do
  first ← row number
  other_rows number (found ++ first ∷ [])
