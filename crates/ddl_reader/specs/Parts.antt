-- What a statement adds to the catalog so far, part after part.
use Rattle.std.specs.Prelude.{ℕ, pos, neg_ℤ, ◌+◌, ◌-◌, ◌*◌, ◌^◌, Bool, true, false, ◌||◌, ◌==◌, nat_le, nat_lt, if◌then◌else◌, List, [], ◌∷◌, Option, Some, None, min, option_map, flat_map}
use Rattle.std.specs.List.{list_any}
use Rattle.pg_base.specs.Tags.{no_tags}
use Rattle.pg_base.specs.declared.tags.Tags.{Tags}
use Rattle.pg_base.specs.declared.pos.Pos.{Pos}
use Rattle.smart_tags.specs.Tags.{tags_of}
use Rattle.pg_catalog.specs.declared.part.Part.{Part}
use Rattle.pg_catalog.specs.declared.part.Part.TheVariants as part
use Rattle.pg_catalog.specs.declared.part.Commented.{Commented}
use Rattle.pg_catalog.specs.declared.part.Commented.TheVariants as commented
use Rattle.pg_catalog.specs.declared.part.ColumnPart.{ColumnPart}
use Rattle.pg_catalog.specs.declared.part.Literal.{Literal as Constant}
use Rattle.pg_catalog.specs.declared.part.Literal.TheVariants as constant
use Rattle.ddl_reader.specs.declared.script.Literal.{Literal}
use Rattle.ddl_reader.specs.declared.script.Literal.TheVariants as literal
use Rattle.ddl_reader.specs.declared.statement.EnumStatement.{EnumStatement}
use Rattle.ddl_reader.specs.declared.statement.CommentStatement.{CommentStatement}
use Rattle.ddl_reader.specs.declared.statement.Reference.{Reference}
use Rattle.ddl_reader.specs.declared.statement.TableStatement.{TableStatement}
use Rattle.ddl_reader.specs.declared.statement.Element.{Element}
use Rattle.ddl_reader.specs.declared.statement.Element.TheVariants as element
use Rattle.ddl_reader.specs.declared.statement.Column.{Column}
use Rattle.ddl_reader.specs.declared.statement.ColumnRule.{ColumnRule}
use Rattle.ddl_reader.specs.declared.statement.ColumnRuleKind.{ColumnRuleKind}
use Rattle.ddl_reader.specs.declared.statement.ColumnRuleKind.TheVariants as rule
use Rattle.ddl_reader.specs.declared.statement.Rule.{Rule}
use Rattle.ddl_reader.specs.declared.statement.RuleKind.{RuleKind}
use Rattle.ddl_reader.specs.declared.statement.RuleKind.TheVariants as table_rule
use Rattle.ddl_reader.specs.declared.statement.Target.{Target}
use Rattle.ddl_reader.specs.declared.statement.Target.TheVariants as target

-- ---- defaults

-- the least number whose digits are too many for any column
abbrev pub past_integers : ℕ
past_integers = 2 ^ 63 + 1

-- a number with one more digit, where those that are too great are one
abbrev pub longer : ℕ → ℕ → ℕ
longer n digit = min (10 * n + (digit - 48)) past_integers

abbrev pub magnitude_after : ℕ → List ℕ → ℕ
magnitude_after n [] = n
magnitude_after n (digit ∷ digits) = magnitude_after (longer n digit) digits

-- the number that digits spell, where it isn't too great
abbrev pub magnitude : List ℕ → ℕ
magnitude digits = magnitude_after 0 digits

-- a number of 64 bits, or one that no column holds
abbrev pub positive : ℕ → Constant
positive n = if nat_lt n (2 ^ 63) then constant.Int (pos n) else constant.LongInt

abbrev pub negative : ℕ → Constant
negative n = if nat_le n (2 ^ 63) then constant.Int (neg_ℤ (pos n)) else constant.LongInt

-- digits, with a `-` before them where one stands there
abbrev pub integer_of : List ℕ → Constant
integer_of [] = positive 0
integer_of (b ∷ digits) = if b == 45 then negative (magnitude digits) else positive (magnitude (b ∷ digits))

-- a literal after DEFAULT; the word DEFAULT never stands there
abbrev pub constant_of : Literal → Constant
constant_of (literal.Number digits) = integer_of digits
constant_of (literal.Str text) = constant.Text text
constant_of literal.True = constant.Bool true
constant_of literal.False = constant.Bool false
constant_of literal.Null = constant.Null
constant_of literal.Default = constant.Null

-- ---- columns

abbrev pub says_not_null : ColumnRuleKind → Bool
says_not_null rule.NotNull = true
says_not_null rule.Null = false
says_not_null rule.Primary = false
says_not_null rule.Unique = false
says_not_null (rule.Default value) = false
says_not_null (rule.Refers target) = false
says_not_null rule.Identity = true

abbrev pub says_identity : ColumnRuleKind → Bool
says_identity rule.NotNull = false
says_identity rule.Null = false
says_identity rule.Primary = false
says_identity rule.Unique = false
says_identity (rule.Default value) = false
says_identity (rule.Refers target) = false
says_identity rule.Identity = true

-- the rule's literal, where it is a DEFAULT, and else the one before
abbrev pub default_by : Option Literal → ColumnRuleKind → Option Literal
default_by before rule.NotNull = before
default_by before rule.Null = before
default_by before rule.Primary = before
default_by before rule.Unique = before
default_by before (rule.Default value) = Some value
default_by before (rule.Refers target) = before
default_by before rule.Identity = before

abbrev pub default_after : Option Literal → List ColumnRule → Option Literal
default_after before [] = before
default_after before (r ∷ rules) = default_after (default_by before r.what) rules

-- of several DEFAULT rules the last counts
abbrev pub last_default : List ColumnRule → Option Literal
last_default rules = default_after None rules

abbrev pub some_not_null : List ColumnRule → Bool
some_not_null rules = list_any (λ r. says_not_null r.what) rules

abbrev pub some_identity : List ColumnRule → Bool
some_identity rules = list_any (λ r. says_identity r.what) rules

-- a serial type, and GENERATED, give NOT NULL and identity
abbrev pub column_part : Column → ColumnPart
column_part c = record {
  name = c.name.text;
  kind = c.kind.kind;
  not_null = c.kind.serial || some_not_null c.rules;
  default = option_map constant_of (last_default c.rules);
  identity = c.kind.serial || some_identity c.rules;
}

abbrev pub column_in : Element → List ColumnPart
column_in (element.Column c) = column_part c ∷ []
column_in (element.Rule r) = []

abbrev pub columns_in : List Element → List ColumnPart
columns_in elements = flat_map column_in elements

-- ---- keys and links

abbrev pub key_part : List ℕ → Pos → Option (List ℕ) → List (List ℕ) → Bool → Part
key_part table place name columns primary =
    part.Key (record { pos = place; table = table; name = name; columns = columns; primary = primary })

abbrev pub link_part : List ℕ → Pos → Option (List ℕ) → List (List ℕ) → Reference → Part
link_part table place name columns target = part.Link (record {
  pos = place;
  table = table;
  name = name;
  columns = columns;
  target = target.table;
  target_columns = target.columns;
})

-- the key or link that a rule of a column of the table adds
abbrev pub column_rule_parts : List ℕ → List ℕ → Pos → Option (List ℕ) → ColumnRuleKind → List Part
column_rule_parts table column place name rule.NotNull = []
column_rule_parts table column place name rule.Null = []
column_rule_parts table column place name rule.Primary = key_part table place name (column ∷ []) true ∷ []
column_rule_parts table column place name rule.Unique = key_part table place name (column ∷ []) false ∷ []
column_rule_parts table column place name (rule.Default value) = []
column_rule_parts table column place name (rule.Refers target) =
    link_part table place name (column ∷ []) target ∷ []
column_rule_parts table column place name rule.Identity = []

abbrev pub rule_parts : List ℕ → List ℕ → ColumnRule → List Part
rule_parts table column r = column_rule_parts table column r.pos r.name r.what

abbrev pub column_parts : List ℕ → List ℕ → List ColumnRule → List Part
column_parts table column rules = flat_map (rule_parts table column) rules

abbrev pub table_rule_part : List ℕ → Pos → Option (List ℕ) → RuleKind → Part
table_rule_part table place name (table_rule.Primary columns) = key_part table place name columns true
table_rule_part table place name (table_rule.Unique columns) = key_part table place name columns false
table_rule_part table place name (table_rule.Foreign columns target) = link_part table place name columns target

-- the key or link of a rule of the table
abbrev pub rule_part : List ℕ → Rule → Part
rule_part table r = table_rule_part table r.pos r.name r.what

abbrev pub constraints_of : List ℕ → Element → List Part
constraints_of table (element.Column c) = column_parts table c.name.text c.rules
constraints_of table (element.Rule r) = rule_part table r ∷ []

-- the keys and links of a table, in the order of its elements
abbrev pub constraints_in : List ℕ → List Element → List Part
constraints_in table elements = flat_map (constraints_of table) elements

abbrev pub table_part : TableStatement → Part
table_part t = part.Table (record { pos = t.name.pos; name = t.name.text; columns = columns_in t.elements })

-- the table with its columns, and then its keys and links
abbrev pub table_parts : TableStatement → List Part
table_parts t = table_part t ∷ constraints_in t.name.text t.elements

abbrev pub enum_part : EnumStatement → Part
enum_part e = part.Enum (record { pos = e.name.pos; name = e.name.text; cases = e.labels })

-- ---- comments

-- the tags of a comment; NULL has those of no comment
abbrev pub tags_by : Option (List ℕ) → Tags
tags_by None = no_tags
tags_by (Some text) = tags_of text

abbrev pub commented_by : Target → Commented
commented_by (target.Table name) = commented.Table name.text
commented_by (target.Column table column) = commented.Column table.text column
commented_by (target.Constraint name table) = commented.Constraint table name.text
commented_by (target.Enum name) = commented.Enum name.text

-- where a comment's target stands: after TABLE, COLUMN, CONSTRAINT or TYPE
abbrev pub target_pos : Target → Pos
target_pos (target.Table name) = name.pos
target_pos (target.Column table column) = table.pos
target_pos (target.Constraint name table) = name.pos
target_pos (target.Enum name) = name.pos

-- its name
abbrev pub target_name : Target → List ℕ
target_name (target.Table name) = name.text
target_name (target.Column table column) = column
target_name (target.Constraint name table) = name.text
target_name (target.Enum name) = name.text

abbrev pub comment_part : CommentStatement → Part
comment_part m =
    part.Comment (record { pos = target_pos m.target; on = commented_by m.target; tags = tags_by m.text })
