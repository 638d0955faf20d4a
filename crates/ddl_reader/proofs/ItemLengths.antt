-- What each parser reads is some tokens or none, and the items of lists are some.
use Rattle.std.specs.Prelude.{ℕ, true, false, List, [], ◌∷◌, ◌++◌, Option, Some, None}
use Rattle.pg_base.specs.declared.pos.Pos.{Pos}
use Rattle.pg_base.specs.declared.enum_def.EnumDef.{EnumDef}
use Rattle.ddl_reader.specs.declared.lexeme.LexemeKind.{LexemeKind}
use Rattle.ddl_reader.specs.declared.lexeme.Expected.TheVariants as want
use Rattle.ddl_reader.specs.declared.word.Word.TheVariants as word
use Rattle.ddl_reader.specs.declared.script.Literal.TheVariants as literal_is
use Rattle.ddl_reader.specs.declared.statement.Statement.TheVariants as statement_is
use Rattle.ddl_reader.specs.declared.statement.Element.TheVariants as element_is
use Rattle.ddl_reader.specs.declared.statement.ColumnRuleKind.TheVariants as column_rule_is
use Rattle.ddl_reader.specs.declared.statement.RuleKind.TheVariants as rule_is
use Rattle.ddl_reader.specs.declared.statement.Target.TheVariants as target_is
use Rattle.ddl_reader.specs.declared.statement.Row.{Row}
use Rattle.ddl_reader.specs.Lexemes.{is, is_a, is_the, is_word, is_sign, is_built_in}
use Rattle.ddl_reader.specs.Trees.{named, is_public, is_length, length_type, built_in_type, stands_in, enum_type, is_enum, is_known_type, is_schema_of, literal_of, text_type, column_of, rule_of, column_rule_of, reference_of, table_statement, enum_statement, rule_statement, comment_statement, insert_statement, row_of}
use Rattle.parse_rules.specs.Parser.{◌>>=◌, pure, expect, either, optional, while, before}
use Rattle.parse_rules.specs.Exact.{Shortens, NeverLengthens}
use Rattle.parse_rules.proofs.Separated.{expect-shortens}
use Rattle.ddl_reader.specs.Reading.{choose, comma, opening, dot, a_sign, a_word, action, actions, alter, always, any, by_default, character, column_element, column_rule, column_rule_after, column_rules, column_target, column_type, columns, comment, comment_text, constraint_target, create, create_skipped, create_table, create_type, default, default_value, element, elements, foreign, generation, head, identifier, identifiers, identity, if_not_exists, insert, known_type, length_number, literal, name, named_column_rule, named_rule, negative, new_name, no_action, no_text, not_exists, not_null, only, optional_columns, optional_length, optional_only, other_row, other_rows, plain_enum, plain_name, primary, primary_key, qualified, qualified_column, qualified_enum, reference, refers, restrict, row, rows, rule, rule_after, rule_element, skipped, some_columns, some_text, string, strings, table_target, target, type_after, type_length, type_target, unique, unnamed_column_rule, unnamed_rule, value, values, varchar, varying}
use Rattle.ddl_reader.proofs.Lengths.{keeps, keeps-pure, bind-shortens, bind-keeps, choose-keeps, choose-shortens, either-keeps, either-shortens, optional-keeps, while-keeps, separated-shortens, skip-keeps, before-keeps, onto-keeps}

pub qualified-shortens : (place : Pos) → Shortens (qualified place)
unfolding qualified
qualified-shortens place = bind-shortens (a_sign 46) (λ t. expect (is want.Identifier) >>= λ inner. pure (record { text = inner.text; pos = place })) (expect-shortens (is_the 46)) (λ t. bind-keeps (expect (is want.Identifier)) (λ inner. pure (record { text = inner.text; pos = place })) (keeps (expect (is want.Identifier)) (expect-shortens (is want.Identifier))) (λ inner. keeps-pure (record { text = inner.text; pos = place })))

pub qualified-keeps : (place : Pos) → NeverLengthens (qualified place)
qualified-keeps place = keeps (qualified place) (qualified-shortens place)

pub name-shortens : Shortens name
unfolding name
name-shortens = bind-shortens (expect (is want.Identifier)) (λ first. choose (is_public first.text) (optional dot (named first) (qualified first.pos)) (pure (named first))) (expect-shortens (is want.Identifier)) (λ first. choose-keeps (is_public first.text) (optional dot (named first) (qualified first.pos)) (pure (named first)) (optional-keeps dot (named first) (qualified first.pos) (qualified-keeps first.pos)) (keeps-pure (named first)))

pub name-keeps : NeverLengthens name
name-keeps = keeps name name-shortens

pub identifier-shortens : Shortens identifier
unfolding identifier
identifier-shortens = bind-shortens (expect (is want.Identifier)) (λ l. pure l.text) (expect-shortens (is want.Identifier)) (λ l. keeps-pure l.text)

pub identifier-keeps : NeverLengthens identifier
identifier-keeps = keeps identifier identifier-shortens

pub identifiers-shortens : Shortens identifiers
identifiers-shortens = separated-shortens comma identifier (identifier-shortens)

pub identifiers-keeps : NeverLengthens identifiers
identifiers-keeps = keeps identifiers identifiers-shortens

pub columns-shortens : Shortens columns
unfolding columns
columns-shortens = bind-shortens (a_sign 40) (λ t. identifiers >>= λ found. a_sign 41 >>= λ u. pure found) (expect-shortens (is_the 40)) (λ t. bind-keeps (identifiers) (λ found. a_sign 41 >>= λ u. pure found) (identifiers-keeps) (λ found. bind-keeps (a_sign 41) (λ u. pure found) (keeps (a_sign 41) (expect-shortens (is_the 41))) (λ u. keeps-pure found)))

pub columns-keeps : NeverLengthens columns
columns-keeps = keeps columns columns-shortens

pub some_columns-shortens : Shortens some_columns
unfolding some_columns
some_columns-shortens = bind-shortens (columns) (λ found. pure (Some found)) (columns-shortens) (λ found. keeps-pure (Some found))

pub some_columns-keeps : NeverLengthens some_columns
some_columns-keeps = keeps some_columns some_columns-shortens

pub optional_columns-keeps : NeverLengthens optional_columns
optional_columns-keeps = optional-keeps opening None some_columns (some_columns-keeps)

pub negative-shortens : Shortens negative
unfolding negative
negative-shortens = bind-shortens (expect (is want.Number)) (λ digits. pure (literal_is.Number (45 ∷ digits.text))) (expect-shortens (is want.Number)) (λ digits. keeps-pure (literal_is.Number (45 ∷ digits.text)))

pub negative-keeps : NeverLengthens negative
negative-keeps = keeps negative negative-shortens

pub literal-shortens : Shortens literal
unfolding literal
literal-shortens = bind-shortens (expect (is want.LiteralStart)) (λ first. choose (is_sign first.kind 45) negative (pure (literal_of first))) (expect-shortens (is want.LiteralStart)) (λ first. choose-keeps (is_sign first.kind 45) negative (pure (literal_of first)) (negative-keeps) (keeps-pure (literal_of first)))

pub literal-keeps : NeverLengthens literal
literal-keeps = keeps literal literal-shortens

pub default_value-shortens : Shortens default_value
unfolding default_value
default_value-shortens = bind-shortens (a_word word.Default) (λ t. pure literal_is.Default) (expect-shortens (is_a word.Default)) (λ t. keeps-pure literal_is.Default)

pub default_value-keeps : NeverLengthens default_value
default_value-keeps = keeps default_value default_value-shortens

pub value-shortens : Shortens value
unfolding value
value-shortens = either-shortens (is_a word.Default) default_value literal (default_value-shortens) (literal-shortens)

pub value-keeps : NeverLengthens value
value-keeps = keeps value value-shortens

pub length_number-shortens : Shortens length_number
unfolding length_number
length_number-shortens = bind-shortens (expect is_length) (λ n. pure (length_type n.text)) (expect-shortens is_length) (λ n. keeps-pure (length_type n.text))

pub length_number-keeps : NeverLengthens length_number
length_number-keeps = keeps length_number length_number-shortens

pub type_length-shortens : Shortens type_length
unfolding type_length
type_length-shortens = bind-shortens (a_sign 40) (λ t. length_number >>= λ found. a_sign 41 >>= λ u. pure found) (expect-shortens (is_the 40)) (λ t. bind-keeps (length_number) (λ found. a_sign 41 >>= λ u. pure found) (length_number-keeps) (λ found. bind-keeps (a_sign 41) (λ u. pure found) (keeps (a_sign 41) (expect-shortens (is_the 41))) (λ u. keeps-pure found)))

pub type_length-keeps : NeverLengthens type_length
type_length-keeps = keeps type_length type_length-shortens

pub optional_length-keeps : NeverLengthens optional_length
optional_length-keeps = optional-keeps opening text_type type_length (type_length-keeps)

pub varchar-shortens : Shortens varchar
unfolding varchar
varchar-shortens = bind-shortens (a_word word.Varchar) (λ t. optional_length) (expect-shortens (is_a word.Varchar)) (λ t. optional_length-keeps)

pub varchar-keeps : NeverLengthens varchar
varchar-keeps = keeps varchar varchar-shortens

pub varying-shortens : Shortens varying
unfolding varying
varying-shortens = bind-shortens (a_word word.Varying) (λ t. optional_length) (expect-shortens (is_a word.Varying)) (λ t. optional_length-keeps)

pub varying-keeps : NeverLengthens varying
varying-keeps = keeps varying varying-shortens

pub character-shortens : (enums : List EnumDef) → Shortens (character enums)
unfolding character
character-shortens enums = bind-shortens (a_word word.Character) (λ first. choose (stands_in enums first.text) (optional (is_a word.Varying) (enum_type enums first.text) varying) varying) (expect-shortens (is_a word.Character)) (λ first. choose-keeps (stands_in enums first.text) (optional (is_a word.Varying) (enum_type enums first.text) varying) varying (optional-keeps (is_a word.Varying) (enum_type enums first.text) varying (varying-keeps)) (varying-keeps))

pub character-keeps : (enums : List EnumDef) → NeverLengthens (character enums)
character-keeps enums = keeps (character enums) (character-shortens enums)

pub plain_enum-shortens : (enums : List EnumDef) → Shortens (plain_enum enums)
unfolding plain_enum
plain_enum-shortens enums = bind-shortens (expect (is_enum enums)) (λ l. pure (enum_type enums l.text)) (expect-shortens (is_enum enums)) (λ l. keeps-pure (enum_type enums l.text))

pub plain_enum-keeps : (enums : List EnumDef) → NeverLengthens (plain_enum enums)
plain_enum-keeps enums = keeps (plain_enum enums) (plain_enum-shortens enums)

pub qualified_enum-shortens : (enums : List EnumDef) → Shortens (qualified_enum enums)
unfolding qualified_enum
qualified_enum-shortens enums = bind-shortens (a_sign 46) (λ t. plain_enum enums) (expect-shortens (is_the 46)) (λ t. plain_enum-keeps enums)

pub qualified_enum-keeps : (enums : List EnumDef) → NeverLengthens (qualified_enum enums)
qualified_enum-keeps enums = keeps (qualified_enum enums) (qualified_enum-shortens enums)

pub type_after-keeps : (enums : List EnumDef) → (k : LexemeKind) → (text : List ℕ) → NeverLengthens (type_after enums k text)
type_after-keeps enums k text = choose-keeps (is_built_in k) (pure (built_in_type k)) (choose (is_schema_of enums text) (choose (stands_in enums text) (optional dot (enum_type enums text) (qualified_enum enums)) (qualified_enum enums)) (pure (enum_type enums text))) (keeps-pure (built_in_type k)) (choose-keeps (is_schema_of enums text) (choose (stands_in enums text) (optional dot (enum_type enums text) (qualified_enum enums)) (qualified_enum enums)) (pure (enum_type enums text)) (choose-keeps (stands_in enums text) (optional dot (enum_type enums text) (qualified_enum enums)) (qualified_enum enums) (optional-keeps dot (enum_type enums text) (qualified_enum enums) (qualified_enum-keeps enums)) (qualified_enum-keeps enums)) (keeps-pure (enum_type enums text)))

pub known_type-shortens : (enums : List EnumDef) → Shortens (known_type enums)
unfolding known_type
known_type-shortens enums = bind-shortens (expect (is_known_type enums)) (λ first. type_after enums first.kind first.text) (expect-shortens (is_known_type enums)) (λ first. type_after-keeps enums first.kind first.text)

pub known_type-keeps : (enums : List EnumDef) → NeverLengthens (known_type enums)
known_type-keeps enums = keeps (known_type enums) (known_type-shortens enums)

pub column_type-shortens : (enums : List EnumDef) → Shortens (column_type enums)
unfolding column_type
column_type-shortens enums = either-shortens (is_a word.Character) (character enums) (either (is_a word.Varchar) varchar (known_type enums)) (character-shortens enums) (either-shortens (is_a word.Varchar) varchar (known_type enums) (varchar-shortens) (known_type-shortens enums))

pub column_type-keeps : (enums : List EnumDef) → NeverLengthens (column_type enums)
column_type-keeps enums = keeps (column_type enums) (column_type-shortens enums)

pub no_action-shortens : Shortens no_action
unfolding no_action
no_action-shortens = bind-shortens (a_word word.No) (λ t. a_word word.Action >>= λ u. pure tt) (expect-shortens (is_a word.No)) (λ t. bind-keeps (a_word word.Action) (λ u. pure tt) (keeps (a_word word.Action) (expect-shortens (is_a word.Action))) (λ u. keeps-pure tt))

pub no_action-keeps : NeverLengthens no_action
no_action-keeps = keeps no_action no_action-shortens

pub restrict-shortens : Shortens restrict
unfolding restrict
restrict-shortens = bind-shortens (a_word word.Restrict) (λ t. pure tt) (expect-shortens (is_a word.Restrict)) (λ t. keeps-pure tt)

pub restrict-keeps : NeverLengthens restrict
restrict-keeps = keeps restrict restrict-shortens

pub action-shortens : Shortens action
unfolding action
action-shortens = bind-shortens (a_word word.On) (λ t. expect (is want.Change) >>= λ u. either (is_a word.No) no_action restrict) (expect-shortens (is_a word.On)) (λ t. bind-keeps (expect (is want.Change)) (λ u. either (is_a word.No) no_action restrict) (keeps (expect (is want.Change)) (expect-shortens (is want.Change))) (λ u. either-keeps (is_a word.No) no_action restrict (no_action-keeps) (restrict-keeps)))

pub action-keeps : NeverLengthens action
action-keeps = keeps action action-shortens

pub actions-keeps : NeverLengthens actions
actions-keeps = bind-keeps (while (is_a word.On) action) (λ found. pure tt) (while-keeps (is_a word.On) action (action-keeps)) (λ found. keeps-pure tt)

pub reference-shortens : Shortens reference
unfolding reference
reference-shortens = bind-shortens (name) (λ table. optional_columns >>= λ named_columns. actions >>= λ ignored. pure (reference_of table named_columns)) (name-shortens) (λ table. bind-keeps (optional_columns) (λ named_columns. actions >>= λ ignored. pure (reference_of table named_columns)) (optional_columns-keeps) (λ named_columns. bind-keeps (actions) (λ ignored. pure (reference_of table named_columns)) (actions-keeps) (λ ignored. keeps-pure (reference_of table named_columns))))

pub reference-keeps : NeverLengthens reference
reference-keeps = keeps reference reference-shortens

pub always-shortens : Shortens always
unfolding always
always-shortens = bind-shortens (a_word word.Always) (λ t. pure tt) (expect-shortens (is_a word.Always)) (λ t. keeps-pure tt)

pub always-keeps : NeverLengthens always
always-keeps = keeps always always-shortens

pub by_default-shortens : Shortens by_default
unfolding by_default
by_default-shortens = bind-shortens (a_word word.By) (λ t. a_word word.Default >>= λ u. pure tt) (expect-shortens (is_a word.By)) (λ t. bind-keeps (a_word word.Default) (λ u. pure tt) (keeps (a_word word.Default) (expect-shortens (is_a word.Default))) (λ u. keeps-pure tt))

pub by_default-keeps : NeverLengthens by_default
by_default-keeps = keeps by_default by_default-shortens

pub generation-shortens : Shortens generation
generation-shortens = either-shortens (is_a word.Always) always by_default (always-shortens) (by_default-shortens)

pub generation-keeps : NeverLengthens generation
generation-keeps = keeps generation generation-shortens

pub identity-shortens : Shortens identity
unfolding identity
identity-shortens = bind-shortens (generation) (λ ignored. a_word word.As >>= λ t. a_word word.Identity >>= λ u. pure column_rule_is.Identity) (generation-shortens) (λ ignored. bind-keeps (a_word word.As) (λ t. a_word word.Identity >>= λ u. pure column_rule_is.Identity) (keeps (a_word word.As) (expect-shortens (is_a word.As))) (λ t. bind-keeps (a_word word.Identity) (λ u. pure column_rule_is.Identity) (keeps (a_word word.Identity) (expect-shortens (is_a word.Identity))) (λ u. keeps-pure column_rule_is.Identity)))

pub identity-keeps : NeverLengthens identity
identity-keeps = keeps identity identity-shortens

pub not_null-shortens : Shortens not_null
unfolding not_null
not_null-shortens = bind-shortens (a_word word.Null) (λ t. pure column_rule_is.NotNull) (expect-shortens (is_a word.Null)) (λ t. keeps-pure column_rule_is.NotNull)

pub not_null-keeps : NeverLengthens not_null
not_null-keeps = keeps not_null not_null-shortens

pub primary-shortens : Shortens primary
unfolding primary
primary-shortens = bind-shortens (a_word word.Key) (λ t. pure column_rule_is.Primary) (expect-shortens (is_a word.Key)) (λ t. keeps-pure column_rule_is.Primary)

pub primary-keeps : NeverLengthens primary
primary-keeps = keeps primary primary-shortens

pub default-shortens : Shortens default
unfolding default
default-shortens = bind-shortens (literal) (λ value. pure (column_rule_is.Default value)) (literal-shortens) (λ value. keeps-pure (column_rule_is.Default value))

pub default-keeps : NeverLengthens default
default-keeps = keeps default default-shortens

pub refers-shortens : Shortens refers
unfolding refers
refers-shortens = bind-shortens (reference) (λ target. pure (column_rule_is.Refers target)) (reference-shortens) (λ target. keeps-pure (column_rule_is.Refers target))

pub refers-keeps : NeverLengthens refers
refers-keeps = keeps refers refers-shortens

pub column_rule_after-keeps : (k : LexemeKind) → NeverLengthens (column_rule_after k)
column_rule_after-keeps k = choose-keeps (is_word k word.Not) not_null (choose (is_word k word.Null) (pure column_rule_is.Null) (choose (is_word k word.Primary) primary (choose (is_word k word.Unique) (pure column_rule_is.Unique) (choose (is_word k word.Default) default (choose (is_word k word.References) refers identity))))) (not_null-keeps) (choose-keeps (is_word k word.Null) (pure column_rule_is.Null) (choose (is_word k word.Primary) primary (choose (is_word k word.Unique) (pure column_rule_is.Unique) (choose (is_word k word.Default) default (choose (is_word k word.References) refers identity)))) (keeps-pure column_rule_is.Null) (choose-keeps (is_word k word.Primary) primary (choose (is_word k word.Unique) (pure column_rule_is.Unique) (choose (is_word k word.Default) default (choose (is_word k word.References) refers identity))) (primary-keeps) (choose-keeps (is_word k word.Unique) (pure column_rule_is.Unique) (choose (is_word k word.Default) default (choose (is_word k word.References) refers identity)) (keeps-pure column_rule_is.Unique) (choose-keeps (is_word k word.Default) default (choose (is_word k word.References) refers identity) (default-keeps) (choose-keeps (is_word k word.References) refers identity (refers-keeps) (identity-keeps))))))

pub unnamed_column_rule-shortens : (begins : Option Pos) → (constraint : Option (List ℕ)) → Shortens (unnamed_column_rule begins constraint)
unfolding unnamed_column_rule
unnamed_column_rule-shortens begins constraint = bind-shortens (expect (is want.ColumnRuleWord)) (λ first. column_rule_after first.kind >>= λ what. pure (column_rule_of begins constraint first what)) (expect-shortens (is want.ColumnRuleWord)) (λ first. bind-keeps (column_rule_after first.kind) (λ what. pure (column_rule_of begins constraint first what)) (column_rule_after-keeps first.kind) (λ what. keeps-pure (column_rule_of begins constraint first what)))

pub unnamed_column_rule-keeps : (begins : Option Pos) → (constraint : Option (List ℕ)) → NeverLengthens (unnamed_column_rule begins constraint)
unnamed_column_rule-keeps begins constraint = keeps (unnamed_column_rule begins constraint) (unnamed_column_rule-shortens begins constraint)

pub named_column_rule-shortens : Shortens named_column_rule
unfolding named_column_rule
named_column_rule-shortens = bind-shortens (a_word word.Constraint) (λ first. identifier >>= λ constraint. unnamed_column_rule (Some first.pos) (Some constraint)) (expect-shortens (is_a word.Constraint)) (λ first. bind-keeps (identifier) (λ constraint. unnamed_column_rule (Some first.pos) (Some constraint)) (identifier-keeps) (λ constraint. unnamed_column_rule-keeps (Some first.pos) (Some constraint)))

pub named_column_rule-keeps : NeverLengthens named_column_rule
named_column_rule-keeps = keeps named_column_rule named_column_rule-shortens

pub column_rule-shortens : Shortens column_rule
unfolding column_rule
column_rule-shortens = either-shortens (is_a word.Constraint) named_column_rule (unnamed_column_rule None None) (named_column_rule-shortens) (unnamed_column_rule-shortens None None)

pub column_rule-keeps : NeverLengthens column_rule
column_rule-keeps = keeps column_rule column_rule-shortens

pub column_rules-keeps : NeverLengthens column_rules
column_rules-keeps = while-keeps (is want.ColumnRule) column_rule (column_rule-keeps)

pub primary_key-shortens : Shortens primary_key
unfolding primary_key
primary_key-shortens = bind-shortens (a_word word.Key) (λ t. columns >>= λ found. pure (rule_is.Primary found)) (expect-shortens (is_a word.Key)) (λ t. bind-keeps (columns) (λ found. pure (rule_is.Primary found)) (columns-keeps) (λ found. keeps-pure (rule_is.Primary found)))

pub primary_key-keeps : NeverLengthens primary_key
primary_key-keeps = keeps primary_key primary_key-shortens

pub unique-shortens : Shortens unique
unfolding unique
unique-shortens = bind-shortens (columns) (λ found. pure (rule_is.Unique found)) (columns-shortens) (λ found. keeps-pure (rule_is.Unique found))

pub unique-keeps : NeverLengthens unique
unique-keeps = keeps unique unique-shortens

pub foreign-shortens : Shortens foreign
unfolding foreign
foreign-shortens = bind-shortens (a_word word.Key) (λ t. columns >>= λ found. a_word word.References >>= λ u. reference >>= λ target. pure (rule_is.Foreign found target)) (expect-shortens (is_a word.Key)) (λ t. bind-keeps (columns) (λ found. a_word word.References >>= λ u. reference >>= λ target. pure (rule_is.Foreign found target)) (columns-keeps) (λ found. bind-keeps (a_word word.References) (λ u. reference >>= λ target. pure (rule_is.Foreign found target)) (keeps (a_word word.References) (expect-shortens (is_a word.References))) (λ u. bind-keeps (reference) (λ target. pure (rule_is.Foreign found target)) (reference-keeps) (λ target. keeps-pure (rule_is.Foreign found target)))))

pub foreign-keeps : NeverLengthens foreign
foreign-keeps = keeps foreign foreign-shortens

pub rule_after-shortens : (k : LexemeKind) → Shortens (rule_after k)
rule_after-shortens k = choose-shortens (is_word k word.Primary) primary_key (choose (is_word k word.Unique) unique foreign) (primary_key-shortens) (choose-shortens (is_word k word.Unique) unique foreign (unique-shortens) (foreign-shortens))

pub rule_after-keeps : (k : LexemeKind) → NeverLengthens (rule_after k)
rule_after-keeps k = keeps (rule_after k) (rule_after-shortens k)

pub unnamed_rule-shortens : (begins : Option Pos) → (constraint : Option (List ℕ)) → Shortens (unnamed_rule begins constraint)
unfolding unnamed_rule
unnamed_rule-shortens begins constraint = bind-shortens (expect (is want.RuleWord)) (λ first. rule_after first.kind >>= λ what. pure (rule_of begins constraint first what)) (expect-shortens (is want.RuleWord)) (λ first. bind-keeps (rule_after first.kind) (λ what. pure (rule_of begins constraint first what)) (rule_after-keeps first.kind) (λ what. keeps-pure (rule_of begins constraint first what)))

pub unnamed_rule-keeps : (begins : Option Pos) → (constraint : Option (List ℕ)) → NeverLengthens (unnamed_rule begins constraint)
unnamed_rule-keeps begins constraint = keeps (unnamed_rule begins constraint) (unnamed_rule-shortens begins constraint)

pub named_rule-shortens : Shortens named_rule
unfolding named_rule
named_rule-shortens = bind-shortens (a_word word.Constraint) (λ first. identifier >>= λ constraint. unnamed_rule (Some first.pos) (Some constraint)) (expect-shortens (is_a word.Constraint)) (λ first. bind-keeps (identifier) (λ constraint. unnamed_rule (Some first.pos) (Some constraint)) (identifier-keeps) (λ constraint. unnamed_rule-keeps (Some first.pos) (Some constraint)))

pub named_rule-keeps : NeverLengthens named_rule
named_rule-keeps = keeps named_rule named_rule-shortens

pub rule-shortens : Shortens rule
unfolding rule
rule-shortens = either-shortens (is_a word.Constraint) named_rule (unnamed_rule None None) (named_rule-shortens) (unnamed_rule-shortens None None)

pub rule-keeps : NeverLengthens rule
rule-keeps = keeps rule rule-shortens

pub rule_element-shortens : Shortens rule_element
unfolding rule_element
rule_element-shortens = bind-shortens (rule) (λ found. pure (element_is.Rule found)) (rule-shortens) (λ found. keeps-pure (element_is.Rule found))

pub rule_element-keeps : NeverLengthens rule_element
rule_element-keeps = keeps rule_element rule_element-shortens

pub column_element-shortens : (enums : List EnumDef) → Shortens (column_element enums)
unfolding column_element
column_element-shortens enums = bind-shortens (expect (is want.Identifier)) (λ first. column_type enums >>= λ kind. column_rules >>= λ rules. pure (column_of first kind rules)) (expect-shortens (is want.Identifier)) (λ first. bind-keeps (column_type enums) (λ kind. column_rules >>= λ rules. pure (column_of first kind rules)) (column_type-keeps enums) (λ kind. bind-keeps (column_rules) (λ rules. pure (column_of first kind rules)) (column_rules-keeps) (λ rules. keeps-pure (column_of first kind rules))))

pub column_element-keeps : (enums : List EnumDef) → NeverLengthens (column_element enums)
column_element-keeps enums = keeps (column_element enums) (column_element-shortens enums)

pub element-shortens : (enums : List EnumDef) → Shortens (element enums)
unfolding element
element-shortens enums = either-shortens (is want.TableRule) rule_element (column_element enums) (rule_element-shortens) (column_element-shortens enums)

pub element-keeps : (enums : List EnumDef) → NeverLengthens (element enums)
element-keeps enums = keeps (element enums) (element-shortens enums)

pub not_exists-shortens : Shortens not_exists
unfolding not_exists
not_exists-shortens = bind-shortens (a_word word.Not) (λ t. a_word word.Exists >>= λ u. name >>= λ table. pure (true, table)) (expect-shortens (is_a word.Not)) (λ t. bind-keeps (a_word word.Exists) (λ u. name >>= λ table. pure (true, table)) (keeps (a_word word.Exists) (expect-shortens (is_a word.Exists))) (λ u. bind-keeps (name) (λ table. pure (true, table)) (name-keeps) (λ table. keeps-pure (true, table))))

pub not_exists-keeps : NeverLengthens not_exists
not_exists-keeps = keeps not_exists not_exists-shortens

pub if_not_exists-shortens : Shortens if_not_exists
unfolding if_not_exists
if_not_exists-shortens = bind-shortens (a_word word.If) (λ first. optional (is_a word.Not) (false, named first) not_exists) (expect-shortens (is_a word.If)) (λ first. optional-keeps (is_a word.Not) (false, named first) not_exists (not_exists-keeps))

pub if_not_exists-keeps : NeverLengthens if_not_exists
if_not_exists-keeps = keeps if_not_exists if_not_exists-shortens

pub plain_name-shortens : Shortens plain_name
unfolding plain_name
plain_name-shortens = bind-shortens (name) (λ table. pure (false, table)) (name-shortens) (λ table. keeps-pure (false, table))

pub plain_name-keeps : NeverLengthens plain_name
plain_name-keeps = keeps plain_name plain_name-shortens

pub new_name-shortens : Shortens new_name
new_name-shortens = either-shortens (is_a word.If) if_not_exists plain_name (if_not_exists-shortens) (plain_name-shortens)

pub new_name-keeps : NeverLengthens new_name
new_name-keeps = keeps new_name new_name-shortens

pub elements-shortens : (enums : List EnumDef) → Shortens (elements enums)
elements-shortens enums = separated-shortens comma (element enums) (element-shortens enums)

pub elements-keeps : (enums : List EnumDef) → NeverLengthens (elements enums)
elements-keeps enums = keeps (elements enums) (elements-shortens enums)

pub create_table-shortens : (enums : List EnumDef) → Shortens (create_table enums)
unfolding create_table
create_table-shortens enums = bind-shortens (a_word word.Table) (λ t. new_name >>= λ table. a_sign 40 >>= λ u. elements enums >>= λ inner. a_sign 41 >>= λ v. pure (table_statement table inner)) (expect-shortens (is_a word.Table)) (λ t. bind-keeps (new_name) (λ table. a_sign 40 >>= λ u. elements enums >>= λ inner. a_sign 41 >>= λ v. pure (table_statement table inner)) (new_name-keeps) (λ table. bind-keeps (a_sign 40) (λ u. elements enums >>= λ inner. a_sign 41 >>= λ v. pure (table_statement table inner)) (keeps (a_sign 40) (expect-shortens (is_the 40))) (λ u. bind-keeps (elements enums) (λ inner. a_sign 41 >>= λ v. pure (table_statement table inner)) (elements-keeps enums) (λ inner. bind-keeps (a_sign 41) (λ v. pure (table_statement table inner)) (keeps (a_sign 41) (expect-shortens (is_the 41))) (λ v. keeps-pure (table_statement table inner))))))

pub create_table-keeps : (enums : List EnumDef) → NeverLengthens (create_table enums)
create_table-keeps enums = keeps (create_table enums) (create_table-shortens enums)

pub string-shortens : Shortens string
unfolding string
string-shortens = bind-shortens (expect (is want.Str)) (λ l. pure l.text) (expect-shortens (is want.Str)) (λ l. keeps-pure l.text)

pub string-keeps : NeverLengthens string
string-keeps = keeps string string-shortens

pub strings-shortens : Shortens strings
strings-shortens = separated-shortens comma string (string-shortens)

pub strings-keeps : NeverLengthens strings
strings-keeps = keeps strings strings-shortens

pub create_type-shortens : Shortens create_type
unfolding create_type
create_type-shortens = bind-shortens (a_word word.Type) (λ t. name >>= λ type_name. a_word word.As >>= λ u. a_word word.Enum >>= λ v. a_sign 40 >>= λ w. strings >>= λ labels. a_sign 41 >>= λ x. pure (enum_statement type_name labels)) (expect-shortens (is_a word.Type)) (λ t. bind-keeps (name) (λ type_name. a_word word.As >>= λ u. a_word word.Enum >>= λ v. a_sign 40 >>= λ w. strings >>= λ labels. a_sign 41 >>= λ x. pure (enum_statement type_name labels)) (name-keeps) (λ type_name. bind-keeps (a_word word.As) (λ u. a_word word.Enum >>= λ v. a_sign 40 >>= λ w. strings >>= λ labels. a_sign 41 >>= λ x. pure (enum_statement type_name labels)) (keeps (a_word word.As) (expect-shortens (is_a word.As))) (λ u. bind-keeps (a_word word.Enum) (λ v. a_sign 40 >>= λ w. strings >>= λ labels. a_sign 41 >>= λ x. pure (enum_statement type_name labels)) (keeps (a_word word.Enum) (expect-shortens (is_a word.Enum))) (λ v. bind-keeps (a_sign 40) (λ w. strings >>= λ labels. a_sign 41 >>= λ x. pure (enum_statement type_name labels)) (keeps (a_sign 40) (expect-shortens (is_the 40))) (λ w. bind-keeps (strings) (λ labels. a_sign 41 >>= λ x. pure (enum_statement type_name labels)) (strings-keeps) (λ labels. bind-keeps (a_sign 41) (λ x. pure (enum_statement type_name labels)) (keeps (a_sign 41) (expect-shortens (is_the 41))) (λ x. keeps-pure (enum_statement type_name labels))))))))

pub create_type-keeps : NeverLengthens create_type
create_type-keeps = keeps create_type create_type-shortens

pub any-keeps : NeverLengthens any
any-keeps = skip-keeps (is want.Inner) statement_is.Nothing

pub create_skipped-shortens : Shortens create_skipped
unfolding create_skipped
create_skipped-shortens = bind-shortens (expect (is want.SkippedObject)) (λ t. any) (expect-shortens (is want.SkippedObject)) (λ t. any-keeps)

pub create_skipped-keeps : NeverLengthens create_skipped
create_skipped-keeps = keeps create_skipped create_skipped-shortens

pub create-shortens : (enums : List EnumDef) → Shortens (create enums)
unfolding create
create-shortens enums = bind-shortens (a_word word.Create) (λ t. either (is want.SkippedObject) create_skipped (either (is_a word.Type) create_type (create_table enums))) (expect-shortens (is_a word.Create)) (λ t. either-keeps (is want.SkippedObject) create_skipped (either (is_a word.Type) create_type (create_table enums)) (create_skipped-keeps) (either-keeps (is_a word.Type) create_type (create_table enums) (create_type-keeps) (create_table-keeps enums)))

pub create-keeps : (enums : List EnumDef) → NeverLengthens (create enums)
create-keeps enums = keeps (create enums) (create-shortens enums)

pub skipped-shortens : Shortens skipped
unfolding skipped
skipped-shortens = bind-shortens (expect (is want.SkippedStart)) (λ t. any) (expect-shortens (is want.SkippedStart)) (λ t. any-keeps)

pub skipped-keeps : NeverLengthens skipped
skipped-keeps = keeps skipped skipped-shortens

pub only-shortens : Shortens only
unfolding only
only-shortens = bind-shortens (a_word word.Only) (λ t. pure tt) (expect-shortens (is_a word.Only)) (λ t. keeps-pure tt)

pub only-keeps : NeverLengthens only
only-keeps = keeps only only-shortens

pub optional_only-keeps : NeverLengthens optional_only
optional_only-keeps = optional-keeps (is_a word.Only) tt only (only-keeps)

pub alter-shortens : Shortens alter
unfolding alter
alter-shortens = bind-shortens (a_word word.Alter) (λ t. a_word word.Table >>= λ u. optional_only >>= λ ignored. name >>= λ table. a_word word.Add >>= λ v. rule >>= λ added. pure (rule_statement table added)) (expect-shortens (is_a word.Alter)) (λ t. bind-keeps (a_word word.Table) (λ u. optional_only >>= λ ignored. name >>= λ table. a_word word.Add >>= λ v. rule >>= λ added. pure (rule_statement table added)) (keeps (a_word word.Table) (expect-shortens (is_a word.Table))) (λ u. bind-keeps (optional_only) (λ ignored. name >>= λ table. a_word word.Add >>= λ v. rule >>= λ added. pure (rule_statement table added)) (optional_only-keeps) (λ ignored. bind-keeps (name) (λ table. a_word word.Add >>= λ v. rule >>= λ added. pure (rule_statement table added)) (name-keeps) (λ table. bind-keeps (a_word word.Add) (λ v. rule >>= λ added. pure (rule_statement table added)) (keeps (a_word word.Add) (expect-shortens (is_a word.Add))) (λ v. bind-keeps (rule) (λ added. pure (rule_statement table added)) (rule-keeps) (λ added. keeps-pure (rule_statement table added)))))))

pub alter-keeps : NeverLengthens alter
alter-keeps = keeps alter alter-shortens

pub table_target-shortens : Shortens table_target
unfolding table_target
table_target-shortens = bind-shortens (a_word word.Table) (λ t. name >>= λ found. pure (target_is.Table found)) (expect-shortens (is_a word.Table)) (λ t. bind-keeps (name) (λ found. pure (target_is.Table found)) (name-keeps) (λ found. keeps-pure (target_is.Table found)))

pub table_target-keeps : NeverLengthens table_target
table_target-keeps = keeps table_target table_target-shortens

pub qualified_column-shortens : (place : Pos) → (table : List ℕ) → Shortens (qualified_column place table)
unfolding qualified_column
qualified_column-shortens place table = bind-shortens (a_sign 46) (λ t. expect (is want.Identifier) >>= λ third. pure (target_is.Column (record { text = table; pos = place }) third.text)) (expect-shortens (is_the 46)) (λ t. bind-keeps (expect (is want.Identifier)) (λ third. pure (target_is.Column (record { text = table; pos = place }) third.text)) (keeps (expect (is want.Identifier)) (expect-shortens (is want.Identifier))) (λ third. keeps-pure (target_is.Column (record { text = table; pos = place }) third.text)))

pub qualified_column-keeps : (place : Pos) → (table : List ℕ) → NeverLengthens (qualified_column place table)
qualified_column-keeps place table = keeps (qualified_column place table) (qualified_column-shortens place table)

pub column_target-shortens : Shortens column_target
unfolding column_target
column_target-shortens = bind-shortens (a_word word.Column) (λ t. expect (is want.Identifier) >>= λ first. a_sign 46 >>= λ u. expect (is want.Identifier) >>= λ second. choose (is_public first.text) (optional dot (target_is.Column (named first) second.text) (qualified_column first.pos second.text)) (pure (target_is.Column (named first) second.text))) (expect-shortens (is_a word.Column)) (λ t. bind-keeps (expect (is want.Identifier)) (λ first. a_sign 46 >>= λ u. expect (is want.Identifier) >>= λ second. choose (is_public first.text) (optional dot (target_is.Column (named first) second.text) (qualified_column first.pos second.text)) (pure (target_is.Column (named first) second.text))) (keeps (expect (is want.Identifier)) (expect-shortens (is want.Identifier))) (λ first. bind-keeps (a_sign 46) (λ u. expect (is want.Identifier) >>= λ second. choose (is_public first.text) (optional dot (target_is.Column (named first) second.text) (qualified_column first.pos second.text)) (pure (target_is.Column (named first) second.text))) (keeps (a_sign 46) (expect-shortens (is_the 46))) (λ u. bind-keeps (expect (is want.Identifier)) (λ second. choose (is_public first.text) (optional dot (target_is.Column (named first) second.text) (qualified_column first.pos second.text)) (pure (target_is.Column (named first) second.text))) (keeps (expect (is want.Identifier)) (expect-shortens (is want.Identifier))) (λ second. choose-keeps (is_public first.text) (optional dot (target_is.Column (named first) second.text) (qualified_column first.pos second.text)) (pure (target_is.Column (named first) second.text)) (optional-keeps dot (target_is.Column (named first) second.text) (qualified_column first.pos second.text) (qualified_column-keeps first.pos second.text)) (keeps-pure (target_is.Column (named first) second.text))))))

pub column_target-keeps : NeverLengthens column_target
column_target-keeps = keeps column_target column_target-shortens

pub constraint_target-shortens : Shortens constraint_target
unfolding constraint_target
constraint_target-shortens = bind-shortens (a_word word.Constraint) (λ t. expect (is want.Identifier) >>= λ first. a_word word.On >>= λ u. name >>= λ table. pure (target_is.Constraint (named first) table.text)) (expect-shortens (is_a word.Constraint)) (λ t. bind-keeps (expect (is want.Identifier)) (λ first. a_word word.On >>= λ u. name >>= λ table. pure (target_is.Constraint (named first) table.text)) (keeps (expect (is want.Identifier)) (expect-shortens (is want.Identifier))) (λ first. bind-keeps (a_word word.On) (λ u. name >>= λ table. pure (target_is.Constraint (named first) table.text)) (keeps (a_word word.On) (expect-shortens (is_a word.On))) (λ u. bind-keeps (name) (λ table. pure (target_is.Constraint (named first) table.text)) (name-keeps) (λ table. keeps-pure (target_is.Constraint (named first) table.text)))))

pub constraint_target-keeps : NeverLengthens constraint_target
constraint_target-keeps = keeps constraint_target constraint_target-shortens

pub type_target-shortens : Shortens type_target
unfolding type_target
type_target-shortens = bind-shortens (a_word word.Type) (λ t. name >>= λ found. pure (target_is.Enum found)) (expect-shortens (is_a word.Type)) (λ t. bind-keeps (name) (λ found. pure (target_is.Enum found)) (name-keeps) (λ found. keeps-pure (target_is.Enum found)))

pub type_target-keeps : NeverLengthens type_target
type_target-keeps = keeps type_target type_target-shortens

pub target-shortens : Shortens target
unfolding target
target-shortens = either-shortens (is_a word.Table) table_target (either (is_a word.Column) column_target (either (is_a word.Constraint) constraint_target type_target)) (table_target-shortens) (either-shortens (is_a word.Column) column_target (either (is_a word.Constraint) constraint_target type_target) (column_target-shortens) (either-shortens (is_a word.Constraint) constraint_target type_target (constraint_target-shortens) (type_target-shortens)))

pub target-keeps : NeverLengthens target
target-keeps = keeps target target-shortens

pub no_text-shortens : Shortens no_text
unfolding no_text
no_text-shortens = bind-shortens (a_word word.Null) (λ t. pure None) (expect-shortens (is_a word.Null)) (λ t. keeps-pure None)

pub no_text-keeps : NeverLengthens no_text
no_text-keeps = keeps no_text no_text-shortens

pub some_text-shortens : Shortens some_text
unfolding some_text
some_text-shortens = bind-shortens (string) (λ found. pure (Some found)) (string-shortens) (λ found. keeps-pure (Some found))

pub some_text-keeps : NeverLengthens some_text
some_text-keeps = keeps some_text some_text-shortens

pub comment_text-shortens : Shortens comment_text
comment_text-shortens = either-shortens (is_a word.Null) no_text some_text (no_text-shortens) (some_text-shortens)

pub comment_text-keeps : NeverLengthens comment_text
comment_text-keeps = keeps comment_text comment_text-shortens

pub comment-shortens : Shortens comment
unfolding comment
comment-shortens = bind-shortens (a_word word.Comment) (λ t. a_word word.On >>= λ u. target >>= λ on. a_word word.Is >>= λ v. comment_text >>= λ text. pure (comment_statement on text)) (expect-shortens (is_a word.Comment)) (λ t. bind-keeps (a_word word.On) (λ u. target >>= λ on. a_word word.Is >>= λ v. comment_text >>= λ text. pure (comment_statement on text)) (keeps (a_word word.On) (expect-shortens (is_a word.On))) (λ u. bind-keeps (target) (λ on. a_word word.Is >>= λ v. comment_text >>= λ text. pure (comment_statement on text)) (target-keeps) (λ on. bind-keeps (a_word word.Is) (λ v. comment_text >>= λ text. pure (comment_statement on text)) (keeps (a_word word.Is) (expect-shortens (is_a word.Is))) (λ v. bind-keeps (comment_text) (λ text. pure (comment_statement on text)) (comment_text-keeps) (λ text. keeps-pure (comment_statement on text))))))

pub comment-keeps : NeverLengthens comment
comment-keeps = keeps comment comment-shortens

pub insert-shortens : Shortens insert
unfolding insert
insert-shortens = bind-shortens (a_word word.Insert) (λ t. a_word word.Into >>= λ u. name >>= λ table. optional_columns >>= λ named_columns. a_word word.Values >>= λ v. pure (insert_statement table named_columns)) (expect-shortens (is_a word.Insert)) (λ t. bind-keeps (a_word word.Into) (λ u. name >>= λ table. optional_columns >>= λ named_columns. a_word word.Values >>= λ v. pure (insert_statement table named_columns)) (keeps (a_word word.Into) (expect-shortens (is_a word.Into))) (λ u. bind-keeps (name) (λ table. optional_columns >>= λ named_columns. a_word word.Values >>= λ v. pure (insert_statement table named_columns)) (name-keeps) (λ table. bind-keeps (optional_columns) (λ named_columns. a_word word.Values >>= λ v. pure (insert_statement table named_columns)) (optional_columns-keeps) (λ named_columns. bind-keeps (a_word word.Values) (λ v. pure (insert_statement table named_columns)) (keeps (a_word word.Values) (expect-shortens (is_a word.Values))) (λ v. keeps-pure (insert_statement table named_columns))))))

pub insert-keeps : NeverLengthens insert
insert-keeps = keeps insert insert-shortens

pub head-keeps : (enums : List EnumDef) → NeverLengthens (head enums)
unfolding head
head-keeps enums = either-keeps (is want.SkippedStart) skipped (either (is_a word.Create) (create enums) (either (is_a word.Alter) alter (either (is_a word.Comment) comment (either (is_a word.Insert) insert (before (is want.Last) statement_is.Nothing))))) (skipped-keeps) (either-keeps (is_a word.Create) (create enums) (either (is_a word.Alter) alter (either (is_a word.Comment) comment (either (is_a word.Insert) insert (before (is want.Last) statement_is.Nothing)))) (create-keeps enums) (either-keeps (is_a word.Alter) alter (either (is_a word.Comment) comment (either (is_a word.Insert) insert (before (is want.Last) statement_is.Nothing))) (alter-keeps) (either-keeps (is_a word.Comment) comment (either (is_a word.Insert) insert (before (is want.Last) statement_is.Nothing)) (comment-keeps) (either-keeps (is_a word.Insert) insert (before (is want.Last) statement_is.Nothing) (insert-keeps) (before-keeps (is want.Last) statement_is.Nothing)))))

pub values-shortens : Shortens values
values-shortens = separated-shortens comma value (value-shortens)

pub values-keeps : NeverLengthens values
values-keeps = keeps values values-shortens

pub row-shortens : (number : ℕ) → Shortens (row number)
unfolding row
row-shortens number = bind-shortens (a_sign 40) (λ first. values >>= λ cells. a_sign 41 >>= λ t. pure (row_of first number cells)) (expect-shortens (is_the 40)) (λ first. bind-keeps (values) (λ cells. a_sign 41 >>= λ t. pure (row_of first number cells)) (values-keeps) (λ cells. bind-keeps (a_sign 41) (λ t. pure (row_of first number cells)) (keeps (a_sign 41) (expect-shortens (is_the 41))) (λ t. keeps-pure (row_of first number cells))))

pub row-keeps : (number : ℕ) → NeverLengthens (row number)
row-keeps number = keeps (row number) (row-shortens number)

pub other_row-shortens : (number : ℕ) → Shortens (other_row number)
unfolding other_row
other_row-shortens number = bind-shortens (a_sign 44) (λ t. row number) (expect-shortens (is_the 44)) (λ t. row-keeps number)

pub other_row-keeps : (number : ℕ) → NeverLengthens (other_row number)
other_row-keeps number = keeps (other_row number) (other_row-shortens number)

pub other_rows-keeps : (number : ℕ) → (found : List Row) → NeverLengthens (other_rows number found)
other_rows-keeps number found = onto-keeps comma (other_row number) found (other_row-keeps number)

pub rows-shortens : (number : ℕ) → (found : List Row) → Shortens (rows number found)
unfolding rows
rows-shortens number found = bind-shortens (row number) (λ first. other_rows number (found ++ first ∷ [])) (row-shortens number) (λ first. other_rows-keeps number (found ++ first ∷ []))

pub rows-keeps : (number : ℕ) → (found : List Row) → NeverLengthens (rows number found)
rows-keeps number found = keeps (rows number found) (rows-shortens number found)
