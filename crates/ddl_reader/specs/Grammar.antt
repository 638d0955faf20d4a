-- The grammar of scripts as rules: each production holds between the lexemes from its first on, those after it, and
-- what it spells. What may be left out is told by the next lexeme.
use Rattle.std.specs.Prelude.{◌≡◌, ◌⊎◌, ℕ, Bool, true, false, List, [], ◌∷◌, ◌++◌, Option, Some, None}
use Rattle.pg_base.specs.declared.pos.Pos.{Pos}
use Rattle.pg_base.specs.declared.enum_def.EnumDef.{EnumDef}
use Rattle.ddl_reader.specs.declared.lexeme.Lexeme.{Lexeme}
use Rattle.ddl_reader.specs.declared.lexeme.LexemeKind.{LexemeKind}
use Rattle.ddl_reader.specs.declared.lexeme.Expected.TheVariants as want
use Rattle.ddl_reader.specs.declared.word.Word.{Word}
use Rattle.ddl_reader.specs.declared.word.Word.TheVariants as word
use Rattle.ddl_reader.specs.declared.script.Literal.{Literal}
use Rattle.ddl_reader.specs.declared.script.Literal.TheVariants as literal_is
use Rattle.ddl_reader.specs.declared.statement.Name.{Name}
use Rattle.ddl_reader.specs.declared.statement.Statement.{Statement}
use Rattle.ddl_reader.specs.declared.statement.Statement.TheVariants as statement_is
use Rattle.ddl_reader.specs.declared.statement.Element.{Element}
use Rattle.ddl_reader.specs.declared.statement.Element.TheVariants as element_is
use Rattle.ddl_reader.specs.declared.statement.ColumnType.{ColumnType}
use Rattle.ddl_reader.specs.declared.statement.ColumnRule.{ColumnRule}
use Rattle.ddl_reader.specs.declared.statement.ColumnRuleKind.{ColumnRuleKind}
use Rattle.ddl_reader.specs.declared.statement.ColumnRuleKind.TheVariants as column_rule_is
use Rattle.ddl_reader.specs.declared.statement.Rule.{Rule as TableRule}
use Rattle.ddl_reader.specs.declared.statement.RuleKind.{RuleKind}
use Rattle.ddl_reader.specs.declared.statement.RuleKind.TheVariants as rule_is
use Rattle.ddl_reader.specs.declared.statement.Reference.{Reference}
use Rattle.ddl_reader.specs.declared.statement.Target.{Target}
use Rattle.ddl_reader.specs.declared.statement.Target.TheVariants as target_is
use Rattle.ddl_reader.specs.declared.statement.Row.{Row}
use Rattle.ddl_reader.specs.Lexemes.{is, is_a, is_the, is_word, is_sign, is_built_in}
use Rattle.ddl_reader.specs.Trees.{named, is_public, is_length, length_type, built_in_type, stands_in, enum_type, is_enum, is_known_type, is_schema_of, literal_of, text_type, column_of, rule_of, column_rule_of, reference_of, table_statement, enum_statement, rule_statement, comment_statement, insert_statement, row_of}
use Rattle.parse_rules.specs.Rules.{Rule, pure_rule, token_rule, bind_rule, either_rule, optional_rule, while_rule, separated_rule, while_onto_rule, skip_rule, before_rule}

-- one of two rules, by a fact that is known
abbrev pub choose_rule : {A : Type 0} → Bool → Rule Lexeme A → Rule Lexeme A → Rule Lexeme A
choose_rule b R S = λ ts rest a. ((b ≡ true) × R ts rest a) ⊎ ((b ≡ false) × S ts rest a)

abbrev pub word_rule : Word → Rule Lexeme Lexeme
word_rule w = token_rule (is_a w)

abbrev pub sign_rule : ℕ → Rule Lexeme Lexeme
sign_rule byte = token_rule (is_the byte)

abbrev pub comma : Lexeme → Bool
comma = is_the 44

abbrev pub opening : Lexeme → Bool
opening = is_the 40

abbrev pub dot : Lexeme → Bool
dot = is_the 46

-- ---- names

-- '.' identifier
abbrev pub IsQualified : Pos → Rule Lexeme Name
IsQualified place = bind_rule (sign_rule 46) (λ t. bind_rule (token_rule (is want.Identifier)) (λ inner. pure_rule
    (record { text = inner.text; pos = place })))

-- [public '.'] identifier
abbrev pub IsName : Rule Lexeme Name
IsName = bind_rule (token_rule (is want.Identifier)) (λ first. choose_rule (is_public first.text) (optional_rule dot
    (named first) (IsQualified first.pos)) (pure_rule (named first)))

abbrev pub IsIdentifier : Rule Lexeme (List ℕ)
IsIdentifier = bind_rule (token_rule (is want.Identifier)) (λ l. pure_rule l.text)

abbrev pub IsIdentifiers : Rule Lexeme (List (List ℕ))
IsIdentifiers = separated_rule comma IsIdentifier

-- '(' identifier {',' identifier} ')'
abbrev pub IsColumns : Rule Lexeme (List (List ℕ))
IsColumns = bind_rule (sign_rule 40) (λ t. bind_rule IsIdentifiers (λ found. bind_rule (sign_rule 41) (λ u. pure_rule
    found)))

abbrev pub IsSomeColumns : Rule Lexeme (Option (List (List ℕ)))
IsSomeColumns = bind_rule IsColumns (λ found. pure_rule (Some found))

-- ['(' identifier {',' identifier} ')']
abbrev pub IsOptionalColumns : Rule Lexeme (Option (List (List ℕ)))
IsOptionalColumns = optional_rule opening None IsSomeColumns

-- ---- literals

abbrev pub IsNegative : Rule Lexeme Literal
IsNegative = bind_rule (token_rule (is want.Number)) (λ digits. pure_rule (literal_is.Number (45 ∷ digits.text)))

-- ['-'] Number | string | TRUE | FALSE | NULL
abbrev pub IsLiteral : Rule Lexeme Literal
IsLiteral = bind_rule (token_rule (is want.LiteralStart)) (λ first. choose_rule (is_sign first.kind 45) IsNegative
    (pure_rule (literal_of first)))

abbrev pub IsDefaultValue : Rule Lexeme Literal
IsDefaultValue = bind_rule (word_rule word.Default) (λ t. pure_rule literal_is.Default)

-- literal | DEFAULT
abbrev pub IsValue : Rule Lexeme Literal
IsValue = either_rule (is_a word.Default) IsDefaultValue IsLiteral

-- ---- types

abbrev pub IsLengthNumber : Rule Lexeme ColumnType
IsLengthNumber = bind_rule (token_rule is_length) (λ n. pure_rule (length_type n.text))

-- '(' Number ')'
abbrev pub IsTypeLength : Rule Lexeme ColumnType
IsTypeLength = bind_rule (sign_rule 40) (λ t. bind_rule IsLengthNumber (λ found. bind_rule (sign_rule 41) (λ u.
    pure_rule found)))

-- varchar or character varying after its words
abbrev pub IsOptionalLength : Rule Lexeme ColumnType
IsOptionalLength = optional_rule opening text_type IsTypeLength

abbrev pub IsVarchar : Rule Lexeme ColumnType
IsVarchar = bind_rule (word_rule word.Varchar) (λ t. IsOptionalLength)

abbrev pub IsVarying : Rule Lexeme ColumnType
IsVarying = bind_rule (word_rule word.Varying) (λ t. IsOptionalLength)

-- CHARACTER VARYING, or an enum of this name
abbrev pub IsCharacter : List EnumDef → Rule Lexeme ColumnType
IsCharacter enums = bind_rule (word_rule word.Character) (λ first. choose_rule (stands_in enums first.text)
    (optional_rule (is_a word.Varying) (enum_type enums first.text) IsVarying) IsVarying)

abbrev pub IsPlainEnum : List EnumDef → Rule Lexeme ColumnType
IsPlainEnum enums = bind_rule (token_rule (is_enum enums)) (λ l. pure_rule (enum_type enums l.text))

-- '.' enum
abbrev pub IsQualifiedEnum : List EnumDef → Rule Lexeme ColumnType
IsQualifiedEnum enums = bind_rule (sign_rule 46) (λ t. IsPlainEnum enums)

-- after a type's first word: a built-in type, the schema before an enum, or an enum
abbrev pub IsTypeAfter : List EnumDef → LexemeKind → List ℕ → Rule Lexeme ColumnType
IsTypeAfter enums k text = choose_rule (is_built_in k) (pure_rule (built_in_type k)) (choose_rule (is_schema_of enums
    text) (choose_rule (stands_in enums text) (optional_rule dot (enum_type enums text) (IsQualifiedEnum enums))
    (IsQualifiedEnum enums)) (pure_rule (enum_type enums text)))

-- a built-in type of one word, or [public '.'] enum
abbrev pub IsKnownType : List EnumDef → Rule Lexeme ColumnType
IsKnownType enums = bind_rule (token_rule (is_known_type enums)) (λ first. IsTypeAfter enums first.kind first.text)

abbrev pub IsColumnType : List EnumDef → Rule Lexeme ColumnType
IsColumnType enums = either_rule (is_a word.Character) (IsCharacter enums) (either_rule (is_a word.Varchar) IsVarchar
    (IsKnownType enums))

-- ---- rules

abbrev pub IsNoAction : Rule Lexeme (Unit {0})
IsNoAction = bind_rule (word_rule word.No) (λ t. bind_rule (word_rule word.Action) (λ u. pure_rule tt))

abbrev pub IsRestrict : Rule Lexeme (Unit {0})
IsRestrict = bind_rule (word_rule word.Restrict) (λ t. pure_rule tt)

-- ON (DELETE | UPDATE) (NO ACTION | RESTRICT)
abbrev pub IsAction : Rule Lexeme (Unit {0})
IsAction = bind_rule (word_rule word.On) (λ t. bind_rule (token_rule (is want.Change)) (λ u. either_rule (is_a
    word.No) IsNoAction IsRestrict))

abbrev pub IsActions : Rule Lexeme (Unit {0})
IsActions = bind_rule (while_rule (is_a word.On) IsAction) (λ found. pure_rule tt)

-- after REFERENCES
abbrev pub IsReference : Rule Lexeme Reference
IsReference = bind_rule IsName (λ table. bind_rule IsOptionalColumns (λ named_columns. bind_rule IsActions (λ ignored.
    pure_rule (reference_of table named_columns))))

abbrev pub IsAlways : Rule Lexeme (Unit {0})
IsAlways = bind_rule (word_rule word.Always) (λ t. pure_rule tt)

abbrev pub IsByDefault : Rule Lexeme (Unit {0})
IsByDefault = bind_rule (word_rule word.By) (λ t. bind_rule (word_rule word.Default) (λ u. pure_rule tt))

abbrev pub IsGeneration : Rule Lexeme (Unit {0})
IsGeneration = either_rule (is_a word.Always) IsAlways IsByDefault

-- after GENERATED
abbrev pub IsIdentity : Rule Lexeme ColumnRuleKind
IsIdentity = bind_rule IsGeneration (λ ignored. bind_rule (word_rule word.As) (λ t. bind_rule (word_rule
    word.Identity) (λ u. pure_rule column_rule_is.Identity)))

abbrev pub IsNotNull : Rule Lexeme ColumnRuleKind
IsNotNull = bind_rule (word_rule word.Null) (λ t. pure_rule column_rule_is.NotNull)

abbrev pub IsPrimary : Rule Lexeme ColumnRuleKind
IsPrimary = bind_rule (word_rule word.Key) (λ t. pure_rule column_rule_is.Primary)

abbrev pub IsDefault : Rule Lexeme ColumnRuleKind
IsDefault = bind_rule IsLiteral (λ value. pure_rule (column_rule_is.Default value))

abbrev pub IsRefers : Rule Lexeme ColumnRuleKind
IsRefers = bind_rule IsReference (λ target. pure_rule (column_rule_is.Refers target))

-- after a column rule's first word
abbrev pub IsColumnRuleAfter : LexemeKind → Rule Lexeme ColumnRuleKind
IsColumnRuleAfter k = choose_rule (is_word k word.Not) IsNotNull (choose_rule (is_word k word.Null) (pure_rule
    column_rule_is.Null) (choose_rule (is_word k word.Primary) IsPrimary (choose_rule (is_word k word.Unique)
    (pure_rule column_rule_is.Unique) (choose_rule (is_word k word.Default) IsDefault (choose_rule (is_word k
    word.References) IsRefers IsIdentity)))))

-- a column rule without its name, which begins there
abbrev pub IsUnnamedColumnRule : Option Pos → Option (List ℕ) → Rule Lexeme ColumnRule
IsUnnamedColumnRule begins constraint = bind_rule (token_rule (is want.ColumnRuleWord)) (λ first. bind_rule
    (IsColumnRuleAfter first.kind) (λ what. pure_rule (column_rule_of begins constraint first what)))

abbrev pub IsNamedColumnRule : Rule Lexeme ColumnRule
IsNamedColumnRule = bind_rule (word_rule word.Constraint) (λ first. bind_rule IsIdentifier (λ constraint.
    IsUnnamedColumnRule (Some first.pos) (Some constraint)))

-- [CONSTRAINT identifier] columnrule
abbrev pub IsColumnRule : Rule Lexeme ColumnRule
IsColumnRule = either_rule (is_a word.Constraint) IsNamedColumnRule (IsUnnamedColumnRule None None)

abbrev pub IsColumnRules : Rule Lexeme (List ColumnRule)
IsColumnRules = while_rule (is want.ColumnRule) IsColumnRule

abbrev pub IsPrimaryKey : Rule Lexeme RuleKind
IsPrimaryKey = bind_rule (word_rule word.Key) (λ t. bind_rule IsColumns (λ found. pure_rule (rule_is.Primary found)))

abbrev pub IsUnique : Rule Lexeme RuleKind
IsUnique = bind_rule IsColumns (λ found. pure_rule (rule_is.Unique found))

abbrev pub IsForeign : Rule Lexeme RuleKind
IsForeign = bind_rule (word_rule word.Key) (λ t. bind_rule IsColumns (λ found. bind_rule (word_rule word.References)
    (λ u. bind_rule IsReference (λ target. pure_rule (rule_is.Foreign found target)))))

-- after a rule's first word
abbrev pub IsRuleAfter : LexemeKind → Rule Lexeme RuleKind
IsRuleAfter k = choose_rule (is_word k word.Primary) IsPrimaryKey (choose_rule (is_word k word.Unique) IsUnique
    IsForeign)

abbrev pub IsUnnamedRule : Option Pos → Option (List ℕ) → Rule Lexeme TableRule
IsUnnamedRule begins constraint = bind_rule (token_rule (is want.RuleWord)) (λ first. bind_rule (IsRuleAfter
    first.kind) (λ what. pure_rule (rule_of begins constraint first what)))

abbrev pub IsNamedRule : Rule Lexeme TableRule
IsNamedRule = bind_rule (word_rule word.Constraint) (λ first. bind_rule IsIdentifier (λ constraint. IsUnnamedRule
    (Some first.pos) (Some constraint)))

-- [CONSTRAINT identifier] (PRIMARY KEY columns | UNIQUE columns | FOREIGN KEY columns refers)
abbrev pub IsRule : Rule Lexeme TableRule
IsRule = either_rule (is_a word.Constraint) IsNamedRule (IsUnnamedRule None None)

-- ---- statements

abbrev pub IsRuleElement : Rule Lexeme Element
IsRuleElement = bind_rule IsRule (λ found. pure_rule (element_is.Rule found))

-- column type {[CONSTRAINT identifier] columnrule}
abbrev pub IsColumnElement : List EnumDef → Rule Lexeme Element
IsColumnElement enums = bind_rule (token_rule (is want.Identifier)) (λ first. bind_rule (IsColumnType enums) (λ kind.
    bind_rule IsColumnRules (λ rules. pure_rule (column_of first kind rules))))

abbrev pub IsElement : List EnumDef → Rule Lexeme Element
IsElement enums = either_rule (is want.TableRule) IsRuleElement (IsColumnElement enums)

-- NOT EXISTS name
abbrev pub IsNotExists : Rule Lexeme (Bool × Name)
IsNotExists = bind_rule (word_rule word.Not) (λ t. bind_rule (word_rule word.Exists) (λ u. bind_rule IsName (λ table.
    pure_rule (true, table))))

-- after IF, which is the table's name where NOT doesn't follow
abbrev pub IsIfNotExists : Rule Lexeme (Bool × Name)
IsIfNotExists = bind_rule (word_rule word.If) (λ first. optional_rule (is_a word.Not) (false, named first)
    IsNotExists)

abbrev pub IsPlainName : Rule Lexeme (Bool × Name)
IsPlainName = bind_rule IsName (λ table. pure_rule (false, table))

-- [IF NOT EXISTS] name
abbrev pub IsNewName : Rule Lexeme (Bool × Name)
IsNewName = either_rule (is_a word.If) IsIfNotExists IsPlainName

-- TABLE [IF NOT EXISTS] name '(' element {',' element} ')'
abbrev pub IsElements : List EnumDef → Rule Lexeme (List Element)
IsElements enums = separated_rule comma (IsElement enums)

abbrev pub IsCreateTable : List EnumDef → Rule Lexeme Statement
IsCreateTable enums = bind_rule (word_rule word.Table) (λ t. bind_rule IsNewName (λ table. bind_rule (sign_rule 40) (λ
    u. bind_rule (IsElements enums) (λ inner. bind_rule (sign_rule 41) (λ v. pure_rule (table_statement table
    inner))))))

abbrev pub IsString : Rule Lexeme (List ℕ)
IsString = bind_rule (token_rule (is want.Str)) (λ l. pure_rule l.text)

abbrev pub IsStrings : Rule Lexeme (List (List ℕ))
IsStrings = separated_rule comma IsString

-- TYPE name AS ENUM '(' string {',' string} ')'
abbrev pub IsCreateType : Rule Lexeme Statement
IsCreateType = bind_rule (word_rule word.Type) (λ t. bind_rule IsName (λ type_name. bind_rule (word_rule word.As) (λ
    u. bind_rule (word_rule word.Enum) (λ v. bind_rule (sign_rule 40) (λ w. bind_rule IsStrings (λ labels. bind_rule
    (sign_rule 41) (λ x. pure_rule (enum_statement type_name labels))))))))

abbrev pub IsAny : Rule Lexeme Statement
IsAny = skip_rule (is want.Inner) statement_is.Nothing

-- (INDEX | EXTENSION) any
abbrev pub IsCreateSkipped : Rule Lexeme Statement
IsCreateSkipped = bind_rule (token_rule (is want.SkippedObject)) (λ t. IsAny)

abbrev pub IsCreate : List EnumDef → Rule Lexeme Statement
IsCreate enums = bind_rule (word_rule word.Create) (λ t. either_rule (is want.SkippedObject) IsCreateSkipped
    (either_rule (is_a word.Type) IsCreateType (IsCreateTable enums)))

-- (BEGIN | COMMIT | START | SET) any
abbrev pub IsSkipped : Rule Lexeme Statement
IsSkipped = bind_rule (token_rule (is want.SkippedStart)) (λ t. IsAny)

abbrev pub IsOnly : Rule Lexeme (Unit {0})
IsOnly = bind_rule (word_rule word.Only) (λ t. pure_rule tt)

abbrev pub IsOptionalOnly : Rule Lexeme (Unit {0})
IsOptionalOnly = optional_rule (is_a word.Only) tt IsOnly

-- ALTER TABLE [ONLY] name ADD rule
abbrev pub IsAlter : Rule Lexeme Statement
IsAlter = bind_rule (word_rule word.Alter) (λ t. bind_rule (word_rule word.Table) (λ u. bind_rule IsOptionalOnly (λ
    ignored. bind_rule IsName (λ table. bind_rule (word_rule word.Add) (λ v. bind_rule IsRule (λ added. pure_rule
    (rule_statement table added)))))))

abbrev pub IsTableTarget : Rule Lexeme Target
IsTableTarget = bind_rule (word_rule word.Table) (λ t. bind_rule IsName (λ found. pure_rule (target_is.Table found)))

-- '.' identifier, after public '.' identifier
abbrev pub IsQualifiedColumn : Pos → List ℕ → Rule Lexeme Target
IsQualifiedColumn place table = bind_rule (sign_rule 46) (λ t. bind_rule (token_rule (is want.Identifier)) (λ third.
    pure_rule (target_is.Column (record { text = table; pos = place }) third.text)))

-- COLUMN name '.' column
abbrev pub IsColumnTarget : Rule Lexeme Target
IsColumnTarget = bind_rule (word_rule word.Column) (λ t. bind_rule (token_rule (is want.Identifier)) (λ first.
    bind_rule (sign_rule 46) (λ u. bind_rule (token_rule (is want.Identifier)) (λ second. choose_rule (is_public
    first.text) (optional_rule dot (target_is.Column (named first) second.text) (IsQualifiedColumn first.pos
    second.text)) (pure_rule (target_is.Column (named first) second.text))))))

-- CONSTRAINT identifier ON name
abbrev pub IsConstraintTarget : Rule Lexeme Target
IsConstraintTarget = bind_rule (word_rule word.Constraint) (λ t. bind_rule (token_rule (is want.Identifier)) (λ first.
    bind_rule (word_rule word.On) (λ u. bind_rule IsName (λ table. pure_rule (target_is.Constraint (named first)
    table.text)))))

abbrev pub IsTypeTarget : Rule Lexeme Target
IsTypeTarget = bind_rule (word_rule word.Type) (λ t. bind_rule IsName (λ found. pure_rule (target_is.Enum found)))

abbrev pub IsTarget : Rule Lexeme Target
IsTarget = either_rule (is_a word.Table) IsTableTarget (either_rule (is_a word.Column) IsColumnTarget (either_rule
    (is_a word.Constraint) IsConstraintTarget IsTypeTarget))

abbrev pub IsNoText : Rule Lexeme (Option (List ℕ))
IsNoText = bind_rule (word_rule word.Null) (λ t. pure_rule None)

abbrev pub IsSomeText : Rule Lexeme (Option (List ℕ))
IsSomeText = bind_rule IsString (λ found. pure_rule (Some found))

abbrev pub IsCommentText : Rule Lexeme (Option (List ℕ))
IsCommentText = either_rule (is_a word.Null) IsNoText IsSomeText

-- COMMENT ON target IS (string | NULL)
abbrev pub IsComment : Rule Lexeme Statement
IsComment = bind_rule (word_rule word.Comment) (λ t. bind_rule (word_rule word.On) (λ u. bind_rule IsTarget (λ on.
    bind_rule (word_rule word.Is) (λ v. bind_rule IsCommentText (λ text. pure_rule (comment_statement on text))))))

-- INSERT INTO name [columns] VALUES
abbrev pub IsInsert : Rule Lexeme Statement
IsInsert = bind_rule (word_rule word.Insert) (λ t. bind_rule (word_rule word.Into) (λ u. bind_rule IsName (λ table.
    bind_rule IsOptionalColumns (λ named_columns. bind_rule (word_rule word.Values) (λ v. pure_rule (insert_statement
    table named_columns))))))

-- a statement up to its rows, or nothing before `;` or the end
abbrev pub IsHead : List EnumDef → Rule Lexeme Statement
IsHead enums = either_rule (is want.SkippedStart) IsSkipped (either_rule (is_a word.Create) (IsCreate enums)
    (either_rule (is_a word.Alter) IsAlter (either_rule (is_a word.Comment) IsComment (either_rule (is_a word.Insert)
    IsInsert (before_rule (is want.Last) statement_is.Nothing)))))

-- ---- rows

abbrev pub IsValues : Rule Lexeme (List Literal)
IsValues = separated_rule comma IsValue

-- '(' value {',' value} ')'
abbrev pub IsRow : ℕ → Rule Lexeme Row
IsRow number = bind_rule (sign_rule 40) (λ first. bind_rule IsValues (λ cells. bind_rule (sign_rule 41) (λ t.
    pure_rule (row_of first number cells))))

abbrev pub IsOtherRow : ℕ → Rule Lexeme Row
IsOtherRow number = bind_rule (sign_rule 44) (λ t. IsRow number)

abbrev pub IsOtherRows : ℕ → List Row → Rule Lexeme (List Row)
IsOtherRows number found = while_onto_rule comma (IsOtherRow number) found

-- row {',' row}, after those found
abbrev pub IsRows : ℕ → List Row → Rule Lexeme (List Row)
IsRows number found = bind_rule (IsRow number) (λ first. IsOtherRows number (found ++ first ∷ []))

-- ---- statements with their rows

-- an INSERT's rows, after those found
abbrev pub IsRowsAfter : ℕ → List Row → Statement → Rule Lexeme (List Row)
IsRowsAfter number found (statement_is.Insert i) = IsRows number found
IsRowsAfter number found statement_is.Nothing = pure_rule found
IsRowsAfter number found (statement_is.Enum e) = pure_rule found
IsRowsAfter number found (statement_is.Table t) = pure_rule found
IsRowsAfter number found (statement_is.Rule r) = pure_rule found
IsRowsAfter number found (statement_is.Comment m) = pure_rule found

-- up to `;` or the end, which isn't taken
abbrev pub IsStatement : List EnumDef → ℕ → List Row → Rule Lexeme (Statement × List Row)
IsStatement enums number found = bind_rule (IsHead enums) (λ made. bind_rule (IsRowsAfter number found made) (λ after.
    before_rule (is want.Last) (made, after)))
