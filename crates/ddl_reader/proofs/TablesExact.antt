-- The readers of CREATE, ALTER and COMMENT are exact for the grammar.
use Rattle.std.proofs.Common.{◌≡◌, ℕ, true, false, List, [], refl, Some, None}
use Rattle.pg_base.specs.declared.pos.Pos.{Pos}
use Rattle.pg_base.specs.declared.enum_def.EnumDef.{EnumDef}
use Rattle.parse_rules.specs.Tokens.{sees}
use Rattle.parse_rules.specs.Rules.{Rule, bind_rule, pure_rule}
use Rattle.parse_rules.specs.Parser.{◌>>=◌, pure}
use Rattle.parse_rules.specs.Exact.{Follow, Anything, Spelling, TakesToken}
use Rattle.parse_rules.proofs.Exact.{bind_spelling, bind-takes_first}
use Rattle.ddl_reader.specs.declared.lexeme.Lexeme.{Lexeme}
use Rattle.ddl_reader.specs.declared.lexeme.LexemeKind.TheVariants as kind
use Rattle.ddl_reader.specs.declared.lexeme.Expected.TheVariants as want
use Rattle.ddl_reader.specs.declared.word.Word.TheVariants as word
use Rattle.ddl_reader.specs.declared.statement.Name.{Name}
use Rattle.ddl_reader.specs.declared.statement.Statement.{Statement}
use Rattle.ddl_reader.specs.declared.statement.Element.{Element}
use Rattle.ddl_reader.specs.declared.statement.Element.TheVariants as element_is
use Rattle.ddl_reader.specs.declared.statement.Target.TheVariants as target_is
use Rattle.ddl_reader.specs.Lexemes.{is, is_a, is_the}
use Rattle.ddl_reader.specs.Trees.{named, is_public, column_of, table_statement, enum_statement, rule_statement, comment_statement}
use Rattle.ddl_reader.specs.Reading.{Reader, a_word, name, rule, rule_element, column_element, element, not_exists, if_not_exists, plain_name, new_name, elements, create_table, string, strings, create_type, only, optional_only, alter, table_target, qualified_column, column_target, constraint_target, type_target, target, no_text, some_text, comment_text, comment}
use Rattle.ddl_reader.specs.Grammar.{comma, dot, word_rule, IsName, IsRule, IsRuleElement, IsColumnElement, IsElement, IsNotExists, IsIfNotExists, IsPlainName, IsNewName, IsElements, IsCreateTable, IsString, IsStrings, IsCreateType, IsOnly, IsOptionalOnly, IsAlter, IsTableTarget, IsQualifiedColumn, IsColumnTarget, IsConstraintTarget, IsTypeTarget, IsTarget, IsNoText, IsSomeText, IsCommentText, IsComment}
use Rattle.ddl_reader.proofs.Production.{Production, Not, some_of, some_word, some_sign, some_name, nothing, takes_any, takes, token, token_way, token_takes, token_begins, made, then, then_some, then_token, chosen, either_of, optionally, listed, weaker}
use Rattle.ddl_reader.proofs.NamesExact.{name_exact, name_way}
use Rattle.ddl_reader.proofs.TypesExact.{TypeEnd, column_type_exact}
use Rattle.ddl_reader.proofs.RulesExact.{ReferenceEnd, ColumnEnd, column_rules_exact, rule_exact, rule_begins}
use Rattle.ddl_reader.proofs.Lengths.{either-shortens}
use Rattle.ddl_reader.proofs.ItemLengths.{name-shortens, rule_element-shortens, column_element-shortens, not_exists-shortens, if_not_exists-shortens, plain_name-shortens, only-shortens, qualified_column-shortens, table_target-shortens, column_target-shortens, constraint_target-shortens, type_target-shortens, no_text-shortens, some_text-shortens}

-- ---- elements

-- what may follow an element
abbrev ElementEnd : Follow Lexeme
ElementEnd k = ColumnEnd k × TypeEnd k

rule_element_exact : Production ElementEnd IsRuleElement rule_element
unfolding rule_element
rule_element_exact = made ElementEnd _ _ (λ found. element_is.Rule found) (weaker ReferenceEnd ElementEnd _ _ (λ k f. f.0.0) rule_exact)

column_element_exact : (enums : List EnumDef) → Production ElementEnd (IsColumnElement enums) (column_element enums)
unfolding column_element
column_element_exact enums = token ElementEnd (is want.Identifier) some_name refl _ _ (λ first. then_some TypeEnd ElementEnd _ _ _ _ (λ k f. f.1) (column_type_exact enums)
    (λ kind. weaker ColumnEnd ElementEnd _ _ (λ k f. f.0) (made ColumnEnd _ _ (λ rules. column_of first kind rules) column_rules_exact))
    (λ kind. record { text = []; made = column_of first kind []; spelled = λ k f. (k, [], (f.0.1, refl), (refl, refl)); fits = λ k f. f.1 }))

rule_element_begins : (ts rest : List Lexeme) (a : Element) → IsRuleElement ts rest a → sees (is want.TableRule) ts ≡ true
rule_element_begins ts rest a r = rule_begins ts r.0 r.1 r.2

element_exact : (enums : List EnumDef) → Production ElementEnd (IsElement enums) (element enums)
unfolding element
element_exact enums = either_of ElementEnd (is want.TableRule) _ _ _ _ rule_element_exact rule_element-shortens rule_element_begins (column_element_exact enums) (column_element-shortens enums)

-- what may follow the elements
abbrev ElementsEnd : Follow Lexeme
ElementsEnd k = ElementEnd k × Not comma k

elements_exact : (enums : List EnumDef) → Production ElementsEnd (IsElements enums) (elements enums)
elements_exact enums = listed ElementEnd ElementsEnd comma (some_sign 44) refl _ _ (element_exact enums) (λ k f. f.0) (λ k f. f.1)

-- ---- CREATE TABLE

not_exists_exact : Production (Not dot) IsNotExists not_exists
unfolding not_exists
not_exists_exact = token (Not dot) (is_a word.Not) (some_word word.Not) refl _ _ (λ t. token (Not dot) (is_a word.Exists) (some_word word.Exists) refl _ _ (λ u. made (Not dot) _ _ (λ table. (true, table)) name_exact))

-- what may follow the name of a new table
abbrev NewNameEnd : Follow Lexeme
NewNameEnd k = Not dot k × Not (is_a word.Not) k

if_not_exists_exact : Production NewNameEnd IsIfNotExists if_not_exists
unfolding if_not_exists
if_not_exists_exact = token NewNameEnd (is_a word.If) (some_word word.If) refl _ _ (λ first. optionally NewNameEnd (is_a word.Not) (false, named first) _ _ (weaker (Not dot) NewNameEnd _ _ (λ k f. f.0) not_exists_exact) not_exists-shortens (λ k f. f.1))

plain_name_exact : Production (Not dot) IsPlainName plain_name
unfolding plain_name
plain_name_exact = made (Not dot) _ _ (λ table. (false, table)) name_exact

new_name_exact : Production NewNameEnd IsNewName new_name
new_name_exact = either_of NewNameEnd (is_a word.If) _ _ _ _ if_not_exists_exact if_not_exists-shortens (token_begins (is_a word.If) _) (weaker (Not dot) NewNameEnd _ _ (λ k f. f.0) plain_name_exact) plain_name-shortens

pub create_table_exact : (F : Follow Lexeme) (enums : List EnumDef) → Production F (IsCreateTable enums) (create_table enums)
unfolding create_table
create_table_exact F enums = token F (is_a word.Table) (some_word word.Table) refl _ _ (λ t. then_token NewNameEnd F _ _ (is_the 40) (some_sign 40) refl (λ k. (refl, refl)) _ _ new_name_exact
    (λ table u. then_token ElementsEnd F _ _ (is_the 41) (some_sign 41) refl (λ k. ((((refl, refl, refl), refl), (refl, refl, refl)), refl)) _ _ (elements_exact enums) (λ inner v. nothing F (table_statement table inner))))

-- ---- CREATE TYPE

string_exact : (F : Follow Lexeme) → Production F IsString string
unfolding string
string_exact F = token F (is want.Str) (some_of kind.Str []) refl _ _ (λ l. nothing F l.text)

strings_exact : Production (Not comma) IsStrings strings
strings_exact = listed Anything (Not comma) comma (some_sign 44) refl _ _ (string_exact Anything) (λ k f. tt) (λ k f. f)

pub create_type_exact : (F : Follow Lexeme) → Production F IsCreateType create_type
unfolding create_type
create_type_exact F = token F (is_a word.Type) (some_word word.Type) refl _ _ (λ t. then_token (Not dot) F _ _ (is_a word.As) (some_word word.As) refl (λ k. refl) _ _ name_exact
    (λ type_name u. token F (is_a word.Enum) (some_word word.Enum) refl _ _ (λ v. token F (is_the 40) (some_sign 40) refl _ _ (λ w. then_token (Not comma) F _ _ (is_the 41) (some_sign 41) refl (λ k. refl) _ _ strings_exact
    (λ labels x. nothing F (enum_statement type_name labels))))))

-- ---- ALTER TABLE

only_exact : (F : Follow Lexeme) → Production F IsOnly only
unfolding only
only_exact F = token F (is_a word.Only) (some_word word.Only) refl _ _ (λ t. nothing F tt)

optional_only_exact : Production (Not (is_a word.Only)) IsOptionalOnly optional_only
optional_only_exact = optionally (Not (is_a word.Only)) (is_a word.Only) tt _ _ (only_exact (Not (is_a word.Only))) only-shortens (λ k f. f)

-- ADD and a rule
abbrev after_table : Name → Rule Lexeme Statement
after_table table = bind_rule (word_rule word.Add) (λ v. bind_rule IsRule (λ added. pure_rule (rule_statement table added)))

abbrev add_rule : Name → Reader Statement
add_rule table = a_word word.Add >>= λ v. rule >>= λ added. pure (rule_statement table added)

add_rule_exact : (table : Name) → Production ReferenceEnd (after_table table) (add_rule table)
add_rule_exact table = token ReferenceEnd (is_a word.Add) (some_word word.Add) refl _ _ (λ v. made ReferenceEnd _ _ (λ added. rule_statement table added) rule_exact)

add_rule_way : (table : Name) → Spelling ReferenceEnd (Not dot) (after_table table)
add_rule_way table = token_way ReferenceEnd (is_a word.Add) (some_word word.Add) refl _ _ (λ v. made ReferenceEnd _ _ (λ added. rule_statement table added) rule_exact) (Not dot) (λ k. refl)

-- a name and what is added to it
abbrev named_rule : Rule Lexeme Statement
named_rule = bind_rule IsName after_table

named_exact : Production ReferenceEnd named_rule (name >>= add_rule)
named_exact = then (Not dot) ReferenceEnd _ _ after_table add_rule name_exact add_rule_exact (λ table. token_takes ReferenceEnd (is_a word.Add) (some_word word.Add) refl _ _ (λ v. made ReferenceEnd _ _ (λ added. rule_statement table added) rule_exact)) add_rule_way

named_way : Spelling ReferenceEnd (Not (is_a word.Only)) named_rule
named_way = bind_spelling (Not dot) ReferenceEnd (Not (is_a word.Only)) IsName after_table (name_way (Not dot) (Not (is_a word.Only)) (λ k f. refl)) (add_rule_way _)

named_takes : TakesToken named_rule
named_takes = bind-takes_first IsName after_table (takes (Not dot) _ _ name_exact name-shortens) (λ table. takes_any ReferenceEnd _ _ (add_rule_exact table))

pub alter_exact : Production ReferenceEnd IsAlter alter
unfolding alter
alter_exact = token ReferenceEnd (is_a word.Alter) (some_word word.Alter) refl _ _ (λ t. token ReferenceEnd (is_a word.Table) (some_word word.Table) refl _ _ (λ u. then (Not (is_a word.Only)) ReferenceEnd _ _ (λ ignored. named_rule) (λ ignored. name >>= add_rule) optional_only_exact (λ ignored. named_exact) (λ ignored. named_takes) (λ ignored. named_way)))

-- ---- COMMENT

table_target_exact : Production (Not dot) IsTableTarget table_target
unfolding table_target
table_target_exact = token (Not dot) (is_a word.Table) (some_word word.Table) refl _ _ (λ t. made (Not dot) _ _ (λ found. target_is.Table found) name_exact)

qualified_column_exact : (F : Follow Lexeme) (place : Pos) (table : List ℕ) → Production F (IsQualifiedColumn place table) (qualified_column place table)
unfolding qualified_column
qualified_column_exact F place table = token F (is_the 46) (some_sign 46) refl _ _ (λ t. token F (is want.Identifier) some_name refl _ _ (λ third. nothing F (target_is.Column (record { text = table; pos = place }) third.text)))

column_target_exact : Production (Not dot) IsColumnTarget column_target
unfolding column_target
column_target_exact = token (Not dot) (is_a word.Column) (some_word word.Column) refl _ _ (λ t. token (Not dot) (is want.Identifier) some_name refl _ _ (λ first. token (Not dot) (is_the 46) (some_sign 46) refl _ _ (λ u. token (Not dot) (is want.Identifier) some_name refl _ _ (λ second.
    chosen (Not dot) (is_public first.text) _ _ _ _
    (λ e. optionally (Not dot) dot (target_is.Column (named first) second.text) _ _ (qualified_column_exact (Not dot) first.pos second.text) (qualified_column-shortens first.pos second.text) (λ k f. f))
    (λ e. nothing (Not dot) (target_is.Column (named first) second.text))))))

constraint_target_exact : Production (Not dot) IsConstraintTarget constraint_target
unfolding constraint_target
constraint_target_exact = token (Not dot) (is_a word.Constraint) (some_word word.Constraint) refl _ _ (λ t. token (Not dot) (is want.Identifier) some_name refl _ _ (λ first. token (Not dot) (is_a word.On) (some_word word.On) refl _ _ (λ u. made (Not dot) _ _ (λ table. target_is.Constraint (named first) table.text) name_exact)))

type_target_exact : Production (Not dot) IsTypeTarget type_target
unfolding type_target
type_target_exact = token (Not dot) (is_a word.Type) (some_word word.Type) refl _ _ (λ t. made (Not dot) _ _ (λ found. target_is.Enum found) name_exact)

target_exact : Production (Not dot) IsTarget target
unfolding target
target_exact = either_of (Not dot) (is_a word.Table) _ _ _ _ table_target_exact table_target-shortens (token_begins (is_a word.Table) _)
    (either_of (Not dot) (is_a word.Column) _ _ _ _ column_target_exact column_target-shortens (token_begins (is_a word.Column) _)
    (either_of (Not dot) (is_a word.Constraint) _ _ _ _ constraint_target_exact constraint_target-shortens (token_begins (is_a word.Constraint) _) type_target_exact type_target-shortens)
    (either-shortens (is_a word.Constraint) _ _ constraint_target-shortens type_target-shortens))
    (either-shortens (is_a word.Column) _ _ column_target-shortens (either-shortens (is_a word.Constraint) _ _ constraint_target-shortens type_target-shortens))

no_text_exact : (F : Follow Lexeme) → Production F IsNoText no_text
unfolding no_text
no_text_exact F = token F (is_a word.Null) (some_word word.Null) refl _ _ (λ t. nothing F None)

some_text_exact : (F : Follow Lexeme) → Production F IsSomeText some_text
unfolding some_text
some_text_exact F = made F _ _ (λ found. Some found) (string_exact F)

comment_text_exact : (F : Follow Lexeme) → Production F IsCommentText comment_text
comment_text_exact F = either_of F (is_a word.Null) _ _ _ _ (no_text_exact F) no_text-shortens (token_begins (is_a word.Null) _) (some_text_exact F) some_text-shortens

pub comment_exact : (F : Follow Lexeme) → Production F IsComment comment
unfolding comment
comment_exact F = token F (is_a word.Comment) (some_word word.Comment) refl _ _ (λ t. token F (is_a word.On) (some_word word.On) refl _ _ (λ u. then_token (Not dot) F _ _ (is_a word.Is) (some_word word.Is) refl (λ k. refl) _ _ target_exact
    (λ on v. made F _ _ (λ text. comment_statement on text) (comment_text_exact F))))
