-- The readers of rules are exact for the grammar.
use Rattle.std.proofs.Common.{◌≡◌, ℕ, Bool, true, false, ◌||◌, List, [], ◌∷◌, refl, ap, Option, Some, None, inl, inr}
use Rattle.std.proofs.lemmas.Bool.{false≢true}
use Rattle.pg_base.specs.declared.pos.Pos.{Pos}
use Rattle.parse_rules.specs.Tokens.{sees}
use Rattle.parse_rules.specs.Rules.{Rule, pure_rule, bind_rule}
use Rattle.parse_rules.specs.Exact.{Follow, Anything, Spelling}
use Rattle.ddl_reader.specs.declared.lexeme.Lexeme.{Lexeme}
use Rattle.ddl_reader.specs.declared.lexeme.LexemeKind.{LexemeKind}
use Rattle.ddl_reader.specs.declared.lexeme.Expected.TheVariants as want
use Rattle.ddl_reader.specs.declared.word.Word.TheVariants as word
use Rattle.ddl_reader.specs.declared.statement.Name.{Name}
use Rattle.ddl_reader.specs.declared.statement.Reference.{Reference}
use Rattle.ddl_reader.specs.declared.statement.ColumnRule.{ColumnRule}
use Rattle.ddl_reader.specs.declared.statement.ColumnRuleKind.TheVariants as column_rule_is
use Rattle.ddl_reader.specs.declared.statement.Rule.{Rule as TableRule}
use Rattle.ddl_reader.specs.declared.statement.RuleKind.TheVariants as rule_is
use Rattle.ddl_reader.specs.Lexemes.{is, is_a, is_word, is_column_rule_word, is_rule_word}
use Rattle.ddl_reader.specs.Trees.{column_rule_of, rule_of, reference_of}
use Rattle.ddl_reader.specs.Reading.{no_action, restrict, action, actions, reference, always, by_default, generation, identity, not_null, primary, default, refers, column_rule_after, unnamed_column_rule, named_column_rule, column_rule, column_rules, primary_key, unique, foreign, rule_after, unnamed_rule, named_rule, rule}
use Rattle.ddl_reader.specs.Grammar.{opening, dot, IsOptionalColumns, IsNoAction, IsRestrict, IsAction, IsActions, IsReference, IsAlways, IsByDefault, IsGeneration, IsIdentity, IsNotNull, IsPrimary, IsDefault, IsRefers, IsColumnRuleAfter, IsUnnamedColumnRule, IsNamedColumnRule, IsColumnRule, IsColumnRules, IsPrimaryKey, IsUnique, IsForeign, IsRuleAfter, IsUnnamedRule, IsNamedRule, IsRule}
use Rattle.ddl_reader.proofs.Production.{Production, Not, some_word, nothing, token, token_begins, made, then_some, then_part, then_token, chosen, either_of, repeated, weaker}
use Rattle.ddl_reader.proofs.NamesExact.{name_exact, identifier_exact, columns_exact, optional_columns_exact, literal_exact}
use Rattle.ddl_reader.proofs.ItemLengths.{no_action-shortens, restrict-shortens, action-shortens, always-shortens, by_default-shortens, named_column_rule-shortens, unnamed_column_rule-shortens, column_rule-shortens, named_rule-shortens, unnamed_rule-shortens}

-- ---- references

no_action_exact : (F : Follow Lexeme) → Production F IsNoAction no_action
unfolding no_action
no_action_exact F = token F (is_a word.No) (some_word word.No) refl _ _ (λ t. token F (is_a word.Action) (some_word word.Action) refl _ _ (λ u. nothing F tt))

restrict_exact : (F : Follow Lexeme) → Production F IsRestrict restrict
unfolding restrict
restrict_exact F = token F (is_a word.Restrict) (some_word word.Restrict) refl _ _ (λ t. nothing F tt)

action_exact : (F : Follow Lexeme) → Production F IsAction action
unfolding action
action_exact F = token F (is_a word.On) (some_word word.On) refl _ _ (λ t. token F (is want.Change) (some_word word.Delete) refl _ _ (λ u. either_of F (is_a word.No) _ _ _ _ (no_action_exact F) no_action-shortens (token_begins (is_a word.No) _) (restrict_exact F) restrict-shortens))

-- no action follows
abbrev NotOn : Follow Lexeme
NotOn = Not (is_a word.On)

actions_exact : Production NotOn IsActions actions
actions_exact = made NotOn _ _ (λ found. tt) (repeated Anything NotOn (is_a word.On) _ _ (action_exact Anything) action-shortens (token_begins (is_a word.On) _) (λ k f. tt) (λ k f. f))

-- what may follow a reference: nothing that goes on with its name, its columns or its actions
abbrev pub ReferenceEnd : Follow Lexeme
ReferenceEnd k = Not dot k × Not opening k × NotOn k

abbrev after_columns : Name → Option (List (List ℕ)) → Rule Lexeme Reference
after_columns table found = bind_rule IsActions (λ ignored. pure_rule (reference_of table found))

abbrev after_table : Name → Rule Lexeme Reference
after_table table = bind_rule IsOptionalColumns (after_columns table)

no_more : (E : Follow Lexeme) → ((k : List Lexeme) → ReferenceEnd k → E k) → (table : Name) (found : Option (List (List ℕ))) → Spelling ReferenceEnd E (after_columns table found)
no_more E fits table found = record { text = []; made = reference_of table found; spelled = λ k f. (k, tt, (k, [], (f.2, refl), (refl, refl)), (refl, refl)); fits = fits }

no_columns : (E : Follow Lexeme) → ((k : List Lexeme) → ReferenceEnd k → E k) → (table : Name) → Spelling ReferenceEnd E (after_table table)
unfolding no_more
no_columns E fits table = record { text = []; made = reference_of table None; spelled = λ k f. (k, None, inr (f.1, (refl, refl)), (no_more E fits table None).spelled k f); fits = fits }

pub reference_exact : Production ReferenceEnd IsReference reference
unfolding reference
reference_exact = then_some (Not dot) ReferenceEnd _ _ after_table _ (λ k f. f.0) name_exact
    (λ table. then_some (Not opening) ReferenceEnd _ _ (after_columns table) _ (λ k f. f.1) optional_columns_exact
    (λ found. weaker NotOn ReferenceEnd _ _ (λ k f. f.2) (made NotOn _ _ (λ ignored. reference_of table found) actions_exact))
    (no_more (Not opening) (λ k f. f.1) table))
    (no_columns (Not dot) (λ k f. f.0))

-- ---- rules of columns

always_exact : (F : Follow Lexeme) → Production F IsAlways always
unfolding always
always_exact F = token F (is_a word.Always) (some_word word.Always) refl _ _ (λ t. nothing F tt)

by_default_exact : (F : Follow Lexeme) → Production F IsByDefault by_default
unfolding by_default
by_default_exact F = token F (is_a word.By) (some_word word.By) refl _ _ (λ t. token F (is_a word.Default) (some_word word.Default) refl _ _ (λ u. nothing F tt))

generation_exact : (F : Follow Lexeme) → Production F IsGeneration generation
generation_exact F = either_of F (is_a word.Always) _ _ _ _ (always_exact F) always-shortens (token_begins (is_a word.Always) _) (by_default_exact F) by_default-shortens

identity_exact : (F : Follow Lexeme) → Production F IsIdentity identity
unfolding identity
identity_exact F = then_token Anything F _ _ (is_a word.As) (some_word word.As) refl (λ k. tt) _ _ (generation_exact Anything) (λ ignored t. token F (is_a word.Identity) (some_word word.Identity) refl _ _ (λ u. nothing F column_rule_is.Identity))

not_null_exact : (F : Follow Lexeme) → Production F IsNotNull not_null
unfolding not_null
not_null_exact F = token F (is_a word.Null) (some_word word.Null) refl _ _ (λ t. nothing F column_rule_is.NotNull)

primary_exact : (F : Follow Lexeme) → Production F IsPrimary primary
unfolding primary
primary_exact F = token F (is_a word.Key) (some_word word.Key) refl _ _ (λ t. nothing F column_rule_is.Primary)

default_exact : (F : Follow Lexeme) → Production F IsDefault default
unfolding default
default_exact F = made F _ _ (λ value. column_rule_is.Default value) (literal_exact F)

refers_exact : Production ReferenceEnd IsRefers refers
unfolding refers
refers_exact = made ReferenceEnd _ _ (λ target. column_rule_is.Refers target) reference_exact

column_rule_after_exact : (k : LexemeKind) → Production ReferenceEnd (IsColumnRuleAfter k) (column_rule_after k)
column_rule_after_exact k = chosen ReferenceEnd (is_word k word.Not) _ _ _ _ (λ e. not_null_exact ReferenceEnd)
    (λ e. chosen ReferenceEnd (is_word k word.Null) _ _ _ _ (λ e. nothing ReferenceEnd column_rule_is.Null)
    (λ e. chosen ReferenceEnd (is_word k word.Primary) _ _ _ _ (λ e. primary_exact ReferenceEnd)
    (λ e. chosen ReferenceEnd (is_word k word.Unique) _ _ _ _ (λ e. nothing ReferenceEnd column_rule_is.Unique)
    (λ e. chosen ReferenceEnd (is_word k word.Default) _ _ _ _ (λ e. default_exact ReferenceEnd)
    (λ e. chosen ReferenceEnd (is_word k word.References) _ _ _ _ (λ e. refers_exact) (λ e. identity_exact ReferenceEnd))))))

unnamed_column_rule_exact : (begins : Option Pos) (constraint : Option (List ℕ)) → Production ReferenceEnd (IsUnnamedColumnRule begins constraint) (unnamed_column_rule begins constraint)
unfolding unnamed_column_rule
unnamed_column_rule_exact begins constraint = token ReferenceEnd (is want.ColumnRuleWord) (some_word word.Null) refl _ _ (λ first. made ReferenceEnd _ _ (λ what. column_rule_of begins constraint first what) (column_rule_after_exact first.kind))

named_column_rule_exact : Production ReferenceEnd IsNamedColumnRule named_column_rule
unfolding named_column_rule
named_column_rule_exact = token ReferenceEnd (is_a word.Constraint) (some_word word.Constraint) refl _ _ (λ first. then_part ReferenceEnd _ _ _ _ (identifier_exact Anything) (λ constraint. unnamed_column_rule_exact (Some first.pos) (Some constraint)))

pub column_rule_exact : Production ReferenceEnd IsColumnRule column_rule
unfolding column_rule
column_rule_exact = either_of ReferenceEnd (is_a word.Constraint) _ _ _ _ named_column_rule_exact named_column_rule-shortens (token_begins (is_a word.Constraint) _) (unnamed_column_rule_exact None None) (unnamed_column_rule-shortens None None)

-- a column rule begins with CONSTRAINT or with a word of its own
second_of : (c r : Bool) → r ≡ true → (c || r) ≡ true
second_of true r h = refl
second_of false r h = h

first_of : (c r : Bool) → c ≡ true → (c || r) ≡ true
first_of c r h = ap (λ (b : Bool). b || r) h

column_rule_begins : (ts rest : List Lexeme) (a : ColumnRule) → IsColumnRule ts rest a → sees (is want.ColumnRule) ts ≡ true
column_rule_begins [] rest a r = absurd (elim r [ inl h ↦ false≢true h.0 | inr h ↦ false≢true (token_begins (is want.ColumnRuleWord) (λ x. bind_rule {B = ColumnRule} (IsColumnRuleAfter x.kind) (λ what. pure_rule {T = Lexeme} (column_rule_of None None x what))) [] rest a h.1) ])
column_rule_begins (t ∷ ts) rest a r = elim r [
  | inl h ↦ first_of (is_word t.kind word.Constraint) (is_column_rule_word t.kind) h.0
  | inr h ↦ second_of (is_word t.kind word.Constraint) (is_column_rule_word t.kind) (token_begins (is want.ColumnRuleWord) (λ x. bind_rule {B = ColumnRule} (IsColumnRuleAfter x.kind) (λ what. pure_rule {T = Lexeme} (column_rule_of None None x what))) (t ∷ ts) rest a h.1)
]

-- what may follow the rules of a column
abbrev pub ColumnEnd : Follow Lexeme
ColumnEnd k = ReferenceEnd k × Not (is want.ColumnRule) k

pub column_rules_exact : Production ColumnEnd IsColumnRules column_rules
column_rules_exact = repeated ReferenceEnd ColumnEnd (is want.ColumnRule) _ _ column_rule_exact column_rule-shortens column_rule_begins (λ k f. f.0) (λ k f. f.1)

-- ---- rules of tables

primary_key_exact : (F : Follow Lexeme) → Production F IsPrimaryKey primary_key
unfolding primary_key
primary_key_exact F = token F (is_a word.Key) (some_word word.Key) refl _ _ (λ t. made F _ _ (λ found. rule_is.Primary found) (columns_exact F))

unique_exact : (F : Follow Lexeme) → Production F IsUnique unique
unfolding unique
unique_exact F = made F _ _ (λ found. rule_is.Unique found) (columns_exact F)

foreign_exact : Production ReferenceEnd IsForeign foreign
unfolding foreign
foreign_exact = token ReferenceEnd (is_a word.Key) (some_word word.Key) refl _ _ (λ t. then_token Anything ReferenceEnd _ _ (is_a word.References) (some_word word.References) refl (λ k. tt) _ _ (columns_exact Anything) (λ found u. made ReferenceEnd _ _ (λ target. rule_is.Foreign found target) reference_exact))

rule_after_exact : (k : LexemeKind) → Production ReferenceEnd (IsRuleAfter k) (rule_after k)
rule_after_exact k = chosen ReferenceEnd (is_word k word.Primary) _ _ _ _ (λ e. primary_key_exact ReferenceEnd) (λ e. chosen ReferenceEnd (is_word k word.Unique) _ _ _ _ (λ e. unique_exact ReferenceEnd) (λ e. foreign_exact))

unnamed_rule_exact : (begins : Option Pos) (constraint : Option (List ℕ)) → Production ReferenceEnd (IsUnnamedRule begins constraint) (unnamed_rule begins constraint)
unfolding unnamed_rule
unnamed_rule_exact begins constraint = token ReferenceEnd (is want.RuleWord) (some_word word.Unique) refl _ _ (λ first. made ReferenceEnd _ _ (λ what. rule_of begins constraint first what) (rule_after_exact first.kind))

named_rule_exact : Production ReferenceEnd IsNamedRule named_rule
unfolding named_rule
named_rule_exact = token ReferenceEnd (is_a word.Constraint) (some_word word.Constraint) refl _ _ (λ first. then_part ReferenceEnd _ _ _ _ (identifier_exact Anything) (λ constraint. unnamed_rule_exact (Some first.pos) (Some constraint)))

pub rule_exact : Production ReferenceEnd IsRule rule
unfolding rule
rule_exact = either_of ReferenceEnd (is_a word.Constraint) _ _ _ _ named_rule_exact named_rule-shortens (token_begins (is_a word.Constraint) _) (unnamed_rule_exact None None) (unnamed_rule-shortens None None)

first_of_six : (c r x y z w : Bool) → c ≡ true → (c || r || x || y || z || w) ≡ true
first_of_six c r x y z w h = ap (λ (b : Bool). b || r || x || y || z || w) h

second_of_six : (c r x y z w : Bool) → r ≡ true → (c || r || x || y || z || w) ≡ true
second_of_six true r x y z w h = refl
second_of_six false r x y z w h = ap (λ (b : Bool). false || b || x || y || z || w) h

pub rule_begins : (ts rest : List Lexeme) (a : TableRule) → IsRule ts rest a → sees (is want.TableRule) ts ≡ true
rule_begins [] rest a r = absurd (elim r [ inl h ↦ false≢true h.0 | inr h ↦ false≢true (token_begins (is want.RuleWord) (λ x. bind_rule {B = TableRule} (IsRuleAfter x.kind) (λ what. pure_rule {T = Lexeme} (rule_of None None x what))) [] rest a h.1) ])
rule_begins (t ∷ ts) rest a r = elim r [
  | inl h ↦ first_of_six (is_word t.kind word.Constraint) (is_rule_word t.kind) (is_word t.kind word.Check) (is_word t.kind word.Exclude) (is_word t.kind word.Like) (is_word t.kind word.Collate) h.0
  | inr h ↦ second_of_six (is_word t.kind word.Constraint) (is_rule_word t.kind) (is_word t.kind word.Check) (is_word t.kind word.Exclude) (is_word t.kind word.Like) (is_word t.kind word.Collate) (token_begins (is want.RuleWord) (λ x. bind_rule {B = TableRule} (IsRuleAfter x.kind) (λ what. pure_rule {T = Lexeme} (rule_of None None x what))) (t ∷ ts) rest a h.1)
]
