-- The productions of executable documents as section 2 of the GraphQL specification (October 2021) has them: an
-- optional part is there or not, a list goes on or ends, an alternative is any that fits. No token after a part is
-- looked at.
use Rattle.std.specs.Prelude.{◌≡◌, ◌⊎◌, ℕ, Bool, true, false, List, [], ◌∷◌, Option, None}
use Rattle.parse_rules.specs.Rules.{Rule, pure_rule, token_rule, bind_rule, map_rule, behind_rule, some_until_rule}
use Rattle.parse_rules.specs.Exact.{Follow}
use Rattle.gql_lex.specs.declared.token.Punctuator.TheVariants as p
use Rattle.gql_lex.specs.declared.token.Word.TheVariants as w
use Rattle.gql_reader.specs.declared.lexeme.Lexeme.{Lexeme}
use Rattle.gql_reader.specs.declared.expected.Expected.TheVariants as want
use Rattle.gql_reader.specs.declared.tree.Value.{Value}
use Rattle.gql_reader.specs.declared.tree.Argument.{Argument}
use Rattle.gql_reader.specs.declared.tree.Directive.{Directive}
use Rattle.gql_reader.specs.declared.tree.Type as tree
use Rattle.gql_reader.specs.declared.tree.VariableDefinition.{VariableDefinition}
use Rattle.gql_reader.specs.declared.tree.Selection.{Selection}
use Rattle.gql_reader.specs.declared.tree.Definition.{Definition}
use Rattle.gql_reader.specs.Grammar.{IsValue, IsArgument}
use Rattle.gql_reader.specs.Lexemes.{is}
use Rattle.gql_reader.specs.Trees.{directive_of, named_of, list_type_of, variable_definition_of, some_text, some_value, field_of, spread_of, inline_of, operation_of, anonymous_of, fragment_of}

-- R opt: the part, or nothing and this value
abbrev pub opt_rule : {T A : Type 0} → A → Rule T A → Rule T A
opt_rule absent R = λ ts rest a. R ts rest a ⊎ pure_rule absent ts rest a

-- R list, or nothing
abbrev pub list_rule : {T A : Type 0} → Rule T A → Rule T (List A)
list_rule R ts rest [] = ts ≡ rest
list_rule R ts rest (x ∷ xs) = (mid : List _) × R ts mid x × list_rule R mid rest xs

-- ---- arguments (2.6) and directives (2.12); a value (2.9) has no optional part

-- ( Argument list )
abbrev pub GivenArguments : Bool → Rule Lexeme (List Argument)
GivenArguments constant = behind_rule (is (want.Punctuator p.OpenParen))
    (λ o. some_until_rule (is (want.Punctuator p.CloseParen)) (IsArgument constant))

-- Arguments opt
abbrev pub Arguments : Bool → Rule Lexeme (List Argument)
Arguments constant = opt_rule [] (GivenArguments constant)

-- @ Name Arguments opt
abbrev pub OneDirective : Bool → Rule Lexeme Directive
OneDirective constant = behind_rule (is (want.Punctuator p.At))
    (λ a. behind_rule (is want.Name) (λ n. map_rule (directive_of a n) (Arguments constant)))

-- Directives opt
abbrev pub Directives : Bool → Rule Lexeme (List Directive)
Directives constant = list_rule (OneDirective constant)

-- ---- types (2.11) and variables (2.10)

-- ! opt
abbrev pub Bang : Rule Lexeme Bool
Bang = opt_rule false (behind_rule (is (want.Punctuator p.Bang)) (λ b. pure_rule true))

pub data OneType : List Lexeme → List Lexeme → tree.Type → Type 0 where
  named : {n : Lexeme} {ts rest : List Lexeme} {bang : Bool} → is want.Name n ≡ true → Bang ts rest bang
      → OneType (n ∷ ts) rest (named_of n bang)
  listed : {o c : Lexeme} {ts us rest : List Lexeme} {item : tree.Type} {bang : Bool}
      → is (want.Punctuator p.OpenBracket) o ≡ true → OneType ts (c ∷ us) item
      → is (want.Punctuator p.CloseBracket) c ≡ true → Bang us rest bang
      → OneType (o ∷ ts) rest (list_type_of item bang)

-- = Value
abbrev pub GivenDefault : Rule Lexeme (Option Value)
GivenDefault = behind_rule (is (want.Punctuator p.Equals)) (λ e. map_rule some_value (IsValue true))

-- Variable : Type DefaultValue opt Directives opt
abbrev pub OneVariable : Rule Lexeme VariableDefinition
OneVariable =
    behind_rule (is (want.Punctuator p.Dollar)) (λ d.
    behind_rule (is want.Name) (λ n.
    behind_rule (is (want.Punctuator p.Colon)) (λ c.
    bind_rule OneType (λ t.
    bind_rule (opt_rule None GivenDefault) (λ x.
    map_rule (variable_definition_of d n t x) (Directives true))))))

-- ( VariableDefinition list )
abbrev pub GivenVariables : Rule Lexeme (List VariableDefinition)
GivenVariables = behind_rule (is (want.Punctuator p.OpenParen))
    (λ o. some_until_rule (is (want.Punctuator p.CloseParen)) OneVariable)

-- VariableDefinitions opt
abbrev pub Variables : Rule Lexeme (List VariableDefinition)
Variables = opt_rule [] GivenVariables

-- ---- selections (2.4): fields (2.5), with their aliases (2.7), spreads and inline fragments (2.8)

-- Alias opt Name: a name, or an alias with its colon and a name
pub data Names : List Lexeme → List Lexeme → Lexeme → Option (List ℕ) → Type 0 where
  one_name : {n : Lexeme} {rest : List Lexeme} → is want.Name n ≡ true → Names (n ∷ rest) rest n None
  alias : {a c n : Lexeme} {rest : List Lexeme} → is want.Name a ≡ true → is (want.Punctuator p.Colon) c ≡ true
      → is want.Name n ≡ true → Names (a ∷ c ∷ n ∷ rest) rest a (some_text n)

-- on NamedType
abbrev pub GivenCondition : Rule Lexeme (Option (List ℕ))
GivenCondition = behind_rule (is (want.Word w.On)) (λ o. map_rule some_text (token_rule (is want.Name)))

mutual
  -- a field without a selection set, a field with one, FragmentSpread, InlineFragment
  pub data OneSelection : List Lexeme → List Lexeme → Selection → Type 0 where
    leaf : {ts rest : List Lexeme} {n : Lexeme} {m : Option (List ℕ)} (us vs : List Lexeme) (a : List Argument)
        (d : List Directive)
        → Names ts us n m → Arguments false us vs a → Directives false vs rest d
        → OneSelection ts rest (field_of n m a d [])
    node : {ts ws rest : List Lexeme} {n : Lexeme} {m : Option (List ℕ)} {xs : List Selection}
        (us vs : List Lexeme) (o : Lexeme) (a : List Argument) (d : List Directive)
        → Names ts us n m → Arguments false us vs a → Directives false vs (o ∷ ws) d
        → is (want.Punctuator p.OpenBrace) o ≡ true → Selections ws rest xs
        → OneSelection ts rest (field_of n m a d xs)
    spread : {o n : Lexeme} {ts rest : List Lexeme} {d : List Directive} → is (want.Punctuator p.Spread) o ≡ true
        → is want.FragmentName n ≡ true → Directives false ts rest d → OneSelection (o ∷ n ∷ ts) rest (spread_of o n d)
    inline : {o : Lexeme} {ts ws rest : List Lexeme} {c : Option (List ℕ)} {d : List Directive}
        {xs : List Selection} (us : List Lexeme) (b : Lexeme)
        → is (want.Punctuator p.Spread) o ≡ true → opt_rule None GivenCondition ts us c
        → Directives false us (b ∷ ws) d → is (want.Punctuator p.OpenBrace) b ≡ true → Selections ws rest xs
        → OneSelection (o ∷ ts) rest (inline_of o c d xs)

  -- Selection list }
  pub data Selections : List Lexeme → List Lexeme → List Selection → Type 0 where
    last : {c : Lexeme} {ts rest : List Lexeme} {x : Selection} → OneSelection ts (c ∷ rest) x
        → is (want.Punctuator p.CloseBrace) c ≡ true → Selections ts rest (x ∷ [])
    more : {ts mid rest : List Lexeme} {x : Selection} {xs : List Selection} → OneSelection ts mid x
        → Selections mid rest xs → Selections ts rest (x ∷ xs)

-- { Selection list }
abbrev pub SelectionSet : Rule Lexeme (List Selection)
SelectionSet = behind_rule (is (want.Punctuator p.OpenBrace)) (λ o. Selections)

-- ---- operations (2.3) and fragments (2.8)

abbrev pub Anonymous : Rule Lexeme Definition
Anonymous = behind_rule (is (want.Punctuator p.OpenBrace)) (λ o. map_rule (anonymous_of o) Selections)

-- OperationType Name opt VariableDefinitions opt Directives opt SelectionSet
abbrev pub Operation : Rule Lexeme Definition
Operation =
    behind_rule (is want.OperationType) (λ k.
    bind_rule (opt_rule None (map_rule some_text (token_rule (is want.Name)))) (λ n.
    bind_rule Variables (λ v.
    bind_rule (Directives false) (λ d.
    map_rule (operation_of k n v d) SelectionSet))))

-- fragment FragmentName TypeCondition Directives opt SelectionSet
abbrev pub Fragment : Rule Lexeme Definition
Fragment =
    behind_rule (is (want.Word w.Fragment)) (λ f.
    behind_rule (is want.FragmentName) (λ n.
    behind_rule (is (want.Word w.On)) (λ o.
    behind_rule (is want.Name) (λ on.
    bind_rule (Directives false) (λ d.
    map_rule (fragment_of f n on d) SelectionSet)))))

abbrev pub OneDefinition : Rule Lexeme Definition
OneDefinition = λ ts rest d. Anonymous ts rest d ⊎ (Operation ts rest d ⊎ Fragment ts rest d)

-- the definitions that can be executed
abbrev pub Definitions : Rule Lexeme (List Definition)
Definitions = list_rule OneDefinition

-- two rules spell the same before what F allows
pub record SpellTheSame {A : Type 0} (F : Follow Lexeme) (R S : Rule Lexeme A) : Type 0 where
  pub to : (ts rest : List Lexeme) (a : A) → F rest → R ts rest a → S ts rest a
  pub from : (ts rest : List Lexeme) (a : A) → F rest → S ts rest a → R ts rest a
