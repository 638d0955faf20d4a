-- The grammar with its look-ahead and the productions without it spell the same.
use Rattle.std.proofs.Common.{◌≡◌, ℕ, inl, inr, Bool, true, false, not, ◌&&◌, List, [], ◌∷◌, Option, None, refl, sym, ap, subst, ◌∙◌}
use Rattle.gql_lex.specs.declared.token.Punctuator.{Punctuator}
use Rattle.gql_lex.specs.declared.token.Punctuator.TheVariants as p
use Rattle.gql_lex.specs.declared.token.Word.{Word}
use Rattle.gql_lex.specs.declared.token.Word.TheVariants as w
use Rattle.gql_lex.specs.declared.token.TokenKind.{TokenKind}
use Rattle.gql_lex.specs.declared.token.TokenKind.TheVariants as k
use Rattle.parse_rules.specs.Tokens.{sees}
use Rattle.parse_rules.specs.Rules.{Rule, pure_rule, token_rule, map_rule, optional_rule, behind_rule, until_rule, some_until_rule}
use Rattle.parse_rules.proofs.Until.{unless}
use Rattle.gql_reader.specs.declared.lexeme.Lexeme.{Lexeme}
use Rattle.gql_reader.specs.declared.expected.Expected.{Expected}
use Rattle.gql_reader.specs.declared.expected.Expected.TheVariants as want
use Rattle.gql_reader.specs.declared.tree.Argument.{Argument}
use Rattle.gql_reader.specs.declared.tree.Directive.{Directive}
use Rattle.gql_reader.specs.declared.tree.Type as tree
use Rattle.gql_reader.specs.declared.tree.VariableDefinition.{VariableDefinition}
use Rattle.gql_reader.specs.declared.tree.Selection.{Selection}
use Rattle.gql_reader.specs.declared.tree.Definition.{Definition}
use Rattle.gql_reader.specs.Expected.{is_word, is_name, kind_is}
use Rattle.gql_reader.specs.Lexemes.{is}
use Rattle.gql_reader.specs.Trees.{some_text, some_value, directive_of, field_of}
use Rattle.gql_reader.specs.Grammar.{IsValue, IsArgument, AreArguments, IsDirective, AreDirectives, HasBang, IsType, is_named, is_list_type, HasDefault, IsVariableDefinition, AreVariables, HasSecondName, IsSelection, is_leaf, is_node, is_spread, is_inline, AreSelections, last_selection, more_selections, IsSelectionSet, IsOperation, IsFragment, IsDefinition, AreDefinitions}
use Rattle.gql_reader.specs.Productions as plain
use Rattle.gql_reader.specs.Productions.{opt_rule, list_rule, OneType, named, listed, Names, one_name, alias, OneSelection, leaf, node, spread, inline, Selections, last, more, SpellTheSame}
use Rattle.gql_reader.specs.Document.{EndsOrIsForeign}
use Rattle.gql_reader.proofs.TokenKinds.{and-false, a_punctuator, punctuator_apart, name_apart, operation_is_name, word_is_name, word_is, Not, Calm, closed_calm}

-- ---- what comes first

behind_begins : {A : Type 0} (wanted : Expected) (R : Lexeme → Rule Lexeme A) (ts rest : List Lexeme) (a : A) → behind_rule (is wanted) R ts rest a → sees (is wanted) ts ≡ true
behind_begins wanted R ts rest a r = ap (λ (z : List Lexeme). sees (is wanted) z) r.2.0 ∙ r.2.1

-- what begins with a punctuator begins with no other token
module _ (m : Punctuator) (wanted : Expected) (off : kind_is wanted (k.Punctuator m) ≡ false) where
  behind_not : {A : Type 0} (R : Lexeme → Rule Lexeme A) (ts rest : List Lexeme) (a : A) → behind_rule (is (want.Punctuator m)) R ts rest a → Not wanted ts
  behind_not R ts rest a r = ap (λ (z : List Lexeme). sees (is wanted) z) r.2.0 ∙ punctuator_apart m wanted r.1 off r.2.1

  opt_not : {A : Type 0} (absent : A) (R : Lexeme → Rule Lexeme A) (ts rest : List Lexeme) (a : A) → opt_rule absent (behind_rule (is (want.Punctuator m)) R) ts rest a → Not wanted rest → Not wanted ts
  opt_not absent R ts rest a r f = elim r [ inl g ↦ behind_not R ts rest a g | inr h ↦ ap (λ (z : List Lexeme). sees (is wanted) z) h.0 ∙ f ]

  list_not : {A : Type 0} (R : Lexeme → Rule Lexeme A) (ts rest : List Lexeme) (xs : List A) → list_rule (behind_rule (is (want.Punctuator m)) R) ts rest xs → Not wanted rest → Not wanted ts
  list_not R ts rest [] r f = ap (λ (z : List Lexeme). sees (is wanted) z) r ∙ f
  list_not R ts rest (x ∷ xs) r f = behind_not R ts r.0 x r.1

-- ---- optional parts

module _ {A : Type 0} (wanted : Expected) (absent : A) (R S : Rule Lexeme A) where
  opt_from : ((ts rest : List Lexeme) (a : A) → S ts rest a → sees (is wanted) ts ≡ true) → (ts rest : List Lexeme) (a : A) → (S ts rest a → R ts rest a) → opt_rule absent S ts rest a → Not wanted rest → optional_rule (is wanted) absent R ts rest a
  opt_from begins ts rest a inner r f = elim r [ inl g ↦ inl (begins ts rest a g, inner g) | inr h ↦ inr (ap (λ (z : List Lexeme). sees (is wanted) z) h.0 ∙ f, h) ]

  opt_to : (ts rest : List Lexeme) (a : A) → (R ts rest a → S ts rest a) → optional_rule (is wanted) absent R ts rest a → opt_rule absent S ts rest a
  opt_to ts rest a inner r = elim r [ inl g ↦ inl (inner g.1) | inr h ↦ inr h.1 ]

-- ---- arguments and directives

module _ (constant : Bool) where
  arguments_from : (ts rest : List Lexeme) (a : List Argument) → plain.Arguments constant ts rest a → Not (want.Punctuator p.OpenParen) rest → AreArguments constant ts rest a
  arguments_from ts rest a r f = opt_from (want.Punctuator p.OpenParen) [] (plain.GivenArguments constant) (plain.GivenArguments constant) (behind_begins (want.Punctuator p.OpenParen) _) ts rest a (λ g. g) r f

  arguments_to : (ts rest : List Lexeme) (a : List Argument) → AreArguments constant ts rest a → plain.Arguments constant ts rest a
  arguments_to ts rest a r = opt_to (want.Punctuator p.OpenParen) [] (plain.GivenArguments constant) (plain.GivenArguments constant) ts rest a (λ g. g) r

  directive_from : (ts rest : List Lexeme) (x : Directive) → plain.OneDirective constant ts rest x → Not (want.Punctuator p.OpenParen) rest → IsDirective constant ts rest x
  directive_from ts rest x r f = (r.0, r.1, r.2, (r.3.0, r.3.1, r.3.2, (r.3.3.0, arguments_from r.3.0 rest r.3.3.0 r.3.3.1 f, r.3.3.2)))

  directive_to : (ts rest : List Lexeme) (x : Directive) → IsDirective constant ts rest x → plain.OneDirective constant ts rest x
  directive_to ts rest x r = (r.0, r.1, r.2, (r.3.0, r.3.1, r.3.2, (r.3.3.0, arguments_to r.3.0 rest r.3.3.0 r.3.3.1, r.3.3.2)))

  directives_not : (wanted : Expected) → kind_is wanted (k.Punctuator p.At) ≡ false → (ts rest : List Lexeme) (xs : List Directive) → plain.Directives constant ts rest xs → Not wanted rest → Not wanted ts
  directives_not wanted off ts rest xs r f = list_not p.At wanted off (λ a. behind_rule (is want.Name) (λ n. map_rule (directive_of a n) (plain.Arguments constant))) ts rest xs r f

  directives_from : (xs : List Directive) (ts rest : List Lexeme) → plain.Directives constant ts rest xs → Not (want.Punctuator p.OpenParen) rest → Not (want.Punctuator p.At) rest → AreDirectives constant ts rest xs
  directives_from [] ts rest r f g = (ap (λ (z : List Lexeme). sees (is (want.Punctuator p.At)) z) r ∙ g, r)
  directives_from (x ∷ xs) ts rest r f g =
      (r.0, directive_from ts r.0 x r.1 (directives_not (want.Punctuator p.OpenParen) refl r.0 rest xs r.2 f), directives_from xs r.0 rest r.2 f g)

  directives_to : (xs : List Directive) (ts rest : List Lexeme) → AreDirectives constant ts rest xs → plain.Directives constant ts rest xs
  directives_to [] ts rest r = r.1
  directives_to (x ∷ xs) ts rest r = (r.0, directive_to ts r.0 x r.1, directives_to xs r.0 rest r.2)

-- ---- types

abbrev bang_rule : Rule Lexeme Bool
bang_rule = behind_rule (is (want.Punctuator p.Bang)) (λ b. pure_rule true)

bang_from : (ts rest : List Lexeme) (b : Bool) → plain.Bang ts rest b → Not (want.Punctuator p.Bang) rest → HasBang ts rest b
bang_from ts rest b r f = opt_from (want.Punctuator p.Bang) false bang_rule bang_rule (behind_begins (want.Punctuator p.Bang) (λ b. pure_rule true)) ts rest b (λ g. g) r f

bang_to : (ts rest : List Lexeme) (b : Bool) → HasBang ts rest b → plain.Bang ts rest b
bang_to ts rest b r = opt_to (want.Punctuator p.Bang) false bang_rule bang_rule ts rest b (λ g. g) r

type_from : {ts rest : List Lexeme} {t : tree.Type} → OneType ts rest t → Not (want.Punctuator p.Bang) rest → IsType ts rest t
type_from (named {ts = us} {rest = rest} {bang = b} e r) f = is_named e (bang_from us rest b r f)
type_from (listed {c = c} {us = us} {rest = rest} {bang = b} e x g r) f = is_list_type e (type_from x (punctuator_apart p.CloseBracket (want.Punctuator p.Bang) c refl g)) g (bang_from us rest b r f)

type_to : {ts rest : List Lexeme} {t : tree.Type} → IsType ts rest t → OneType ts rest t
type_to (is_named {ts = us} {rest = rest} {bang = b} e r) = named e (bang_to us rest b r)
type_to (is_list_type {us = us} {rest = rest} {bang = b} e x g r) = listed e (type_to x) g (bang_to us rest b r)

-- ---- variables

variable_from : (ts rest : List Lexeme) (x : VariableDefinition) → plain.OneVariable ts rest x → Calm rest → IsVariableDefinition ts rest x
variable_from ts rest x r f =
    let y = r.3.3.3 in
    let z = y.3 in
    let ds = z.3 in
    let after_default : (wanted : Expected) → kind_is wanted (k.Punctuator p.At) ≡ false → Not wanted rest → Not wanted z.0 = λ wanted off g. directives_not true wanted off z.0 rest ds.0 ds.1 g in
    let after_type : Not (want.Punctuator p.Bang) y.0 = opt_not p.Equals (want.Punctuator p.Bang) refl None (λ e. map_rule some_value (IsValue true)) y.0 z.0 z.1 z.2 (after_default (want.Punctuator p.Bang) refl f.bang) in
    let default : HasDefault y.0 z.0 z.1 = opt_from (want.Punctuator p.Equals) None plain.GivenDefault plain.GivenDefault (behind_begins (want.Punctuator p.Equals) _) y.0 z.0 z.1 (λ g. g) z.2 (after_default (want.Punctuator p.Equals) refl f.equals) in
    (r.0, r.1, r.2, (r.3.0, r.3.1, r.3.2, (r.3.3.0, r.3.3.1, r.3.3.2, (y.0, y.1, type_from y.2 after_type, (z.0, z.1, default, (ds.0, directives_from true ds.0 z.0 rest ds.1 f.paren f.at, ds.2))))))

variable_to : (ts rest : List Lexeme) (x : VariableDefinition) → IsVariableDefinition ts rest x → plain.OneVariable ts rest x
variable_to ts rest x r =
    let y = r.3.3.3 in
    let z = y.3 in
    let ds = z.3 in
    (r.0, r.1, r.2, (r.3.0, r.3.1, r.3.2, (r.3.3.0, r.3.3.1, r.3.3.2, (y.0, y.1, type_to y.2, (z.0, z.1, opt_to (want.Punctuator p.Equals) None plain.GivenDefault plain.GivenDefault y.0 z.0 z.1 (λ g. g) z.2, (ds.0, directives_to true ds.0 z.0 rest ds.1, ds.2))))))

-- a punctuator that goes on with nothing that may be left out
begins_calm : (m : Punctuator) (ts us : List Lexeme) (t : Lexeme) → Calm (a_punctuator m ∷ []) → ts ≡ t ∷ us → is (want.Punctuator m) t ≡ true → Calm ts
begins_calm m ts us t calm e hit = closed_calm m ts calm (ap (λ (z : List Lexeme). sees (unless (is (want.Punctuator m))) z) e ∙ ap not hit)

abbrev closes_list : Lexeme → Bool
closes_list = is (want.Punctuator p.CloseParen)

until_calm : (xs : List VariableDefinition) (ts rest : List Lexeme) → until_rule closes_list plain.OneVariable ts rest xs → Calm ts
until_calm [] ts rest u = begins_calm p.CloseParen ts rest u.0 (record { bang = refl; equals = refl; paren = refl; at = refl; colon = refl; brace = refl }) u.1 u.2
until_calm (x ∷ xs) ts rest u = let r = u.1 in begins_calm p.Dollar ts r.0 r.1 (record { bang = refl; equals = refl; paren = refl; at = refl; colon = refl; brace = refl }) r.2.0 r.2.1

until_from : (xs : List VariableDefinition) (ts rest : List Lexeme) → until_rule closes_list plain.OneVariable ts rest xs → until_rule closes_list IsVariableDefinition ts rest xs
until_from [] ts rest u = u
until_from (x ∷ xs) ts rest u = (u.0, variable_from ts u.0 x u.1 (until_calm xs u.0 rest u.2), until_from xs u.0 rest u.2)

until_to : (xs : List VariableDefinition) (ts rest : List Lexeme) → until_rule closes_list IsVariableDefinition ts rest xs → until_rule closes_list plain.OneVariable ts rest xs
until_to [] ts rest u = u
until_to (x ∷ xs) ts rest u = (u.0, variable_to ts u.0 x u.1, until_to xs u.0 rest u.2)

abbrev taken_rule : Rule Lexeme (List VariableDefinition)
taken_rule = behind_rule (is (want.Punctuator p.OpenParen)) (λ o. some_until_rule closes_list IsVariableDefinition)

variables_from : (ts rest : List Lexeme) (xs : List VariableDefinition) → plain.Variables ts rest xs → Not (want.Punctuator p.OpenParen) rest → AreVariables ts rest xs
variables_from ts rest xs r f = opt_from (want.Punctuator p.OpenParen) [] taken_rule plain.GivenVariables (behind_begins (want.Punctuator p.OpenParen) _) ts rest xs
    (λ g. let y = g.3 in (g.0, g.1, g.2, (y.0, y.1, variable_from g.0 y.0 y.1 y.2 (until_calm y.3.0 y.0 rest y.3.1), (y.3.0, until_from y.3.0 y.0 rest y.3.1, y.3.2)))) r f

variables_to : (ts rest : List Lexeme) (xs : List VariableDefinition) → AreVariables ts rest xs → plain.Variables ts rest xs
variables_to ts rest xs r = opt_to (want.Punctuator p.OpenParen) [] taken_rule plain.GivenVariables ts rest xs
    (λ g. let y = g.3 in (g.0, g.1, g.2, (y.0, y.1, variable_to g.0 y.0 y.1 y.2, (y.3.0, until_to y.3.0 y.0 rest y.3.1, y.3.2)))) r

-- ---- fields

names_from : {ts us : List Lexeme} {n : Lexeme} {m : Option (List ℕ)} → Names ts us n m → Not (want.Punctuator p.Colon) us → (vs : List Lexeme) × (ts ≡ n ∷ vs) × (is want.Name n ≡ true) × HasSecondName vs us m
names_from (one_name {rest = us} e) f = (us, refl, e, inr (f, (refl, refl)))
names_from (alias {c = c} {n = n} {rest = us} e g h) f = (c ∷ n ∷ us, refl, e, inl (g, (n ∷ us, c, (refl, g), (n, (refl, h), refl))))

names_to : (n : Lexeme) (ts us : List Lexeme) (m : Option (List ℕ)) → is want.Name n ≡ true → HasSecondName ts us m → Names (n ∷ ts) us n m
names_to n ts us m e r = elim r [
  | inl g ↦ (
      let x = g.1 in
      let y = x.3 in
      let text : x.1 ∷ y.0 ∷ us ≡ ts = sym (x.2.0 ∙ ap (λ (z : List Lexeme). x.1 ∷ z) y.1.0) in
      subst (λ (z : List Lexeme). Names (n ∷ z) us n m) text (subst (λ (o : Option (List ℕ)). Names (n ∷ x.1 ∷ y.0 ∷ us) us n o) y.2 (alias e x.2.1 y.1.1))
      )
  | inr h ↦ subst (λ (z : List Lexeme). Names (n ∷ z) us n m) (sym h.1.0) (subst (λ (o : Option (List ℕ)). Names (n ∷ us) us n o) h.1.1 (one_name e))
]

-- a field's parts, before what goes on with none of them
record Parts (ts us vs rest : List Lexeme) (n : Lexeme) (m : Option (List ℕ)) (a : List Argument) (d : List Directive) : Type 0 where
  others : List Lexeme
  text : ts ≡ n ∷ others
  is_name : is want.Name n ≡ true
  second : HasSecondName others us m
  arguments : AreArguments false us vs a
  directives : AreDirectives false vs rest d

parts_from : (ts us vs rest : List Lexeme) (n : Lexeme) (m : Option (List ℕ)) (a : List Argument) (d : List Directive) → Names ts us n m → plain.Arguments false us vs a → plain.Directives false vs rest d
    → Not (want.Punctuator p.OpenParen) rest → Not (want.Punctuator p.At) rest → Not (want.Punctuator p.Colon) rest → Parts ts us vs rest n m a d
parts_from ts us vs rest n m a d names args dirs paren at colon =
    let behind_name : Not (want.Punctuator p.Colon) us = opt_not p.OpenParen (want.Punctuator p.Colon) refl [] (λ o. some_until_rule (is (want.Punctuator p.CloseParen)) (IsArgument false)) us vs a args (directives_not false (want.Punctuator p.Colon) refl vs rest d dirs colon) in
    let x = names_from names behind_name in
    record {
      others = x.0;
      text = x.1;
      is_name = x.2;
      second = x.3;
      arguments = arguments_from false us vs a args (directives_not false (want.Punctuator p.OpenParen) refl vs rest d dirs paren);
      directives = directives_from false d vs rest dirs paren at;
    }

-- ---- selections

name_calm : (l : Lexeme) (ts : List Lexeme) → is want.Name l ≡ true → Calm (l ∷ ts)
name_calm l ts e = record {
  bang = name_apart p.Bang l e;
  equals = name_apart p.Equals l e;
  paren = name_apart p.OpenParen l e;
  at = name_apart p.At l e;
  colon = name_apart p.Colon l e;
  brace = name_apart p.OpenBrace l e;
}

names_calm : {ts us : List Lexeme} {n : Lexeme} {m : Option (List ℕ)} → Names ts us n m → Calm ts
names_calm (one_name {n = n} {rest = us} e) = name_calm n us e
names_calm (alias {a = a} {c = c} {n = n} {rest = us} e g h) = name_calm a (c ∷ n ∷ us) e

dots_calm : (o : Lexeme) (ts : List Lexeme) → is (want.Punctuator p.Spread) o ≡ true → Calm (o ∷ ts)
dots_calm o ts e = begins_calm p.Spread (o ∷ ts) ts o (record { bang = refl; equals = refl; paren = refl; at = refl; colon = refl; brace = refl }) refl e

selection_calm : {ts rest : List Lexeme} {x : Selection} → OneSelection ts rest x → Calm ts
selection_calm (leaf us vs a d names args dirs) = names_calm names
selection_calm (node us vs o a d names args dirs e xs) = names_calm names
selection_calm (spread {o = o} {n = n} {ts = ts} e g dirs) = dots_calm o (n ∷ ts) e
selection_calm (inline {o = o} {ts = ts} us b e c dirs g xs) = dots_calm o ts e

selections_calm : {ts rest : List Lexeme} {xs : List Selection} → Selections ts rest xs → Calm ts
selections_calm (last x e) = selection_calm x
selections_calm (more x xs) = selection_calm x

brace_calm : (c : Lexeme) (ts : List Lexeme) → is (want.Punctuator p.CloseBrace) c ≡ true → Calm (c ∷ ts)
brace_calm c ts e = begins_calm p.CloseBrace (c ∷ ts) ts c (record { bang = refl; equals = refl; paren = refl; at = refl; colon = refl; brace = refl }) refl e

-- `on` names no fragment
on_apart : (l : Lexeme) → is (want.Word w.On) l ≡ true → is want.FragmentName l ≡ false
on_apart l hit = ap (λ (b : Bool). is_name l.kind && not b) hit ∙ and-false (is_name l.kind)

no_fragment_name : (ts us : List Lexeme) (c : Option (List ℕ)) → opt_rule None plain.GivenCondition ts us c → Not want.FragmentName us → Not want.FragmentName ts
no_fragment_name ts us c r f = elim r [ inl g ↦ ap (λ (z : List Lexeme). sees (is want.FragmentName) z) g.2.0 ∙ on_apart g.1 g.2.1 | inr h ↦ ap (λ (z : List Lexeme). sees (is want.FragmentName) z) h.0 ∙ f ]

mutual
  selection_from : {ts rest : List Lexeme} {x : Selection} → OneSelection ts rest x → Calm rest → IsSelection ts rest x
  selection_from (leaf {ts = ts} {rest = rest} {n = n} {m = m} us vs a d names args dirs) f =
      let y = parts_from ts us vs rest n m a d names args dirs f.paren f.at f.colon in
      subst (λ (z : List Lexeme). IsSelection z rest (field_of n m a d [])) (sym y.text) (is_leaf us vs m a d y.is_name y.second y.arguments y.directives f.brace)
  selection_from (node {ts = ts} {ws = ws} {rest = rest} {n = n} {m = m} {xs = xs} us vs o a d names args dirs e inner) f =
      let y = parts_from ts us vs (o ∷ ws) n m a d names args dirs (punctuator_apart p.OpenBrace (want.Punctuator p.OpenParen) o refl e) (punctuator_apart p.OpenBrace (want.Punctuator p.At) o refl e) (punctuator_apart p.OpenBrace (want.Punctuator p.Colon) o refl e) in
      subst (λ (z : List Lexeme). IsSelection z rest (field_of n m a d xs)) (sym y.text) (is_node us vs o m a d y.is_name y.second y.arguments y.directives e (selections_from inner))
  selection_from (spread {ts = ts} {rest = rest} {d = d} e g dirs) f = is_spread e g (directives_from false d ts rest dirs f.paren f.at)
  selection_from (inline {o = o} {ts = ts} {ws = ws} {c = c} {d = d} us b e cond dirs g inner) f =
      let after_condition : (wanted : Expected) → kind_is wanted (k.Punctuator p.At) ≡ false → kind_is wanted (k.Punctuator p.OpenBrace) ≡ false → Not wanted us =
      λ wanted off brace. directives_not false wanted off us (b ∷ ws) d dirs (punctuator_apart p.OpenBrace wanted b brace g) in
      is_inline us b e (no_fragment_name ts us c cond (after_condition want.FragmentName refl refl))
      (opt_from (want.Word w.On) None plain.GivenCondition plain.GivenCondition (behind_begins (want.Word w.On) _) ts us c (λ h. h) cond (after_condition (want.Word w.On) refl refl))
      (directives_from false d us (b ∷ ws) dirs (punctuator_apart p.OpenBrace (want.Punctuator p.OpenParen) b refl g) (punctuator_apart p.OpenBrace (want.Punctuator p.At) b refl g)) g (selections_from inner)

  selections_from : {ts rest : List Lexeme} {xs : List Selection} → Selections ts rest xs → AreSelections ts rest xs
  selections_from (last {c = c} {rest = rest} x e) = last_selection (selection_from x (brace_calm c rest e)) e
  selections_from (more x xs) = more_selections (selection_from x (selections_calm xs)) (selections_from xs)

mutual
  selection_to : {ts rest : List Lexeme} {x : Selection} → IsSelection ts rest x → OneSelection ts rest x
  selection_to (is_leaf {n = n} {ts = ts} {rest = rest} us vs m a d e s args dirs f) = leaf us vs a d (names_to n ts us m e s) (arguments_to false us vs a args) (directives_to false d vs rest dirs)
  selection_to (is_node {n = n} {ts = ts} {ws = ws} us vs o m a d e s args dirs g xs) = node us vs o a d (names_to n ts us m e s) (arguments_to false us vs a args) (directives_to false d vs (o ∷ ws) dirs) g (selections_to xs)
  selection_to (is_spread {ts = ts} {rest = rest} {d = d} e g dirs) = spread e g (directives_to false d ts rest dirs)
  selection_to (is_inline {ts = ts} {ws = ws} {c = c} {d = d} us b e f cond dirs g xs) = inline us b e (opt_to (want.Word w.On) None plain.GivenCondition plain.GivenCondition ts us c (λ h. h) cond) (directives_to false d us (b ∷ ws) dirs) g (selections_to xs)

  selections_to : {ts rest : List Lexeme} {xs : List Selection} → AreSelections ts rest xs → Selections ts rest xs
  selections_to (last_selection x e) = last (selection_to x) e
  selections_to (more_selections x xs) = more (selection_to x) (selections_to xs)

-- ---- directives and a selection set, behind the other parts of a definition

set_not : (wanted : Expected) → kind_is wanted (k.Punctuator p.OpenBrace) ≡ false → (ts rest : List Lexeme) (xs : List Selection) → plain.SelectionSet ts rest xs → Not wanted ts
set_not wanted off ts rest xs r = behind_not p.OpenBrace wanted off (λ o. Selections) ts rest xs r

set_from : (ts rest : List Lexeme) (xs : List Selection) → plain.SelectionSet ts rest xs → IsSelectionSet ts rest xs
set_from ts rest xs r = (r.0, r.1, r.2, selections_from r.3)

set_to : (ts rest : List Lexeme) (xs : List Selection) → IsSelectionSet ts rest xs → plain.SelectionSet ts rest xs
set_to ts rest xs r = (r.0, r.1, r.2, selections_to r.3)

marked_from : (ts mid rest : List Lexeme) (d : List Directive) (xs : List Selection) → plain.Directives false ts mid d → plain.SelectionSet mid rest xs → AreDirectives false ts mid d
marked_from ts mid rest d xs r s = directives_from false d ts mid r (set_not (want.Punctuator p.OpenParen) refl mid rest xs s) (set_not (want.Punctuator p.At) refl mid rest xs s)

-- ---- definitions

abbrev own_rule : Rule Lexeme (Option (List ℕ))
own_rule = map_rule some_text (token_rule (is want.Name))

own_begins : (us vs : List Lexeme) (a : Option (List ℕ)) → own_rule us vs a → sees (is want.Name) us ≡ true
own_begins us vs a g = ap (λ (z : List Lexeme). sees (is want.Name) z) g.1.0 ∙ g.1.1

operation_from : (ts rest : List Lexeme) (x : Definition) → plain.Operation ts rest x → IsOperation ts rest x
operation_from ts rest x r =
    let n = r.3 in
    let v = n.3 in
    let d = v.3 in
    let s = d.3 in
    let after_variables : (wanted : Expected) → kind_is wanted (k.Punctuator p.At) ≡ false → kind_is wanted (k.Punctuator p.OpenBrace) ≡ false → Not wanted v.0 =
    λ wanted off brace. directives_not false wanted off v.0 d.0 d.1 d.2 (set_not wanted brace d.0 rest s.0 s.1) in
    let after_name : Not want.Name n.0 = opt_not p.OpenParen want.Name refl [] (λ o. some_until_rule closes_list plain.OneVariable) n.0 v.0 v.1 v.2 (after_variables want.Name refl refl) in
    (r.0, r.1, r.2, (n.0, n.1, opt_from want.Name None own_rule own_rule own_begins r.0 n.0 n.1 (λ g. g) n.2 after_name, (v.0, v.1, variables_from n.0 v.0 v.1 v.2 (after_variables (want.Punctuator p.OpenParen) refl refl), (d.0, d.1, marked_from v.0 d.0 rest d.1 s.0 d.2 s.1, (s.0, set_from d.0 rest s.0 s.1, s.2)))))

operation_to : (ts rest : List Lexeme) (x : Definition) → IsOperation ts rest x → plain.Operation ts rest x
operation_to ts rest x r =
    let n = r.3 in
    let v = n.3 in
    let d = v.3 in
    let s = d.3 in
    (r.0, r.1, r.2, (n.0, n.1, opt_to want.Name None own_rule own_rule r.0 n.0 n.1 (λ g. g) n.2, (v.0, v.1, variables_to n.0 v.0 v.1 v.2, (d.0, d.1, directives_to false d.1 v.0 d.0 d.2, (s.0, set_to d.0 rest s.0 s.1, s.2)))))

fragment_from : (ts rest : List Lexeme) (x : Definition) → plain.Fragment ts rest x → IsFragment ts rest x
fragment_from ts rest x r =
    let n = r.3 in
    let o = n.3 in
    let on = o.3 in
    let d = on.3 in
    let s = d.3 in
    (r.0, r.1, r.2, (n.0, n.1, n.2, (o.0, o.1, o.2, (on.0, on.1, on.2, (d.0, d.1, marked_from on.0 d.0 rest d.1 s.0 d.2 s.1, (s.0, set_from d.0 rest s.0 s.1, s.2))))))

fragment_to : (ts rest : List Lexeme) (x : Definition) → IsFragment ts rest x → plain.Fragment ts rest x
fragment_to ts rest x r =
    let n = r.3 in
    let o = n.3 in
    let on = o.3 in
    let d = on.3 in
    let s = d.3 in
    (r.0, r.1, r.2, (n.0, n.1, n.2, (o.0, o.1, o.2, (on.0, on.1, on.2, (d.0, d.1, directives_to false d.1 on.0 d.0 d.2, (s.0, set_to d.0 rest s.0 s.1, s.2))))))

-- `fragment` is no type of an operation
fragment_no_operation : (kind : TokenKind) → is_word kind w.Fragment ≡ true → kind_is want.OperationType kind ≡ false
fragment_no_operation (k.Name u) hit = subst (λ (x : Word). kind_is want.OperationType (k.Name x) ≡ false) (sym (word_is u w.Fragment hit)) refl
fragment_no_operation (k.Punctuator q) hit = absurd cc
fragment_no_operation k.Int hit = absurd cc
fragment_no_operation k.Float hit = absurd cc
fragment_no_operation k.String hit = absurd cc
fragment_no_operation k.BlockString hit = absurd cc

begins_with : (wanted : Expected) (ts us : List Lexeme) (t : Lexeme) → ts ≡ t ∷ us → is wanted t ≡ true → sees (is wanted) ts ≡ true
begins_with wanted ts us t e hit = ap (λ (z : List Lexeme). sees (is wanted) z) e ∙ hit

begins_not : (wanted : Expected) (ts us : List Lexeme) (t : Lexeme) → ts ≡ t ∷ us → is wanted t ≡ false → Not wanted ts
begins_not wanted ts us t e off = ap (λ (z : List Lexeme). sees (is wanted) z) e ∙ off

definition_from : (ts rest : List Lexeme) (x : Definition) → plain.OneDefinition ts rest x → IsDefinition ts rest x
definition_from ts rest x r = elim r [
  | inl g ↦ inl (begins_with (want.Punctuator p.OpenBrace) ts g.0 g.1 g.2.0 g.2.1, (g.0, g.1, g.2, (g.3.0, selections_from g.3.1, g.3.2)))
  | inr h ↦ elim h [
    | inl g ↦ inr (begins_not (want.Punctuator p.OpenBrace) ts g.0 g.1 g.2.0 (name_apart p.OpenBrace g.1 (operation_is_name g.1.kind g.2.1)), inl (begins_with want.OperationType ts g.0 g.1 g.2.0 g.2.1, operation_from ts rest x g))
    | inr g ↦ inr (begins_not (want.Punctuator p.OpenBrace) ts g.0 g.1 g.2.0 (name_apart p.OpenBrace g.1 (word_is_name g.1.kind w.Fragment g.2.1)), inr (begins_not want.OperationType ts g.0 g.1 g.2.0 (fragment_no_operation g.1.kind g.2.1), fragment_from ts rest x g))
  ]
]

definition_to : (ts rest : List Lexeme) (x : Definition) → IsDefinition ts rest x → plain.OneDefinition ts rest x
definition_to ts rest x r = elim r [
  | inl g ↦ (let y = g.1 in inl (y.0, y.1, y.2, (y.3.0, selections_to y.3.1, y.3.2)))
  | inr h ↦ elim h.1 [ inl g ↦ inr (inl (operation_to ts rest x g.1)) | inr g ↦ inr (inr (fragment_to ts rest x g.1)) ]
]

definitions_from : (xs : List Definition) (ts rest : List Lexeme) → plain.Definitions ts rest xs → EndsOrIsForeign rest → AreDefinitions ts rest xs
definitions_from [] ts rest r f = (ap (λ (z : List Lexeme). sees (is want.Executable) z) r ∙ f, r)
definitions_from (x ∷ xs) ts rest r f = (r.0, definition_from ts r.0 x r.1, definitions_from xs r.0 rest r.2 f)

definitions_to : (xs : List Definition) (ts rest : List Lexeme) → AreDefinitions ts rest xs → plain.Definitions ts rest xs
definitions_to [] ts rest r = r.1
definitions_to (x ∷ xs) ts rest r = (r.0, definition_to ts r.0 x r.1, definitions_to xs r.0 rest r.2)

pub same_documents : SpellTheSame EndsOrIsForeign plain.Definitions AreDefinitions
same_documents = record { to = λ ts rest xs f r. definitions_from xs ts rest r f; from = λ ts rest xs f r. definitions_to xs ts rest r }
