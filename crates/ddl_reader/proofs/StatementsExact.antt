-- The reader of statements is exact for the grammar.
use Rattle.std.proofs.Common.{◌≡◌, ℕ, ◌⊎◌, inl, inr, Bool, true, false, ◌==◌, ◌||◌, List, [], ◌∷◌, ◌++◌, refl, sym, ap, subst, ◌∙◌, None, arith}
use Rattle.std.proofs.lemmas.Bool.{false≢true}
use Rattle.std.proofs.lemmas.Bool.Decides.{nat_tests}
use Rattle.pg_base.specs.declared.enum_def.EnumDef.{EnumDef}
use Rattle.parse_rules.specs.Tokens.{sees, no_brackets}
use Rattle.parse_rules.specs.Rules.{Rule, pure_rule, bind_rule, either_rule, before_rule}
use Rattle.parse_rules.specs.Parser.{◌>>=◌, pure, either, before}
use Rattle.parse_rules.specs.Exact.{Follow, Anything, Spelling, Shortens, TakesToken}
use Rattle.parse_rules.proofs.Exact.{as_exact, as_parser}
use Rattle.parse_rules.proofs.Outcomes.{and_then-same, cond-and_then}
use Rattle.parse_rules.proofs.Skipped.{skip_exact, before_exact}
use Rattle.parse_rules.proofs.Separated.{exact-never_lengthens, while_onto_exact}
use Rattle.ddl_reader.specs.declared.lexeme.Lexeme.{Lexeme}
use Rattle.ddl_reader.specs.declared.lexeme.LexemeKind.{LexemeKind}
use Rattle.ddl_reader.specs.declared.lexeme.LexemeKind.TheVariants as kind
use Rattle.ddl_reader.specs.declared.lexeme.Expected.TheVariants as want
use Rattle.ddl_reader.specs.declared.word.Word.TheVariants as word
use Rattle.ddl_reader.specs.declared.statement.Row.{Row}
use Rattle.ddl_reader.specs.declared.statement.Statement.{Statement}
use Rattle.ddl_reader.specs.declared.statement.Statement.TheVariants as statement_is
use Rattle.ddl_reader.specs.Lexemes.{kind_is, is, is_a, is_the, is_last}
use Rattle.ddl_reader.specs.Trees.{insert_statement, enum_statement, table_statement, rule_statement, comment_statement, row_of}
use Rattle.ddl_reader.specs.declared.statement.Name.{Name}
use Rattle.ddl_reader.specs.Reading.{Reader, a_word, optional_columns, any, create_skipped, create, skipped, insert, head, values, row, other_row, other_rows, rows}
use Rattle.ddl_reader.specs.Grammar.{comma, opening, dot, word_rule, IsOptionalColumns, IsAny, IsCreateSkipped, IsCreate, IsSkipped, IsAlter, IsComment, IsInsert, IsValues, IsRow, IsOtherRow, IsOtherRows, IsRows, IsRowsAfter, IsStatement}
use Rattle.ddl_reader.specs.Statements.{rows_after, statement_with}
use Rattle.ddl_reader.proofs.Production.{Production, Not, lowers, some_word, some_sign, nothing, token, token_begins, then, then_some, then_part, then_token, then_token_takes, one_of, either_of, listed, repeated}
use Rattle.ddl_reader.proofs.NamesExact.{name_exact, optional_columns_exact, value_exact}
use Rattle.ddl_reader.proofs.RulesExact.{ReferenceEnd}
use Rattle.ddl_reader.proofs.TablesExact.{create_table_exact, create_type_exact, alter_exact, comment_exact}
use Rattle.ddl_reader.proofs.Lengths.{bind-shortens, either-shortens}
use Rattle.ddl_reader.proofs.ItemLengths.{create_skipped-shortens, create_type-shortens, create_table-shortens, create-shortens, skipped-shortens, alter-shortens, comment-shortens, insert-shortens, other_row-shortens}

-- ---- what stands after a statement

-- `;` or the end
abbrev pub Ends : Follow Lexeme
Ends k = sees (is want.Last) k ≡ true

is_semicolon : (byte : ℕ) → (byte == 59) ≡ true → byte ≡ 59
is_semicolon byte h = grind (arith, nat_tests)

or_false_right : (b : Bool) → (b || false) ≡ true → b ≡ true
or_false_right true h = refl
or_false_right false h = h

last_kind : (k : LexemeKind) → is_last k ≡ true → (k ≡ kind.Sign 59) ⊎ (k ≡ kind.End)
last_kind (kind.Sign byte) h = inl (ap (λ (b : ℕ). kind.Sign b) (is_semicolon byte (or_false_right (byte == 59) h)))
last_kind kind.End h = inr refl
last_kind (kind.Word w) h = absurd (false≢true h)
last_kind kind.Name h = absurd (false≢true h)
last_kind kind.Str h = absurd (false≢true h)
last_kind kind.Number h = absurd (false≢true h)
last_kind (kind.Invalid which) h = absurd (false≢true h)

-- what neither of them is
pub unseen : (test : LexemeKind → Bool) → test (kind.Sign 59) ≡ false → test kind.End ≡ false → (k : List Lexeme) → Ends k → sees (λ l. test l.kind) k ≡ false
unseen test s e [] h = absurd (false≢true h)
unseen test s e (l ∷ ls) h = elim (last_kind l.kind h) [ inl is ↦ ap test is ∙ s | inr is ↦ ap test is ∙ e ]

before_production : {A : Type 0} (a : A) → Production Ends (before_rule (is want.Last) a) (before (is want.Last) a)
before_production a = record {
  exact = before_exact no_brackets 0 Ends (is want.Last) a (λ k f. f);
  way = record { text = []; made = a; spelled = λ k f. (f, refl, refl); fits = λ k f. tt };
}

-- ---- rows

values_exact : Production (Not comma) IsValues values
values_exact = listed Anything (Not comma) comma (some_sign 44) refl _ _ (value_exact Anything) (λ k f. tt) (λ k f. f)

row_exact : (F : Follow Lexeme) (number : ℕ) → Production F (IsRow number) (row number)
unfolding row
row_exact F number = token F (is_the 40) (some_sign 40) refl _ _ (λ first. then_token (Not comma) F _ _ (is_the 41) (some_sign 41) refl (λ k. refl) _ _ values_exact (λ cells t. nothing F (row_of first number cells)))

other_row_exact : (F : Follow Lexeme) (number : ℕ) → Production F (IsOtherRow number) (other_row number)
unfolding other_row
other_row_exact F number = token F (is_the 44) (some_sign 44) refl _ _ (λ t. row_exact F number)

other_rows_exact : (number : ℕ) (found : List Row) → Production (Not comma) (IsOtherRows number found) (other_rows number found)
other_rows_exact number found = record {
  exact = while_onto_exact no_brackets 0 (Not comma) comma (IsOtherRow number) (other_row number) found
      (repeated Anything (Not comma) comma _ _ (other_row_exact Anything number) (other_row-shortens number) (token_begins comma _) (λ k f. tt) (λ k f. f)).exact;
  way = record { text = []; made = found ++ []; spelled = λ k f. ([], (f, refl), refl); fits = λ k f. tt };
}

rows_exact : (number : ℕ) (found : List Row) → Production (Not comma) (IsRows number found) (rows number found)
unfolding rows
rows_exact number found = then_part (Not comma) _ _ _ _ (row_exact Anything number) (λ first. other_rows_exact number (found ++ first ∷ []))

-- ---- what stands after a statement's head

abbrev pub has_rows : Statement → Bool
has_rows (statement_is.Insert i) = true
has_rows statement_is.Nothing = false
has_rows (statement_is.Enum e) = false
has_rows (statement_is.Table t) = false
has_rows (statement_is.Rule r) = false
has_rows (statement_is.Comment m) = false

module _ (number : ℕ) (found : List Row) where
  abbrev pub tail_rule : Statement → Rule Lexeme (Statement × List Row)
  tail_rule s = bind_rule (IsRowsAfter number found s) (λ after. before_rule (is want.Last) (s, after))

  abbrev pub tail_reader : Statement → Reader (Statement × List Row)
  tail_reader s = rows_after number found s >>= λ after. before (is want.Last) (s, after)

  -- of a statement without rows
  abbrev pub no_rows_rule : Statement → Rule Lexeme (Statement × List Row)
  no_rows_rule s = bind_rule (pure_rule found) (λ after. before_rule (is want.Last) (s, after))

  abbrev pub no_rows : Statement → Reader (Statement × List Row)
  no_rows s = before (is want.Last) (s, found)

  no_rows_spelled : (s : Statement) (k : List Lexeme) → Ends k → no_rows_rule s k k (s, found)
  no_rows_spelled s k f = (k, found, (refl, refl), (f, refl, refl))

  pub no_rows_exact : (s : Statement) → Production Ends (no_rows_rule s) (no_rows s)
  no_rows_exact s = record {
    exact = (then_some Ends Ends _ _ (λ after. before_rule (is want.Last) (s, after)) (λ after. before (is want.Last) (s, after)) (λ k f. f) (nothing Ends found) (λ after. before_production (s, after)) (λ after. record { text = []; made = (s, after); spelled = λ k f. (f, refl, refl); fits = λ k f. f })).exact;
    way = record { text = []; made = (s, found); spelled = no_rows_spelled s; fits = λ k f. tt };
  }

  pub no_rows_way : (F : Follow Lexeme) → ((k : List Lexeme) → Ends k → F k) → (s : Statement) → Spelling Ends F (no_rows_rule s)
  no_rows_way F fits s = record { text = []; made = (s, found); spelled = no_rows_spelled s; fits = fits }

  pub tail_exact : (s : Statement) → Production Ends (tail_rule s) (tail_reader s)
  tail_exact (statement_is.Insert i) = then_some (Not comma) Ends _ _ (λ after. before_rule (is want.Last) (statement_is.Insert i, after)) (λ after. before (is want.Last) (statement_is.Insert i, after))
      (λ k f. unseen (λ k. kind_is (want.Sign 44) k) refl refl k f) (rows_exact number found) (λ after. before_production (statement_is.Insert i, after))
      (λ after. record { text = []; made = (statement_is.Insert i, after); spelled = λ k f. (f, refl, refl); fits = λ k f. unseen (λ k. kind_is (want.Sign 44) k) refl refl k f })
  tail_exact statement_is.Nothing = no_rows_exact statement_is.Nothing
  tail_exact (statement_is.Enum e) = no_rows_exact (statement_is.Enum e)
  tail_exact (statement_is.Table t) = no_rows_exact (statement_is.Table t)
  tail_exact (statement_is.Rule r) = no_rows_exact (statement_is.Rule r)
  tail_exact (statement_is.Comment m) = no_rows_exact (statement_is.Comment m)

  same_rule : (s : Statement) → has_rows s ≡ false → tail_rule s ≡ no_rows_rule s
  same_rule (statement_is.Insert i) h = absurd (false≢true (sym h))
  same_rule statement_is.Nothing h = refl
  same_rule (statement_is.Enum e) h = refl
  same_rule (statement_is.Table t) h = refl
  same_rule (statement_is.Rule r) h = refl
  same_rule (statement_is.Comment m) h = refl

  same_reader : (s : Statement) (ts : List Lexeme) → has_rows s ≡ false → tail_reader s ts ≡ no_rows s ts
  same_reader (statement_is.Insert i) ts h = absurd (false≢true (sym h))
  same_reader statement_is.Nothing ts h = refl
  same_reader (statement_is.Enum e) ts h = refl
  same_reader (statement_is.Table t) ts h = refl
  same_reader (statement_is.Rule r) ts h = refl
  same_reader (statement_is.Comment m) ts h = refl

  -- a head that has no rows, and the end of the statement
  module _ (F : Follow Lexeme) (R : Rule Lexeme Statement) (p : Reader Statement) (x : Production F R p) (keeps : (k : List Lexeme) → Ends k → F k) (none : (ts rest : List Lexeme) (s : Statement) → R ts rest s → has_rows s ≡ false) where
    plain : Production Ends (bind_rule R no_rows_rule) (p >>= no_rows)
    plain = then_some F Ends R p no_rows_rule no_rows keeps x no_rows_exact (no_rows_way F keeps)

    into : (ts rest : List Lexeme) (b : Statement × List Row) → bind_rule R no_rows_rule ts rest b → bind_rule R tail_rule ts rest b
    into ts rest b r = (r.0, r.1, r.2, subst (λ (S : Rule Lexeme (Statement × List Row)). S r.0 rest b) (sym (same_rule r.1 (none ts r.0 r.1 r.2))) r.3)

    back : (ts rest : List Lexeme) (b : Statement × List Row) → bind_rule R tail_rule ts rest b → bind_rule R no_rows_rule ts rest b
    back ts rest b r = (r.0, r.1, r.2, subst (λ (S : Rule Lexeme (Statement × List Row)). S r.0 rest b) (same_rule r.1 (none ts r.0 r.1 r.2)) r.3)

    reader_is : (ts : List Lexeme) → (p >>= tail_reader) ts ≡ (p >>= no_rows) ts
    reader_is ts = and_then-same (p ts) tail_reader no_rows (λ s rest e. same_reader s rest (none ts rest s (x.exact.ok ts rest s e).spelled))

    pub without_rows : Production Ends (bind_rule R tail_rule) (p >>= tail_reader)
    without_rows = record {
      exact = as_parser no_brackets 0 0 Ends (bind_rule R tail_rule) (p >>= no_rows) (p >>= tail_reader) reader_is (as_exact no_brackets 0 0 Ends (bind_rule R no_rows_rule) (bind_rule R tail_rule) (p >>= no_rows) into back plain.exact);
      way = record { text = plain.way.text; made = plain.way.made; spelled = λ k f. into (plain.way.text ++ k) k plain.way.made (plain.way.spelled k f); fits = λ k f. tt };
    }

  -- a choice of heads, and the end of the statement
  module _ (test : Lexeme → Bool) (R S : Rule Lexeme Statement) (p q : Reader Statement) (x : Production Ends (either_rule test (bind_rule R tail_rule) (bind_rule S tail_rule)) (either test (p >>= tail_reader) (q >>= tail_reader))) where
    out_of : (ts rest : List Lexeme) (b : Statement × List Row) → either_rule test (bind_rule R tail_rule) (bind_rule S tail_rule) ts rest b → bind_rule (either_rule test R S) tail_rule ts rest b
    out_of ts rest b r = elim r [ inl h ↦ (h.1.0, h.1.1, inl (h.0, h.1.2), h.1.3) | inr h ↦ (h.1.0, h.1.1, inr (h.0, h.1.2), h.1.3) ]

    into_each : (ts rest : List Lexeme) (b : Statement × List Row) → bind_rule (either_rule test R S) tail_rule ts rest b → either_rule test (bind_rule R tail_rule) (bind_rule S tail_rule) ts rest b
    into_each ts rest b r = elim r.2 [ inl h ↦ inl (h.0, (r.0, r.1, h.1, r.3)) | inr h ↦ inr (h.0, (r.0, r.1, h.1, r.3)) ]

    spread_is : (ts : List Lexeme) → (either test p q >>= tail_reader) ts ≡ either test (p >>= tail_reader) (q >>= tail_reader) ts
    spread_is ts = sym (cond-and_then (sees test ts) (p ts) (q ts) tail_reader)

    pub spread : Production Ends (bind_rule (either_rule test R S) tail_rule) (either test p q >>= tail_reader)
    spread = record {
      exact = as_parser no_brackets 0 0 Ends (bind_rule (either_rule test R S) tail_rule) (either test (p >>= tail_reader) (q >>= tail_reader)) (either test p q >>= tail_reader) spread_is
          (as_exact no_brackets 0 0 Ends (either_rule test (bind_rule R tail_rule) (bind_rule S tail_rule)) (bind_rule (either_rule test R S) tail_rule) (either test (p >>= tail_reader) (q >>= tail_reader)) out_of into_each x.exact);
      way = record { text = x.way.text; made = x.way.made; spelled = λ k f. out_of (x.way.text ++ k) k x.way.made (x.way.spelled k f); fits = λ k f. tt };
    }

  -- a choice of two heads, the first of which takes a token
  module _ (wanted : LexemeKind → Bool) (s : wanted (kind.Sign 59) ≡ false) (e : wanted kind.End ≡ false) (R S : Rule Lexeme Statement) (p q : Reader Statement) (shorter : Shortens p) (begins : (ts rest : List Lexeme) (a : Statement) → R ts rest a → sees (λ l. wanted l.kind) ts ≡ true)
      (x : Production Ends (bind_rule R tail_rule) (p >>= tail_reader)) (y : Production Ends (bind_rule S tail_rule) (q >>= tail_reader)) where
    pub head_or : ((ts : List Lexeme) (b : Statement × List Row) (k : List Lexeme) → bind_rule S tail_rule ts ts b → Ends k → sees (λ l. wanted l.kind) k ≡ false) → Production Ends (bind_rule (either_rule (λ l. wanted l.kind) R S) tail_rule) (either (λ l. wanted l.kind) p q >>= tail_reader)
    head_or apart = spread (λ l. wanted l.kind) R S p q (one_of Ends (λ l. wanted l.kind) _ _ _ _ x
        (bind-shortens p tail_reader shorter (λ a. exact-never_lengthens no_brackets 0 0 Ends (tail_rule a) (tail_reader a) (tail_exact a).exact))
        (λ ts rest b r. begins ts r.0 r.1 r.2) y apart)

    pub head_then : Production Ends (bind_rule (either_rule (λ l. wanted l.kind) R S) tail_rule) (either (λ l. wanted l.kind) p q >>= tail_reader)
    head_then = head_or (λ ts b k r f. unseen wanted s e k f)

-- ---- heads

any_exact : Production Ends IsAny any
any_exact = record {
  exact = skip_exact no_brackets 0 Ends (is want.Inner) statement_is.Nothing (lowers (is want.Inner)) (λ k f. unseen (kind_is want.Inner) refl refl k f);
  way = record { text = []; made = statement_is.Nothing; spelled = λ k f. ([], refl, tt, unseen (kind_is want.Inner) refl refl k f, refl); fits = λ k f. tt };
}

skipped_exact : Production Ends IsSkipped skipped
unfolding skipped
skipped_exact = token Ends (is want.SkippedStart) (some_word word.Begin) refl _ _ (λ t. any_exact)

create_skipped_exact : Production Ends IsCreateSkipped create_skipped
unfolding create_skipped
create_skipped_exact = token Ends (is want.SkippedObject) (some_word word.Index) refl _ _ (λ t. any_exact)

create_exact : (enums : List EnumDef) → Production Ends (IsCreate enums) (create enums)
unfolding create
create_exact enums = token Ends (is_a word.Create) (some_word word.Create) refl _ _ (λ t. either_of Ends (is want.SkippedObject) _ _ _ _ create_skipped_exact create_skipped-shortens (token_begins (is want.SkippedObject) _)
    (either_of Ends (is_a word.Type) _ _ _ _ (create_type_exact Ends) create_type-shortens (token_begins (is_a word.Type) _) (create_table_exact Ends enums) (create_table-shortens enums))
    (either-shortens (is_a word.Type) _ _ create_type-shortens (create_table-shortens enums)))

-- after INSERT INTO and a name
abbrev insert_rest_rule : Name → Rule Lexeme Statement
insert_rest_rule table = bind_rule IsOptionalColumns (λ named_columns. bind_rule (word_rule word.Values) (λ v. pure_rule (insert_statement table named_columns)))

abbrev insert_rest : Name → Reader Statement
insert_rest table = optional_columns >>= λ named_columns. a_word word.Values >>= λ v. pure (insert_statement table named_columns)

insert_rest_exact : (F : Follow Lexeme) (table : Name) → Production F (insert_rest_rule table) (insert_rest table)
insert_rest_exact F table = then_token (Not opening) F _ _ (is_a word.Values) (some_word word.Values) refl (λ k. refl) _ _ optional_columns_exact (λ named_columns v. nothing F (insert_statement table named_columns))

insert_rest_takes : (F : Follow Lexeme) (table : Name) → TakesToken (insert_rest_rule table)
insert_rest_takes F table = then_token_takes (Not opening) F _ _ (is_a word.Values) (some_word word.Values) refl (λ k. refl) _ _ optional_columns_exact (λ named_columns v. nothing F (insert_statement table named_columns))

insert_rest_way : (F : Follow Lexeme) (table : Name) → Spelling F (Not dot) (insert_rest_rule table)
insert_rest_way F table = record { text = some_word word.Values ∷ []; made = insert_statement table None; spelled = λ k f. (some_word word.Values ∷ k, None, inr (refl, (refl, refl)), (k, some_word word.Values, (refl, refl), (refl, refl))); fits = λ k f. refl }

insert_exact : (F : Follow Lexeme) → Production F IsInsert insert
unfolding insert
insert_exact F = token F (is_a word.Insert) (some_word word.Insert) refl _ _ (λ t. token F (is_a word.Into) (some_word word.Into) refl _ _ (λ u. then (Not dot) F _ _ insert_rest_rule insert_rest name_exact (insert_rest_exact F) (insert_rest_takes F) (insert_rest_way F)))

-- ---- which have no rows

no_rows_made : (first s : Statement) → has_rows first ≡ false → first ≡ s → has_rows s ≡ false
no_rows_made first s h e = sym (ap has_rows e) ∙ h

skipped_plain : (ts rest : List Lexeme) (s : Statement) → IsSkipped ts rest s → has_rows s ≡ false
skipped_plain ts rest s r = no_rows_made _ s refl r.3.4

create_plain : (enums : List EnumDef) (ts rest : List Lexeme) (s : Statement) → IsCreate enums ts rest s → has_rows s ≡ false
create_plain enums ts rest s r = elim r.3 [
  | inl h ↦ no_rows_made statement_is.Nothing s refl h.1.3.4
  | inr h ↦ elim h.1 [
    | inl g ↦ no_rows_made (enum_statement _ _) s refl g.1.3.3.3.3.3.3.3.1
    | inr g ↦ no_rows_made (table_statement _ _) s refl g.1.3.3.3.3.3.1
  ]
]

alter_plain : (ts rest : List Lexeme) (s : Statement) → IsAlter ts rest s → has_rows s ≡ false
alter_plain ts rest s r = no_rows_made (rule_statement _ _) s refl r.3.3.3.3.3.3.1

comment_plain : (ts rest : List Lexeme) (s : Statement) → IsComment ts rest s → has_rows s ≡ false
comment_plain ts rest s r = no_rows_made (comment_statement _ _) s refl r.3.3.3.3.3.1

-- ---- statements

ends_reference : (k : List Lexeme) → Ends k → ReferenceEnd k
ends_reference k f = (unseen (kind_is (want.Sign 46)) refl refl k f, unseen (kind_is (want.Sign 40)) refl refl k f, unseen (kind_is (want.Word word.On)) refl refl k f)

module _ (enums : List EnumDef) (number : ℕ) (found : List Row) where
  abbrev tail : Statement → Rule Lexeme (Statement × List Row)
  tail = tail_rule number found

  empty_tail : Production Ends (bind_rule (before_rule (is want.Last) statement_is.Nothing) tail) (before (is want.Last) statement_is.Nothing >>= tail_reader number found)
  empty_tail = without_rows number found Ends _ _ (before_production statement_is.Nothing) (λ k f. f) (λ ts rest s r. no_rows_made statement_is.Nothing s refl r.2)

  pub statement_exact : Production Ends (IsStatement enums number found) (statement_with enums number found)
  unfolding statement_with head
  statement_exact =
      head_then number found (kind_is want.SkippedStart) refl refl _ _ _ _ skipped-shortens (token_begins (is want.SkippedStart) _) (without_rows number found Ends _ _ skipped_exact (λ k f. f) skipped_plain)
      (head_then number found (kind_is (want.Word word.Create)) refl refl _ _ _ _ (create-shortens enums) (token_begins (is_a word.Create) _) (without_rows number found Ends _ _ (create_exact enums) (λ k f. f) (create_plain enums))
      (head_then number found (kind_is (want.Word word.Alter)) refl refl _ _ _ _ alter-shortens (token_begins (is_a word.Alter) _) (without_rows number found ReferenceEnd _ _ alter_exact ends_reference alter_plain)
      (head_then number found (kind_is (want.Word word.Comment)) refl refl _ _ _ _ comment-shortens (token_begins (is_a word.Comment) _) (without_rows number found Ends _ _ (comment_exact Ends) (λ k f. f) comment_plain)
      (head_then number found (kind_is (want.Word word.Insert)) refl refl _ _ _ _ insert-shortens (token_begins (is_a word.Insert) _) (then_part Ends _ _ (tail_rule number found) (tail_reader number found) (insert_exact Anything) (tail_exact number found)) empty_tail))))
