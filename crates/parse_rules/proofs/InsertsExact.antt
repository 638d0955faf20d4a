-- The reader of inserts is exact for their grammar.
use Rattle.std.proofs.Common.{◌≡◌, ◌≤◌, ℕ, Bool, true, false, List, [], ◌∷◌, length, refl, ap, ◌∙◌, arith}
use Rattle.parse_rules.specs.declared.samples.sign.Sign.{Sign}
use Rattle.parse_rules.specs.declared.samples.sign.Sign.TheVariants as sign
use Rattle.parse_rules.specs.declared.samples.sign.Wanted.TheVariants as wanted
use Rattle.parse_rules.specs.declared.samples.inserts.Insert.{Insert}
use Rattle.parse_rules.specs.Tokens.{sees, no_brackets}
use Rattle.parse_rules.specs.Rules.{Rule, token_rule, map_rule, bind_rule, behind_rule, while_onto_rule}
use Rattle.parse_rules.specs.Parser.{◌>>=◌, pure, expect}
use Rattle.parse_rules.specs.Exact.{Follow, Anything, IsExact, Spelling, Lowers, TakesToken, Shortens, NeverLengthens}
use Rattle.parse_rules.specs.Start.{IsLast, ReadsSentences}
use Rattle.parse_rules.specs.Nested.{passes, letter}
use Rattle.parse_rules.specs.Inserts.{insert_of, IsWord, AreWords, closed_rule, IsRow, AreColumns, IsOtherRow, AreRows, IsInsert, word, words, row, columns, other_row, other_rows, rows, insert, text}
use Rattle.parse_rules.proofs.Exact.{exact-takes_any, plain_lowers, token_exact, token_spelling, token-takes, bind_exact, bind_spelling, bind-takes_any, map_exact, map_spelling, map-takes, map-takes_any, takes_any}
use Rattle.parse_rules.proofs.Choice.{behind_exact, behind-takes, optional_exact, optional_spelling}
use Rattle.parse_rules.proofs.While.{while_exact}
use Rattle.parse_rules.proofs.Separated.{exact-shortens, exact-never_lengthens, separated_exact, separated_spelling, separated-takes, while_onto_exact}
use Rattle.parse_rules.proofs.Whole.{whole_reads}

lowers : (w : Sign → Bool) → Lowers no_brackets 0 w
lowers w t hit = plain_lowers no_brackets t refl refl

-- no comma follows
abbrev NoComma : Follow Sign
NoComma k = sees (passes wanted.Comma) k ≡ false

-- ---- words

word_exact : (F : Follow Sign) → IsExact no_brackets 0 0 F IsWord word
word_exact F = map_exact no_brackets 0 0 F (token_rule (passes wanted.Word)) (expect (passes wanted.Word)) letter (token_exact no_brackets 0 0 F (passes wanted.Word) (lowers (passes wanted.Word)) (sign.Word 0) refl)

word_spelling : (F : Follow Sign) → Spelling F Anything IsWord
word_spelling F = map_spelling F Anything (token_rule (passes wanted.Word)) letter (token_spelling F Anything (passes wanted.Word) (sign.Word 0) refl (λ k f. tt))

word_takes : TakesToken IsWord
word_takes = map-takes (token_rule (passes wanted.Word)) letter (token-takes (passes wanted.Word))

pub word_keeps : NeverLengthens word
word_keeps = exact-never_lengthens no_brackets 0 0 Anything IsWord word (word_exact Anything)

words_exact : IsExact no_brackets 0 0 NoComma AreWords words
words_exact = separated_exact no_brackets 0 Anything NoComma (passes wanted.Comma) IsWord word (word_exact Anything) (word_spelling Anything) (lowers (passes wanted.Comma)) sign.Comma refl (λ k f. tt) (λ k f. f)

words_takes : TakesToken AreWords
words_takes = separated-takes (passes wanted.Comma) IsWord word_takes

-- ---- rows

closed_exact : (F : Follow Sign) (xs : List ℕ) → IsExact no_brackets 0 0 F (closed_rule xs) (expect (passes wanted.Close) >>= λ t. pure xs)
closed_exact F xs = map_exact no_brackets 0 0 F (token_rule (passes wanted.Close)) (expect (passes wanted.Close)) (λ t. xs) (token_exact no_brackets 0 0 F (passes wanted.Close) (lowers (passes wanted.Close)) sign.Close refl)

closed_spelling : (F : Follow Sign) (xs : List ℕ) → Spelling F NoComma (closed_rule xs)
closed_spelling F xs = map_spelling F NoComma (token_rule (passes wanted.Close)) (λ t. xs) (token_spelling F NoComma (passes wanted.Close) sign.Close refl (λ k f. refl))

closed_takes : (xs : List ℕ) → TakesToken (closed_rule xs)
closed_takes xs = map-takes (token_rule (passes wanted.Close)) (λ t. xs) (token-takes (passes wanted.Close))

-- what stands behind the bracket that opens
abbrev inner_rule : Rule Sign (List ℕ)
inner_rule = bind_rule AreWords closed_rule

inner_exact : (F : Follow Sign) → IsExact no_brackets 0 0 F inner_rule (words >>= λ xs. expect (passes wanted.Close) >>= λ t. pure xs)
inner_exact F = bind_exact no_brackets 0 0 NoComma F AreWords words closed_rule (λ xs. expect (passes wanted.Close) >>= λ t. pure xs)
    (λ a mid y k r f. absurd (let h = closed_takes a mid mid y r in omega (arith, h))) words_exact (closed_exact F) (closed_spelling F)

inner_spelling : (F : Follow Sign) → Spelling F Anything inner_rule
inner_spelling F = bind_spelling NoComma F Anything AreWords closed_rule (separated_spelling NoComma Anything Anything (passes wanted.Comma) IsWord (λ k f. f) (λ k f. tt) (word_spelling Anything)) (closed_spelling F _)

row_exact : (F : Follow Sign) → IsExact no_brackets 0 0 F IsRow row
unfolding row
row_exact F = behind_exact no_brackets 0 0 F (passes wanted.Open) (λ t. inner_rule) (λ t. words >>= λ xs. expect (passes wanted.Close) >>= λ c. pure xs) (lowers (passes wanted.Open)) sign.Open refl (λ t. inner_exact F) (λ t. inner_spelling F)

row_takes : TakesToken IsRow
row_takes = behind-takes (passes wanted.Open) (λ t. inner_rule) (λ t. bind-takes_any AreWords closed_rule (takes_any AreWords words_takes) (λ xs. takes_any (closed_rule xs) (closed_takes xs)))

row_spelling : (F : Follow Sign) → Spelling F Anything IsRow
row_spelling F = bind_spelling Anything F Anything (token_rule (passes wanted.Open)) (λ t. inner_rule) (token_spelling Anything Anything (passes wanted.Open) sign.Open refl (λ k f. tt)) (inner_spelling F)

other_row_exact : (F : Follow Sign) → IsExact no_brackets 0 0 F IsOtherRow other_row
other_row_exact F = behind_exact no_brackets 0 0 F (passes wanted.Comma) (λ t. IsRow) (λ t. row) (lowers (passes wanted.Comma)) sign.Comma refl (λ t. row_exact F) (λ t. row_spelling F)

other_row_takes : TakesToken IsOtherRow
other_row_takes = behind-takes (passes wanted.Comma) (λ t. IsRow) (λ t. takes_any IsRow row_takes)

pub other_row_shortens : Shortens other_row
other_row_shortens = exact-shortens no_brackets 0 0 Anything IsOtherRow other_row (other_row_exact Anything) other_row_takes

other_row_begins : (ts rest : List Sign) (a : List ℕ) → IsOtherRow ts rest a → sees (passes wanted.Comma) ts ≡ true
other_row_begins ts rest a r = ap (λ (w : List Sign). sees (passes wanted.Comma) w) r.2.0 ∙ r.2.1

other_rows_exact : (found : List (List ℕ)) → IsExact no_brackets 0 0 NoComma (while_onto_rule (passes wanted.Comma) IsOtherRow found) (other_rows found)
other_rows_exact found = while_onto_exact no_brackets 0 NoComma (passes wanted.Comma) IsOtherRow other_row found
    (while_exact no_brackets 0 Anything NoComma (passes wanted.Comma) IsOtherRow other_row (other_row_exact Anything) other_row_takes other_row_begins (λ k f. tt) (λ k f. f))

others_spelling : (x : List ℕ) → Spelling NoComma Anything (while_onto_rule (passes wanted.Comma) IsOtherRow (x ∷ []))
others_spelling x = record { text = []; made = x ∷ []; spelled = λ k f. ([], (f, refl), refl); fits = λ k f. tt }

rows_exact : IsExact no_brackets 0 0 NoComma AreRows rows
unfolding rows
rows_exact = bind_exact no_brackets 0 0 Anything NoComma IsRow row (λ x. while_onto_rule (passes wanted.Comma) IsOtherRow (x ∷ [])) (λ x. other_rows (x ∷ [])) (λ a mid y k r f. tt) (row_exact Anything) (λ x. other_rows_exact (x ∷ [])) others_spelling

rows_spelling : Spelling NoComma Anything AreRows
rows_spelling = bind_spelling Anything NoComma Anything IsRow (λ x. while_onto_rule (passes wanted.Comma) IsOtherRow (x ∷ [])) (row_spelling Anything) (others_spelling _)

-- ---- inserts

-- no bracket that opens follows
abbrev Unopened : Follow Sign
Unopened k = sees (passes wanted.Open) k ≡ false

columns_exact : IsExact no_brackets 0 0 Unopened AreColumns columns
columns_exact = optional_exact no_brackets 0 Unopened (passes wanted.Open) [] IsRow row (row_exact Unopened) row_takes (λ k f. f)

-- '=' and rows
abbrev given_rule : ℕ → List ℕ → Rule Sign Insert
given_rule table named = behind_rule (passes wanted.Equals) (λ t. map_rule (insert_of table named) AreRows)

given_exact : (table : ℕ) (named : List ℕ) → IsExact no_brackets 0 0 NoComma (given_rule table named) (expect (passes wanted.Equals) >>= λ t. rows >>= λ xs. pure (insert_of table named xs))
given_exact table named = behind_exact no_brackets 0 0 NoComma (passes wanted.Equals) (λ t. map_rule (insert_of table named) AreRows) (λ t. rows >>= λ xs. pure (insert_of table named xs)) (lowers (passes wanted.Equals)) sign.Equals refl
    (λ t. map_exact no_brackets 0 0 NoComma AreRows rows (insert_of table named) rows_exact)
    (λ t. map_spelling NoComma Anything AreRows (insert_of table named) rows_spelling)

given_spelling : (table : ℕ) (named : List ℕ) → Spelling NoComma Unopened (given_rule table named)
given_spelling table named = bind_spelling Anything NoComma Unopened (token_rule (passes wanted.Equals)) (λ t. map_rule (insert_of table named) AreRows) (token_spelling Anything Unopened (passes wanted.Equals) sign.Equals refl (λ k f. refl)) (map_spelling NoComma Anything AreRows (insert_of table named) rows_spelling)

abbrev named_rule : ℕ → Rule Sign Insert
named_rule table = bind_rule AreColumns (given_rule table)

named_spelling : (table : ℕ) → Spelling NoComma Anything (named_rule table)
named_spelling table = bind_spelling Unopened NoComma Anything AreColumns (given_rule table) (optional_spelling Unopened Anything (passes wanted.Open) [] IsRow (λ k f. f) (λ k f. tt)) (given_spelling table _)

rows_keep : (ts rest : List Sign) (xs : List (List ℕ)) → AreRows ts rest xs → length rest ≤ length ts
rows_keep = exact-takes_any no_brackets 0 0 NoComma AreRows rows rows_exact

given_takes : (table : ℕ) (named : List ℕ) → TakesToken (given_rule table named)
given_takes table named = behind-takes (passes wanted.Equals) (λ t. map_rule (insert_of table named) AreRows) (λ t. map-takes_any AreRows (insert_of table named) rows_keep)

insert_exact : IsExact no_brackets 0 0 NoComma IsInsert insert
unfolding insert
insert_exact = bind_exact no_brackets 0 0 Anything NoComma IsWord word named_rule (λ table. columns >>= λ named. expect (passes wanted.Equals) >>= λ t. rows >>= λ xs. pure (insert_of table named xs)) (λ a mid y k r f. tt) (word_exact Anything)
    (λ table. bind_exact no_brackets 0 0 Unopened NoComma AreColumns columns (given_rule table) (λ named. expect (passes wanted.Equals) >>= λ t. rows >>= λ xs. pure (insert_of table named xs)) (λ named mid y k r f. absurd (let h = given_takes table named mid mid y r in omega (arith, h))) columns_exact (given_exact table) (given_spelling table))
    named_spelling

pub text_reads : ReadsSentences no_brackets 0 IsLast IsInsert text
text_reads = whole_reads no_brackets 0 NoComma IsInsert insert insert_exact refl
