-- A small language without brackets that count: an insert of rows into a table, whose columns may be named.
use Rattle.std.specs.Prelude.{◌≡◌, ℕ, List, [], ◌∷◌}
use Rattle.parse_rules.specs.declared.samples.sign.Sign.{Sign}
use Rattle.parse_rules.specs.declared.samples.sign.Wanted.TheVariants as wanted
use Rattle.parse_rules.specs.declared.samples.inserts.Insert.{Insert}
use Rattle.parse_rules.specs.declared.samples.inserts.InsertFault.{InsertFault}
use Rattle.parse_rules.specs.declared.samples.inserts.InsertFault.TheVariants as faults
use Rattle.parse_rules.specs.Tokens.{head, no_brackets}
use Rattle.parse_rules.specs.Rules.{Rule, token_rule, map_rule, bind_rule, behind_rule, optional_rule, separated_rule, while_onto_rule}
use Rattle.parse_rules.specs.Parser.{Parser, ◌>>=◌, pure, expect, optional, separated, while_onto, whole}
use Rattle.parse_rules.specs.Start.{IsLast, IsSentence, IsStop}
use Rattle.parse_rules.specs.Nested.{passes, letter}

abbrev pub insert_of : ℕ → List ℕ → List (List ℕ) → Insert
insert_of table columns rows = record { table = table; columns = columns; rows = rows }

-- ---- the grammar

abbrev pub IsWord : Rule Sign ℕ
IsWord = map_rule letter (token_rule (passes wanted.Word))

-- word {',' word}
abbrev pub AreWords : Rule Sign (List ℕ)
AreWords = separated_rule (passes wanted.Comma) IsWord

abbrev pub closed_rule : List ℕ → Rule Sign (List ℕ)
closed_rule xs = map_rule (λ t. xs) (token_rule (passes wanted.Close))

-- '(' words ')'
abbrev pub IsRow : Rule Sign (List ℕ)
IsRow = behind_rule (passes wanted.Open) (λ t. bind_rule AreWords closed_rule)

abbrev pub AreColumns : Rule Sign (List ℕ)
AreColumns = optional_rule (passes wanted.Open) [] IsRow

-- ',' row
abbrev pub IsOtherRow : Rule Sign (List ℕ)
IsOtherRow = behind_rule (passes wanted.Comma) (λ t. IsRow)

-- row {',' row}
abbrev pub AreRows : Rule Sign (List (List ℕ))
AreRows = bind_rule IsRow (λ x. while_onto_rule (passes wanted.Comma) IsOtherRow (x ∷ []))

-- word [columns] '=' rows
abbrev pub IsInsert : Rule Sign Insert
IsInsert = bind_rule IsWord (λ table. bind_rule AreColumns
    (λ columns. behind_rule (passes wanted.Equals) (λ t. map_rule (insert_of table columns) AreRows)))

-- ---- the reader

abbrev pub word : Parser Sign ℕ
word = expect (passes wanted.Word) >>= λ t. pure (letter t)

abbrev pub words : Parser Sign (List ℕ)
words = separated (passes wanted.Comma) word

unfoldable pub row : Parser Sign (List ℕ)
row = do
  opening ← expect (passes wanted.Open)
  xs ← words
  closing ← expect (passes wanted.Close)
  pure xs

abbrev pub columns : Parser Sign (List ℕ)
columns = optional (passes wanted.Open) [] row

abbrev pub other_row : Parser Sign (List ℕ)
other_row = expect (passes wanted.Comma) >>= λ t. row

abbrev pub other_rows : List (List ℕ) → Parser Sign (List (List ℕ))
other_rows found = while_onto (passes wanted.Comma) other_row found

unfoldable pub rows : Parser Sign (List (List ℕ))
rows = do
  x ← row
  other_rows (x ∷ [])

unfoldable pub insert : Parser Sign Insert
insert = do
  table ← word
  named ← columns
  equals ← expect (passes wanted.Equals)
  given ← rows
  pure (insert_of table named given)

abbrev pub text : Parser Sign Insert
text = whole insert

-- ---- what is read of a text

abbrev pub IsText : List Sign → Insert → Type 0
IsText = IsSentence no_brackets 0 IsLast IsInsert

-- where a text stops being an insert, by the sign that stands there
abbrev pub IsTextFault : List Sign → InsertFault → Type 0
IsTextFault ts faults.Memory = Unit {0}
IsTextFault ts (faults.At next) = (front : List Sign) × (rest : List Sign)
    × IsStop no_brackets 0 IsLast IsInsert ts front rest × (head rest ≡ next)
