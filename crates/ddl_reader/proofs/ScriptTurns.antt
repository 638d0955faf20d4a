-- The statements of a script, turn after turn.
use Rattle.std.proofs.Common.{◌≡◌, ◌⊎◌, inl, inr, ℕ, zero, suc, ◌+◌, ◌-◌, ◌<◌, ◌≤◌, Bool, true, false, cond, List, [], ◌∷◌, length, Result, Ok, Err, refl, sym, ap, ◌∙◌, arith}
use Rattle.parse_rules.specs.Tokens.{sees, after}
use Rattle.parse_rules.specs.Parser.{Outcome, before, ◌>>=◌}
use Rattle.parse_rules.specs.Exact.{NeverLengthens}
use Rattle.pg_base.specs.Catalog.{CatalogParts}
use Rattle.pg_base.specs.declared.enum_def.EnumDef.{EnumDef}
use Rattle.ddl_reader.specs.declared.fault.ScriptFault.{ScriptFault}
use Rattle.ddl_reader.specs.declared.fault.ScriptFault.TheVariants as fault
use Rattle.ddl_reader.specs.declared.lexeme.Lexeme.{Lexeme}
use Rattle.ddl_reader.specs.declared.lexeme.Expected.TheVariants as want
use Rattle.ddl_reader.specs.declared.reading.Progress.{Progress}
use Rattle.ddl_reader.specs.declared.statement.Row.{Row}
use Rattle.ddl_reader.specs.declared.statement.Statement.{Statement}
use Rattle.ddl_reader.specs.declared.statement.Statement.TheVariants as statement_is
use Rattle.ddl_reader.specs.Lexemes.{is, is_the, lexemes}
use Rattle.ddl_reader.specs.Reading.{head}
use Rattle.ddl_reader.specs.Statements.{rows_after, statement_with}
use Rattle.ddl_reader.specs.Script.{progress, inserts_with, or_stop, after_statement, with_catalog, with_statement, step, goes_on, after_step, statements, begins, read}
use Rattle.ddl_reader.proofs.Lengths.{keeps-pure, bind-keeps, before-keeps}
use Rattle.ddl_reader.proofs.ItemLengths.{head-keeps, rows-keeps}
use Rattle.ddl_reader.proofs.Places.{some-bound}

-- ---- a statement takes some lexemes or none

rows_after-keeps : (number : ℕ) (found : List Row) (made : Statement) → NeverLengthens (rows_after number found made)
rows_after-keeps number found (statement_is.Insert i) = rows-keeps number found
rows_after-keeps number found statement_is.Nothing = keeps-pure found
rows_after-keeps number found (statement_is.Enum e) = keeps-pure found
rows_after-keeps number found (statement_is.Table t) = keeps-pure found
rows_after-keeps number found (statement_is.Rule r) = keeps-pure found
rows_after-keeps number found (statement_is.Comment m) = keeps-pure found

statement-keeps : (enums : List EnumDef) (number : ℕ) (found : List Row) → NeverLengthens (statement_with enums number found)
unfolding statement_with
statement-keeps enums number found =
    bind-keeps (head enums) (λ made. rows_after number found made >>= λ after. before (is want.Last) (made, after)) (head-keeps enums)
    (λ made. bind-keeps (rows_after number found made) (λ after. before (is want.Last) (made, after)) (rows_after-keeps number found made) (λ after. before-keeps (is want.Last) (made, after)))

abbrev ok : Progress → List Lexeme → Result (Progress × List Lexeme) ScriptFault
ok q rest = Ok (q, rest)

ok_rest : (a b : Progress) (x y : List Lexeme) → ok a x ≡ ok b y → x ≡ y
ok_rest a b x y e = let both : (a, x) ≡ (b, y) = cc in ap (λ (z : Progress × List Lexeme). z.1) both

catalog_rest : (p q : Progress) (mid : (Statement × List Row) × List Lexeme) (rest : List Lexeme) (r : Result CatalogParts ScriptFault) → with_catalog p mid r ≡ Ok (q, rest) → mid.1 ≡ rest
catalog_rest p q mid rest (Err f) e = absurd (cc)
catalog_rest p q mid rest (Ok c) e = ok_rest (progress c (inserts_with p.inserts mid.0.0) mid.0.1) q mid.1 rest e

step-keeps : (p q : Progress) (ts rest : List Lexeme) → step p ts ≡ Ok (q, rest) → length rest ≤ length ts
unfolding step
step-keeps p q ts rest e = go (statement_with p.catalog.enums (length p.inserts) p.rows ts) refl e
  where
    go : (o : Outcome Lexeme (Statement × List Row)) → statement_with p.catalog.enums (length p.inserts) p.rows ts ≡ o → with_statement p (or_stop p.catalog.enums ts o) ≡ Ok (q, rest) → length rest ≤ length ts
    go (Err left) is e = absurd (cc)
    go (Ok mid) is e =
        let short = statement-keeps p.catalog.enums (length p.inserts) p.rows ts mid.1 mid.0 is in
        let same = catalog_rest p q mid rest (after_statement p.catalog mid.0.0) e in
        omega (arith, short, ap length same)

-- ---- as many turns as there are lexemes, and more, say the same

go_on-same : (next other : Progress → List Lexeme → Result Progress ScriptFault) (n : ℕ) → ((q : Progress) (us : List Lexeme) → length us < n → next q us ≡ other q us) → (q : Progress) (rest : List Lexeme) → length rest < suc n → goes_on next q rest ≡ goes_on other q rest
go_on-same next other n same q [] le = refl
go_on-same next other n same q (l ∷ us) le = ap (λ x. cond (is_the 59 l) x (Ok q)) (same q us (omega (arith, le)))

after_step-same : (next other : Progress → List Lexeme → Result Progress ScriptFault) (n : ℕ) (p : Progress) (ts : List Lexeme) → ((q : Progress) (us : List Lexeme) → length us < n → next q us ≡ other q us) → length ts < suc n → (r : Result (Progress × List Lexeme) ScriptFault) → step p ts ≡ r → after_step next r ≡ after_step other r
after_step-same next other n p ts same le (Err f) is = refl
after_step-same next other n p ts same le (Ok (q, rest)) is =
    let short = step-keeps p q ts rest is in
    go_on-same next other n same q rest (omega (arith, short, le))

-- turns that all suffice
pub enough : (n m k : ℕ) (p : Progress) (ts : List Lexeme) → length ts < k → k ≤ n → k ≤ m → statements n p ts ≡ statements m p ts
unfolding statements
enough n m zero p ts lt ln lm = absurd (omega (arith, lt))
enough zero m (suc k) p ts lt ln lm = absurd (omega (arith, ln))
enough (suc n) zero (suc k) p ts lt ln lm = absurd (omega (arith, lm))
enough (suc n) (suc m) (suc k) p ts lt ln lm =
    after_step-same (statements n) (statements m) k p ts (λ q us le. enough n m k q us le (omega (arith, ln)) (omega (arith, lm))) lt (step p ts) refl

pub turns_begin : (bytes : List ℕ) (turns : ℕ) → turns ≡ length bytes + 2 → statements (turns - 0) begins (lexemes bytes) ≡ read bytes
turns_begin bytes turns is =
    let bound = some-bound (suc (length bytes - 0)) bytes 0 in
    enough (turns - 0) (suc (length (lexemes bytes))) (suc (length (lexemes bytes))) begins (lexemes bytes) (omega arith) (omega (arith, bound, is)) (omega arith)

-- ---- a turn

module _ (due : Result Progress ScriptFault) (turns at : ℕ) (p : Progress) (ts : List Lexeme) (lt : at < turns) (so_far : statements (turns - at) p ts ≡ due) where
  turn_is : after_step (statements (turns - (at + 1))) (step p ts) ≡ due
  unfolding statements
  turn_is =
      let one : turns - at ≡ suc (turns - (at + 1)) = omega (arith, lt) in
      sym (ap (λ (n : ℕ). statements n p ts) one) ∙ so_far

  pub turn_stops : (f : ScriptFault) → (f ≡ fault.Memory) ⊎ (step p ts ≡ Err f) → (f ≡ fault.Memory) ⊎ (due ≡ Err f)
  turn_stops f (inl memory) = inl memory
  turn_stops f (inr took) = inr (sym turn_is ∙ ap (after_step (statements (turns - (at + 1)))) took)

  module _ (q : Progress) (rest : List Lexeme) (took : step p ts ≡ Ok (q, rest)) where
    stepped : goes_on (statements (turns - (at + 1))) q rest ≡ due
    stepped = sym (ap (after_step (statements (turns - (at + 1)))) took) ∙ turn_is

    -- no `;` follows
    pub turn_ends : (b : Bool) → b ≡ sees (is_the 59) rest → b ≡ false → due ≡ Ok q
    turn_ends b is miss = sym stepped ∙ ended (statements (turns - (at + 1))) rest (sym is ∙ miss)
      where
        ended : (next : Progress → List Lexeme → Result Progress ScriptFault) (us : List Lexeme) → sees (is_the 59) us ≡ false → goes_on next q us ≡ Ok q
        ended next [] e = refl
        ended next (l ∷ us) e = ap (λ x. cond x (next q us) (Ok q)) e

    -- one follows, and is taken
    pub turn_goes_on : (b : Bool) (left : List Lexeme) → b ≡ sees (is_the 59) rest → left ≡ after (is_the 59) rest → b ≡ true → statements (turns - (at + 1)) q left ≡ due
    turn_goes_on b left is moved hit = ap (λ (us : List Lexeme). statements (turns - (at + 1)) q us) moved ∙ sym (went (statements (turns - (at + 1))) rest (sym is ∙ hit)) ∙ stepped
      where
        went : (next : Progress → List Lexeme → Result Progress ScriptFault) (us : List Lexeme) → sees (is_the 59) us ≡ true → goes_on next q us ≡ next q (after (is_the 59) us)
        went next [] e = absurd (cc)
        went next (l ∷ us) e = ap (λ x. cond x (next q us) (Ok q)) e ∙ sym (ap (λ x. next q (cond x us (l ∷ us))) e)

pub turns_run_out : (due : Result Progress ScriptFault) (turns at : ℕ) (p : Progress) (ts : List Lexeme) → turns ≤ at → statements (turns - at) p ts ≡ due → due ≡ Ok p
unfolding statements
turns_run_out due turns at p ts le so_far =
    let none : turns - at ≡ 0 = omega (arith, le) in
    sym so_far ∙ ap (λ (n : ℕ). statements n p ts) none

pub turns_enough : (bytes : List ℕ) (n : ℕ) → length (lexemes bytes) < n → statements n begins (lexemes bytes) ≡ read bytes
turns_enough bytes n lt = enough n (suc (length (lexemes bytes))) (suc (length (lexemes bytes))) begins (lexemes bytes) (omega arith) (omega (arith, lt)) (omega arith)
