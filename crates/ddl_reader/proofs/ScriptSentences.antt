-- The fold over statements reads exactly the statements of the grammar.
use Rattle.std.proofs.Common.{◌≡◌, ℕ, zero, suc, ◌<◌, ◌≤◌, Bool, true, false, cond, List, [], ◌∷◌, length, Result, Ok, Err, refl, sym, ap, subst, ◌∙◌, arith}
use Rattle.pg_base.specs.Catalog.{CatalogParts}
use Rattle.parse_rules.specs.Tokens.{sees}
use Rattle.parse_rules.specs.Parser.{Outcome}
use Rattle.ddl_reader.specs.declared.fault.ScriptFault.{ScriptFault}
use Rattle.ddl_reader.specs.declared.lexeme.Lexeme.{Lexeme}
use Rattle.ddl_reader.specs.declared.reading.Progress.{Progress}
use Rattle.ddl_reader.specs.declared.statement.Row.{Row}
use Rattle.ddl_reader.specs.declared.statement.Statement.{Statement}
use Rattle.ddl_reader.specs.Lexemes.{is_the, lexemes}
use Rattle.ddl_reader.specs.Grammar.{IsStatement}
use Rattle.ddl_reader.specs.Sentences.{StopsAt}
use Rattle.ddl_reader.specs.Statements.{statement_with}
use Rattle.ddl_reader.specs.Stops.{stop_fault}
use Rattle.ddl_reader.specs.Script.{progress, inserts_with, or_stop, after_statement, with_catalog, with_statement, step, goes_on, after_step, statements, begins, read}
use Rattle.ddl_reader.specs.Scripts.{IsStep, AreStatements, HaveFault}
use Rattle.ddl_reader.proofs.Sentences.{statement-spelled, statement-read, statement-shortens, statement-stops, statement-stopped}

abbrev stopped : {A : Type 0} → ScriptFault → Result A ScriptFault
stopped f = Err f

abbrev gives : Progress → Result Progress ScriptFault
gives q = Ok q

abbrev done_with : Statement → List Row → List Lexeme → Outcome Lexeme (Statement × List Row)
done_with made rows rest = Ok ((made, rows), rest)

abbrev with_rest : Progress → List Lexeme → Result (Progress × List Lexeme) ScriptFault
with_rest q rest = Ok (q, rest)

gives_is : (p q : Progress) → gives p ≡ gives q → p ≡ q
gives_is p q e = cc

gives_not : (f : ScriptFault) (q : Progress) → stopped f ≡ gives q → ⊥
gives_not f q e = cc

-- what a step gives is a statement's, and the other way round
module _ (p : Progress) (ts : List Lexeme) where
  abbrev here : Outcome Lexeme (Statement × List Row)
  here = statement_with p.catalog.enums (length p.inserts) p.rows ts

  pub step_of : (q : Progress) (rest : List Lexeme) → step p ts ≡ Ok (q, rest) → IsStep p ts rest q
  unfolding step
  step_of q rest e = by_outcome here refl e
    where
      by_catalog : (made : Statement) (rows : List Row) (left : List Lexeme) → here ≡ Ok ((made, rows), left) → (r : Result CatalogParts ScriptFault) → after_statement p.catalog made ≡ r → with_catalog p ((made, rows), left) r ≡ Ok (q, rest) → IsStep p ts rest q
      by_catalog made rows left is (Err f) added e = absurd cc
      by_catalog made rows left is (Ok c) added e =
          let both : (progress c (inserts_with p.inserts made) rows, left) ≡ (q, rest) = cc in
          record {
            made = made;
            rows = rows;
            catalog = c;
            spelled = statement-spelled p.catalog.enums (length p.inserts) p.rows ts rest (made, rows) (is ∙ ap (λ (w : List Lexeme). done_with made rows w) (ap (λ (z : Progress × List Lexeme). z.1) both));
            added = added;
            is = sym (ap (λ (z : Progress × List Lexeme). z.0) both);
          }

      by_outcome : (o : Outcome Lexeme (Statement × List Row)) → here ≡ o → with_statement p (or_stop p.catalog.enums ts o) ≡ Ok (q, rest) → IsStep p ts rest q
      by_outcome (Err left) is e = absurd cc
      by_outcome (Ok ((made, rows), left)) is e = by_catalog made rows left is (after_statement p.catalog made) refl e

  pub step_for : (q : Progress) (rest : List Lexeme) → IsStep p ts rest q → step p ts ≡ Ok (q, rest)
  unfolding step
  step_for q rest x =
      ap (λ (o : Outcome Lexeme (Statement × List Row)). with_statement p (or_stop p.catalog.enums ts o)) (statement-read p.catalog.enums (length p.inserts) p.rows ts rest (x.made, x.rows) x.spelled)
      ∙ ap (λ (r : Result CatalogParts ScriptFault). with_catalog p ((x.made, x.rows), rest) r) x.added
      ∙ ap (λ (w : Progress). with_rest w rest) (sym x.is)

  pub step_shortens : (q : Progress) (rest : List Lexeme) → IsStep p ts rest q → length rest ≤ length ts
  step_shortens q rest x = statement-shortens p.catalog.enums (length p.inserts) p.rows ts rest (x.made, x.rows) x.spelled

-- ---- as many turns as lexemes

-- what holds of fewer lexemes
abbrev SpelledBefore : ℕ → Progress → Type 0
SpelledBefore n r = (q : Progress) (us : List Lexeme) → length us < n → statements n q us ≡ Ok r → AreStatements q us r

abbrev FaultBefore : ℕ → ScriptFault → Type 0
FaultBefore n f = (q : Progress) (us : List Lexeme) → length us < n → statements n q us ≡ Err f → HaveFault q us f

pub spelled_by : (n : ℕ) (p r : Progress) (ts : List Lexeme) → length ts < n → statements n p ts ≡ Ok r → AreStatements p ts r
unfolding statements
spelled_by zero p r ts lt e = absurd (omega (arith, lt))
spelled_by (suc n) p r ts lt e = by_step (λ q us le f. spelled_by n q r us le f) (step p ts) refl e
  where
    by_next : SpelledBefore n r → (q : Progress) (l : Lexeme) (us : List Lexeme) → IsStep p ts (l ∷ us) q → (b : Bool) → is_the 59 l ≡ b → cond b (statements n q us) (gives q) ≡ Ok r → AreStatements p ts r
    by_next again q l us x true is e = let short = step_shortens p ts q (l ∷ us) x in AreStatements.one_more p q r ts us l x is (again q us (omega (arith, short, lt)) e)
    by_next again q l us x false is e = AreStatements.last_one p r ts (l ∷ us) (subst (λ (w : Progress). IsStep p ts (l ∷ us) w) (gives_is q r e) x) is

    by_rest : SpelledBefore n r → (q : Progress) (rest : List Lexeme) → IsStep p ts rest q → goes_on (statements n) q rest ≡ Ok r → AreStatements p ts r
    by_rest again q [] x e = AreStatements.last_one p r ts [] (subst (λ (w : Progress). IsStep p ts [] w) (gives_is q r e) x) refl
    by_rest again q (l ∷ us) x e = by_next again q l us x (is_the 59 l) refl e

    by_step : SpelledBefore n r → (o : Result (Progress × List Lexeme) ScriptFault) → step p ts ≡ o → after_step (statements n) o ≡ Ok r → AreStatements p ts r
    by_step again (Err f) is e = absurd (gives_not f r e)
    by_step again (Ok (q, rest)) is e = by_rest again q rest (step_of p ts q rest is) e

pub read_by : (n : ℕ) (p r : Progress) (ts : List Lexeme) → length ts < n → AreStatements p ts r → statements n p ts ≡ Ok r
unfolding statements
read_by zero p r ts lt a = absurd (omega (arith, lt))
read_by (suc n) p r ts lt (AreStatements.last_one q s us rest x ends) = ap (λ (o : Result (Progress × List Lexeme) ScriptFault). after_step (statements n) o) (step_for p ts r rest x) ∙ no_more rest ends
  where
    no_more : (left : List Lexeme) → sees (is_the 59) left ≡ false → goes_on (statements n) r left ≡ Ok r
    no_more [] e = refl
    no_more (l ∷ ls) e = ap (λ (b : Bool). cond b (statements n r ls) (gives r)) e
read_by (suc n) p r ts lt (AreStatements.one_more a q b us rest l x is more) =
    let short = step_shortens p ts q (l ∷ rest) x in
    ap (λ (o : Result (Progress × List Lexeme) ScriptFault). after_step (statements n) o) (step_for p ts q (l ∷ rest) x)
    ∙ ap (λ (b : Bool). cond b (statements n q rest) (gives q)) is
    ∙ read_by n q r rest (omega (arith, short, lt)) more

pub script-spelled : (bytes : List ℕ) (r : Progress) → read bytes ≡ Ok r → AreStatements begins (lexemes bytes) r
script-spelled bytes r e = spelled_by (suc (length (lexemes bytes))) begins r (lexemes bytes) (omega arith) e

pub script-read : (bytes : List ℕ) (r : Progress) → AreStatements begins (lexemes bytes) r → read bytes ≡ Ok r
script-read bytes r a = read_by (suc (length (lexemes bytes))) begins r (lexemes bytes) (omega arith) a

-- ---- faults

faults_is : (f g : ScriptFault) → stopped {A = Progress} f ≡ stopped g → f ≡ g
faults_is f g e = cc

module _ (p : Progress) (ts : List Lexeme) where
  -- a step that gives no progress stops, or its parts can't be added
  pub fault_of : (f : ScriptFault) → step p ts ≡ Err f → HaveFault p ts f
  unfolding step
  fault_of f e = by_outcome (here p ts) refl e
    where
      by_catalog : (made : Statement) (rows : List Row) (left : List Lexeme) → here p ts ≡ Ok ((made, rows), left) → (r : Result CatalogParts ScriptFault) → after_statement p.catalog made ≡ r → with_catalog p ((made, rows), left) r ≡ Err f → HaveFault p ts f
      by_catalog made rows left is (Err g) added e =
          let same : g ≡ f = cc in
          HaveFault.refused p ts left made rows f (statement-spelled p.catalog.enums (length p.inserts) p.rows ts left (made, rows) is) (added ∙ ap (λ (h : ScriptFault). stopped {A = CatalogParts} h) same)
      by_catalog made rows left is (Ok c) added e = absurd cc

      by_outcome : (o : Outcome Lexeme (Statement × List Row)) → here p ts ≡ o → with_statement p (or_stop p.catalog.enums ts o) ≡ Err f → HaveFault p ts f
      by_outcome (Err left) is e =
          let same : stop_fault p.catalog.enums ts left ≡ f = cc in
          subst (λ (h : ScriptFault). HaveFault p ts h) same (HaveFault.stops p ts left (statement-stops p.catalog.enums (length p.inserts) p.rows ts left is))
      by_outcome (Ok ((made, rows), left)) is e = by_catalog made rows left is (after_statement p.catalog made) refl e

  pub step_stops : (rest : List Lexeme) → StopsAt p.catalog.enums (length p.inserts) p.rows ts rest → step p ts ≡ Err (stop_fault p.catalog.enums ts rest)
  unfolding step
  step_stops rest x = ap (λ (o : Outcome Lexeme (Statement × List Row)). with_statement p (or_stop p.catalog.enums ts o)) (statement-stopped p.catalog.enums (length p.inserts) p.rows ts rest x)

  pub step_refused : (rest : List Lexeme) (made : Statement) (rows : List Row) (f : ScriptFault) → IsStatement p.catalog.enums (length p.inserts) p.rows ts rest (made, rows) → after_statement p.catalog made ≡ Err f → step p ts ≡ Err f
  unfolding step
  step_refused rest made rows f r added =
      ap (λ (o : Outcome Lexeme (Statement × List Row)). with_statement p (or_stop p.catalog.enums ts o)) (statement-read p.catalog.enums (length p.inserts) p.rows ts rest (made, rows) r)
      ∙ ap (λ (c : Result CatalogParts ScriptFault). with_catalog p ((made, rows), rest) c) added

pub fault_by : (n : ℕ) (p : Progress) (ts : List Lexeme) (f : ScriptFault) → length ts < n → statements n p ts ≡ Err f → HaveFault p ts f
unfolding statements
fault_by zero p ts f lt e = absurd (omega (arith, lt))
fault_by (suc n) p ts f lt e = by_step (λ q us le g. fault_by n q us f le g) (step p ts) refl e
  where
    by_next : FaultBefore n f → (q : Progress) (l : Lexeme) (us : List Lexeme) → IsStep p ts (l ∷ us) q → (b : Bool) → is_the 59 l ≡ b → cond b (statements n q us) (gives q) ≡ Err f → HaveFault p ts f
    by_next again q l us x true is e = let short = step_shortens p ts q (l ∷ us) x in HaveFault.later p q ts us l f x is (again q us (omega (arith, short, lt)) e)
    by_next again q l us x false is e = absurd (gives_not f q (sym e))

    by_rest : FaultBefore n f → (q : Progress) (rest : List Lexeme) → IsStep p ts rest q → goes_on (statements n) q rest ≡ Err f → HaveFault p ts f
    by_rest again q [] x e = absurd (gives_not f q (sym e))
    by_rest again q (l ∷ us) x e = by_next again q l us x (is_the 59 l) refl e

    by_step : FaultBefore n f → (o : Result (Progress × List Lexeme) ScriptFault) → step p ts ≡ o → after_step (statements n) o ≡ Err f → HaveFault p ts f
    by_step again (Err g) is e = fault_of p ts f (is ∙ ap (λ (h : ScriptFault). stopped {A = Progress × List Lexeme} h) (faults_is g f e))
    by_step again (Ok (q, rest)) is e = by_rest again q rest (step_of p ts q rest is) e

pub told_by : (n : ℕ) (p : Progress) (ts : List Lexeme) (f : ScriptFault) → length ts < n → HaveFault p ts f → statements n p ts ≡ Err f
unfolding statements
told_by zero p ts f lt x = absurd (omega (arith, lt))
told_by (suc n) p ts f lt (HaveFault.stops q us rest x) = ap (λ (o : Result (Progress × List Lexeme) ScriptFault). after_step (statements n) o) (step_stops p ts rest x)
told_by (suc n) p ts f lt (HaveFault.refused q us rest made rows g r added) = ap (λ (o : Result (Progress × List Lexeme) ScriptFault). after_step (statements n) o) (step_refused p ts rest made rows f r added)
told_by (suc n) p ts f lt (HaveFault.later a q us rest l g x is more) =
    let short = step_shortens p ts q (l ∷ rest) x in
    ap (λ (o : Result (Progress × List Lexeme) ScriptFault). after_step (statements n) o) (step_for p ts q (l ∷ rest) x)
    ∙ ap (λ (b : Bool). cond b (statements n q rest) (gives q)) is
    ∙ told_by n q rest f (omega (arith, short, lt)) more

pub script-fault : (bytes : List ℕ) (f : ScriptFault) → read bytes ≡ Err f → HaveFault begins (lexemes bytes) f
script-fault bytes f e = fault_by (suc (length (lexemes bytes))) begins (lexemes bytes) f (omega arith) e

pub script-told : (bytes : List ℕ) (f : ScriptFault) → HaveFault begins (lexemes bytes) f → read bytes ≡ Err f
script-told bytes f x = told_by (suc (length (lexemes bytes))) begins (lexemes bytes) f (omega arith) x
