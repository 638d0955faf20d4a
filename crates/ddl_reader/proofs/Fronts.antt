-- The lexemes before a stop, as a loop collects them, and the first four of them, which tell of an INSERT all that is asked.
use Rattle.std.proofs.Common.{◌≡◌, ℕ, zero, suc, ◌-◌, ◌+◌, ◌<◌, ◌≤◌, Bool, true, false, cond, ◌==◌, ◌&&◌, List, [], ◌∷◌, ◌++◌, length, take, Some, None, refl, sym, ap, ◌∙◌, append_assoc, append-nil, arith}
use Rattle.std.proofs.lemmas.Bool.{false≢true}
use Rattle.std.proofs.lemmas.Bool.Decides.{nat_tests}
use Rattle.pg_base.specs.declared.pos.Pos.{Pos}
use Rattle.parse_rules.specs.Tokens.{head, tail}
use Rattle.ddl_reader.specs.declared.fault.ScriptFault.{ScriptFault}
use Rattle.ddl_reader.specs.declared.fault.ScriptFault.TheVariants as fault
use Rattle.ddl_reader.specs.declared.lexeme.Lexeme.{Lexeme}
use Rattle.ddl_reader.specs.Lexemes.{is_sign}
use Rattle.ddl_reader.specs.Stops.{stands_at, lexemes_before, has_word, is_insert_name, insert_fault, is_a_name, last, is_refused_in_insert, bad_clause_at, back_from}

take_none : (n : ℕ) (xs : List Lexeme) → n ≡ 0 → take n xs ≡ []
take_none n xs e = ap (λ (m : ℕ). take m xs) e

take_nil : (n : ℕ) → take {A = Lexeme} n [] ≡ []
take_nil zero = refl
take_nil (suc n) = refl

take_more : (n m : ℕ) (x : Lexeme) (xs : List Lexeme) → n ≡ suc m → take n (x ∷ xs) ≡ x ∷ take m xs
take_more n m x xs e = ap (λ (k : ℕ). take k (x ∷ xs)) e

module _ (pos : Pos) (most turn : ℕ) (whole front tokens : List Lexeme) (so_far : front ++ take (most - turn) (lexemes_before pos tokens) ≡ whole) where
  -- none is left
  pub over : head tokens ≡ None → front ≡ whole
  over e = sym (ap (λ (w : List Lexeme). front ++ w) (left tokens e) ∙ append-nil front) ∙ so_far
    where
      left : (ts : List Lexeme) → head ts ≡ None → take (most - turn) (lexemes_before pos ts) ≡ []
      left [] e = take_nil (most - turn)
      left (t ∷ ts) e = absurd cc

  -- the stop comes
  pub found : (t : Lexeme) → head tokens ≡ Some t → stands_at t.pos pos ≡ true → front ≡ whole
  found t e hit = sym (ap (λ (w : List Lexeme). front ++ w) (left tokens e) ∙ append-nil front) ∙ so_far
    where
      stopped : (u : Lexeme) (ts : List Lexeme) → u ≡ t → lexemes_before pos (u ∷ ts) ≡ []
      stopped u ts is = ap (λ (b : Bool). cond b [] (u ∷ lexemes_before pos ts)) (ap (λ (l : Lexeme). stands_at l.pos pos) is ∙ hit)

      left : (ts : List Lexeme) → head ts ≡ Some t → take (most - turn) (lexemes_before pos ts) ≡ []
      left [] e = absurd cc
      left (u ∷ ts) e = ap (λ (w : List Lexeme). take (most - turn) w) (stopped u ts cc) ∙ take_nil (most - turn)

  -- another lexeme comes
  pub goes_on : (t : Lexeme) (now after : List Lexeme) → head tokens ≡ Some t → stands_at t.pos pos ≡ false → turn < most → now ≡ front ++ t ∷ [] → after ≡ tail tokens
      → now ++ take (most - (turn + 1)) (lexemes_before pos after) ≡ whole
  goes_on t now after e miss lt grown moved =
      ap (λ (w : List Lexeme). w ++ take (most - (turn + 1)) (lexemes_before pos after)) grown
      ∙ append_assoc front (t ∷ []) (take (most - (turn + 1)) (lexemes_before pos after))
      ∙ ap (λ (w : List Lexeme). front ++ t ∷ take (most - (turn + 1)) (lexemes_before pos w)) moved
      ∙ sym (ap (λ (w : List Lexeme). front ++ w) (left tokens e))
      ∙ so_far
    where
      passed : (u : Lexeme) (ts : List Lexeme) → u ≡ t → lexemes_before pos (u ∷ ts) ≡ t ∷ lexemes_before pos ts
      passed u ts is = ap (λ (b : Bool). cond b [] (u ∷ lexemes_before pos ts)) (ap (λ (l : Lexeme). stands_at l.pos pos) is ∙ miss) ∙ ap (λ (l : Lexeme). l ∷ lexemes_before pos ts) is

      left : (ts : List Lexeme) → head ts ≡ Some t → take (most - turn) (lexemes_before pos ts) ≡ t ∷ take (most - (turn + 1)) (lexemes_before pos (tail ts))
      left [] e = absurd cc
      left (u ∷ ts) e = ap (λ (w : List Lexeme). take (most - turn) w) (passed u ts cc) ∙ take_more (most - turn) (most - (turn + 1)) t (lexemes_before pos ts) (omega (arith, lt))

  -- enough are found
  pub enough : most ≤ turn → front ≡ whole
  enough le = sym (ap (λ (w : List Lexeme). front ++ w) (take_none (most - turn) (lexemes_before pos tokens) (omega (arith, le))) ∙ append-nil front) ∙ so_far

pub begins : (pos : Pos) (most : ℕ) (start tokens front : List Lexeme) → tokens ≡ start → front ≡ [] → front ++ take (most - 0) (lexemes_before pos tokens) ≡ take most (lexemes_before pos start)
begins pos most start tokens front same none =
    ap (λ (w : List Lexeme). w ++ take (most - 0) (lexemes_before pos tokens)) none
    ∙ ap (λ (w : List Lexeme). take (most - 0) (lexemes_before pos w)) same
    ∙ ap (λ (n : ℕ). take n (lexemes_before pos start)) (omega arith)

-- ---- all of them

before-bound : (pos : Pos) (ts : List Lexeme) → length (lexemes_before pos ts) ≤ length ts
before-bound pos [] = omega arith
before-bound pos (t ∷ ts) = let h = before-bound pos ts in chosen (stands_at t.pos pos) h
  where
    chosen : (b : Bool) → length (lexemes_before pos ts) ≤ length ts → length (cond b [] (t ∷ lexemes_before pos ts)) ≤ suc (length ts)
    chosen true h = omega arith
    chosen false h = omega (arith, h)

take_all : (n : ℕ) (xs : List Lexeme) → length xs ≤ n → take n xs ≡ xs
take_all n [] le = take_nil n
take_all zero (x ∷ xs) le = absurd (omega (arith, le))
take_all (suc n) (x ∷ xs) le = ap (λ (w : List Lexeme). x ∷ w) (take_all n xs (omega (arith, le)))

pub all_before : (pos : Pos) (start : List Lexeme) (most : ℕ) → length start ≤ most → take most (lexemes_before pos start) ≡ lexemes_before pos start
all_before pos start most le = let h = before-bound pos start in take_all most (lexemes_before pos start) (omega (arith, h, le))

-- ---- the first four

pub first_word : (w : _) (front : List Lexeme) → has_word 0 w (take 4 front) ≡ has_word 0 w front
first_word w [] = refl
first_word w (l ∷ ls) = refl

not_three : (n : ℕ) → 3 < n → (n == 3) ≡ false
not_three n lt = grind (arith, nat_tests)

pub no_insert_name : (front : List Lexeme) → 3 < length front → is_insert_name front ≡ false
no_insert_name front lt = ap (λ (b : Bool). b && is_a_name (last 1 front)) (not_three (length front) lt)

same_name : (front : List Lexeme) → is_insert_name (take 4 front) ≡ is_insert_name front
same_name [] = refl
same_name (a ∷ []) = refl
same_name (a ∷ b ∷ []) = refl
same_name (a ∷ b ∷ c ∷ []) = refl
same_name (a ∷ b ∷ c ∷ d ∷ ls) = no_insert_name (a ∷ b ∷ c ∷ d ∷ []) (omega arith) ∙ sym (no_insert_name (a ∷ b ∷ c ∷ d ∷ ls) (omega arith))

-- what is named is the third, where there are three
last_of : (front : List Lexeme) (stop : Lexeme) → is_insert_name front ≡ true → back_from (take 4 front) stop 1 ≡ back_from front stop 1
last_of [] stop h = refl
last_of (a ∷ []) stop h = refl
last_of (a ∷ b ∷ []) stop h = refl
last_of (a ∷ b ∷ c ∷ []) stop h = refl
last_of (a ∷ b ∷ c ∷ d ∷ ls) stop h = absurd (false≢true (sym (no_insert_name (a ∷ b ∷ c ∷ d ∷ ls) (omega arith)) ∙ h))

pub first_of_insert : (front : List Lexeme) (stop : Lexeme) → insert_fault (take 4 front) stop ≡ insert_fault front stop
first_of_insert front stop = ap (λ (f : ScriptFault). cond (is_refused_in_insert stop.kind) (bad_clause_at stop) f) (by_sign (is_sign stop.kind 46))
  where
    by_name : (b : Bool) → is_insert_name front ≡ b → cond b (bad_clause_at (back_from (take 4 front) stop 1)) (fault.Syntax stop.pos) ≡ cond b (bad_clause_at (back_from front stop 1)) (fault.Syntax stop.pos)
    by_name true h = ap bad_clause_at (last_of front stop h)
    by_name false h = refl

    by_sign : (s : Bool) → cond (s && is_insert_name (take 4 front)) (bad_clause_at (back_from (take 4 front) stop 1)) (fault.Syntax stop.pos) ≡ cond (s && is_insert_name front) (bad_clause_at (back_from front stop 1)) (fault.Syntax stop.pos)
    by_sign true = ap (λ (b : Bool). cond b (bad_clause_at (back_from (take 4 front) stop 1)) (fault.Syntax stop.pos)) (same_name front) ∙ by_name (is_insert_name front) refl
    by_sign false = refl
