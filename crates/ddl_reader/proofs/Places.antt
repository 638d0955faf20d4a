-- Lexemes from a place on, however many may be cut.
use Rattle.std.proofs.Common.{◌≡◌, ◌≢◌, ℕ, zero, suc, ◌-◌, ◌<◌, ◌≤◌, Bool, true, false, cond, List, [], ◌∷◌, length, Result, Ok, Err, Some, refl, sym, ap, ◌∙◌, arith}
use Rattle.std.proofs.lemmas.Bool.{false≢true}
use Rattle.sql_lex.specs.declared.token.Token.{Token}
use Rattle.sql_lex.specs.declared.token.LexFault.{LexFault}
use Rattle.sql_lex.specs.declared.token.TokenKind.{TokenKind}
use Rattle.sql_lex.specs.declared.token.TokenKind.TheVariants as token
use Rattle.sql_lex.specs.Lex.{first_token, IsTokenOf}
use Rattle.sql_lex.proofs.Known.{stands}
use Rattle.ddl_reader.specs.declared.lexeme.Lexeme.{Lexeme}
use Rattle.ddl_reader.specs.Lexemes.{is_end_token, after_by, some_lexemes, lexemes_from, lexemes_on, lexeme_at}

not_end : (k : TokenKind) → is_end_token k ≡ false → k ≢ token.End
not_end k miss e = false≢true (sym miss ∙ ap is_end_token e)

-- a token that isn't the end takes a byte
module _ (text : List ℕ) (at : ℕ) (t : Token) (le : at ≤ length text) (read : first_token text at ≡ Ok t) (inner : is_end_token t.kind ≡ false) where
  moves : at < t.«to»
  moves =
      let s = stands text at t le read in
      let lt = s.some (not_end t.kind inner) in
      let from = s.from in
      omega (arith, lt, from)

  stays : t.«to» ≤ length text
  stays = (stands text at t le read).within

pub token-shortens : (text : List ℕ) (t : Token) → IsTokenOf text t → is_end_token t.kind ≡ false → suc (length text - t.«to») ≤ length text
token-shortens text t k inner =
    let go = moves text k.at t k.within k.reads inner in
    let stay = stays text k.at t k.within k.reads inner in
    omega (arith, go, stay)

abbrev Same : List ℕ → ℕ → ℕ → Type 0
Same text n m = (at : ℕ) → at ≤ length text → length text - at < n → length text - at < m → some_lexemes n text at ≡ some_lexemes m text at

module _ (text : List ℕ) (n m at : ℕ) (same : Same text n m) (le : at ≤ length text) (ln : length text - at < suc n) (lm : length text - at < suc m) where
  token_same : (t : Token) → first_token text at ≡ Ok t → (c : Bool) → is_end_token t.kind ≡ c → cond c [] (some_lexemes n text t.«to») ≡ cond c [] (some_lexemes m text t.«to»)
  token_same t e true is = refl
  token_same t e false is =
      let go = moves text at t le e is in
      let stay = stays text at t le e is in
      same t.«to» stay (omega (arith, go, stay, ln)) (omega (arith, go, stay, lm))

  after_same : (r : Result Token LexFault) → first_token text at ≡ r → after_by (some_lexemes n text) r ≡ after_by (some_lexemes m text) r
  after_same (Ok t) e = token_same t e (is_end_token t.kind) refl
  after_same (Err fault) e = refl

pub enough : (text : List ℕ) (n m : ℕ) → Same text n m
unfolding some_lexemes
enough text zero m at le ln lm = absurd (omega (arith, ln))
enough text (suc n) zero at le ln lm = absurd (omega (arith, lm))
enough text (suc n) (suc m) at le ln lm = ap (λ (w : List Lexeme). lexeme_at text (first_token text at) ∷ w) (after_same text n m at (enough text n m) le ln lm (first_token text at) refl)

-- the lexemes from a token that was read are those from its place
module _ (text : List ℕ) (at : ℕ) (le : at ≤ length text) where
  token_on : (t : Token) → first_token text at ≡ Ok t → (c : Bool) → is_end_token t.kind ≡ c → cond c [] (lexemes_from text t.«to») ≡ cond c [] (some_lexemes (length text - at) text t.«to»)
  token_on t e true is = refl
  token_on t e false is =
      let go = moves text at t le e is in
      let stay = stays text at t le e is in
      enough text (suc (length text - t.«to»)) (length text - at) t.«to» stay (omega arith) (omega (arith, go, stay))

  after_on : (r : Result Token LexFault) → first_token text at ≡ r → after_by (lexemes_from text) r ≡ after_by (some_lexemes (length text - at) text) r
  after_on (Ok t) e = token_on t e (is_end_token t.kind) refl
  after_on (Err fault) e = refl

  pub on_from : lexemes_on text (Some (first_token text at)) ≡ lexemes_from text at
  unfolding some_lexemes
  on_from = ap (λ (w : List Lexeme). lexeme_at text (first_token text at) ∷ w) (after_on (first_token text at) refl)

-- ---- how many there are

after_bound : (go : ℕ → List Lexeme) (n : ℕ) → ((at : ℕ) → length (go at) ≤ n) → (r : Result Token LexFault) → length (after_by go r) ≤ n
after_bound go n le (Err fault) = omega arith
after_bound go n le (Ok t) = chosen (is_end_token t.kind)
  where
    chosen : (c : Bool) → length (cond c [] (go t.«to»)) ≤ n
    chosen true = omega arith
    chosen false = le t.«to»

pub some-bound : (n : ℕ) (text : List ℕ) (at : ℕ) → length (some_lexemes n text at) ≤ n
unfolding some_lexemes
some-bound zero text at = omega arith
some-bound (suc n) text at = let h = after_bound (some_lexemes n text) n (some-bound n text) (first_token text at) in omega (arith, h)

pub after_token-bound : (text : List ℕ) (t : Token) → length (after_by (lexemes_from text) (Ok t)) ≤ suc (length text - t.«to»)
after_token-bound text t = chosen (is_end_token t.kind)
  where
    chosen : (c : Bool) → length (cond c [] (lexemes_from text t.«to»)) ≤ suc (length text - t.«to»)
    chosen true = omega arith
    chosen false = some-bound (suc (length text - t.«to»)) text t.«to»
