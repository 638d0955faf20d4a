-- Parsers that shorten what is left, or don't lengthen it, whatever they are made of.
use Rattle.std.proofs.Common.{ℕ, zero, suc, ◌≤◌, Bool, true, false, cond, List, [], ◌∷◌, ◌++◌, length, sym, ap, arith, Err}
use Rattle.parse_rules.specs.Tokens.{sees, after_all}
use Rattle.parse_rules.specs.Parser.{◌>>=◌, pure, either, optional, while, while_from, separated, while_onto, skip_while, before}
use Rattle.parse_rules.specs.Exact.{Shortens, NeverLengthens}
use Rattle.parse_rules.proofs.Outcomes.{done_is, done_not, and_then-ok}
use Rattle.parse_rules.proofs.Separated.{next, next-shortens}
use Rattle.ddl_reader.specs.declared.lexeme.Lexeme.{Lexeme}
use Rattle.ddl_reader.specs.Reading.{Reader, choose}

pub keeps-pure : {A : Type 0} (a : A) → NeverLengthens (pure {T = Lexeme} a)
keeps-pure a ts rest b e = let x = done_is a b ts rest e in omega (arith, ap length x.1)

pub keeps : {A : Type 0} (p : Reader A) → Shortens p → NeverLengthens p
keeps p shorter ts rest a e = let h = shorter ts rest a e in omega (arith, h)

module _ {A B : Type 0} (p : Reader A) (q : A → Reader B) where
  pub bind-keeps : NeverLengthens p → ((a : A) → NeverLengthens (q a)) → NeverLengthens (p >>= q)
  bind-keeps first then ts rest b e =
      let x = and_then-ok (p ts) q b rest e in
      let h = first ts x.1 x.0 x.2 in
      let k = then x.0 x.1 rest b x.3 in
      omega (arith, h, k)

  pub bind-shortens : Shortens p → ((a : A) → NeverLengthens (q a)) → Shortens (p >>= q)
  bind-shortens first then ts rest b e =
      let x = and_then-ok (p ts) q b rest e in
      let h = first ts x.1 x.0 x.2 in
      let k = then x.0 x.1 rest b x.3 in
      omega (arith, h, k)

pub choose-keeps : {A : Type 0} (b : Bool) (p q : Reader A) → NeverLengthens p → NeverLengthens q → NeverLengthens (choose b p q)
choose-keeps true p q x y = x
choose-keeps false p q x y = y

pub choose-shortens : {A : Type 0} (b : Bool) (p q : Reader A) → Shortens p → Shortens q → Shortens (choose b p q)
choose-shortens true p q x y = x
choose-shortens false p q x y = y

pub either-keeps : {A : Type 0} (t : Lexeme → Bool) (p q : Reader A) → NeverLengthens p → NeverLengthens q → NeverLengthens (either t p q)
either-keeps t p q x y ts = choose-keeps (sees t ts) p q x y ts

pub either-shortens : {A : Type 0} (t : Lexeme → Bool) (p q : Reader A) → Shortens p → Shortens q → Shortens (either t p q)
either-shortens t p q x y ts = choose-shortens (sees t ts) p q x y ts

pub optional-keeps : {A : Type 0} (t : Lexeme → Bool) (absent : A) (p : Reader A) → NeverLengthens p → NeverLengthens (optional t absent p)
optional-keeps t absent p x = either-keeps t p (pure absent) x (keeps-pure absent)

pub while_from-keeps : {A : Type 0} (t : Lexeme → Bool) (item : Reader A) → NeverLengthens item → (n : ℕ) (found : List A) → NeverLengthens (while_from t item n found)
unfolding while_from
while_from-keeps t item x zero found = keeps-pure found
while_from-keeps t item x (suc n) found = λ ts. choose-keeps (sees t ts) (item >>= λ a. while_from t item n (found ++ a ∷ [])) (pure found) (bind-keeps item (λ a. while_from t item n (found ++ a ∷ [])) x (λ a. while_from-keeps t item x n (found ++ a ∷ []))) (keeps-pure found) ts

pub while-keeps : {A : Type 0} (t : Lexeme → Bool) (item : Reader A) → NeverLengthens item → NeverLengthens (while t item)
unfolding while
while-keeps t item x ts = while_from-keeps t item x (length ts) [] ts

pub separated-shortens : {A : Type 0} (t : Lexeme → Bool) (item : Reader A) → Shortens item → Shortens (separated t item)
unfolding separated
separated-shortens t item x = bind-shortens item (λ a. λ ts. while_from t (next t item) (length ts) (a ∷ []) ts) x
    (λ a ts. while_from-keeps t (next t item) (keeps (next t item) (next-shortens t item (keeps item x))) (length ts) (a ∷ []) ts)

one_passed : (c : Bool) (l : Lexeme) (ts rest : List Lexeme) → length rest ≤ length ts → length (cond c rest (l ∷ ts)) ≤ length (l ∷ ts)
one_passed true l ts rest h = omega (arith, h)
one_passed false l ts rest h = omega arith

after_all-bound : (t : Lexeme → Bool) (ts : List Lexeme) → length (after_all t ts) ≤ length ts
after_all-bound t [] = omega arith
after_all-bound t (l ∷ ts) = one_passed (t l) l ts (after_all t ts) (after_all-bound t ts)

pub skip-keeps : {A : Type 0} (t : Lexeme → Bool) (a : A) → NeverLengthens (skip_while t a)
skip-keeps t a ts rest b e =
    let x = done_is a b (after_all t ts) rest e in
    let h = after_all-bound t ts in
    omega (arith, h, ap length x.1)

pub before-keeps : {A : Type 0} (t : Lexeme → Bool) (a : A) → NeverLengthens (before t a)
before-keeps t a ts = choose-keeps (sees t ts) (pure a) (λ us. Err us) (keeps-pure a) (λ us rest b e. absurd (done_not b rest us (sym e))) ts

pub onto-keeps : {A : Type 0} (t : Lexeme → Bool) (item : Reader A) (found : List A) → NeverLengthens item → NeverLengthens (while_onto t item found)
unfolding while_onto
onto-keeps t item found x ts = while_from-keeps t item x (length ts) found ts
