-- A production of the grammar and its parser: the parser is exact, and some lexemes are spelled before what may follow.
use Rattle.std.proofs.Common.{◌≡◌, inl, inr, ℕ, Bool, true, false, List, [], ◌∷◌, ◌++◌, refl, ap, ◌∙◌, arith, Ok}
use Rattle.std.proofs.lemmas.Bool.{false≢true}
use Rattle.parse_rules.specs.Tokens.{sees, no_brackets}
use Rattle.parse_rules.specs.Rules.{Rule, pure_rule, token_rule, bind_rule, either_rule, optional_rule, while_rule, separated_rule}
use Rattle.parse_rules.specs.Parser.{◌>>=◌, pure, expect, either, optional, while, separated}
use Rattle.parse_rules.specs.Exact.{Follow, Anything, IsExact, Spelling, Lowers, TakesToken, TakesAny, Shortens}
use Rattle.parse_rules.proofs.Exact.{exact-takes_any, plain_lowers, pure_exact, bind_exact, bind_spelling, follow_exact, as_exact}
use Rattle.parse_rules.proofs.Choice.{behind_exact, behind-takes, either_exact, either_spelling_first, optional_exact, optional_spelling}
use Rattle.parse_rules.proofs.While.{while_exact, while_spelling}
use Rattle.parse_rules.proofs.Separated.{separated_exact, separated_spelling}
use Rattle.ddl_reader.specs.declared.lexeme.Lexeme.{Lexeme}
use Rattle.ddl_reader.specs.declared.lexeme.LexemeKind.{LexemeKind}
use Rattle.ddl_reader.specs.declared.lexeme.LexemeKind.TheVariants as kind
use Rattle.ddl_reader.specs.declared.word.Word.{Word}
use Rattle.ddl_reader.specs.Reading.{Reader, choose}
use Rattle.ddl_reader.specs.Grammar.{choose_rule}

pub record Production {A : Type 0} (F : Follow Lexeme) (R : Rule Lexeme A) (p : Reader A) : Type 0 where
  pub exact : IsExact no_brackets 0 0 F R p
  pub way : Spelling F Anything R

-- what may follow doesn't begin with a lexeme that passes the test
abbrev pub Not : (Lexeme → Bool) → Follow Lexeme
Not test k = sees test k ≡ false

-- a lexeme of this kind
abbrev pub some_of : LexemeKind → List ℕ → Lexeme
some_of k text = record { kind = k; text = text; pos = record { line = 1; column = 1 } }

abbrev pub some_word : Word → Lexeme
some_word w = some_of (kind.Word w) []

abbrev pub some_sign : ℕ → Lexeme
some_sign byte = some_of (kind.Sign byte) []

abbrev pub some_name : Lexeme
some_name = some_of kind.Name []

pub lowers : (w : Lexeme → Bool) → Lowers no_brackets 0 w
lowers w t hit = plain_lowers no_brackets t refl refl

-- ---- parts one after the other

pub nothing : {A : Type 0} (F : Follow Lexeme) (a : A) → Production F (pure_rule a) (pure a)
nothing F a = record { exact = pure_exact no_brackets 0 F a; way = record { text = []; made = a; spelled = λ k f. (refl, refl); fits = λ k f. tt } }

pub takes_any : {A : Type 0} (F : Follow Lexeme) (R : Rule Lexeme A) (p : Reader A) → Production F R p → TakesAny R
takes_any F R p x = exact-takes_any no_brackets 0 0 F R p x.exact

-- what is spelled is read
module _ {A : Type 0} (F : Follow Lexeme) (R : Rule Lexeme A) (p : Reader A) (x : Production F R p) where
  pub reads : (ts rest : List Lexeme) (a : A) → R ts rest a → p ts ≡ Ok (a, rest)
  reads ts rest a r = elim (x.exact.complete ts rest a r) [ inl e ↦ e | inr d ↦ absurd (none_opens d.rest d.opens) ]
    where
      none_opens : (ts : List Lexeme) → sees no_brackets.opens ts ≡ true → ⊥
      none_opens [] e = false≢true e
      none_opens (t ∷ ts) e = false≢true e

  -- and takes a token, where the parser does
  pub takes : Shortens p → TakesToken R
  takes shorter ts rest a r = shorter ts rest a (reads ts rest a r)

-- a token, and then a part
module _ {A : Type 0} (G : Follow Lexeme) (test : Lexeme → Bool) (some : Lexeme) (hit : test some ≡ true) (S : Lexeme → Rule Lexeme A) (q : Lexeme → Reader A) (x : (t : Lexeme) → Production G (S t) (q t)) where
  pub token_way : (E : Follow Lexeme) → ((k : List Lexeme) → E (some ∷ k)) → Spelling G E (bind_rule (token_rule test) S)
  token_way E fits =
      let w = (x some).way in
      record { text = some ∷ w.text; made = w.made; spelled = λ k f. (w.text ++ k, some, (refl, hit), w.spelled k f); fits = λ k f. fits (w.text ++ k) }

  pub token : Production G (bind_rule (token_rule test) S) (expect test >>= q)
  token = record {
    exact = behind_exact no_brackets 0 0 G test S q (lowers test) some hit (λ t. (x t).exact) (λ t. (x t).way);
    way = token_way Anything (λ k. tt);
  }

  pub token_takes : TakesToken (bind_rule (token_rule test) S)
  token_takes = behind-takes test S (λ t. takes_any G (S t) (q t) (x t))

pub token_begins : {A : Type 0} (test : Lexeme → Bool) (S : Lexeme → Rule Lexeme A) (ts rest : List Lexeme) (a : A) → bind_rule (token_rule test) S ts rest a → sees test ts ≡ true
token_begins test S ts rest a r = ap (λ (w : List Lexeme). sees test w) r.2.0 ∙ r.2.1

-- a part, and then nothing more
module _ {A B : Type 0} (F : Follow Lexeme) (R : Rule Lexeme A) (p : Reader A) (f : A → B) (x : Production F R p) where
  pub made : Production F (bind_rule R (λ a. pure_rule (f a))) (p >>= λ a. pure (f a))
  made = record {
    exact = bind_exact no_brackets 0 0 F F R p (λ a. pure_rule (f a)) (λ a. pure (f a)) (λ a mid y k r g. g) x.exact (λ a. (nothing F (f a)).exact) (λ a. same_way (f a));
    way = bind_spelling F F Anything R (λ a. pure_rule (f a)) x.way (same_way (f x.way.made));
  }
    where
      same_way : (b : B) → Spelling F F (pure_rule b)
      same_way b = record { text = []; made = b; spelled = λ k g. (refl, refl); fits = λ k g. g }

-- a part, and then a part that takes a token
module _ {A B : Type 0} (F G : Follow Lexeme) (R : Rule Lexeme A) (p : Reader A) (S : A → Rule Lexeme B) (q : A → Reader B) (x : Production F R p) (y : (a : A) → Production G (S a) (q a)) (more : (a : A) → TakesToken (S a)) (way : (a : A) → Spelling G F (S a)) where
  pub then : Production G (bind_rule R S) (p >>= q)
  then = record {
    exact = bind_exact no_brackets 0 0 F G R p S q (λ a mid b k r g. absurd (let h = more a mid mid b r in omega (arith, h))) x.exact (λ a. (y a).exact) way;
    way = bind_spelling F G Anything R S x.way (way x.way.made);
  }

-- a part, and then a token and a part
module _ {A B : Type 0} (F G : Follow Lexeme) (R : Rule Lexeme A) (p : Reader A) (test : Lexeme → Bool) (some : Lexeme) (hit : test some ≡ true) (fits : (k : List Lexeme) → F (some ∷ k)) (S : A → Lexeme → Rule Lexeme B) (q : A → Lexeme → Reader B) (x : Production F R p) (y : (a : A) (t : Lexeme) → Production G (S a t) (q a t)) where
  pub then_token : Production G (bind_rule R (λ a. bind_rule (token_rule test) (S a))) (p >>= λ a. expect test >>= q a)
  then_token = record {
    exact = bind_exact no_brackets 0 0 F G R p (λ a. bind_rule (token_rule test) (S a)) (λ a. expect test >>= q a)
        (λ a mid b k r g. absurd (let h = token_takes G test some hit (S a) (q a) (y a) mid mid b r in omega (arith, h)))
        x.exact (λ a. (token G test some hit (S a) (q a) (y a)).exact) (λ a. token_way G test some hit (S a) (q a) (y a) F fits);
    way = bind_spelling F G Anything R (λ a. bind_rule (token_rule test) (S a)) x.way (token_way G test some hit (S x.way.made) (q x.way.made) (y x.way.made) F fits);
  }

  pub then_token_takes : TakesToken (bind_rule R (λ a. bind_rule (token_rule test) (S a)))
  then_token_takes ts rest b r =
      let h = takes_any F R p x ts r.0 r.1 r.2 in
      let k = token_takes G test some hit (S r.1) (q r.1) (y r.1) r.0 rest b r.3 in
      omega (arith, h, k)

-- a part, and then one that may be absent: what may follow both
module _ {A B : Type 0} (F G : Follow Lexeme) (R : Rule Lexeme A) (p : Reader A) (S : A → Rule Lexeme B) (q : A → Reader B) (keeps : (k : List Lexeme) → G k → F k) (x : Production F R p) (y : (a : A) → Production G (S a) (q a)) (way : (a : A) → Spelling G F (S a)) where
  pub then_some : Production G (bind_rule R S) (p >>= q)
  then_some = record {
    exact = bind_exact no_brackets 0 0 F G R p S q (λ a mid b k r g. keeps k g) x.exact (λ a. (y a).exact) way;
    way = bind_spelling F G Anything R S x.way (way x.way.made);
  }

-- a part that anything may follow, and then another
pub then_part : {A B : Type 0} (G : Follow Lexeme) (R : Rule Lexeme A) (p : Reader A) (S : A → Rule Lexeme B) (q : A → Reader B) → Production Anything R p → ((a : A) → Production G (S a) (q a)) → Production G (bind_rule R S) (p >>= q)
then_part G R p S q x y = then_some Anything G R p S q (λ k f. tt) x y (λ a. (y a).way)

-- ---- choices

-- by a fact that is known
pub chosen : {A : Type 0} (F : Follow Lexeme) (b : Bool) (R S : Rule Lexeme A) (p q : Reader A) → (b ≡ true → Production F R p) → (b ≡ false → Production F S q) → Production F (choose_rule b R S) (choose b p q)
chosen F true R S p q x y =
    let z = x refl in
    record {
      exact = as_exact no_brackets 0 0 F R (choose_rule true R S) p (λ ts rest a r. inl (refl, r)) (λ ts rest a r. elim r [ inl h ↦ h.1 | inr h ↦ absurd cc ]) z.exact;
      way = record { text = z.way.text; made = z.way.made; spelled = λ k f. inl (refl, z.way.spelled k f); fits = z.way.fits };
    }
chosen F false R S p q x y =
    let z = y refl in
    record {
      exact = as_exact no_brackets 0 0 F S (choose_rule false R S) q (λ ts rest a r. inr (refl, r)) (λ ts rest a r. elim r [ inl h ↦ absurd cc | inr h ↦ h.1 ]) z.exact;
      way = record { text = z.way.text; made = z.way.made; spelled = λ k f. inr (refl, z.way.spelled k f); fits = z.way.fits };
    }

-- by the next token, with which the first begins
module _ {A : Type 0} (F : Follow Lexeme) (test : Lexeme → Bool) (R S : Rule Lexeme A) (p q : Reader A) (x : Production F R p) (shorter : Shortens p) (begins : (ts rest : List Lexeme) (a : A) → R ts rest a → sees test ts ≡ true) (y : Production F S q) where
  first_way : Spelling F Anything (either_rule test R S)
  first_way = either_spelling_first F Anything test R S x.way (λ k f. begins (x.way.text ++ k) k x.way.made (x.way.spelled k f))

  -- where the second may take none
  pub one_of : ((ts : List Lexeme) (a : A) (k : List Lexeme) → S ts ts a → F k → sees test k ≡ false) → Production F (either_rule test R S) (either test p q)
  one_of apart = record { exact = either_exact no_brackets 0 0 F test R S p q first_way x.exact (takes F R p x shorter) y.exact apart; way = first_way }

  -- where it takes one
  pub either_of : Shortens q → Production F (either_rule test R S) (either test p q)
  either_of shorter_too = one_of (λ ts a k r f. absurd (let h = takes F S q y shorter_too ts ts a r in omega (arith, h)))

pub optionally : {A : Type 0} (F : Follow Lexeme) (test : Lexeme → Bool) (absent : A) (R : Rule Lexeme A) (p : Reader A) → Production F R p → Shortens p → ((k : List Lexeme) → F k → sees test k ≡ false) → Production F (optional_rule test absent R) (optional test absent p)
optionally F test absent R p x shorter unseen = record {
  exact = optional_exact no_brackets 0 F test absent R p x.exact (takes F R p x shorter) unseen;
  way = optional_spelling F Anything test absent R unseen (λ k f. tt);
}

-- ---- repetitions

pub repeated : {A : Type 0} (E F : Follow Lexeme) (test : Lexeme → Bool) (R : Rule Lexeme A) (p : Reader A) → Production E R p → Shortens p → ((ts rest : List Lexeme) (a : A) → R ts rest a → sees test ts ≡ true) → ((k : List Lexeme) → F k → E k) → ((k : List Lexeme) → F k → sees test k ≡ false) → Production F (while_rule test R) (while test p)
repeated E F test R p x shorter begins keeps unseen = record {
  exact = while_exact no_brackets 0 E F test R p x.exact (takes E R p x shorter) begins keeps unseen;
  way = while_spelling F Anything test R unseen (λ k f. tt);
}

pub listed : {A : Type 0} (E F : Follow Lexeme) (test : Lexeme → Bool) (some : Lexeme) → test some ≡ true → (R : Rule Lexeme A) (p : Reader A) → Production E R p → ((k : List Lexeme) → F k → E k) → ((k : List Lexeme) → F k → sees test k ≡ false) → Production F (separated_rule test R) (separated test p)
listed E F test some hit R p x keeps unseen = record {
  exact = separated_exact no_brackets 0 E F test R p x.exact x.way (lowers test) some hit keeps unseen;
  way = separated_spelling F E Anything test R unseen keeps x.way;
}

-- ---- spellings

pub fit : {A : Type 0} (F E D : Follow Lexeme) (R : Rule Lexeme A) → Spelling F E R → ((k : List Lexeme) → E k → D k) → Spelling F D R
fit F E D R x keeps = record { text = x.text; made = x.made; spelled = x.spelled; fits = λ k f. keeps (x.text ++ k) (x.fits k f) }

-- what may follow is less
pub weaker : {A : Type 0} (F G : Follow Lexeme) (R : Rule Lexeme A) (p : Reader A) → ((k : List Lexeme) → G k → F k) → Production F R p → Production G R p
weaker F G R p keeps x = record {
  exact = follow_exact no_brackets 0 0 F G R p keeps x.exact;
  way = record { text = x.way.text; made = x.way.made; spelled = λ k g. x.way.spelled k (keeps k g); fits = λ k g. tt };
}
