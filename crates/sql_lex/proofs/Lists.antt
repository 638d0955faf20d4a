-- All tokens of a text.
use Rattle.std.proofs.Common.{◌≡◌, ℕ, ◌≤◌, List, [], ◌∷◌, ◌++◌, length, drop, sym, ap, subst, ◌∙◌, arith}
use Rattle.sql_lex.specs.declared.token.Token.{Token}
use Rattle.sql_lex.specs.Value.{spelling}
use Rattle.sql_lex.specs.Laws.{AreTokens, ends, goes_on, AreSeparated, gap, laid_out}
use Rattle.sql_lex.proofs.Rests.{drop_end}
use Rattle.sql_lex.proofs.Shapes.{ok_same}
use Rattle.sql_lex.proofs.Known.{stands, separated, parts}

pub whole_from : (z : List ℕ) (at : ℕ) (ts : List Token) → at ≤ length z → AreTokens z at ts → drop at z ≡ laid_out z at ts
whole_from z _ _ le (ends at t e h) =
    let s = stands z at t le e in
    let last = s.last h in
    let order = s.order in
    parts z at t le e ∙ ap (λ (w : List ℕ). gap z at t ++ (spelling z t ++ w)) (drop_end z t.«to» (omega arith))
whole_from z _ _ le (goes_on at t rest e h more) =
    let s = stands z at t le e in
    parts z at t le e ∙ ap (λ (w : List ℕ). gap z at t ++ (spelling z t ++ w)) (whole_from z t.«to» rest s.within more)

pub separated_from : (z : List ℕ) (at : ℕ) (ts : List Token) → at ≤ length z → AreTokens z at ts → AreSeparated z at ts
separated_from z _ _ le (ends at t e h) = (separated z at t le e, tt)
separated_from z _ _ le (goes_on at t rest e h more) =
    let s = stands z at t le e in
    (separated z at t le e, separated_from z t.«to» rest s.within more)

pub one_list : (z : List ℕ) (at : ℕ) (ts others : List Token) → AreTokens z at ts → AreTokens z at others → ts ≡ others
one_list z _ _ _ (ends at t e h) (ends _ u f k) = ap (λ (x : Token). x ∷ []) (ok_same t u (sym e ∙ f))
one_list z _ _ _ (ends at t e h) (goes_on _ u rest f k more) = absurd (k (ap (λ (x : Token). x.kind) (sym (ok_same t u (sym e ∙ f))) ∙ h))
one_list z _ _ _ (goes_on at t rest e h more) (ends _ u f k) = absurd (h (ap (λ (x : Token). x.kind) (ok_same t u (sym e ∙ f)) ∙ k))
one_list z _ _ _ (goes_on at t rest e h more) (goes_on _ u rest' f k more') =
    let same = ok_same t u (sym e ∙ f) in
    ap (λ (x : Token). x ∷ rest) same ∙ ap (λ (ys : List Token). u ∷ ys) (one_list z t.«to» rest rest' more (subst (λ (x : Token). AreTokens z x.«to» rest') (sym same) more'))
