use Rattle.std.proofs.Common.{◌≡◌, ◌≢◌, ◌∙◌, ◌+◌, ℕ, List, [], ◌∷◌, ◌++◌, take, drop, get_or, sym, ap, subst, append_assoc, append-nil, arith}
use Rattle.std.specs.Str.{IsUtf8}
use Rattle.std.proofs.lemmas.List.{take_rest, take_all, take_more, drop-drop, drop_all}
use Rattle.smart_tags.specs.Parts.{break_len, line_of, after_line}
use Rattle.smart_tags.proofs.LineFacts.{break_at, plain_at, line_none, IsUtf8-line}
use Rattle.smart_tags.proofs.parts.first_line.Goals as goal

pub returns-then-len-gt0-clause-first : goal.returns-then-len-gt0-clause-first
returns-then-len-gt0-clause-first c =
    let n : break_len (drop c.line.at c.args.text.now) ≢ 0 = λ (h : break_len (drop c.line.at c.args.text.now) ≡ 0). omega (arith, c.break_len-len.ensures) in
    sym (c.line.invariant.first ∙ ap (λ (w : List ℕ). take c.line.at c.args.text.now ++ w) (break_at _ _ c.line-test.true n).0 ∙ append-nil _)

pub returns-then-len-gt0-clause-others : goal.returns-then-len-gt0-clause-others
returns-then-len-gt0-clause-others c =
    let z = c.args.text.now in
    let n : break_len (drop c.line.at z) ≢ 0 = λ (h : break_len (drop c.line.at z) ≡ 0). omega (arith, c.break_len-len.ensures) in
    take_rest z (c.line.at + c.break_len-len.result) ∙ sym (drop-drop c.break_len-len.result c.line.at z) ∙ ap (λ (k : ℕ). drop k (drop c.line.at z)) c.break_len-len.ensures
    ∙ sym (c.line.invariant.others ∙ (break_at _ _ c.line-test.true n).1)

pub returns-then-len-gt0-clause-utf8 : goal.returns-then-len-gt0-clause-utf8
returns-then-len-gt0-clause-utf8 c = λ u.
    let r = IsUtf8-line c.args.text.now [] u in
    (subst IsUtf8 (sym (returns-then-len-gt0-clause-first c)) r.0, subst IsUtf8 (sym (returns-then-len-gt0-clause-others c)) r.1)

pub line-preserved : goal.line-preserved
line-preserved c =
    let z = c.args.text.now in
    let i = c.line.at in
    let none : break_len (drop i z) ≡ 0 = omega (arith, c.break_len-len.ensures) in
    let p = plain_at z i c.line-test.true none in
    record {
      within = omega arith;
      first = c.line.invariant.first ∙ ap (λ (w : List ℕ). take i z ++ w) p.0 ∙ sym (append_assoc (take i z) (get_or z i 0 ∷ []) (line_of (drop (i + 1) z))) ∙ ap (λ (w : List ℕ). w ++ line_of (drop (i + 1) z)) (sym (take_more z i 0 c.line-test.true));
      others = c.line.invariant.others ∙ p.1;
    }

pub returns-clause-first : goal.returns-clause-first
returns-clause-first c =
    let z = c.args.text.now in
    let none = drop_all c.line.at z c.line-test.false in
    sym (c.line.invariant.first ∙ ap (λ (w : List ℕ). take c.line.at z ++ line_of w) none ∙ ap (λ (w : List ℕ). take c.line.at z ++ w) line_none.0 ∙ append-nil _ ∙ take_all c.line.at z c.line-test.false)

pub returns-clause-others : goal.returns-clause-others
returns-clause-others c =
    let z = c.args.text.now in
    let none = drop_all c.line.at z c.line-test.false in
    take_rest z c.line.at ∙ none ∙ sym (c.line.invariant.others ∙ ap (λ (w : List ℕ). after_line w) none ∙ line_none.1)
