use Rattle.std.proofs.Common.{ℕ, List, ◌≡◌, ◌≢◌, ◌∙◌, ◌+◌, ◌∷◌, ◌++◌, [], drop, get_or, sym, ap, append_assoc, append-nil}
use Rattle.std.proofs.lemmas.List.{drop_all}
use Rattle.smart_tags.specs.Parts.{break_len, without_cr}
use Rattle.smart_tags.proofs.LineFacts.{cr_at, no_cr_at, without_cr-nil, joined_is}
use Rattle.smart_tags.proofs.tags.joined_lines.Goals as goal

pub loop-at-preserved-then-break_len-eq2 : goal.loop-at-preserved-then-break_len-eq2
loop-at-preserved-then-break_len-eq2 c =
    let z = c.args.text.now in
    c.loop-at.invariant ∙ ap (λ (w : List ℕ). c.loop-at.joined.items ++ w) (cr_at z c.loop-at.at c.loop-at-test.true (sym c.break_len.ensures ∙ c.if-break_len-eq2.true))

pub loop-at-preserved : goal.loop-at-preserved
loop-at-preserved c =
    let z = c.args.text.now in
    let i = c.loop-at.at in
    let kept : break_len (drop i z) ≢ 2 = λ (h : break_len (drop i z) ≡ 2). c.if-break_len-eq2.false (c.break_len.ensures ∙ h) in
    c.loop-at.invariant ∙ ap (λ (w : List ℕ). c.loop-at.joined.items ++ w) (no_cr_at z i c.loop-at-test.true kept)
    ∙ sym (append_assoc c.loop-at.joined.items (get_or z i 0 ∷ []) (without_cr (drop (i + 1) z))) ∙ ap (λ (w : List ℕ). w ++ without_cr (drop (i + 1) z)) (sym c.in_ok-push.ensures.items)

pub returns : goal.returns
returns c =
    let z = c.args.text.now in
    sym (c.loop-at.invariant ∙ ap (λ (w : List ℕ). c.loop-at.joined.items ++ without_cr w) (drop_all c.loop-at.at z c.loop-at-test.false) ∙ ap (λ (w : List ℕ). c.loop-at.joined.items ++ w) without_cr-nil ∙ append-nil _) ∙ sym (joined_is z)
