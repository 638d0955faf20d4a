use Rattle.std.proofs.Common.{rules, arith, ap, sym, ◌∙◌, ◌∷◌, ◌++◌, [], Some, subst, length, ◌≡◌}
use Rattle.turn_cell.specs.Histories.{plain}
use Rattle.turn_cell.proofs.Steps.{counts_one, raises_one, releases_one}
use Rattle.turn_cell.proofs.Turning.{plain_more, same_body}
use Rattle.turn_cell.proofs.table.raise.Goals as goal

pub load-count-requires : goal.load-count-requires
load-count-requires g c = let x = c.exchange-before.ensures in
    (search rules, search rules, counts_one _ _ _ _ _ _ _ c.requires.turn.0.0 (ap (λ m. m.0.stage) x.3 ∙ c.requires.turn.0.1))

pub fetch_add-requires : goal.fetch_add-requires
fetch_add-requires g c = let x = c.exchange-before.ensures in let l = c.load-count.ensures.2 in let r = c.requires in
    let stands = g.B.TurnBody.stands in
    let e = r.body.0.0 in
    let held = ap (λ m. m.0.held) (l.2 ∙ x.3) in
    let len : length c.load-count.new.seat.me.0.held ≡ length c.exchange-before.new.seat.me.0.held = ap (λ m. length m.0.held) l.2 in let n0 = l.0 in let n1 = l.1 in let ne = c.if-count.false in (
      search rules,
      search rules,
      raises_one _ _ _ _ _ _ _ r.turn.0.0 c.args.body e (ap (λ m. m.0.stage) (l.2 ∙ x.3) ∙ r.turn.0.1) (search rules)
          (subst (λ h. stands c.args.body (plain h ++ e ∷ [])) (sym held) r.body.0.1) (omega arith),
    )

pub fetch_add-requires-2 : goal.fetch_add-requires-2
fetch_add-requires-2 g c = let x = c.exchange-before.ensures in let l = c.load-count.ensures.2 in let r = c.requires in let y = c.fetch_add.ensures.2 in
    let stands = g.B.TurnBody.stands in
    let m = c.load-count.new.seat.me in
    let out : m.1 ≡ (0, Some c.args.body) ∷ [] = search rules in
    let same = same_body m.1 y.1 c.args.body y.2 out in
    let ok = subst (λ b. stands b (plain m.0.held ++ y.0 ∷ [])) same y.3 in
    let held = ap (λ n. n.0.held) y.4 in (
      search rules,
      search rules,
      releases_one _ _ _ _ _ _ _ r.turn.0.0 c.args.body r.sized.1
          (ap (λ n. n.0.stage) (y.4) ∙ (ap (λ n. n.0.stage) (l.2 ∙ x.3) ∙ r.turn.0.1)) (ap (λ n. n.1) y.4 ∙ out)
          (subst (λ h. stands c.args.body (plain h)) (sym held) (subst (stands c.args.body) (sym (plain_more m.0.held m.0.number y.0)) ok)) (search rules),
    )
