use Rattle.std.proofs.Common.{rules, ap, ◌∙◌}
use Rattle.turn_cell.proofs.Steps.{passes_one, releases_one}
use Rattle.turn_cell.proofs.table.pass.Goals as goal

pub fetch_add-count-requires : goal.fetch_add-count-requires
fetch_add-count-requires g c = let x = c.exchange-before.ensures in
    (search rules, search rules, passes_one _ _ _ _ _ _ _ c.requires.turn.0.0 (ap (λ m. m.0.stage) x.3 ∙ c.requires.turn.0.1))

pub fetch_add-requires : goal.fetch_add-requires
fetch_add-requires g c = let x = c.exchange-before.ensures in let y = c.fetch_add-count.ensures.2.1 in let r = c.requires in (
  search rules,
  search rules,
  releases_one _ _ _ _ _ _ _ r.turn.0.0 c.args.body r.sized.1
      (ap (λ m. m.0.stage) y ∙ (ap (λ m. m.0.stage) x.3 ∙ r.turn.0.1)) (search rules) (search rules) (search rules),
)
