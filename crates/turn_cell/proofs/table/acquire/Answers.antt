use Rattle.std.proofs.Common.{rules, ap, sym, ◌∙◌, ◌∷◌, Some}
use Rattle.atomic_table.specs.Table.{rest}
use Rattle.turn_cell.proofs.Steps.{takes_one, calls_one, called}
use Rattle.turn_cell.proofs.table.acquire.Goals as goal

pub fetch_add-ticket-requires : goal.fetch_add-ticket-requires
fetch_add-ticket-requires g c = (search rules, search rules, takes_one _ _ _ _ _ _ _ (search rules) (search rules))

pub load-found-requires : goal.load-found-requires
load-found-requires g c = let i = c.loop.invariant in
    (search rules, search rules, calls_one _ _ _ _ _ _ _ i.2.0 (search rules) (search rules))

pub exchange-requires : goal.exchange-requires
exchange-requires g c = let i = c.loop.invariant in
    let t = called g.B.TurnBody.stands g.B.TurnBody.fixed c.args.shared.now.key.body.value c.args.shared.now.key.seats _ _ _ i.2.0 _ (ap (λ m. m.0.stage) i.2.2) c.load-found.ensures.2 c.if-found-ticket.true i.2.1 in
    (search rules, (Some t.0, ap (λ m. m.1) t.2 ∙ ap (λ m. (0, Some t.0) ∷ rest m.1) (sym t.2)))
