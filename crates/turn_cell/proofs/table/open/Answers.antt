use Rattle.std.proofs.Common.{rules, ap}
use Rattle.turn_cell.proofs.Steps.{opened_as, begins_one}
use Rattle.turn_cell.proofs.Turning.{begun_is}
use Rattle.turn_cell.proofs.table.open.Goals as goal

pub new-requires : goal.new-requires
new-requires g c = let o = c.requires.opening in
    opened_as g.B.TurnBody.stands g.B.TurnBody.fixed _ _ c.args.body c.args.length o.0 _ (search rules) (search rules) o.1 o.2 (search rules) (search rules) (search rules)

pub load-count-requires : goal.load-count-requires
load-count-requires g c = let o = c.in-Ok.ensures.ok in
    (search rules, search rules, begins_one g.B.TurnBody.stands g.B.TurnBody.fixed c.in-Ok.table.shared.key.body.value c.in-Ok.table.shared.key.seats _ _ _ c.of.result.value c.from.result o.3 (ap (λ k. k.body.value) o.5) (ap (λ k. k.seats) o.5) (search rules) o.4)

pub returns-clause-seat : goal.returns-clause-seat
returns-clause-seat g c l fits = let o = c.in-Ok.ensures.ok in let t = c.load-count.ensures.2 in
    begun_is g.B.TurnBody.stands _ _ c.of.result.value c.args.body t.0 c.from.result c.args.seats c.requires.opening.0 t.1 l o.4 (search rules) (search rules) t.2 t.3 c.requires.opening.3 fits t.4
