use Rattle.std.proofs.Common.{rules, arith, ap, sym, ◌∙◌, ◌≡◌, length, ◌<◌, ◌+◌, ℕ}
use Rattle.turn_cell.proofs.Views.{longer_later, longer_former}
use Rattle.turn_cell.proofs.Steps.{joins_one}
use Rattle.turn_cell.proofs.Turning.{rest_joined, joined_as, joined_keeps}
use Rattle.turn_cell.proofs.cell.TurnCell.join.Goals as goal

some_part : (n k : ℕ) → n ≡ k + 1 → 0 < n
some_part n k e = omega arith

pub join_seat-requires : goal.join_seat-requires
join_seat-requires g c = let v = c.seat.invariant in let w = c.other.invariant in
    (search rules, search rules, w.bare, search rules, joins_one _ _ _ _ _ _ _ _ v.idle w.idle (some_part _ _ v.parts) (some_part _ _ w.parts))

pub invariant_of-seat : goal.invariant_of-seat
invariant_of-seat g c = let v = c.seat.invariant in let w = c.other.invariant in let t = c.tell.ensures in let j = c.join_seat.ensures in
    let less = c.if-seat-front.true in let a = v.front_is in let b = w.front_is in
    let at = longer_later c.seat.inside.seat.me.0.seen c.other.inside.seat.me.0.seen (omega arith) in
    rest_joined _ _ _ c.other.inside.seat.table_id _ _ _ c.seat.inside.seat.me c.other.inside.seat.me _ v w (search rules) (t.told.0 ∙ j.2) (b ∙ ap length (sym at)) (t.seat.0 ∙ j.0)

pub invariant_of-seat-else-seat-front : goal.invariant_of-seat-else-seat-front
invariant_of-seat-else-seat-front g c = let v = c.seat.invariant in let w = c.other.invariant in let t = c.tell.ensures in let j = c.join_seat.ensures in
    let less = c.if-seat-front.false in let a = v.front_is in let b = w.front_is in
    let at = longer_former c.seat.inside.seat.me.0.seen c.other.inside.seat.me.0.seen (omega arith) in
    rest_joined _ _ _ c.other.inside.seat.table_id _ _ _ c.seat.inside.seat.me c.other.inside.seat.me _ v w (search rules) (t.told.0 ∙ j.2) (a ∙ ap length (sym at)) (t.seat.0 ∙ j.0)

pub returns-then-seat-front-clause-joined : goal.returns-then-seat-front-clause-joined
returns-then-seat-front-clause-joined g c = let t = c.tell.ensures in let j = c.join_seat.ensures in joined_as g.B.TurnBody.fixed c.seat.inside.seat.table_id _ c.other.inside.seat.table_id c.seat.inside.seat.me.0 c.other.inside.seat.me.0 c.tell.new.seat.me.0 _ _ (search rules) (ap (λ m. m.0) (t.told.0 ∙ j.2)) c.seat.view_is c.other.view_is (t.seat.0 ∙ j.0)

pub returns-else-seat-front-clause-joined : goal.returns-else-seat-front-clause-joined
returns-else-seat-front-clause-joined g c = let t = c.tell.ensures in let j = c.join_seat.ensures in joined_as g.B.TurnBody.fixed c.seat.inside.seat.table_id _ c.other.inside.seat.table_id c.seat.inside.seat.me.0 c.other.inside.seat.me.0 c.tell.new.seat.me.0 _ _ (search rules) (ap (λ m. m.0) (t.told.0 ∙ j.2)) c.seat.view_is c.other.view_is (t.seat.0 ∙ j.0)

pub returns-then-seat-front-clause-seat : goal.returns-then-seat-front-clause-seat
returns-then-seat-front-clause-seat g c = joined_keeps _ _ _ (returns-then-seat-front-clause-joined g c)

pub returns-else-seat-front-clause-seat : goal.returns-else-seat-front-clause-seat
returns-else-seat-front-clause-seat g c = joined_keeps _ _ _ (returns-else-seat-front-clause-joined g c)
