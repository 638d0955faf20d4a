use Rattle.std.proofs.Common.{ℕ, rules, arith, ap, sym, ◌∙◌, ◌≡◌, ◌+◌, length, subst}
use Rattle.turn_cell.specs.Seats.{SeatFacts, CellFacts, Closing}
use Rattle.turn_cell.specs.Rule.{facts_of}
use Rattle.turn_cell.proofs.Steps.{closes_with}
use Rattle.turn_cell.proofs.Turning.{full, not_none, same_in}
use Rattle.turn_cell.proofs.cell.TurnCell.close.Goals as goal

-- the seat has all parts
pub has_all : (parts joined all here seats : ℕ) → parts ≡ joined + 1 → joined ≡ all → here ≡ seats → all + 1 ≡ here → parts ≡ seats
has_all parts joined all here seats a b c d = omega arith

pub unreachable-requires : goal.unreachable-requires
unreachable-requires g c = let s = c.seat.inside in let i = c.seat.invariant in
    let all = has_all _ _ _ _ _ i.parts (ap (λ (t : SeatFacts g.row.B-Entry.Denot g.row.B-Fixed.Denot). length t.joined) c.seat.view_is) (sym (ap (λ (t : CellFacts g.row.B-Fixed.Denot). t.seats) c.self.view_is)) c.requires.all in
    let t = closes_with g.B.TurnBody.stands g.B.TurnBody.fixed c.self.inside.table.shared.key.body.value c.self.inside.table.shared.key.seats s.seat.id s.seat.table_id s.seat.me.0 _ _ i.idle all (search rules) c.close_with-closed.ensures.values.2 in
    not_none t.0 _ (full _ t.0 _ t.1 c.take-slot.ensures.value) c.in_default.is

pub returns-clause-fixed : goal.returns-clause-fixed
returns-clause-fixed g c = let s = c.seat.inside in let i = c.seat.invariant in
    let all = has_all _ _ _ _ _ i.parts (ap (λ (t : SeatFacts g.row.B-Entry.Denot g.row.B-Fixed.Denot). length t.joined) c.seat.view_is) (sym (ap (λ (t : CellFacts g.row.B-Fixed.Denot). t.seats) c.self.view_is)) c.requires.all in
    let t = closes_with g.B.TurnBody.stands g.B.TurnBody.fixed c.self.inside.table.shared.key.body.value c.self.inside.table.shared.key.seats s.seat.id s.seat.table_id s.seat.me.0 _ _ i.idle all (search rules) c.close_with-closed.ensures.values.2 in
    let same = same_in t.0 c.in-Some.body c.take-slot.result (full _ t.0 _ t.1 c.take-slot.ensures.value) c.in-Some.is in
    ap g.B.TurnBody.fixed (sym same) ∙ (t.2 ∙ ap (λ (x : CellFacts g.row.B-Fixed.Denot). x.fixed) c.self.view_is)

pub returns-clause-history : goal.returns-clause-history
returns-clause-history g c = let s = c.seat.inside in let i = c.seat.invariant in
    let all = has_all _ _ _ _ _ i.parts (ap (λ (t : SeatFacts g.row.B-Entry.Denot g.row.B-Fixed.Denot). length t.joined) c.seat.view_is) (sym (ap (λ (t : CellFacts g.row.B-Fixed.Denot). t.seats) c.self.view_is)) c.requires.all in
    let t = closes_with g.B.TurnBody.stands g.B.TurnBody.fixed c.self.inside.table.shared.key.body.value c.self.inside.table.shared.key.seats s.seat.id s.seat.table_id s.seat.me.0 _ _ i.idle all (search rules) c.close_with-closed.ensures.values.2 in
    let same = same_in t.0 c.in-Some.body c.take-slot.result (full _ t.0 _ t.1 c.take-slot.ensures.value) c.in-Some.is in
    subst (λ (x : SeatFacts g.row.B-Entry.Denot g.row.B-Fixed.Denot). Closing g.B.TurnBody.stands x c.in-Some.body) c.seat.view_is (subst (Closing g.B.TurnBody.stands (facts_of g.B.TurnBody.fixed s.seat.table_id s.seat.me.0)) same t.3)
