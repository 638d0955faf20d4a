use Rattle.std.proofs.Common.{Some, [], rules, arith, ap, sym, ◌∙◌, ◌≡◌, ◌≤◌, List, length}
use Rattle.std.proofs.lemmas.List.Elements.{All-append}
use Rattle.turn_cell.specs.Seats.{SeatFacts, IsFresh, AreNumbered}
use Rattle.turn_cell.proofs.Views.{all_one}
use Rattle.turn_cell.proofs.Steps.{splits_one}
use Rattle.turn_cell.proofs.Turning.{given_right, left_rests, last_rests, fresh_over, numbered_more, numbers_differ}
use Rattle.turn_cell.proofs.cell.TurnCell.make.Goals as goal

pub split_seat-next-requires : goal.split_seat-next-requires
split_seat-next-requires g c = let i = c.loop.invariant in let o = c.requires.opening in let k = i.2 o.0 o.1 in let p = k.parts in let n = k.made in let t = c.loop-test.true in let e = i.3 in
    (search rules, search rules, splits_one _ _ _ _ _ _ k.idle (omega arith) (omega arith))

pub invariant_of-push_reserved : goal.invariant_of-push_reserved
invariant_of-push_reserved g c = let i = c.loop.invariant in let o = c.requires.opening in let s = c.split_seat-next.ensures in let e = i.3 in
    (left_rests g.B.TurnBody.fixed _ _ o.0 _ _ c.loop.counter c.loop.seat.me _ (i.2 o.0 o.1) (omega arith) i.1 (ap (λ x. x.me) c.replace-made.ensures.value ∙ s.2) o.2).0

pub loop-preserved : goal.loop-preserved
loop-preserved g c = let i = c.loop.invariant in let o = c.requires.opening in let s = c.split_seat-next.ensures in let t = c.loop-test.true in let e = i.3 in let r = c.replace-made.ensures in
    let fixed = g.B.TurnBody.fixed in
    let P = λ (x : SeatFacts g.row.B-Entry.Denot g.row.B-Fixed.Denot). (x.cell ≡ c.in_ok-table.table.shared.table_id) × (x.fixed ≡ Some (fixed c.args.body)) × (x.joined ≡ []) × IsFresh x in
    let left = λ (l : List g.row.B-Entry.Denot) (fits : g.B.TurnBody.stands c.args.body l). left_rests fixed c.replace-made.result.table_id _ l (fixed c.args.body) c.args.seats c.loop.counter c.loop.seat.me c.replace-made.result.me (i.2 l fits) (omega arith) i.1 (ap (λ x. x.me) r.value ∙ s.2) (o.2 ∙ ap length (sym (o.3 l fits))) in (
      ap (λ x. x.table_id) r.after ∙ (s.3 ∙ i.0),
      ap (λ x. x.me.1) r.after ∙ ap (λ m. m.1) s.4,
      (λ l fits. given_right fixed l _ _ _ c.loop.seat.me.0 _ (i.2 l fits) t (ap (λ x. x.me.0) r.after ∙ ap (λ m. m.0) s.4)),
      search rules,
      search rules,
      rw c.push_reserved.ensures.items (All-append P _ _ i.5 (all_one P _ (let h = fresh_over o.0 _ _ (left o.0 o.1).2 in (ap (λ x. x.table_id) r.value ∙ (s.0 ∙ i.0), h.0, h.1, h.2)))),
      (λ l fits. rw c.push_reserved.ensures.items (All-append (λ (x : SeatFacts g.row.B-Entry.Denot g.row.B-Fixed.Denot). x.opening ≡ l) _ _ (i.6 l fits) (all_one (λ (x : SeatFacts g.row.B-Entry.Denot g.row.B-Fixed.Denot). x.opening ≡ l) _ (left l fits).2.opening_is))),
      rw c.push_reserved.ensures.items (numbered_more _ _ i.7 ((left o.0 o.1).1 ∙ search rules)),
    )

pub invariant_of-push_reserved-2 : goal.invariant_of-push_reserved-2
invariant_of-push_reserved-2 g c = let i = c.loop.invariant in let o = c.requires.opening in let e = i.3 in
    let some_seat = c.requires.seats in let t = c.loop-test.false in
    let le : c.loop.counter ≤ c.args.seats = c.loop.auto.counter-end (omega arith) in let all : c.loop.counter ≡ c.args.seats = omega arith in
    (last_rests g.B.TurnBody.fixed _ _ o.0 _ _ c.loop.counter c.loop.seat.me (i.2 o.0 o.1) (omega arith) all i.1 o.2).0

pub returns-clause-seats : goal.returns-clause-seats
returns-clause-seats g c = let i = c.loop.invariant in let o = c.requires.opening in
    let fixed = g.B.TurnBody.fixed in
    let P = λ (x : SeatFacts g.row.B-Entry.Denot g.row.B-Fixed.Denot). (x.cell ≡ c.in_ok-table.table.shared.table_id) × (x.fixed ≡ Some (fixed c.args.body)) × (x.joined ≡ []) × IsFresh x in
    rw c.push_reserved-2.ensures.items (All-append P _ _ i.5 (all_one P _ (let h = fresh_over o.0 _ _ ((i.2 o.0 o.1).fresh c.loop.seat.table_id) in (i.0, h.0, h.1, h.2))))

pub returns-clause-opening : goal.returns-clause-opening
returns-clause-opening g c l fits = let i = c.loop.invariant in
    rw c.push_reserved-2.ensures.items (All-append (λ (x : SeatFacts g.row.B-Entry.Denot g.row.B-Fixed.Denot). x.opening ≡ l) _ _ (i.6 l fits) (all_one (λ (x : SeatFacts g.row.B-Entry.Denot g.row.B-Fixed.Denot). x.opening ≡ l) _ ((i.2 l fits).fresh c.loop.seat.table_id).opening_is))

pub returns-clause-numbers : goal.returns-clause-numbers
returns-clause-numbers g c = let i = c.loop.invariant in let o = c.requires.opening in
    let numbered : AreNumbered c.push_reserved-2.new.self.items = rw c.push_reserved-2.ensures.items (numbered_more _ _ i.7 ((i.2 o.0 o.1).number ∙ search rules)) in
    (numbered, numbers_differ _ numbered)
