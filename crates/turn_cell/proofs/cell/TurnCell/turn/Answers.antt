use Rattle.std.proofs.Common.{ap, sym, ◌∙◌, ◌∷◌, ◌++◌, [], subst, List, ◌≡◌, true, false}
use Rattle.turn_cell.specs.Histories.{plain}
use Rattle.turn_cell.specs.Seats.{SeatFacts}
use Rattle.turn_cell.proofs.Turning.{adds_turned, keeps_turned, turned_as, rest_adds, rest_passes}
use Rattle.turn_cell.proofs.cell.TurnCell.turn.Goals as goal

pub invariant_of-seat : goal.invariant_of-seat
invariant_of-seat g c = let a = c.acquire-body.ensures in let r = c.raise-seat-inside.ensures in
    rest_adds g.B.TurnBody.fixed c.seat.inside.seat.table_id _ _ _ c.seat.inside.seat.me c.acquire-body.new.seat.me _ a.turn.0 r.event.0 c.seat.invariant a.body.2 a.own a.turn.1 r.event.2 r.count (r.seat.0 ∙ a.seat.0)

pub returns-then-added-clause-event : goal.returns-then-added-clause-event
returns-then-added-clause-event g c = let a = c.acquire-body.ensures in
    let f = ap (λ (t : SeatFacts g.row.B-Entry.Denot g.row.B-Fixed.Denot). t.fixed) (sym c.seat.view_is) ∙ a.body.1 in
    let out = c.run-out.result in let fx = g.B.TurnBody.fixed c.acquire-body.result in
    let v = c.seat.inside.seat.me.0 in let m = c.acquire-body.new.seat.me.0 in let w = c.raise-seat-inside.new.seat.me.0 in
    let does = λ (x y : List g.row.B-Entry.Denot). g.J.Job.does c.args.job fx x out y in
    let yes : g.J.Job.adds out ≡ true = sym c.added.ensures ∙ c.if-added.true in
    let told = rw yes at (c.run-out.ensures.event (plain m.held) a.body.0) in
    let up = c.raise-seat-inside.ensures.event in
    let same = g.B.TurnBody.last c.run-out.new.body (plain m.held) told.0 up.0 told.1 up.1 in
    let holds = subst (λ e. does (plain m.held) (plain m.held ++ e ∷ [])) same told.2 in (
      fx,
      f,
      turned_as g.B.TurnBody.fixed c.seat.inside.seat.table_id _ does (g.J.Job.adds out) v w _
          (adds_turned g.B.TurnBody.fixed c.seat.inside.seat.table_id does (g.J.Job.adds out) yes v m w a.turn.0 up.0 a.body.2 a.own holds (ap (λ x. x.0) a.turn.1) (ap (λ x. x.0) up.2)) c.seat.view_is (c.raise-seat-inside.ensures.seat.0 ∙ a.seat.0),
    )

pub invariant_of-seat-2 : goal.invariant_of-seat-2
invariant_of-seat-2 g c = let a = c.acquire-body.ensures in let r = c.pass-seat-inside.ensures in
    rest_passes g.B.TurnBody.fixed c.seat.inside.seat.table_id _ _ _ c.seat.inside.seat.me c.acquire-body.new.seat.me _ a.turn.0 c.seat.invariant a.body.2 a.own a.turn.1 r.event r.count (r.seat.0 ∙ a.seat.0)

pub returns-clause-event : goal.returns-clause-event
returns-clause-event g c = let a = c.acquire-body.ensures in
    let f = ap (λ (t : SeatFacts g.row.B-Entry.Denot g.row.B-Fixed.Denot). t.fixed) (sym c.seat.view_is) ∙ a.body.1 in
    let out = c.run-out.result in let fx = g.B.TurnBody.fixed c.acquire-body.result in
    let v = c.seat.inside.seat.me.0 in let m = c.acquire-body.new.seat.me.0 in let w = c.pass-seat-inside.new.seat.me.0 in
    let does = λ (x y : List g.row.B-Entry.Denot). g.J.Job.does c.args.job fx x out y in
    let no : g.J.Job.adds out ≡ false = sym c.added.ensures ∙ c.if-added.false in
    let told = rw no at (c.run-out.ensures.event (plain m.held) a.body.0) in (
      fx,
      f,
      turned_as g.B.TurnBody.fixed c.seat.inside.seat.table_id _ does (g.J.Job.adds out) v w _
          (keeps_turned g.B.TurnBody.fixed c.seat.inside.seat.table_id does (g.J.Job.adds out) no v m w a.turn.0 a.body.2 a.own told.1 (ap (λ x. x.0) a.turn.1) (ap (λ x. x.0) c.pass-seat-inside.ensures.event)) c.seat.view_is (c.pass-seat-inside.ensures.seat.0 ∙ a.seat.0),
    )

pub returns-then-added-clause-seat : goal.returns-then-added-clause-seat
returns-then-added-clause-seat g c = let same = (returns-then-added-clause-event g c).2.same in
    (ap (λ s. s.cell) same, ap (λ s. s.fixed) same, ap (λ s. s.joined) same)

pub returns-clause-seat : goal.returns-clause-seat
returns-clause-seat g c = let same = (returns-clause-event g c).2.same in
    (ap (λ s. s.cell) same, ap (λ s. s.fixed) same, ap (λ s. s.joined) same)
