use Rattle.std.proofs.Common.{Some, List, ◌≡◌, ◌+◌, [], ◌≤◌}
use Rattle.std.specs.List.{All}
use Rattle.std.specs.Prelude.{vec_capacity, vec_len}
use Rattle.turn_cell.specs.Seats.{IsFresh, AreNumbered}
use Rattle.turn_cell.proofs.Turning.{Giving}
use Rattle.turn_cell.proofs.cell.TurnCell.make.Given as goal

abbrev pub invariant-loop : goal.invariant-loop
invariant-loop g l = let fixed = g.B.TurnBody.fixed in
    (l.seat.table_id ≡ l.table.shared.table_id) × (l.seat.me.1 ≡ [])
    × ((list : List g.row.B-Entry.Denot) → g.B.TurnBody.stands l.fn.body list → Giving fixed list (fixed l.fn.body) l.fn.seats l.counter l.seat.me.0)
    × (vec_len l.all + 1 ≡ l.counter) × (l.fn.seats ≤ vec_capacity l.all)
    × All (λ s. (s.cell ≡ l.table.shared.table_id) × (s.fixed ≡ Some (fixed l.fn.body)) × (s.joined ≡ []) × IsFresh s) l.all.items
    × ((list : List g.row.B-Entry.Denot) → g.B.TurnBody.stands l.fn.body list → All (λ s. s.opening ≡ list) l.all.items)
    × AreNumbered l.all.items
