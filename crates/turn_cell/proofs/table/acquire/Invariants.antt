use Rattle.std.proofs.Common.{◌≡◌, ℕ, ◌%◌, []}
use Rattle.turn_cell.specs.declared.view.Stage.TheVariants.{Waiting}
use Rattle.turn_cell.specs.Rule.{wide}
use Rattle.turn_cell.proofs.table.acquire.Given as goal

abbrev pub invariant-loop : goal.invariant-loop
invariant-loop g l = (l.seat.table_id ≡ l.fn.seat.table_id) × (l.seat.id ≡ l.fn.seat.id) × ((t : ℕ) × (l.ticket ≡ t % wide) × (l.seat.me ≡ (record l.fn.seat.me.0 { stage = Waiting t }, [])))
