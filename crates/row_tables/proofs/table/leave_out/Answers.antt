use Rattle.std.proofs.Common.{[], sym, ◌∙◌}
use Rattle.row_tables.proofs.Seats.{left_seated, left_same}
use Rattle.row_tables.proofs.table.leave_out.Goals as goal

pub returns-in_ok-made-in-Some : goal.returns-in_ok-made-in-Some
returns-in_ok-made-in-Some c =
    c.in_ok-made-in-Some.ensures ∙ left_seated c.args.number c.args.rows.now c.in-Some.at (record { number = 0; cells = [] }) c.requires c.in-Some.ensures

pub returns-in_ok-made-in-None : goal.returns-in_ok-made-in-None
returns-in_ok-made-in-None c = c.in_ok-made-in-None.ensures ∙ sym (left_same c.args.number c.args.rows.now c.in-None.ensures)
