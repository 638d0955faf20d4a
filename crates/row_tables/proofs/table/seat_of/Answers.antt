use Rattle.std.proofs.Common.{ap, sym, ◌∙◌, rules}
use Rattle.row_tables.proofs.Seats.{splits_numbers, seat_past, seat_here, seat_other}
use Rattle.row_tables.proofs.table.seat_of.Goals as goal

pub place-at-requires : goal.place-at-requires
place-at-requires c = splits_numbers c.args.number c.args.rows.now c.requires

pub returns-then-at-len : goal.returns-then-at-len
returns-then-at-len c = seat_past c.args.rows.now c.place-at.result c.args.number c.requires c.place-at.ensures (search rules)

pub returns-then-row-number : goal.returns-then-row-number
returns-then-row-number c =
    seat_here c.args.rows.now c.place-at.result c.args.number c.get.result.now (search rules) c.get.ensures (ap (λ r. r.number) (sym c.row-row.ensures) ∙ c.if-row-number.true)

pub returns : goal.returns
returns c =
    seat_other c.args.rows.now c.place-at.result c.args.number c.get.result.now c.requires c.place-at.ensures c.get.ensures
    (λ e. c.if-row-number.false (ap (λ r. r.number) c.row-row.ensures ∙ e))
