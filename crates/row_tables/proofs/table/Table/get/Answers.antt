use Rattle.std.proofs.Common.{◌≡◌, Some, ap, sym, ◌∙◌, rules}
use Rattle.rel_model.specs.Picked.{row_numbered}
use Rattle.rel_model.proofs.Rising.{numbered_rise}
use Rattle.row_tables.proofs.Seats.{seated_row}
use Rattle.row_tables.proofs.table.Table.get.Goals as goal

pub seat_of-requires : goal.seat_of-requires
seat_of-requires c = numbered_rise 1 c.self.inside.next_number c.self.inside.rows c.self.invariant.numbers

pub returns-in-Some : goal.returns-in-Some
returns-in-Some c =
    let view : c.self.inside.rows ≡ c.args.self.now.list.rows = search rules in
    sym (seated_row c.self.inside.rows c.in-Some.at c.args.number c.row.result.now (numbered_rise 1 c.self.inside.next_number c.self.inside.rows c.self.invariant.numbers) c.in-Some.ensures (c.get.ensures ∙ ap Some (sym c.row.ensures)))
    ∙ ap (λ l. row_numbered l c.args.number) view
