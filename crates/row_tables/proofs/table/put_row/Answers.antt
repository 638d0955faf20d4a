use Rattle.std.proofs.Common.{[], ◌∷◌, ◌++◌, set, ap, sym, ◌∙◌}
use Rattle.row_tables.proofs.Seats.{put_seated, put_last, inserted_last}
use Rattle.row_tables.proofs.table.put_row.Goals as goal

pub returns-in_ok-made-in-Some : goal.returns-in_ok-made-in-Some
returns-in_ok-made-in-Some c =
    c.in_ok-made-in-Some.ensures ∙ ap (λ r. set c.args.rows.now c.in-Some.at r) (c.in_ok-item.ensures ∙ c.of.ensures) ∙ put_seated c.args.row c.args.rows.now c.in-Some.at c.requires c.in-Some.ensures

pub returns-in_ok-made-in-None : goal.returns-in_ok-made-in-None
returns-in_ok-made-in-None c =
    c.in_ok-made-in-None.ensures ∙ inserted_last c.args.rows.now c.in_ok-item.item c.len.result c.len.ensures
    ∙ ap (λ r. c.args.rows.now ++ r ∷ []) (c.in_ok-item.ensures ∙ c.of.ensures)
    ∙ sym (put_last c.args.row c.args.rows.now c.in-None.ensures)
