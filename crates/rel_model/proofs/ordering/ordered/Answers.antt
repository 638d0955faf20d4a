use Rattle.std.proofs.Common.{◌≡◌, IfOk, subst}
use Rattle.rel_model.proofs.Numbered.{numbers_sorted}
use Rattle.rel_model.proofs.ordering.ordered.Goals as goal

pub returns : goal.returns
returns c =
    subst (λ l. IfOk c.numbers_of.result (λ found. found ≡ l))
    (numbers_sorted c.args.order.now _ _ c.args.numbers.now _ _ _ c.as_slice.ensures.value c.in_ok-sort_rows.ensures c.in_ok-rows.ensures c.rows_of.ensures)
    c.numbers_of.ensures
