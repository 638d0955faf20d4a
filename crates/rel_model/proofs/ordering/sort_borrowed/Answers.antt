use Rattle.std.proofs.Common.{rules, Bor}
use Rattle.std.proofs.lemmas.Result.{on_ok_weaker}
use Rattle.std.proofs.lemmas.List.Sorted.{ranks_by}
use Rattle.std.proofs.lemmas.Fn.{always_returns_same}
use Rattle.rel_model.specs.declared.tables.Row.{Row}
use Rattle.rel_model.specs.Ordered.{precedes, mark_of}
use Rattle.rel_model.proofs.Orders.{mark_order_total}
use Rattle.rel_model.proofs.Sorting.{sorted_is}
use Rattle.rel_model.proofs.ordering.sort_borrowed.Goals as goal

pub returns : goal.returns
returns c =
    let order = c.args.order.now in
    let ranks = ranks_by (mark_order_total order) (λ (r : Bor Row). mark_of order r.now) in
    on_ok_weaker c.sort_by.result
    (λ sorted. sorted_is (λ (a b : Bor Row). precedes order a.now b.now) ranks _ _
    (sorted (λ (a b : Bor Row). precedes order a.now b.now) ranks (always_returns_same _ _ _ (λ a r f k. search rules)))
    (c.sort_by.ensures.stable (λ (a b : Bor Row). precedes order a.now b.now) ranks (always_returns_same _ _ _ (λ a r f k. search rules))))
    c.sort_by.ensures.sorted
