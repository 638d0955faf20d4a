use Rattle.std.proofs.Common.{rules}
use Rattle.std.proofs.lemmas.Result.{on_ok_weaker}
use Rattle.std.proofs.lemmas.List.Sorted.{ranks_by}
use Rattle.std.proofs.lemmas.Fn.{always_returns_same}
use Rattle.rel_model.proofs.Orders.{cells_order_total}
use Rattle.rel_model.proofs.Sorting.{sorted_is}
use Rattle.batch_execute.specs.Keys as spec
use Rattle.batch_execute.proofs.keys.sort_trees.Goals as goal

pub returns : goal.returns
returns c =
    let order = c.args.order.now in
    let ranks = ranks_by (cells_order_total order) (λ t. spec.tree_cells order t.now) in
    on_ok_weaker c.sort_by.result
    (λ sorted. sorted_is _ ranks _ _
    (sorted _ ranks (always_returns_same _ _ _ (λ a r f k. search rules)))
    (c.sort_by.ensures.stable _ ranks (always_returns_same _ _ _ (λ a r f k. search rules))))
    c.sort_by.ensures.sorted
