use Rattle.std.proofs.Common.{rules}
use Rattle.std.proofs.lemmas.Result.{on_ok_weaker}
use Rattle.std.proofs.lemmas.List.Sorted.{ranks_by}
use Rattle.std.proofs.lemmas.Fn.{always_returns_same}
use Rattle.rel_model.proofs.Sorting.{sorted_is}
use Rattle.stmt_run.specs.declared.placing.Placed.{Placed}
use Rattle.stmt_run.specs.Marks.{placed_before}
use Rattle.stmt_run.proofs.Marks.{placed_total}
use Rattle.stmt_run.proofs.placing.sort_placed.Goals as goal

pub returns : goal.returns
returns c =
    let order = c.args.order.now in
    let ranks = ranks_by (placed_total order) (λ (p : Placed). p) in
    on_ok_weaker c.sort_by.result
    (λ sorted. sorted_is (placed_before order) ranks _ _
    (sorted (placed_before order) ranks (always_returns_same _ _ _ (λ a r f k. search rules)))
    (c.sort_by.ensures.stable (placed_before order) ranks (always_returns_same _ _ _ (λ a r f k. search rules))))
    c.sort_by.ensures.sorted
