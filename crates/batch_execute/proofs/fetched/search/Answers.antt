use Rattle.std.proofs.Common.{rules}
use Rattle.std.proofs.lemmas.Fn.{always_returns_same}
use Rattle.rel_model.specs.Ordered.{cells_by, cells_order}
use Rattle.stmt_tree.specs.declared.found.Key.{Key}
use Rattle.batch_execute.proofs.fetched.search.Goals as goal

pub returns-clause-place : goal.returns-clause-place
returns-clause-place c =
    c.binary_search_by.ensures.position (λ (k : Key). cells_order c.args.order.now k.cells (cells_by c.args.order.now c.args.cells.now))
    (always_returns_same _ _ _ (λ a r f k. search rules))
