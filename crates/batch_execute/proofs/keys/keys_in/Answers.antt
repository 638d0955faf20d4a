use Rattle.std.proofs.Common.{ap, ◌∙◌, Bor, map}
use Rattle.std.specs.Prelude.{None}
use Rattle.stmt_tree.specs.declared.found.RowTree.{RowTree}
use Rattle.batch_execute.specs.Keys.{key_of, tree_cells, firsts}
use Rattle.batch_execute.proofs.KeysMade.{sorted_keys}
use Rattle.batch_execute.proofs.keys.keys_in.Goals as goal

pub returns : goal.returns
returns c =
    c.in_ok-keys.ensures
    ∙ ap (λ l. map key_of (firsts c.args.order.now None (map (λ t. tree_cells c.args.order.now t.now) l))) (c.as_slice.ensures.value ∙ c.in_ok-sort_trees.ensures)
    ∙ sorted_keys (λ (t : Bor RowTree). t.now) c.args.order.now c.args.trees.now.items
