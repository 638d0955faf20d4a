use Rattle.std.proofs.Common.{◌≡◌, [], true, false, ◌∙◌, rules}
use Rattle.std.specs.List.{list_any}
use Rattle.rel_model.specs.Picked.{is_null, picked}
use Rattle.stmt_tree.specs.declared.stmt.Child.TheViews.{out-Stmt}
use Rattle.stmt_run.proofs.Layers.{now_all}
use Rattle.stmt_run.proofs.Keys.{group_picked, null_picked}
use Rattle.stmt_run.proofs.laying.places_of_key.Goals as goal

pub bounds-requires-clause-rows : goal.bounds-requires-clause-rows
bounds-requires-clause-rows c =
    (picked c.args.set.now.tables (out-Stmt c.args.stmt.now).table [] [] (out-Stmt c.args.stmt.now).condition, c.requires.grouped.1)

pub returns-then-has_null-clause-rows : goal.returns-then-has_null-clause-rows
returns-then-has_null-clause-rows c =
    let some : list_any is_null c.args.key.now ≡ true = search rules in
    null_picked c.args.set.now.tables c.args.stmt.now c.args.order.now (now_all c.args.rows.now) c.args.key.now c.requires.grouped c.requires.key some

pub returns-clause-rows : goal.returns-clause-rows
returns-clause-rows c =
    let none : list_any is_null c.args.key.now ≡ false = search rules in
    c.bounds.ensures.group ∙ group_picked c.args.set.now.tables c.args.stmt.now c.args.order.now (now_all c.args.rows.now) c.args.key.now c.requires.grouped c.requires.key none
