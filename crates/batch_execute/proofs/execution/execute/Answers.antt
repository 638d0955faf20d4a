use Rattle.std.proofs.Common.{◌≡◌, ap, ◌∙◌}
use Rattle.batch_execute.specs.Execution.{SendsAsked}
use Rattle.batch_execute.specs.Roles.{roles_of}
use Rattle.batch_execute.proofs.Ran.{sends, gets, finished, failed, on_ok}
use Rattle.batch_execute.proofs.execution.execute.Goals as goal

pub returns-in-Ok-clause-sent : goal.returns-in-Ok-clause-sent
returns-in-Ok-clause-sent g c tables told valid =
    on_ok c.finish.result (SendsAsked c.args.entry.now tables c.args.vars.now c.args.root.now (g.R.Rows.sent c.args.rows.now) (g.R.Rows.sent c.fetch_all.new.rows))
    (sends c.args.entry.now c.know.ensures c.requires.ready tables c.args.vars.now c.args.root.now (record { valid = valid; fit = c.requires.fit; hold = c.requires.hold; of_tree = c.requires.root })
    (g.R.Rows.sent c.args.rows.now) (g.R.Rows.sent c.fetch_all.new.rows) (c.in-Ok.ensures.sent tables told))

pub returns-in-Ok-clause-answers : goal.returns-in-Ok-clause-answers
returns-in-Ok-clause-answers g c tables told valid =
    let e = c.args.entry.now in
    let roles : c.in_ok-roles.roles ≡ roles_of e.base c.args.vars.now e.tree.places =
    c.in_ok-roles.ensures ∙ ap (λ b. roles_of b c.args.vars.now c.as_slice.result.now) c.base.ensures ∙ ap (roles_of e.base c.args.vars.now) (c.as_slice.ensures ∙ ap (λ t. t.places) c.tree.ensures) in
    finished e c.know.ensures c.requires.ready tables c.args.vars.now c.args.root.now (record { valid = valid; fit = c.requires.fit; hold = c.requires.hold; of_tree = c.requires.root })
    c.args.room c.in-Ok.fetched c.in_ok-roles.roles c.finish.result (c.in-Ok.ensures.gives tables told).0 roles c.finish.ensures

pub returns-in-Ok-clause-got : goal.returns-in-Ok-clause-got
returns-in-Ok-clause-got g c tables told valid =
    gets c.args.entry.now c.know.ensures c.requires.ready tables c.args.vars.now c.args.root.now (record { valid = valid; fit = c.requires.fit; hold = c.requires.hold; of_tree = c.requires.root })
    c.args.room (g.R.Rows.got c.args.rows.now) (g.R.Rows.got c.fetch_all.new.rows) (c.in-Ok.ensures.gets tables told)

pub returns-in-Err-clause-answers : goal.returns-in-Err-clause-answers
returns-in-Err-clause-answers g c tables told valid =
    failed c.args.entry.now c.know.ensures c.requires.ready tables c.args.vars.now c.args.root.now (record { valid = valid; fit = c.requires.fit; hold = c.requires.hold; of_tree = c.requires.root })
    c.args.room c.fetch_all.new.left c.in-Err.fault (c.in-Err.ensures.gives tables told)

pub returns-in-Err-clause-got : goal.returns-in-Err-clause-got
returns-in-Err-clause-got g c tables told valid =
    gets c.args.entry.now c.know.ensures c.requires.ready tables c.args.vars.now c.args.root.now (record { valid = valid; fit = c.requires.fit; hold = c.requires.hold; of_tree = c.requires.root })
    c.args.room (g.R.Rows.got c.args.rows.now) (g.R.Rows.got c.fetch_all.new.rows) (c.in-Err.ensures.gets tables told)
