use Rattle.std.proofs.Common.{◌≡◌, ◌-◌, ◌++◌, ◌∙◌, take, drop, length, ap, rules}
use Rattle.stmt_tree.specs.Batches.{part_in}
use Rattle.stmt_run.specs.Laid.{shape_of}
use Rattle.stmt_run.proofs.Layers.{now_all}
use Rattle.stmt_run.proofs.Again.{between, groups_on, groups_more, again_rows}
use Rattle.stmt_run.proofs.laying.lay_between.Goals as goal

pub returns-in-Some-clause-rows : goal.returns-in-Some-clause-rows
returns-in-Some-clause-rows c =
    again_rows c.args.stmt.now c.args.rows.now c.args.from c.args.to c.args.groups.now c.args.all.now.items c.requires.groups c.in-Some.laid c.in-Some.ensures.known.0 c.in-Some.ensures.known.1 c.in-Some.ensures.from c.in-Some.ensures.to c.lay_again.new.all.items c.in_ok-lay_again.ensures

pub returns-in-Some-clause-groups : goal.returns-in-Some-clause-groups
returns-in-Some-clause-groups c =
    groups_on c.args.stmt.now c.args.rows.now c.args.from c.args.to c.args.groups.now c.args.all.now.items c.requires.groups c.lay_again.new.all.items
    (again_rows c.args.stmt.now c.args.rows.now c.args.from c.args.to c.args.groups.now c.args.all.now.items c.requires.groups c.in-Some.laid c.in-Some.ensures.known.0 c.in-Some.ensures.known.1 c.in-Some.ensures.from c.in-Some.ensures.to c.lay_again.new.all.items c.in_ok-lay_again.ensures)

pub returns-clause-shape : goal.returns-clause-shape
returns-clause-shape c =
    let items : c.in_ok-list.list.items ≡ take (c.args.to - c.args.from) (drop c.args.from c.args.rows.now) = search rules in
    c.in_ok-shape.ensures.shape ∙ ap (shape_of c.args.stmt.now) (between c.args.stmt.now c.args.rows.now c.args.from c.args.to c.in_ok-list.list.items items)

pub returns-clause-rows : goal.returns-clause-rows
returns-clause-rows c =
    let items : c.in_ok-list.list.items ≡ take (c.args.to - c.args.from) (drop c.args.from c.args.rows.now) = search rules in
    c.in_ok-shape.ensures.rows
    ∙ ap (λ l. now_all c.args.all.now.items ++ part_in c.args.stmt.now l) (between c.args.stmt.now c.args.rows.now c.args.from c.args.to c.in_ok-list.list.items items)

pub returns-clause-groups : goal.returns-clause-groups
returns-clause-groups c =
    let items : c.in_ok-list.list.items ≡ take (c.args.to - c.args.from) (drop c.args.from c.args.rows.now) = search rules in
    let list = between c.args.stmt.now c.args.rows.now c.args.from c.args.to c.in_ok-list.list.items items in
    let begin : c.len-begin.result ≡ length c.args.all.now.items = search rules in
    groups_more c.args.stmt.now c.args.rows.now c.args.from c.args.to c.args.groups.now c.args.all.now.items c.requires.groups c.lay_list.new.all.items c.in_ok-shape.shape c.len-begin.result begin
    (c.in_ok-shape.ensures.rows ∙ ap (λ l. now_all c.args.all.now.items ++ part_in c.args.stmt.now l) list)
    (c.in_ok-shape.ensures.shape ∙ ap (shape_of c.args.stmt.now) list)
    c.keep.new.self c.in_ok-keep.ensures
