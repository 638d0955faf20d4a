use Rattle.std.proofs.Common.{◌≡◌, true, rules}
use Rattle.rel_model.specs.Ordered.{precedes}
use Rattle.rel_model.proofs.FirstRows.{row_past}
use Rattle.rel_model.proofs.selecting.is_past.Goals as goal

pub returns : goal.returns
returns c = λ before.
    let less : precedes c.args.order.now c.index-first-count.result.now c.args.row.now ≡ true = search rules in
    row_past c.args.order.now c.args.count c.args.row.now c.args.first.now c.requires.0 c.requires.1 c.index-first-count.result (search rules) (search rules) c.index-first-count.is less
