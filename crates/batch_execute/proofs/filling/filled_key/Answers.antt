use Rattle.std.proofs.Common.{◌++◌, sym, ap, ◌∙◌, append-nil}
use Rattle.batch_execute.proofs.KeyLengths.{filled_end}
use Rattle.batch_execute.proofs.filling.filled_key.Goals as goal

pub returns : goal.returns
returns c =
    let e = filled_end c.args.base.now c.args.vars.now c.args.table c.args.by.now c.args.key.now c.loop-i.i c.min-i-end.result c.loop-i-test.false c.min-i-end.ensures in
    sym (append-nil c.loop-i.cells) ∙ ap (λ l. c.loop-i.cells ++ l) (sym e) ∙ c.loop-i.invariant
