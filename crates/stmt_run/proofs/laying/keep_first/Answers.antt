use Rattle.std.proofs.Common.{Bor, take, ap, ◌∙◌}
use Rattle.rel_model.specs.declared.tables.Row.{Row}
use Rattle.stmt_run.proofs.Layers.{now_all, map_take}
use Rattle.stmt_run.proofs.laying.keep_first.Goals as goal

pub returns : goal.returns
returns c =
    ap now_all c.truncate.ensures.items
    ∙ map_take (λ (r : Bor Row). r.now) c.args.count c.sort_rows.new.rows.items
    ∙ ap (take c.args.count) c.in_ok-sort_rows.ensures
