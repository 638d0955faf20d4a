use Rattle.std.proofs.Common.{◌≡◌, ◌++◌, drop}
use Rattle.rel_model.specs.Ordered as ordered
use Rattle.batch_execute.proofs.keys.ascending.Given as goal

abbrev pub invariant-loop-column : goal.invariant-loop-column
invariant-loop-column l = l.order.items ++ ordered.ascending (drop l.column-index l.columns) ≡ ordered.ascending l.columns
