use Rattle.std.proofs.Common.{◌≡◌, ◌++◌, drop}
use Rattle.list_execution.proofs.fields.copied_order.Given as goal

abbrev pub invariant-loop-by : goal.invariant-loop-by
invariant-loop-by l = l.copy ++ drop l.by-index l.order ≡ l.order
