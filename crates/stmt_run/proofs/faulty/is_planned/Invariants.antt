use Rattle.std.proofs.Common.{◌≡◌, ◌==◌, drop}
use Rattle.std.specs.List.{list_any}
use Rattle.stmt_run.proofs.faulty.is_planned.Given as goal

abbrev pub invariant-loop-number : goal.invariant-loop-number
invariant-loop-number l = list_any (λ n. n == l.call) (drop l.number-index l.failing) ≡ list_any (λ n. n == l.call) l.failing
