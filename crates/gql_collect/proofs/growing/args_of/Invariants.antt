use Rattle.std.proofs.Common.{◌≡◌, ◌++◌, drop}
use Rattle.gql_collect.specs.Growing as spec
use Rattle.gql_collect.proofs.growing.args_of.Given as goal

abbrev pub invariant-loop-i : goal.invariant-loop-i
invariant-loop-i l = l.args ++ spec.args_from l.schema l.arguments l.i (drop l.i l.defs) ≡ spec.args_from l.schema l.arguments 0 l.defs
