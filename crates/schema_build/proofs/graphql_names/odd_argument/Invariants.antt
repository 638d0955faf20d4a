use Rattle.std.proofs.Common.{◌≡◌, drop, map, find}
use Rattle.schema_build.specs.Looking.{is_odd}
use Rattle.schema_build.proofs.graphql_names.odd_argument.Given as goal

abbrev pub invariant-loop-arg : goal.invariant-loop-arg
invariant-loop-arg l = find is_odd (map (λ a. a.name) (drop l.arg-index l.args)) ≡ find is_odd (map (λ a. a.name) l.args)
