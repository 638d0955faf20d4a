use Rattle.std.proofs.Common.{◌≡◌, drop}
use Rattle.std.specs.List.{list_any}
use Rattle.gql_validate.specs.Merged as spec
use Rattle.gql_validate.proofs.spoiled.any_stands.Given as goal

abbrev pub invariant-loop-p : goal.invariant-loop-p
invariant-loop-p l = list_any (spec.stands l.spoiled.keys) (drop l.p-index l.due) ≡ list_any (spec.stands l.spoiled.keys) l.due
