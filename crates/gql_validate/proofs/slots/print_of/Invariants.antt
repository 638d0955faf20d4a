use Rattle.std.proofs.Common.{◌≡◌, drop}
use Rattle.gql_validate.specs.JoinedSets as spec
use Rattle.gql_validate.proofs.slots.print_of.Given as goal

abbrev pub invariant-loop-byte : goal.invariant-loop-byte
invariant-loop-byte l = spec.print_from l.print (drop l.byte-index l.key) ≡ spec.print_from 0 l.key
