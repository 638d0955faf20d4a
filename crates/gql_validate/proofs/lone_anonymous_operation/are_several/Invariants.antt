use Rattle.std.proofs.Common.{◌≡◌, false, drop}
use Rattle.gql_validate.specs.LoneAnonymousOperation as spec
use Rattle.gql_validate.proofs.lone_anonymous_operation.are_several.Given as goal

abbrev pub invariant-loop-definition : goal.invariant-loop-definition
invariant-loop-definition l = spec.has_more l.one (drop l.definition-index l.definitions) ≡ spec.has_more false l.definitions
