use Rattle.std.proofs.Common.{◌≡◌, drop, is_some, string_bytes}
use Rattle.gql_types.specs.Types.{arg_named}
use Rattle.gql_input.proofs.given.is_defined.Given as goal

abbrev pub invariant-loop-def : goal.invariant-loop-def
invariant-loop-def l = is_some (arg_named (drop l.def-index l.defs) (string_bytes l.name)) ≡ is_some (arg_named l.defs (string_bytes l.name))
