-- Argument names (5.4.1).
use Rattle.std.specs.Prelude.{ℕ, Bool, false, List, Option, Some, None, is_none}
use Rattle.pg_base.specs.declared.schema.ArgDef.{ArgDef}
use Rattle.gql_types.specs.Types.{arg_named}
use Rattle.gql_nodes.specs.Nodes.{Node}
use Rattle.gql_nodes.specs.Sorts.{on_argument}

abbrev pub is_unknown : Option (List ArgDef) → List ℕ → Bool
is_unknown None name = false
is_unknown (Some defs) name = is_none (arg_named defs name)

-- the field or directive has the argument
abbrev pub breaks : Node → Bool
breaks = on_argument (λ repeated defs a. is_unknown defs a.name)
