-- 5.8.2 Variables Are Input Types.
use Rattle.std.specs.Prelude.{Bool, not, Option}
use Rattle.pg_base.specs.Schema.{SchemaParts, kind_at, is_input}
use Rattle.gql_types.specs.Types.{Ty, ty_written, innermost}
use Rattle.gql_nodes.specs.Nodes.{Node}
use Rattle.gql_scopes.specs.Conditions.{if_some}
use Rattle.gql_scopes.specs.Sorts.{on_variable}

-- an unknown type is no input type
abbrev pub is_input_ty : SchemaParts → Option Ty → Bool
is_input_ty schema ty = if_some (λ t. is_input (kind_at schema (innermost t))) ty

-- the variable's type is no input type
abbrev pub breaks : SchemaParts → Node → Bool
breaks schema x = on_variable (λ repeated v. not (is_input_ty schema (ty_written schema v.ty))) x
