-- 5.7.2 Directives Are In Valid Locations.
use Rattle.std.specs.Prelude.{Bool, true, false, ◌&&◌, not, is_some}
use Rattle.gql_nodes.specs.declared.node.Location.{Location}
use Rattle.gql_nodes.specs.declared.node.Location.TheVariants as location
use Rattle.gql_nodes.specs.Nodes.{Node}
use Rattle.gql_nodes.specs.Sorts.{on_directive}

-- `skip` and `include` stand on fields, spreads and inline fragments
abbrev pub is_valid : Location → Bool
is_valid location.Field = true
is_valid location.FragmentSpread = true
is_valid location.InlineFragment = true
is_valid location.Other = false

-- the directive is defined and may not stand there
abbrev pub breaks : Node → Bool
breaks x = on_directive (λ repeated at defs d. is_some defs && not (is_valid at)) x
