-- 5.5.2.3 Fragment Spread Is Possible: of object types, only the same one is.
use Rattle.std.specs.Prelude.{ℕ, Bool, false, ◌||◌, ◌==◌, not, Option, Some, None, option_and_then}
use Rattle.pg_base.specs.Schema.{SchemaParts}
use Rattle.gql_types.specs.Types.{object_named}
use Rattle.gql_reader.specs.declared.tree.Document.{Document}
use Rattle.gql_nodes.specs.Nodes.{Node}
use Rattle.gql_nodes.specs.Uses.{fragment_named}
use Rattle.gql_scopes.specs.Sorts.{on_spread, on_inline}

-- the types are known and differ
abbrev pub differ : Option ℕ → Option ℕ → Bool
differ None ty = false
differ (Some parent) None = false
differ (Some parent) (Some ty) = not (parent == ty)

-- the type of the condition isn't the parent type
abbrev pub breaks : SchemaParts → Document → Node → Bool
breaks schema document x =
    on_spread (λ parent s. differ parent
    (option_and_then (λ f. object_named schema f.type_condition) (fragment_named document s.name))) x
    || on_inline (λ parent i. differ parent (option_and_then (object_named schema) i.type_condition)) x
