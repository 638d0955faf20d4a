-- Leaf field selections (5.3.3).
use Rattle.std.specs.Prelude.{Bool, true, false, List, [], ◌∷◌, Option, Some, None}
use Rattle.pg_base.specs.Schema.{SchemaParts, kind_at, is_object}
use Rattle.gql_reader.specs.declared.tree.Selection.{Selection}
use Rattle.gql_nodes.specs.Fields.{Known}
use Rattle.gql_nodes.specs.Nodes.{Node}
use Rattle.gql_nodes.specs.Sorts.{on_field}

-- an object type without selections, or another type with some
abbrev pub are_unlike : Bool → List Selection → Bool
are_unlike true [] = true
are_unlike true (s ∷ selections) = false
are_unlike false [] = false
are_unlike false (s ∷ selections) = true

abbrev pub selects_badly : SchemaParts → Option Known → List Selection → Bool
selects_badly schema None selections = false
selects_badly schema (Some k) selections = are_unlike (is_object (kind_at schema k.ty.name)) selections

-- a field has selections exactly where its type is an object type
abbrev pub breaks : SchemaParts → Node → Bool
breaks schema = on_field (λ parent known f. selects_badly schema known f.selections)
