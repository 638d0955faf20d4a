-- The tree of places that an operation asks for.
use Rattle.std.specs.Prelude.{◌≡◌, ◌<◌, ◌≤◌, ℕ, List, [], length, Option, Some, None, slice_get, unwrap_or, Result, Ok, Err, ⊤}
use Rattle.gql_reader.specs.declared.tree.OperationDefinition.{OperationDefinition}
use Rattle.gql_reader.specs.declared.tree.OperationKind.{OperationKind}
use Rattle.gql_reader.specs.declared.tree.OperationKind.TheVariants as kind
use Rattle.gql_reader.specs.declared.tree.Definition.{Definition}
use Rattle.gql_reader.specs.declared.tree.Definition.TheVariants as definition
use Rattle.gql_reader.specs.declared.tree.Document.{Document}
use Rattle.pg_base.specs.Schema.{SchemaParts}
use Rattle.pg_base.specs.declared.vars.Vars.{Vars}
use Rattle.pg_base.specs.Limits.{most_places}
use Rattle.place_tree.specs.declared.place.Tree.{Tree}
use Rattle.gql_collect.specs.declared.fault.CollectFault.{CollectFault}
use Rattle.gql_collect.specs.declared.fault.CollectFault.TheVariants.{TooMany, Memory}
use Rattle.gql_collect.specs.Collected.{Request}
use Rattle.gql_collect.specs.Growing.{with_set}

-- one level more than a tree of so many places can have: a tree that goes on below has too many
abbrev pub levels : ℕ
levels = 2001

abbrev pub root_of : SchemaParts → OperationKind → ℕ
root_of schema kind.Mutation = unwrap_or schema.mutation schema.query
root_of schema kind.Query = schema.query
root_of schema kind.Subscription = schema.query

abbrev pub empty : Tree
empty = record { places = []; asked = [] }

abbrev pub request : SchemaParts → List Definition → Vars → Request
request schema definitions vars = record { schema = schema; definitions = definitions; vars = vars }

abbrev pub operation_tree : Request → OperationDefinition → Tree
operation_tree r o = with_set levels r None (root_of r.schema o.kind) o.selections empty

abbrev pub by_definition : Request → Option Definition → Tree
by_definition r (Some (definition.Operation o)) = operation_tree r o
by_definition r (Some (definition.Fragment f)) = empty
by_definition r (Some (definition.Foreign pos)) = empty
by_definition r None = empty

-- the tree of the operation at a place of the document
unfoldable pub tree_of : SchemaParts → Document → ℕ → Vars → Tree
tree_of schema document operation vars =
    by_definition (request schema document.definitions vars) (slice_get document.definitions operation)

-- ---- what the call answers

-- the tree, or that it has too many places, exactly where it has
abbrev pub Gives : Tree → Result Tree CollectFault → Type 0
Gives tree (Ok made) = (made ≡ tree) × (length tree.places ≤ most_places)
Gives tree (Err TooMany) = most_places < length tree.places
Gives tree (Err Memory) = ⊤
