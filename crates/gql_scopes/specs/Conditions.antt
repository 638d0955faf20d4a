-- Type conditions of fragments and inline fragments (section 2.8 of the GraphQL specification, October 2021).
use Rattle.std.specs.Prelude.{ℕ, Bool, false, ◌||◌, List, Option, Some, None, option_map}
use Rattle.gql_reader.specs.declared.tree.Definition.{Definition}
use Rattle.gql_nodes.specs.Nodes.{Node}
use Rattle.gql_nodes.specs.Uses.{as_fragment}
use Rattle.gql_nodes.specs.Sorts.{on_definition}
use Rattle.gql_scopes.specs.Sorts.{on_inline}

abbrev pub if_some : {A : Type 0} → (A → Bool) → Option A → Bool
if_some test None = false
if_some test (Some x) = test x

abbrev pub definition_condition : Definition → Option (List ℕ)
definition_condition d = option_map (λ f. f.type_condition) (as_fragment d)

-- a test of the node's type condition, where it has one
abbrev pub condition : (List ℕ → Bool) → Node → Bool
condition test x =
    on_definition (λ repeated d. if_some test (definition_condition d)) x
    || on_inline (λ parent i. if_some test i.type_condition) x
