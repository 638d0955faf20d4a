-- Lone anonymous operation (5.2.2.1).
use Rattle.std.specs.Prelude.{Bool, true, false, ◌&&◌, ◌||◌, if◌then◌else◌, is_none, List, [], ◌∷◌}
use Rattle.gql_reader.specs.declared.tree.Definition.{Definition}
use Rattle.gql_reader.specs.declared.tree.Definition.TheVariants as definition
use Rattle.gql_reader.specs.declared.tree.Document.{Document}
use Rattle.gql_nodes.specs.Nodes.{Node}
use Rattle.gql_nodes.specs.Sorts.{on_definition}

abbrev pub is_anonymous : Definition → Bool
is_anonymous (definition.Operation o) = is_none o.name
is_anonymous (definition.Fragment f) = false
is_anonymous (definition.Foreign pos) = false

abbrev pub is_operation : Definition → Bool
is_operation (definition.Operation o) = true
is_operation (definition.Fragment f) = false
is_operation (definition.Foreign pos) = false

-- one of the definitions is an operation and one stands before it, among these or before them
abbrev pub has_more : Bool → List Definition → Bool
has_more one [] = false
has_more one (d ∷ definitions) =
    if is_operation d then one || has_more true definitions else has_more one definitions

abbrev pub has_several : Document → Bool
has_several document = has_more false document.definitions

-- an operation without a name is the document's only one
abbrev pub breaks : Document → Node → Bool
breaks document = on_definition (λ repeated d. is_anonymous d && has_several document)
