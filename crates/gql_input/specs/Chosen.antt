-- The operation of a request: GetOperation, section 6.1 of the GraphQL specification (October 2021).
use Rattle.std.specs.Prelude.{ℕ, ◌+◌, Bool, true, false, if◌then◌else◌, List, drop, Option, Some, None, position}
use Rattle.std.specs.Str.{bytes_eq}
use Rattle.std.specs.List.{list_any}
use Rattle.gql_reader.specs.declared.tree.Definition.{Definition}
use Rattle.gql_reader.specs.declared.tree.Definition.TheVariants as definition
use Rattle.gql_reader.specs.declared.tree.Document.{Document}

abbrev pub is_named : Option (List ℕ) → List ℕ → Bool
is_named None name = false
is_named (Some other) name = bytes_eq other name

-- an operation with the name
abbrev pub is_operation_named : List ℕ → Definition → Bool
is_operation_named name (definition.Operation o) = is_named o.name name
is_operation_named name (definition.Fragment f) = false
is_operation_named name (definition.Foreign pos) = false

abbrev pub is_operation : Definition → Bool
is_operation (definition.Operation o) = true
is_operation (definition.Fragment f) = false
is_operation (definition.Foreign pos) = false

-- the place of the only operation: the first, where no other comes after it
abbrev pub if_last : List Definition → Option ℕ → Option ℕ
if_last definitions None = None
if_last definitions (Some place) =
    if list_any is_operation (drop (place + 1) definitions) then None else Some place

abbrev pub single : List Definition → Option ℕ
single definitions = if_last definitions (position is_operation definitions)

-- the place of the operation with the name, or without a name of the only operation
abbrev pub chosen : Document → Option (List ℕ) → Option ℕ
chosen document (Some name) = position (is_operation_named name) document.definitions
chosen document None = single document.definitions
