-- The text of a response that has one error and no data (GraphQL October 2021, sections 7.1.2 and 7.2), and the
-- messages of refusals.
use Rattle.std.specs.Prelude.{ℕ, pos, List, ◌++◌, codes, ◌==◌, if◌then◌else◌}
use Rattle.json_out.specs.JsonText.{json_text, json_int}
use Rattle.pg_base.specs.declared.pos.Pos.{Pos}
use Rattle.gql_reader.specs.declared.fault.ReadFault.{ReadFault}
use Rattle.gql_reader.specs.declared.fault.ReadFault.TheVariants as read
use Rattle.gql_reader.specs.Faults.{lexical_fault, syntax_fault, too_deep}
use Rattle.gql_nodes.specs.declared.fault.RuleFault.{RuleFault}
use Rattle.gql_input.specs.declared.fault.VarFault.{VarFault}
use Rattle.request_core.specs.RuleMessages.{rule_message}

abbrev pub opened : List ℕ → List ℕ
opened message = codes "{\"errors\":[{\"message\":" ++ json_text message

abbrev pub labelled : List ℕ → ℕ → List ℕ
labelled label n = label ++ json_int (pos n)

-- where an error stands in the document
abbrev pub location : Pos → List ℕ
location at = labelled (codes ",\"locations\":[{\"line\":") at.line
    ++ (labelled (codes ",\"column\":") at.column ++ codes "}]")

-- an error that stands nowhere in the document
unfoldable pub refusal : List ℕ → List ℕ
refusal message = opened message ++ codes "}]}"

unfoldable pub refusal_at : List ℕ → Pos → List ℕ
refusal_at message at = opened message ++ (location at ++ codes "}]}")

-- ---- messages

-- of a fault of reading, by its number
abbrev pub read_message : ℕ → List ℕ
read_message which =
    if which == lexical_fault then codes "document lexical fault"
    else (if which == syntax_fault then codes "document syntax fault"
    else (if which == too_deep then codes "document too deep" else codes "document has too many tokens"))

-- of a fault of a variable's value, by its number
abbrev pub value_message : ℕ → List ℕ
value_message which =
    if which == 1 then codes "missing"
    else (if which == 2 then codes "null"
    else (if which == 3 then codes "wrong kind"
    else (if which == 4 then codes "out of range" else codes "unknown input field")))

abbrev pub variable_message : List ℕ → ℕ → List ℕ
variable_message name which = codes "variable $" ++ (name ++ (codes ": " ++ value_message which))

-- ---- the refusals, in their order

-- the variables' bytes are no JSON object or null
abbrev pub bad_body : List ℕ
bad_body = refusal (codes "bad request body")

-- the bytes are no document
abbrev pub read_refusal : ReadFault → List ℕ
read_refusal (read.At which at) = refusal_at (read_message which) at
read_refusal read.Memory = refusal_at (read_message 0) (record { line = 1; column = 1 })

-- the document breaks a rule
abbrev pub rule_refusal : RuleFault → List ℕ
rule_refusal fault = refusal_at (rule_message fault.rule) fault.pos

-- the operation isn't there
abbrev pub no_operation : List ℕ
no_operation = refusal (codes "no such operation")

-- the operation is a mutation, and these aren't answered yet
abbrev pub no_mutation : List ℕ
no_mutation = refusal (codes "mutations are not built")

-- a variable's value isn't one of its type
abbrev pub variable_refusal : VarFault → List ℕ
variable_refusal fault = refusal_at (variable_message fault.name fault.which) fault.pos

-- the tree has too many places
abbrev pub too_many : List ℕ
too_many = refusal (codes "too many fields")

-- too many rows are visited, or the text is too long
abbrev pub too_large : List ℕ
too_large = refusal (codes "answer too large")

-- the store failed
abbrev pub storage_fault : List ℕ
storage_fault = refusal (codes "storage fault")
