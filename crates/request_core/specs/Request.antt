-- What a request asks for, and the order in which it may be refused (GraphQL October 2021, section 6.1): by its
-- variables as a text, its document, the rules, the choice of its operation, and the variables' values.
use Rattle.std.specs.Prelude.{◌≡◌, ◌⊎◌, ℕ, List, ◌++◌, Option, Some, None, option_map, slice_get, Result, Ok, Err, codes}
use Rattle.serde_json.specs.Data.{Data, null}
use Rattle.pg_base.specs.Schema.{SchemaParts}
use Rattle.pg_base.specs.declared.vars.Vars.{Vars}
use Rattle.gql_reader.specs.declared.fault.ReadFault.{ReadFault}
use Rattle.gql_reader.specs.declared.tree.Definition.{Definition}
use Rattle.gql_reader.specs.declared.tree.Definition.TheVariants as definition
use Rattle.gql_reader.specs.declared.tree.Document.{Document}
use Rattle.gql_reader.specs.declared.tree.OperationKind.{OperationKind}
use Rattle.gql_reader.specs.declared.tree.OperationKind.TheVariants as kind
use Rattle.gql_reader.specs.Document.{ReadsDocument, IsReadFault}
use Rattle.gql_nodes.specs.declared.fault.RuleFault.{RuleFault}
use Rattle.gql_rules.specs.Rules.{IsValidDocument, FirstRuleFault}
use Rattle.gql_input.specs.declared.fault.VarFault.{VarFault}
use Rattle.gql_input.specs.Body.{AreVariablesOf}
use Rattle.gql_input.specs.Chosen.{chosen}
use Rattle.gql_input.specs.Coerced.{coerced}
use Rattle.request_core.specs.Refusals.{bad_body, read_refusal, rule_refusal, no_operation, no_mutation, variable_refusal}
use Rattle.request_core.specs.declared.request.Request as code

-- the bytes of a document, the name of the operation where one is named, and the bytes that spell the variables
pub record Request : Type 0 where
  pub document : List ℕ
  pub operation : Option (List ℕ)
  pub variables : Option (List ℕ)

abbrev pub asked : List ℕ → Option (List ℕ) → Option (List ℕ) → Request
asked document operation variables =
    record { document = document; operation = operation; variables = variables }

-- the request that the code has
abbrev pub request_of : code.Request → Request
request_of r = asked r.document.now (option_map (λ n. n.now) r.operation) (option_map (λ b. b.now) r.variables)

-- what the variables' bytes give; without any it is null, which has no members
abbrev pub AreGiven : Option (List ℕ) → Data → Type 0
AreGiven None given = given ≡ null
AreGiven (Some bytes) given = AreVariablesOf bytes given

-- ---- one stage after the other: it refuses with a response, of which `Refused` holds, or goes on

-- the variables have values, or the first fault
abbrev pub AfterVariables : (List ℕ → Type 0) → (Vars → Type 0) → Result Vars VarFault → Type 0
AfterVariables Refused Accepted (Ok vars) = Accepted vars
AfterVariables Refused Accepted (Err fault) = Refused (variable_refusal fault)

-- a query goes on; a mutation isn't answered yet; a subscription keeps no rules
abbrev pub WithKind : (List ℕ → Type 0) → (Vars → Type 0) → Result Vars VarFault → OperationKind → Type 0
WithKind Refused Accepted coercion kind.Query = AfterVariables Refused Accepted coercion
WithKind Refused Accepted coercion kind.Mutation = Refused no_mutation
WithKind Refused Accepted coercion kind.Subscription = AfterVariables Refused Accepted coercion

abbrev pub WithOperation : SchemaParts → Data → (List ℕ → Type 0) → (Vars → Type 0) → Option Definition → Type 0
WithOperation schema given Refused Accepted (Some (definition.Operation o)) =
    WithKind Refused Accepted (coerced schema o given) o.kind
WithOperation schema given Refused Accepted (Some (definition.Fragment f)) = Refused no_operation
WithOperation schema given Refused Accepted (Some (definition.Foreign pos)) = Refused no_operation
WithOperation schema given Refused Accepted None = Refused no_operation

-- the operation is there, at this place of the document
abbrev pub AfterChoice :
    SchemaParts → Data → Document → (List ℕ → Type 0) → (ℕ → Vars → Type 0) → Option ℕ → Type 0
AfterChoice schema given read Refused Accepted None = Refused no_operation
AfterChoice schema given read Refused Accepted (Some place) =
    WithOperation schema given Refused (Accepted place) (slice_get read.definitions place)

-- the document breaks a rule, or keeps all
pub record BreaksRule (schema : SchemaParts) (read : Document) (Refused : List ℕ → Type 0) : Type 0 where
  pub fault : RuleFault
  pub first : FirstRuleFault schema read fault
  pub refused : Refused (rule_refusal fault)

pub record KeepsRules (schema : SchemaParts) (read : Document) (Next : Type 0) : Type 0 where
  pub valid : IsValidDocument schema read
  pub next : Next

abbrev pub AfterReading :
    SchemaParts → Option (List ℕ) → Data → (List ℕ → Type 0) → (ℕ → Vars → Type 0) → Document → Type 0
AfterReading schema operation given Refused Accepted read =
    BreaksRule schema read Refused
    ⊎ KeepsRules schema read (AfterChoice schema given read Refused Accepted (chosen read operation))

-- the bytes are no document, or one
pub record IsUnread (document : List ℕ) (Refused : List ℕ → Type 0) : Type 0 where
  pub fault : ReadFault
  pub fails : IsReadFault document fault
  pub refused : Refused (read_refusal fault)

pub record IsRead (document : List ℕ) (Next : Document → Type 0) : Type 0 where
  pub read : Document
  pub reads : ReadsDocument document read
  pub next : Next read

abbrev pub AfterBody :
    SchemaParts → Request → (List ℕ → Type 0) → (Document → ℕ → Vars → Type 0) → Data → Type 0
AfterBody schema request Refused Accepted given =
    IsUnread request.document Refused
    ⊎ IsRead request.document (λ read. AfterReading schema request.operation given Refused (Accepted read) read)

-- the bytes of the variables spell none, or some
pub record IsBad (variables : Option (List ℕ)) (Refused : List ℕ → Type 0) : Type 0 where
  pub none : (given : Data) → ¬ (AreGiven variables given)
  pub refused : Refused bad_body

pub record IsGood (variables : Option (List ℕ)) (Next : Data → Type 0) : Type 0 where
  pub given : Data
  pub gives : AreGiven variables given
  pub next : Next given

-- a request is refused with a response of which this holds, or it is accepted, and this holds of its document, the
-- place of its operation in it, and its variables
abbrev pub Ends : SchemaParts → Request → (List ℕ → Type 0) → (Document → ℕ → Vars → Type 0) → Type 0
Ends schema request Refused Accepted =
    IsBad request.variables Refused
    ⊎ IsGood request.variables (AfterBody schema request Refused Accepted)
