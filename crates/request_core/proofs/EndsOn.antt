-- What follows from how a request ends: where more is known of its refusals and of what is accepted.
use Rattle.std.proofs.Common.{◌≡◌, ◌⊎◌, inl, inr, ℕ, List, Option, Some, None, Result, Ok, Err, slice_get, refl}
use Rattle.serde_json.specs.Data.{Data}
use Rattle.pg_base.specs.Schema.{SchemaParts}
use Rattle.pg_base.specs.declared.vars.Vars.{Vars}
use Rattle.gql_reader.specs.declared.tree.Definition.{Definition}
use Rattle.gql_reader.specs.declared.tree.Definition.TheVariants as definition
use Rattle.gql_reader.specs.declared.tree.Document.{Document}
use Rattle.gql_reader.specs.declared.tree.OperationDefinition.{OperationDefinition}
use Rattle.gql_reader.specs.declared.tree.OperationKind.{OperationKind}
use Rattle.gql_reader.specs.declared.tree.OperationKind.TheVariants as kind
use Rattle.gql_rules.specs.Rules.{IsValidDocument}
use Rattle.gql_input.specs.declared.fault.VarFault.{VarFault}
use Rattle.gql_input.specs.Chosen.{chosen}
use Rattle.gql_input.specs.Coerced.{coerced}
use Rattle.request_core.specs.Refusals.{bad_body, read_refusal, rule_refusal, no_operation, no_mutation, variable_refusal}
use Rattle.request_core.specs.Request.{Request, AfterVariables, WithKind, WithOperation, AfterChoice, AfterReading, AfterBody, Ends}

-- an operation is no mutation
abbrev pub IsAsking : OperationKind → Type 0
IsAsking k = (k ≡ kind.Query) ⊎ (k ≡ kind.Subscription)

-- the operation stands at the place of a valid document, and has these variables
pub record IsAsked (schema : SchemaParts) (read : Document) (place : ℕ) (vars : Vars) : Type 0 where
  pub operation : OperationDefinition
  pub given : Data
  pub valid : IsValidDocument schema read
  pub stands : slice_get read.definitions place ≡ Some (definition.Operation operation)
  pub asking : IsAsking operation.kind
  pub variables : coerced schema operation given ≡ Ok vars

module _ (schema : SchemaParts) (R S : List ℕ → Type 0) (refused : (text : List ℕ) → R text → S text) where
  variables_on : (A B : Vars → Type 0) (coercion : Result Vars VarFault) → ((vars : Vars) → coercion ≡ Ok vars → A vars → B vars)
      → AfterVariables R A coercion → AfterVariables S B coercion
  variables_on A B (Ok vars) accepted a = accepted vars refl a
  variables_on A B (Err fault) accepted a = refused (variable_refusal fault) a

  kind_on : (A B : Vars → Type 0) (coercion : Result Vars VarFault) (k : OperationKind) → ((vars : Vars) → IsAsking k → coercion ≡ Ok vars → A vars → B vars)
      → WithKind R A coercion k → WithKind S B coercion k
  kind_on A B coercion kind.Query accepted a = variables_on A B coercion (λ vars. accepted vars (inl refl)) a
  kind_on A B coercion kind.Mutation accepted a = refused no_mutation a
  kind_on A B coercion kind.Subscription accepted a = variables_on A B coercion (λ vars. accepted vars (inr refl)) a

  pub operation_on : (given : Data) (A B : Vars → Type 0) (found : Option Definition)
      → ((o : OperationDefinition) (vars : Vars) → found ≡ Some (definition.Operation o) → IsAsking o.kind → coerced schema o given ≡ Ok vars → A vars → B vars)
      → WithOperation schema given R A found → WithOperation schema given S B found
  operation_on given A B (Some (definition.Operation o)) accepted a = kind_on A B (coerced schema o given) o.kind (λ vars. accepted o vars refl) a
  operation_on given A B (Some (definition.Fragment f)) accepted a = refused no_operation a
  operation_on given A B (Some (definition.Foreign pos)) accepted a = refused no_operation a
  operation_on given A B None accepted a = refused no_operation a

  choice_on : (given : Data) (read : Document) → IsValidDocument schema read → (A B : ℕ → Vars → Type 0) → ((place : ℕ) (vars : Vars) → IsAsked schema read place vars → A place vars → B place vars)
      → (place : Option ℕ) → AfterChoice schema given read R A place → AfterChoice schema given read S B place
  choice_on given read valid A B accepted None a = refused no_operation a
  choice_on given read valid A B accepted (Some place) a =
      operation_on given (A place) (B place) (slice_get read.definitions place)
      (λ o vars stands asking variables. accepted place vars (record { operation = o; given = given; valid = valid; stands = stands; asking = asking; variables = variables })) a

  reading_on : (operation : Option (List ℕ)) (given : Data) (read : Document) (A B : ℕ → Vars → Type 0) → ((place : ℕ) (vars : Vars) → IsAsked schema read place vars → A place vars → B place vars)
      → AfterReading schema operation given R A read → AfterReading schema operation given S B read
  reading_on operation given read A B accepted (inl a) = inl (record { fault = a.fault; first = a.first; refused = refused (rule_refusal a.fault) a.refused })
  reading_on operation given read A B accepted (inr a) =
      inr (record { valid = a.valid; next = choice_on given read a.valid A B accepted (chosen read operation) a.next })

  module _ (request : Request) (A B : Document → ℕ → Vars → Type 0)
      (accepted : (read : Document) (place : ℕ) (vars : Vars) → IsAsked schema read place vars → A read place vars → B read place vars) where
    pub body_on : (given : Data) → AfterBody schema request R A given → AfterBody schema request S B given
    body_on given (inl a) = inl (record { fault = a.fault; fails = a.fails; refused = refused (read_refusal a.fault) a.refused })
    body_on given (inr a) =
        inr (record { read = a.read; reads = a.reads; next = reading_on request.operation given a.read (A a.read) (B a.read) (accepted a.read) a.next })

    pub ends_on : Ends schema request R A → Ends schema request S B
    ends_on (inl a) = inl (record { none = a.none; refused = refused bad_body a.refused })
    ends_on (inr a) = inr (record { given = a.given; gives = a.gives; next = body_on a.given a.next })

-- ---- what holds of each end

module _ (C : Type 0) (schema : SchemaParts) where
  abbrev Refused : List ℕ → Type 0
  Refused text = C

  abbrev Accepted : Vars → Type 0
  Accepted vars = C

  variables_all : (coercion : Result Vars VarFault) → AfterVariables Refused Accepted coercion → C
  variables_all (Ok vars) a = a
  variables_all (Err fault) a = a

  kind_all : (coercion : Result Vars VarFault) (k : OperationKind) → WithKind Refused Accepted coercion k → C
  kind_all coercion kind.Query a = variables_all coercion a
  kind_all coercion kind.Mutation a = a
  kind_all coercion kind.Subscription a = variables_all coercion a

  operation_all : (given : Data) (found : Option Definition) → WithOperation schema given Refused Accepted found → C
  operation_all given (Some (definition.Operation o)) a = kind_all (coerced schema o given) o.kind a
  operation_all given (Some (definition.Fragment f)) a = a
  operation_all given (Some (definition.Foreign pos)) a = a
  operation_all given None a = a

  choice_all : (given : Data) (read : Document) (place : Option ℕ) → AfterChoice schema given read Refused (λ at. Accepted) place → C
  choice_all given read None a = a
  choice_all given read (Some place) a = operation_all given (slice_get read.definitions place) a

  reading_all : (operation : Option (List ℕ)) (given : Data) (read : Document) → AfterReading schema operation given Refused (λ at. Accepted) read → C
  reading_all operation given read (inl a) = a.refused
  reading_all operation given read (inr a) = choice_all given read (chosen read operation) a.next

  pub body_all : (request : Request) (given : Data) → AfterBody schema request Refused (λ read at. Accepted) given → C
  body_all request given (inl a) = a.refused
  body_all request given (inr a) = reading_all request.operation given a.read a.next

  pub ends_all : (request : Request) → Ends schema request Refused (λ read at. Accepted) → C
  ends_all request (inl a) = a.refused
  ends_all request (inr a) = body_all request a.given a.next
