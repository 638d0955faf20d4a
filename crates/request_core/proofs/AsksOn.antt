-- What follows from how a request ends, where more is known of the document that its text reads as, and of the operation
-- that its name chooses.
use Rattle.std.proofs.Common.{◌≡◌, ◌⊎◌, inl, inr, ℕ, List, Option, Some, None, slice_get, refl}
use Rattle.serde_json.specs.Data.{Data}
use Rattle.pg_base.specs.Schema.{SchemaParts}
use Rattle.pg_base.specs.declared.vars.Vars.{Vars}
use Rattle.gql_reader.specs.Document.{ReadsDocument}
use Rattle.gql_reader.specs.declared.tree.Document.{Document}
use Rattle.gql_rules.specs.Rules.{IsValidDocument}
use Rattle.gql_input.specs.Chosen.{chosen}
use Rattle.request_core.specs.Refusals.{read_refusal, rule_refusal, no_operation}
use Rattle.request_core.specs.Request.{Request, AfterChoice, AfterReading, AfterBody}
use Rattle.request_core.proofs.EndsOn.{IsAsked, operation_on}

-- the operation is the one that the request's name chooses in the document that its bytes read as
pub record IsAskedIn (schema : SchemaParts) (request : Request) (read : Document) (place : ℕ) (vars : Vars)
    : Type 0 where
  pub reads : ReadsDocument request.document read
  pub chosen_ : chosen read request.operation ≡ Some place
  pub asked : IsAsked schema read place vars

module _ (schema : SchemaParts) (R S : List ℕ → Type 0) (refused : (text : List ℕ) → R text → S text)
    (request : Request) (given : Data) (A B : Document → ℕ → Vars → Type 0)
    (accepted : (read : Document) (place : ℕ) (vars : Vars) → IsAskedIn schema request read place vars → A read place vars → B read place vars) where
  choice_in : (read : Document) → ReadsDocument request.document read → IsValidDocument schema read → (place : Option ℕ) → chosen read request.operation ≡ place
      → AfterChoice schema given read R (A read) place → AfterChoice schema given read S (B read) place
  choice_in read reads valid None e a = refused no_operation a
  choice_in read reads valid (Some place) e a =
      operation_on schema R S refused given (A read place) (B read place) (slice_get read.definitions place)
      (λ o vars stands asking variables. accepted read place vars (record {
        reads = reads;
        chosen_ = e;
        asked = record { operation = o; given = given; valid = valid; stands = stands; asking = asking; variables = variables };
      })) a

  rules_in : (read : Document) → ReadsDocument request.document read
      → AfterReading schema request.operation given R (A read) read → AfterReading schema request.operation given S (B read) read
  rules_in read reads (inl b) = inl (record { fault = b.fault; first = b.first; refused = refused (rule_refusal b.fault) b.refused })
  rules_in read reads (inr b) = inr (record { valid = b.valid; next = choice_in read reads b.valid (chosen read request.operation) refl b.next })

  pub asks_on : AfterBody schema request R A given → AfterBody schema request S B given
  asks_on (inl a) = inl (record { fault = a.fault; fails = a.fails; refused = refused (read_refusal a.fault) a.refused })
  asks_on (inr a) = inr (record { read = a.read; reads = a.reads; next = rules_in a.read a.reads a.next })
