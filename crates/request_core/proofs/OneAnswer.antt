-- A script gives one thing or one fault, and a request over it has one answer or none.
use Rattle.std.proofs.Common.{◌≡◌, ◌⊎◌, inl, inr, ℕ, List, Option, Some, None, Result, Ok, Err, slice_get, sym, ap, subst, ◌∙◌}
use Rattle.serde_json.specs.Data.{Data}
use Rattle.pg_base.specs.Schema.{SchemaParts}
use Rattle.pg_base.specs.declared.vars.Vars.{Vars}
use Rattle.pg_base.specs.Base.{BaseParts}
use Rattle.pg_base.specs.SchemaOf.{schema_of}
use Rattle.pg_base.specs.SchemaFaults.{build_fault}
use Rattle.pg_base.specs.declared.build_fault.BuildFault.{BuildFault}
use Rattle.rel_model.specs.declared.tables.Tables.{Tables}
use Rattle.gql_lex.specs.Lex.{lexed}
use Rattle.gql_reader.specs.Document.{lexemes, ReadsDocument, IsReadFault}
use Rattle.gql_reader.specs.declared.fault.ReadFault.{ReadFault}
use Rattle.gql_reader.specs.declared.tree.Definition.{Definition}
use Rattle.gql_reader.specs.declared.tree.Definition.TheVariants as definition
use Rattle.gql_reader.specs.declared.tree.Document.{Document}
use Rattle.gql_reader.specs.declared.tree.OperationKind.{OperationKind}
use Rattle.gql_reader.specs.declared.tree.OperationKind.TheVariants as kind
use Rattle.gql_reader.proofs.Documents.{one_document, one_fault, never_document_and_fault}
use Rattle.gql_rules.proofs.OneFault.{one_fault as one_rule_fault, never_valid_and_fault}
use Rattle.gql_input.specs.declared.fault.VarFault.{VarFault}
use Rattle.gql_input.specs.Chosen.{chosen}
use Rattle.gql_input.specs.Coerced.{coerced}
use Rattle.ddl_reader.specs.declared.script.Script.{Script}
use Rattle.ddl_reader.proofs.OneScript.{one_script, no_fault}
use Rattle.rows_reader.specs.declared.fault.RowsFault.{RowsFault}
use Rattle.rows_reader.specs.Loaded.{rows_of}
use Rattle.request_core.specs.declared.loading.LoadFault.{LoadFault}
use Rattle.request_core.specs.declared.loading.LoadFault.TheVariants as load
use Rattle.request_core.specs.Refusals.{bad_body, read_refusal, rule_refusal, no_operation, no_mutation, variable_refusal}
use Rattle.request_core.specs.Request.{Request, AreGiven, AfterVariables, WithKind, WithOperation, AfterChoice, AfterReading, AfterBody, Ends}
use Rattle.request_core.specs.Answer.{IsAnswer, Executes}
use Rattle.request_core.specs.Load.{Loads, IsLoadFault}

-- ---- scripts

abbrev base_by : Script → BaseParts
base_by s = record { catalog = s.catalog; schema = schema_of s.catalog }

abbrev loaded : Tables → Result Tables RowsFault
loaded t = Ok t

loaded_injective : (t u : Tables) → loaded t ≡ loaded u → t ≡ u
loaded_injective t u e = cc

pub loads_once : (bytes : List ℕ) (base other : BaseParts) (tables more : Tables) → Loads bytes base tables → Loads bytes other more → (base ≡ other) × (tables ≡ more)
loads_once bytes base other tables more a b =
    let same = one_script bytes a.script b.script a.reads b.reads in
    let rows = sym a.rows ∙ ap (λ (s : Script). rows_of s.catalog s.rows) same ∙ b.rows in
    (a.based ∙ ap base_by same ∙ sym b.based, loaded_injective tables more rows)

pub loads_no_fault : (bytes : List ℕ) (base : BaseParts) (tables : Tables) (f : LoadFault) → Loads bytes base tables → IsLoadFault bytes f → ⊥
loads_no_fault bytes base tables (load.Script f) a x = no_fault bytes a.script f a.reads x
loads_no_fault bytes base tables (load.Schema f) a x =
    let same = one_script bytes a.script x.script a.reads x.reads in
    let none = sym a.faultless ∙ ap (λ (s : Script). build_fault s.catalog) same ∙ x.fails in
    cc
loads_no_fault bytes base tables (load.Rows f) a x =
    let same = one_script bytes a.script x.script a.reads x.reads in
    let both = sym a.rows ∙ ap (λ (s : Script). rows_of s.catalog s.rows) same ∙ x.fails in
    cc

-- ---- documents

abbrev DocumentOf : List ℕ → Document → Type 0
DocumentOf bytes d = ReadsDocument bytes d

same_document : (bytes : List ℕ) (d e : Document) → ReadsDocument bytes d → ReadsDocument bytes e → d ≡ e
same_document bytes = one_document (lexemes bytes) (lexed bytes).ending

same_fault : (bytes : List ℕ) (f g : ReadFault) → IsReadFault bytes f → IsReadFault bytes g → f ≡ g
same_fault bytes = one_fault (lexemes bytes) (lexed bytes).ending

never_both : (bytes : List ℕ) (d : Document) (f : ReadFault) → ReadsDocument bytes d → IsReadFault bytes f → ⊥
never_both bytes = never_document_and_fault (lexemes bytes) (lexed bytes).ending

-- ---- requests

some_data : (d e : Data) → Some d ≡ Some e → d ≡ e
some_data d e same = cc

same_given : (variables : Option (List ℕ)) (d e : Data) → AreGiven variables d → AreGiven variables e → d ≡ e
same_given None d e a b = a ∙ sym b
same_given (Some bytes) d e a b = some_data d e (sym a.read_as ∙ b.read_as)

-- what two ends of one request say together
module _ (C : Type 0) (schema : SchemaParts) (R S : List ℕ → Type 0) (refused : (text : List ℕ) → R text → S text → C) where
  variables_both : (A B : Vars → Type 0) → ((vars : Vars) → A vars → B vars → C) → (coercion : Result Vars VarFault)
      → AfterVariables R A coercion → AfterVariables S B coercion → C
  variables_both A B accepted (Ok vars) a b = accepted vars a b
  variables_both A B accepted (Err fault) a b = refused (variable_refusal fault) a b

  kind_both : (A B : Vars → Type 0) → ((vars : Vars) → A vars → B vars → C) → (coercion : Result Vars VarFault) (k : OperationKind)
      → WithKind R A coercion k → WithKind S B coercion k → C
  kind_both A B accepted coercion kind.Query a b = variables_both A B accepted coercion a b
  kind_both A B accepted coercion kind.Mutation a b = refused no_mutation a b
  kind_both A B accepted coercion kind.Subscription a b = variables_both A B accepted coercion a b

  operation_both : (given : Data) (A B : Vars → Type 0) → ((vars : Vars) → A vars → B vars → C) → (found : Option Definition)
      → WithOperation schema given R A found → WithOperation schema given S B found → C
  operation_both given A B accepted (Some (definition.Operation o)) a b = kind_both A B accepted (coerced schema o given) o.kind a b
  operation_both given A B accepted (Some (definition.Fragment f)) a b = refused no_operation a b
  operation_both given A B accepted (Some (definition.Foreign pos)) a b = refused no_operation a b
  operation_both given A B accepted None a b = refused no_operation a b

  choice_both : (given : Data) (read : Document) (A B : ℕ → Vars → Type 0) → ((place : ℕ) (vars : Vars) → A place vars → B place vars → C) → (place : Option ℕ)
      → AfterChoice schema given read R A place → AfterChoice schema given read S B place → C
  choice_both given read A B accepted None a b = refused no_operation a b
  choice_both given read A B accepted (Some place) a b =
      operation_both given (A place) (B place) (accepted place) (slice_get read.definitions place) a b

  reading_both : (operation : Option (List ℕ)) (given : Data) (read : Document) (A B : ℕ → Vars → Type 0)
      → ((place : ℕ) (vars : Vars) → A place vars → B place vars → C) → AfterReading schema operation given R A read → AfterReading schema operation given S B read → C
  reading_both operation given read A B accepted (inl a) (inl b) =
      refused (rule_refusal b.fault) (subst (λ f. R (rule_refusal f)) (one_rule_fault schema read a.fault b.fault a.first b.first) a.refused) b.refused
  reading_both operation given read A B accepted (inl a) (inr b) = absurd (never_valid_and_fault schema read a.fault b.valid a.first)
  reading_both operation given read A B accepted (inr a) (inl b) = absurd (never_valid_and_fault schema read b.fault a.valid b.first)
  reading_both operation given read A B accepted (inr a) (inr b) = choice_both given read A B accepted (chosen read operation) a.next b.next

  module _ (request : Request) (A B : Document → ℕ → Vars → Type 0)
      (accepted : (read : Document) (place : ℕ) (vars : Vars) → A read place vars → B read place vars → C) where
    body_both : (given : Data) → AfterBody schema request R A given → AfterBody schema request S B given → C
    body_both given (inl a) (inl b) =
        refused (read_refusal b.fault) (subst (λ f. R (read_refusal f)) (same_fault request.document a.fault b.fault a.fails b.fails) a.refused) b.refused
    body_both given (inl a) (inr b) = absurd (never_both request.document b.read a.fault b.reads a.fails)
    body_both given (inr a) (inl b) = absurd (never_both request.document a.read b.fault a.reads b.fails)
    body_both given (inr a) (inr b) =
        reading_both request.operation given b.read (A b.read) (B b.read) (accepted b.read)
        (subst (λ d. AfterReading schema request.operation given R (A d) d) (same_document request.document a.read b.read a.reads b.reads) a.next) b.next

    pub ends_both : Ends schema request R A → Ends schema request S B → C
    ends_both (inl a) (inl b) = refused bad_body a.refused b.refused
    ends_both (inl a) (inr b) = absurd (a.none b.given b.gives)
    ends_both (inr a) (inl b) = absurd (b.none a.given a.gives)
    ends_both (inr a) (inr b) =
        body_both b.given (subst (λ d. AfterBody schema request R A d) (same_given request.variables a.given b.given a.gives b.gives) a.next) b.next

pub one_answer : (base : BaseParts) (tables : Tables) (request : Request) (text other : List ℕ) → IsAnswer base tables request text → IsAnswer base tables request other → text ≡ other
one_answer base tables request text other =
    ends_both (text ≡ other) base.schema (λ refused. text ≡ refused) (λ refused. other ≡ refused) (λ refused a b. a ∙ sym b) request
    (Executes base tables text) (Executes base tables other) (λ read place vars a b. a ∙ sym b)

pub loads_one_answer : (bytes : List ℕ) (request : Request) (base other : BaseParts) (tables more : Tables) (text answer : List ℕ) → Loads bytes base tables → Loads bytes other more
    → IsAnswer base tables request text → IsAnswer other more request answer → text ≡ answer
loads_one_answer bytes request base other tables more text answer a b x y =
    let same = loads_once bytes base other tables more a b in
    let z = subst (λ (k : BaseParts). IsAnswer k tables request text) same.0 x in
    let w = subst (λ (k : Tables). IsAnswer other k request text) same.1 z in
    one_answer other more request text answer w y
