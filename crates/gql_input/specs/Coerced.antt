-- The variables of an operation: CoerceVariableValues, section 6.1.2 of the GraphQL specification (October 2021).
use Rattle.std.specs.Prelude.{◌≡◌, ⊤, if◌then◌else◌, List, [], ◌∷◌, Option, Some, None, Result, Ok, Err}
use Rattle.serde_json.specs.Data.{Data}
use Rattle.serde_json.specs.Find.{get}
use Rattle.gql_reader.specs.declared.tree.Value as tree
use Rattle.gql_reader.specs.declared.tree.OperationDefinition.{OperationDefinition}
use Rattle.gql_reader.specs.declared.tree.VariableDefinition.{VariableDefinition}
use Rattle.pg_base.specs.declared.value.Value.{Value}
use Rattle.pg_base.specs.declared.vars.Variable.{Variable}
use Rattle.pg_base.specs.declared.vars.Vars.{Vars}
use Rattle.pg_base.specs.Schema.{SchemaParts}
use Rattle.gql_types.specs.Types.{Ty, ty_written, is_not_null}
use Rattle.gql_input.specs.declared.fault.VarFault.{VarFault}
use Rattle.gql_input.specs.declared.fault.VarError.{VarError}
use Rattle.gql_input.specs.declared.fault.VarError.TheVariants as error
use Rattle.gql_input.specs.declared.fault.InputError.{InputError}
use Rattle.gql_input.specs.declared.fault.InputError.TheVariants as input
use Rattle.gql_input.specs.Arguments.{constant}
use Rattle.gql_input.specs.Coercions.{Coercion, map_ok, and_some, missing}
use Rattle.gql_input.specs.Given.{given_at}
use Rattle.gql_input.specs.Literals.{literal_at}

-- ---- the entry of a variable, or none

-- where it isn't given: its default, and no entry where it has none and its type takes null
abbrev pub by_default : SchemaParts → Ty → Option tree.Value → Coercion (Option Value)
by_default schema ty (Some literal) = map_ok (λ v. Some (constant v)) (literal_at schema literal.kind ty)
by_default schema ty None = if is_not_null ty then Err missing else Ok None

abbrev pub entry_at : SchemaParts → Option tree.Value → Option Data → Ty → Coercion (Option Value)
entry_at schema default None ty = by_default schema ty default
entry_at schema default (Some d) ty = map_ok (λ v. Some v) (given_at schema d ty)

-- a variable has no entry where the schema doesn't have its type, which no valid document has
abbrev pub entry_if : SchemaParts → Option tree.Value → Option Data → Option Ty → Coercion (Option Value)
entry_if schema default given None = Ok None
entry_if schema default given (Some ty) = entry_at schema default given ty

abbrev pub entry_of : SchemaParts → VariableDefinition → Data → Coercion (Option Value)
entry_of schema v given = entry_if schema v.default (get v.name given) (ty_written schema v.ty)

-- ---- all entries

abbrev pub named : VariableDefinition → Coercion (Option Value) → Result (Option Variable) VarFault
named v (Err which) = Err (record { which = which; name = v.name; pos = v.pos })
named v (Ok None) = Ok None
named v (Ok (Some x)) = Ok (Some (record { name = v.name; value = x }))

-- the first fault in the order of definition
abbrev pub entries_of : SchemaParts → Data → List VariableDefinition → Result (List Variable) VarFault
entries_of schema given [] = Ok []
entries_of schema given (v ∷ variables) =
    and_some (named v (entry_of schema v given)) (entries_of schema given variables)

abbrev pub as_vars : Result (List Variable) VarFault → Result Vars VarFault
as_vars (Ok entries) = Ok (record { entries = entries })
as_vars (Err fault) = Err fault

-- the variables of an operation with what is given, or the fault of the first variable that has one
abbrev pub coerced : SchemaParts → OperationDefinition → Data → Result Vars VarFault
coerced schema operation given = as_vars (entries_of schema given operation.variables)

-- ---- answers

-- an answer is what is due, or that memory ran out
abbrev pub Answers : {V : Type 0} → Coercion V → Result V InputError → Type 0
Answers due (Ok v) = due ≡ Ok v
Answers due (Err (input.Fault which)) = due ≡ Err which
Answers due (Err input.Memory) = ⊤

abbrev pub AnswersVars : {V : Type 0} → Result V VarFault → Result V VarError → Type 0
AnswersVars due (Ok v) = due ≡ Ok v
AnswersVars due (Err (error.Fault fault)) = due ≡ Err fault
AnswersVars due (Err error.Memory) = ⊤
