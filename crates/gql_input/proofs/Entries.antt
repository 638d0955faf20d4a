-- The entries of variables, one after the other.
use Rattle.std.proofs.Common.{◌≡◌, ℕ, ◌<◌, ◌+◌, List, Result, Err, length, get_or, drop, sym, ap, subst, ◌∙◌}
use Rattle.serde_json.specs.Data.{Data}
use Rattle.pg_base.proofs.ListSteps.{drop-item}
use Rattle.pg_base.specs.Schema.{SchemaParts}
use Rattle.pg_base.specs.declared.vars.Variable.{Variable}
use Rattle.gql_reader.specs.declared.tree.OperationDefinition.{OperationDefinition}
use Rattle.gql_reader.specs.declared.tree.VariableDefinition.{VariableDefinition}
use Rattle.gql_input.specs.declared.fault.VarError.{VarError}
use Rattle.gql_input.specs.declared.fault.VarError.TheVariants as error
use Rattle.gql_input.specs.declared.fault.VarFault.{VarFault}
use Rattle.gql_input.specs.Coerced.{AnswersVars, named, entry_of, entries_of, as_vars, coerced}
use Rattle.gql_input.proofs.Turns.{joined, vars_fault}

as_vars_fault : (due : Result (List Variable) VarFault) (e : VarError) → AnswersVars {V = List Variable} due (Err e) → AnswersVars (as_vars due) (Err e)
as_vars_fault due (error.Fault fault) h = ap as_vars h
as_vars_fault due error.Memory h = tt

-- a variable's fault is that of the operation
pub entry_fault : (schema : SchemaParts) (operation : OperationDefinition) (given : Data) (variables : List VariableDefinition) (i : ℕ) (v : VariableDefinition) (done : List Variable) (e : VarError)
    → variables ≡ operation.variables → i < length variables → v ≡ get_or variables i v
    → joined done (entries_of schema given (drop i variables)) ≡ entries_of schema given variables
    → AnswersVars (named v (entry_of schema v given)) (Err e) → AnswersVars (coerced schema operation given) (Err e)
entry_fault schema operation given variables i v done e same lt is before h =
    let step = ap (λ l. joined done (entries_of schema given l)) (sym (drop-item variables i v lt is)) ∙ before in
    let whole : AnswersVars (entries_of schema given variables) (Err e) = vars_fault done (named v (entry_of schema v given)) (entries_of schema given (drop (i + 1) variables)) (entries_of schema given variables) e step h in
    subst (λ vs. AnswersVars (as_vars (entries_of schema given vs)) (Err e)) same (as_vars_fault (entries_of schema given variables) e whole)
