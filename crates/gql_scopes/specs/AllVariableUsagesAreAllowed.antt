-- 5.8.5 All Variable Usages Are Allowed.
use Rattle.std.specs.Prelude.{ℕ, ◌==◌, Bool, false, ◌&&◌, ◌||◌, not, List, Option, IsTrue, IsSomeAnd}
use Rattle.pg_base.specs.Schema.{SchemaParts}
use Rattle.gql_reader.specs.declared.tree.Value as tree
use Rattle.gql_reader.specs.declared.tree.Document.{Document}
use Rattle.gql_reader.specs.declared.tree.VariableDefinition.{VariableDefinition}
use Rattle.gql_types.specs.Types.{Ty, named, list_of, is_not_null, ty_written}
use Rattle.gql_nodes.specs.Nodes.{At}
use Rattle.gql_nodes.specs.Uses.{variable_in, variable_name, ReachingOperation}
use Rattle.gql_scopes.specs.Conditions.{if_some}
use Rattle.gql_scopes.specs.InputObjectRequiredFields.{is_null}
use Rattle.gql_scopes.specs.SortFacts.{OfValue}

-- a type that may be null stands only where null may
abbrev pub null_fits : Bool → Bool → Bool
null_fits not_null expected = not_null || not expected

-- the variable's type at the type of the position, but that the variable may be null as a whole
abbrev pub are_compatible_but_null : Ty → Ty → Bool
are_compatible_but_null (named name a) (named place b) = name == place
are_compatible_but_null (named name a) (list_of item b) = false
are_compatible_but_null (list_of item a) (named place b) = false
are_compatible_but_null (list_of item a) (list_of other b) =
    are_compatible_but_null item other && null_fits (is_not_null item) (is_not_null other)

-- AreTypesCompatible
abbrev pub are_compatible : Ty → Ty → Bool
are_compatible ty place = are_compatible_but_null ty place && null_fits (is_not_null ty) (is_not_null place)

abbrev pub has_default : Option tree.Value → Bool
has_default default = if_some (λ v. not (is_null v.kind)) default

-- IsVariableUsageAllowed: a default other than null makes up for a type that may be null
abbrev pub is_allowed : Option tree.Value → Ty → Ty → Bool
is_allowed default ty place = are_compatible ty place || (has_default default && are_compatible_but_null ty place)

abbrev pub is_refused : SchemaParts → Ty → VariableDefinition → Bool
is_refused schema place v = if_some (λ ty. not (is_allowed v.default ty place)) (ty_written schema v.ty)

-- in an operation that reaches the use, the variable's type doesn't allow it there
abbrev pub IsMisused : SchemaParts → Document → List At → ℕ → Ty → List ℕ → Type 0
IsMisused schema document nodes within place name =
    ReachingOperation nodes document (λ o. IsTrue (if_some (is_refused schema place) (variable_in o name))) within

abbrev pub Breaks : SchemaParts → Document → List At → At → Type 0
Breaks schema document nodes x =
    OfValue (λ ty kind. IsSomeAnd ty (λ place.
    IsSomeAnd (variable_name kind) (IsMisused schema document nodes x.within place))) x.node
