-- Values of arguments with their variables: CoerceArgumentValues, section 6.4.1 of the GraphQL specification (October
-- 2021). An argument or a field whose variable has no entry isn't given; in a list such a variable is null.
use Rattle.std.specs.Prelude.{ℕ, List, [], ◌∷◌, Option, Some, None, unwrap_or}
use Rattle.pg_base.specs.declared.value.Value.{Value}
use Rattle.pg_base.specs.declared.value.Value.TheVariants as value
use Rattle.pg_base.specs.declared.value.Member.{Member}
use Rattle.pg_base.specs.declared.vars.Vars.{Vars}
use Rattle.pg_base.specs.Vars.{variable}
use Rattle.gql_input.specs.declared.argument.ArgValue.{ArgValue, Variable, Null, Int, Bool, Text, Case, List', Object'}
use Rattle.gql_input.specs.declared.argument.ArgValue.{Row_of-ArgValue, end_of-ArgValue, more_of-ArgValue}
use Rattle.gql_input.specs.declared.argument.ArgValue.{Row_of-ArgMember, end_of-ArgMember, more_of-ArgMember}

abbrev pub and_given : List ℕ → Option Value → List Member → List Member
and_given name None rest = rest
and_given name (Some v) rest = record { name = name; value = v } ∷ rest

abbrev mutual
  pub value_with : Vars → ArgValue → Option Value
  value_with vars (Variable name) = variable vars name
  value_with vars Null = Some value.Null
  value_with vars (Int z) = Some (value.Int z)
  value_with vars (Bool b) = Some (value.Bool b)
  value_with vars (Text t) = Some (value.Text t)
  value_with vars (Case name) = Some (value.Case name)
  value_with vars (List' _ items) = Some (value.List (values_with vars items))
  value_with vars (Object' _ members) = Some (value.Object (members_with vars members))

  pub values_with : {n : _} → Vars → Row_of-ArgValue n → List Value
  values_with vars end_of-ArgValue = []
  values_with vars (more_of-ArgValue v rest) = unwrap_or (value_with vars v) value.Null ∷ values_with vars rest

  pub members_with : {n : _} → Vars → Row_of-ArgMember n → List Member
  members_with vars end_of-ArgMember = []
  members_with vars (more_of-ArgMember name v rest) = and_given name (value_with vars v) (members_with vars rest)

-- a value without variables
abbrev pub no_vars : Vars
no_vars = record { entries = [] }

abbrev pub constant : ArgValue → Value
constant v = unwrap_or (value_with no_vars v) value.Null
