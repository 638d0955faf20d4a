-- The same definitions over the lists that the code goes through.
use Rattle.std.specs.Prelude.{List, [], ◌∷◌, Ok, unwrap_or}
use Rattle.gql_reader.specs.declared.tree.Value as tree
use Rattle.gql_reader.specs.declared.tree.ObjectField.{ObjectField}
use Rattle.pg_base.specs.declared.value.Value.{Value}
use Rattle.pg_base.specs.declared.value.Value.TheVariants as value
use Rattle.pg_base.specs.declared.value.Member.{Member}
use Rattle.pg_base.specs.declared.vars.Vars.{Vars}
use Rattle.pg_base.specs.Schema.{SchemaParts}
use Rattle.gql_types.specs.Types.{Ty}
use Rattle.gql_input.specs.declared.argument.ArgValue.{ArgValue}
use Rattle.gql_input.specs.declared.argument.ArgMember.{ArgMember}
use Rattle.gql_input.specs.Arguments.{value_with, and_given}
use Rattle.gql_input.specs.Coercions.{Coercion, Given, and_more}
use Rattle.gql_input.specs.Literals.{literal_at}

-- ---- values with variables

abbrev pub each_value : Vars → List ArgValue → List Value
each_value vars [] = []
each_value vars (v ∷ items) = unwrap_or (value_with vars v) value.Null ∷ each_value vars items

abbrev pub each_member : Vars → List ArgMember → List Member
each_member vars [] = []
each_member vars (m ∷ members) = and_given m.name (value_with vars m.value) (each_member vars members)

-- ---- literals

abbrev pub each_literal : SchemaParts → List tree.Value → Ty → Coercion (List ArgValue)
each_literal schema [] ty = Ok []
each_literal schema (v ∷ items) ty = and_more (literal_at schema v.kind ty) (each_literal schema items ty)

abbrev pub each_field : SchemaParts → List ObjectField → List (Given ArgValue)
each_field schema [] = []
each_field schema (f ∷ fields) =
    record { name = f.name; at = literal_at schema f.value.kind } ∷ each_field schema fields
