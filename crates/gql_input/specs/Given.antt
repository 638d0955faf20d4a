-- What is given in JSON at the types of variables: CoerceVariableValues, section 6.1.2 of the GraphQL specification
-- (October 2021), over what the crate `serde_json` reads. A number that isn't an integer of signed 64 bits there, as
-- `5.0` or `1e2`, is of the wrong kind.
use Rattle.std.specs.Prelude.{ℕ, List, [], ◌∷◌, Ok, Err}
use Rattle.serde_json.specs.Data.{Data, null, boolean as boolean_given, number, string, array, object}
use Rattle.serde_json.specs.Data.{Items, no_items, item, Members, no_members, member as member_given}
use Rattle.serde_json.specs.Find.{as_i64}
use Rattle.pg_base.specs.declared.value.Value.{Value}
use Rattle.pg_base.specs.declared.value.Value.TheVariants as value
use Rattle.pg_base.specs.declared.value.Member.{Member}
use Rattle.pg_base.specs.Schema.{SchemaParts}
use Rattle.gql_types.specs.Types.{Ty, innermost, item_of}
use Rattle.gql_input.specs.Coercions.{Coercion, Given, wrong_kind, map_ok, and_more, null_at, in_lists, list_at, fields_at}
use Rattle.gql_input.specs.Inputs.{Reads, reads_at, int, big_int, text, boolean, cases, fields, nothing}
use Rattle.gql_input.specs.Leaves.{Leaf, as_value, boolean_at, number_at, json_string_at}

abbrev pub one : Value → Value
one v = value.List (v ∷ [])

abbrev pub many : List Value → Value
many vs = value.List vs

abbrev pub member : List ℕ → Value → Member
member name v = record { name = name; value = v }

abbrev pub leaf_at : Ty → Coercion Leaf → Coercion Value
leaf_at ty leaf = map_ok (λ l. in_lists one ty (as_value l)) leaf

-- an object, where the type has fields
abbrev pub object_at : Reads → List (Given Value) → Coercion Value
object_at int given = Err wrong_kind
object_at big_int given = Err wrong_kind
object_at text given = Err wrong_kind
object_at boolean given = Err wrong_kind
object_at (cases names) given = Err wrong_kind
object_at (fields args) given = map_ok value.Object (fields_at member args given)
object_at nothing given = Err wrong_kind

abbrev mutual
  -- what is given becomes this at the type, or the number of its first fault
  pub given_at : SchemaParts → Data → Ty → Coercion Value
  given_at schema null ty = null_at value.Null ty
  given_at schema (boolean_given b) ty = leaf_at ty (boolean_at (reads_at schema (innermost ty)) b)
  given_at schema (number n) ty = leaf_at ty (number_at (reads_at schema (innermost ty)) (as_i64 n))
  given_at schema (string t) ty = leaf_at ty (json_string_at (reads_at schema (innermost ty)) t)
  given_at schema (array items) ty = list_at many (item_of ty) (items_at schema items)
  given_at schema (object members) ty =
      map_ok (in_lists one ty) (object_at (reads_at schema (innermost ty)) (given_fields schema members))

  pub items_at : SchemaParts → Items → Ty → Coercion (List Value)
  items_at schema no_items ty = Ok []
  items_at schema (item d rest) ty = and_more (given_at schema d ty) (items_at schema rest ty)

  pub given_fields : SchemaParts → Members → List (Given Value)
  given_fields schema no_members = []
  given_fields schema (member_given name d rest) =
      record { name = name; at = given_at schema d } ∷ given_fields schema rest
