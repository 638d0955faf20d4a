-- Values kind by kind and fault by fault, computed.
use Rattle.std.proofs.Common.{◌≡◌, ℕ, true, false, [], ◌∷◌, Some, None, Ok, Err, refl}
use Rattle.std.specs.Prelude.{codes, pos, negsuc, Float}
use Rattle.serde_json.specs.Data.{Data, null, boolean, number, string, array, object, unsigned, negative, float, no_items, item, no_members, member}
use Rattle.pg_base.specs.declared.pos.Pos.{Pos}
use Rattle.pg_base.specs.declared.value.Value.{Value}
use Rattle.pg_base.specs.declared.value.Value.TheVariants as value
use Rattle.pg_base.specs.declared.schema.TypeKind.TheVariants as kind
use Rattle.pg_base.specs.Schema.{SchemaParts, int, string as string_type, boolean as boolean_type}
use Rattle.pg_base.specs.TypeRefs.{one as one_type, argument}
use Rattle.gql_reader.specs.Trees.{value_at}
use Rattle.gql_reader.specs.declared.tree.ValueKind.TheVariants as literal
use Rattle.gql_reader.specs.declared.tree.Type.TheVariants as written
use Rattle.gql_reader.specs.declared.tree.VariableDefinition.{VariableDefinition}
use Rattle.gql_types.specs.Types.{Ty, named, list_of}
use Rattle.gql_input.specs.declared.argument.ArgValue.TheVariants as arg
use Rattle.gql_input.specs.Coercions.{Coercion, missing, null_given, wrong_kind, out_of_range, unknown_field}
use Rattle.gql_input.specs.Given.{given_at}
use Rattle.gql_input.specs.Literals.{literal_at}
use Rattle.gql_input.specs.Coerced.{entries_of}

-- 0 Query, 1 BigInt, 2 Cursor, 3 Mood, 4 an input type with Int! a, BigInt b and Mood! m
abbrev schema : SchemaParts
schema = record {
  types =
      record { name = codes "Query"; kind = kind.Object [] }
      ∷ record { name = codes "BigInt"; kind = kind.Scalar }
      ∷ record { name = codes "Cursor"; kind = kind.Scalar }
      ∷ record { name = codes "Mood"; kind = kind.Enum (codes "SAD" ∷ codes "OK" ∷ []) }
      ∷ record { name = codes "PersonInput"; kind = kind.Input (argument (codes "a") (one_type int true) ∷ argument (codes "b") (one_type 1 false) ∷ argument (codes "m") (one_type 3 true) ∷ []) }
      ∷ [];
  query = 0;
  mutation = None;
}

abbrev read : Data → Ty → Coercion Value
read d ty = given_at schema d ty

abbrev at : ℕ → Ty
at name = named name false

-- ---- integers

greatest_int : read (number (unsigned 2147483647)) (at int) ≡ Ok (value.Int (pos 2147483647))
greatest_int = refl

least_int : read (number (negative (negsuc 2147483647))) (at int) ≡ Ok (value.Int (negsuc 2147483647))
least_int = refl

past_int : read (number (unsigned 2147483648)) (at int) ≡ Err out_of_range
past_int = refl

below_int : read (number (negative (negsuc 2147483648))) (at int) ≡ Err out_of_range
below_int = refl

not_of_64_bits : read (number (unsigned 9223372036854775808)) (at int) ≡ Err wrong_kind
not_of_64_bits = refl

float_for_int : (x : Float) → read (number (float x)) (at int) ≡ Err wrong_kind
float_for_int x = refl

text_for_int : read (string (codes "1")) (at int) ≡ Err wrong_kind
text_for_int = refl

big_int : read (number (unsigned 2147483648)) (at 1) ≡ Ok (value.Int (pos 2147483648))
big_int = refl

big_int_text : read (string (codes "-9223372036854775808")) (at 1) ≡ Ok (value.Int (negsuc 9223372036854775807))
big_int_text = refl

minus_zero_text : read (string (codes "-0")) (at 1) ≡ Ok (value.Int (pos 0))
minus_zero_text = refl

past_big_int_text : read (string (codes "9223372036854775808")) (at 1) ≡ Err out_of_range
past_big_int_text = refl

leading_zero_text : read (string (codes "01")) (at 1) ≡ Err wrong_kind
leading_zero_text = refl

plus_text : read (string (codes "+1")) (at 1) ≡ Err wrong_kind
plus_text = refl

no_text : read (string []) (at 1) ≡ Err wrong_kind
no_text = refl

-- ---- texts, booleans and enums

text : read (string (codes "x")) (at string_type) ≡ Ok (value.Text (codes "x"))
text = refl

cursor : read (string (codes "x")) (at 2) ≡ Ok (value.Text (codes "x"))
cursor = refl

integer_for_text : read (number (unsigned 1)) (at string_type) ≡ Err wrong_kind
integer_for_text = refl

truth : read (boolean true) (at boolean_type) ≡ Ok (value.Bool true)
truth = refl

truth_for_text : read (boolean true) (at string_type) ≡ Err wrong_kind
truth_for_text = refl

case_of_enum : read (string (codes "OK")) (at 3) ≡ Ok (value.Case (codes "OK"))
case_of_enum = refl

other_case : read (string (codes "ok")) (at 3) ≡ Err wrong_kind
other_case = refl

-- ---- null and lists

null_taken : read null (at int) ≡ Ok value.Null
null_taken = refl

null_refused : read null (named int true) ≡ Err null_given
null_refused = refl

null_for_list : read null (list_of (at int) false) ≡ Ok value.Null
null_for_list = refl

list : read (array (item (number (unsigned 1)) (item null no_items))) (list_of (at int) false) ≡ Ok (value.List (value.Int (pos 1) ∷ value.Null ∷ []))
list = refl

one_at_each_level : read (number (unsigned 5)) (list_of (list_of (at int) false) true) ≡ Ok (value.List (value.List (value.Int (pos 5) ∷ []) ∷ []))
one_at_each_level = refl

lists_of_one_inside : read (array (item (number (unsigned 1)) (item (number (unsigned 2)) no_items))) (list_of (list_of (at int) false) false)
    ≡ Ok (value.List (value.List (value.Int (pos 1) ∷ []) ∷ value.List (value.Int (pos 2) ∷ []) ∷ []))
lists_of_one_inside = refl

first_item_at_fault : read (array (item (boolean true) (item null no_items))) (list_of (named int true) false) ≡ Err wrong_kind
first_item_at_fault = refl

null_item : read (array (item null (item (boolean true) no_items))) (list_of (named int true) false) ≡ Err null_given
null_item = refl

list_for_int : read (array no_items) (at int) ≡ Err wrong_kind
list_for_int = refl

-- ---- objects

in_schema_order : read (object (member (codes "m") (string (codes "OK")) (member (codes "a") (number (unsigned 1)) no_members))) (at 4)
    ≡ Ok (value.Object (record { name = codes "a"; value = value.Int (pos 1) } ∷ record { name = codes "m"; value = value.Case (codes "OK") } ∷ []))
in_schema_order = refl

unknown_before_missing : read (object (member (codes "z") null no_members)) (at 4) ≡ Err unknown_field
unknown_before_missing = refl

field_missing : read (object (member (codes "a") (number (unsigned 1)) no_members)) (at 4) ≡ Err missing
field_missing = refl

first_field_at_fault : read (object (member (codes "a") null (member (codes "b") (boolean true) no_members))) (at 4) ≡ Err null_given
first_field_at_fault = refl

text_for_object : read (string (codes "a")) (at 4) ≡ Err wrong_kind
text_for_object = refl

object_for_int : read (object no_members) (at int) ≡ Err wrong_kind
object_for_int = refl

-- ---- literals

literal_for_enum : literal_at schema (literal.String (codes "OK")) (at 3) ≡ Err wrong_kind
literal_for_enum = refl

literal_big_int : literal_at schema (literal.Int (codes "-1")) (list_of (at 1) false) ≡ Ok (arg.List (arg.Int (negsuc 0) ∷ []))
literal_big_int = refl

literal_variable : literal_at schema (literal.Variable (codes "v")) (list_of (at 1) false) ≡ Ok (arg.Variable (codes "v"))
literal_variable = refl

-- ---- variables

abbrev place : Pos
place = record { line = 1; column = 9 }

-- $a: Int
abbrev a : VariableDefinition
a = record { name = codes "a"; ty = written.Named (codes "Int") false; default = None; directives = []; pos = place }

-- $b: BigInt!
abbrev b : VariableDefinition
b = record { name = codes "b"; ty = written.Named (codes "BigInt") true; default = None; directives = []; pos = place }

-- $c: String = "x"
abbrev c : VariableDefinition
c = record { name = codes "c"; ty = written.Named (codes "String") false; default = Some (value_at (literal.String (codes "x")) place); directives = []; pos = place }

default_and_no_entry : entries_of schema (object (member (codes "b") (string (codes "12")) no_members)) (a ∷ b ∷ c ∷ [])
    ≡ Ok (record { name = codes "b"; value = value.Int (pos 12) } ∷ record { name = codes "c"; value = value.Text (codes "x") } ∷ [])
default_and_no_entry = refl

null_over_default : entries_of schema (object (member (codes "c") null no_members)) (c ∷ []) ≡ Ok (record { name = codes "c"; value = value.Null } ∷ [])
null_over_default = refl

not_given : entries_of schema null (a ∷ b ∷ c ∷ []) ≡ Err (record { which = missing; name = codes "b"; pos = place })
not_given = refl

null_for_non_null : entries_of schema (object (member (codes "b") null no_members)) (a ∷ b ∷ []) ≡ Err (record { which = null_given; name = codes "b"; pos = place })
null_for_non_null = refl
