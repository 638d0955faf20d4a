-- What scalars and enums read (sections 3.5 and 3.9 of the GraphQL specification, October 2021).
use Rattle.std.specs.Prelude.{ℕ, ℤ, Bool, if◌then◌else◌, List, Option, Some, None, Ok, Err}
use Rattle.std.specs.Str.{bytes_eq}
use Rattle.std.specs.List.{list_any}
use Rattle.pg_base.specs.declared.value.Value.{Value}
use Rattle.pg_base.specs.declared.value.Value.TheVariants as value
use Rattle.gql_input.specs.declared.argument.ArgValue.{ArgValue}
use Rattle.gql_input.specs.declared.argument.ArgValue.TheVariants as argument
use Rattle.gql_input.specs.declared.leaf.Leaf.{Leaf as LeafCode}
use Rattle.gql_input.specs.declared.leaf.Leaf.TheVariants as code
use Rattle.gql_input.specs.Coercions.{Coercion, and_then, wrong_kind, out_of_range}
use Rattle.gql_input.specs.Inputs.{Reads, int, big_int, text, boolean, cases, fields, nothing}
use Rattle.gql_input.specs.Spelled.{is_within, integer_spelled}

-- what a scalar or an enum holds
pub data Leaf : Type 0 where
  number : ℤ → Leaf
  truth : Bool → Leaf
  words : List ℕ → Leaf
  one_of : List ℕ → Leaf

abbrev pub as_value : Leaf → Value
as_value (number z) = value.Int z
as_value (truth b) = value.Bool b
as_value (words t) = value.Text t
as_value (one_of name) = value.Case name

abbrev pub as_argument : Leaf → ArgValue
as_argument (number z) = argument.Int z
as_argument (truth b) = argument.Bool b
as_argument (words t) = argument.Text t
as_argument (one_of name) = argument.Case name

-- the same, as the code holds it
abbrev pub leaf_of : LeafCode → Leaf
leaf_of (code.Int z) = number z
leaf_of (code.Bool b) = truth b
leaf_of (code.Text t) = words t.now
leaf_of (code.Case name) = one_of name.now

-- Int has 32 bits, BigInt 64
abbrev pub integer_at : Reads → ℤ → Coercion Leaf
integer_at int z = if is_within 32 z then Ok (number z) else Err out_of_range
integer_at big_int z = Ok (number z)
integer_at text z = Err wrong_kind
integer_at boolean z = Err wrong_kind
integer_at (cases names) z = Err wrong_kind
integer_at (fields args) z = Err wrong_kind
integer_at nothing z = Err wrong_kind

abbrev pub boolean_at : Reads → Bool → Coercion Leaf
boolean_at int b = Err wrong_kind
boolean_at big_int b = Err wrong_kind
boolean_at text b = Err wrong_kind
boolean_at boolean b = Ok (truth b)
boolean_at (cases names) b = Err wrong_kind
boolean_at (fields args) b = Err wrong_kind
boolean_at nothing b = Err wrong_kind

-- a string is a text, or a BigInt where it is spelled as an integer
abbrev pub string_at : Reads → List ℕ → Coercion Leaf
string_at int t = Err wrong_kind
string_at big_int t = and_then (integer_at big_int) (integer_spelled t)
string_at text t = Ok (words t)
string_at boolean t = Err wrong_kind
string_at (cases names) t = Err wrong_kind
string_at (fields args) t = Err wrong_kind
string_at nothing t = Err wrong_kind

abbrev pub case_at : Reads → List ℕ → Coercion Leaf
case_at int name = Err wrong_kind
case_at big_int name = Err wrong_kind
case_at text name = Err wrong_kind
case_at boolean name = Err wrong_kind
case_at (cases names) name = if list_any (λ other. bytes_eq other name) names then Ok (one_of name) else Err wrong_kind
case_at (fields args) name = Err wrong_kind
case_at nothing name = Err wrong_kind

-- a number, where it is an integer of signed 64 bits
abbrev pub number_at : Reads → Option ℤ → Coercion Leaf
number_at of None = Err wrong_kind
number_at of (Some z) = integer_at of z

-- a string of JSON, where a case of an enum is a string too
abbrev pub json_string_at : Reads → List ℕ → Coercion Leaf
json_string_at int t = string_at int t
json_string_at big_int t = string_at big_int t
json_string_at text t = string_at text t
json_string_at boolean t = string_at boolean t
json_string_at (cases names) t = case_at (cases names) t
json_string_at (fields args) t = string_at (fields args) t
json_string_at nothing t = string_at nothing t

-- an integer as a document spells it
abbrev pub spelled_at : Reads → List ℕ → Coercion Leaf
spelled_at of t = and_then (integer_at of) (integer_spelled t)
