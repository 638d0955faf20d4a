-- Literals at their positions' types: section 2.9 and input coercion in sections 3.5 to 3.12 of the GraphQL
-- specification (October 2021). A literal that may stand at a type becomes an argument's value there: numbers are read,
-- an object has its fields in the schema's order, what isn't a list is a list of one where one is expected, and a
-- variable stands for itself.
use Rattle.std.specs.Prelude.{ℕ, Bool, true, false, not, List, [], ◌∷◌, Ok, Err, is_some}
use Rattle.gql_reader.specs.declared.tree.ValueKind.{ValueKind, Variable, Int, Float, String, Boolean, Null, Enum}
use Rattle.gql_reader.specs.declared.tree.ValueKind.{List', Object'}
use Rattle.gql_reader.specs.declared.tree.ValueKind.{Row_of-Value, end_of-Value, more_of-Value}
use Rattle.gql_reader.specs.declared.tree.ValueKind.{Row_of-ObjectField, end_of-ObjectField, more_of-ObjectField}
use Rattle.pg_base.specs.Schema.{SchemaParts}
use Rattle.gql_types.specs.Types.{Ty, innermost, item_of, is_not_null}
use Rattle.gql_input.specs.declared.argument.ArgValue.{ArgValue}
use Rattle.gql_input.specs.declared.argument.ArgValue.TheVariants as argument
use Rattle.gql_input.specs.declared.argument.ArgMember.{ArgMember}
use Rattle.gql_input.specs.Coercions.{Coercion, Given, is_ok, wrong_kind, map_ok, and_more, null_at, in_lists, list_at, fields_at}
use Rattle.gql_input.specs.Inputs.{Reads, reads_at, has_fields, int, big_int, text, boolean, cases, fields, nothing}
use Rattle.gql_input.specs.Leaves.{Leaf, as_argument, boolean_at, spelled_at, string_at, case_at}

abbrev pub one : ArgValue → ArgValue
one v = argument.List (v ∷ [])

abbrev pub many : List ArgValue → ArgValue
many vs = argument.List vs

abbrev pub member : List ℕ → ArgValue → ArgMember
member name v = record { name = name; value = v }

abbrev pub leaf_at : Ty → Coercion Leaf → Coercion ArgValue
leaf_at ty leaf = map_ok (λ l. in_lists one ty (as_argument l)) leaf

-- Whether the literal, by itself, can stand where the type is expected: what a list or an object holds are literals of
-- their own. A variable can stand anywhere here.
abbrev pub fits : SchemaParts → ValueKind → Ty → Bool
fits schema (Variable name) ty = true
fits schema (Int t) ty = is_ok (spelled_at (reads_at schema (innermost ty)) t)
fits schema (Float t) ty = false
fits schema (String t) ty = is_ok (string_at (reads_at schema (innermost ty)) t)
fits schema (Boolean b) ty = is_ok (boolean_at (reads_at schema (innermost ty)) b)
fits schema Null ty = not (is_not_null ty)
fits schema (Enum name) ty = is_ok (case_at (reads_at schema (innermost ty)) name)
fits schema (List' _ items) ty = is_some (item_of ty)
fits schema (Object' _ members) ty = has_fields (reads_at schema (innermost ty))

-- an object, where the type has fields
abbrev pub object_at : Reads → List (Given ArgValue) → Coercion ArgValue
object_at int given = Err wrong_kind
object_at big_int given = Err wrong_kind
object_at text given = Err wrong_kind
object_at boolean given = Err wrong_kind
object_at (cases names) given = Err wrong_kind
object_at (fields args) given = map_ok argument.Object (fields_at member args given)
object_at nothing given = Err wrong_kind

abbrev mutual
  -- what the literal becomes at the type, or the number of its first fault
  pub literal_at : SchemaParts → ValueKind → Ty → Coercion ArgValue
  literal_at schema (Variable name) ty = Ok (argument.Variable name)
  literal_at schema (Int t) ty = leaf_at ty (spelled_at (reads_at schema (innermost ty)) t)
  literal_at schema (Float t) ty = Err wrong_kind
  literal_at schema (String t) ty = leaf_at ty (string_at (reads_at schema (innermost ty)) t)
  literal_at schema (Boolean b) ty = leaf_at ty (boolean_at (reads_at schema (innermost ty)) b)
  literal_at schema Null ty = null_at argument.Null ty
  literal_at schema (Enum name) ty = leaf_at ty (case_at (reads_at schema (innermost ty)) name)
  literal_at schema (List' _ items) ty = list_at many (item_of ty) (literals_at schema items)
  literal_at schema (Object' _ members) ty =
      map_ok (in_lists one ty) (object_at (reads_at schema (innermost ty)) (literal_fields schema members))

  pub literals_at : {n : _} → SchemaParts → Row_of-Value n → Ty → Coercion (List ArgValue)
  literals_at schema end_of-Value ty = Ok []
  literals_at schema (more_of-Value kind pos rest) ty =
      and_more (literal_at schema kind ty) (literals_at schema rest ty)

  pub literal_fields : {n : _} → SchemaParts → Row_of-ObjectField n → List (Given ArgValue)
  literal_fields schema end_of-ObjectField = []
  literal_fields schema (more_of-ObjectField name kind at pos rest) =
      record { name = name; at = literal_at schema kind } ∷ literal_fields schema rest
