-- What a value becomes where a type is expected: input coercion, sections 3.5 to 3.12 and 6.1.2 of the GraphQL
-- specification (October 2021). What both literals and variables share.
use Rattle.std.specs.Prelude.{ℕ, Bool, true, false, List, [], ◌∷◌, Option, Some, None, Result, Ok, Err, is_none, if◌then◌else◌}
use Rattle.std.specs.Str.{bytes_eq}
use Rattle.std.specs.List.{list_any}
use Rattle.pg_base.specs.declared.schema.ArgDef.{ArgDef}
use Rattle.gql_types.specs.Types.{Ty, named, list_of, ty_of, arg_named, is_not_null}

-- ---- faults

-- no value, where one is needed
abbrev pub missing : ℕ
missing = 1

-- null, where none may stand
abbrev pub null_given : ℕ
null_given = 2

-- a value that isn't one of the type
abbrev pub wrong_kind : ℕ
wrong_kind = 3

-- an integer that the type doesn't have
abbrev pub out_of_range : ℕ
out_of_range = 4

-- a field that the input type doesn't have
abbrev pub unknown_field : ℕ
unknown_field = 5

-- what a value becomes, or the number of its first fault
abbrev pub Coercion : Type 0 → Type 0
Coercion V = Result V ℕ

abbrev pub and_then : {V W : Type 0} → (V → Coercion W) → Coercion V → Coercion W
and_then f (Err fault) = Err fault
and_then f (Ok v) = f v

abbrev pub map_ok : {V W : Type 0} → (V → W) → Coercion V → Coercion W
map_ok f (Err fault) = Err fault
map_ok f (Ok v) = Ok (f v)

abbrev pub is_ok : {V : Type 0} → Coercion V → Bool
is_ok (Err fault) = false
is_ok (Ok v) = true

-- null stands where the type allows it
abbrev pub null_at : {V : Type 0} → V → Ty → Coercion V
null_at null ty = if is_not_null ty then Err null_given else Ok null

-- ---- lists

-- what isn't a list, where one is expected, is a list of one; so it is at every level
abbrev pub in_lists : {V : Type 0} → (V → V) → Ty → V → V
in_lists one (named name non_null) v = v
in_lists one (list_of item non_null) v = one (in_lists one item v)

-- one item more at the front, or none; the first fault counts
abbrev pub and_some : {V E : Type 0} → Result (Option V) E → Result (List V) E → Result (List V) E
and_some (Err fault) rest = Err fault
and_some (Ok None) rest = rest
and_some (Ok (Some v)) (Err fault) = Err fault
and_some (Ok (Some v)) (Ok vs) = Ok (v ∷ vs)

abbrev pub and_more : {V : Type 0} → Coercion V → Coercion (List V) → Coercion (List V)
and_more v rest = and_some (map_ok (λ x. Some x) v) rest

-- a list, where the type is a list's, of what its items are at the type inside
abbrev pub list_at : {V : Type 0} → (List V → V) → Option Ty → (Ty → Coercion (List V)) → Coercion V
list_at made None items = Err wrong_kind
list_at made (Some item) items = map_ok made (items item)

-- ---- objects

-- a field that is given: its name, and what it becomes at a type
pub record Given (V : Type 0) : Type 0 where
  pub name : List ℕ
  pub at : Ty → Coercion V

-- what the first field with the definition's name becomes at its type
abbrev pub given_for : {V : Type 0} → List (Given V) → ArgDef → Option (Coercion V)
given_for [] def = None
given_for (g ∷ given) def = if bytes_eq g.name def.name then Some (g.at (ty_of def.ty)) else given_for given def

-- a field that isn't given is left out, and is missing where its type is non-null
abbrev pub member_at : {V M : Type 0} → (V → M) → Bool → Option (Coercion V) → Coercion (Option M)
member_at member true None = Err missing
member_at member false None = Ok None
member_at member non_null (Some v) = map_ok (λ x. Some (member x)) v

-- the fields that are given, in the order of the schema, or the first fault in that order
abbrev pub members_at : {V M : Type 0} → (List ℕ → V → M) → List ArgDef → List (Given V) → Coercion (List M)
members_at member [] given = Ok []
members_at member (d ∷ defs) given =
    and_some (member_at (member d.name) d.ty.not_null (given_for given d)) (members_at member defs given)

-- a field that is given is none of the type's
abbrev pub has_unknown : {V : Type 0} → List ArgDef → List (Given V) → Bool
has_unknown defs given = list_any (λ g. is_none (arg_named defs g.name)) given

-- an unknown field comes before the faults of the others
abbrev pub fields_at : {V M : Type 0} → (List ℕ → V → M) → List ArgDef → List (Given V) → Coercion (List M)
fields_at member defs given = if has_unknown defs given then Err unknown_field else members_at member defs given
