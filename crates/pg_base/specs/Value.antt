-- The parts of values as lists.
use Rattle.std.specs.Prelude.{ℕ, Bool, true, false, List, [], ◌∷◌, Option, Some, None, if◌then◌else◌}
use Rattle.std.specs.Str.{bytes_eq}
use Rattle.pg_base.specs.declared.value.Value.{Value, Null, Int, Bool as BoolOf, Text, Case, List', Object'}
use Rattle.pg_base.specs.declared.value.Value.{Row_of-Value, end_of-Value, more_of-Value, Row_of-Member, end_of-Member}
use Rattle.pg_base.specs.declared.value.Value.{more_of-Member}
use Rattle.pg_base.specs.declared.value.Member.{Member}

abbrev pub item_list : {n : _} → Row_of-Value n → List Value
item_list end_of-Value = []
item_list (more_of-Value v rest) = v ∷ item_list rest

abbrev pub member_list : {n : _} → Row_of-Member n → List Member
member_list end_of-Member = []
member_list (more_of-Member name v rest) = record { name = name; value = v } ∷ member_list rest

-- the fields of an object, and none of another value
abbrev pub members_of : Value → List Member
members_of Null = []
members_of (Int n) = []
members_of (BoolOf b) = []
members_of (Text t) = []
members_of (Case c) = []
members_of (List' _ items) = []
members_of (Object' _ members) = member_list members

-- the items of a list, and none of another value
abbrev pub items_of : Value → List Value
items_of Null = []
items_of (Int n) = []
items_of (BoolOf b) = []
items_of (Text t) = []
items_of (Case c) = []
items_of (List' _ items) = item_list items
items_of (Object' _ members) = []

abbrev pub is_object : Value → Bool
is_object Null = false
is_object (Int n) = false
is_object (BoolOf b) = false
is_object (Text t) = false
is_object (Case c) = false
is_object (List' _ items) = false
is_object (Object' _ members) = true

abbrev pub is_null : Value → Bool
is_null Null = true
is_null (Int n) = false
is_null (BoolOf b) = false
is_null (Text t) = false
is_null (Case c) = false
is_null (List' _ items) = false
is_null (Object' _ members) = false

-- the value of the first field with the name
abbrev pub member_in : List Member → List ℕ → Option Value
member_in [] name = None
member_in (m ∷ members) name = if bytes_eq m.name name then Some m.value else member_in members name
