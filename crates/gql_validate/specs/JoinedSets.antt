-- Selection sets joined by heads: sets of one head are joined. A fragment is joined with each set in which it is
-- spread, and the sets of fields with those of their response key and parent type in joined sets. So more may be joined
-- than the rule on merging asks; where all fields are alike even so, all can merge.
use Rattle.std.specs.Prelude.{ℕ, ◌+◌, ◌*◌, ◌%◌, ◌^◌, ◌==◌, Bool, true, false, ◌&&◌, List, [], ◌∷◌, Option, Some, None}
use Rattle.std.specs.Map.{lookup}
use Rattle.std.specs.Prelude.{slice_get, unwrap_or}
use Rattle.gql_nodes.specs.Nodes.{Node, at_definition, at_variable, at_field, at_spread, at_inline, at_directive}
use Rattle.gql_nodes.specs.Nodes.{at_argument, at_value, at_object_field, At}
use Rattle.gql_validate.specs.declared.slots.Slot.{Slot}
use Rattle.gql_validate.specs.FieldSelectionMerging.{FieldOn, with_parent, field_at, fragment_node, response_key}
use Rattle.gql_validate.specs.FieldSelectionMerging.{are_alike}

-- the head of a set; past the end each set is its own
abbrev pub head_at : List ℕ → ℕ → ℕ
head_at heads place = unwrap_or (slice_get heads place) place

-- a number of a response key, which others may share
abbrev pub print_from : ℕ → List ℕ → ℕ
print_from print [] = print
print_from print (byte ∷ key) = print_from (((print * 31) % 2 ^ 64 + byte) % 2 ^ 64) key

-- where a field of sets with a head goes
abbrev pub slot_of : ℕ → FieldOn → Slot
slot_of head f = record { head = head; parent = f.parent; print = print_from 0 (response_key f.field) }

abbrev pub same_slot : Slot → Slot → Bool
same_slot p q = p.head == q.head && (p.parent == q.parent && p.print == q.print)

-- the first field that went there
abbrev pub first_in : List (Slot × ℕ) → Slot → Option ℕ
first_in slots slot = lookup (same_slot slot) slots

abbrev pub alike_to : Option FieldOn → FieldOn → Bool
alike_to None f = false
alike_to (Some first) f = are_alike first.field f.field

-- a field has the head of the first one of its slot, and is alike it
abbrev pub joins_first : List At → List ℕ → ℕ → FieldOn → Option ℕ → Bool
joins_first nodes heads place f None = false
joins_first nodes heads place f (Some first) =
    head_at heads first == head_at heads place && alike_to (field_at nodes first) f

abbrev pub field_joins : List At → List ℕ → List (Slot × ℕ) → ℕ → ℕ → Option FieldOn → Bool
field_joins nodes heads slots place owner None = true
field_joins nodes heads slots place owner (Some f) =
    joins_first nodes heads place f (first_in slots (slot_of (head_at heads owner) f))

-- a fragment has the head of the set in which it is spread
abbrev pub target_joins : List ℕ → ℕ → Option ℕ → Bool
target_joins heads owner None = true
target_joins heads owner (Some target) = head_at heads target == head_at heads owner

-- the node, which stands at the place, is joined with those that it has to be
abbrev pub joins : List At → List ℕ → List (Slot × ℕ) → ℕ → Node → Bool
joins nodes heads slots place (at_definition repeated d) = true
joins nodes heads slots place (at_variable repeated v) = true
joins nodes heads slots place (at_field owner parent known f) =
    field_joins nodes heads slots place owner (with_parent parent f)
joins nodes heads slots place (at_spread owner parent s) = target_joins heads owner (fragment_node nodes s.name)
joins nodes heads slots place (at_inline owner parent i) = head_at heads place == head_at heads owner
joins nodes heads slots place (at_directive repeated at defs d) = true
joins nodes heads slots place (at_argument repeated defs a) = true
joins nodes heads slots place (at_value ty kind pos) = true
joins nodes heads slots place (at_object_field repeated defs name pos) = true

abbrev pub all_join : List At → List ℕ → List (Slot × ℕ) → ℕ → List At → Bool
all_join nodes heads slots place [] = true
all_join nodes heads slots place (x ∷ rest) =
    joins nodes heads slots place x.node && all_join nodes heads slots (place + 1) rest
