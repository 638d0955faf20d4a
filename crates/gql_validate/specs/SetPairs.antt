-- Pairs of plain selection sets, whose fragments aren't entered, and the steps that lead from one to others.
use Rattle.std.specs.Prelude.{ℕ, ◌+◌, Bool, true, false, ◌||◌, ◌&&◌, if◌then◌else◌, List, [], ◌∷◌, ◌++◌, IsTrue}
use Rattle.gql_nodes.specs.Nodes.{At}
use Rattle.gql_nodes.specs.Reached.{IsIn}
use Rattle.gql_validate.specs.declared.pairs.Pair.{Pair}
use Rattle.gql_validate.specs.FieldSelectionMerging.{fields_of, sets_of, meet, differ}

-- What stands in a set is given by two functions: its fields, and the sets of the fragments that stand there.
abbrev pub Members : Type 0
Members = ℕ → List ℕ

abbrev pub is_empty : {A : Type 0} → List A → Bool
is_empty [] = true
is_empty (x ∷ xs) = false

-- something stands in the set
abbrev pub is_deep_in : Members → Members → ℕ → Bool
is_deep_in fields sets set = if is_empty (fields set) then (if is_empty (sets set) then false else true) else true

abbrev pub is_deep : List At → ℕ → Bool
is_deep nodes set = is_deep_in (fields_of nodes) (sets_of nodes) set

-- the pair, where the test holds
abbrev pub when : Bool → ℕ → ℕ → List Pair
when b first second = if b then record { first = first; second = second } ∷ [] else []

-- ---- pairs of fields that meet, of which one stands in either set: the earlier field first

abbrev pub in_order : List At → ℕ → ℕ → List Pair
in_order nodes f g = when (meet nodes f g) f g ++ when (meet nodes g f) g f

abbrev pub pairs_with : List At → ℕ → List ℕ → List Pair
pairs_with nodes f [] = []
pairs_with nodes f (g ∷ gs) = in_order nodes f g ++ pairs_with nodes f gs

abbrev pub pairs_of : List At → List ℕ → List ℕ → List Pair
pairs_of nodes [] gs = []
pairs_of nodes (f ∷ fs) gs = pairs_with nodes f gs ++ pairs_of nodes fs gs

abbrev pub field_pairs_in : List At → Members → Pair → List Pair
field_pairs_in nodes fields p = pairs_of nodes (fields p.first) (fields p.second)

abbrev pub field_pairs : List At → Pair → List Pair
field_pairs nodes p = field_pairs_in nodes (fields_of nodes) p

-- two of the fields differ
abbrev pub any_differ : List At → List Pair → Bool
any_differ nodes [] = false
any_differ nodes (p ∷ ps) = differ nodes p.first p.second || any_differ nodes ps

abbrev pub clashes : List At → Pair → Bool
clashes nodes p = any_differ nodes (field_pairs nodes p)

-- ---- steps

abbrev pub with_second : List ℕ → ℕ → List Pair
with_second [] second = []
with_second (first ∷ firsts) second = record { first = first; second = second } ∷ with_second firsts second

abbrev pub with_first : ℕ → List ℕ → List Pair
with_first first [] = []
with_first first (second ∷ seconds) = record { first = first; second = second } ∷ with_first first seconds

-- the selection sets of two fields: of both, and of each with itself; those in which nothing stands are left out
abbrev pub below_pair_in : Members → Members → Pair → List Pair
below_pair_in fields sets p =
    when (is_deep_in fields sets p.first && is_deep_in fields sets p.second) p.first p.second
    ++ (when (is_deep_in fields sets p.first) p.first p.first
    ++ when (is_deep_in fields sets p.second) p.second p.second)

abbrev pub below_pair : List At → Pair → List Pair
below_pair nodes p = below_pair_in (fields_of nodes) (sets_of nodes) p

abbrev pub below_each_in : Members → Members → List Pair → List Pair
below_each_in fields sets [] = []
below_each_in fields sets (p ∷ ps) = below_pair_in fields sets p ++ below_each_in fields sets ps

abbrev pub below_each : List At → List Pair → List Pair
below_each nodes ps = below_each_in (fields_of nodes) (sets_of nodes) ps

-- to a fragment that stands in either set, and below each pair of fields that meet
abbrev pub steps_in : List At → Members → Members → Pair → List Pair
steps_in nodes fields sets p =
    with_second (sets p.first) p.second
    ++ (with_first p.first (sets p.second) ++ below_each_in fields sets (field_pairs_in nodes fields p))

abbrev pub steps : List At → Pair → List Pair
steps nodes p = steps_in nodes (fields_of nodes) (sets_of nodes) p

-- each set in which something stands, with itself
abbrev pub starts_from_in : Members → Members → ℕ → List At → List Pair
starts_from_in fields sets place [] = []
starts_from_in fields sets place (x ∷ rest) =
    when (is_deep_in fields sets place) place place ++ starts_from_in fields sets (place + 1) rest

abbrev pub starts_from : List At → ℕ → List At → List Pair
starts_from nodes place rest = starts_from_in (fields_of nodes) (sets_of nodes) place rest

abbrev pub starts : List At → List Pair
starts nodes = starts_from nodes 0 nodes

-- ---- what can't merge

-- fields differ in the two sets, or below them
pub data IsSpoiled (nodes : List At) : Pair → Type 0 where
  clash : {p : Pair} → IsTrue (clashes nodes p) → IsSpoiled nodes p
  further : {p : Pair} (q : Pair) → IsIn (steps nodes p) q → IsSpoiled nodes q → IsSpoiled nodes p
