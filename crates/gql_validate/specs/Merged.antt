-- What the code makes to find fields that can't merge, by lists.
use Rattle.std.specs.Prelude.{◌≡◌, ◌≤◌, ℕ, ◌+◌, ◌==◌, Bool, true, false, ◌||◌, ◌&&◌, if◌then◌else◌, List, [], ◌∷◌, ◌++◌}
use Rattle.std.proofs.Common.{inl, inr, sym, ◌∙◌}
use Rattle.std.proofs.lemmas.Bool.{and_parts}
use Rattle.std.proofs.lemmas.Bool.Decides.{eqb_tells}
use Rattle.std.specs.Prelude.{Option, Some, None, min, slice_get, slice_set, unwrap_or, IsTrue}
use Rattle.std.specs.List.{list_any}
use Rattle.gql_nodes.specs.Names.{fragment_name}
use Rattle.gql_nodes.specs.Nodes.{Node, at_definition, at_variable, at_field, at_spread, at_inline, at_directive}
use Rattle.gql_nodes.specs.Nodes.{at_argument, at_value, at_object_field, At}
use Rattle.gql_nodes.specs.Reached.{IsIn}
use Rattle.gql_validate.specs.declared.paired_fields.FieldOn as code
use Rattle.gql_validate.specs.declared.pairs.Pair.{Pair}
use Rattle.gql_validate.specs.declared.tables.Tables.{Tables}
use Rattle.gql_validate.specs.FieldSelectionMerging.{FieldOn, fields_of, sets_of, fragment_node, differ, meet, Breaks}
use Rattle.gql_validate.specs.SetPairs.{is_deep_in, with_first, with_second, below_pair_in, steps_in, starts_from_in, IsSpoiled}

abbrev pub field_view : code.FieldOn → FieldOn
field_view f = record { parent = f.parent; field = f.field.now }

-- ---- lists by places

-- the list at the place, and none past the end
abbrev pub list_at : List (List ℕ) → ℕ → List ℕ
list_at lists place = unwrap_or (slice_get lists place) []

abbrev pub put_at : List (List ℕ) → ℕ → Option (List ℕ) → ℕ → List (List ℕ)
put_at lists place None member = lists
put_at lists place (Some list) member = slice_set lists place (list ++ member ∷ [])

-- one member more at the end of the list at the place
abbrev pub with_member : List (List ℕ) → ℕ → ℕ → List (List ℕ)
with_member lists place member = put_at lists place (slice_get lists place) member

-- the tables hold what stands in each set
pub record AreTables (nodes : List At) (t : Tables) : Type 0 where
  pub fields : (set : ℕ) → list_at t.fields set ≡ fields_of nodes set
  pub sets : (set : ℕ) → list_at t.sets set ≡ sets_of nodes set

abbrev pub is_deep_by : Tables → ℕ → Bool
is_deep_by t set = is_deep_in (list_at t.fields) (list_at t.sets) set

abbrev pub steps_by : List At → Tables → Pair → List Pair
steps_by nodes t p = steps_in nodes (list_at t.fields) (list_at t.sets) p

-- ---- clashes, two lists of fields through

abbrev pub clash_when : List At → ℕ → ℕ → Bool
clash_when nodes f g = meet nodes f g && differ nodes f g

abbrev pub clash_in_order : List At → ℕ → ℕ → Bool
clash_in_order nodes f g = clash_when nodes f g || clash_when nodes g f

abbrev pub clash_with : List At → ℕ → List ℕ → Bool
clash_with nodes f [] = false
clash_with nodes f (g ∷ gs) = clash_in_order nodes f g || clash_with nodes f gs

abbrev pub clash_of : List At → List ℕ → List ℕ → Bool
clash_of nodes [] gs = false
clash_of nodes (f ∷ fs) gs = clash_with nodes f gs || clash_of nodes fs gs

abbrev pub clashes_by : List At → Tables → Pair → Bool
clashes_by nodes t p = clash_of nodes (list_at t.fields p.first) (list_at t.fields p.second)

-- ---- steps, two lists of fields through

abbrev pub below_pair_by : Tables → Pair → List Pair
below_pair_by t p = below_pair_in (list_at t.fields) (list_at t.sets) p

abbrev pub below_when : List At → Tables → ℕ → ℕ → List Pair
below_when nodes t f g = if meet nodes f g then below_pair_by t (record { first = f; second = g }) else []

abbrev pub below_in_order : List At → Tables → ℕ → ℕ → List Pair
below_in_order nodes t f g = below_when nodes t f g ++ below_when nodes t g f

abbrev pub below_with : List At → Tables → ℕ → List ℕ → List Pair
below_with nodes t f [] = []
below_with nodes t f (g ∷ gs) = below_in_order nodes t f g ++ below_with nodes t f gs

abbrev pub below_of : List At → Tables → List ℕ → List ℕ → List Pair
below_of nodes t [] gs = []
below_of nodes t (f ∷ fs) gs = below_with nodes t f gs ++ below_of nodes t fs gs

abbrev pub listed_steps : List At → Tables → Pair → List Pair
listed_steps nodes t p =
    with_second (list_at t.sets p.first) p.second
    ++ (with_first p.first (list_at t.sets p.second)
    ++ below_of nodes t (list_at t.fields p.first) (list_at t.fields p.second))

-- ---- what stands in each set, a node after the other

abbrev pub owned_field : Node → Option ℕ
owned_field (at_definition repeated d) = None
owned_field (at_variable repeated v) = None
owned_field (at_field owner parent known f) = Some owner
owned_field (at_spread owner parent s) = None
owned_field (at_inline owner parent i) = None
owned_field (at_directive repeated at defs d) = None
owned_field (at_argument repeated defs a) = None
owned_field (at_value ty kind pos) = None
owned_field (at_object_field repeated defs name pos) = None

abbrev pub put_owned : List (List ℕ) → Option ℕ → ℕ → List (List ℕ)
put_owned lists None member = lists
put_owned lists (Some owner) member = with_member lists owner member

abbrev pub put_target : List (List ℕ) → ℕ → Option ℕ → List (List ℕ)
put_target lists owner None = lists
put_target lists owner (Some target) = with_member lists owner target

-- the lists of sets with those of one node more
abbrev pub put_set : List At → List (List ℕ) → ℕ → Node → List (List ℕ)
put_set nodes lists place (at_definition repeated d) = lists
put_set nodes lists place (at_variable repeated v) = lists
put_set nodes lists place (at_field owner parent known f) = lists
put_set nodes lists place (at_spread owner parent s) = put_target lists owner (fragment_node nodes s.name)
put_set nodes lists place (at_inline owner parent i) = with_member lists owner place
put_set nodes lists place (at_directive repeated at defs d) = lists
put_set nodes lists place (at_argument repeated defs a) = lists
put_set nodes lists place (at_value ty kind pos) = lists
put_set nodes lists place (at_object_field repeated defs name pos) = lists

abbrev pub put_fields : List (List ℕ) → ℕ → List At → List (List ℕ)
put_fields lists place [] = lists
put_fields lists place (x ∷ rest) = put_fields (put_owned lists (owned_field x.node) place) (place + 1) rest

abbrev pub put_sets : List At → List (List ℕ) → ℕ → List At → List (List ℕ)
put_sets nodes lists place [] = lists
put_sets nodes lists place (x ∷ rest) = put_sets nodes (put_set nodes lists place x.node) (place + 1) rest

-- an empty list for each
abbrev pub empty_lists : {A : Type 0} → List A → List (List ℕ)
empty_lists [] = []
empty_lists (x ∷ xs) = [] ∷ empty_lists xs

-- the name of a fragment
abbrev pub fragment_of : Node → Option (List ℕ)
fragment_of (at_definition repeated d) = fragment_name d
fragment_of (at_variable repeated v) = None
fragment_of (at_field owner parent known f) = None
fragment_of (at_spread owner parent s) = None
fragment_of (at_inline owner parent i) = None
fragment_of (at_directive repeated at defs d) = None
fragment_of (at_argument repeated defs a) = None
fragment_of (at_value ty kind pos) = None
fragment_of (at_object_field repeated defs name pos) = None

-- ---- the graph of pairs

abbrev pub starts_by : Tables → ℕ → List At → List Pair
starts_by t place rest = starts_from_in (list_at t.fields) (list_at t.sets) place rest

abbrev pub same_pair : Pair → Pair → Bool
same_pair p q = p.first == q.first && p.second == q.second

by_number : (a b : ℕ) → (a == b) ≡ true → a ≡ b
by_number a b e = elim (eqb_tells a b) [ inl t ↦ t.1 | inr t ↦ absurd (let both : true ≡ false = sym e ∙ t.0 in cc) ]

pub same_tells : (p q : Pair) → same_pair p q ≡ true → p ≡ q
same_tells p q e =
    let both = and_parts (p.first == q.first) (p.second == q.second) e in
    let first = by_number p.first q.first both.0 in
    let second = by_number p.second q.second both.1 in
    λ i. record { first = first i; second = second i }

-- ---- pairs that are spoiled, and the least place of a field that can't merge

abbrev pub stands : List Pair → Pair → Bool
stands pairs p = list_any (same_pair p) pairs

abbrev pub with_pair : List Pair → Pair → List Pair
with_pair pairs p = if stands pairs p then pairs else pairs ++ p ∷ []

-- the pairs, and this one where its sets clash
abbrev pub put_clash : List At → Tables → List Pair → Pair → List Pair
put_clash nodes t pairs p = if clashes_by nodes t p then with_pair pairs p else pairs

abbrev pub put_clashes : List At → Tables → List Pair → List Pair → List Pair
put_clashes nodes t pairs [] = pairs
put_clashes nodes t pairs (p ∷ ps) = put_clashes nodes t (put_clash nodes t pairs p) ps

-- a step leads to one of the pairs
abbrev pub leads : List At → Tables → List Pair → Pair → Bool
leads nodes t pairs p = list_any (stands pairs) (listed_steps nodes t p)

abbrev pub put_led : List At → Tables → List Pair → Pair → List Pair
put_led nodes t pairs p = if leads nodes t pairs p then with_pair pairs p else pairs

abbrev pub put_each_led : List At → Tables → List Pair → List Pair → List Pair
put_each_led nodes t pairs [] = pairs
put_each_led nodes t pairs (p ∷ ps) = put_each_led nodes t (put_led nodes t pairs p) ps

-- what is spoiled among the pairs that were found, from some on
pub record IsSpread (nodes : List At) (t : Tables) (found old new : List Pair) : Type 0 where
  pub kept : (q : Pair) → IsIn old q → IsIn new q
  pub sound : ((q : Pair) → IsIn old q → IsSpoiled nodes q) → (q : Pair) → IsIn new q → IsSpoiled nodes q
  pub closed : (p : Pair) → IsIn found p → IsTrue (leads nodes t new p) → IsIn new p

-- two fields that meet can't merge
abbrev pub is_bad : List At → Tables → List Pair → Pair → Bool
is_bad nodes t spoiled p = differ nodes p.first p.second || list_any (stands spoiled) (below_pair_by t p)

abbrev pub smaller : Option ℕ → ℕ → Option ℕ
smaller None place = Some place
smaller (Some least) place = Some (min least place)

abbrev pub least_when : List At → Tables → List Pair → ℕ → ℕ → Option ℕ → Option ℕ
least_when nodes t spoiled f g least =
    if meet nodes f g
    then (if is_bad nodes t spoiled (record { first = f; second = g }) then smaller least g else least)
    else least

abbrev pub least_in_order : List At → Tables → List Pair → ℕ → ℕ → Option ℕ → Option ℕ
least_in_order nodes t spoiled f g least = least_when nodes t spoiled g f (least_when nodes t spoiled f g least)

abbrev pub least_with : List At → Tables → List Pair → ℕ → List ℕ → Option ℕ → Option ℕ
least_with nodes t spoiled f [] least = least
least_with nodes t spoiled f (g ∷ gs) least =
    least_with nodes t spoiled f gs (least_in_order nodes t spoiled f g least)

abbrev pub least_of : List At → Tables → List Pair → List ℕ → List ℕ → Option ℕ → Option ℕ
least_of nodes t spoiled [] gs least = least
least_of nodes t spoiled (f ∷ fs) gs least = least_of nodes t spoiled fs gs (least_with nodes t spoiled f gs least)

abbrev pub least_of_sets : List At → Tables → List Pair → Pair → Option ℕ → Option ℕ
least_of_sets nodes t spoiled p least =
    least_of nodes t spoiled (list_at t.fields p.first) (list_at t.fields p.second) least

abbrev pub least_in : List At → Tables → List Pair → List Pair → Option ℕ → Option ℕ
least_in nodes t spoiled [] least = least
least_in nodes t spoiled (p ∷ ps) least = least_in nodes t spoiled ps (least_of_sets nodes t spoiled p least)

-- the least place among the pairs that were found, once what is spoiled has spread from some
pub record IsLeastFrom (nodes : List At) (t : Tables) (found from : List Pair) (made : Option ℕ) : Type 0 where
  pub spoiled : List Pair
  pub spread : IsSpread nodes t found from spoiled
  pub least : made ≡ least_in nodes t spoiled found None

-- the least place of a field that can't merge, if there is one
abbrev pub IsLeastBreak : List At → Option ℕ → Type 0
IsLeastBreak nodes None = (place : ℕ) → Breaks nodes place → ⊥
IsLeastBreak nodes (Some least) = Breaks nodes least × ((place : ℕ) → Breaks nodes place → least ≤ place)
