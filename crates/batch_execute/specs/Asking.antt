-- Which row fields a step serves, by the roles of places.
use Rattle.std.specs.Prelude.{ℕ, Bool, true, false, ◌==◌, ◌&&◌, ◌||◌, not, List, Option, Some, None, slice_get}
use Rattle.std.specs.List.{list_any}
use Rattle.place_tree.specs.declared.place.Place.{Place}
use Rattle.plan_steps.specs.declared.plan.OutPlace.{OutPlace}
use Rattle.plan_steps.specs.Under.{is_below}
use Rattle.batch_execute.specs.declared.role.Role.{Role}
use Rattle.batch_execute.specs.declared.role.Role.TheVariants.{Failed, OfList, OfRow, Each, Same, OfLeaf}

-- a row field
abbrev pub is_field : Option Role → Bool
is_field None = false
is_field (Some (Failed message)) = true
is_field (Some (OfList shown)) = true
is_field (Some OfRow) = true
is_field (Some Each) = false
is_field (Some Same) = false
is_field (Some OfLeaf) = false

-- a row field without an error
abbrev pub is_well : Option Role → Bool
is_well None = false
is_well (Some (Failed message)) = false
is_well (Some (OfList shown)) = true
is_well (Some OfRow) = true
is_well (Some Each) = false
is_well (Some Same) = false
is_well (Some OfLeaf) = false

abbrev pub serves_any : List Place → List Role → List OutPlace → Option ℕ → ℕ → Bool
serves_any places roles out root k =
    list_any (λ o. ((o.step == k) && is_below places root o.place) && is_field (slice_get roles o.place)) out

abbrev pub serves_any_well : List Place → List Role → List OutPlace → Option ℕ → ℕ → Bool
serves_any_well places roles out root k =
    list_any (λ o. ((o.step == k) && is_below places root o.place) && is_well (slice_get roles o.place)) out

-- no row field, or one without an error
abbrev pub may_ask : List Place → List Role → List OutPlace → Option ℕ → ℕ → Bool
may_ask places roles out root k = not (serves_any places roles out root k) || serves_any_well places roles out root k
