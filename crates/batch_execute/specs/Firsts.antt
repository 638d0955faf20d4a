-- The first place below each, in a table.
use Rattle.std.specs.Prelude.{◌≡◌, ℕ, ◌+◌, List, Option, Some, None, slice_get, IfSome}
use Rattle.place_tree.specs.declared.place.Place.{Place}
use Rattle.batch_execute.specs.Nexts.{next_from}

-- where it stands for a parent: that of the root comes first
abbrev pub slot_of : Option ℕ → ℕ
slot_of None = 0
slot_of (Some place) = place + 1

-- the table has the first of these places, which count from i on, below each parent that it has a slot for
abbrev pub AreFirsts : List ℕ → ℕ → List Place → Type 0
AreFirsts firsts i places =
    (parent : Option ℕ) → IfSome (slice_get firsts (slot_of parent)) (λ n. n ≡ next_from parent i places)
