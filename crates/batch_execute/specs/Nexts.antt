-- The next place below the same one, of each place.
use Rattle.std.specs.Prelude.{ℕ, ◌+◌, if◌then◌else◌, List, [], ◌∷◌, Option, Some, None}
use Rattle.place_tree.specs.declared.place.Place.{Place}
use Rattle.place_tree.specs.Fold.{same_place}

-- the first of these places, which count from i on, that stands below the parent, or else their end
abbrev pub next_from : Option ℕ → ℕ → List Place → ℕ
next_from parent i [] = i
next_from parent i (p ∷ places) = if same_place p.parent parent then i else next_from parent (i + 1) places

abbrev pub nexts_from : ℕ → List Place → List ℕ
nexts_from i [] = []
nexts_from i (p ∷ places) = next_from p.parent (i + 1) places ∷ nexts_from (i + 1) places

abbrev pub next_or : ℕ → Option ℕ → ℕ
next_or i None = i + 1
next_or i (Some next) = next
