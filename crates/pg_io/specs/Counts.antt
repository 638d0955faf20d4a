-- Counts of faults by name.
use Rattle.std.specs.Prelude.{◌≡◌, ◌≢◌, ℕ, ◌+◌, ◌-◌, ◌^◌, ◌<◌, min, List, [], ◌∷◌, ◌++◌, length, slice_index_or, slice_set, Option, Some, None, if◌then◌else◌}
use Rattle.std.specs.Str.{bytes_eq}
use Rattle.pg_io.specs.declared.counts.NameCount.{NameCount}
use Rattle.pg_io.specs.Streams.{Rose}

-- how often calls have failed for the name
unfoldable pub count_of : List NameCount → List ℕ → ℕ
count_of [] name = 0
count_of (c ∷ counts) name = if bytes_eq c.name name then c.faults else count_of counts name

-- the name's count has risen, and those of the others have stayed
pub record Raises (before now : List NameCount) (name : List ℕ) : Type 0 where
  pub rose : Rose (count_of before name) (count_of now name)
  pub others : (other : List ℕ) → other ≢ name → count_of now other ≡ count_of before other

abbrev pub one_more : NameCount → NameCount
one_more c = record { name = c.name; faults = min (c.faults + 1) (2 ^ 64 - 1) }

-- the count at the place raised by one counts one more fault of the name
abbrev pub RaisesAt : List NameCount → List ℕ → ℕ → Type 0
RaisesAt counts name place =
    (c : NameCount) → c ≡ slice_index_or counts place c → c.faults < 2 ^ 64
    → Raises counts (slice_set counts place (one_more c)) name

-- where a fault of the name is to be counted
abbrev pub IsPlaceOf : List NameCount → List ℕ → Option ℕ → Type 0
IsPlaceOf counts name None = Raises counts (counts ++ record { name = name; faults = 1 } ∷ []) name
IsPlaceOf counts name (Some place) = (place < length counts) × RaisesAt counts name place
