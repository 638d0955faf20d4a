-- Where a row with a number stands in a list.
use Rattle.std.specs.Prelude.{◌≡◌, ℕ, ◌<◌, List, length, slice_index_or, Option, None, Some}
use Rattle.rel_model.specs.declared.tables.Row.{Row}
use Rattle.rel_model.specs.Picked.{row_numbered}

-- a row with the number stands at the place, or none has it
abbrev pub IsSeat : ℕ → List Row → Option ℕ → Type 0
IsSeat number rows None = row_numbered rows number ≡ None
IsSeat number rows (Some at) = (at < length rows) × ((d : Row) → (slice_index_or rows at d).number ≡ number)
