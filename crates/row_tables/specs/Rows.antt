-- Rows of a table that are looked for by a key, put in place and left out.
use Rattle.std.specs.Prelude.{ℕ, ℤ, ◌+◌, nat_le, int_lt, Bool, true, false, ◌==◌, ◌||◌, not, if◌then◌else◌, List, [], ◌∷◌, length, Option, None, Some}
use Rattle.std.specs.List.{list_all}
use Rattle.pg_base.specs.declared.cell.Cell.{Cell}
use Rattle.pg_base.specs.declared.cell.Cell.TheVariants as cell
use Rattle.rel_model.specs.declared.tables.Row.{Row}
use Rattle.rel_model.specs.Tables.{cells_at}
use Rattle.rel_model.specs.Picked.{has_key, passes}

-- the first row that passes
abbrev pub first : (Row → Bool) → List Row → Option Row
first p [] = None
first p (r ∷ rows) = if p r then Some r else first p rows

-- the row with these cells in the key's columns; cells with a null, or of another number, name no row
abbrev pub row_by : List ℕ → List Cell → List Row → Option Row
row_by places cells rows = if length cells == length places then first (passes places cells []) rows else None

-- the rows with one in place of the one with its number, or last
abbrev pub put : Row → List Row → List Row
put r [] = r ∷ []
put r (s ∷ rows) = if s.number == r.number then r ∷ rows else s ∷ put r rows

-- the rows but the one with the number
abbrev pub left_out : ℕ → List Row → List Row
left_out number [] = []
left_out number (s ∷ rows) = if s.number == number then rows else s ∷ left_out number rows

-- the next number, above one that is given
abbrev pub next_above : ℕ → ℕ → ℕ
next_above next number = if nat_le next number then number + 1 else next

-- an identity counter, raised to at least a written cell; other columns have none
abbrev pub raised : Bool → ℤ → Cell → ℤ
raised true counter (cell.Int n) = if int_lt counter n then n else counter
raised true counter cell.Null = counter
raised true counter (cell.Bool b) = counter
raised true counter (cell.Text t) = counter
raised true counter (cell.EnumCase place) = counter
raised false counter value = counter

abbrev pub all_raised : List Bool → List ℤ → List Cell → List ℤ
all_raised (b ∷ identities) (n ∷ counters) (value ∷ cells) = raised b n value ∷ all_raised identities counters cells
all_raised _ _ _ = []

-- no other row has a row's cells in the key's columns, none of them null
abbrev pub is_free_in : List ℕ → Row → List Row → Bool
is_free_in places r rows =
    list_all (λ s. s.number == r.number || not (has_key places (cells_at places r.cells) s.cells)) rows
