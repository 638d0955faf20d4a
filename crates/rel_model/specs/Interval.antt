-- The part of an ordered list that a window asks for.
use Rattle.std.specs.Prelude.{ℕ, ◌+◌, ◌-◌, not, Bool, true, false, min, max, List, Option, Some, None, length, take, drop, count_by}
use Rattle.pg_base.specs.declared.cell.Mark.{Mark}
use Rattle.rel_model.specs.declared.tables.Row.{Row}
use Rattle.rel_model.specs.declared.window.By.{By}
use Rattle.rel_model.specs.declared.window.Window.{Window}
use Rattle.rel_model.specs.Ordered.{stands_before, stands_after}

-- a row is before a mark or, where the mark counts too, not after it
abbrev pub is_before : List By → Mark → Bool → Row → Bool
is_before order mark true row = not (stands_after order mark row)
is_before order mark false row = stands_before order mark row

-- the number of rows that are not after the mark
abbrev pub begin_after : List By → Option Mark → List Row → ℕ
begin_after order None list = 0
begin_after order (Some mark) list = count_by (is_before order mark true) list

-- the number of rows before the mark
abbrev pub end_before : List By → Option Mark → List Row → ℕ
end_before order None list = length list
end_before order (Some mark) list = count_by (is_before order mark false) list

-- the end of the first n places of those from a up to b
abbrev pub end_of_first : Option ℕ → ℕ → ℕ → ℕ
end_of_first None a b = b
end_of_first (Some n) a b = min b (a + n)

-- the begin of the last n places of those from a up to b
abbrev pub begin_of_last : Option ℕ → ℕ → ℕ → ℕ
begin_of_last None a b = a
begin_of_last (Some n) a b = max a (b - n)

-- What a window leaves of the places from one on and up to another: none where it ends before it begins; of these not
-- the first `offset`; of these the first `first`; of these the last `last`.
abbrev pub windowed : ℕ → ℕ → Window → ℕ × ℕ
windowed a e w =
    let b = max a e in
    let c = min b (a + w.offset) in
    let d = end_of_first w.first c b in
    (begin_of_last w.last c d, d)

-- From which place of an ordered list on, and up to which: after the mark `after`, before the mark `before`, and of
-- these what the window leaves.
abbrev pub interval_of : List By → Window → List Row → ℕ × ℕ
interval_of order w list = windowed (begin_after order w.after list) (end_before order w.before list) w

-- the rows from one place up to another
abbrev pub rows_between : ℕ × ℕ → List Row → List Row
rows_between places list = take (places.1 - places.0) (drop places.0 list)
