-- Examples of rows in an order, and of windows on them.
use Rattle.std.specs.Prelude.{ℕ, pos, neg_ℤ, true, false, List, [], ◌∷◌, Option, None, codes}
use Rattle.pg_base.specs.declared.cell.Cell.{Cell}
use Rattle.pg_base.specs.declared.cell.Cell.TheVariants.{Null, Int, Bool as Truth, Text, EnumCase}
use Rattle.pg_base.specs.declared.cell.Mark.{Mark}
use Rattle.rel_model.specs.declared.tables.Row.{Row}
use Rattle.rel_model.specs.declared.window.By.{By}
use Rattle.rel_model.specs.declared.window.Window.{Window}

abbrev row : ℕ → Cell → Cell → Row
row number a b = record { number = number; cells = a ∷ b ∷ [] }

-- an integer and a text
abbrev pub rows : List Row
rows =
    row 1 (Int (pos 5)) (Text (codes "b"))
    ∷ row 2 Null (Text (codes "a"))
    ∷ row 3 (Int (neg_ℤ (pos 7))) Null
    ∷ row 5 (Int (pos 5)) (Text (codes "ab"))
    ∷ []

-- false and true, and two cases of an enum
abbrev pub others : List Row
others =
    row 1 (Truth true) (EnumCase 1)
    ∷ row 2 (Truth false) (EnumCase 0)
    ∷ row 4 Null (EnumCase 1)
    ∷ []

abbrev up : ℕ → By
up column = record { column = column; descending = false }

abbrev down : ℕ → By
down column = record { column = column; descending = true }

abbrev pub first_up : List By
first_up = up 0 ∷ []

abbrev pub first_down : List By
first_down = down 0 ∷ []

abbrev pub second_up : List By
second_up = up 1 ∷ []

abbrev pub down_then_up : List By
down_then_up = down 0 ∷ up 1 ∷ []

-- ---- windows

-- a place beside those of the rows: there is no row 4
abbrev pub gone : Mark
gone = record { values = Int (pos 5) ∷ []; number = 4 }

abbrev pub lowest : Mark
lowest = record { values = Int (neg_ℤ (pos 7)) ∷ []; number = 3 }

abbrev pub highest : Mark
highest = record { values = Null ∷ []; number = 2 }

abbrev pub window : Option ℕ → Option ℕ → ℕ → Option Mark → Option Mark → Window
window first last offset before after =
    record { first = first; last = last; offset = offset; before = before; after = after }

abbrev pub all : Window
all = window None None 0 None None
