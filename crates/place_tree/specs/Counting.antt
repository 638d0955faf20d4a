-- An asker for a test: its state at each place below another one, at the root one state, or a list of two at the place
-- at 2.
use Rattle.std.specs.Prelude.{ℕ, pos, ◌==◌, ◌∷◌, [], if◌then◌else◌, Option, Some, None}
use Rattle.place_tree.specs.Fold.{Answer, Shows, One, Many, int}

abbrev pub counted : ℕ → ℕ → Option ℕ → ℕ → Answer ℕ
counted one number (Some above) state = Shows (int (pos state))
counted one number None state = if number == 2 then Many (1 ∷ 2 ∷ []) else One one
