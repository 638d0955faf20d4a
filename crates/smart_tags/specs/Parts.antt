-- The first part of a text, and what stands after it.
use Rattle.std.specs.Prelude.{ℕ, ◌&&◌, ◌==◌, if◌then◌else◌, List, [], ◌∷◌, drop}

-- how many bytes of the end of a line stand in front
abbrev pub break_len : List ℕ → ℕ
break_len [] = 0
break_len (b ∷ []) = if b == 10 then 1 else 0
break_len (b ∷ c ∷ z) = if b == 10 then 1 else (if b == 13 && c == 10 then 2 else 0)

-- the first line
unfoldable pub line_of : List ℕ → List ℕ
line_of [] = []
line_of (b ∷ z) = if break_len (b ∷ z) == 0 then b ∷ line_of z else []

-- what stands after the end of the first line
unfoldable pub after_line : List ℕ → List ℕ
after_line [] = []
after_line (b ∷ z) = if break_len (b ∷ z) == 0 then after_line z else drop (break_len (b ∷ z)) (b ∷ z)

-- the bytes without the CR of each CR LF
unfoldable pub without_cr : List ℕ → List ℕ
without_cr [] = []
without_cr (b ∷ z) = if break_len (b ∷ z) == 2 then without_cr z else b ∷ without_cr z
