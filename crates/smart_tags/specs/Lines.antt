-- The lines of a comment, and which of them are tags.
use Rattle.std.specs.Prelude.{ℕ, Bool, false, ◌&&◌, ◌==◌, if◌then◌else◌, List, [], ◌∷◌, Option, Some, None}
use Rattle.std.specs.List.{onto_first, join_with_byte}

-- the parts between line ends, which are LF and CR LF
unfoldable pub lines : List ℕ → List (List ℕ)
lines [] = [] ∷ []
lines (b ∷ []) = if b == 10 then [] ∷ [] ∷ [] else (b ∷ []) ∷ []
lines (b ∷ c ∷ z) =
    if b == 10 then [] ∷ lines (c ∷ z)
    else (if b == 13 && c == 10 then [] ∷ lines z
    else onto_first b (lines (c ∷ z)))

-- it begins with an at sign
abbrev pub is_tag : List ℕ → Bool
is_tag [] = false
is_tag (b ∷ z) = b == 64

-- the tags: the lines in front that begin with an at sign
abbrev pub tag_lines : List (List ℕ) → List (List ℕ)
tag_lines [] = []
tag_lines (l ∷ ls) = if is_tag l then l ∷ tag_lines ls else []

-- the other lines
abbrev pub other_lines : List (List ℕ) → List (List ℕ)
other_lines [] = []
other_lines (l ∷ ls) = if is_tag l then other_lines ls else l ∷ ls

abbrev pub unless_empty : List ℕ → Option (List ℕ)
unless_empty [] = None
unless_empty (b ∷ z) = Some (b ∷ z)

-- the other lines, joined by LF
abbrev pub description_of : List (List ℕ) → Option (List ℕ)
description_of ls = unless_empty (join_with_byte 10 (other_lines ls))
