-- Paths from the root on, as the code keeps them.
use Rattle.std.proofs.Common.{◌≡◌, List, [], ◌∷◌, ◌++◌, map, reverse, refl, sym, ap, ◌∙◌}
use Rattle.std.proofs.lemmas.List.{reverse-append, reverse-reverse}
use Rattle.place_tree.specs.Events.{from_root}
use Rattle.response_text.specs.declared.path.Part.{Part}
use Rattle.response_text.specs.Paths.{part_of, path_of}

map_append : (xs ys : List Part) → map part_of (xs ++ ys) ≡ map part_of xs ++ map part_of ys
map_append [] ys = refl
map_append (x ∷ xs) ys = ap (λ l. part_of x ∷ l) (map_append xs ys)

reversed : (xs : List Part) → from_root (map part_of xs) ≡ map part_of (reverse xs)
reversed [] = refl
reversed (x ∷ xs) =
    ap (λ l. l ++ part_of x ∷ []) (reversed xs) ∙ sym (map_append (reverse xs) (x ∷ []))
    ∙ ap (map part_of) (sym (reverse-append (x ∷ []) xs))

pub from_outermost : (parts : List Part) → from_root (path_of parts) ≡ map part_of parts
from_outermost parts = reversed (reverse parts) ∙ ap (map part_of) (reverse-reverse parts)
