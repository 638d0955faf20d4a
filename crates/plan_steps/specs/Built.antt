-- A list in which each item is made from those before it.
use Rattle.std.specs.Prelude.{List, [], ◌∷◌, ◌++◌}

abbrev pub built : {A B : Type 0} → (List B → A → B) → List B → List A → List B
built next made [] = made
built next made (a ∷ rest) = built next (made ++ next made a ∷ []) rest
