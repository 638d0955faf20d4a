-- Histories: lists of entries, each beside the number of the seat that made it.
use Rattle.std.specs.Prelude.{ℕ, ◌==◌, cond, List, [], ◌∷◌, map}
use Rattle.turn_cell.specs.declared.view.Entry.{Entry}

module _ {E : Type 0} where
  abbrev pub entry : ℕ → E → Entry E
  entry k x = record { maker = k; what = x }

  -- the entries without their makers
  abbrev pub plain : List (Entry E) → List E
  plain = map (λ (e : Entry E). e.what)

  -- the entries with one maker; those of an opening list have the number 0
  abbrev pub marked : ℕ → List E → List (Entry E)
  marked k = map (entry k)

  -- the entries that the seat with this number made, in order
  abbrev pub made_by : ℕ → List (Entry E) → List E
  made_by k [] = []
  made_by k (e ∷ es) = cond (k == e.maker) (e.what ∷ made_by k es) (made_by k es)
