-- What a statement found for each of its keys, and keys that ascend.
use Rattle.std.specs.Prelude.{◌≡◌, List, [], ◌∷◌, ⊤}
use Rattle.std.specs.declared.cmp.Ordering.TheVariants.{Less}
use Rattle.pg_base.specs.Lists.{Each}
use Rattle.rel_model.specs.declared.window.By.{By}
use Rattle.rel_model.specs.Ordered.{cells_order}
use Rattle.stmt_tree.specs.declared.found.Found.{Found}
use Rattle.stmt_tree.specs.declared.found.Key.{Key}

-- what was found for each key, in their order; and the order in which the keys stand
pub record FetchedParts : Type 0 where
  pub order : List By
  pub keys : List Key
  pub found : List Found

-- each stands before those after it
abbrev pub AreAscending : List By → List Key → Type 0
AreAscending order [] = ⊤
AreAscending order (k ∷ keys) = Each (λ j. cells_order order k.cells j.cells ≡ Less) keys × AreAscending order keys
