-- What the look-ups beside a growing catalog say.
use Rattle.std.proofs.Common.{◌≡◌, ℕ, ◌<◌, ◌≤◌, List, length, get_or, Option, None, Some, IfSome, refl, sym, ap, subst, ◌∙◌, arith}
use Rattle.std.proofs.lemmas.List.{length-map}
use Rattle.std.specs.List.{slice_get}
use Rattle.std.specs.Option.{option_map}
use Rattle.std.proofs.lemmas.Option.{slice_get-map, slice_get-get_or}
use Rattle.pg_base.specs.Limits.{most_columns}
use Rattle.pg_base.specs.Catalog.{CatalogParts, IsValidCatalog, IsValidTable}
use Rattle.pg_base.specs.declared.table_def.TableDef.{TableDef}
use Rattle.pg_catalog.specs.Names.{column_names, place_of, places_of}
use Rattle.pg_catalog.specs.Indexed.{IsIndexed}
use Rattle.pg_catalog.proofs.EachFacts.{Each-get}

by_table : (c : CatalogParts) → IsValidCatalog c → (at : ℕ) (found : Option TableDef) → slice_get c.tables at ≡ found → IfSome (option_map column_names found) (λ names. length names ≤ most_columns)
by_table c valid at None e = tt
by_table c valid at (Some t) e = subst (λ (n : ℕ). n ≤ most_columns) (sym (length-map t.columns (λ column. column.name))) (Each-get (IsValidTable c) c.tables at t valid.tables e).column_limit

pub short_columns : (c : CatalogParts) (es ts : List (List ℕ)) (cs : List (List (List ℕ))) → IsIndexed c es ts cs → (at : ℕ) (found : Option (List (List ℕ))) → found ≡ slice_get cs at → IfSome found (λ names. length names ≤ most_columns)
short_columns c es ts cs h at found e =
    let same : found ≡ option_map column_names (slice_get c.tables at) = e ∙ ap (λ l. slice_get l at) h.columns ∙ slice_get-map column_names c.tables at in
    subst (λ (o : Option (List (List ℕ))). IfSome o (λ names. length names ≤ most_columns)) (sym same) (by_table c h.valid at (slice_get c.tables at) refl)

module _ (c s : CatalogParts) (is : c ≡ s) (es ts : List (List ℕ)) (cs : List (List (List ℕ))) (h : IsIndexed c es ts cs) (at : ℕ) (lt : at < length s.tables) (x : List (List ℕ)) (item : x ≡ get_or cs at x) where
  there : slice_get cs at ≡ Some x
  there =
      let many : length cs ≡ length s.tables = ap length h.columns ∙ length-map c.tables column_names ∙ ap (λ (d : CatalogParts). length d.tables) is in
      slice_get-get_or cs at x (omega arith) ∙ ap (λ (y : List (List ℕ)). Some y) (sym item)

  pub short_at : length x ≤ most_columns
  short_at = short_columns c es ts cs h at (Some x) (sym there)

  pub places_there : (some : List (List ℕ)) (places : List ℕ) → places ≡ places_of x some → (t : TableDef) → slice_get s.tables at ≡ Some t → places ≡ places_of (column_names t) some
  places_there some places e t stands =
      let same : Some x ≡ Some (column_names t) = sym there ∙ ap (λ l. slice_get l at) h.columns ∙ slice_get-map column_names c.tables at ∙ ap (λ (d : CatalogParts). option_map column_names (slice_get d.tables at)) is ∙ ap (option_map column_names) stands in
      let names : x ≡ column_names t = cc in
      e ∙ ap (λ (n : List (List ℕ)). places_of n some) names

  pub place_there : (name : List ℕ) (o : Option ℕ) → o ≡ place_of x name → (t : TableDef) → slice_get s.tables at ≡ Some t → o ≡ place_of (column_names t) name
  place_there name o e t stands =
      let same : Some x ≡ Some (column_names t) = sym there ∙ ap (λ l. slice_get l at) h.columns ∙ slice_get-map column_names c.tables at ∙ ap (λ (d : CatalogParts). option_map column_names (slice_get d.tables at)) is ∙ ap (option_map column_names) stands in
      let names : x ≡ column_names t = cc in
      e ∙ ap (λ (n : List (List ℕ)). place_of n name) names
