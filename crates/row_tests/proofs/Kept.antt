-- What a set keeps of a table of its catalog.
use Rattle.std.proofs.Common.{◌≡◌, ℕ, zero, suc, List, [], ◌∷◌, map, length, get_or, Some, ap, ◌∙◌, subst, sym, arith}
use Rattle.std.specs.List.{slice_get}
use Rattle.std.proofs.lemmas.List.{length-map}
use Rattle.pg_base.specs.Lists.{Each}
use Rattle.pg_base.specs.Catalog.{CatalogParts}
use Rattle.pg_base.specs.declared.table_def.TableDef.{TableDef}
use Rattle.pg_base.specs.declared.table_def.ColumnDef.{ColumnDef}
use Rattle.pg_base.specs.declared.table_def.KeyDef.{KeyDef}
use Rattle.row_tables.specs.declared.columns.KeptColumns.{KeptColumns}
use Rattle.row_tables.specs.Set.{SetParts, IsSetOf, kept_columns, kept_at}

no_items : {A : Type 0} (P : List ℕ → Type 0) (f : A → List ℕ) (xs : List A) → length xs ≡ 0 → Each P (map f xs)
no_items P f [] e = tt
no_items P f (x ∷ xs) e = absurd (omega (arith, e))

module _ (d : TableDef) where
  kept_of : (ds : List TableDef) (at : ℕ) (other : KeptColumns) → slice_get ds at ≡ Some d → get_or (map kept_columns ds) at other ≡ kept_columns d
  kept_of [] at other e = absurd (cc)
  kept_of (t ∷ ds) zero other e = let same : t ≡ d = cc in ap kept_columns same
  kept_of (t ∷ ds) (suc at) other e = kept_of ds at other e

  module _ (c : CatalogParts) (s : SetParts) (table : ℕ) (there : slice_get c.tables table ≡ Some d) (is : IsSetOf c s) where
    kept_is : kept_at s table ≡ kept_columns d
    kept_is = ap (λ (kept : List KeptColumns). get_or kept table (record { keys = []; identities = [] })) is ∙ kept_of c.tables table (record { keys = []; identities = [] }) there

    pub cells_kept : (n : ℕ) → n ≡ length d.columns → n ≡ length (kept_at s table).identities
    cells_kept n e = e ∙ sym (length-map d.columns (λ (k : ColumnDef). k.identity)) ∙ ap (λ (k : KeptColumns). length k.identities) (sym kept_is)

    pub no_keys : (P : List ℕ → Type 0) → length d.keys ≡ 0 → Each P (kept_at s table).keys
    no_keys P e = subst (λ (k : KeptColumns). Each P k.keys) (sym kept_is) (no_items P (λ (k : KeyDef). k.columns) d.keys e)
