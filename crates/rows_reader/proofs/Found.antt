-- What it says that certain cells stand, or don't, in rows.
use Rattle.std.proofs.Common.{◌≡◌, ℕ, zero, suc, List, [], ◌∷◌, ◌++◌, Bool, true, false, not, ◌&&◌, ◌||◌, refl, sym, ◌∙◌, subst}
use Rattle.std.specs.Prelude.{slice_get, IsSomeAnd}
use Rattle.std.specs.Bool.{Decides}
use Rattle.std.specs.Cmp.Lexicographic.{pointwise_decides}
use Rattle.pg_base.specs.Lists.{Each}
use Rattle.pg_base.specs.declared.cell.Cell.{Cell}
use Rattle.rel_model.specs.declared.tables.Row.{Row}
use Rattle.rel_model.specs.Tables.{cells_at, HoldNoNull, AgreeAt, IsUniqueIn}
use Rattle.rel_model.specs.Picked.{is_null}
use Rattle.rel_model.proofs.Agreeing.{same_is, null_is}
use Rattle.rows_reader.specs.Keys.{same_cells, stands, keys_at, has_null, is_taken}
use Rattle.rows_reader.proofs.Places.{Each_append}
use Rattle.rows_reader.proofs.NoFault.{either_false}

pub cells_are : (a b : List Cell) → Decides (same_cells a b) (a ≡ b)
cells_are a b = pointwise_decides same_is a b

pub without_null : (key : List Cell) → HoldNoNull key → has_null key ≡ false
without_null [] h = refl
without_null (v ∷ key) h = by (is_null v) refl (without_null key h.1)
  where
    by : (b : Bool) → is_null v ≡ b → has_null key ≡ false → (b || has_null key) ≡ false
    by true t rest = absurd (h.0 ((null_is v).0 t))
    by false t rest = rest

-- cells of which none stands are those of no row
pub none_stands : (places : List ℕ) (rows : List Row) (key : List Cell) → stands (keys_at places rows) key ≡ false → Each (λ s. ¬ (cells_at places s.cells ≡ key)) rows
none_stands places [] key e = tt
none_stands places (s ∷ rows) key e =
    let both = either_false (same_cells key (cells_at places s.cells)) (stands (keys_at places rows) key) e in
    ((λ k. absurd (let t : same_cells key (cells_at places s.cells) ≡ true = (cells_are key (cells_at places s.cells)).1 (sym k) in let f = both.0 in let bad : true ≡ false = sym t ∙ f in cc)), none_stands places rows key both.1)

-- cells that stand are those of some row
pub some_stands : (places : List ℕ) (rows : List Row) (key : List Cell) → stands (keys_at places rows) key ≡ true → (at : ℕ) × IsSomeAnd (slice_get rows at) (λ s. cells_at places s.cells ≡ key)
some_stands places [] key e = absurd (cc)
some_stands places (s ∷ rows) key e = by (same_cells key (cells_at places s.cells)) refl e (some_stands places rows key)
  where
    by : (b : Bool) → same_cells key (cells_at places s.cells) ≡ b → (b || stands (keys_at places rows) key) ≡ true
        → (stands (keys_at places rows) key ≡ true → (at : ℕ) × IsSomeAnd (slice_get rows at) (λ s. cells_at places s.cells ≡ key))
        → (at : ℕ) × IsSomeAnd (slice_get (s ∷ rows) at) (λ s. cells_at places s.cells ≡ key)
    by true t h rest = (zero, sym ((cells_are key (cells_at places s.cells)).0 t))
    by false t h rest = let r = rest h in (suc r.0, r.1)

-- ---- keys that stay unique

apart : (places : List ℕ) (r s : Row) → ¬ (cells_at places s.cells ≡ cells_at places r.cells) → ¬ (AgreeAt places s r)
apart places r s n h = n h.0

free_apart : (places : List ℕ) (rows : List Row) (r : Row) → is_taken places rows r.cells ≡ false → Each (λ s. ¬ (AgreeAt places s r)) rows
free_apart places rows r e = by (has_null (cells_at places r.cells)) refl e
  where
    nulls : (rest : List Row) → has_null (cells_at places r.cells) ≡ true → Each (λ s. ¬ (AgreeAt places s r)) rest
    nulls [] t = tt
    nulls (s ∷ rest) t = ((λ h. absurd (let f = without_null (cells_at places r.cells) (subst HoldNoNull h.0 h.1) in let bad : true ≡ false = sym t ∙ f in cc)), nulls rest t)

    all : (rest : List Row) → Each (λ s. ¬ (cells_at places s.cells ≡ cells_at places r.cells)) rest → Each (λ s. ¬ (AgreeAt places s r)) rest
    all [] h = tt
    all (s ∷ rest) h = (apart places r s h.0, all rest h.1)

    by : (b : Bool) → has_null (cells_at places r.cells) ≡ b → (not b && stands (keys_at places rows) (cells_at places r.cells)) ≡ false → Each (λ s. ¬ (AgreeAt places s r)) rows
    by true t h = nulls rows t
    by false t h = all rows (none_stands places rows (cells_at places r.cells) h)

unique_more : (places : List ℕ) (rows : List Row) (r : Row) → IsUniqueIn rows places → Each (λ s. ¬ (AgreeAt places s r)) rows → IsUniqueIn (rows ++ r ∷ []) places
unique_more places [] r u h = (tt, tt)
unique_more places (s ∷ rows) r u h = (Each_append (λ t. ¬ (AgreeAt places s t)) rows r u.0 h.0, unique_more places rows r u.1 h.1)

pub stays_unique : (places : List ℕ) (rows : List Row) (r : Row) → IsUniqueIn rows places → is_taken places rows r.cells ≡ false → IsUniqueIn (rows ++ r ∷ []) places
stays_unique places rows r u e = unique_more places rows r u (free_apart places rows r e)
