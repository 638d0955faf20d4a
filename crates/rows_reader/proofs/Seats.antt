-- Where the table of a row stands.
use Rattle.std.proofs.Common.{◌≡◌, ℕ, zero, suc, pos, ◌<◌, List, [], ◌∷◌, length, replicate, map, get_or, Some, refl, sym, ap, ◌∙◌, subst, arith}
use Rattle.std.specs.Prelude.{slice_get, IsSomeAnd}
use Rattle.pg_base.specs.Lists.{Each, EachPair}
use Rattle.pg_base.specs.Catalog.{CatalogParts, IsValidCatalog, IsValidTable, IsValidLink, RefersTo}
use Rattle.pg_base.specs.declared.table_def.TableDef.{TableDef}
use Rattle.rel_model.specs.declared.tables.TableRows.{TableRows}
use Rattle.ddl_reader.specs.declared.script.RowText.{RowText}
use Rattle.ddl_reader.specs.Rows.{IsRowOf}
use Rattle.rows_reader.specs.Rows.{list_with, row_cells}
use Rattle.rows_reader.specs.Faults.{fault_of}
use Rattle.rows_reader.specs.Kept.{Index, IsIndexOf, IsKept, HasCounters, AreKept}
use Rattle.rows_reader.specs.Loaded.{table_at, list_at, no_rows, opening, next_fault, next_cells}
use Rattle.rows_reader.proofs.Places.{Each_map, get_is, pair_length}
use Rattle.rows_reader.proofs.Grown.{pair_index}

pub place_lt : {A : Type 0} (xs : List A) (i : ℕ) (x : A) → slice_get xs i ≡ Some x → i < length xs
place_lt [] i x e = absurd (cc)
place_lt (y ∷ xs) zero x e = omega arith
place_lt (y ∷ xs) (suc i) x e = let k = place_lt xs i x e in omega (arith, k)

pub place_and_lt : {A : Type 0} (xs : List A) (i : ℕ) (P : A → Type 0) → IsSomeAnd (slice_get xs i) P → i < length xs
place_and_lt [] i P h = absurd h
place_and_lt (y ∷ xs) zero P h = omega arith
place_and_lt (y ∷ xs) (suc i) P h = let k = place_and_lt xs i P h in omega (arith, k)

-- within a list no default counts
pub same_default : {A : Type 0} (xs : List A) (i : ℕ) (d e : A) → i < length xs → get_or xs i d ≡ get_or xs i e
same_default [] i d e lt = absurd (omega arith)
same_default (x ∷ xs) zero d e lt = refl
same_default (x ∷ xs) (suc i) d e lt = same_default xs i d e (omega arith)

pub row_within : (c : CatalogParts) (row : RowText) → IsRowOf c row → row.table < length c.tables
row_within c row h = place_lt c.tables row.table h.table h.stands

pub rows_long : (c : CatalogParts) (lists : List TableRows) (indexes : List (List Index)) → AreKept c lists indexes → length c.tables ≡ length lists
rows_long c lists indexes h = pair_length HasCounters c.tables lists h.counters

pub indexes_long : (c : CatalogParts) (lists : List TableRows) (indexes : List (List Index)) → AreKept c lists indexes → length lists ≡ length indexes
indexes_long c lists indexes h = pair_length IsKept lists indexes h.kept

-- a table, its list and its indexes, as they are read at a place
module _ (c : CatalogParts) (lists : List TableRows) (indexes : List (List Index)) (kept : AreKept c lists indexes) (at : ℕ) (lt : at < length c.tables) where
  pub list_lt : at < length lists
  list_lt = let l = rows_long c lists indexes kept in omega (arith, l, lt)

  pub indexes_lt : at < length indexes
  indexes_lt = let l = rows_long c lists indexes kept in let m = indexes_long c lists indexes kept in omega (arith, l, m, lt)

  pub counters_at : (t : TableDef) (list : TableRows) → t ≡ get_or c.tables at t → list ≡ get_or lists at list → HasCounters t list
  counters_at t list p q = pair_index HasCounters c.tables lists at t t list list lt (sym p) (sym q) kept.counters

  pub kept_at : (list : TableRows) (own : List Index) → list ≡ get_or lists at list → own ≡ get_or indexes at own → IsKept list own
  kept_at list own p q = pair_index IsKept lists indexes at list list own own list_lt (sym p) (sym q) kept.kept

  pub table_is : (t : TableDef) → t ≡ get_or c.tables at t → table_at c at ≡ t
  table_is t p = same_default c.tables at _ t lt ∙ sym p

  pub list_is : (list : TableRows) → list ≡ get_or lists at list → list_at lists at ≡ list
  list_is list q = same_default lists at _ list list_lt ∙ sym q

  pub there : (t : TableDef) → t ≡ get_or c.tables at t → slice_get c.tables at ≡ Some t
  there t p = get_is c.tables at t lt ∙ ap (λ (x : TableDef). Some x) (sym p)

-- a row's fault, and the lists with it, by the table and the list that are read
pub fault_is : (c : CatalogParts) (lists : List TableRows) (row : RowText) (t : TableDef) (list : TableRows) → table_at c row.table ≡ t → list_at lists row.table ≡ list → fault_of c.enums t list row ≡ next_fault c lists row
fault_is c lists row t list p q =
    ap (λ (u : TableDef). fault_of c.enums u list row) (sym p) ∙ ap (λ (l : TableRows). fault_of c.enums (table_at c row.table) l row) (sym q)

pub with_is : (c : CatalogParts) (lists : List TableRows) (row : RowText) (t : TableDef) (list : TableRows) → table_at c row.table ≡ t → list_at lists row.table ≡ list → list_with t list (row_cells c.enums t list row) ≡ list_with (table_at c row.table) (list_at lists row.table) (next_cells c lists row)
with_is c lists row t list p q =
    ap (λ (u : TableDef). list_with u list (row_cells c.enums u list row)) (sym p) ∙ ap (λ (l : TableRows). list_with (table_at c row.table) l (row_cells c.enums (table_at c row.table) l row)) (sym q)

-- the targets of a valid catalog's links
pub targets_within : (c : CatalogParts) → IsValidCatalog c → Each (λ t. Each (λ l. l.target < length c.tables) t.links) c.tables
targets_within c valid = Each_map (IsValidTable c) _ (λ t v. Each_map (IsValidLink c t.columns) _ (λ l w. place_and_lt c.tables l.target (RefersTo t.columns l) w.target) t.links v.links) c.tables valid.tables

-- before any row
pub opening_kept : (c : CatalogParts) (lists : List TableRows) (indexes : List (List Index)) → lists ≡ opening c → length indexes ≡ length c.tables → Each (Each (IsIndexOf [])) indexes → AreKept c lists indexes
opening_kept c lists indexes same long empty = subst (λ (l : List TableRows). AreKept c l indexes) (sym same) (record { counters = counters c.tables; kept = none c.tables indexes long empty })
  where
    zeros : (n : ℕ) → length (replicate n (pos 0)) ≡ n
    zeros zero = refl
    zeros (suc n) = ap suc (zeros n)

    counters : (tables : List TableDef) → EachPair HasCounters tables (map no_rows tables)
    counters [] = tt
    counters (t ∷ tables) = (zeros (length t.columns), counters tables)

    none : (tables : List TableDef) (indexes : List (List Index)) → length indexes ≡ length tables → Each (Each (IsIndexOf [])) indexes → EachPair IsKept (map no_rows tables) indexes
    none [] [] e h = tt
    none [] (i ∷ indexes) e h = absurd (omega (arith, e))
    none (t ∷ tables) [] e h = absurd (omega (arith, e))
    none (t ∷ tables) (i ∷ indexes) e h = (record { next = refl; indexes = h.0 }, none tables indexes (let k : length indexes ≡ length tables = omega (arith, e) in k) h.1)
