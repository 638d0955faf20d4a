-- Keys that stay unique, and tables that have the form of a set.
use Rattle.std.proofs.Common.{◌≡◌, ◌≢◌, ℕ, zero, suc, ◌<◌, ◌==◌, List, [], ◌∷◌, length, get_or, Bool, true, false, ◌&&◌, not, refl, sym, ap, ◌∙◌, subst, arith}
use Rattle.std.specs.Prelude.{◌||◌, if◌then◌else◌, slice_get}
use Rattle.std.proofs.lemmas.Bool.Decides.{nat_tests}
use Rattle.pg_base.specs.declared.cell.Cell.{Cell}
use Rattle.pg_base.specs.declared.table_def.TableDef.{TableDef}
use Rattle.pg_base.specs.Lists.{Each, EachPair}
use Rattle.pg_base.specs.Catalog.{CatalogParts}
use Rattle.rel_model.specs.declared.tables.Row.{Row}
use Rattle.rel_model.specs.declared.tables.TableRows.{TableRows}
use Rattle.rel_model.specs.declared.tables.Tables.{Tables}
use Rattle.rel_model.specs.Tables.{cells_at, HoldNoNull, AgreeAt, IsUniqueIn, IsValidList, AreValidTables}
use Rattle.rel_model.specs.Picked.{has_key, rows_in, AreRising}
use Rattle.rel_model.proofs.Rising.{each_map}
use Rattle.rel_model.proofs.Agreeing.{key_is}
use Rattle.row_tables.specs.Rows.{put, is_free_in}
use Rattle.row_tables.specs.Set.{SetParts, IsListOf, AreListsOf, list_at}

-- ---- keys

both_true : (a b : Bool) → (a && b) ≡ true → (a ≡ true) × (b ≡ true)
both_true true b e = (refl, e)
both_true false b e = cc

other_true : (a b : Bool) → (a || not b) ≡ true → a ≡ false → b ≡ false
other_true true b e f = cc
other_true false true e f = cc
other_true false false e f = refl

length_cells : (places : List ℕ) (cells : List Cell) → length (cells_at places cells) ≡ length places
length_cells [] cells = refl
length_cells (p ∷ places) cells = ap suc (length_cells places cells)

module _ (places : List ℕ) (r : Row) where
  abbrev key : List Cell
  key = cells_at places r.cells

  abbrev Apart : Row → Type 0
  Apart s = s.number ≢ r.number → has_key places key s.cells ≡ false

  all_apart : (rows : List Row) → is_free_in places r rows ≡ true → Each Apart rows
  all_apart [] e = tt
  all_apart (s ∷ rows) e =
      let b = both_true (s.number == r.number || not (has_key places key s.cells)) (is_free_in places r rows) e in
      ((λ n. other_true (s.number == r.number) (has_key places key s.cells) b.0 (grind (arith, nat_tests, n))), all_apart rows b.1)

  not_agree : (s : Row) → has_key places key s.cells ≡ false → ¬ ((cells_at places s.cells ≡ key) × HoldNoNull key)
  not_agree s f h = absurd (let t : has_key places key s.cells ≡ true = (key_is places key s.cells (length_cells places r.cells)).1 h in let k : true ≡ false = sym t ∙ f in cc)

  agrees_not : (s : Row) → s.number ≢ r.number → Apart s → ¬ (AgreeAt places r s)
  agrees_not s n f h = not_agree s (f n) (sym h.0, h.1)

  before_not : (s : Row) → s.number ≢ r.number → Apart s → ¬ (AgreeAt places s r)
  before_not s n f h = not_agree s (f n) (h.0, subst HoldNoNull h.0 h.1)

  each_put : (P : Row → Type 0) (rows : List Row) → P r → Each P rows → Each P (put r rows)
  each_put P [] h k = (h, tt)
  each_put P (s ∷ rows) h k = by (s.number == r.number) (each_put P rows h k.1)
    where
      by : (b : Bool) → Each P (put r rows) → Each P (if b then r ∷ rows else s ∷ put r rows)
      by true below = (h, k.1)
      by false below = (k.0, below)

  later_not : (n : ℕ) (rows : List Row) → n ≡ r.number → Each (λ t. n < t.number) rows → Each Apart rows → Each (λ t. ¬ (AgreeAt places r t)) rows
  later_not n [] e up h = tt
  later_not n (t ∷ rows) e up h =
      let differ : t.number ≢ r.number = (λ k. absurd (let l = up.0 in omega (arith, l, k, e))) in
      (agrees_not t differ h.0, later_not n rows e up.1 h.1)

  pub unique_put : (rows : List Row) → AreRising rows → IsUniqueIn rows places → Each Apart rows → IsUniqueIn (put r rows) places
  unique_put [] up u h = (tt, tt)
  unique_put (s ∷ rows) up u h = by (s.number == r.number) refl (unique_put rows up.1 u.1 h.1)
    where
      by : (b : Bool) → (s.number == r.number) ≡ b → IsUniqueIn (put r rows) places → IsUniqueIn (if b then r ∷ rows else s ∷ put r rows) places
      by true t below = (later_not s.number rows (grind (arith, nat_tests, t)) up.0 h.1, u.1)
      by false t below =
          let differ : s.number ≢ r.number = (λ e. absurd (let k : (s.number == r.number) ≡ true = grind (arith, nat_tests, e) in let f : true ≡ false = sym k ∙ t in cc)) in
          (each_put (λ t. ¬ (AgreeAt places s t)) rows (before_not s differ h.0) u.0, below)

  pub free_unique : (rows : List Row) → AreRising rows → IsUniqueIn rows places → is_free_in places r rows ≡ true → IsUniqueIn (put r rows) places
  free_unique rows up u e = unique_put rows up u (all_apart rows e)

-- ---- the form of valid tables

pair_length : {A B : Type 0} (R : A → B → Type 0) (xs : List A) (ys : List B) → EachPair R xs ys → length ys ≡ length xs
pair_length R [] [] h = refl
pair_length R [] (y ∷ ys) h = absurd h
pair_length R (x ∷ xs) [] h = absurd h
pair_length R (x ∷ xs) (y ∷ ys) h = ap suc (pair_length R xs ys h.1)

valid_list : (c : CatalogParts) (tables : Tables) (t : TableDef) (list : TableRows) → IsValidList c tables t list → IsListOf t list
valid_list c tables t list v = record {
  next = v.next;
  numbers = v.numbers;
  counters = pair_length _ t.columns list.counters v.counters;
  cells = each_map _ (λ r h. pair_length _ t.columns r.cells h) list.rows v.cells;
  keys = v.keys;
}

valid_lists : (c : CatalogParts) (tables : Tables) (ts : List TableDef) (lists : List TableRows) → EachPair (IsValidList c tables) ts lists → EachPair IsListOf ts lists
valid_lists c tables [] [] h = tt
valid_lists c tables [] (l ∷ lists) h = absurd h
valid_lists c tables (t ∷ ts) [] h = absurd h
valid_lists c tables (t ∷ ts) (l ∷ lists) h = (valid_list c tables t l h.0, valid_lists c tables ts lists h.1)

pub valid_form : (c : CatalogParts) (tables : Tables) → AreValidTables c tables → AreListsOf c tables
valid_form c tables v = valid_lists c tables c.tables tables.lists v.lists

-- ---- rows of a set

rows_at : (lists : List TableRows) (table : ℕ) → (get_or lists table (record { rows = []; next_number = 1; counters = [] })).rows ≡ rows_in (slice_get lists table)
rows_at [] table = refl
rows_at (l ∷ lists) zero = refl
rows_at (l ∷ lists) (suc table) = rows_at lists table

pub list_rows : (s : SetParts) (table : ℕ) → (list_at s table).rows ≡ rows_in (slice_get s.tables.lists table)
list_rows s table = rows_at s.tables.lists table
