-- A list with one row more, which has no fault, stays valid but for its references.
use Rattle.std.proofs.Common.{◌≡◌, ℕ, zero, suc, ℤ, pos, ◌+◌, ◌<◌, ◌≤◌, List, [], ◌∷◌, ◌++◌, length, replicate, Bool, true, false, Option, None, Some, refl, subst, arith, length-append}
use Rattle.std.specs.Prelude.{nat_le, ◌==◌, get_or, position, slice_index_or, slice_get, if◌then◌else◌, ◌≤ℤ◌}
use Rattle.std.proofs.lemmas.Bool.Decides.{nat_tests}
use Rattle.std.proofs.lemmas.Int.{ints}
use Rattle.pg_base.specs.Limits.{most_rows}
use Rattle.pg_base.specs.Lists.{Each, EachPair}
use Rattle.pg_base.specs.Catalog.{CatalogParts, IsValidTable, IsValidColumn}
use Rattle.pg_base.specs.declared.cell.Cell.{Cell}
use Rattle.pg_base.specs.declared.enum_def.EnumDef.{EnumDef}
use Rattle.pg_base.specs.declared.table_def.ColumnDef.{ColumnDef}
use Rattle.pg_base.specs.declared.table_def.KeyDef.{KeyDef}
use Rattle.pg_base.specs.declared.table_def.TableDef.{TableDef}
use Rattle.rel_model.specs.declared.tables.Row.{Row}
use Rattle.rel_model.specs.declared.tables.TableRows.{TableRows}
use Rattle.rel_model.specs.Tables.{FitsColumn, IsCounter, IsUniqueIn, AreNumbered, greatest}
use Rattle.ddl_reader.specs.declared.script.Literal.{Literal}
use Rattle.ddl_reader.specs.declared.script.Literal.TheVariants as literal
use Rattle.ddl_reader.specs.declared.script.RowText.{RowText}
use Rattle.rows_reader.specs.declared.values.Check.TheVariants as check
use Rattle.rows_reader.specs.Cells.{cell_of}
use Rattle.rows_reader.specs.Rows.{value_at, value_in, Slot, slots_from, slots_of, cells_of, row_cells, all_raised, list_with}
use Rattle.rows_reader.specs.Keys.{is_taken}
use Rattle.rows_reader.specs.Faults.{past_limit, wrong_count, fails, first_failing, lacks_value, first_null, first_taken, fault_of_values, fault_of_cells, fault_of}
use Rattle.rows_reader.specs.Loaded.{no_rows}
use Rattle.rows_reader.specs.Texts.{IsTextLiteral, HasTexts}
use Rattle.rows_reader.proofs.Places.{Each_append, Each_both}
use Rattle.rows_reader.proofs.NoFault.{neither, none_next, when_none, none_found}
use Rattle.rows_reader.proofs.CellFits.{column_fits, counter_fits}
use Rattle.rows_reader.proofs.Found.{stays_unique}

-- what a list so far keeps true
pub record IsGood (enums : List EnumDef) (t : TableDef) (list : TableRows) : Type 0 where
  pub limit : length list.rows ≤ most_rows
  pub next : list.next_number ≡ length list.rows + 1
  pub numbers : AreNumbered 1 list.next_number list.rows
  pub counters : EachPair IsCounter t.columns list.counters
  pub cells : Each (λ r. EachPair (FitsColumn enums) t.columns r.cells) list.rows
  pub keys : Each (λ k. IsUniqueIn list.rows k.columns) t.keys

-- ---- before any row

zeros : (columns : List ColumnDef) → EachPair IsCounter columns (replicate (length columns) (pos 0))
zeros [] = tt
zeros (c ∷ columns) = ((λ t. (low 0, low (greatest c.kind))), zeros columns)
  where
    low : (n : ℕ) → pos 0 ≤ℤ pos n
    low n = omega (arith, ints)

no_pairs : (keys : List KeyDef) → Each (λ k. IsUniqueIn [] k.columns) keys
no_pairs [] = tt
no_pairs (k ∷ keys) = (tt, no_pairs keys)

pub good_opening : (enums : List EnumDef) (t : TableDef) → IsGood enums t (no_rows t)
good_opening enums t = record {
  limit = omega arith;
  next = refl;
  numbers = tt;
  counters = zeros t.columns;
  cells = tt;
  keys = no_pairs t.keys;
}

-- ---- cells and counters

text_in : (cells : List Literal) (i : ℕ) → Each IsTextLiteral cells → IsTextLiteral (get_or cells i literal.Default)
text_in [] i h = tt
text_in (l ∷ cells) zero h = h.0
text_in (l ∷ cells) (suc i) h = text_in cells i h.1

text_at : (row : RowText) (at : ℕ) → HasTexts row → IsTextLiteral (value_at row at)
text_at row at h = by (position (λ place. place == at) row.columns)
  where
    by : (o : Option ℕ) → IsTextLiteral (value_in row.cells o)
    by None = tt
    by (Some i) = text_in row.cells i h

null_step : (column : ColumnDef) (columns : List ColumnDef) (value : Cell) (cells : List Cell) → first_null (column ∷ columns) (value ∷ cells) ≡ None → (lacks_value column value ≡ false) × (first_null columns cells ≡ None)
null_step column columns value cells e = by (lacks_value column value) refl e
  where
    by : (b : Bool) → lacks_value column value ≡ b → (if b then Some column.name else first_null columns cells) ≡ None → (lacks_value column value ≡ false) × (first_null columns cells ≡ None)
    by true t h = absurd (cc)
    by false t h = (t, h)

-- the counters from a place on
abbrev CountersFrom : ℕ → List ColumnDef → List ℤ → Type 0
CountersFrom at columns counters = (i j : ℕ) (c : ColumnDef) → j ≡ at + i → slice_get columns i ≡ Some c → IsCounter c (slice_index_or counters j (pos 0))

fit_from : (enums : List EnumDef) (at : ℕ) (columns : List ColumnDef) (counters : List ℤ) (row : RowText) → HasTexts row → Each (IsValidColumn enums) columns → CountersFrom at columns counters
    → Each (λ s. fails check.Kind enums s ≡ false) (slots_from at columns counters row)
    → Each (λ s. fails check.Case enums s ≡ false) (slots_from at columns counters row)
    → Each (λ s. fails check.Length enums s ≡ false) (slots_from at columns counters row)
    → first_null columns (cells_of enums (slots_from at columns counters row)) ≡ None
    → EachPair (FitsColumn enums) columns (cells_of enums (slots_from at columns counters row))
fit_from enums at [] counters row texts valid counts kinds cases lengths nulls = tt
fit_from enums at (c ∷ columns) counters row texts valid counts kinds cases lengths nulls =
    let n = slice_index_or counters at (pos 0) in
    let value = value_at row at in
    let null = null_step c columns (cell_of enums c n value) (cells_of enums (slots_from (at + 1) columns counters row)) nulls in
    let counter : IsCounter c n = counts 0 at c (omega arith) refl in
    let later : CountersFrom (at + 1) columns counters = (λ i j d same e. counts (suc i) j d (omega (arith, same)) e) in (
      column_fits enums c n value valid.0 counter (text_at row at texts) kinds.0 cases.0 lengths.0 null.0,
      fit_from enums (at + 1) columns counters row texts valid.1 later kinds.1 cases.1 lengths.1 null.1,
    )

counter_at : (columns : List ColumnDef) (counters : List ℤ) → EachPair IsCounter columns counters → (i : ℕ) (c : ColumnDef) → slice_get columns i ≡ Some c → IsCounter c (slice_index_or counters i (pos 0))
counter_at [] counters h i c e = absurd (cc)
counter_at (d ∷ columns) [] h i c e = absurd h
counter_at (d ∷ columns) (n ∷ counters) h zero c e = let s : d ≡ c = cc in subst (λ x. IsCounter x n) s h.0
counter_at (d ∷ columns) (n ∷ counters) h (suc i) c e = counter_at columns counters h.1 i c e

counters_from : (columns : List ColumnDef) (counters : List ℤ) → EachPair IsCounter columns counters → CountersFrom 0 columns counters
counters_from columns counters h i j c same e = let k : i ≡ j = omega (arith, same) in subst (λ m. IsCounter c (slice_index_or counters m (pos 0))) k (counter_at columns counters h i c e)

counters_after : (enums : List EnumDef) (columns : List ColumnDef) (counters : List ℤ) (cells : List Cell) → Each (IsValidColumn enums) columns → EachPair IsCounter columns counters → EachPair (FitsColumn enums) columns cells
    → EachPair IsCounter columns (all_raised columns counters cells)
counters_after enums [] counters cells valid w f = tt
counters_after enums (c ∷ columns) [] cells valid w f = absurd w
counters_after enums (c ∷ columns) (n ∷ counters) [] valid w f = absurd f
counters_after enums (c ∷ columns) (n ∷ counters) (value ∷ cells) valid w f = (counter_fits enums c n value valid.0 w.0 f.0, counters_after enums columns counters cells valid.1 w.1 f.1)

-- ---- numbers

numbers_more : (from below : ℕ) (rows : List Row) (cells : List Cell) → from ≤ below → AreNumbered from below rows → AreNumbered from (below + 1) (rows ++ record { number = below; cells = cells } ∷ [])
numbers_more from below [] cells le h = (le, omega arith, tt)
numbers_more from below (r ∷ rows) cells le h = let lt = h.1 in (h.0, omega (arith, lt), numbers_more (r.number + 1) below rows cells (omega (arith, lt)) h.2)

-- ---- one row more

module _ (c : CatalogParts) (t : TableDef) (list : TableRows) (row : RowText) where
  abbrev slots : List Slot
  slots = slots_of t.columns list.counters row

  abbrev cells : List Cell
  cells = row_cells c.enums t list row

  pub record IsFree : Type 0 where
    pub limit : nat_le most_rows (length list.rows) ≡ false
    pub kinds : Each (λ s. fails check.Kind c.enums s ≡ false) slots
    pub cases : Each (λ s. fails check.Case c.enums s ≡ false) slots
    pub lengths : Each (λ s. fails check.Length c.enums s ≡ false) slots
    pub nulls : first_null t.columns cells ≡ None
    pub keys : Each (λ k. is_taken k.columns list.rows cells ≡ false) t.keys

  free : fault_of c.enums t list row ≡ None → IsFree
  unfolding fault_of_values fault_of_cells
  free e =
      let both = neither (fault_of_values c.enums t list row) (fault_of_cells t list row.pos cells) e in
      let six = none_next row.pos 6 (past_limit t list) _ both.0 in
      let two = none_next row.pos 2 (wrong_count t row) _ six.1 in
      let one = none_next row.pos 1 (first_failing check.Kind c.enums slots) _ two.1 in
      let seven = none_next row.pos 7 (first_failing check.Case c.enums slots) _ one.1 in
      let eight = none_next row.pos 8 (first_failing check.Length c.enums slots) None seven.1 in
      let three = none_next row.pos 3 (first_null t.columns cells) _ both.1 in
      let four = none_next row.pos 4 (first_taken t.keys list.rows cells) None three.1 in
      record {
        limit = when_none (nat_le most_rows (length list.rows)) t.name six.0;
        kinds = none_found (fails check.Kind c.enums) (λ s. s.column.name) slots one.0;
        cases = none_found (fails check.Case c.enums) (λ s. s.column.name) slots seven.0;
        lengths = none_found (fails check.Length c.enums) (λ s. s.column.name) slots eight.0;
        nulls = three.0;
        keys = none_found (λ k. is_taken k.columns list.rows cells) (λ k. k.name) t.keys four.0;
      }

  pub good_more : IsValidTable c t → HasTexts row → IsGood c.enums t list → fault_of c.enums t list row ≡ None → IsGood c.enums t (list_with t list cells)
  good_more valid texts good none =
      let f = free none in
      let limit = f.limit in
      let next = good.next in
      let small : length list.rows < most_rows = grind (arith, nat_tests) in
      let longer = length-append list.rows (record { number = list.next_number; cells = cells } ∷ []) in
      let fit = fit_from c.enums 0 t.columns list.counters row texts valid.columns (counters_from t.columns list.counters good.counters) f.kinds f.cases f.lengths f.nulls in
      record {
        limit = omega (arith, longer, small);
        next = omega (arith, longer, next);
        numbers = numbers_more 1 list.next_number list.rows cells (omega (arith, next)) good.numbers;
        counters = counters_after c.enums t.columns list.counters cells valid.columns good.counters fit;
        cells = Each_append (λ r. EachPair (FitsColumn c.enums) t.columns r.cells) list.rows (record { number = list.next_number; cells = cells }) good.cells fit;
        keys = Each_both (λ k. IsUniqueIn list.rows k.columns) (λ k. is_taken k.columns list.rows cells ≡ false) _
            (λ k u e. stays_unique k.columns list.rows (record { number = list.next_number; cells = cells }) u e) t.keys good.keys f.keys;
      }
