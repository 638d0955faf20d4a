-- A row's checks, and what stands after it.
use Rattle.std.proofs.Common.{◌≡◌, ℕ, ℤ, suc, ◌+◌, ◌<◌, List, [], ◌∷◌, length, map, set, Option, None, Some, Result, Ok, Err, refl, sym, ap, ◌∙◌, subst, arith, length-append}
use Rattle.std.specs.Prelude.{find, nat_le, slice_get}
use Rattle.std.specs.Option.{option_or, option_map}
use Rattle.std.proofs.lemmas.Bool.Decides.{nat_tests}
use Rattle.pg_base.specs.Limits.{most_rows}
use Rattle.pg_base.specs.Lists.{EachPair}
use Rattle.pg_base.specs.Catalog.{CatalogParts}
use Rattle.pg_base.specs.declared.cell.Cell.{Cell}
use Rattle.pg_base.specs.declared.enum_def.EnumDef.{EnumDef}
use Rattle.pg_base.specs.declared.table_def.ColumnDef.{ColumnDef}
use Rattle.pg_base.specs.declared.table_def.TableDef.{TableDef}
use Rattle.rel_model.specs.declared.tables.Row.{Row}
use Rattle.rel_model.specs.declared.tables.TableRows.{TableRows}
use Rattle.rel_model.specs.declared.tables.Tables.{Tables}
use Rattle.ddl_reader.specs.declared.script.RowText.{RowText}
use Rattle.rows_reader.specs.declared.fault.RowsFault.{RowsFault}
use Rattle.rows_reader.specs.declared.fault.LoadError.{LoadError}
use Rattle.rows_reader.specs.declared.fault.LoadError.TheVariants as error
use Rattle.rows_reader.specs.declared.values.Check.TheVariants as check
use Rattle.rows_reader.specs.Rows.{slots_from, slots_of, cells_of, row_cells, all_raised, list_with}
use Rattle.rows_reader.specs.Faults.{past_limit, wrong_count, fails, first_failing, fault_of_values, fault_of_cells, fault_of}
use Rattle.rows_reader.specs.Kept.{Index, grown, IsKept, HasCounters, AreKept}
use Rattle.rows_reader.specs.Loaded.{next_fault, lists_with, unless_fault, lists_after, Answers, Tells, Adds, opening, reference_fault, after_rows, rows_of}
use Rattle.rows_reader.proofs.NoFault.{neither, none_next, when_none}
use Rattle.rows_reader.proofs.Places.{pair_set}
use Rattle.rows_reader.proofs.Grown.{indexes_grown, pair_set_both}

-- ---- the checks of a row

map_none : {A B : Type 0} (f : A → B) (o : Option A) → option_map f o ≡ None → o ≡ None
map_none f None e = refl
map_none f (Some x) e = absurd (cc)

pub kinds_pass : (enums : List EnumDef) (t : TableDef) (list : TableRows) (row : RowText) → fault_of_values enums t list row ≡ None → find (fails check.Kind enums) (slots_of t.columns list.counters row) ≡ None
unfolding fault_of_values
kinds_pass enums t list row e =
    let six = none_next row.pos 6 (past_limit t list) _ e in
    let two = none_next row.pos 2 (wrong_count t row) _ six.1 in
    let one = none_next row.pos 1 (first_failing check.Kind enums (slots_of t.columns list.counters row)) _ two.1 in
    map_none (λ s. s.column.name) (find (fails check.Kind enums) (slots_of t.columns list.counters row)) one.0

pub has_room : (enums : List EnumDef) (t : TableDef) (list : TableRows) (row : RowText) → fault_of enums t list row ≡ None → length list.rows < most_rows
unfolding fault_of_values
has_room enums t list row e =
    let both = neither (fault_of_values enums t list row) (fault_of_cells t list row.pos (row_cells enums t list row)) e in
    let six = none_next row.pos 6 (past_limit t list) _ both.0 in
    let room = when_none (nat_le most_rows (length list.rows)) t.name six.0 in
    grind (arith, nat_tests)

module _ {A : Type 0} (a b : Option RowsFault) (value : Result A RowsFault) where
  pub values_stop : (e : LoadError) → Tells a (Err e) → Answers (unless_fault (option_or a b) value) (Err e)
  values_stop (error.Fault fault) h = ap (λ (o : Option RowsFault). unless_fault (option_or o b) value) h
  values_stop error.Memory h = tt

  pub cells_stop : (e : LoadError) → a ≡ None → Tells b (Err e) → Answers (unless_fault (option_or a b) value) (Err e)
  cells_stop (error.Fault fault) n h = ap (λ (o : Option RowsFault). unless_fault (option_or o b) value) n ∙ ap (λ (o : Option RowsFault). unless_fault o value) h
  cells_stop error.Memory n h = tt

  pub both_pass : a ≡ None → b ≡ None → unless_fault (option_or a b) value ≡ value
  both_pass n m = ap (λ (o : Option RowsFault). unless_fault (option_or o b) value) n ∙ ap (λ (o : Option RowsFault). unless_fault o value) m

-- what a refused row tells
pub told : {A : Type 0} (o : Option RowsFault) (value : A) (e : LoadError) → Answers (unless_fault o (Ok value)) (Err e) → Tells o (Err e)
told None value (error.Fault fault) h = absurd (cc)
told (Some f) value (error.Fault fault) h = let same : f ≡ fault = cc in ap (λ (g : RowsFault). Some g) same
told o value error.Memory h = tt

pub told_none : {A : Type 0} (o : Option RowsFault) (value made : A) → unless_fault o (Ok value) ≡ Ok made → (o ≡ None) × (made ≡ value)
told_none None value made h = (refl, let same : value ≡ made = cc in sym same)
told_none (Some f) value made h = absurd (cc)

-- ---- one row more

slots_long : (at : ℕ) (columns : List ColumnDef) (counters : List ℤ) (row : RowText) (enums : List EnumDef) → length (cells_of enums (slots_from at columns counters row)) ≡ length columns
slots_long at [] counters row enums = refl
slots_long at (c ∷ columns) counters row enums = ap suc (slots_long (at + 1) columns counters row enums)

pub cells_long : (enums : List EnumDef) (t : TableDef) (list : TableRows) (row : RowText) → length (row_cells enums t list row) ≡ length t.columns
cells_long enums t list row = slots_long 0 t.columns list.counters row enums

raised_long : (columns : List ColumnDef) (counters : List ℤ) (cells : List Cell) → length counters ≡ length columns → length cells ≡ length columns → length (all_raised columns counters cells) ≡ length columns
raised_long [] counters cells e f = refl
raised_long (c ∷ columns) [] cells e f = absurd (omega (arith, e))
raised_long (c ∷ columns) (n ∷ counters) [] e f = absurd (omega (arith, f))
raised_long (c ∷ columns) (n ∷ counters) (v ∷ cells) e f = ap suc (raised_long columns counters cells (let k : length counters ≡ length columns = omega (arith, e) in k) (let k : length cells ≡ length columns = omega (arith, f) in k))

pub counters_more : (t : TableDef) (list new : TableRows) (cells : List Cell) → HasCounters t list → length cells ≡ length t.columns → new ≡ list_with t list cells → HasCounters t new
counters_more t list new cells e f same = ap (λ (l : TableRows). length l.counters) same ∙ raised_long t.columns list.counters cells e f

kept_with : (t : TableDef) (list : TableRows) (kept : List Index) (cells : List Cell) → IsKept list kept → IsKept (list_with t list cells) (map (grown cells) kept)
kept_with t list kept cells h =
    let next = h.next in
    let r : Row = record { number = list.next_number; cells = cells } in
    let longer = length-append list.rows (r ∷ []) in
    record { next = omega (arith, next, longer); indexes = indexes_grown list.rows r kept h.indexes }

pub kept_more : (t : TableDef) (list new : TableRows) (kept now : List Index) (cells : List Cell) → IsKept list kept → new ≡ list_with t list cells → now ≡ map (grown cells) kept → IsKept new now
kept_more t list new kept now cells h same grew =
    subst (λ (l : TableRows). IsKept l now) (sym same) (subst (IsKept (list_with t list cells)) (sym grew) (kept_with t list kept cells h))

-- ---- a row among the lists of all tables

pub lists_kept : (c : CatalogParts) (lists next : List TableRows) (indexes now : List (List Index)) (at : ℕ) (t : TableDef) (list : TableRows) (kept : List Index) → AreKept c lists indexes → slice_get c.tables at ≡ Some t
    → next ≡ set lists at list → now ≡ set indexes at kept → HasCounters t list → IsKept list kept → AreKept c next now
lists_kept c lists next indexes now at t list kept h there same grew counters k = record {
  counters = subst (EachPair HasCounters c.tables) (sym same) (pair_set HasCounters c.tables lists at t list h.counters there counters);
  kept = subst (λ (l : List TableRows). EachPair IsKept l now) (sym same) (subst (EachPair IsKept (set lists at list)) (sym grew) (pair_set_both IsKept lists indexes at list kept h.kept k));
}

-- a loop over rows: the next one's fault, or the lists with it
pub row_stops : (c : CatalogParts) (lists now : List TableRows) (row : RowText) (rows : List RowText) (e : LoadError) (due : Result (List TableRows) RowsFault) → lists_after c lists (row ∷ rows) ≡ due → Tells (next_fault c lists row) (Err e) → Adds due (Err e) now
unfolding lists_after
row_stops c lists now row rows (error.Fault fault) due so_far h = sym so_far ∙ ap (λ (o : Option RowsFault). unless_fault o (lists_after c (lists_with c lists row) rows)) h
row_stops c lists now row rows error.Memory due so_far h = tt

pub row_passes : (c : CatalogParts) (lists next : List TableRows) (row : RowText) (rows : List RowText) (due : Result (List TableRows) RowsFault) → lists_after c lists (row ∷ rows) ≡ due → next_fault c lists row ≡ None → next ≡ lists_with c lists row → lists_after c next rows ≡ due
unfolding lists_after
row_passes c lists next row rows due so_far none same =
    ap (λ (l : List TableRows). lists_after c l rows) same
    ∙ sym (ap (λ (o : Option RowsFault). unless_fault o (lists_after c (lists_with c lists row) rows)) none)
    ∙ so_far

pub rows_end : (c : CatalogParts) (lists : List TableRows) (due : Result (List TableRows) RowsFault) → lists_after c lists [] ≡ due → due ≡ Ok lists
unfolding lists_after
rows_end c lists due so_far = sym so_far

-- the whole script
pub rows_are : (c : CatalogParts) (rows : List RowText) (begun lists made : List TableRows) → begun ≡ opening c → lists_after c begun rows ≡ Ok lists → reference_fault c lists (opening c) rows ≡ None → made ≡ lists → rows_of c rows ≡ Ok (record { lists = made })
rows_are c rows begun lists made start after none same =
    ap (after_rows c rows) (ap (λ (l : List TableRows). lists_after c l rows) (sym start) ∙ after)
    ∙ ap (λ (o : Option RowsFault). tables_unless o) none
    ∙ ap (λ (l : List TableRows). tables_of l) (sym same)
  where
    tables_unless : Option RowsFault → Result Tables RowsFault
    tables_unless o = unless_fault o (Ok (record { lists = lists }))

    tables_of : List TableRows → Result Tables RowsFault
    tables_of l = Ok (record { lists = l })
