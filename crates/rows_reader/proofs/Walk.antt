-- A second walk over the rows: the next row of its table, in the tables so far, is that of the tables at the end.
use Rattle.std.proofs.Common.{◌≡◌, ℕ, zero, suc, ◌+◌, ◌<◌, ◌≤◌, List, [], ◌∷◌, ◌++◌, length, get_or, set, map, replicate, Bool, true, false, Option, None, Some, Ok, Err, refl, sym, ap, ◌∙◌, subst, arith, length-append, length-set, append_assoc, append-nil}
use Rattle.std.specs.Prelude.{◌==◌, nat_lt}
use Rattle.std.specs.Option.{option_or}
use Rattle.std.proofs.lemmas.List.{length-map}
use Rattle.std.proofs.lemmas.Bool.Decides.{nat_tests}
use Rattle.pg_base.specs.Catalog.{CatalogParts}
use Rattle.pg_base.specs.declared.cell.Cell.{Cell}
use Rattle.pg_base.specs.declared.table_def.LinkDef.{LinkDef}
use Rattle.pg_base.specs.declared.table_def.TableDef.{TableDef}
use Rattle.rel_model.specs.declared.tables.Row.{Row}
use Rattle.rel_model.specs.declared.tables.TableRows.{TableRows}
use Rattle.ddl_reader.specs.declared.script.RowText.{RowText}
use Rattle.rows_reader.specs.declared.fault.RowsFault.{RowsFault}
use Rattle.rows_reader.specs.declared.fault.LoadError.{LoadError}
use Rattle.rows_reader.specs.declared.fault.LoadError.TheVariants as error
use Rattle.rows_reader.specs.Rows.{list_with}
use Rattle.rows_reader.specs.Loaded.{table_at, list_at, no_rows, opening, next_cells, next_fault, lists_with, lists_after, lost_reference, reference_fault, Tells}
use Rattle.rows_reader.proofs.Valid.{passes}

abbrev pub count : TableRows → ℕ
count list = length list.rows

set_same : {A : Type 0} (xs : List A) (i : ℕ) (y d : A) → i < length xs → get_or (set xs i y) i d ≡ y
set_same [] i y d lt = absurd (omega arith)
set_same (x ∷ xs) zero y d lt = refl
set_same (x ∷ xs) (suc i) y d lt = set_same xs i y d (omega arith)

set_other : {A : Type 0} (xs : List A) (i j : ℕ) (y d : A) → (i ≡ j → ⊥) → get_or (set xs i y) j d ≡ get_or xs j d
set_other [] i j y d n = refl
set_other (x ∷ xs) zero zero y d n = absurd (n refl)
set_other (x ∷ xs) zero (suc j) y d n = refl
set_other (x ∷ xs) (suc i) zero y d n = refl
set_other (x ∷ xs) (suc i) (suc j) y d n = set_other xs i j y d (λ e. n (ap suc e))

map_set : {A B : Type 0} (f : A → B) (xs : List A) (i : ℕ) (y : A) → map f (set xs i y) ≡ set (map f xs) i (f y)
map_set f [] i y = refl
map_set f (x ∷ xs) zero y = refl
map_set f (x ∷ xs) (suc i) y = ap (λ l. f x ∷ l) (map_set f xs i y)

map_get : {A B : Type 0} (f : A → B) (xs : List A) (i : ℕ) (d : A) (e : B) → i < length xs → get_or (map f xs) i e ≡ f (get_or xs i d)
map_get f [] i d e lt = absurd (omega arith)
map_get f (x ∷ xs) zero d e lt = refl
map_get f (x ∷ xs) (suc i) d e lt = map_get f xs i d e (omega arith)

-- the one list begins with the other
abbrev BeginsWith : {A : Type 0} → List A → List A → Type 0
BeginsWith {A} whole front = (more : List A) × (whole ≡ front ++ more)

begins_further : {A : Type 0} (whole front : List A) (x : A) → BeginsWith whole (front ++ x ∷ []) → BeginsWith whole front
begins_further whole front x h = (x ∷ h.0, h.1 ∙ append_assoc front (x ∷ []) h.0)

middle : {A : Type 0} (front more : List A) (x d : A) → get_or ((front ++ x ∷ []) ++ more) (length front) d ≡ x
middle [] more x d = refl
middle (y ∷ front) more x d = middle front more x d

-- the list of the row's table, with the row
with_here : (c : CatalogParts) (lists : List TableRows) (row : RowText) → row.table < length lists → list_at (lists_with c lists row) row.table ≡ list_with (table_at c row.table) (list_at lists row.table) (next_cells c lists row)
with_here c lists row lt = set_same lists row.table _ _ lt

abbrev next_row : (c : CatalogParts) (lists : List TableRows) (row : RowText) → Row
next_row c lists row = record { number = (list_at lists row.table).next_number; cells = next_cells c lists row }

past_end : {A : Type 0} (xs : List A) (i : ℕ) (y : A) → length xs ≤ i → set xs i y ≡ xs
past_end [] i y le = refl
past_end (x ∷ xs) zero y le = absurd (omega arith)
past_end (x ∷ xs) (suc i) y le = ap (λ l. x ∷ l) (past_end xs i y (omega arith))

-- rows stay where they are
one_stays : (c : CatalogParts) (lists all : List TableRows) (row : RowText) (t : ℕ) → BeginsWith (list_at all t).rows (list_at (lists_with c lists row) t).rows → BeginsWith (list_at all t).rows (list_at lists t).rows
one_stays c lists all row t h = by (row.table == t) refl (nat_lt row.table (length lists)) refl
  where
    by : (b : Bool) → (row.table == t) ≡ b → (s : Bool) → nat_lt row.table (length lists) ≡ s → BeginsWith (list_at all t).rows (list_at lists t).rows
    by true e true s =
        let same : row.table ≡ t = grind (arith, nat_tests) in
        let lt : row.table < length lists = grind (arith, nat_tests) in
        let now : (list_at (lists_with c lists row) row.table).rows ≡ (list_at lists row.table).rows ++ next_row c lists row ∷ [] = ap (λ (l : TableRows). l.rows) (with_here c lists row lt) in
        let there : BeginsWith (list_at all row.table).rows (list_at (lists_with c lists row) row.table).rows = subst (λ (k : ℕ). BeginsWith (list_at all k).rows (list_at (lists_with c lists row) k).rows) (sym same) h in
        let here : BeginsWith (list_at all row.table).rows (list_at lists row.table).rows =
        begins_further (list_at all row.table).rows (list_at lists row.table).rows (next_row c lists row) (subst (λ (l : List Row). BeginsWith (list_at all row.table).rows l) now there) in
        subst (λ (k : ℕ). BeginsWith (list_at all k).rows (list_at lists k).rows) same here
    by true e false s =
        let le : length lists ≤ row.table = grind (arith, nat_tests) in
        subst (λ (l : List TableRows). BeginsWith (list_at all t).rows (list_at l t).rows) (past_end lists row.table (list_with (table_at c row.table) (list_at lists row.table) (next_cells c lists row)) le) h
    by false e s f =
        let other : row.table ≡ t → ⊥ = (λ k. absurd (let n : (row.table == t) ≡ true = grind (arith, nat_tests, k) in let bad : true ≡ false = sym n ∙ e in cc)) in
        subst (λ (l : TableRows). BeginsWith (list_at all t).rows l.rows) (set_other lists row.table t (list_with (table_at c row.table) (list_at lists row.table) (next_cells c lists row)) _ other) h

stay : (c : CatalogParts) (rows : List RowText) (lists all : List TableRows) (t : ℕ) → lists_after c lists rows ≡ Ok all → BeginsWith (list_at all t).rows (list_at lists t).rows
unfolding lists_after
stay c [] lists all t e = let same : lists ≡ all = cc in ([], subst (λ (l : List TableRows). (list_at l t).rows ≡ (list_at lists t).rows ++ []) same (sym (append-nil (list_at lists t).rows)))
stay c (row ∷ rows) lists all t e =
    let p = passes (next_fault c lists row) (lists_after c (lists_with c lists row) rows) all e in
    one_stays c lists all row t (stay c rows (lists_with c lists row) all t p.1)

-- how far the walk has come: the tables so far, and how many rows of each table have passed
pub record IsWalk (c : CatalogParts) (all : List TableRows) (rows rest : List RowText) (passed : List ℕ) : Type 0 where
  pub sofar : List TableRows
  pub long : length sofar ≡ length c.tables
  pub counts : passed ≡ map count sofar
  pub after : lists_after c sofar rest ≡ Ok all
  pub due : reference_fault c all sofar rest ≡ reference_fault c all (opening c) rows

module _ (c : CatalogParts) (all : List TableRows) (row : RowText) (rows rest : List RowText) (passed : List ℕ) (walk : IsWalk c all rows (row ∷ rest) passed) (lt : row.table < length c.tables) where
  within : row.table < length walk.sofar
  within = let l = walk.long in omega (arith, l, lt)

  none : (next_fault c walk.sofar row ≡ None) × (lists_after c (lists_with c walk.sofar row) rest ≡ Ok all)
  unfolding lists_after
  none = passes (next_fault c walk.sofar row) (lists_after c (lists_with c walk.sofar row) rest) all walk.after

  now : (list_at (lists_with c walk.sofar row) row.table).rows ≡ (list_at walk.sofar row.table).rows ++ next_row c walk.sofar row ∷ []
  now = ap (λ (l : TableRows). l.rows) (with_here c walk.sofar row within)

  begun : BeginsWith (list_at all row.table).rows ((list_at walk.sofar row.table).rows ++ next_row c walk.sofar row ∷ [])
  begun = subst (λ (l : List Row). BeginsWith (list_at all row.table).rows l) now (stay c rest (lists_with c walk.sofar row) all row.table none.1)

  -- the place of the row in its list, by the number of those that have passed
  pub place_is : (d : ℕ) → get_or passed row.table d ≡ length (list_at walk.sofar row.table).rows
  place_is d = ap (λ (l : List ℕ). get_or l row.table d) walk.counts ∙ map_get count walk.sofar row.table _ d within

  pub place_within : (d : ℕ) → get_or passed row.table d < length (list_at all row.table).rows
  place_within d =
      let p = place_is d in
      let front = (list_at walk.sofar row.table).rows ++ next_row c walk.sofar row ∷ [] in
      let a = length-append front begun.0 in
      let b = length-append (list_at walk.sofar row.table).rows (next_row c walk.sofar row ∷ []) in
      let e : length (list_at all row.table).rows ≡ length (front ++ begun.0) = ap (λ (l : List Row). length l) begun.1 in
      omega (arith, p, a, b, e)

  pub cells_are : (d : ℕ) (none : Row) → (get_or (list_at all row.table).rows (get_or passed row.table d) none).cells ≡ next_cells c walk.sofar row
  cells_are d none =
      ap (λ (k : ℕ). (get_or (list_at all row.table).rows k none).cells) (place_is d)
      ∙ ap (λ (l : List Row). (get_or l (length (list_at walk.sofar row.table).rows) none).cells) begun.1
      ∙ ap (λ (r : Row). r.cells) (middle (list_at walk.sofar row.table).rows begun.0 (next_row c walk.sofar row) none)

  counted : count (list_with (table_at c row.table) (list_at walk.sofar row.table) (next_cells c walk.sofar row)) ≡ length (list_at walk.sofar row.table).rows + 1
  counted = length-append (list_at walk.sofar row.table).rows (next_row c walk.sofar row ∷ [])

  -- the walk goes on where the row has no fault, and else the fault is due
  pub goes_on : (d : ℕ) → lost_reference all (table_at c row.table).links row.pos (next_cells c walk.sofar row) ≡ None → (next : List ℕ) → next ≡ set passed row.table (get_or passed row.table d + 1) → IsWalk c all rows rest next
  unfolding reference_fault
  goes_on d free next set_to = record {
    sofar = lists_with c walk.sofar row;
    long = length-set walk.sofar row.table _ ∙ walk.long;
    counts = set_to
        ∙ ap (λ (k : ℕ). set passed row.table (k + 1)) (place_is d)
        ∙ ap (λ (l : List ℕ). set l row.table (length (list_at walk.sofar row.table).rows + 1)) walk.counts
        ∙ ap (λ (k : ℕ). set (map count walk.sofar) row.table k) (sym counted)
        ∙ sym (map_set count walk.sofar row.table _);
    after = none.1;
    due = sym (ap (λ (o : Option RowsFault). option_or o (reference_fault c all (lists_with c walk.sofar row) rest)) free) ∙ walk.due;
  }

  pub stops : (fault : RowsFault) → lost_reference all (table_at c row.table).links row.pos (next_cells c walk.sofar row) ≡ Some fault → reference_fault c all (opening c) rows ≡ Some fault
  unfolding reference_fault
  stops fault lost = sym walk.due ∙ ap (λ (o : Option RowsFault). option_or o (reference_fault c all (lists_with c walk.sofar row) rest)) lost

  pub passed_lt : row.table < length passed
  passed_lt = let e : length passed ≡ length (map count walk.sofar) = ap (λ (l : List ℕ). length l) walk.counts in let l = length-map walk.sofar count in let m = walk.long in omega (arith, e, l, m, lt)

  pub cells_stand : (list : TableRows) (cells : List Cell) (place : ℕ) → list_at all row.table ≡ list → place ≡ get_or passed row.table 0 → ((none : Row) → cells ≡ (get_or list.rows place none).cells) → cells ≡ next_cells c walk.sofar row
  cells_stand list cells place p q r =
      r (next_row c walk.sofar row)
      ∙ ap (λ (k : ℕ). (get_or list.rows k (next_row c walk.sofar row)).cells) q
      ∙ ap (λ (l : TableRows). (get_or l.rows (get_or passed row.table 0) (next_row c walk.sofar row)).cells) (sym p)
      ∙ cells_are 0 (next_row c walk.sofar row)

  pub place_lt : (list : TableRows) (place : ℕ) → list_at all row.table ≡ list → place ≡ get_or passed row.table 0 → place < length list.rows
  place_lt list place p q = let w = place_within 0 in let e : length (list_at all row.table).rows ≡ length list.rows = ap (λ (l : TableRows). length l.rows) p in omega (arith, q, w, e)

  lost_is : (links : List LinkDef) (cells : List Cell) → links ≡ (table_at c row.table).links → cells ≡ next_cells c walk.sofar row → lost_reference all (table_at c row.table).links row.pos (next_cells c walk.sofar row) ≡ lost_reference all links row.pos cells
  lost_is links cells p q = ap (λ (l : List LinkDef). lost_reference all l row.pos (next_cells c walk.sofar row)) (sym p) ∙ ap (λ (v : List Cell). lost_reference all links row.pos v) (sym q)

  pub walk_stops : (links : List LinkDef) (cells : List Cell) (e : LoadError) → links ≡ (table_at c row.table).links → cells ≡ next_cells c walk.sofar row → Tells (lost_reference all links row.pos cells) (Err e) → Tells (reference_fault c all (opening c) rows) (Err e)
  walk_stops links cells (error.Fault fault) p q h = stops fault (lost_is links cells p q ∙ h)
  walk_stops links cells error.Memory p q h = tt

  pub walk_goes_on : (links : List LinkDef) (cells : List Cell) (place : ℕ) (next : List ℕ) → links ≡ (table_at c row.table).links → cells ≡ next_cells c walk.sofar row → place ≡ get_or passed row.table 0
      → lost_reference all links row.pos cells ≡ None → next ≡ set passed row.table (place + 1) → IsWalk c all rows rest next
  walk_goes_on links cells place next p q r h put = goes_on 0 (lost_is links cells p q ∙ h) next (put ∙ ap (λ (k : ℕ). set passed row.table (k + 1)) r)

pub walk_begins : (c : CatalogParts) (all : List TableRows) (rows : List RowText) (passed : List ℕ) → passed ≡ replicate (length c.tables) 0 → lists_after c (opening c) rows ≡ Ok all → IsWalk c all rows rows passed
walk_begins c all rows passed zeros after = record { sofar = opening c; long = long c.tables; counts = zeros ∙ none c.tables; after = after; due = refl }
  where
    long : (tables : List TableDef) → length (map no_rows tables) ≡ length tables
    long [] = refl
    long (t ∷ tables) = ap suc (long tables)

    none : (tables : List TableDef) → replicate (length tables) 0 ≡ map count (map no_rows tables)
    none [] = refl
    none (t ∷ tables) = ap (λ l. 0 ∷ l) (none tables)

pub walk_ends : (c : CatalogParts) (all : List TableRows) (rows : List RowText) (passed : List ℕ) → IsWalk c all rows [] passed → reference_fault c all (opening c) rows ≡ None
unfolding reference_fault
walk_ends c all rows passed walk = sym walk.due
