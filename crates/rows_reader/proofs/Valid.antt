-- Tables that are made of rows without a fault are valid.
use Rattle.std.proofs.Common.{◌≡◌, ℕ, zero, suc, ◌<◌, List, [], ◌∷◌, ◌++◌, length, map, Bool, true, false, not, ◌&&◌, Option, None, Some, Result, Ok, Err, refl, sym, subst, arith}
use Rattle.std.specs.Prelude.{slice_get, IsSomeAnd}
use Rattle.pg_base.specs.Lists.{Each, EachPair}
use Rattle.pg_base.specs.Catalog.{CatalogParts, IsValidCatalog, IsValidTable, IsValidLink, RefersTo}
use Rattle.pg_base.specs.declared.table_def.LinkDef.{LinkDef}
use Rattle.pg_base.specs.declared.table_def.TableDef.{TableDef}
use Rattle.rel_model.specs.declared.tables.Row.{Row}
use Rattle.rel_model.specs.declared.tables.TableRows.{TableRows}
use Rattle.rel_model.specs.declared.tables.Tables.{Tables}
use Rattle.rel_model.specs.Tables.{cells_at, Meets, Finds, IsValidList, AreValidTables}
use Rattle.ddl_reader.specs.declared.script.RowText.{RowText}
use Rattle.ddl_reader.specs.Rows.{IsRowOf}
use Rattle.rows_reader.specs.declared.fault.RowsFault.{RowsFault}
use Rattle.rows_reader.specs.Keys.{stands, keys_at, has_null}
use Rattle.rows_reader.specs.Loaded.{table_at, list_at, no_rows, opening, next_cells, next_fault, lists_with, unless_fault, lists_after, finds_nothing, first_lost, lost_reference, reference_fault, after_rows, rows_of}
use Rattle.rows_reader.specs.Texts.{HasTexts}
use Rattle.rows_reader.proofs.Places.{Each_append, Each_at, item_is, get_is, pair_at, pair_set, pair_length, pair_both}
use Rattle.rows_reader.proofs.NoFault.{neither, none_next, none_found}
use Rattle.rows_reader.proofs.Found.{some_stands, without_null}
use Rattle.rows_reader.proofs.Growth.{IsGood, good_opening, good_more}

not_both : (a b : Bool) → (not a && not b) ≡ false → a ≡ false → b ≡ true
not_both true b e f = absurd (cc)
not_both false true e f = refl
not_both false false e f = absurd (cc)

pub passes : {A : Type 0} (o : Option RowsFault) (r : Result A RowsFault) (a : A) → unless_fault o r ≡ Ok a → (o ≡ None) × (r ≡ Ok a)
passes None r a e = (refl, e)
passes (Some fault) r a e = absurd (cc)

module _ (c : CatalogParts) (valid : IsValidCatalog c) where
  abbrev Good : TableDef → TableRows → Type 0
  Good = IsGood c.enums

  -- ---- rows

  good_with : (lists : List TableRows) (row : RowText) → IsRowOf c row → HasTexts row → EachPair Good c.tables lists → next_fault c lists row ≡ None → EachPair Good c.tables (lists_with c lists row)
  good_with lists row stands texts good none =
      let t : TableDef = stands.table in
      let table : table_at c row.table ≡ t = item_is c.tables row.table t _ stands.stands in
      let same : t ≡ table_at c row.table = sym table in
      let there : slice_get c.tables row.table ≡ Some (table_at c row.table) = subst (λ (x : TableDef). slice_get c.tables row.table ≡ Some x) same stands.stands in
      let here : Good (table_at c row.table) (list_at lists row.table) = pair_at Good c.tables lists row.table (table_at c row.table) _ good there in
      let proper : IsValidTable c (table_at c row.table) = Each_at (IsValidTable c) c.tables row.table (table_at c row.table) valid.tables there in
      pair_set Good c.tables lists row.table (table_at c row.table) _ good there
      (good_more c (table_at c row.table) (list_at lists row.table) row proper texts here none)

  good_after : (rows : List RowText) (lists all : List TableRows) → Each (IsRowOf c) rows → Each HasTexts rows → EachPair Good c.tables lists → lists_after c lists rows ≡ Ok all → EachPair Good c.tables all
  unfolding lists_after
  good_after [] lists all stand texts good e = let s : lists ≡ all = cc in subst (EachPair Good c.tables) s good
  good_after (row ∷ rows) lists all stand texts good e =
      let p = passes (next_fault c lists row) (lists_after c (lists_with c lists row) rows) all e in
      good_after rows (lists_with c lists row) all stand.1 texts.1 (good_with lists row stand.0 texts.0 good p.0) p.1

  -- ---- references

  module _ (all : List TableRows) (as_long : length c.tables ≡ length all) where
    abbrev whole : Tables
    whole = record { lists = all }

    abbrev Refers : TableDef → TableRows → Type 0
    Refers t list = Each (λ l. Each (Finds whole l) list.rows) t.links

    found : (l : LinkDef) (r : Row) → l.target < length all → finds_nothing all r.cells l ≡ false → Finds whole l r
    found l r lt e h =
        let stand = not_both (has_null (cells_at l.columns r.cells)) (stands (keys_at l.target_columns (list_at all l.target).rows) (cells_at l.columns r.cells)) e (without_null (cells_at l.columns r.cells) h) in
        let there = some_stands l.target_columns (list_at all l.target).rows (cells_at l.columns r.cells) stand in
        subst (λ (o : Option TableRows). IsSomeAnd o (λ t. Meets t l r)) (sym (get_is all l.target _ lt)) there

    in_range : (l : LinkDef) (own : TableDef) → IsValidLink c own.columns l → l.target < length all
    in_range l own v = let lt : l.target < length c.tables = some_lt c.tables l.target (RefersTo own.columns l) v.target in omega (arith, lt, as_long)
      where
        some_lt : (xs : List TableDef) (i : ℕ) (P : TableDef → Type 0) → IsSomeAnd (slice_get xs i) P → i < length xs
        some_lt [] i P h = absurd h
        some_lt (x ∷ xs) zero P h = omega arith
        some_lt (x ∷ xs) (suc i) P h = let k = some_lt xs i P h in omega (arith, k)

    links_more : (own : TableDef) (links : List LinkDef) (rows : List Row) (r : Row) → Each (IsValidLink c own.columns) links → Each (λ l. finds_nothing all r.cells l ≡ false) links
        → Each (λ l. Each (Finds whole l) rows) links → Each (λ l. Each (Finds whole l) (rows ++ r ∷ [])) links
    links_more own [] rows r v e h = tt
    links_more own (l ∷ links) rows r v e h = (Each_append (Finds whole l) rows r h.0 (found l r (in_range l own v.0) e.0), links_more own links rows r v.1 e.1 h.1)

    no_references : (links : List LinkDef) → Each (λ l. Each (Finds whole l) []) links
    no_references [] = tt
    no_references (l ∷ links) = (tt, no_references links)

    refers_with : (lists : List TableRows) (row : RowText) → IsRowOf c row → EachPair Refers c.tables lists
        → lost_reference all (table_at c row.table).links row.pos (next_cells c lists row) ≡ None → EachPair Refers c.tables (lists_with c lists row)
    refers_with lists row stands refers none =
        let t : TableDef = stands.table in
        let same : t ≡ table_at c row.table = sym (item_is c.tables row.table t _ stands.stands) in
        let there : slice_get c.tables row.table ≡ Some (table_at c row.table) = subst (λ (x : TableDef). slice_get c.tables row.table ≡ Some x) same stands.stands in
        let here : Refers (table_at c row.table) (list_at lists row.table) = pair_at Refers c.tables lists row.table (table_at c row.table) _ refers there in
        let proper : IsValidTable c (table_at c row.table) = Each_at (IsValidTable c) c.tables row.table (table_at c row.table) valid.tables there in
        let lost = none_next row.pos 5 (first_lost all (table_at c row.table).links (next_cells c lists row)) None none in
        let each = none_found (finds_nothing all (next_cells c lists row)) (λ l. l.name) (table_at c row.table).links lost.0 in
        pair_set Refers c.tables lists row.table (table_at c row.table) _ refers there
        (links_more (table_at c row.table) (table_at c row.table).links (list_at lists row.table).rows
        (record { number = (list_at lists row.table).next_number; cells = next_cells c lists row }) proper.links each here)

    refers_after : (rows : List RowText) (lists last : List TableRows) → Each (IsRowOf c) rows → EachPair Refers c.tables lists
        → lists_after c lists rows ≡ Ok last → reference_fault c all lists rows ≡ None → EachPair Refers c.tables last
    unfolding lists_after reference_fault
    refers_after [] lists last stand refers e f = let s : lists ≡ last = cc in subst (EachPair Refers c.tables) s refers
    refers_after (row ∷ rows) lists last stand refers e f =
        let p = passes (next_fault c lists row) (lists_after c (lists_with c lists row) rows) last e in
        let q = neither (lost_reference all (table_at c row.table).links row.pos (next_cells c lists row)) (reference_fault c all (lists_with c lists row) rows) f in
        refers_after rows (lists_with c lists row) last stand.1 (refers_with lists row stand.0 refers q.0) p.1 q.1

    opening_refers : (tables : List TableDef) → EachPair Refers tables (map no_rows tables)
    opening_refers [] = tt
    opening_refers (t ∷ tables) = (no_references t.links, opening_refers tables)

  opening_good : (tables : List TableDef) → EachPair Good tables (map no_rows tables)
  opening_good [] = tt
  opening_good (t ∷ tables) = (good_opening c.enums t, opening_good tables)

  -- ---- the whole

  is_valid : (tables : Tables) (t : TableDef) (list : TableRows) → Good t list → Each (λ l. Each (Finds tables l) list.rows) t.links → IsValidList c tables t list
  is_valid tables t list good refers =
      let limit = good.limit in let next = good.next in
      record {
        limit = limit;
        next = omega (arith, next);
        next_fits = omega (arith, limit, next);
        numbers = good.numbers;
        counters = good.counters;
        cells = good.cells;
        keys = good.keys;
        links = refers;
      }

  pub rows_valid : (rows : List RowText) (tables : Tables) → Each (IsRowOf c) rows → Each HasTexts rows → rows_of c rows ≡ Ok tables → AreValidTables c tables
  rows_valid rows tables stand texts e = by (lists_after c (opening c) rows) refl e
    where
      whole_valid : (all : List TableRows) → lists_after c (opening c) rows ≡ Ok all → reference_fault c all (opening c) rows ≡ None → AreValidTables c (record { lists = all })
      whole_valid all after none =
          let good = good_after rows (opening c) all stand texts (opening_good c.tables) after in
          let as_long = pair_length Good c.tables all good in
          record {
            lists = pair_both Good (Refers all as_long) (IsValidList c (record { lists = all })) (is_valid (record { lists = all })) c.tables all good
                (refers_after all as_long rows (opening c) all stand (opening_refers all as_long c.tables) after none);
          }

      by : (r : Result (List TableRows) RowsFault) → lists_after c (opening c) rows ≡ r → after_rows c rows r ≡ Ok tables → AreValidTables c tables
      by (Ok all) after h =
          let p = passes (reference_fault c all (opening c) rows) (Ok (record { lists = all })) tables h in
          let made : AreValidTables c (record { lists = all }) = whole_valid all after p.0 in
          let q = p.1 in
          let same : record { lists = all } ≡ tables = cc in
          subst (AreValidTables c) same made
      by (Err fault) after h = absurd (cc)
