-- Rows whose names are looked up.
use Rattle.std.proofs.Common.{◌≡◌, ◌≢◌, ℕ, zero, suc, ◌<◌, min, not, List, [], ◌∷◌, ◌++◌, length, get_or, take, drop, find, reverse, ◌+◌, Option, None, Some, refl, sym, ap, subst, ◌∙◌, arith, append_assoc}
use Rattle.std.specs.List.{slice_get}
use Rattle.std.specs.Option.{option_map, option_or}
use Rattle.std.proofs.lemmas.List.{length-map, reverse-append}
use Rattle.pg_base.proofs.ListSteps.{drop-item, take_item}
use Rattle.pg_base.specs.Lists.{Each, AreDistinct, EachPair}
use Rattle.pg_base.specs.Catalog.{CatalogParts}
use Rattle.pg_base.specs.declared.table_def.TableDef.{TableDef}
use Rattle.pg_catalog.specs.Names.{stands, places_of, column_names, first_double}
use Rattle.pg_catalog.proofs.EachFacts.{Each-pushed, Each-map}
use Rattle.pg_catalog.proofs.NameFacts.{AreDistinct-pushed, distinct}
use Rattle.pg_catalog.proofs.ValidLink.{places_differ, places_below}
use Rattle.ddl_reader.specs.declared.fault.ScriptFault.{ScriptFault}
use Rattle.ddl_reader.specs.declared.script.RowText.{RowText}
use Rattle.ddl_reader.specs.declared.statement.Row.{Row}
use Rattle.ddl_reader.specs.declared.statement.InsertStatement.{InsertStatement}
use Rattle.ddl_reader.specs.declared.resolving.Destination.{Destination}
use Rattle.ddl_reader.specs.Rows.{IsRowOf}
use Rattle.ddl_reader.specs.Script.{row_columns, row_text, named_columns, columns_of, insert_fault, double_column, unknown_column, unknown_name, names_fault, first_fault, IsResolved}
use Rattle.ddl_reader.specs.Compact.{below}
use Rattle.ddl_reader.specs.declared.inserts.InsertPlace.{InsertPlace}
use Rattle.ddl_reader.specs.Inserts.{moved, like, insert_of, inserts_in}
use Rattle.ddl_reader.specs.Destinations.{destination, IsDestination, columns_by, row_into, IsRowInto}
use Rattle.ddl_reader.proofs.Pairs.{pairs_get, pairs_map, pairs_more}

-- ---- from destinations to the catalog

same_columns : (t : TableDef) (o : Option (List (List ℕ))) (values : ℕ) → columns_by (option_map (places_of (column_names t)) o) (length t.columns) values ≡ row_columns t o values
same_columns t None values = refl
same_columns t (Some names) values = refl

same_row : (place : ℕ) (t : TableDef) (i : InsertStatement) (row : Row) → row_into (destination place t i) row ≡ row_text place t i row
same_row place t i row = ap (λ (columns : List ℕ). row_made columns) (same_columns t i.columns (length row.cells))
  where
    row_made : List ℕ → RowText
    row_made columns = record { pos = row.pos; table = place; columns = columns; cells = row.cells }

-- the INSERT at a place
get_insert : (firsts : List InsertStatement) (places : List InsertPlace) (n : ℕ) (place : InsertPlace) (first : InsertStatement) → slice_get places n ≡ Some place → slice_get firsts place.first ≡ Some first → slice_get (inserts_in firsts places) n ≡ Some (moved first place.pos)
get_insert firsts [] n place first e f = absurd (cc)
get_insert firsts (p ∷ places) zero place first e f =
    let same : p ≡ place = cc in
    ap (λ (q : InsertPlace). Some (insert_of firsts q)) same ∙ ap (λ (o : Option InsertStatement). Some (like o place.pos)) f
get_insert firsts (p ∷ places) (suc n) place first e f = get_insert firsts places n place first e f

module _ (c : CatalogParts) (firsts : List InsertStatement) (places : List InsertPlace) (destinations : List Destination) (found : EachPair (IsDestination c) firsts destinations) where
  pub row_resolved : (row : Row) (made : RowText) → IsRowInto places destinations row made → IsResolved c (inserts_in firsts places) row made
  row_resolved row made h =
      let at = pairs_get (IsDestination c) firsts destinations h.place.first h.destination found h.stands in
      record {
        insert = moved at.0 h.place.pos;
        table = at.2.table;
        place = at.2.place;
        written = get_insert firsts places row.insert h.place at.0 h.written at.1;
        named = at.2.named;
        stands = at.2.stands;
        is = h.is ∙ ap (λ (d : Destination). row_into d row) at.2.is ∙ same_row at.2.place at.2.table (moved at.0 h.place.pos) row;
      }

  pub rows_resolved : (rows : List Row) (made : List RowText) → EachPair (IsRowInto places destinations) rows made → EachPair (IsResolved c (inserts_in firsts places)) rows made
  rows_resolved rows made h = pairs_map (IsRowInto places destinations) (IsResolved c (inserts_in firsts places)) row_resolved rows made h

-- ---- no fault

pub both_none : {A : Type 0} (a b : Option A) → option_or a b ≡ None → (a ≡ None) × (b ≡ None)
both_none None b e = (refl, e)
both_none (Some x) b e = absurd (cc)

pub map_none : {A B : Type 0} (f : A → B) (o : Option A) → option_map f o ≡ None → o ≡ None
map_none f None e = refl
map_none f (Some x) e = absurd (cc)

pub no_fault_at : (c : CatalogParts) (inserts : List InsertStatement) (n : ℕ) (i : InsertStatement) → first_fault c inserts ≡ None → slice_get inserts n ≡ Some i → names_fault c i ≡ None
no_fault_at c [] n i e at = absurd (cc)
no_fault_at c (j ∷ inserts) zero i e at = let same : j ≡ i = cc in ap (names_fault c) (sym same) ∙ (both_none (names_fault c j) (first_fault c inserts) e).0
no_fault_at c (j ∷ inserts) (suc n) i e at = no_fault_at c inserts n i (both_none (names_fault c j) (first_fault c inserts) e).1 at

no_double : (c : CatalogParts) (i : InsertStatement) → names_fault c i ≡ None → first_double (columns_of i) ≡ None
no_double c i e = map_none (insert_fault 2 i) (first_double (columns_of i)) (both_none (double_column i) (unknown_name c i) e).0

-- a column that the table hasn't
pub missing : (i : InsertStatement) (t : TableDef) (names slice known : List (List ℕ)) (name : List ℕ) (f : ScriptFault) → i.columns ≡ Some names → slice ≡ names → known ≡ column_names t → Some name ≡ find (λ n. not (stands known n)) slice → f ≡ insert_fault 4 i name → unknown_column i t ≡ Some f
missing i t names slice known name f written same are found is =
    ap (λ (o : Option (List (List ℕ))). option_map (insert_fault 4 i) (find (λ n. not (stands (column_names t) n)) (named_columns o))) written
    ∙ ap (λ (l : List (List ℕ)). option_map (insert_fault 4 i) (find (λ n. not (stands (column_names t) n)) l)) (sym same)
    ∙ ap (λ (k : List (List ℕ)). option_map (insert_fault 4 i) (find (λ n. not (stands k n)) slice)) (sym are)
    ∙ ap (λ (o : Option (List ℕ)). option_map (insert_fault 4 i) o) (sym found)
    ∙ ap (λ (g : ScriptFault). Some g) (sym is)

-- an INSERT without a fault, as a loop meets it
pub fault_on : (c : CatalogParts) (inserts : List InsertStatement) (n : ℕ) (i : InsertStatement) (due : Option ScriptFault) → n < length inserts → i ≡ get_or inserts n i → names_fault c i ≡ None → first_fault c (drop n inserts) ≡ due → first_fault c (drop (n + 1) inserts) ≡ due
fault_on c inserts n i due lt is clear so_far =
    sym (ap (λ (o : Option ScriptFault). option_or o (first_fault c (drop (n + 1) inserts))) clear)
    ∙ sym (ap (first_fault c) (drop-item inserts n i lt is))
    ∙ so_far

pub found_on : (c : CatalogParts) (inserts : List InsertStatement) (n : ℕ) (i : InsertStatement) (found new : List Destination) (d : Destination) → n < length inserts → i ≡ get_or inserts n i → EachPair (IsDestination c) (take n inserts) found → IsDestination c i d → new ≡ found ++ d ∷ [] → EachPair (IsDestination c) (take (n + 1) inserts) new
found_on c inserts n i found new d lt is so_far here pushed =
    subst (λ (l : List Destination). EachPair (IsDestination c) (take (n + 1) inserts) l) (sym pushed)
    (subst (λ (l : List InsertStatement). EachPair (IsDestination c) l (found ++ d ∷ [])) (sym (take_item inserts n i lt is))
    (pairs_more (IsDestination c) (take n inserts) found i d so_far here))

-- ---- rows of the catalog

below_bound : (n : ℕ) → Each (λ at. at < n) (below n)
below_bound zero = tt
below_bound (suc n) = Each-pushed (λ at. at < suc n) (below n) n (Each-map (λ at. at < n) (λ at. at < suc n) (λ at h. omega (arith, h)) (below n) (below_bound n)) (omega arith)

below_distinct : (n : ℕ) → AreDistinct (below n)
below_distinct zero = tt
below_distinct (suc n) = AreDistinct-pushed (below n) n (below_distinct n) (Each-map (λ at. at < n) (λ at. at ≢ n) (λ at h same. omega (arith, h, same)) (below n) (below_bound n))

module _ (t : TableDef) (values : ℕ) where
  columns_within : (o : Option (List (List ℕ))) → Each (λ at. at < length t.columns) (row_columns t o values)
  columns_within None = Each-map (λ at. at < min values (length t.columns)) (λ at. at < length t.columns) (λ at h. omega (arith, h)) (below (min values (length t.columns))) (below_bound (min values (length t.columns)))
  columns_within (Some names) = subst (λ (n : ℕ). Each (λ at. at < n) (places_of (column_names t) names)) (length-map t.columns (λ column. column.name)) (places_below (column_names t) names)

  columns_distinct : (o : Option (List (List ℕ))) → first_double (named_columns o) ≡ None → AreDistinct (row_columns t o values)
  columns_distinct None e = below_distinct (min values (length t.columns))
  columns_distinct (Some names) e = places_differ (column_names t) names (distinct names e)

module _ (c : CatalogParts) (inserts : List InsertStatement) (clear : first_fault c inserts ≡ None) where
  row_of : (row : Row) (made : RowText) → IsResolved c inserts row made → IsRowOf c made
  row_of row made h = subst (λ (r : RowText). IsRowOf c r) (sym h.is) (record {
    table = h.table;
    stands = h.stands;
    columns = columns_within h.table (length row.cells) h.insert.columns;
    distinct = columns_distinct h.table (length row.cells) h.insert.columns (no_double c h.insert (no_fault_at c inserts row.insert h.insert clear h.written));
  })

  pub rows_of : (rows : List Row) (made : List RowText) → EachPair (IsResolved c inserts) rows made → Each (IsRowOf c) made
  rows_of [] [] h = tt
  rows_of [] (m ∷ made) h = absurd h
  rows_of (r ∷ rows) [] h = absurd h
  rows_of (r ∷ rows) (m ∷ made) h = (row_of r m h.0, rows_of rows made h.1)

-- ---- from the last row on

reverse_more : {A : Type 0} (before made : List A) (x : A) → (before ++ x ∷ []) ++ reverse made ≡ before ++ reverse (made ++ x ∷ [])
reverse_more before made x = append_assoc before (x ∷ []) (reverse made) ∙ ap (λ l. before ++ l) (sym (reverse-append made (x ∷ [])))

module _ {A B : Type 0} (R : A → B → Type 0) (rows left new : List A) (row : A) (made more : List B) (text : B) (popped : left ≡ new ++ row ∷ []) (pushed : more ≡ made ++ text ∷ []) (so_far : (before : List B) → EachPair R left before → EachPair R rows (before ++ reverse made)) where
  -- one row more is made
  pub backwards_more : R row text → (before : List B) → EachPair R new before → EachPair R rows (before ++ reverse more)
  backwards_more r before h =
      let made_here : EachPair R left (before ++ text ∷ []) = subst (λ (l : List A). EachPair R l (before ++ text ∷ [])) (sym popped) (pairs_more R new before row text h r) in
      subst (λ (l : List B). EachPair R rows l) (reverse_more before made text ∙ ap (λ (l : List B). before ++ reverse l) (sym pushed)) (so_far (before ++ text ∷ []) made_here)

pub backwards_end : {A B : Type 0} (R : A → B → Type 0) (rows left : List A) (made : List B) → left ≡ [] → ((before : List B) → EachPair R left before → EachPair R rows (before ++ reverse made)) → EachPair R rows (reverse made)
backwards_end {A} R rows left made empty so_far = so_far [] (subst (λ (l : List A). EachPair R l []) (sym empty) tt)
