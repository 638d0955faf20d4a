-- What a fetch that serves a row field finds.
use Rattle.std.proofs.Common.{◌≡◌, ℕ, zero, suc, ◌+◌, ◌-◌, ◌<◌, ◌≤◌, List, [], ◌∷◌, filter, length, take, drop, min, max, Option, Some, None, Bool, true, false, cond, refl, ap, ◌∙◌, subst, arith}
use Rattle.std.proofs.lemmas.Bool.{ltb-true}
use Rattle.std.specs.Prelude.{slice_get, option_map, ⊤, ◌==◌, nat_lt}
use Rattle.std.specs.declared.cmp.Ordering.TheVariants.{Less, Equal, Greater}
use Rattle.std.specs.Ordering.{is_lt, nat_cmp}
use Rattle.pg_base.specs.Lists.{EachPair}
use Rattle.pg_base.specs.declared.cell.Cell.{Cell}
use Rattle.pg_base.specs.declared.table_def.TableDef.{TableDef}
use Rattle.rel_model.specs.declared.tables.Row.{Row}
use Rattle.rel_model.specs.declared.tables.TableRows.{TableRows}
use Rattle.rel_model.specs.declared.tables.Tables.{Tables}
use Rattle.rel_model.specs.Tables.{AreNumbered, AreValidTables, IsValidList}
use Rattle.rel_model.specs.Picked.{picked, passes, rows_in}
use Rattle.rel_model.specs.Ordered.{ordered, inserted, precedes}
use Rattle.rel_model.specs.Interval.{interval_of, rows_between}
use Rattle.pg_base.specs.declared.vars.Vars.{Vars}
use Rattle.pg_base.specs.Base.{BaseParts}
use Rattle.pg_base.specs.declared.schema.FieldDef.{FieldDef}
use Rattle.pg_base.specs.declared.does.Does.{Does}
use Rattle.pg_base.specs.declared.does.Does.TheVariants as does
use Rattle.place_tree.specs.declared.place.Place.{Place}
use Rattle.place_tree.specs.Fields.{field_of, does_of, key_at, link_at, finds_one, is_row_field}
use Rattle.pg_base.specs.declared.table_def.KeyDef.{KeyDef}
use Rattle.pg_base.specs.declared.table_def.LinkDef.{LinkDef}
use Rattle.place_tree.specs.declared.fetch.Fetch.{Fetch}
use Rattle.place_tree.specs.declared.fetch.KeyCells.{KeyCells}
use Rattle.place_tree.specs.declared.fetch.KeyCells.TheVariants.{Given, OfParent}
use Rattle.place_tree.specs.declared.fetch.Shape.TheVariants as shape
use Rattle.place_tree.specs.Fetch.{whole, row_fetch, list_fetch, key_fetch, forward_fetch, referring_fetch, fetch_by, backward_fetch, fetch_in, fetch_of, key_cells}

-- ---- rows in the order of their numbers

-- each number is less than those behind it
abbrev pub Rising : ℕ → List Row → Type 0
Rising from [] = ⊤
Rising from (r ∷ rows) = (from ≤ r.number) × Rising (r.number + 1) rows

rising_numbers : (from below : ℕ) (rows : List Row) → AreNumbered from below rows → Rising from rows
rising_numbers from below [] h = tt
rising_numbers from below (r ∷ rows) h = (h.0, rising_numbers (r.number + 1) below rows h.2)

rising_less : (from to : ℕ) (rows : List Row) → from ≤ to → Rising to rows → Rising from rows
rising_less from to [] le h = tt
rising_less from to (r ∷ rows) le h = (omega (arith, le, h.0), h.1)

rising_filter : (p : Row → Bool) (from : ℕ) (rows : List Row) → Rising from rows → Rising from (filter p rows)
rising_filter p from [] h = tt
rising_filter p from (r ∷ rows) h = by_test (p r) (rising_filter p (r.number + 1) rows h.1) where
  by_test : (b : Bool) → Rising (r.number + 1) (filter p rows) → Rising from (cond b (r ∷ filter p rows) (filter p rows))
  by_test true k = (h.0, k)
  by_test false k = rising_less from (r.number + 1) (filter p rows) (let a = h.0 in omega (arith, a)) k

less_cond : (x y : ℕ) → y < x → is_lt (nat_cmp x y) ≡ false
less_cond x y lt = by_test (nat_lt x y) refl (x == y) refl where
  by_test : (b : Bool) → nat_lt x y ≡ b → (c : Bool) → (x == y) ≡ c → is_lt (cond b Less (cond c Equal Greater)) ≡ false
  by_test true e c ec = let a = ltb-true x y e in absurd (omega (arith, a, lt))
  by_test false e true ec = refl
  by_test false e false ec = refl

not_before : (r s : Row) → r.number < s.number → precedes [] s r ≡ false
not_before r s lt = less_cond s.number r.number lt

inserted_first : (r : Row) (rows : List Row) → Rising (r.number + 1) rows → inserted (precedes []) r rows ≡ r ∷ rows
inserted_first r [] h = refl
inserted_first r (s ∷ rows) h = ap (λ b. cond b (s ∷ inserted (precedes []) r rows) (r ∷ s ∷ rows)) (not_before r s (let a = h.0 in omega (arith, a)))

-- rows with rising numbers are in order
pub ordered_rising : (from : ℕ) (rows : List Row) → Rising from rows → ordered [] rows ≡ rows
ordered_rising from [] h = refl
ordered_rising from (r ∷ rows) h = ap (inserted (precedes []) r) (ordered_rising (r.number + 1) rows h.1) ∙ inserted_first r rows h.1

module _ (tables : Tables) where
  table_rising : (c : Rattle.pg_base.specs.Catalog.CatalogParts) (ds : List TableDef) (ts : List TableRows) → EachPair (IsValidList c tables) ds ts → (at : ℕ) → Rising 1 (rows_in (slice_get ts at))
  table_rising c [] [] h at = tt
  table_rising c [] (t ∷ ts) h at = absurd h
  table_rising c (d ∷ ds) [] h at = absurd h
  table_rising c (d ∷ ds) (t ∷ ts) h zero = rising_numbers 1 t.next_number t.rows h.0.numbers
  table_rising c (d ∷ ds) (t ∷ ts) h (suc at) = table_rising c ds ts h.1 at

  -- what is picked from valid tables is in order
  pub picked_ordered : (base : BaseParts) → AreValidTables base.catalog tables → (table : ℕ) (by : List ℕ) (key : List Cell) (condition : List _) → ordered [] (picked tables table by key condition) ≡ picked tables table by key condition
  picked_ordered base valid table by key condition =
      ordered_rising 1 _ (rising_filter (passes by key condition) 1 (rows_in (slice_get tables.lists table)) (table_rising base.catalog base.catalog.tables tables.lists valid.lists table))

whole_is : (n : ℕ) → min (max 0 n) (0 + 0) ≡ 0
whole_is n = omega arith

whole_to : (n : ℕ) → max 0 n ≡ n
whole_to n = omega arith

-- a whole list is asked for from its first row to its end
pub all_rows : (list : List Row) → rows_between (interval_of [] whole list) list ≡ list
all_rows list =
    ap (λ a. take (max 0 (length list) - a) (drop a list)) (whole_is (length list))
    ∙ ap (λ b. take (b - 0) (drop 0 list)) (whole_to (length list))
    ∙ ap (λ n. take n (drop 0 list)) (let e : length list - 0 ≡ length list = omega arith in e)
    ∙ all_taken list where
      all_taken : (xs : List Row) → take (length xs) (drop 0 xs) ≡ xs
      all_taken [] = refl
      all_taken (x ∷ xs) = ap (λ l. x ∷ l) (taken xs) where
        taken : (xs : List Row) → take (length xs) xs ≡ xs
        taken [] = refl
        taken (x ∷ xs) = ap (λ l. x ∷ l) (taken xs)

-- ---- what kinds of fetches there are

-- one row is asked for without an order, a window or a condition
abbrev pub IsPlain : Fetch → Type 0
IsPlain due = due.shape ≡ shape.Row → (due.order ≡ []) × (due.window ≡ whole) × (due.condition ≡ [])

plain_row : (table : ℕ) (by : List ℕ) (key : KeyCells) → IsPlain (row_fetch table by key)
plain_row table by key h = (refl, refl, refl)

plain_some : (x due : Fetch) → IsPlain x → Some x ≡ Some due → IsPlain due
plain_some x due h e = let same : x ≡ due = cc in subst IsPlain same h

plain_backward : (base : BaseParts) (f : FieldDef) (vars : Vars) (p : Place) (table : ℕ) (l : LinkDef) (b : Bool) → IsPlain (backward_fetch base f vars p table l b)
plain_backward base f vars p table l true h = (refl, refl, refl)
plain_backward base f vars p table l false h = cc

plain_key : (base : BaseParts) (f : FieldDef) (vars : Vars) (p : Place) (table : ℕ) (k : Option KeyDef) (due : Fetch) → key_fetch base f vars p table k ≡ Some due → IsPlain due
plain_key base f vars p table None due e = cc
plain_key base f vars p table (Some k) due e = plain_some (row_fetch table k.columns (Given (key_cells base.schema vars p 0 f.args))) due (plain_row table k.columns (Given (key_cells base.schema vars p 0 f.args))) e

plain_forward : (l : Option LinkDef) (due : Fetch) → forward_fetch l ≡ Some due → IsPlain due
plain_forward None due e = cc
plain_forward (Some l) due e = plain_some (row_fetch l.target l.target_columns (OfParent l.columns)) due (plain_row l.target l.target_columns (OfParent l.columns)) e

plain_referring : (base : BaseParts) (f : FieldDef) (vars : Vars) (p : Place) (table : ℕ) (l : Option LinkDef) (due : Fetch) → referring_fetch base f vars p table l ≡ Some due → IsPlain due
plain_referring base f vars p table None due e = cc
plain_referring base f vars p table (Some l) due e =
    let b = finds_one (slice_get base.catalog.tables table) l in
    plain_some (backward_fetch base f vars p table l b) due (plain_backward base f vars p table l b) e

plain_by : (base : BaseParts) (f : FieldDef) (vars : Vars) (p : Place) (d : Does) (due : Fetch) → fetch_by base f vars p d ≡ Some due → IsPlain due
plain_by base f vars p (does.All table) due e = plain_some (list_fetch base f vars p table [] (Given [])) due (λ h. cc) e
plain_by base f vars p (does.ByKey table key) due e = plain_key base f vars p table (key_at base.catalog table key) due e
plain_by base f vars p (does.Forward table link) due e = plain_forward (link_at base.catalog table link) due e
plain_by base f vars p (does.Backward table link) due e = plain_referring base f vars p table (link_at base.catalog table link) due e
plain_by base f vars p _ due e = cc

pub plain_fetch : (base : BaseParts) (vars : Vars) (p : Place) (due : Fetch) → fetch_of base vars p ≡ Some due → IsPlain due
unfolding fetch_of
plain_fetch base vars p due e = by_field (field_of base.schema p) e where
  by_field : (o : Option FieldDef) → fetch_in base vars p o ≡ Some due → IsPlain due
  by_field None e = cc
  by_field (Some f) e = plain_by base f vars p f.does due e

-- a field that is no row field asks nothing
pub no_fetch : (base : BaseParts) (vars : Vars) (p : Place) → is_row_field (does_of base.schema p) ≡ false → fetch_of base vars p ≡ None
unfolding fetch_of
no_fetch base vars p h = by_field (field_of base.schema p) h where
  by_does : (f : FieldDef) (d : Does) → is_row_field (Some d) ≡ false → fetch_by base f vars p d ≡ None
  by_does f (does.All t) h = cc
  by_does f (does.ByKey t k) h = cc
  by_does f (does.Forward t k) h = cc
  by_does f (does.Backward t k) h = cc
  by_does f _ h = refl

  by_field : (o : Option FieldDef) → is_row_field (option_map (λ f. f.does) o) ≡ false → fetch_in base vars p o ≡ None
  by_field None h = refl
  by_field (Some f) h = by_does f f.does h
