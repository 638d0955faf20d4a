-- Over valid tables the meaning of a statement has the form of a store's answer.
use Rattle.std.proofs.Common.{◌≡◌, ℕ, zero, suc, ◌+◌, ◌-◌, ◌≤◌, Bool, true, false, cond, List, [], ◌∷◌, map, filter, length, take, drop, Option, refl, ap, sym, ◌∙◌, subst, arith, length-drop, length-take-le}
use Rattle.std.specs.Prelude.{slice_get, IfSome}
use Rattle.std.proofs.lemmas.List.{length-map}
use Rattle.pg_base.specs.declared.cell.Cell.{Cell}
use Rattle.pg_base.specs.declared.cell.Cell.TheVariants as cell
use Rattle.pg_base.specs.declared.enum_def.EnumDef.{EnumDef}
use Rattle.pg_base.specs.declared.table_def.ColumnDef.{ColumnDef}
use Rattle.pg_base.specs.declared.table_def.TableDef.{TableDef}
use Rattle.pg_base.specs.Lists.{Each, EachPair}
use Rattle.pg_base.specs.Catalog.{CatalogParts}
use Rattle.rel_model.specs.declared.tables.Row.{Row}
use Rattle.rel_model.specs.declared.tables.TableRows.{TableRows}
use Rattle.rel_model.specs.declared.tables.Tables.{Tables}
use Rattle.rel_model.specs.Tables.{FitsColumn, AreNumbered, IsValidList, AreValidTables, cells_at}
use Rattle.stmt_tree.specs.declared.stmt.Stmt.{Stmt}
use Rattle.stmt_tree.specs.declared.stmt.Child.{Child}
use Rattle.stmt_tree.specs.declared.stmt.Child.TheOpen.{Stmt-F, Child-F}
use Rattle.stmt_tree.specs.declared.stmt.Child.TheViews.{out-Stmt, out-Child, roll-Stmt, roll-Child, out-roll-Stmt, out-roll-Child}
use Rattle.stmt_tree.specs.declared.stmt.Child.TheFolds as folds
use Rattle.stmt_tree.specs.declared.found.RowTree.{RowTree}
use Rattle.stmt_tree.specs.declared.found.Key.{Key}
use Rattle.stmt_tree.specs.declared.found.Found.{Found}
use Rattle.stmt_tree.specs.declared.found.Found.TheViews.{out-RowTree, out-roll-RowTree, roll-Found, out-roll-Found}
use Rattle.stmt_tree.specs.declared.found.Found.TheOpen.{Found-F}
use Rattle.rel_model.specs.Picked.{rows_in, passes}
use Rattle.rel_model.specs.Ordered.{inserted, sorted_by, precedes}
use Rattle.rel_model.specs.Interval.{interval_of}
use Rattle.stmt_tree.specs.Meaning.{tree_of, part_of, found_for, found_below, meaning_of}
use Rattle.rel_model.proofs.Listed.{interval_within}
use Rattle.stmt_tree.specs.Form.{rows_asked, IsHeld, HasForm, HaveForm, HaveBelow, has_form, no_rows, more_rows, no_children, more_children}
use Rattle.stmt_tree.specs.Batches.{list_for, grown, part_in}
use Rattle.stmt_tree.proofs.Meaning.{found_is, below_is, tree_is}

-- a row that a catalog's table may hold
abbrev pub IsRowOf : CatalogParts → ℕ → Row → Type 0
IsRowOf c table row = (1 ≤ row.number) × IfSome (slice_get c.tables table) (λ d. EachPair (IsHeld c.enums) d.columns row.cells)

module _ {A : Type 0} (P : A → Type 0) where
  each_filter : (f : A → Bool) (xs : List A) → Each P xs → Each P (filter f xs)
  each_filter f [] h = tt
  each_filter f (x ∷ xs) h = by_test (f x) (each_filter f xs h.1) where
    by_test : (b : Bool) → Each P (filter f xs) → Each P (cond b (x ∷ filter f xs) (filter f xs))
    by_test true k = (h.0, k)
    by_test false k = k

  each_drop : (n : ℕ) (xs : List A) → Each P xs → Each P (drop n xs)
  each_drop zero [] h = tt
  each_drop zero (x ∷ xs) h = h
  each_drop (suc n) [] h = tt
  each_drop (suc n) (x ∷ xs) h = each_drop n xs h.1

  each_take : (n : ℕ) (xs : List A) → Each P xs → Each P (take n xs)
  each_take zero [] h = tt
  each_take zero (x ∷ xs) h = tt
  each_take (suc n) [] h = tt
  each_take (suc n) (x ∷ xs) h = (h.0, each_take n xs h.1)

held : (enums : List EnumDef) (d : ColumnDef) (value : Cell) → FitsColumn enums d value → IsHeld enums d value
held enums d cell.Null h = tt
held enums d (cell.Int n) h = h
held enums d (cell.Bool b) h = h
held enums d (cell.Text t) h = h
held enums d (cell.EnumCase n) h = h

all_held : (enums : List EnumDef) (ds : List ColumnDef) (cells : List Cell) → EachPair (FitsColumn enums) ds cells → EachPair (IsHeld enums) ds cells
all_held enums [] [] h = tt
all_held enums [] (v ∷ vs) h = absurd h
all_held enums (d ∷ ds) [] h = absurd h
all_held enums (d ∷ ds) (v ∷ vs) h = (held enums d v h.0, all_held enums ds vs h.1)

module _ (c : CatalogParts) where
  numbered_rows : (d : TableDef) (from below : ℕ) (rows : List Row) → 1 ≤ from → AreNumbered from below rows → Each (λ r. EachPair (FitsColumn c.enums) d.columns r.cells) rows → Each (λ r. (1 ≤ r.number) × EachPair (IsHeld c.enums) d.columns r.cells) rows
  numbered_rows d from below [] le h k = tt
  numbered_rows d from below (r ∷ rows) le h k =
      let here : 1 ≤ r.number = omega (arith, h.0) in
      ((here, all_held c.enums d.columns r.cells k.0), numbered_rows d (r.number + 1) below rows (omega arith) h.2 k.1)

  abbrev AreRows : Option TableDef → List Row → Type 0
  AreRows d rows = Each (λ r. (1 ≤ r.number) × IfSome d (λ t. EachPair (IsHeld c.enums) t.columns r.cells)) rows

  rows_are : (tables : Tables) (ds : List TableDef) (ts : List TableRows) → EachPair (IsValidList c tables) ds ts → (at : ℕ) → AreRows (slice_get ds at) (rows_in (slice_get ts at))
  rows_are tables [] [] h at = tt
  rows_are tables [] (t ∷ ts) h at = absurd h
  rows_are tables (d ∷ ds) [] h at = absurd h
  rows_are tables (d ∷ ds) (t ∷ ts) h zero = numbered_rows d 1 t.next_number t.rows (omega arith) h.0.numbers h.0.cells
  rows_are tables (d ∷ ds) (t ∷ ts) h (suc at) = rows_are tables ds ts h.1 at

  few_rows : (tables : Tables) (ds : List TableDef) (ts : List TableRows) → EachPair (IsValidList c tables) ds ts → (at : ℕ) → length (rows_in (slice_get ts at)) ≤ 1000000
  few_rows tables [] [] h at = omega arith
  few_rows tables [] (t ∷ ts) h at = absurd h
  few_rows tables (d ∷ ds) [] h at = absurd h
  few_rows tables (d ∷ ds) (t ∷ ts) h zero = h.0.limit
  few_rows tables (d ∷ ds) (t ∷ ts) h (suc at) = few_rows tables ds ts h.1 at

length_filter : {A : Type 0} (f : A → Bool) (xs : List A) → length (filter f xs) ≤ length xs
length_filter f [] = omega arith
length_filter {A} f (x ∷ xs) = by_test (f x) (length_filter f xs) where
  by_test : (b : Bool) → length (filter f xs) ≤ length xs → length (cond {A = List A} b (x ∷ filter f xs) (filter f xs)) ≤ suc (length xs)
  by_test true k = omega (arith, k)
  by_test false k = omega (arith, k)

length_part : (rows : Bool) (a b : ℕ) (list : List Row) → b ≤ length list → length (part_of rows (a, b) list) ≡ rows_asked rows a b
length_part true a b list le = length-take-le (b - a) (drop a list) (omega (arith, le, length-drop a list))
length_part false a b list le = refl

cond_length : {X : Type 0} (b : Bool) (xs ys : List X) (n : ℕ) → length xs ≡ n → length ys ≡ n → length (cond b xs ys) ≡ n
cond_length true xs ys n h k = h
cond_length false xs ys n h k = k

length_inserted : {X : Type 0} (lt : X → X → Bool) (x : X) (ys : List X) → length (inserted lt x ys) ≡ suc (length ys)
length_inserted lt x [] = refl
length_inserted lt x (y ∷ ys) = cond_length (lt y x) (y ∷ inserted lt x ys) (x ∷ y ∷ ys) (suc (suc (length ys))) (ap suc (length_inserted lt x ys)) refl

pub length_sorted : {X : Type 0} (lt : X → X → Bool) (xs : List X) → length (sorted_by lt xs) ≡ length xs
length_sorted lt [] = refl
length_sorted lt (x ∷ xs) = length_inserted lt x (sorted_by lt xs) ∙ ap suc (length_sorted lt xs)

module _ {X : Type 0} (P : X → Type 0) where
  cond_each : (b : Bool) (xs ys : List X) → Each P xs → Each P ys → Each P (cond b xs ys)
  cond_each true xs ys h k = h
  cond_each false xs ys h k = k

  each_inserted : (lt : X → X → Bool) (x : X) (ys : List X) → P x → Each P ys → Each P (inserted lt x ys)
  each_inserted lt x [] h k = (h, tt)
  each_inserted lt x (y ∷ ys) h k = cond_each (lt y x) (y ∷ inserted lt x ys) (x ∷ y ∷ ys) (k.0, each_inserted lt x ys h k.1) (h, k)

  each_sorted : (lt : X → X → Bool) (xs : List X) → Each P xs → Each P (sorted_by lt xs)
  each_sorted lt [] h = tt
  each_sorted lt (x ∷ xs) h = each_inserted lt x (sorted_by lt xs) h.0 (each_sorted lt xs h.1)

module _ (c : CatalogParts) (tables : Tables) (valid : AreValidTables c tables) where
  abbrev ChildForm : Child → Type 0
  ChildForm k = (cells : List Cell) → HasForm c (out-Child k).stmt (found_below tables k cells)

  abbrev StmtForm : Stmt → Type 0
  StmtForm s = (key : List Cell) → HasForm c s (found_for tables s key)

  below_form : (es : List ((k : Child) × ChildForm k)) (cells : List Cell) → HaveBelow c (map (λ e. e.0) es) (map (λ k. found_below tables k cells) (map (λ e. e.0) es))
  below_form [] cells = no_children
  below_form (e ∷ es) cells = more_children (e.1 cells) (below_form es cells)

  rows_form : (s : Stmt) → ((row : Row) → HaveBelow c (out-Stmt s).children (map (λ k. found_below tables k row.cells) (out-Stmt s).children)) → (rows : List Row) → AreRows c (slice_get c.tables (out-Stmt s).table) rows → HaveForm c s (grown tables s rows)
  rows_form s below [] h = no_rows
  rows_form s below (row ∷ rows) h =
      let is = tree_is tables (out-Stmt s).children row in
      let out = ap out-RowTree is ∙ out-roll-RowTree _ in
      more_rows
      (subst (λ o. (1 ≤ o.number) × IfSome (slice_get c.tables (out-Stmt s).table) (λ d. EachPair (IsHeld c.enums) d.columns o.cells)) (sym out) h.0)
      (subst (λ o. HaveBelow c (out-Stmt s).children o.children) (sym out) (below row))
      (rows_form s below rows h.1)

  of_roll : (s : Stmt) (x : Found-F Found RowTree) → (x.from ≤ x.to) × (x.to ≤ x.total) × (x.total ≤ 1000000) × (length x.rows ≡ rows_asked (out-Stmt s).rows x.from x.to) → HaveForm c s x.rows → HasForm c s (roll-Found x)
  of_roll s x h k =
      let out = out-roll-Found x in
      has_form (subst (λ o. (o.from ≤ o.to) × (o.to ≤ o.total) × (o.total ≤ 1000000) × (length o.rows ≡ rows_asked (out-Stmt s).rows o.from o.to)) (sym out) h) (subst (λ o. HaveForm c s o.rows) (sym out) k)

  one_form : (s : Stmt) → ((row : Row) → HaveBelow c (out-Stmt s).children (map (λ k. found_below tables k row.cells) (out-Stmt s).children)) → StmtForm s
  one_form s below key =
      let t = (out-Stmt s).table in
      let p = passes (out-Stmt s).by key (out-Stmt s).condition in
      let order = (out-Stmt s).order in
      let all = rows_in (slice_get tables.lists t) in
      let list = list_for tables s key in
      let places = interval_of order (out-Stmt s).window list in
      let le = interval_within order (out-Stmt s).window list in
      let some : AreRows c (slice_get c.tables t) list = each_sorted _ (precedes order) (filter p all) (each_filter _ p all (rows_are c tables c.tables tables.lists valid.lists t)) in
      let few : length list ≤ 1000000 = let a = few_rows c tables c.tables tables.lists valid.lists t in let b = length_filter p all in let d = length_sorted (precedes order) (filter p all) in omega (arith, a, b, d) in
      let part = part_in s list in
      let part_rows : AreRows c (slice_get c.tables t) part = each_part _ (out-Stmt s).rows places list some in
      let due : length (grown tables s part) ≡ rows_asked (out-Stmt s).rows places.0 places.1 = length-map part (tree_of (map (found_below tables) (out-Stmt s).children)) ∙ length_part (out-Stmt s).rows places.0 places.1 list le.1 in
      subst (HasForm c s) (sym (found_is tables s key)) (of_roll s _ (le.0, le.1, few, due) (rows_form s below part part_rows))
    where
      each_part : (P : Row → Type 0) (rows : Bool) (places : ℕ × ℕ) (list : List Row) → Each P list → Each P (part_of rows places list)
      each_part P true places list h = each_take P (places.1 - places.0) (drop places.0 list) (each_drop P places.0 list h)
      each_part P false places list h = tt

  child_form : (x : Child-F Child Stmt) → StmtForm x.stmt → ChildForm (roll-Child x)
  child_form x h cells =
      let out = out-roll-Child x in
      subst (HasForm c (out-Child (roll-Child x)).stmt) (sym (below_is tables (roll-Child x) cells))
      (subst (λ o. HasForm c o.stmt (found_for tables o.stmt (cells_at o.parent_columns cells))) (sym out) (h (cells_at x.parent_columns cells)))

  stmt_form : (x : Stmt-F Child Stmt) (es : List ((k : Child) × ChildForm k)) → map (λ e. e.0) es ≡ x.children → StmtForm (roll-Stmt x)
  stmt_form x es is =
      one_form (roll-Stmt x) (λ row. subst (λ ks. HaveBelow c ks (map (λ k. found_below tables k row.cells) ks)) (is ∙ ap (λ o. o.children) (sym (out-roll-Stmt x))) (below_form es row.cells))

  -- the law: for each key the meaning has the form
  pub meaning_form : (s : Stmt) → StmtForm s
  meaning_form = folds.ind-Stmt ChildForm StmtForm
      (λ x y is. child_form x (subst StmtForm (ap (λ z. z.stmt) is) y.stmt.1))
      (λ x y is. stmt_form x y.children (ap (λ z. z.children) is))

  -- and so has what is found for all keys
  pub meanings_form : (s : Stmt) (keys : List Key) → Each (HasForm c s) (meaning_of tables s keys)
  meanings_form s [] = tt
  meanings_form s (k ∷ keys) = (meaning_form s k.cells, meanings_form s keys)
