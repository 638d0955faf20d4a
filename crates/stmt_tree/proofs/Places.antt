-- What the tests of a statement's places decide.
use Rattle.std.proofs.Common.{◌≡◌, ℕ, ◌<◌, ◌==◌, List, [], ◌∷◌, map, length, Bool, true, ◌&&◌, Option, Some, None, refl, ap, sym, subst, arith, Decides}
use Rattle.std.specs.Prelude.{nat_lt, slice_get, IfSome, IsSomeAnd}
use Rattle.std.specs.List.{list_all}
use Rattle.std.proofs.lemmas.Bool.Decides.{nat_tests, Decides-and, Decides-eqb}
use Rattle.pg_base.specs.declared.cell.Mark.{Mark}
use Rattle.pg_base.specs.declared.table_def.TableDef.{TableDef}
use Rattle.pg_base.specs.Lists.{Each, AreBelow}
use Rattle.pg_base.specs.Catalog.{CatalogParts}
use Rattle.stmt_tree.specs.declared.stmt.Stmt.{Stmt}
use Rattle.stmt_tree.specs.declared.stmt.Child.{Child}
use Rattle.stmt_tree.specs.declared.stmt.Child.TheOpen.{Stmt-F, Child-F}
use Rattle.stmt_tree.specs.declared.stmt.Child.TheViews.{out-Stmt, out-Child, roll-out-Stmt, roll-out-Child}
use Rattle.stmt_tree.specs.declared.stmt.Child.TheFolds as folds
use Rattle.stmt_tree.specs.Form.{IsChildOf, IsLayerOf, IsStmtOf}
use Rattle.stmt_tree.specs.Places as spec

-- ---- one layer

lt_decides : (a b : ℕ) → Decides (nat_lt a b) (a < b)
lt_decides a b = ((λ e. grind (arith, nat_tests, e)), (λ l. grind (arith, nat_tests, l)))

all_decides : {A : Type 0} (p : A → Bool) (P : A → Type 0) → ((x : A) → Decides (p x) (P x)) → (xs : List A) → Decides (list_all p xs) (Each P xs)
all_decides p P d [] = ((λ e. tt), (λ h. refl))
all_decides p P d (x ∷ xs) = Decides-and (p x) (list_all p xs) (d x) (all_decides p P d xs)

below_decides : (width : ℕ) (places : List ℕ) → Decides (spec.are_below width places) (AreBelow width places)
below_decides width places = all_decides (λ place. nat_lt place width) (λ place. place < width) (λ place. lt_decides place width) places

child_decides : (width : ℕ) (child : Child) → Decides (spec.child_fits width child) (IsChildOf width child)
child_decides width child =
    let c = out-Child child in
    Decides-and (length c.parent_columns == length (out-Stmt c.stmt).by) (spec.are_below width c.parent_columns)
    (Decides-eqb (length c.parent_columns) (length (out-Stmt c.stmt).by)) (below_decides width c.parent_columns)

abbrev HasPlaces : ℕ → Stmt-F Child Stmt → Type 0
HasPlaces width s =
    AreBelow width s.by × Each (λ e. e.column < width) s.condition × Each (λ o. o.column < width) s.order × Each (IsChildOf width) s.children

places_decides : (width : ℕ) (s : Stmt-F Child Stmt) → Decides (spec.places_fit width s) (HasPlaces width s)
places_decides width s =
    let by = below_decides width s.by in
    let condition = all_decides (λ e. nat_lt e.column width) (λ e. e.column < width) (λ e. lt_decides e.column width) s.condition in
    let order = all_decides (λ o. nat_lt o.column width) (λ o. o.column < width) (λ o. lt_decides o.column width) s.order in
    let keys = all_decides (spec.child_fits width) (IsChildOf width) (child_decides width) s.children in
    let last = Decides-and (spec.orders_fit width s.order) (spec.keys_fit width s.children) order keys in
    let rest = Decides-and (spec.conditions_fit width s.condition) (spec.orders_fit width s.order && spec.keys_fit width s.children) condition last in
    let all = Decides-and (spec.are_below width s.by) (spec.conditions_fit width s.condition && (spec.orders_fit width s.order && spec.keys_fit width s.children)) by rest in
    ((λ e. let h = all.0 e in (h.0, h.1.0, h.1.1.0, h.1.1.1)), (λ h. all.1 (h.0, (h.1, (h.2, h.3)))))

mark_decides : (count : ℕ) (mark : Option Mark) → Decides (spec.mark_fits count mark) (IfSome mark (λ m. length m.values ≡ count))
mark_decides count None = ((λ e. tt), (λ h. refl))
mark_decides count (Some m) = Decides-eqb (length m.values) count

marks_decide : (s : Stmt-F Child Stmt) → Decides (spec.marks_fit s) (IfSome s.window.after (λ m. length m.values ≡ length s.order) × IfSome s.window.before (λ m. length m.values ≡ length s.order))
marks_decide s =
    Decides-and (spec.mark_fits (length s.order) s.window.after) (spec.mark_fits (length s.order) s.window.before)
    (mark_decides (length s.order) s.window.after) (mark_decides (length s.order) s.window.before)

module _ (c : CatalogParts) where
  pub layer_made : (s : Stmt-F Child Stmt) (t : TableDef) → slice_get c.tables s.table ≡ Some t → spec.places_fit (length t.columns) s ≡ true → spec.marks_fit s ≡ true → IsLayerOf c s
  layer_made s t at fit marks =
      let m = (marks_decide s).0 marks in
      record {
        table = subst (λ o. IsSomeAnd o (λ t. HasPlaces (length t.columns) s)) (sym at) ((places_decides (length t.columns) s).0 fit);
        after = m.0;
        before = m.1;
      }

  pub no_table : (s : Stmt-F Child Stmt) → slice_get c.tables s.table ≡ None → ¬ (IsLayerOf c s)
  no_table s at layer = absurd (subst (λ o. IsSomeAnd o (λ t. HasPlaces (length t.columns) s)) at layer.table)

  pub places_told : (s : Stmt-F Child Stmt) (t : TableDef) → slice_get c.tables s.table ≡ Some t → IsLayerOf c s → spec.places_fit (length t.columns) s ≡ true
  places_told s t at layer = (places_decides (length t.columns) s).1 (subst (λ o. IsSomeAnd o (λ t. HasPlaces (length t.columns) s)) at layer.table)

  pub marks_told : (s : Stmt-F Child Stmt) → IsLayerOf c s → spec.marks_fit s ≡ true
  marks_told s layer = (marks_decide s).1 (layer.after, layer.before)

  -- ---- all layers

  abbrev Any : Child-F Child Stmt → Type 0
  Any child = Unit {0}

  abbrev EveryChild : Child → Type 0
  EveryChild k = folds.every-Child Any (IsLayerOf c) k

  abbrev Below : Child → Type 0
  Below k = IsStmtOf c (out-Child k).stmt

  below_held : (k : Child) → EveryChild k → Below k
  below_held k p = let h = folds.every_held-Child Any (IsLayerOf c) k p in subst (IsStmtOf c) (ap (λ o. o.stmt) h.1) h.0.stmt.1

  each_held : (es : List ((k : Child) × EveryChild k)) → Each Below (map (λ e. e.0) es)
  each_held [] = tt
  each_held (e ∷ es) = (below_held e.0 e.1, each_held es)

  pub layer_of : (s : Stmt) → IsStmtOf c s → IsLayerOf c (out-Stmt s)
  layer_of s p = folds.every_here-Stmt Any (IsLayerOf c) s p

  pub children_of : (s : Stmt) → IsStmtOf c s → Each Below (out-Stmt s).children
  children_of s p =
      let h = folds.every_held-Stmt Any (IsLayerOf c) s p in
      subst (Each Below) (ap (λ o. o.children) h.1) (each_held h.0.children)

  child_made : (k : Child) → Below k → EveryChild k
  child_made k p =
      subst EveryChild (roll-out-Child k)
      (folds.every_made-Child Any (IsLayerOf c) (out-Child k) (record { parent_columns = (out-Child k).parent_columns; stmt = ((out-Child k).stmt, p) }) refl tt)

  with_facts : (ks : List Child) → Each Below ks → List ((k : Child) × EveryChild k)
  with_facts [] h = []
  with_facts (k ∷ ks) h = (k, child_made k h.0) ∷ with_facts ks h.1

  facts_dropped : (ks : List Child) (h : Each Below ks) → map (λ e. e.0) (with_facts ks h) ≡ ks
  unfolding with_facts
  facts_dropped [] h = refl
  facts_dropped (k ∷ ks) h = ap (λ l. k ∷ l) (facts_dropped ks h.1)

  with_children : Stmt-F Child Stmt → List Child → Stmt-F Child Stmt
  with_children s ks = record {
    table = s.table;
    by = s.by;
    condition = s.condition;
    order = s.order;
    window = s.window;
    rows = s.rows;
    children = ks;
  }

  pub stmt_made : (s : Stmt) → IsLayerOf c (out-Stmt s) → Each Below (out-Stmt s).children → IsStmtOf c s
  unfolding with_children
  stmt_made s here below =
      let o = out-Stmt s in
      subst (IsStmtOf c) (roll-out-Stmt s)
      (folds.every_made-Stmt Any (IsLayerOf c) o
      (record {
        table = o.table;
        by = o.by;
        condition = o.condition;
        order = o.order;
        window = o.window;
        rows = o.rows;
        children = with_facts o.children below;
      })
      (ap (with_children o) (facts_dropped o.children below)) here)
