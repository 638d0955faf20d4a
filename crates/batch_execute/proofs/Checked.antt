-- What a plan that is checked tells of its steps: an Item is a row of a fetch, and a fetch's statement has its places.
use Rattle.std.proofs.Common.{◌≡◌, ℕ, zero, suc, ◌+◌, ◌<◌, List, [], ◌∷◌, map, length, Option, Some, None, true, false, refl, sym, ap, ◌∙◌, subst, arith, eqb-true}
use Rattle.std.specs.Prelude.{slice_get, nat_lt, ◌==◌, ◌&&◌, is_some, IfSome, IsSomeAnd, IsTrue}
use Rattle.std.specs.Cmp.{first_so, second_so}
use Rattle.std.proofs.lemmas.Bool.Decides.{nat_tests}
use Rattle.pg_base.specs.Base.{BaseParts}
use Rattle.pg_base.specs.Catalog.{CatalogParts}
use Rattle.pg_base.specs.Lists.{Each, AreBelow}
use Rattle.pg_base.specs.declared.cell.Cell.{Cell}
use Rattle.pg_base.specs.declared.cell.Mark.{Mark}
use Rattle.pg_base.specs.declared.enum_def.EnumDef.{EnumDef}
use Rattle.pg_base.specs.declared.table_def.ColumnDef.{ColumnDef}
use Rattle.pg_base.specs.declared.table_def.TableDef.{TableDef}
use Rattle.pg_base.specs.declared.value.Value.{Value}
use Rattle.pg_base.specs.declared.vars.Vars.{Vars}
use Rattle.rel_model.specs.declared.window.By.{By}
use Rattle.rel_model.specs.declared.window.Equal.{Equal}
use Rattle.cursor_text.specs.declared.cursor.Cursor.{Cursor}
use Rattle.place_tree.specs.declared.place.Tree.{Tree}
use Rattle.place_tree.specs.Arguments.{mark_read, mark_in, mark_given, text_of}
use Rattle.place_tree.specs.Cursors.{column_cell, with_cell, cursor_cells, mark_with}
use Rattle.place_tree.specs.Fields.{columns_in, columns_of}
use Rattle.plan_steps.specs.declared.plan.FetchStep.{FetchStep, FetchStep-F, out-FetchStep, roll-FetchStep, out-roll-FetchStep, fold_out-FetchStep, ind-FetchStep}
use Rattle.plan_steps.specs.declared.plan.Plan.{Plan}
use Rattle.plan_steps.specs.declared.plan.SlotEqual.{SlotEqual}
use Rattle.plan_steps.specs.declared.plan.Step.{Step}
use Rattle.plan_steps.specs.declared.plan.Step.TheVariants as step
use Rattle.plan_steps.specs.Check.{are_below, width_of, conditions_fit, orders_fit, own_fits, key_below, child_fits, children_fit, has_key, fetch_fits, step_fits, name_fits, steps_fit, is_checked}
use Rattle.plan_steps.specs.Filled.{slot_value, filled_equal, child_from, child_of, stmt_of}
use Rattle.plan_steps.specs.Named.{named_by, fetch_in, is_fetch}
use Rattle.plan_steps.proofs.Listings.{stmt_is}
use Rattle.plan_steps.proofs.Tests.{child_is}
use Rattle.stmt_tree.specs.declared.stmt.Child.{Child}
use Rattle.stmt_tree.specs.declared.stmt.Child.TheViews.{out-Stmt, out-Child, out-roll-Child}
use Rattle.stmt_tree.specs.Form.{IsChildOf, IsLayerOf, IsStmtOf}
use Rattle.stmt_tree.proofs.Places.{stmt_made}

-- ---- each step fits

steps_told : (catalog : CatalogParts) (plan : Plan) (from : ℕ) (steps : List Step) → steps_fit catalog plan from steps ≡ true → (i : ℕ) (s : Step) → slice_get steps i ≡ Some s → step_fits catalog plan (from + i) s ≡ true
steps_told catalog plan from [] h i s at = cc
steps_told catalog plan from (t ∷ steps) h zero s at =
    let same : t ≡ s = cc in
    let e : from ≡ from + 0 = omega arith in
    let fits : step_fits catalog plan from t ≡ true = first_so _ _ (first_so _ _ h) in
    subst (λ n. step_fits catalog plan n s ≡ true) e (subst (λ x. step_fits catalog plan from x ≡ true) same fits)
steps_told catalog plan from (t ∷ steps) h (suc i) s at =
    let e : from + 1 + i ≡ from + suc i = omega arith in
    subst (λ n. step_fits catalog plan n s ≡ true) e (steps_told catalog plan (from + 1) steps (second_so (step_fits catalog plan from t && name_fits plan from (named_by t)) _ h) i s at)

pub step_told : (base : BaseParts) (tree : Tree) (plan : Plan) → IsTrue (is_checked base tree plan) → (k : ℕ) (s : Step) → slice_get plan.steps k ≡ Some s → step_fits base.catalog plan k s ≡ true
step_told base tree plan ok k s at =
    let e : 0 + k ≡ k = omega arith in
    subst (λ n. step_fits base.catalog plan n s ≡ true) e (steps_told base.catalog plan 0 plan.steps (first_so _ _ ok) k s at)

-- an Item is a row of a fetch
pub item_fetch : (base : BaseParts) (tree : Tree) (plan : Plan) → IsTrue (is_checked base tree plan) → (p g : ℕ) → slice_get plan.steps p ≡ Some (step.Item g) → (f : FetchStep) × (slice_get plan.steps g ≡ Some (step.Fetch f))
item_fetch base tree plan ok p g at = by (slice_get plan.steps g) refl (first_so _ _ (step_told base tree plan ok p (step.Item g) at)) where
  by : (o : Option Step) → slice_get plan.steps g ≡ o → is_fetch plan.steps g ≡ true → (f : FetchStep) × (slice_get plan.steps g ≡ Some (step.Fetch f))
  by (Some (step.Fetch f)) e h = (f, e)
  by _ e h = absurd (let z : false ≡ true = sym (ap (λ x. is_some (fetch_in x)) e) ∙ h in cc)

-- ---- marks

cells_long : (enums : List EnumDef) (columns : List ColumnDef) (order : List By) (values : List Value) (cells : List Cell) → cursor_cells enums columns order values ≡ Some cells → length cells ≡ length order
cells_long enums columns [] [] cells e = let same : [] ≡ cells = cc in ap length (sym same)
cells_long enums columns [] (v ∷ values) cells e = cc
cells_long enums columns (b ∷ order) [] cells e = cc
cells_long enums columns (b ∷ order) (v ∷ values) cells e = by (column_cell enums (slice_get columns b.column) v) (cursor_cells enums columns order values) (λ more h. cells_long enums columns order values more h) refl e where
  by : (o : Option Cell) (rest : Option (List Cell)) → ((more : List Cell) → cursor_cells enums columns order values ≡ Some more → length more ≡ length order) → cursor_cells enums columns order values ≡ rest → with_cell o rest ≡ Some cells → length cells ≡ suc (length order)
  by None rest long h e = cc
  by (Some c) None long h e = cc
  by (Some c) (Some more) long h e = let same : c ∷ more ≡ cells = cc in ap length (sym same) ∙ ap suc (long more h)

abbrev IsMarkOf : List By → Option Mark → Type 0
IsMarkOf order o = IfSome o (λ m. length m.values ≡ length order)

mark_long : (catalog : CatalogParts) (columns : List ColumnDef) (order : List By) (given : Option Value) → IsMarkOf order (mark_given catalog columns order given)
mark_long catalog columns order given = by_text (text_of given) where
  by_cells : (number : ℕ) (o : Option (List Cell)) → ((cells : List Cell) → o ≡ Some cells → length cells ≡ length order) → IsMarkOf order (mark_with number o)
  by_cells number None h = tt
  by_cells number (Some cells) h = h cells refl

  by_cursor : (o : Option Cursor) → IsMarkOf order (mark_read catalog columns order o)
  by_cursor None = tt
  by_cursor (Some c) = by_cells c.number (cursor_cells catalog.enums columns order c.values) (λ cells e. cells_long catalog.enums columns order c.values cells e)

  by_text : (o : Option (List ℕ)) → IsMarkOf order (mark_in catalog columns order o)
  by_text None = tt
  by_text (Some t) = by_cursor _

-- ---- tests of lists

below_told : (width : ℕ) (columns : List ℕ) → are_below width columns ≡ true → AreBelow width columns
below_told width [] h = tt
below_told width (c ∷ columns) h = let lt : nat_lt c width ≡ true = first_so _ _ h in (grind (arith, nat_tests, lt), below_told width columns (second_so (nat_lt c width) _ h))

orders_told : (width : ℕ) (order : List By) → orders_fit width order ≡ true → Each (λ b. b.column < width) order
orders_told width [] h = tt
orders_told width (b ∷ order) h = let lt : nat_lt b.column width ≡ true = first_so _ _ h in (grind (arith, nat_tests, lt), orders_told width order (second_so (nat_lt b.column width) _ h))

-- ---- statements

module _ (base : BaseParts) (vars : Vars) where
  conditions_told : (table width : ℕ) (condition : List SlotEqual) → conditions_fit width condition ≡ true → Each (λ (e : Equal). e.column < width) (map (filled_equal base vars table) condition)
  conditions_told table width [] h = tt
  conditions_told table width (e ∷ condition) h = let lt : nat_lt e.column width ≡ true = first_so _ _ h in (grind (arith, nat_tests, lt), conditions_told table width condition (second_so (nat_lt e.column width) _ h))

  abbrev catalog : CatalogParts
  catalog = base.catalog

  child_there : (width : ℕ) (f : FetchStep) → key_below width (out-FetchStep f) ≡ true → IsChildOf width (child_of base vars f)
  child_there width f h =
      let long : length (out-FetchStep f).parent_columns ≡ length (out-FetchStep f).by = eqb-true _ _ (first_so _ _ h) in
      let columns : (out-Child (child_of base vars f)).parent_columns ≡ (out-FetchStep f).parent_columns = child_columns f in
      let by : (out-Stmt (stmt_of base vars f)).by ≡ (out-FetchStep f).by = ap (λ s. s.by) (stmt_is base vars f) in
      (ap length columns ∙ long ∙ ap length (sym by), subst (AreBelow width) (sym columns) (below_told width (out-FetchStep f).parent_columns (second_so (length (out-FetchStep f).parent_columns == length (out-FetchStep f).by) _ h)))
    where
      child_columns : (f : FetchStep) → (out-Child (child_of base vars f)).parent_columns ≡ (out-FetchStep f).parent_columns
      child_columns f = ap (λ k. (out-Child k).parent_columns) (fold_out-FetchStep Child (child_from base vars) f) ∙ ap (λ o. o.parent_columns) (out-roll-Child _)

  children_there : (width : ℕ) (fs : List FetchStep) → children_fit catalog width fs ≡ true → Each (IsChildOf width) (map (child_of base vars) fs)
  children_there width [] h = tt
  children_there width (f ∷ fs) h =
      let fits : child_fits catalog f width ≡ true = first_so _ _ h in
      let layer = sym (child_is catalog f width) ∙ fits in
      (child_there width f (first_so _ _ layer), children_there width fs (second_so (child_fits catalog f width) _ h))

  layer_told : (f : FetchStep) → own_fits catalog (out-FetchStep f) ≡ true → children_fit catalog (width_of catalog (out-FetchStep f).table) (out-FetchStep f).children ≡ true → IsLayerOf catalog (out-Stmt (stmt_of base vars f))
  layer_told f own below = subst (IsLayerOf catalog) (sym (stmt_is base vars f)) (record {
    table = by_table (slice_get catalog.tables (out-FetchStep f).table) refl;
    after = mark_long catalog (columns_of catalog (out-FetchStep f).table) (out-FetchStep f).order (slot_value vars (out-FetchStep f).window.after);
    before = mark_long catalog (columns_of catalog (out-FetchStep f).table) (out-FetchStep f).order (slot_value vars (out-FetchStep f).window.before);
  })
    where
      rest : (are_below (width_of catalog (out-FetchStep f).table) (out-FetchStep f).by && (conditions_fit (width_of catalog (out-FetchStep f).table) (out-FetchStep f).condition && orders_fit (width_of catalog (out-FetchStep f).table) (out-FetchStep f).order)) ≡ true
      rest = second_so (nat_lt (out-FetchStep f).table (length catalog.tables)) _ own

      others : (conditions_fit (width_of catalog (out-FetchStep f).table) (out-FetchStep f).condition && orders_fit (width_of catalog (out-FetchStep f).table) (out-FetchStep f).order) ≡ true
      others = second_so (are_below (width_of catalog (out-FetchStep f).table) (out-FetchStep f).by) _ rest

      in_range : (out-FetchStep f).table < length catalog.tables
      in_range = let lt : nat_lt (out-FetchStep f).table (length catalog.tables) ≡ true = first_so _ _ own in grind (arith, nat_tests, lt)

      by_table : (x : Option TableDef) → slice_get catalog.tables (out-FetchStep f).table ≡ x → IsSomeAnd x (λ t.
          AreBelow (length t.columns) (out-FetchStep f).by
          × Each (λ (e : Equal). e.column < length t.columns) (map (filled_equal base vars (out-FetchStep f).table) (out-FetchStep f).condition)
          × Each (λ (b : By). b.column < length t.columns) (out-FetchStep f).order
          × Each (IsChildOf (length t.columns)) (map (child_of base vars) (out-FetchStep f).children))
      by_table None e = absurd (none_there catalog.tables (out-FetchStep f).table in_range e) where
        none_there : (ts : List TableDef) (k : ℕ) → k < length ts → slice_get ts k ≡ None → ⊥
        none_there [] k lt e = omega (arith, lt)
        none_there (t ∷ ts) zero lt e = cc
        none_there (t ∷ ts) (suc k) lt e = none_there ts k (omega (arith, lt)) e
      by_table (Some t) e =
          let width : width_of catalog (out-FetchStep f).table ≡ length t.columns = ap (λ x. length (columns_in x)) e in
          subst (λ w. AreBelow w (out-FetchStep f).by
          × Each (λ (e : Equal). e.column < w) (map (filled_equal base vars (out-FetchStep f).table) (out-FetchStep f).condition)
          × Each (λ (b : By). b.column < w) (out-FetchStep f).order
          × Each (IsChildOf w) (map (child_of base vars) (out-FetchStep f).children)) width (
            below_told _ _ (first_so _ _ rest),
            conditions_told (out-FetchStep f).table _ (out-FetchStep f).condition (first_so _ _ others),
            orders_told _ (out-FetchStep f).order (second_so (conditions_fit (width_of catalog (out-FetchStep f).table) (out-FetchStep f).condition) _ others),
            children_there _ (out-FetchStep f).children below,
          )

  abbrev Told : FetchStep → Type 0
  Told f = own_fits catalog (out-FetchStep f) ≡ true → children_fit catalog (width_of catalog (out-FetchStep f).table) (out-FetchStep f).children ≡ true → IsStmtOf catalog (stmt_of base vars f)

  abbrev Below : Child → Type 0
  Below k = IsStmtOf catalog (out-Child k).stmt

  kids_told : (width : ℕ) (es : List ((f : FetchStep) × Told f)) → children_fit catalog width (map (λ e. e.0) es) ≡ true → Each Below (map (child_of base vars) (map (λ e. e.0) es))
  kids_told width [] h = tt
  kids_told width (e ∷ es) h =
      let fits : child_fits catalog e.0 width ≡ true = first_so _ _ h in
      let layer = second_so (key_below width (out-FetchStep e.0)) _ (sym (child_is catalog e.0 width) ∙ fits) in
      (e.1 (first_so _ _ layer) (second_so (own_fits catalog (out-FetchStep e.0)) _ layer), kids_told width es (second_so (child_fits catalog e.0 width) _ h))

  one_told : (x : FetchStep-F FetchStep) (es : List ((f : FetchStep) × Told f)) → map (λ e. e.0) es ≡ x.children → Told (roll-FetchStep x)
  one_told x es is own below =
      let f = roll-FetchStep x in
      let kids : (out-FetchStep f).children ≡ map (λ e. e.0) es = ap (λ o. o.children) (out-roll-FetchStep x) ∙ sym is in
      let children : (out-Stmt (stmt_of base vars f)).children ≡ map (child_of base vars) (map (λ e. e.0) es) = ap (λ s. s.children) (stmt_is base vars f) ∙ ap (map (child_of base vars)) kids in
      let each = kids_told (width_of catalog (out-FetchStep f).table) es (subst (λ l. children_fit catalog (width_of catalog (out-FetchStep f).table) l ≡ true) kids below) in
      stmt_made catalog (stmt_of base vars f) (layer_told f own below) (subst (Each Below) (sym children) each)

  fetch_stmt : (f : FetchStep) → Told f
  fetch_stmt = ind-FetchStep Told (λ x y is. one_told x y.children (ap (λ z. z.children) is))

  pub stmt_told : (steps : List Step) (f : FetchStep) → fetch_fits base.catalog steps f ≡ true → IsStmtOf base.catalog (stmt_of base vars f)
  stmt_told steps f fits =
      let below = second_so (own_fits catalog (out-FetchStep f)) _ fits in
      fetch_stmt f (first_so _ _ fits) (first_so _ _ below)

-- ---- keys

pub key_told : (catalog : CatalogParts) (steps : List Step) (f : FetchStep) → fetch_fits catalog steps f ≡ true → has_key f (out-FetchStep f).parent ≡ true
key_told catalog steps f fits =
    first_so _ _ (second_so (children_fit catalog (width_of catalog (out-FetchStep f).table) (out-FetchStep f).children) _ (second_so (own_fits catalog (out-FetchStep f)) _ fits))
