-- Leaves and places show what is read from what the statements found.
use Rattle.std.proofs.Common.{◌≡◌, ℕ, suc, ◌-◌, ◌==◌, List, [], ◌∷◌, map, length, Option, Some, None, Bool, true, false, cond, refl, sym, ap, ◌∙◌, arith}
use Rattle.std.specs.Prelude.{slice_get, option_map}
use Rattle.pg_base.specs.Base.{BaseParts}
use Rattle.pg_base.specs.declared.schema.TypeRef.{TypeRef}
use Rattle.rel_model.specs.declared.tables.Row.{Row}
use Rattle.place_tree.specs.declared.answer.Leaf.TheVariants.{Null as null}
use Rattle.place_tree.specs.declared.place.Place.{Place}
use Rattle.place_tree.specs.Exec.{first_row, last_row, leaf_of, number_leaf}
use Rattle.plan_steps.specs.declared.plan.Step.{Step}
use Rattle.plan_steps.specs.declared.plan.Step.TheVariants as step
use Rattle.plan_steps.specs.Denoted.{leaf_in}
use Rattle.plan_steps.specs.Named.{fetch_at, fetch_in, item_in}
use Rattle.plan_steps.specs.Values.{row_of, plain, val_of_row, cell_in, fetch_cursor, page}
use Rattle.plan_steps.specs.Values as values
use Rattle.stmt_tree.specs.declared.found.Found.{Found}
use Rattle.stmt_tree.specs.declared.found.Found.TheViews.{out-Found}
use Rattle.stmt_tree.specs.declared.found.RowTree.{RowTree}
use Rattle.batch_execute.specs.declared.role.Role.{Role}
use Rattle.batch_execute.specs.Reading.{Setting, Trail, first_tree, found_at, found_by, found_or, row_by, shown_by, shown_in, tree_on, type_of, value_by}
use Rattle.batch_execute.specs.Ways.{ways_of}
use Rattle.output_plan.specs.Laid.{Laid, way_or, names_or, found_there, tree_in, cursor_by, cursor_at, item_cursor, has_next, has_previous, last_tree, page_of, leaf_by, shown_of}
use Rattle.output_plan.specs.Layout.{names_of}
use Rattle.output_plan.proofs.Tables.{get_map, way_at}

first_of : (trees : List RowTree) → option_map row_of (first_tree trees) ≡ first_row (map row_of trees)
first_of [] = refl
first_of (t ∷ trees) = refl

last_of : (trees : List RowTree) → option_map row_of (last_tree trees) ≡ last_row (map row_of trees)
last_of [] = refl
last_of (t ∷ []) = refl
last_of (t ∷ u ∷ trees) = last_of (u ∷ trees)

pub last_at : (trees : List RowTree) → slice_get trees (length trees - 1) ≡ last_tree trees
last_at [] = refl
last_at (t ∷ []) = refl
last_at (t ∷ u ∷ trees) =
    let here : length (t ∷ u ∷ trees) - 1 ≡ suc (length trees) = omega arith in
    let next : length (u ∷ trees) - 1 ≡ length trees = omega arith in
    ap (slice_get (t ∷ u ∷ trees)) here ∙ sym (ap (slice_get (u ∷ trees)) next) ∙ last_at (u ∷ trees)

-- the row that a step is
row_same : (trail : Trail) (o : Option Step) → option_map row_of (tree_in trail (item_in o)) ≡ row_by None trail o
row_same trail None = refl
row_same trail (Some (step.Const v)) = refl
row_same trail (Some (step.Var path)) = refl
row_same trail (Some step.Given) = refl
row_same trail (Some (step.Fetch f)) = refl
row_same trail (Some (step.Item s)) = refl
row_same trail (Some (step.Column i c)) = refl
row_same trail (Some (step.Count s)) = refl
row_same trail (Some (step.Page s part)) = refl
row_same trail (Some (step.CursorOf i)) = refl

-- a cursor, by what is laid out of its order
cursor_same : (base : BaseParts) (o : Option Step) (row : Option Row) → cursor_by base.catalog (names_or (option_map (names_of base) o)) (fetch_in o) row ≡ fetch_cursor base (fetch_in o) row
cursor_same base None row = refl
cursor_same base (Some (step.Const v)) row = refl
cursor_same base (Some (step.Var path)) row = refl
cursor_same base (Some step.Given) row = refl
cursor_same base (Some (step.Fetch f)) None = refl
cursor_same base (Some (step.Fetch f)) (Some row) = refl
cursor_same base (Some (step.Item s)) row = refl
cursor_same base (Some (step.Column i c)) row = refl
cursor_same base (Some (step.Count s)) row = refl
cursor_same base (Some (step.Page s part)) row = refl
cursor_same base (Some (step.CursorOf i)) row = refl

module _ (x : Laid) (ways : x.ways ≡ ways_of x.steps) (names : x.names ≡ map (names_of x.base) x.steps) where
  abbrev z : Setting
  z = record { base = x.base; vars = x.vars; given = None }

  found_same : (trail : Trail) (k : ℕ) → found_there x trail k ≡ found_at x.steps x.fetched trail k
  found_same trail k = ap (λ way. found_or (found_by x.fetched trail k way)) (ap (λ l. way_or (slice_get l k)) ways ∙ way_at x.steps k)

  cursor_is : (s : ℕ) (row : Option Row) → cursor_at x s row ≡ fetch_cursor x.base (fetch_at x.steps s) row
  cursor_is s row =
      ap (λ l. cursor_by x.base.catalog (names_or (slice_get l s)) (fetch_at x.steps s) row) names
      ∙ ap (λ o. cursor_by x.base.catalog (names_or o) (fetch_at x.steps s) row) (get_map (names_of x.base) x.steps s)
      ∙ cursor_same x.base (slice_get x.steps s) row

  page_same : (s part : ℕ) (found : Found) → page_of x s found part ≡ page x.base (fetch_at x.steps s) (plain found) part
  page_same s part found = by (part == 0) (part == 1) (part == 2) where
    first : cursor_at x s (option_map row_of (first_tree (out-Found found).rows)) ≡ fetch_cursor x.base (fetch_at x.steps s) (first_row (map row_of (out-Found found).rows))
    first = cursor_is s (option_map row_of (first_tree (out-Found found).rows)) ∙ ap (fetch_cursor x.base (fetch_at x.steps s)) (first_of (out-Found found).rows)

    last : cursor_at x s (option_map row_of (last_tree (out-Found found).rows)) ≡ fetch_cursor x.base (fetch_at x.steps s) (last_row (map row_of (out-Found found).rows))
    last = cursor_is s (option_map row_of (last_tree (out-Found found).rows)) ∙ ap (fetch_cursor x.base (fetch_at x.steps s)) (last_of (out-Found found).rows)

    by : (a b c : Bool) → cond a (has_next found) (cond b (has_previous found) (cond c (cursor_at x s (option_map row_of (first_tree (out-Found found).rows))) (cursor_at x s (option_map row_of (last_tree (out-Found found).rows)))))
        ≡ cond a (has_next found) (cond b (has_previous found) (cond c (fetch_cursor x.base (fetch_at x.steps s) (first_row (map row_of (out-Found found).rows))) (fetch_cursor x.base (fetch_at x.steps s) (last_row (map row_of (out-Found found).rows)))))
    by true b c = refl
    by false true c = refl
    by false false true = first
    by false false false = last

  item_same : (trail : Trail) (o : Option Step) → item_cursor x trail (item_in o) ≡ values.item_cursor x.base x.steps (item_in o) (row_by None trail o)
  item_same trail None = refl
  item_same trail (Some (step.Const v)) = refl
  item_same trail (Some (step.Var path)) = refl
  item_same trail (Some step.Given) = refl
  item_same trail (Some (step.Fetch f)) = refl
  item_same trail (Some (step.Item s)) = cursor_is s (option_map row_of (tree_on trail s))
  item_same trail (Some (step.Column i c)) = refl
  item_same trail (Some (step.Count s)) = refl
  item_same trail (Some (step.Page s part)) = refl
  item_same trail (Some (step.CursorOf i)) = refl

  no_leaf : (ty : TypeRef) (row : Option Row) → null ≡ leaf_in x.base.schema ty (val_of_row row)
  no_leaf ty None = refl
  no_leaf ty (Some row) = refl

  leaf_same : (trail : Trail) (k : ℕ) (ty : TypeRef) (o : Option Step) → leaf_by x trail ty o ≡ leaf_in x.base.schema ty (value_by z x.steps x.fetched trail k o)
  leaf_same trail k ty None = refl
  leaf_same trail k ty (Some (step.Const v)) = refl
  leaf_same trail k ty (Some (step.Var path)) = refl
  leaf_same trail k ty (Some step.Given) = refl
  leaf_same trail k ty (Some (step.Fetch f)) = refl
  leaf_same trail k ty (Some (step.Item s)) = no_leaf ty (option_map row_of (tree_on trail s))
  leaf_same trail k ty (Some (step.Column i c)) = ap (λ row. leaf_of x.base.schema ty (cell_in row c)) (row_same trail (slice_get x.steps i))
  leaf_same trail k ty (Some (step.Count s)) = ap (λ f. number_leaf (out-Found f).total) (found_same trail s)
  leaf_same trail k ty (Some (step.Page s part)) =
      page_same s part (found_there x trail s) ∙ ap (λ f. page x.base (fetch_at x.steps s) (plain f) part) (found_same trail s)
  leaf_same trail k ty (Some (step.CursorOf i)) = item_same trail (slice_get x.steps i)

  pub shown_same : (p : Place) (role : Role) (trail : Trail) (o : Option ℕ) → shown_of x role trail (type_of x.base.schema p) o ≡ shown_in z x.steps x.fetched p role trail o
  shown_same p role trail None = refl
  shown_same p role trail (Some k) =
      ap (λ f. shown_by role k trail f (leaf_by x trail (type_of x.base.schema p) (slice_get x.steps k))) (found_same trail k)
      ∙ ap (shown_by role k trail (found_at x.steps x.fetched trail k)) (leaf_same trail k (type_of x.base.schema p) (slice_get x.steps k))
