-- An inlined plan finds no more rows.
use Rattle.std.proofs.Common.{◌≡◌, ◌≢◌, ℕ, zero, suc, ◌+◌, ◌≤◌, List, [], ◌∷◌, ◌++◌, map, sum, length, Option, Some, None, Bool, true, false, cond, refl, sym, ap, ◌∙◌, subst, arith, inl, inr, ◌⊎◌, eq-eqb, zero-add}
use Rattle.std.specs.Prelude.{slice_get, ◌&&◌, ◌||◌, not, is_some}
use Rattle.pg_base.specs.declared.cell.Cell.{Cell}
use Rattle.rel_model.specs.declared.tables.Row.{Row}
use Rattle.rel_model.specs.Tables.{cells_at}
use Rattle.place_tree.specs.Fold.{same_place}
use Rattle.place_tree.specs.declared.place.Tree.{Tree}
use Rattle.place_tree.proofs.Folds.{same_place_true}
use Rattle.stmt_tree.specs.declared.stmt.Child.{Child}
use Rattle.stmt_tree.specs.declared.stmt.Child.TheViews.{out-Child, out-roll-Child}
use Rattle.stmt_tree.specs.Meaning.{found_for, found_below, trees_in}
use Rattle.stmt_tree.proofs.Meaning.{below_is}
use Rattle.plan_constraints.specs.declared.constraint.Constraint.{Constraint}
use Rattle.plan_steps.specs.declared.plan.FetchStep.{FetchStep, out-FetchStep, fold_out-FetchStep}
use Rattle.plan_steps.specs.declared.plan.Plan.{Plan}
use Rattle.plan_steps.specs.declared.plan.Root.{Root}
use Rattle.plan_steps.specs.declared.plan.Step.{Step}
use Rattle.plan_steps.specs.declared.plan.Step.TheVariants as step
use Rattle.plan_steps.specs.Denoted.{onto}
use Rattle.plan_steps.specs.Fetches.{TellsWindows}
use Rattle.plan_steps.specs.Filled.{child_from, child_of, stmt_of}
use Rattle.plan_steps.specs.Named.{fetch_in, fetch_at}
use Rattle.plan_steps.specs.Sent.{extended, rows_at, stance_in, places_from, total, trees_for, trees_by, trees_at, trees_if, rows_by, rows_found}
use Rattle.plan_steps.specs.Values.{Moment, Path, key_from, key_at, listing_for, all_vals}
use Rattle.plan_steps.proofs.Asked.{asked_is}
use Rattle.plan_steps.proofs.Listings.{listing_by, top_of, listing_is}
use Rattle.plan_steps.proofs.Running.{Running, before}
use Rattle.plan_steps.proofs.Served.{step_listing}
use Rattle.plan_steps.proofs.Totals.{total_same, total_sum, total_zero, total_one}
use Rattle.plan_steps.proofs.Trees.{trees_below, trees_is, trees_flat}
use Rattle.plan_steps.proofs.Vals.{key_item, row_onto}
use Rattle.inline_select.specs.Inlined.{with_children, step_with, target, target_at, moves_to, moved_to, inlined}
use Rattle.inline_select.proofs.Bare.{out_with, key_with}
use Rattle.inline_select.proofs.Fixed.{made_at}
use Rattle.inline_select.proofs.Moved.{Moves, fetch_with, moves_with, target_with}
use Rattle.inline_select.proofs.Stances.{made, moves, S, S', paths, asked, vals_made, places_made, IsMoved, moved_at, moves_is, quiet, no_rows_at, paths_below, close}
use Rattle.inline_select.proofs.Sums.{total_le, total_swap, total_if, total_none, extended_total, moved_total}

one_more : {A : Type 0} (f : A → ℕ) (xs : List A) → total (λ x. f x + 1) xs ≡ length xs + total f xs
one_more f [] = refl
one_more f (x ∷ xs) = let z = one_more f xs in omega (arith, z)

module _ (m : Moment) where
  -- what a fetch finds below a row is what its statement finds for the row's cells
  below_row : (f : FetchStep) (cells : List Cell) → found_below m.tables (child_of m.base m.vars f) cells ≡ found_for m.tables (stmt_of m.base m.vars f) (cells_at (out-FetchStep f).parent_columns cells)
  below_row f cells =
      below_is m.tables (child_of m.base m.vars f) cells
      ∙ ap (λ columns. found_for m.tables (stmt_of m.base m.vars f) (cells_at columns cells))
      (ap (λ k. (out-Child k).parent_columns) (fold_out-FetchStep Child (child_from m.base m.vars) f) ∙ ap (λ o. o.parent_columns) (out-roll-Child _))

  -- the row trees that a child finds below a row
  abbrev trees_under : Row → FetchStep → ℕ
  trees_under row c = trees_in (found_below m.tables (child_of m.base m.vars c) row.cells)

  under_row : (kids : List FetchStep) (row : Row) → trees_below m.tables (map (child_of m.base m.vars) kids) row ≡ total (trees_under row) kids + 1
  under_row kids row = ap (λ n. n + 1) (sums kids) where
    sums : (kids : List FetchStep) → sum (map trees_in (map (λ k. found_below m.tables k row.cells) (map (child_of m.base m.vars) kids))) ≡ total (trees_under row) kids
    sums [] = refl
    sums (c ∷ kids) =
        Rattle.stmt_tree.proofs.Batched.sum_cons (trees_under row c) (map trees_in (map (λ k. found_below m.tables k row.cells) (map (child_of m.base m.vars) kids)))
        ∙ ap (λ n. trees_under row c + n) (sums kids)

  -- a fetch with children finds its rows, and what each child finds below each
  trees_with : (kids : List FetchStep) (f : FetchStep) (key : Option (List Cell)) →
      trees_for m (with_children kids f) key ≡ length (listing_for m f key).rows + total (λ row. total (trees_under row) kids) (listing_for m f key).rows
  trees_with kids f None = refl
  trees_with kids f (Some key) =
      trees_is m.tables m.base m.vars (with_children kids f) key
      ∙ ap (λ o. total (trees_below m.tables (map (child_of m.base m.vars) o.children)) (listing_by m.tables (top_of m.base m.vars o) key).rows) (out_with kids f)
      ∙ ap (λ l. total (trees_below m.tables (map (child_of m.base m.vars) kids)) l.rows) (sym (listing_is m.base m.tables m.vars f key))
      ∙ total_same _ _ (under_row kids) (listing_for m f (Some key)).rows
      ∙ one_more (λ row. total (trees_under row) kids) (listing_for m f (Some key)).rows

both_costs : (moves asked : Bool) (t : ℕ) → cond (moves || asked) t 0 ≡ cond (asked && not moves) t 0 + cond moves t 0
both_costs true true t = omega arith
both_costs true false t = omega arith
both_costs false true t = omega arith
both_costs false false t = omega arith

module _ (m : Moment) (plan : Plan) (tree : Tree) (r : Root) (constraints : List Constraint) (run : Running m plan tree r constraints) (tells : TellsWindows m.base tree constraints plan) where
  abbrev grown : List Step
  grown = made m plan tree r constraints run tells

  abbrev mv : ℕ → Bool
  mv k = moves m plan tree r constraints run tells k

  abbrev on : ℕ → Bool
  on k = asked m plan tree r constraints run tells k

  abbrev ps : ℕ → List Path
  ps k = paths m plan tree r constraints run tells k

  abbrev Mv : ℕ → Type 0
  Mv k = IsMoved m plan tree r constraints run tells k

  abbrev kids : ℕ → List FetchStep
  kids g = moved_to plan.steps g grown

  abbrev T : ℕ → ℕ
  T k = total (trees_at m grown k) (ps k)

  abbrev R : ℕ → ℕ
  R k = total (trees_at m plan.steps k) (ps k)

  -- whether the step at j moves to the one at g
  abbrev to_ : ℕ → ℕ → Bool
  to_ g j = moves_to plan.steps g (fetch_at plan.steps j)

  place_refl : (n : ℕ) → same_place (Some n) (Some n) ≡ true
  place_refl n = eq-eqb n n refl

  -- ---- one fetch

  rows_are : (g : ℕ) (f : FetchStep) → slice_get plan.steps g ≡ Some (step.Fetch f) → (path : Path) → rows_at m plan.steps g path ≡ (listing_for m f (key_at m f (all_vals m plan.steps path))).rows
  rows_are g f at path = ap (λ l. l.rows) (step_listing m plan tree (before m plan tree r constraints run) path g f at)

  flat_trees : (g : ℕ) (f : FetchStep) → slice_get plan.steps g ≡ Some (step.Fetch f) → (path : Path) → trees_at m plan.steps g path ≡ length (rows_at m plan.steps g path)
  flat_trees g f at path =
      ap (λ o. trees_by m plan.steps path (fetch_in o)) at
      ∙ trees_flat m f (run.are.flat g f at) (key_at m f (all_vals m plan.steps path))
      ∙ ap length (sym (rows_are g f at path))

  -- the fetches that move to one find below its rows what they find at the paths one step further
  child_at : (g : ℕ) (path : Path) (row : Row) (j : ℕ) (c : FetchStep) → slice_get grown j ≡ Some (step.Fetch c) → target plan.steps c ≡ Some g → trees_under m row c ≡ trees_at m grown j (onto g path row)
  child_at g path row j c at to =
      let move = Rattle.inline_select.proofs.Moved.target_tells plan.steps c g to in
      let item = made_at m.base plan tree run.checked move.item (step.Item g) move.is_item in
      ap trees_in (below_row m c row.cells)
      ∙ ap (trees_for m c) (sym (key_item m (onto g path row) grown move.item g c move.parent item ∙ ap (key_from (out-FetchStep c).parent_columns) (row_onto path g row)))
      ∙ sym (ap (λ o. trees_by m grown (onto g path row) (fetch_in o)) at)

  made_fetch : (j : ℕ) (s : Step) → slice_get grown j ≡ Some s → (t : Step) × (slice_get plan.steps j ≡ Some t) × (s ≡ step_with (kids j) t)
  made_fetch j s at =
      let lt = Rattle.std.proofs.lemmas.Option.slice_get_within grown j s at in
      let len = Rattle.inline_select.proofs.Fixed.length_inlined plan.steps 0 plan.steps in
      let t = Rattle.plan_steps.proofs.Checked.at_some plan.steps j (omega (arith, lt, len)) in
      (t.0, t.1, (let z = sym at ∙ made_at m.base plan tree run.checked j t.0 t.1 in cc))

  tested : (g j : ℕ) (s : Step) → slice_get grown j ≡ Some s → moves_to plan.steps g (fetch_in (Some s)) ≡ to_ g j
  tested g j s at =
      let t = made_fetch j s at in
      ap (λ x. moves_to plan.steps g (fetch_in (Some x))) t.2
      ∙ ap (λ o. same_place o (Some g)) (moves_with plan.steps g (kids j) t.0)
      ∙ ap (λ o. moves_to plan.steps g (fetch_in o)) (sym t.1)

  kids_total : (g : ℕ) (path : Path) (row : Row) → total (trees_under m row) (kids g) ≡ total (λ j. cond (to_ g j) (trees_at m grown j (onto g path row)) 0) (places_from 0 grown)
  kids_total g path row = moved_total plan.steps g (trees_under m row) (to_ g) (λ j. trees_at m grown j (onto g path row)) 0 grown
      (λ j s at. tested g j s at ∙ ap (to_ g) (sym (zero-add j)))
      (λ j c at h. child_at g path row j c at (same_place_true (target plan.steps c) (Some g) (tested g j (step.Fetch c) at ∙ ap (to_ g) (sym (zero-add j)) ∙ h)) ∙ ap (λ n. trees_at m grown n (onto g path row)) (sym (zero-add j)))
      (λ j s at none. ap (to_ g) (zero-add j) ∙ sym (tested g j s at) ∙ ap (moves_to plan.steps g) none)

  trees_made : (g : ℕ) (f : FetchStep) → slice_get plan.steps g ≡ Some (step.Fetch f) → (path : Path) →
      trees_at m grown g path ≡ trees_at m plan.steps g path + total (λ j. cond (to_ g j) (total (λ row. trees_at m grown j (onto g path row)) (rows_at m plan.steps g path)) 0) (places_from 0 grown)
  trees_made g f at path =
      let flat = run.are.flat g f at in
      let all = (out-FetchStep f).children ++ kids g in
      let key = key_at m f (all_vals m plan.steps path) in
      let rows = rows_at m plan.steps g path in
      ap (λ o. trees_by m grown path (fetch_in o)) (made_at m.base plan tree run.checked g (step.Fetch f) at)
      ∙ ap (trees_for m (with_children all f)) (key_with all f m (all_vals m grown path) ∙ ap (λ vals. key_at m f (vals path)) (vals_made m plan tree r constraints run tells))
      ∙ trees_with m all f key
      ∙ ap (λ l. length l + total (λ row. total (trees_under m row) all) l) (sym (rows_are g f at path))
      ∙ ap (λ l. length rows + total (λ row. total (trees_under m row) l) rows) (ap (λ l. l ++ kids g) flat)
      ∙ ap (λ n. n + total (λ row. total (trees_under m row) (kids g)) rows) (sym (flat_trees g f at path))
      ∙ ap (λ n. trees_at m plan.steps g path + n)
      (total_same _ _ (kids_total g path) rows
      ∙ total_swap (λ row j. cond (to_ g j) (trees_at m grown j (onto g path row)) 0) rows (places_from 0 grown)
      ∙ total_same _ _ (λ j. total_if (to_ g j) (λ row. trees_at m grown j (onto g path row)) rows) (places_from 0 grown))

  -- over all its paths
  below_at : (g j : ℕ) → (on g ≡ true) ⊎ (mv g ≡ true) → (is : Mv j) → is.to ≡ g → total (λ path. total (λ row. trees_at m grown j (onto g path row)) (rows_at m plan.steps g path)) (ps g) ≡ T j
  below_at g j live is same =
      let here : (on is.to ≡ true) ⊎ (mv is.to ≡ true) = subst (λ n. (on n ≡ true) ⊎ (mv n ≡ true)) (sym same) live in
      let stands : ps j ≡ extended (rows_at m plan.steps is.to) is.to (ps is.to) = paths_below m plan tree r constraints run tells j is here in
      let all : ps j ≡ extended (rows_at m plan.steps g) g (ps g) = stands ∙ ap (λ n. extended (rows_at m plan.steps n) n (ps n)) same in
      sym (extended_total (trees_at m grown j) (rows_at m plan.steps g) g (ps g)) ∙ ap (total (trees_at m grown j)) (sym all)

  below_paths : (g j : ℕ) → (on g ≡ true) ⊎ (mv g ≡ true) → (b : Bool) → to_ g j ≡ b → cond b (total (λ path. total (λ row. trees_at m grown j (onto g path row)) (rows_at m plan.steps g path)) (ps g)) 0 ≡ cond b (T j) 0
  below_paths g j live false e = refl
  below_paths g j live true e = let is = moved_to_is in below_at g j live is.0 is.1 where
    moved_to_is : (is : Mv j) × (is.to ≡ g)
    moved_to_is = by_step (slice_get plan.steps j) refl (same_place_true (target_at plan.steps (fetch_at plan.steps j)) (Some g) e) where
      by_step : (o : Option Step) → slice_get plan.steps j ≡ o → target_at plan.steps (fetch_in o) ≡ Some g → (is : Mv j) × (is.to ≡ g)
      by_step (Some (step.Fetch f)) at h = moved_at m plan tree r constraints run tells j f at g h
      by_step None at h = cc
      by_step (Some (step.Const v)) at h = cc
      by_step (Some (step.Var path)) at h = cc
      by_step (Some step.Given) at h = cc
      by_step (Some (step.Item i)) at h = cc
      by_step (Some (step.Column i c)) at h = cc
      by_step (Some (step.Count i)) at h = cc
      by_step (Some (step.Page i part)) at h = cc
      by_step (Some (step.CursorOf i)) at h = cc

  all_trees : (g : ℕ) (f : FetchStep) → slice_get plan.steps g ≡ Some (step.Fetch f) → (on g ≡ true) ⊎ (mv g ≡ true) → T g ≡ R g + total (λ j. cond (to_ g j) (T j) 0) (places_from 0 grown)
  all_trees g f at live =
      let inner = λ (path : Path) (j : ℕ). total (λ row. trees_at m grown j (onto g path row)) (rows_at m plan.steps g path) in
      total_same _ _ (trees_made g f at) (ps g)
      ∙ total_sum (trees_at m plan.steps g) (λ path. total (λ j. cond (to_ g j) (inner path j) 0) (places_from 0 grown)) (ps g)
      ∙ ap (λ n. R g + n)
      (total_swap (λ path j. cond (to_ g j) (inner path j) 0) (ps g) (places_from 0 grown)
      ∙ total_same _ _ (λ j. total_if (to_ g j) (λ path. inner path j) (ps g) ∙ below_paths g j live (to_ g j) refl) (places_from 0 grown))

  -- ---- all fetches

  abbrev live : ℕ → Bool
  live k = mv k || on k

  abbrev kept : ℕ → ℕ
  kept k = cond (on k && not (mv k)) (T k) 0

  abbrev gone : ℕ → ℕ
  gone k = cond (mv k) (T k) 0

  abbrev was : ℕ → ℕ
  was k = cond (on k) (R k) 0

  abbrev below : ℕ → ℕ
  below k = total (λ j. cond (to_ k j) (T j) 0) (places_from 0 grown)

  quiet_rows : (g : ℕ) (is : Mv g) → on g ≡ false → R g ≡ 0
  quiet_rows g is off = elim (quiet m plan tree r constraints run tells g is off) [
    | inl none ↦ ap (total (trees_at m plan.steps g)) none
    | inr rows ↦ total_same _ (λ path. 0) (λ path. flat_trees g is.fetch is.is_fetch path ∙ ap length (no_rows_at m plan tree r constraints run tells g is.fetch is.is_fetch rows path)) (ps g) ∙ total_none (ps g)
  ]

  live_cost : (k : ℕ) → cond (live k) (T k) 0 ≤ was k + below k
  live_cost k = by_moves (mv k) refl (on k) refl where
    by_moves : (a : Bool) → mv k ≡ a → (b : Bool) → on k ≡ b → cond (a || b) (T k) 0 ≤ cond b (R k) 0 + below k
    by_moves true e true h =
        let is = moves_is m plan tree r constraints run tells k e in
        let z = all_trees k is.fetch is.is_fetch (inr e) in omega (arith, z)
    by_moves true e false h =
        let is = moves_is m plan tree r constraints run tells k e in
        let z = all_trees k is.fetch is.is_fetch (inr e) in
        let q = quiet_rows k is h in omega (arith, z, q)
    by_moves false e true h =
        let is = asked_is m plan tree r constraints run k h in
        let z = all_trees k is.fetch is.is_step (inl h) in omega (arith, z)
    by_moves false e false h = omega arith

  -- each fetch that moves stands below one other
  once : (j : ℕ) → total (λ k. cond (to_ k j) (T j) 0) (places_from 0 grown) ≤ gone j
  once j = by_target (target_at plan.steps (fetch_at plan.steps j)) refl where
    by_target : (o : Option ℕ) → target_at plan.steps (fetch_at plan.steps j) ≡ o → total (λ k. cond (to_ k j) (T j) 0) (places_from 0 grown) ≤ gone j
    by_target None e =
        let none = total_zero (λ k. cond (to_ k j) (T j) 0) 0 grown (λ k le. ap (λ o. cond (same_place o (Some k)) (T j) 0) e) in
        omega (arith, none)
    by_target (Some g) e =
        let moved : gone j ≡ T j = ap (λ o. cond (is_some o) (T j) 0) e in
        let few = total_one (λ k. cond (to_ k j) (T j) 0) g (T j) 0 grown
        (λ k n. ap (λ o. cond (same_place o (Some k)) (T j) 0) e ∙ ap (λ b. cond b (T j) 0) (Rattle.std.proofs.Common.ne_eqb g k (λ q. n (sym q))))
        (all_of (to_ g j) (T j)) in
        omega (arith, moved, few)
      where
        all_of : (b : Bool) (t : ℕ) → cond b t 0 ≤ t
        all_of true t = omega arith
        all_of false t = omega arith

  all_once : total below (places_from 0 grown) ≤ total gone (places_from 0 grown)
  all_once =
      let e = total_swap (λ k j. cond (to_ k j) (T j) 0) (places_from 0 grown) (places_from 0 grown) in
      let le = total_le (λ j. total (λ k. cond (to_ k j) (T j) 0) (places_from 0 grown)) gone once (places_from 0 grown) in
      omega (arith, e, le)

  kept_few : total kept (places_from 0 grown) ≤ total was (places_from 0 grown)
  kept_few =
      let all = total_le (λ k. cond (live k) (T k) 0) (λ k. was k + below k) live_cost (places_from 0 grown) in
      let split = total_same _ _ (λ k. both_costs (mv k) (on k) (T k)) (places_from 0 grown) ∙ total_sum kept gone (places_from 0 grown) in
      let parts = total_sum was below (places_from 0 grown) in
      let le = all_once in
      omega (arith, all, split, parts, le)

  found_made : (k : ℕ) → rows_by m grown (S' m plan tree r constraints run tells) k ≡ kept k
  found_made k =
      let c = close m plan tree r constraints run tells k in
      ap (λ l. trees_if (stance_in (S' m plan tree r constraints run tells) k).asked (trees_at m grown k) l) c.0
      ∙ ap (λ b. trees_if b (trees_at m grown k) (ps k)) c.1
      ∙ by_asked (on k && not (mv k))
    where
      by_asked : (b : Bool) → trees_if b (trees_at m grown k) (ps k) ≡ cond b (T k) 0
      by_asked true = refl
      by_asked false = refl

  found_was : (k : ℕ) → rows_by m plan.steps (S m plan tree r constraints run tells) k ≡ was k
  found_was k = by_asked (on k) where
    by_asked : (b : Bool) → trees_if b (trees_at m plan.steps k) (ps k) ≡ cond b (R k) 0
    by_asked true = refl
    by_asked false = refl

  -- the law: the asked steps of the inlined plan find no more rows
  pub finds_no_more : rows_found m tree (inlined plan) r ≤ rows_found m tree plan r
  finds_no_more =
      let a = total_same _ _ found_made (places_from 0 grown) in
      let b = total_same _ _ found_was (places_from 0 plan.steps) in
      let c = ap (total was) (places_made m plan tree r constraints run tells) in
      let le = kept_few in
      omega (arith, a, b, c, le)
