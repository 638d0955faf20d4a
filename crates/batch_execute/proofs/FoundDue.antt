-- What was found for a step at a trail is what its fetch finds for the key there.
use Rattle.std.proofs.Common.{◌≡◌, ℕ, ◌<◌, List, [], ◌∷◌, map, take, length, Option, Some, None, true, false, inl, refl, sym, ap, ◌∙◌, subst, arith}
use Rattle.std.specs.Prelude.{slice_get, option_map, ◌&&◌, not, IfSome}
use Rattle.pg_base.specs.declared.cell.Cell.{Cell}
use Rattle.rel_model.specs.declared.tables.Row.{Row}
use Rattle.rel_model.specs.Ordered.{ascending, cells_by}
use Rattle.place_tree.specs.declared.place.Tree.{Tree}
use Rattle.place_tree.specs.Exec.{number_leaf}
use Rattle.plan_steps.specs.declared.plan.FetchStep.{FetchStep, out-FetchStep}
use Rattle.plan_steps.specs.declared.plan.Plan.{Plan}
use Rattle.plan_steps.specs.declared.plan.Root.{Root}
use Rattle.plan_steps.specs.declared.plan.Step.{Step}
use Rattle.plan_steps.specs.declared.plan.Step.TheVariants as step
use Rattle.plan_steps.specs.Filled.{stmt_of}
use Rattle.plan_steps.specs.Named.{named_by, fetch_at, fetch_in, item_at, over}
use Rattle.plan_steps.specs.Sent.{is_none}
use Rattle.plan_steps.specs.Values.{Moment, Path, Listing, Val, row_of, plain, row_on, row_in, key_from, key_at, listing_in, listing_for, val_at, val_or_none, step_val, all_vals, val_of_row}
use Rattle.plan_steps.specs.Values as values
use Rattle.plan_steps.proofs.Vals.{built_past, val_of, val_before, key_item, key_taken}
use Rattle.stmt_tree.specs.declared.found.Found.{Found}
use Rattle.stmt_tree.specs.declared.found.Found.TheViews.{out-Found, out-roll-Found}
use Rattle.stmt_tree.specs.declared.found.Key.{Key}
use Rattle.stmt_tree.specs.declared.found.RowTree.{RowTree}
use Rattle.stmt_tree.specs.Meaning.{found_for}
use Rattle.batch_execute.specs.declared.way.Way.{Way}
use Rattle.batch_execute.specs.declared.way.Way.TheVariants.{Other, Once, Sent, Read}
use Rattle.batch_execute.specs.Entries.{setting_of, keys_by, order_by, is_due, may_send, is_sent_now, answered, fetched_all}
use Rattle.batch_execute.specs.Fetched.{FetchedParts, AreAscending}
use Rattle.batch_execute.specs.Held.{all_rows, rows_of, rows_below, held_by, held}
use Rattle.batch_execute.specs.Keys.{key_of, keys_for}
use Rattle.batch_execute.specs.Reading.{Trail, no_rows, found_or, first_found, looked_up, found_for_row, found_below, found_by, found_at, fetched_at, tree_on, row_by, value_by, read_value}
use Rattle.batch_execute.specs.Ready.{fetch_shown}
use Rattle.batch_execute.specs.Ways.{fetch_above, way_in, way_of}
use Rattle.batch_execute.proofs.GrownRows.{due, read_is, due_plain, no_plain}
use Rattle.batch_execute.proofs.HeldRows.{all_in, below_in, held_is}
use Rattle.batch_execute.proofs.Items.{IsIn}
use Rattle.batch_execute.proofs.KeysTold.{keys_ascend, key_there}
use Rattle.batch_execute.proofs.Reached.{by_columns, option_keys, reads_earlier, sent_is, fetched_there, once_keys_are, own_keys_are, IsReached, reached, child_of_fetch}
use Rattle.batch_execute.proofs.Trails.{path_of, AreHeld, tree_row, held_on, looked_found, looked_in}
use Rattle.batch_execute.proofs.WaysTold.{HangsOn, WayOf, is_once, is_own_of, is_read_of, way_is, parent_earlier}

-- a test of a list that has an item
some_there : {A : Type 0} (x : A) (xs : List A) → IsIn x xs → is_none xs ≡ false
some_there x [] h = absurd h
some_there x (y ∷ xs) h = refl

pub no_row : (t : RowTree) → IsIn t (out-Found no_rows).rows → ⊥
no_row t h = let z : IsIn t [] = subst (λ o. IsIn t o.rows) (out-roll-Found _) h in z

module _ (m : Moment) (tree : Tree) (plan : Plan) (r : Root)
    (earlier : (k : ℕ) (s : Step) → slice_get plan.steps k ≡ Some s → IfSome (named_by s) (λ j. j < k))
    (stands : (k : ℕ) (f : FetchStep) → slice_get plan.steps k ≡ Some (step.Fetch f) → over plan.layers k ≡ fetch_above plan.steps (out-FetchStep f).parent)
    (items : (p g : ℕ) → slice_get plan.steps p ≡ Some (step.Item g) → (f : FetchStep) × (slice_get plan.steps g ≡ Some (step.Fetch f))) where
  abbrev all : List FetchedParts
  all = fetched_all m tree plan r

  module _ (trail : Trail) (here : AreHeld plan.steps (fetched_all m tree plan r) trail) where
    abbrev key_on : FetchStep → Option (List Cell)
    key_on f = key_at m f (all_vals m plan.steps (path_of trail))

    module _ (k : ℕ) (f : FetchStep) (at : slice_get plan.steps k ≡ Some (step.Fetch f)) where
      abbrev keys : List Key
      keys = keys_by (setting_of m) plan.steps all f (way_of plan.steps k)

      abbrev one : Key → Found
      one key = found_for m.tables (stmt_of m.base m.vars f) key.cells

      -- it was sent for these keys
      sent_found : may_send m tree plan r k ≡ true → (way : Way) → way_of plan.steps k ≡ way → is_due way keys ≡ true → fetched_at all k ≡ answered m f (order_by f way) keys
      sent_found may way w due_ =
          let now : is_sent_now m tree plan r all k ≡ true =
          sent_is m tree plan r earlier stands k f at ∙ ap (λ b. b && is_due (way_of plan.steps k) keys) may ∙ ap (λ v. is_due v keys) w ∙ due_ in
          fetched_there m tree plan r earlier stands k f at true now ∙ ap (λ v. answered m f (order_by f v) keys) w

      due_once : may_send m tree plan r k ≡ true → (way : Way) → way_of plan.steps k ≡ way → way ≡ Once → fetch_above plan.steps (out-FetchStep f).parent ≡ None → found_or (found_by all trail k way) ≡ due m f (key_on f)
      due_once may Once w e none =
          ap (λ (x : FetchedParts). found_or (first_found x.found)) (sent_found may Once w refl)
          ∙ ap (λ ks. found_or (first_found (map one ks))) (once_keys_are m tree plan r earlier stands k f at none w (path_of trail))
          ∙ by (key_on f)
        where
          by : (o : Option (List Cell)) → found_or (first_found (map one (option_keys o))) ≡ due m f o
          by None = refl
          by (Some cells) = refl
      due_once may Other w e none = cc
      due_once may (Sent g) w e none = cc
      due_once may (Read g c) w e none = cc

      module _ (g : ℕ) (hangs : HangsOn plan.steps f g) where
        abbrev columns : List ℕ
        columns = (out-FetchStep f).parent_columns

        key_above : key_on f ≡ key_from columns (option_map row_of (tree_on trail g))
        key_above = key_item m (path_of trail) plan.steps hangs.parent g f hangs.is_parent hangs.is_item ∙ ap (key_from columns) (tree_row trail g)

        key_for : (o : Option RowTree) → tree_on trail g ≡ o → key_on f ≡ key_from columns (option_map row_of o)
        key_for o e = key_above ∙ ap (λ x. key_from columns (option_map row_of x)) e

        due_sent : may_send m tree plan r k ≡ true → way_of plan.steps k ≡ Sent g → keys ≡ keys_for columns (held plan.steps all g) → (o : Option RowTree) → tree_on trail g ≡ o → found_or (found_for_row (fetched_at all k) o) ≡ due m f (key_on f)
        due_sent may w are None e = ap (due m f) (sym (key_for None e))
        due_sent may w are (Some t) e =
            let there = key_there (ascending columns) t (held plan.steps all g) (held_on plan.steps all trail here g t e) in
            let among : IsIn (key_of (cells_by (ascending columns) (row_of t).cells)) keys = subst (IsIn (key_of (cells_by (ascending columns) (row_of t).cells))) (sym are) there in
            let up : AreAscending (ascending columns) keys = subst (AreAscending (ascending columns)) (sym are) (keys_ascend (ascending columns) (held plan.steps all g)) in
            let found : fetched_at all k ≡ answered m f (ascending columns) keys = sent_found may (Sent g) w (ap not (some_there (key_of (cells_by (ascending columns) (row_of t).cells)) keys among)) in
            ap (λ x. found_or (found_for_row x (Some t))) found
            ∙ ap found_or (looked_found (ascending columns) (row_of t).cells one keys up among)
            ∙ ap (λ cs. due m f (Some cs)) (by_columns columns (row_of t).cells)
            ∙ ap (due m f) (sym (key_for (Some t) e))

        due_read : (over_g : FetchStep) → IsReached m tree plan r g over_g → (c : ℕ) → slice_get (out-FetchStep over_g).children c ≡ Some f → (o : Option RowTree) → tree_on trail g ≡ o → found_or (found_below o c) ≡ due m f (key_on f)
        due_read over_g there c child None e = ap (due m f) (sym (key_for None e))
        due_read over_g there c child (Some t) e =
            ap found_or (read_is m over_g f c t (there.grows t (held_on plan.steps all trail here g t e)) child)
            ∙ ap (due m f) (sym (key_for (Some t) e))

      found_by_way : may_send m tree plan r k ≡ true → (way : Way) → way_of plan.steps k ≡ way → WayOf plan.steps f way → found_or (found_by all trail k way) ≡ due m f (key_on f)
      found_by_way may _ w (is_once none) = due_once may Once w refl none
      found_by_way may _ w (is_own_of g above hangs) =
          let of = items hangs.parent g hangs.is_item in
          due_sent g hangs may w (own_keys_are m tree plan r earlier stands k f at g above hangs of.0 (reached m tree plan r earlier stands items g of.0 of.1) w) (tree_on trail g) refl
      found_by_way may _ w (is_read_of g c above hangs there) =
          let of = items hangs.parent g hangs.is_item in
          due_read g hangs of.0 (reached m tree plan r earlier stands items g of.0 of.1) c (child_of_fetch m tree plan r earlier stands items g of.0 f c of.1 there) (tree_on trail g) refl

      -- the law
      pub found_due : may_send m tree plan r k ≡ true → found_at plan.steps (fetched_all m tree plan r) trail k ≡ due m f (key_at m f (all_vals m plan.steps (path_of trail)))
      found_due may = found_by_way may (way_of plan.steps k) refl (way_is plan.steps k f at)

    -- ---- the rows that are found stand in what was found

    in_first : (t : RowTree) (found : List Found) → IsIn t (out-Found (found_or (first_found found))).rows → IsIn t (all_rows found)
    in_first t [] h = absurd (no_row t h)
    in_first t (x ∷ found) h = all_in t x (x ∷ found) (inl refl) h

    in_looked : (t : RowTree) (x : FetchedParts) (o : Option RowTree) → IsIn t (out-Found (found_or (found_for_row x o))).rows → IsIn t (all_rows x.found)
    in_looked t x None h = absurd (no_row t h)
    in_looked t x (Some row) h = by (looked_up x.order (row_of row).cells x.keys x.found) refl h where
      by : (o : Option Found) → looked_up x.order (row_of row).cells x.keys x.found ≡ o → IsIn t (out-Found (found_or o)).rows → IsIn t (all_rows x.found)
      by None e h = absurd (no_row t h)
      by (Some y) e h = all_in t y x.found (looked_in x.order (row_of row).cells x.keys x.found y e) h

    in_child : (t : RowTree) (c g : ℕ) (o : Option RowTree) → tree_on trail g ≡ o → IsIn t (out-Found (found_or (found_below o c))).rows → IsIn t (rows_below c (held plan.steps all g))
    in_child t c g None e h = absurd (no_row t h)
    in_child t c g (Some row) e h = below_in t row c (held plan.steps all g) (held_on plan.steps all trail here g row e) (by (found_below (Some row) c) h) where
      by : (o : Option Found) → IsIn t (out-Found (found_or o)).rows → IsIn t (rows_of o)
      by None h = absurd (no_row t h)
      by (Some x) h = h

    in_way : (k : ℕ) (t : RowTree) (way : Way) → IsIn t (out-Found (found_or (found_by all trail k way))).rows → IsIn t (held_by (held plan.steps all) all k way)
    in_way k t Other h = absurd (no_row t h)
    in_way k t Once h = in_first t (fetched_at all k).found h
    in_way k t (Sent g) h = in_looked t (fetched_at all k) (tree_on trail g) h
    in_way k t (Read g c) h = in_child t c g (tree_on trail g) refl h

    pub found_held : (k : ℕ) → k < length plan.steps → (t : RowTree) → IsIn t (out-Found (found_at plan.steps (fetched_all m tree plan r) trail k)).rows → IsIn t (held plan.steps (fetched_all m tree plan r) k)
    found_held k lt t h = subst (IsIn t) (sym (held_is plan.steps (reads_earlier m tree plan r earlier stands) all k lt)) (in_way k t (way_of plan.steps k) h)

    -- ---- values

    abbrev vals : List Val
    vals = all_vals m plan.steps (path_of trail)

    -- a fetch that is shown may be sent
    abbrev MaySend : ℕ → Type 0
    MaySend k = may_send m tree plan r k ≡ true

    listing_fetch : (k : ℕ) (f : FetchStep) → slice_get plan.steps k ≡ Some (step.Fetch f) → MaySend k → val_at vals k ≡ values.ListVal (plain (found_at plan.steps all trail k))
    listing_fetch k f at may =
        val_of m (path_of trail) plan.steps k (step.Fetch f) at
        ∙ ap (λ key. values.ListVal (listing_for m f key)) (key_taken m (path_of trail) plan.steps k f (parent_earlier plan.steps earlier k f at))
        ∙ ap values.ListVal (sym (due_plain m f (key_on f)) ∙ ap plain (sym (found_due k f at may)))

    of_row : (o : Option Row) → row_in (val_of_row o) ≡ o
    of_row None = refl
    of_row (Some row) = refl

    -- the row that a step is
    row_is : (i : ℕ) → row_in (val_at vals i) ≡ row_by m.given trail (slice_get plan.steps i)
    row_is i = by (slice_get plan.steps i) refl where
      of : (s : Step) → slice_get plan.steps i ≡ Some s → row_in (val_at vals i) ≡ row_in (step_val m plan.steps (path_of trail) (take i vals) s)
      of s at = ap row_in (val_of m (path_of trail) plan.steps i s at)

      by : (o : Option Step) → slice_get plan.steps i ≡ o → row_in (val_at vals i) ≡ row_by m.given trail o
      by None at = ap (λ v. row_in (val_or_none v)) (built_past (step_val m plan.steps (path_of trail)) plan.steps [] i at i (omega arith))
      by (Some (step.Item s)) at = of (step.Item s) at ∙ of_row (row_on (path_of trail) s) ∙ tree_row trail s
      by (Some step.Given) at = of step.Given at ∙ of_row m.given
      by (Some (step.Const v)) at = of (step.Const v) at
      by (Some (step.Var v)) at = of (step.Var v) at
      by (Some (step.Fetch f)) at = of (step.Fetch f) at
      by (Some (step.Column j c)) at = of (step.Column j c) at
      by (Some (step.Count s)) at = of (step.Count s) at
      by (Some (step.Page s c)) at = of (step.Page s c) at
      by (Some (step.CursorOf j)) at = of (step.CursorOf j) at

    -- a step that is no fetch has no listing
    listing_other : (path : Path) (before : List Val) (s : Step) → fetch_in (Some s) ≡ None → listing_in (step_val m plan.steps path before s) ≡ values.nothing
    listing_other path before (step.Fetch f) e = cc
    listing_other path before (step.Const v) e = refl
    listing_other path before (step.Var v) e = refl
    listing_other path before step.Given e = by_row m.given where
      by_row : (o : Option Row) → listing_in (val_of_row o) ≡ values.nothing
      by_row None = refl
      by_row (Some row) = refl
    listing_other path before (step.Item v) e = by_row (row_on path v) where
      by_row : (o : Option Row) → listing_in (val_of_row o) ≡ values.nothing
      by_row None = refl
      by_row (Some row) = refl
    listing_other path before (step.Column v c) e = refl
    listing_other path before (step.Count v) e = refl
    listing_other path before (step.Page v k) e = refl
    listing_other path before (step.CursorOf v) e = refl

    pub none_found : (k : ℕ) (o : Option Step) → slice_get plan.steps k ≡ o → fetch_in o ≡ None → found_at plan.steps (fetched_all m tree plan r) trail k ≡ no_rows
    none_found k o at none = ap (λ v. found_or (found_by all trail k v)) (ap (λ x. way_in plan.steps (fetch_in x)) at ∙ ap (way_in plan.steps) none)

    other_listing : (k : ℕ) (s : Step) → slice_get plan.steps k ≡ Some s → fetch_in (Some s) ≡ None → listing_in (val_at vals k) ≡ plain (found_at plan.steps all trail k)
    other_listing k s at none =
        ap listing_in (val_of m (path_of trail) plan.steps k s at) ∙ listing_other (path_of trail) (take k vals) s none
        ∙ sym (no_plain m) ∙ ap plain (sym (none_found k (Some s) at none))

    -- the listing of a step, where a fetch may be sent
    pub listing_at : (k : ℕ) → ((f : FetchStep) → slice_get plan.steps k ≡ Some (step.Fetch f) → may_send m tree plan r k ≡ true) →
        listing_in (val_at (all_vals m plan.steps (path_of trail)) k) ≡ plain (found_at plan.steps (fetched_all m tree plan r) trail k)
    listing_at k may = by (slice_get plan.steps k) refl where
      by : (o : Option Step) → slice_get plan.steps k ≡ o → listing_in (val_at vals k) ≡ plain (found_at plan.steps all trail k)
      by None at =
          ap (λ v. listing_in (val_or_none v)) (built_past (step_val m plan.steps (path_of trail)) plan.steps [] k at k (omega arith))
          ∙ sym (no_plain m) ∙ ap plain (sym (none_found k None at refl))
      by (Some (step.Fetch f)) at = ap listing_in (listing_fetch k f at (may f at))
      by (Some (step.Const v)) at = other_listing k (step.Const v) at refl
      by (Some (step.Var v)) at = other_listing k (step.Var v) at refl
      by (Some step.Given) at = other_listing k step.Given at refl
      by (Some (step.Item s)) at = other_listing k (step.Item s) at refl
      by (Some (step.Column j c)) at = other_listing k (step.Column j c) at refl
      by (Some (step.Count s)) at = other_listing k (step.Count s) at refl
      by (Some (step.Page s c)) at = other_listing k (step.Page s c) at refl
      by (Some (step.CursorOf j)) at = other_listing k (step.CursorOf j) at refl

    -- the fetch of which a step shows something
    value_is_of : (k : ℕ) (s : Step) → slice_get plan.steps k ≡ Some s → val_at vals k ≡ step_val m plan.steps (path_of trail) (take k vals) s
    value_is_of k s at = val_of m (path_of trail) plan.steps k s at

    taken_listing : (k s : ℕ) → s < k → listing_in (val_at (take k vals) s) ≡ listing_in (val_at vals s)
    taken_listing k s lt = ap listing_in (val_before m (path_of trail) plan.steps vals k s lt)

    taken_row : (k i : ℕ) → i < k → row_in (val_at (take k vals) i) ≡ row_in (val_at vals i)
    taken_row k i lt = ap row_in (val_before m (path_of trail) plan.steps vals k i lt)

    named_before : (k : ℕ) (s : Step) → slice_get plan.steps k ≡ Some s → IfSome (named_by s) (λ j. j < k)
    named_before k s at = earlier k s at

    -- the value of a step, where the fetch of which it shows something may be sent
    pub value_is : (k : ℕ) → ((s : ℕ) → fetch_shown k (slice_get plan.steps k) ≡ Some s → may_send m tree plan r s ≡ true) →
        read_value (setting_of m) plan.steps (fetched_all m tree plan r) trail k ≡ val_at (all_vals m plan.steps (path_of trail)) k
    value_is k may = by (slice_get plan.steps k) refl may where
      of_fetch : (s : ℕ) → MaySend s → listing_in (val_at vals s) ≡ plain (found_at plan.steps all trail s)
      of_fetch s ok = listing_at s (λ f at. ok)

      by : (o : Option Step) → slice_get plan.steps k ≡ o → ((s : ℕ) → fetch_shown k o ≡ Some s → may_send m tree plan r s ≡ true) → value_by (setting_of m) plan.steps all trail k o ≡ val_at vals k
      by None at may = sym (ap val_or_none (built_past (step_val m plan.steps (path_of trail)) plan.steps [] k at k (omega arith)))
      by (Some (step.Const v)) at may = sym (value_is_of k (step.Const v) at)
      by (Some (step.Var p)) at may = sym (value_is_of k (step.Var p) at)
      by (Some step.Given) at may = sym (value_is_of k step.Given at)
      by (Some (step.Fetch f)) at may = sym (listing_fetch k f at (may k refl))
      by (Some (step.Item s)) at may = ap val_of_row (sym (tree_row trail s)) ∙ sym (value_is_of k (step.Item s) at)
      by (Some (step.Column i c)) at may =
          ap (λ o. values.CellVal (values.cell_in o c)) (sym (row_is i) ∙ sym (taken_row k i (named_before k (step.Column i c) at))) ∙ sym (value_is_of k (step.Column i c) at)
      by (Some (step.Count s)) at may =
          ap (λ (l : Listing). values.LeafVal (number_leaf l.total)) (sym (of_fetch s (may s refl)) ∙ sym (taken_listing k s (named_before k (step.Count s) at))) ∙ sym (value_is_of k (step.Count s) at)
      by (Some (step.Page s part)) at may =
          ap (λ (l : Listing). values.LeafVal (values.page m.base (fetch_at plan.steps s) l part)) (sym (of_fetch s (may s refl)) ∙ sym (taken_listing k s (named_before k (step.Page s part) at))) ∙ sym (value_is_of k (step.Page s part) at)
      by (Some (step.CursorOf i)) at may =
          ap (λ o. values.LeafVal (values.item_cursor m.base plan.steps (item_at plan.steps i) o)) (sym (row_is i) ∙ sym (taken_row k i (named_before k (step.CursorOf i) at))) ∙ sym (value_is_of k (step.CursorOf i) at)
