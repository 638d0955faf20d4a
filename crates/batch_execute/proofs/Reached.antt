-- The rows that stand in what was found are those at which the layers of a plan stand, and the statements that are sent
-- are those of the asked steps.
use Rattle.std.proofs.Common.{◌≡◌, ℕ, zero, suc, ◌<◌, ◌≤◌, List, [], ◌∷◌, ◌++◌, map, take, length, Option, Some, None, Bool, true, false, cond, inl, inr, refl, sym, ap, ◌∙◌, subst, arith}
use Rattle.std.specs.Prelude.{slice_get, ◌&&◌, not, unwrap_or, IfSome}
use Rattle.std.proofs.lemmas.Option.{slice_get_within}
use Rattle.pg_base.specs.declared.cell.Cell.{Cell}
use Rattle.rel_model.specs.declared.tables.Row.{Row}
use Rattle.rel_model.specs.Picked.{cell_at}
use Rattle.rel_model.specs.Tables.{cells_at}
use Rattle.rel_model.specs.declared.window.By.{By}
use Rattle.rel_model.specs.Ordered.{ascending, cells_by}
use Rattle.place_tree.specs.declared.place.Tree.{Tree}
use Rattle.plan_steps.specs.declared.plan.FetchStep.{FetchStep, out-FetchStep}
use Rattle.plan_steps.specs.declared.plan.Plan.{Plan}
use Rattle.plan_steps.specs.declared.plan.Root.{Root}
use Rattle.plan_steps.specs.declared.plan.Step.{Step}
use Rattle.plan_steps.specs.declared.plan.Step.TheVariants as step
use Rattle.plan_steps.specs.Filled.{stmt_of}
use Rattle.plan_steps.specs.Named.{named_by, fetch_at, fetch_in, item_in, over}
use Rattle.plan_steps.specs.Sent.{children_of, is_sent, is_sent_for, may_ask, is_none, extended, rows_at, Stance, nowhere, stance_in, paths_over, stance_next, places_from, stances, is_asked, total, trees_for, trees_by, trees_at, trees_if, rows_by}
use Rattle.plan_steps.specs.Under.{is_used}
use Rattle.plan_steps.specs.Values.{Moment, Path, row_of, row_on, row_in, key_from, key_by, key_at, listing_in, listing_for, val_at, val_or_none, step_val, all_vals, val_of_row}
use Rattle.plan_steps.proofs.Vals.{get_take, built_here, built_past, val_of, key_item, key_taken}
use Rattle.stmt_tree.specs.declared.found.Found.TheViews.{out-Found}
use Rattle.stmt_tree.specs.declared.found.Key.{Key}
use Rattle.stmt_tree.specs.declared.found.RowTree.{RowTree}
use Rattle.stmt_tree.specs.Meaning.{meaning_of, trees_in_all}
use Rattle.batch_execute.specs.declared.way.Way.{Way}
use Rattle.batch_execute.specs.declared.way.Way.TheVariants.{Other, Once, Sent, Read}
use Rattle.batch_execute.specs.Entries.{setting_of, given_keys, once_keys, keys_by, keys_at, is_due, may_send, is_sent_with, is_sent_now, answered_if, fetched_with, fetched_next, fetched_all}
use Rattle.batch_execute.specs.Fetched.{FetchedParts, AreAscending}
use Rattle.batch_execute.specs.Held.{all_rows, rows_of, rows_below, held_by, held}
use Rattle.batch_execute.specs.Keys.{key_of, tree_cells, keys_for}
use Rattle.batch_execute.specs.Reading.{unasked, fetched_or, fetched_at, row_by}
use Rattle.batch_execute.specs.Ways.{fetch_above, way_in, way_of}
use Rattle.batch_execute.proofs.Built.{place_at}
use Rattle.batch_execute.proofs.GrownRows.{due, IsGrownBy, read_is, due_rows}
use Rattle.batch_execute.proofs.HeldRows.{held_is, held_take}
use Rattle.batch_execute.proofs.Items.{IsIn, in_map, in_mapped}
use Rattle.batch_execute.proofs.Joined.{IsTreeFor, IsPathFor, IsKeyOn, cover, reach, all_grown, few}
use Rattle.batch_execute.proofs.KeysTold.{keys_ascend, key_from as row_of_key, key_there}
use Rattle.batch_execute.proofs.WaysTold.{is_own, own_sent, HangsOn, WayOf, is_once, is_own_of, is_read_of, way_is, above_earlier}

-- ---- cells by columns

pub by_columns : (columns : List ℕ) (cells : List Cell) → cells_by (ascending columns) cells ≡ cells_at columns cells
by_columns [] cells = refl
by_columns (c ∷ columns) cells = ap (λ l. cell_at cells c ∷ l) (by_columns columns cells)

-- ---- the key of a fetch that hangs on no other

abbrev pub option_keys : Option (List Cell) → List Key
option_keys None = []
option_keys (Some cells) = key_of cells ∷ []

pub one_ascends : (o : Option (List Cell)) → AreAscending [] (option_keys o)
one_ascends None = tt
one_ascends (Some cells) = (tt, tt)

-- the row that a step is which is no row of a fetch, on every path
module _ (m : Moment) (steps : List Step) where
  row_given : (path : Path) (p : ℕ) (o : Option Step) → slice_get steps p ≡ o → fetch_above steps (Some p) ≡ None → row_in (val_at (all_vals m steps path) p) ≡ row_by m.given [] o
  row_given path p None at none = ap (λ v. row_in (val_or_none v)) (built_past (step_val m steps path) steps [] p at p (omega arith))
  row_given path p (Some s) at none = ap row_in (val_of m path steps p s at) ∙ by s at where
    item_none : (s : ℕ) → slice_get steps p ≡ Some (step.Item s) → ⊥
    item_none s at = let some : fetch_above steps (Some p) ≡ Some s = ap item_in at in let z : None ≡ Some s = sym none ∙ some in cc

    of_row : (o : Option Row) → row_in (val_of_row o) ≡ o
    of_row None = refl
    of_row (Some row) = refl

    by : (s : Step) → slice_get steps p ≡ Some s → row_in (step_val m steps path (take p (all_vals m steps path)) s) ≡ row_by m.given [] (Some s)
    by (step.Const v) at = refl
    by (step.Var v) at = refl
    by step.Given at = of_row m.given
    by (step.Fetch f) at = refl
    by (step.Item s) at = absurd (item_none s at)
    by (step.Column i c) at = refl
    by (step.Count s) at = refl
    by (step.Page s c) at = refl
    by (step.CursorOf i) at = refl

  -- its key is the same on every path
  pub once_key : (f : FetchStep) → fetch_above steps (out-FetchStep f).parent ≡ None → (path : Path) → once_keys (setting_of m) steps f (out-FetchStep f).parent ≡ option_keys (key_at m f (all_vals m steps path))
  once_key f none path = by (out-FetchStep f).parent refl none where
    of_given : (columns : List ℕ) (o : Option Row) → given_keys columns o ≡ option_keys (key_from columns o)
    of_given columns None = refl
    of_given columns (Some row) = refl

    by : (o : Option ℕ) → (out-FetchStep f).parent ≡ o → fetch_above steps o ≡ None → once_keys (setting_of m) steps f o ≡ option_keys (key_by m f (all_vals m steps path) o)
    by None e none = refl
    by (Some p) e none =
        of_given (out-FetchStep f).parent_columns (row_by m.given [] (slice_get steps p))
        ∙ ap (λ row. option_keys (key_from (out-FetchStep f).parent_columns row)) (sym (row_given path p (slice_get steps p) refl none))

-- ---- tests

and_swap : (a b c : Bool) → ((true && a) && (b && c)) ≡ ((a && c) && b)
and_swap true true true = refl
and_swap true true false = refl
and_swap true false true = refl
and_swap true false false = refl
and_swap false true true = refl
and_swap false true false = refl
and_swap false false true = refl
and_swap false false false = refl

and_false : (b : Bool) → (b && false) ≡ false
and_false true = refl
and_false false = refl

none_empty : {A B : Type 0} (xs : List A) (ys : List B) → ((x : A) → IsIn x xs → (y : B) × IsIn y ys) → ((y : B) → IsIn y ys → (x : A) × IsIn x xs) → is_none xs ≡ is_none ys
none_empty [] [] f g = refl
none_empty [] (y ∷ ys) f g = absurd (g y (inl refl)).1
none_empty (x ∷ xs) [] f g = absurd (f x (inl refl)).1
none_empty (x ∷ xs) (y ∷ ys) f g = refl

-- ---- where layers stand

-- the rows of a fetch that stand in what was found are those at which the layer over it stands
pub record IsReached (m : Moment) (tree : Tree) (plan : Plan) (r : Root) (k : ℕ) (f : FetchStep) : Type 0 where
  pub covers : (q : Path) → IsIn q (paths_over m plan.steps (stances m tree plan r) (Some k)) → IsTreeFor k q (held plan.steps (fetched_all m tree plan r) k)
  pub reaches : (t : RowTree) → IsIn t (held plan.steps (fetched_all m tree plan r) k) → IsPathFor k t (paths_over m plan.steps (stances m tree plan r) (Some k))
  pub grows : (t : RowTree) → IsIn t (held plan.steps (fetched_all m tree plan r) k) → IsGrownBy m f t
  pub few_ : trees_in_all (fetched_at (fetched_all m tree plan r) k).found ≤ rows_by m plan.steps (stances m tree plan r) k

module _ (m : Moment) (tree : Tree) (plan : Plan) (r : Root)
    (earlier : (k : ℕ) (s : Step) → slice_get plan.steps k ≡ Some s → IfSome (named_by s) (λ j. j < k))
    (stands : (k : ℕ) (f : FetchStep) → slice_get plan.steps k ≡ Some (step.Fetch f) → over plan.layers k ≡ fetch_above plan.steps (out-FetchStep f).parent) where
  abbrev steps : List Step
  steps = plan.steps

  abbrev all : List FetchedParts
  all = fetched_all m tree plan r

  abbrev standing : List Stance
  standing = stances m tree plan r

  reads_by : (k : ℕ) (f : FetchStep) → slice_get plan.steps k ≡ Some (step.Fetch f) → (way : Way) → WayOf plan.steps f way → (g c : ℕ) → way ≡ Read g c → g < k
  reads_by k f at _ (is_once none) g c e = cc
  reads_by k f at _ (is_own_of h above hangs) g c e = cc
  reads_by k f at _ (is_read_of h d above hangs there) g c e = let same : h ≡ g = cc in subst (λ j. j < k) same (above_earlier plan.steps earlier k f at h hangs)

  pub reads_earlier : (k g c : ℕ) → way_of plan.steps k ≡ Read g c → g < k
  reads_earlier k g c e = by (slice_get plan.steps k) refl where
    by : (o : Option Step) → slice_get plan.steps k ≡ o → g < k
    by (Some (step.Fetch f)) at = reads_by k f at (way_of plan.steps k) (way_is plan.steps k f at) g c e
    by _ at = let other : way_of plan.steps k ≡ Other = ap (λ o. way_in plan.steps (fetch_in o)) at in let z : Other ≡ Read g c = sym other ∙ e in cc

  keys_taken : (k : ℕ) (f : FetchStep) → slice_get plan.steps k ≡ Some (step.Fetch f) → (way : Way) → WayOf plan.steps f way → keys_by (setting_of m) plan.steps (take k all) f way ≡ keys_by (setting_of m) plan.steps all f way
  keys_taken k f at _ (is_once none) = refl
  keys_taken k f at _ (is_own_of g above hangs) = ap (keys_for (out-FetchStep f).parent_columns) (held_take plan.steps reads_earlier all k g (above_earlier plan.steps earlier k f at g hangs))
  keys_taken k f at _ (is_read_of g c above hangs there) = refl

  pub keys_same : (k : ℕ) → keys_at m plan.steps (take k (fetched_all m tree plan r)) k (fetch_at plan.steps k) ≡ keys_at m plan.steps (fetched_all m tree plan r) k (fetch_at plan.steps k)
  keys_same k = by (slice_get plan.steps k) refl where
    by : (o : Option Step) → slice_get plan.steps k ≡ o → keys_at m plan.steps (take k all) k (fetch_in o) ≡ keys_at m plan.steps all k (fetch_in o)
    by (Some (step.Fetch f)) at = keys_taken k f at (way_of plan.steps k) (way_is plan.steps k f at)
    by _ at = refl

  -- what was found for a step, from all that was found
  pub fetched_is : (k : ℕ) → k < length plan.steps → fetched_at (fetched_all m tree plan r) k ≡ fetched_with m tree plan r k (keys_at m plan.steps (fetched_all m tree plan r) k (fetch_at plan.steps k))
  fetched_is k lt =
      ap fetched_or (built_here (fetched_next m tree plan r) (places_from 0 plan.steps) k k (place_at plan.steps k lt))
      ∙ ap (fetched_with m tree plan r k) (keys_same k)

  stance_is : (k : ℕ) → k < length plan.steps → stance_in standing k ≡ stance_next m tree plan r (take k standing) k
  stance_is k lt = ap (λ o. unwrap_or o nowhere) (built_here (stance_next m tree plan r) (places_from 0 plan.steps) k k (place_at plan.steps k lt))

  stance_taken : (k g : ℕ) → g < k → stance_in (take k standing) g ≡ stance_in standing g
  stance_taken k g lt = ap (λ o. unwrap_or o nowhere) (get_take standing k g lt)

  abbrev paths_of : Stance → ℕ → List Path
  paths_of s g = cond (is_sent plan.steps g && not s.asked) [] (extended (rows_at m plan.steps g) g s.paths)

  paths_once : (k : ℕ) (f : FetchStep) → slice_get plan.steps k ≡ Some (step.Fetch f) → fetch_above plan.steps (out-FetchStep f).parent ≡ None → (stance_in standing k).paths ≡ [] ∷ []
  paths_once k f at none =
      ap (λ (s : Stance). s.paths) (stance_is k (slice_get_within plan.steps k (step.Fetch f) at))
      ∙ ap (paths_over m plan.steps (take k standing)) (stands k f at ∙ none)

  paths_above : (k : ℕ) (f : FetchStep) → slice_get plan.steps k ≡ Some (step.Fetch f) → (g : ℕ) → fetch_above plan.steps (out-FetchStep f).parent ≡ Some g → g < k → (stance_in standing k).paths ≡ paths_over m plan.steps standing (Some g)
  paths_above k f at g above lt =
      ap (λ (s : Stance). s.paths) (stance_is k (slice_get_within plan.steps k (step.Fetch f) at))
      ∙ ap (paths_over m plan.steps (take k standing)) (stands k f at ∙ above)
      ∙ ap (λ s. paths_of s g) (stance_taken k g lt)

  asked_is : (k : ℕ) → k < length plan.steps → (stance_in standing k).asked ≡ (is_sent_for tree plan r k && (not (is_none (stance_in standing k).paths) && may_ask m tree r plan.out k))
  asked_is k lt =
      ap (λ (s : Stance). s.asked) (stance_is k lt)
      ∙ ap (λ (ps : List Path). is_sent_for tree plan r k && (not (is_none ps) && may_ask m tree r plan.out k)) (sym (ap (λ (s : Stance). s.paths) (stance_is k lt)))

  parent_before : (k : ℕ) (f : FetchStep) → slice_get plan.steps k ≡ Some (step.Fetch f) → (p : ℕ) → (out-FetchStep f).parent ≡ Some p → p < k
  parent_before k f at p e = subst (λ o. IfSome o (λ j. j < k)) e (earlier k (step.Fetch f) at)

  abbrev key_on : FetchStep → Path → Option (List Cell)
  key_on f path = key_at m f (all_vals m plan.steps path)

  rows_at_is : (k : ℕ) (f : FetchStep) → slice_get plan.steps k ≡ Some (step.Fetch f) → (path : Path) → rows_at m plan.steps k path ≡ map row_of (out-Found (due m f (key_on f path))).rows
  rows_at_is k f at path =
      ap (λ v. (listing_in v).rows) (val_of m path plan.steps k (step.Fetch f) at)
      ∙ ap (λ key. (listing_for m f key).rows) (key_taken m path plan.steps k f (parent_before k f at))
      ∙ sym (due_rows m f (key_on f path))

  -- ---- a fetch that is found for these keys

  module _ (k : ℕ) (f : FetchStep) (at : slice_get plan.steps k ≡ Some (step.Fetch f)) where
    within : k < length plan.steps
    within = slice_get_within plan.steps k (step.Fetch f) at

    reached_by : (keys : List Key) → held plan.steps all k ≡ all_rows (meaning_of m.tables (stmt_of m.base m.vars f) keys) → paths_over m plan.steps standing (Some k) ≡ extended (rows_at m plan.steps k) k (stance_in standing k).paths →
        ((path : Path) (cells : List Cell) → IsIn path (stance_in standing k).paths → key_on f path ≡ Some cells → IsIn (key_of cells) keys) →
        ((key : Key) → IsIn key keys → IsKeyOn (key_on f) key (stance_in standing k).paths) →
        trees_in_all (fetched_at all k).found ≤ rows_by m plan.steps standing k → IsReached m tree plan r k f
    reached_by keys found over each_path each_key less =
        let paths = (stance_in standing k).paths in
        let rows : rows_at m plan.steps k ≡ (λ path. map row_of (out-Found (due m f (key_on f path))).rows) = λ i path. rows_at_is k f at path i in
        let layer : paths_over m plan.steps standing (Some k) ≡ extended (λ path. map row_of (out-Found (due m f (key_on f path))).rows) k paths = over ∙ ap (λ g. extended g k paths) rows in
        record {
          covers = λ q h. subst (λ ts. IsTreeFor k q ts) (sym found) (cover m f k (key_on f) paths keys each_path each_key q (subst (IsIn q) layer h));
          reaches = λ t h. subst (λ ps. IsPathFor k t ps) (sym layer) (reach m f k (key_on f) paths keys each_path each_key t (subst (IsIn t) found h));
          grows = λ t h. all_grown m f k (key_on f) keys t (subst (IsIn t) found h);
          few_ = less;
        }

    none_found : fetched_at all k ≡ unasked → trees_in_all (fetched_at all k).found ≤ rows_by m plan.steps standing k
    none_found e = let n : trees_in_all (fetched_at all k).found ≡ 0 = ap (λ (x : FetchedParts). trees_in_all x.found) e in omega (arith, n)

    reached_none : held plan.steps all k ≡ [] → paths_over m plan.steps standing (Some k) ≡ [] → fetched_at all k ≡ unasked → IsReached m tree plan r k f
    reached_none found over e = record {
      covers = λ q h. absurd (let z : IsIn q [] = subst (IsIn q) over h in z);
      reaches = λ t h. absurd (let z : IsIn t [] = subst (IsIn t) found h in z);
      grows = λ t h. absurd (let z : IsIn t [] = subst (IsIn t) found h in z);
      few_ = none_found e;
    }

    -- the layer over a fetch, by whether it is sent and asked
    over_own : (asked : Bool) → is_sent plan.steps k ≡ true → (stance_in standing k).asked ≡ asked → paths_over m plan.steps standing (Some k) ≡ cond asked (extended (rows_at m plan.steps k) k (stance_in standing k).paths) []
    over_own true sent e = ap (λ b. cond (is_sent plan.steps k && not b) [] (extended (rows_at m plan.steps k) k (stance_in standing k).paths)) e ∙ ap (λ b. cond b [] (extended (rows_at m plan.steps k) k (stance_in standing k).paths)) (and_false (is_sent plan.steps k))
    over_own false sent e = ap (λ b. cond (b && not (stance_in standing k).asked) [] (extended (rows_at m plan.steps k) k (stance_in standing k).paths)) sent ∙ ap (λ b. cond (not b) [] (extended (rows_at m plan.steps k) k (stance_in standing k).paths)) e

    over_read : is_sent plan.steps k ≡ false → paths_over m plan.steps standing (Some k) ≡ extended (rows_at m plan.steps k) k (stance_in standing k).paths
    over_read sent = ap (λ b. cond (b && not (stance_in standing k).asked) [] (extended (rows_at m plan.steps k) k (stance_in standing k).paths)) sent

    abbrev keys : List Key
    keys = keys_by (setting_of m) plan.steps all f (way_of plan.steps k)

    keys_there : keys_at m plan.steps all k (fetch_at plan.steps k) ≡ keys
    keys_there = ap (λ o. keys_at m plan.steps all k (fetch_in o)) at

    -- whether a statement of its own is sent for it
    pub sent_is : is_sent_now m tree plan r all k ≡ (may_send m tree plan r k && is_due (way_of plan.steps k) keys)
    sent_is = ap (is_sent_with m tree plan r k) keys_there

    pub fetched_there : (b : Bool) → is_sent_now m tree plan r all k ≡ b → fetched_at all k ≡ answered_if b m (way_of plan.steps k) keys (Some f)
    fetched_there b e =
        fetched_is k within
        ∙ ap (λ (x : Bool). answered_if x m (way_of plan.steps k) (keys_at m plan.steps all k (fetch_at plan.steps k)) (fetch_at plan.steps k)) e
        ∙ ap (λ ks. answered_if b m (way_of plan.steps k) ks (fetch_at plan.steps k)) keys_there
        ∙ ap (λ o. answered_if b m (way_of plan.steps k) keys (fetch_in o)) at

    -- the asked steps are those for which a statement is sent, where a key stands for a path and a path for a key
    asked_own : (way : Way) → way_of plan.steps k ≡ way → is_own way ≡ true → is_due way keys ≡ not (is_none (stance_in standing k).paths) → is_asked m tree plan r k ≡ is_sent_now m tree plan r all k
    asked_own way w own due_ =
        let sent : is_sent plan.steps k ≡ true = sym (own_sent plan.steps k) ∙ ap is_own w ∙ own in
        asked_is k within
        ∙ ap (λ b. (b && is_used tree plan r k) && (not (is_none (stance_in standing k).paths) && may_ask m tree r plan.out k)) sent
        ∙ and_swap (is_used tree plan r k) (not (is_none (stance_in standing k).paths)) (may_ask m tree r plan.out k)
        ∙ ap (λ b. may_send m tree plan r k && b) (sym due_ ∙ ap (λ (v : Way). is_due v keys) (sym w))
        ∙ sym sent_is

    -- ---- a statement of its own

    own_reached : (way : Way) → way_of plan.steps k ≡ way → is_own way ≡ true → is_asked m tree plan r k ≡ is_sent_now m tree plan r all k →
        ((path : Path) (cells : List Cell) → IsIn path (stance_in standing k).paths → key_on f path ≡ Some cells → IsIn (key_of cells) keys) →
        ((key : Key) → IsIn key keys → IsKeyOn (key_on f) key (stance_in standing k).paths) →
        held plan.steps all k ≡ all_rows (fetched_at all k).found → (order : List By) → AreAscending order keys → IsReached m tree plan r k f
    own_reached way w own same each_path each_key held_own order up = by (is_sent_now m tree plan r all k) refl where
      sent : is_sent plan.steps k ≡ true
      sent = sym (own_sent plan.steps k) ∙ ap is_own w ∙ own

      less : is_sent_now m tree plan r all k ≡ true → trees_in_all (fetched_at all k).found ≤ rows_by m plan.steps standing k
      less e =
          let paths = (stance_in standing k).paths in
          let bound : trees_in_all (meaning_of m.tables (stmt_of m.base m.vars f) keys) ≤ total (λ path. trees_for m f (key_on f path)) paths = few m f k (key_on f) order keys paths up each_key in
          let found : trees_in_all (fetched_at all k).found ≡ trees_in_all (meaning_of m.tables (stmt_of m.base m.vars f) keys) = ap (λ (x : FetchedParts). trees_in_all x.found) (fetched_there true e) in
          let rows : rows_by m plan.steps standing k ≡ total (trees_at m plan.steps k) paths = ap (λ b. trees_if b (trees_at m plan.steps k) paths) (same ∙ e) in
          let each : total (trees_at m plan.steps k) paths ≡ total (λ path. trees_for m f (key_on f path)) paths = ap (λ o. total (λ path. trees_by m plan.steps path (fetch_in o)) paths) at in
          omega (arith, bound, found, rows, each)

      by : (b : Bool) → is_sent_now m tree plan r all k ≡ b → IsReached m tree plan r k f
      by true e = reached_by keys (held_own ∙ ap (λ (x : FetchedParts). all_rows x.found) (fetched_there true e)) (over_own true sent (same ∙ e)) each_path each_key (less e)
      by false e = reached_none (held_own ∙ ap (λ (x : FetchedParts). all_rows x.found) (fetched_there false e)) (over_own false sent (same ∙ e)) (fetched_there false e)

    keys_for_way : (way : Way) → way_of plan.steps k ≡ way → keys ≡ keys_by (setting_of m) plan.steps all f way
    keys_for_way way w = ap (keys_by (setting_of m) plan.steps all f) w

    held_for_way : (way : Way) → way_of plan.steps k ≡ way → held plan.steps all k ≡ held_by (held plan.steps all) all k way
    held_for_way way w = held_is plan.steps reads_earlier all k within ∙ ap (held_by (held plan.steps all) all k) w

    -- for one key at most
    module _ (none : fetch_above plan.steps (out-FetchStep f).parent ≡ None) (w : way_of plan.steps k ≡ Once) where
      pub once_keys_are : (path : Path) → keys ≡ option_keys (key_on f path)
      once_keys_are path = keys_for_way Once w ∙ once_key m plan.steps f none path

      once_path : (path : Path) (cells : List Cell) → key_on f path ≡ Some cells → IsIn (key_of cells) keys
      once_path path cells e = subst (IsIn (key_of cells)) (sym (once_keys_are path ∙ ap option_keys e)) (inl refl)

      once_of : (key : Key) (o : Option (List Cell)) → key_on f [] ≡ o → IsIn key (option_keys o) → IsKeyOn (key_on f) key (stance_in standing k).paths
      once_of key None e h = absurd h
      once_of key (Some cells) e (inl same) = record {
        path = [];
        among = subst (IsIn []) (sym (paths_once k f at none)) (inl refl);
        is = e ∙ ap (λ (x : Key). Some x.cells) same;
      }
      once_of key (Some cells) e (inr h) = absurd h

      once_asked : is_asked m tree plan r k ≡ is_sent_now m tree plan r all k
      once_asked = asked_own Once w refl (sym (ap (λ (ps : List Path). not (is_none ps)) (paths_once k f at none)))

      once_reached : IsReached m tree plan r k f
      once_reached = own_reached Once w refl once_asked
          (λ path cells among e. once_path path cells e)
          (λ key among. once_of key (key_on f []) refl (subst (IsIn key) (once_keys_are []) among))
          (held_for_way Once w) [] (subst (AreAscending []) (sym (once_keys_are [])) (one_ascends (key_on f [])))

    -- for the rows of another fetch
    module _ (g : ℕ) (above : fetch_above plan.steps (out-FetchStep f).parent ≡ Some g) (hangs : HangsOn plan.steps f g) (over_g : FetchStep) (there : IsReached m tree plan r g over_g) where
      abbrev columns : List ℕ
      columns = (out-FetchStep f).parent_columns

      before_k : g < k
      before_k = above_earlier plan.steps earlier k f at g hangs

      paths_are : (stance_in standing k).paths ≡ paths_over m plan.steps standing (Some g)
      paths_are = paths_above k f at g above before_k

      key_above : (path : Path) → key_on f path ≡ key_from columns (row_on path g)
      key_above path = key_item m path plan.steps hangs.parent g f hangs.is_parent hangs.is_item

      key_for : (path : Path) (t : RowTree) → row_on path g ≡ Some (row_of t) → key_on f path ≡ Some (cells_at columns (row_of t).cells)
      key_for path t row = key_above path ∙ ap (key_from columns) row

      tree_for : (path : Path) (cells : List Cell) → IsIn path (stance_in standing k).paths → key_on f path ≡ Some cells → (t : RowTree) × IsIn t (held plan.steps all g) × (cells ≡ cells_at columns (row_of t).cells)
      tree_for path cells among e =
          let z = there.covers path (subst (IsIn path) paths_are among) in
          let both : Some cells ≡ Some (cells_at columns (row_of z.tree).cells) = sym e ∙ key_for path z.tree z.row in
          (z.tree, z.among, cc)

      path_for : (key : Key) (t : RowTree) → IsIn t (held plan.steps all g) → key.cells ≡ cells_at columns (row_of t).cells → IsKeyOn (key_on f) key (stance_in standing k).paths
      path_for key t among e =
          let z = there.reaches t among in
          record { path = z.path; among = subst (IsIn z.path) (sym paths_are) z.among; is = key_for z.path t z.row ∙ ap (λ x. Some x) (sym e) }

      -- by a statement of its own
      module _ (w : way_of plan.steps k ≡ Sent g) where
        pub own_keys_are : keys ≡ keys_for columns (held plan.steps all g)
        own_keys_are = keys_for_way (Sent g) w

        own_path : (path : Path) (cells : List Cell) → IsIn path (stance_in standing k).paths → key_on f path ≡ Some cells → IsIn (key_of cells) keys
        own_path path cells among e =
            let z = tree_for path cells among e in
            let same : tree_cells (ascending columns) z.0 ≡ cells = by_columns columns (row_of z.0).cells ∙ sym z.2 in
            subst (λ c. IsIn (key_of c) keys) same (subst (IsIn (key_of (tree_cells (ascending columns) z.0))) (sym own_keys_are) (key_there (ascending columns) z.0 (held plan.steps all g) z.1))

        own_key : (key : Key) → IsIn key keys → IsKeyOn (key_on f) key (stance_in standing k).paths
        own_key key among =
            let z = row_of_key (ascending columns) key (held plan.steps all g) (subst (IsIn key) own_keys_are among) in
            path_for key z.tree z.among (z.is ∙ by_columns columns (row_of z.tree).cells)

        own_due : is_due (Sent g) keys ≡ not (is_none (stance_in standing k).paths)
        own_due = ap not (none_empty keys (stance_in standing k).paths
            (λ key among. let z = own_key key among in (z.path, z.among))
            (λ path among.
            let z = there.covers path (subst (IsIn path) paths_are among) in
            let cells = cells_at columns (row_of z.tree).cells in
            (key_of cells, own_path path cells among (key_for path z.tree z.row))))

        own_asked : is_asked m tree plan r k ≡ is_sent_now m tree plan r all k
        own_asked = asked_own (Sent g) w refl own_due

        pub sent_reached : IsReached m tree plan r k f
        sent_reached = own_reached (Sent g) w refl own_asked own_path own_key (held_for_way (Sent g) w) (ascending columns)
            (subst (AreAscending (ascending columns)) (sym own_keys_are) (keys_ascend (ascending columns) (held plan.steps all g)))

      -- from its rows
      module _ (c : ℕ) (child : slice_get (out-FetchStep over_g).children c ≡ Some f) (w : way_of plan.steps k ≡ Read g c) where
        abbrev key_at_tree : RowTree → Key
        key_at_tree t = key_of (cells_at columns (row_of t).cells)

        below_all : (trees : List RowTree) → ((t : RowTree) → IsIn t trees → IsGrownBy m over_g t) → rows_below c trees ≡ all_rows (meaning_of m.tables (stmt_of m.base m.vars f) (map key_at_tree trees))
        below_all [] grown = refl
        below_all (t ∷ trees) grown =
            ap (λ o. rows_of o ++ rows_below c trees) (read_is m over_g f c t (grown t (inl refl)) child)
            ∙ ap (λ l. (out-Found (due m f (Some (cells_at columns (row_of t).cells)))).rows ++ l) (below_all trees (λ u h. grown u (inr h)))

        read_unsent : is_sent_now m tree plan r all k ≡ false
        read_unsent = sent_is ∙ ap (λ (v : Way). may_send m tree plan r k && is_due v keys) w ∙ and_false (may_send m tree plan r k)

        pub read_reached : IsReached m tree plan r k f
        read_reached =
            let not_sent : is_sent plan.steps k ≡ false = sym (own_sent plan.steps k) ∙ ap is_own w in
            reached_by (map key_at_tree (held plan.steps all g))
            (held_for_way (Read g c) w ∙ below_all (held plan.steps all g) there.grows)
            (over_read not_sent)
            (λ path cells among e. let z = tree_for path cells among e in subst (λ x. IsIn (key_of x) (map key_at_tree (held plan.steps all g))) (sym z.2) (in_map key_at_tree z.0 (held plan.steps all g) z.1))
            (λ key among. let z = in_mapped key_at_tree key (held plan.steps all g) among in path_for key z.from z.among (ap (λ (x : Key). x.cells) (sym z.is)))
            (none_found (fetched_there false read_unsent))

  module _ (items : (p g : ℕ) → slice_get plan.steps p ≡ Some (step.Item g) → (f : FetchStep) × (slice_get plan.steps g ≡ Some (step.Fetch f))) where
    pub child_of_fetch : (g : ℕ) (over_g f : FetchStep) (c : ℕ) → slice_get plan.steps g ≡ Some (step.Fetch over_g) → slice_get (children_of (fetch_at plan.steps g)) c ≡ Some f → slice_get (out-FetchStep over_g).children c ≡ Some f
    child_of_fetch g over_g f c at there = sym (ap (λ o. slice_get (children_of (fetch_in o)) c) at) ∙ there

    reached_below : (n k : ℕ) (f : FetchStep) → k < n → slice_get plan.steps k ≡ Some (step.Fetch f) → IsReached m tree plan r k f
    reached_below zero k f lt at = absurd (omega (arith, lt))
    reached_below (suc n) k f lt at = by_way (way_of plan.steps k) refl (way_is plan.steps k f at) (λ g h less there. reached_below n g h (omega (arith, less, lt)) there) where
      by_way : (way : Way) → way_of plan.steps k ≡ way → WayOf plan.steps f way → ((g : ℕ) (h : FetchStep) → g < k → slice_get plan.steps g ≡ Some (step.Fetch h) → IsReached m tree plan r g h) → IsReached m tree plan r k f
      by_way _ w (is_once none) under = once_reached k f at none w
      by_way _ w (is_own_of g above hangs) under =
          let of = items hangs.parent g hangs.is_item in
          sent_reached k f at g above hangs of.0 (under g of.0 (above_earlier plan.steps earlier k f at g hangs) of.1) w
      by_way _ w (is_read_of g c above hangs there) under =
          let of = items hangs.parent g hangs.is_item in
          read_reached k f at g above hangs of.0 (under g of.0 (above_earlier plan.steps earlier k f at g hangs) of.1) c (child_of_fetch g of.0 f c of.1 there) w

    pub reached : (k : ℕ) (f : FetchStep) → slice_get plan.steps k ≡ Some (step.Fetch f) → IsReached m tree plan r k f
    reached k f at = reached_below (length plan.steps) k f (slice_get_within plan.steps k (step.Fetch f) at) at

    -- ---- the asked steps

    asked_fetch : (k : ℕ) (f : FetchStep) → slice_get plan.steps k ≡ Some (step.Fetch f) → is_asked m tree plan r k ≡ is_sent_now m tree plan r all k
    asked_fetch k f at = by_way (way_of plan.steps k) refl (way_is plan.steps k f at) where
      by_way : (way : Way) → way_of plan.steps k ≡ way → WayOf plan.steps f way → is_asked m tree plan r k ≡ is_sent_now m tree plan r all k
      by_way _ w (is_once none) = once_asked k f at none w
      by_way _ w (is_own_of g above hangs) =
          let of = items hangs.parent g hangs.is_item in
          own_asked k f at g above hangs of.0 (reached g of.0 of.1) w
      by_way _ w (is_read_of g c above hangs there) =
          let not_sent : is_sent plan.steps k ≡ false = sym (own_sent plan.steps k) ∙ ap is_own w in
          asked_is k (slice_get_within plan.steps k (step.Fetch f) at)
          ∙ ap (λ b. (b && is_used tree plan r k) && (not (is_none (stance_in standing k).paths) && may_ask m tree r plan.out k)) not_sent
          ∙ sym (ap (λ (v : Way). may_send m tree plan r k && is_due v (keys_at m plan.steps all k (fetch_at plan.steps k))) w ∙ and_false (may_send m tree plan r k))

    asked_other : (k : ℕ) (o : Option Step) → slice_get plan.steps k ≡ o → fetch_in o ≡ None → k < length plan.steps → is_asked m tree plan r k ≡ is_sent_now m tree plan r all k
    asked_other k o at none lt =
        let w : way_of plan.steps k ≡ Other = ap (λ x. way_in plan.steps (fetch_in x)) at ∙ ap (way_in plan.steps) none in
        let not_sent : is_sent plan.steps k ≡ false = sym (own_sent plan.steps k) ∙ ap is_own w in
        asked_is k lt
        ∙ ap (λ b. (b && is_used tree plan r k) && (not (is_none (stance_in standing k).paths) && may_ask m tree r plan.out k)) not_sent
        ∙ sym (ap (λ (v : Way). may_send m tree plan r k && is_due v (keys_at m plan.steps all k (fetch_at plan.steps k))) w ∙ and_false (may_send m tree plan r k))

    pub asked_same : (k : ℕ) → k < length plan.steps → is_asked m tree plan r k ≡ is_sent_now m tree plan r (fetched_all m tree plan r) k
    asked_same k lt = by (slice_get plan.steps k) refl where
      by : (o : Option Step) → slice_get plan.steps k ≡ o → is_asked m tree plan r k ≡ is_sent_now m tree plan r all k
      by (Some (step.Fetch f)) at = asked_fetch k f at
      by None at = asked_other k None at refl lt
      by (Some (step.Const v)) at = asked_other k (Some (step.Const v)) at refl lt
      by (Some (step.Var v)) at = asked_other k (Some (step.Var v)) at refl lt
      by (Some step.Given) at = asked_other k (Some step.Given) at refl lt
      by (Some (step.Item s)) at = asked_other k (Some (step.Item s)) at refl lt
      by (Some (step.Column i c)) at = asked_other k (Some (step.Column i c)) at refl lt
      by (Some (step.Count s)) at = asked_other k (Some (step.Count s)) at refl lt
      by (Some (step.Page s c)) at = asked_other k (Some (step.Page s c)) at refl lt
      by (Some (step.CursorOf i)) at = asked_other k (Some (step.CursorOf i)) at refl lt
