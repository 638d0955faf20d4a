-- Layers of an inlined plan stand where they stood, and what is sent is asked as it was.
use Rattle.std.proofs.Common.{◌≡◌, ℕ, zero, suc, ◌+◌, ◌<◌, ◌≤◌, List, [], ◌∷◌, ◌++◌, map, take, Option, Some, None, Bool, true, false, cond, refl, sym, ap, ◌∙◌, subst, arith, inl, inr, ◌⊎◌, zero-add, length-take}
use Rattle.std.proofs.lemmas.Option.{slice_get_past}
use Rattle.std.specs.Prelude.{slice_get, ◌&&◌, not, is_some, unwrap_or}
use Rattle.rel_model.specs.declared.tables.Row.{Row}
use Rattle.rel_model.specs.Interval.{interval_of}
use Rattle.rel_model.specs.Ordered.{ordered}
use Rattle.rel_model.specs.Picked.{picked}
use Rattle.pg_base.specs.declared.cell.Cell.{Cell}
use Rattle.place_tree.specs.declared.place.Tree.{Tree}
use Rattle.stmt_tree.specs.Meaning.{part_of}
use Rattle.plan_constraints.specs.declared.constraint.Constraint.{Constraint}
use Rattle.plan_steps.specs.declared.plan.FetchStep.{FetchStep, out-FetchStep}
use Rattle.plan_steps.specs.declared.plan.Plan.{Plan}
use Rattle.plan_steps.specs.declared.plan.Root.{Root}
use Rattle.plan_steps.specs.declared.plan.Step.{Step}
use Rattle.plan_steps.specs.declared.plan.Step.TheVariants as step
use Rattle.plan_steps.specs.Denoted.{onto}
use Rattle.plan_steps.specs.Fetches.{StandsWith, TellsWindows}
use Rattle.plan_steps.specs.Named.{fetch_in, fetch_at, is_fetch, over}
use Rattle.plan_steps.specs.Sent.{is_sent, is_sent_for, may_ask, is_none, extended, rows_at, Stance, nowhere, stance_in, paths_over, stance_next, places_from, stances}
use Rattle.plan_steps.specs.Under.{is_used}
use Rattle.plan_steps.specs.Values.{Moment, Path, listing_in, listing_for, val_at, key_at, all_vals}
use Rattle.plan_steps.proofs.Asked.{asked_is, fetch_sent, field_live}
use Rattle.plan_steps.proofs.Bools.{and_not}
use Rattle.plan_steps.proofs.Checked.{item_checked, fetch_from}
use Rattle.plan_steps.proofs.Listings.{top_of, listing_is}
use Rattle.plan_steps.proofs.Running.{Running, before, parent_before}
use Rattle.plan_steps.proofs.Served.{step_listing}
use Rattle.plan_steps.proofs.Totals.{places_at, places_past}
use Rattle.plan_steps.proofs.Vals.{built_here, built_past, get_take}
use Rattle.inline_select.specs.Inlined.{step_with, target, target_at, moved_to, inlined}
use Rattle.inline_select.proofs.Above.{IsUsed, used_below}
use Rattle.inline_select.proofs.Bare.{bare_step, bare_plan, vals_bare, is_used_bare}
use Rattle.inline_select.proofs.Fixed.{made_at, bare_is}
use Rattle.inline_select.proofs.Moved.{Moves, target_tells}
use Rattle.inline_select.proofs.ReadFetches as reads

-- ---- numbers

below_all : (P : ℕ → Type 0) → ((k : ℕ) → ((j : ℕ) → j < k → P j) → P k) → (n k : ℕ) → k < n → P k
below_all P h zero k lt = absurd (omega (arith, lt))
below_all P h (suc n) k lt = h k (λ j l. below_all P h n j (omega (arith, l, lt)))

-- what holds of a number where it holds of all below holds of all
pub for_all : (P : ℕ → Type 0) → ((k : ℕ) → ((j : ℕ) → j < k → P j) → P k) → (k : ℕ) → P k
for_all P h k = below_all P h (suc k) k (omega arith)

split_lt : (j k : ℕ) → (j < k) ⊎ (k ≤ j)
split_lt zero zero = inr (omega arith)
split_lt zero (suc k) = inl (omega arith)
split_lt (suc j) zero = inr (omega arith)
split_lt (suc j) (suc k) = elim (split_lt j k) [ inl l ↦ inl (omega (arith, l)) | inr l ↦ inr (omega (arith, l)) ]

places_map : {A B : Type 0} (f : A → B) (n : ℕ) (xs : List A) → places_from n (map f xs) ≡ places_from n xs
places_map f n [] = refl
places_map f n (x ∷ xs) = ap (λ l. n ∷ l) (places_map f (n + 1) xs)

-- ---- stances

-- each stance, from those before it
pub stance_is : (m : Moment) (tree : Tree) (p : Plan) (r : Root) (k : ℕ) (s : Step) → slice_get p.steps k ≡ Some s → stance_in (stances m tree p r) k ≡ stance_next m tree p r (take k (stances m tree p r)) k
stance_is m tree p r k s h = ap (λ o. unwrap_or o nowhere) (built_here (stance_next m tree p r) (places_from 0 p.steps) k k (places_at 0 p.steps k s h ∙ ap (λ n. Some n) (zero-add k)))

stance_past : (m : Moment) (tree : Tree) (p : Plan) (r : Root) (k : ℕ) → slice_get p.steps k ≡ None → stance_in (stances m tree p r) k ≡ nowhere
stance_past m tree p r k h = ap (λ o. unwrap_or o nowhere) (built_past (stance_next m tree p r) (places_from 0 p.steps) [] k (places_past 0 p.steps k h) k (omega arith))

-- a stance among those before a step
stance_before : (ss : List Stance) (k j : ℕ) → (j < k) × (stance_in (take k ss) j ≡ stance_in ss j) ⊎ (k ≤ j) × (stance_in (take k ss) j ≡ nowhere)
stance_before ss k j = elim (split_lt j k) [
  | inl lt ↦ inl (lt, ap (λ o. unwrap_or o nowhere) (get_take ss k j lt))
  | inr le ↦ inr (le, ap (λ o. unwrap_or o nowhere) (slice_get_past (take k ss) j (let e = length-take k ss in omega (arith, e, le))))
]

-- no rows, no paths further
extended_none : (f : Path → List Row) → ((p : Path) → f p ≡ []) → (s : ℕ) (paths : List Path) → extended f s paths ≡ []
extended_none f h s [] = refl
extended_none f h s (p ∷ paths) = ap (λ rows. map (onto s p) rows ++ extended f s paths) (h p) ∙ extended_none f h s paths

-- a layer over a fetch that moves stands as over one that is asked
over_same : (fetch moves asked : Bool) (l : List Path) → (moves ≡ true → asked ≡ false → l ≡ []) →
    cond ((fetch && not moves) && not (asked && not moves)) [] l ≡ cond (fetch && not asked) [] l
over_same false moves asked l h = refl
over_same true false true l h = refl
over_same true false false l h = refl
over_same true true true l h = refl
over_same true true false l h = h refl refl

asked_same : (fetch moves used rest : Bool) → (((fetch && not moves) && used) && rest) ≡ (((fetch && used) && rest) && not moves)
asked_same false moves used rest = refl
asked_same true true used rest = sym (and_not (used && rest))
asked_same true false used rest = sym (and_true (used && rest)) where
  and_true : (b : Bool) → (b && true) ≡ b
  and_true true = refl
  and_true false = refl

module _ (m : Moment) (plan : Plan) (tree : Tree) (r : Root) (constraints : List Constraint) (run : Running m plan tree r constraints) (tells : TellsWindows m.base tree constraints plan) where
  abbrev pub made : List Step
  made = (inlined plan).steps

  abbrev pub moves : ℕ → Bool
  moves k = is_some (target_at plan.steps (fetch_at plan.steps k))

  abbrev pub S : List Stance
  S = stances m tree plan r

  abbrev pub S' : List Stance
  S' = stances m tree (inlined plan) r

  abbrev pub paths : ℕ → List Path
  paths k = (stance_in S k).paths

  abbrev pub asked : ℕ → Bool
  asked k = (stance_in S k).asked

  pub steps_made : map bare_step made ≡ plan.steps
  steps_made = reads.steps_made m.base plan tree run.checked run.are.flat

  pub vals_made : all_vals m made ≡ all_vals m plan.steps
  vals_made = sym (vals_bare m made) ∙ ap (all_vals m) steps_made

  pub rows_made : rows_at m made ≡ rows_at m plan.steps
  rows_made = ap (λ vals. λ s path. (listing_in (val_at (vals path) s)).rows) vals_made

  pub places_made : places_from 0 made ≡ places_from 0 plan.steps
  places_made = sym (places_map bare_step 0 made) ∙ ap (places_from 0) steps_made

  used_made : (k : ℕ) → is_used tree (inlined plan) r k ≡ is_used tree plan r k
  used_made k = sym (is_used_bare tree (inlined plan) r k) ∙ ap (λ p. is_used tree p r k) (bare_is plan run.are.flat)

  sent_made : (k : ℕ) → is_sent made k ≡ (is_fetch plan.steps k && not (moves k))
  sent_made = reads.sent_made m.base plan tree run.checked run.are.flat

  sent_all : (k : ℕ) → is_sent plan.steps k ≡ is_fetch plan.steps k
  sent_all k = by_fetch (is_fetch plan.steps k) refl where
    by_fetch : (b : Bool) → is_fetch plan.steps k ≡ b → is_sent plan.steps k ≡ b
    by_fetch true e = let z = fetch_from plan.steps k e in fetch_sent m plan tree r constraints run k z.0 z.1
    by_fetch false e = ap (λ b. b && not (Rattle.plan_steps.specs.Sent.is_read plan.steps k)) e

  -- ---- a fetch that moves finds nothing where it isn't asked

  -- a fetch that moves, and the one to which it moves
  pub record IsMoved (g : ℕ) : Type 0 where
    pub fetch : FetchStep
    pub is_fetch : slice_get plan.steps g ≡ Some (step.Fetch fetch)
    pub to : ℕ
    pub moved : Moves plan.steps fetch to
    pub above : FetchStep
    pub is_above : slice_get plan.steps to ≡ Some (step.Fetch above)
    pub stands : over plan.layers g ≡ Some to
    pub earlier : to < g

  pub moved_at : (g : ℕ) (f : FetchStep) → slice_get plan.steps g ≡ Some (step.Fetch f) → (to : ℕ) → target plan.steps f ≡ Some to → (is : IsMoved g) × (is.to ≡ to)
  moved_at g f at to e =
      let mv = target_tells plan.steps f to e in
      let z = item_checked m.base tree plan run.checked mv.item to mv.is_item in
      let a = parent_before m plan tree r constraints run g mv.item f at mv.parent in
      let b = before m plan tree r constraints run mv.item (step.Item to) mv.is_item in (
        record {
          fetch = f;
          is_fetch = at;
          to = to;
          moved = mv;
          above = z.1;
          is_above = z.2;
          stands = subst (StandsWith plan.layers g) mv.parent (run.are.stands g f at) ∙ z.0;
          earlier = omega (arith, a, b);
        },
        refl,
      )

  pub moves_is : (g : ℕ) → moves g ≡ true → IsMoved g
  moves_is g e = by_step (slice_get plan.steps g) refl e where
    by_target : (f : FetchStep) → slice_get plan.steps g ≡ Some (step.Fetch f) → (o : Option ℕ) → target plan.steps f ≡ o → is_some o ≡ true → IsMoved g
    by_target f at None t h = cc
    by_target f at (Some to) t h = (moved_at g f at to t).0

    by_step : (o : Option Step) → slice_get plan.steps g ≡ o → is_some (target_at plan.steps (fetch_in o)) ≡ true → IsMoved g
    by_step (Some (step.Fetch f)) at h = by_target f at (target plan.steps f) refl h
    by_step None at h = cc
    by_step (Some (step.Const v)) at h = cc
    by_step (Some (step.Var path)) at h = cc
    by_step (Some step.Given) at h = cc
    by_step (Some (step.Item i)) at h = cc
    by_step (Some (step.Column i c)) at h = cc
    by_step (Some (step.Count i)) at h = cc
    by_step (Some (step.Page i part)) at h = cc
    by_step (Some (step.CursorOf i)) at h = cc

  over_paths : (k : ℕ) (s : Step) → slice_get plan.steps k ≡ Some s → (o : Option ℕ) → over plan.layers k ≡ o → paths k ≡ paths_over m plan.steps (take k S) o
  over_paths k s at o e = ap (λ w. w.paths) (stance_is m tree plan r k s at) ∙ ap (paths_over m plan.steps (take k S)) e

  -- the paths of a fetch that moves
  pub moved_paths : (g : ℕ) (is : IsMoved g) → paths g ≡ cond (not (asked is.to)) [] (extended (rows_at m plan.steps is.to) is.to (paths is.to))
  moved_paths g is =
      over_paths g (step.Fetch is.fetch) is.is_fetch (Some is.to) is.stands
      ∙ ap (λ w. cond (is_sent plan.steps is.to && not w.asked) [] (extended (rows_at m plan.steps is.to) is.to w.paths)) (ap (λ o. unwrap_or o nowhere) (get_take S g is.to is.earlier))
      ∙ ap (λ b. cond (b && not (asked is.to)) [] (extended (rows_at m plan.steps is.to) is.to (paths is.to))) (fetch_sent m plan tree r constraints run is.to is.above is.is_above)

  not_asked : (g : ℕ) (s : Step) → slice_get plan.steps g ≡ Some s → is_sent_for tree plan r g ≡ true → may_ask m tree r plan.out g ≡ true → asked g ≡ false → paths g ≡ []
  not_asked g s at sent may e =
      let is = stance_is m tree plan r g s at in
      ap (λ w. w.paths) is ∙ by_none (is_sent_for tree plan r g) (paths_over m plan.steps (take g S) (over plan.layers g)) (may_ask m tree r plan.out g) sent may (sym (ap (λ w. w.asked) is) ∙ e)
    where
      by_none : (a : Bool) (l : List Path) (c : Bool) → a ≡ true → c ≡ true → (a && (not (is_none l) && c)) ≡ false → l ≡ []
      by_none true [] c h k e = refl
      by_none true (x ∷ l) true h k e = cc
      by_none true (x ∷ l) false h k e = cc
      by_none false l c h k e = cc

  -- it stands nowhere, or asks for no rows
  pub quiet : (g : ℕ) (is : IsMoved g) → asked g ≡ false → (paths g ≡ []) ⊎ ((out-FetchStep is.fetch).rows ≡ false)
  quiet g is off = by_above (asked is.to) refl where
    by_field : IsUsed m plan tree r constraints run g → (paths g ≡ []) ⊎ ((out-FetchStep is.fetch).rows ≡ false)
    by_field own =
        let told = tells m.vars run.fit run.hold g own.place is.moved.item is.fetch own.field is.is_fetch is.moved.parent in
        elim (told.1 is.moved.whole) [
          | inl fine ↦
              let live = field_live m plan tree r constraints run g own.place is.fetch is.is_fetch own.field own.is_here fine in
              inl (not_asked g (step.Fetch is.fetch) is.is_fetch live.0 live.1 off)
          | inr none ↦ inr none
        ]

    by_above : (b : Bool) → asked is.to ≡ b → (paths g ≡ []) ⊎ ((out-FetchStep is.fetch).rows ≡ false)
    by_above false e = inl (moved_paths g is ∙ ap (λ b. cond (not b) [] (extended (rows_at m plan.steps is.to) is.to (paths is.to))) e)
    by_above true e =
        let used = (asked_is m plan tree r constraints run is.to e).used in
        by_field (used_below m plan tree r constraints run is.to is.above is.is_above used g is.moved.item is.fetch is.is_fetch is.moved.parent is.moved.is_item)

  -- a fetch that asks for no rows finds none
  pub no_rows : (f : FetchStep) → (out-FetchStep f).rows ≡ false → (key : Option (List Cell)) → (listing_for m f key).rows ≡ []
  no_rows f off None = refl
  no_rows f off (Some key) =
      let top = top_of m.base m.vars (out-FetchStep f) in
      let list = ordered (out-FetchStep f).order (picked m.tables (out-FetchStep f).table (out-FetchStep f).by key top.condition) in
      ap (λ l. l.rows) (listing_is m.base m.tables m.vars f key)
      ∙ ap (λ b. part_of b (interval_of (out-FetchStep f).order top.window list) list) off

  pub no_rows_at : (g : ℕ) (f : FetchStep) → slice_get plan.steps g ≡ Some (step.Fetch f) → (out-FetchStep f).rows ≡ false → (path : Path) → rows_at m plan.steps g path ≡ []
  no_rows_at g f at off path =
      ap (λ l. l.rows) (step_listing m plan tree (before m plan tree r constraints run) path g f at)
      ∙ no_rows f off (key_at m f (all_vals m plan.steps path))

  still : (g : ℕ) → moves g ≡ true → asked g ≡ false → extended (rows_at m plan.steps g) g (paths g) ≡ []
  still g on off =
      let is = moves_is g on in
      elim (quiet g is off) [
        | inl none ↦ ap (extended (rows_at m plan.steps g) g) none
        | inr rows ↦ extended_none (rows_at m plan.steps g) (no_rows_at g is.fetch is.is_fetch rows) g (paths g)
      ]

  -- where a fetch is asked, or moves, what moves to it stands over all its rows
  pub paths_below : (j : ℕ) (is : IsMoved j) → (asked is.to ≡ true) ⊎ (moves is.to ≡ true) → paths j ≡ extended (rows_at m plan.steps is.to) is.to (paths is.to)
  paths_below j is live = moved_paths j is ∙ by_asked (asked is.to) refl where
    none : asked is.to ≡ false → (asked is.to ≡ true) ⊎ (moves is.to ≡ true) → extended (rows_at m plan.steps is.to) is.to (paths is.to) ≡ []
    none off (inl on) = let z = sym off ∙ on in cc
    none off (inr moved) = still is.to moved off

    by_asked : (b : Bool) → asked is.to ≡ b → cond (not (asked is.to)) [] (extended (rows_at m plan.steps is.to) is.to (paths is.to)) ≡ extended (rows_at m plan.steps is.to) is.to (paths is.to)
    by_asked true e = ap (λ b. cond (not b) [] (extended (rows_at m plan.steps is.to) is.to (paths is.to))) e
    by_asked false e = ap (λ b. cond (not b) [] (extended (rows_at m plan.steps is.to) is.to (paths is.to))) e ∙ sym (none e live)

  -- ---- the stances of the inlined plan

  abbrev pub Close : ℕ → Type 0
  Close k = ((stance_in S' k).paths ≡ paths k) × ((stance_in S' k).asked ≡ (asked k && not (moves k)))

  over_close : (g : ℕ) (W' W : Stance) → W'.paths ≡ W.paths → W'.asked ≡ (W.asked && not (moves g)) → (moves g ≡ true → W.asked ≡ false → extended (rows_at m plan.steps g) g W.paths ≡ []) →
      cond (is_sent made g && not W'.asked) [] (extended (rows_at m made g) g W'.paths) ≡ cond (is_sent plan.steps g && not W.asked) [] (extended (rows_at m plan.steps g) g W.paths)
  over_close g W' W ps asks h =
      ap (λ rows. cond (is_sent made g && not W'.asked) [] (extended (rows g) g W'.paths)) rows_made
      ∙ ap (λ l. cond (is_sent made g && not W'.asked) [] (extended (rows_at m plan.steps g) g l)) ps
      ∙ ap (λ b. cond (b && not W'.asked) [] (extended (rows_at m plan.steps g) g W.paths)) (sent_made g)
      ∙ ap (λ b. cond ((is_fetch plan.steps g && not (moves g)) && not b) [] (extended (rows_at m plan.steps g) g W.paths)) asks
      ∙ over_same (is_fetch plan.steps g) (moves g) W.asked (extended (rows_at m plan.steps g) g W.paths) h
      ∙ ap (λ b. cond (b && not W.asked) [] (extended (rows_at m plan.steps g) g W.paths)) (sym (sent_all g))

  nowhere_asked : (b : Bool) → false ≡ (false && b)
  nowhere_asked b = refl

  paths_close : (k : ℕ) → ((j : ℕ) → j < k → Close j) → (o : Option ℕ) → paths_over m made (take k S') o ≡ paths_over m plan.steps (take k S) o
  paths_close k earlier None = refl
  paths_close k earlier (Some g) =
      elim (stance_before S' k g) [
        | inl h' ↦ elim (stance_before S k g) [
          | inl h ↦
              let c = earlier g h.0 in
              over_close g (stance_in (take k S') g) (stance_in (take k S) g)
              (ap (λ w. w.paths) h'.1 ∙ c.0 ∙ sym (ap (λ w. w.paths) h.1))
              (ap (λ w. w.asked) h'.1 ∙ c.1 ∙ ap (λ w. w.asked && not (moves g)) (sym h.1))
              (λ on off. ap (λ w. extended (rows_at m plan.steps g) g w.paths) h.1 ∙ still g on (sym (ap (λ w. w.asked) h.1) ∙ off))
          | inr h ↦ let a = h'.0 in let b = h.0 in absurd (omega (arith, a, b))
        ]
        | inr h' ↦ elim (stance_before S k g) [
          | inl h ↦ let a = h'.0 in let b = h.0 in absurd (omega (arith, a, b))
          | inr h ↦
              over_close g (stance_in (take k S') g) (stance_in (take k S) g)
              (ap (λ w. w.paths) h'.1 ∙ sym (ap (λ w. w.paths) h.1))
              (ap (λ w. w.asked) h'.1 ∙ nowhere_asked (not (moves g)) ∙ ap (λ w. w.asked && not (moves g)) (sym h.1))
              (λ on off. ap (λ w. extended (rows_at m plan.steps g) g w.paths) h.1)
        ]
      ]

  close_step : (k : ℕ) (s : Step) → slice_get plan.steps k ≡ Some s → ((j : ℕ) → j < k → Close j) → Close k
  close_step k s at earlier =
      let is' = stance_is m tree (inlined plan) r k (step_with (moved_to plan.steps k made) s) (made_at m.base plan tree run.checked k s at) in
      let is = stance_is m tree plan r k s at in
      let P' = paths_over m made (take k S') (over plan.layers k) in
      let P = paths_over m plan.steps (take k S) (over plan.layers k) in
      let same = paths_close k earlier (over plan.layers k) in
      let may = may_ask m tree r plan.out k in (
        ap (λ w. w.paths) is' ∙ same ∙ sym (ap (λ w. w.paths) is),
        ap (λ w. w.asked) is'
            ∙ ap (λ b. (b && is_used tree (inlined plan) r k) && (not (is_none P') && may)) (sent_made k)
            ∙ ap (λ b. ((is_fetch plan.steps k && not (moves k)) && b) && (not (is_none P') && may)) (used_made k)
            ∙ ap (λ l. ((is_fetch plan.steps k && not (moves k)) && is_used tree plan r k) && (not (is_none l) && may)) same
            ∙ asked_same (is_fetch plan.steps k) (moves k) (is_used tree plan r k) (not (is_none P) && may)
            ∙ ap (λ b. ((b && is_used tree plan r k) && (not (is_none P) && may)) && not (moves k)) (sym (sent_all k))
            ∙ ap (λ w. w.asked && not (moves k)) (sym is),
      )

  close_by : (k : ℕ) → ((j : ℕ) → j < k → Close j) → (o : Option Step) → slice_get plan.steps k ≡ o → Close k
  close_by k earlier (Some s) at = close_step k s at earlier
  close_by k earlier None at =
      let past = stance_past m tree (inlined plan) r k (made_past k at) in
      let before_ = stance_past m tree plan r k at in
      (ap (λ w. w.paths) past ∙ sym (ap (λ w. w.paths) before_), ap (λ w. w.asked) past ∙ nowhere_asked (not (moves k)) ∙ ap (λ w. w.asked && not (moves k)) (sym before_))
    where
      made_past : (k : ℕ) → slice_get plan.steps k ≡ None → slice_get made k ≡ None
      made_past k at = none_of (slice_get made k) (sym (Rattle.inline_select.proofs.Bare.get_map bare_step made k) ∙ ap (λ l. slice_get l k) steps_made ∙ at) where
        none_of : (o : Option Step) → Rattle.std.specs.Prelude.option_map bare_step o ≡ None → o ≡ None
        none_of None e = refl
        none_of (Some s) e = cc

  -- the law: layers stand where they stood, and what doesn't move is asked as it was
  pub close : (k : ℕ) → Close k
  close = for_all Close (λ k earlier. close_by k earlier (slice_get plan.steps k) refl)
