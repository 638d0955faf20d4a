-- Which fetches are asked, and where their layers stand.
use Rattle.std.proofs.Common.{◌≡◌, ℕ, ◌+◌, ◌<◌, List, [], ◌∷◌, take, Option, Some, None, Bool, true, false, cond, refl, sym, ap, ◌∙◌, subst, arith, eqb-true, eq-eqb, zero-add}
use Rattle.std.proofs.lemmas.Option.{slice_get_within}
use Rattle.std.specs.Prelude.{slice_get, ◌==◌, ◌&&◌, ◌||◌, not, is_some, unwrap_or, ⊤}
use Rattle.std.specs.Cmp.{first_so, second_so}
use Rattle.std.specs.List.{list_any}
use Rattle.place_tree.specs.declared.place.Place.{Place}
use Rattle.place_tree.specs.declared.place.Tree.{Tree}
use Rattle.place_tree.specs.Fetch.{fetch_of, argument_error}
use Rattle.place_tree.specs.Fields.{does_of, is_row_field}
use Rattle.plan_constraints.specs.declared.constraint.Constraint.{Constraint}
use Rattle.plan_steps.specs.declared.plan.FetchStep.{FetchStep, out-FetchStep}
use Rattle.plan_steps.specs.declared.plan.OutPlace.{OutPlace}
use Rattle.plan_steps.specs.declared.plan.Plan.{Plan}
use Rattle.plan_steps.specs.declared.plan.Root.{Root}
use Rattle.plan_steps.specs.declared.plan.Step.{Step}
use Rattle.plan_steps.specs.declared.plan.Step.TheVariants as step
use Rattle.plan_steps.specs.Fetches.{IsFieldOf, HangsOn, StandsWith}
use Rattle.plan_steps.specs.Named.{fetch_in, item_at, is_fetch, over, step_for}
use Rattle.plan_steps.specs.Same.{same_fetch}
use Rattle.plan_steps.specs.Sent.{children_of, children_at, children_above, is_read_by, is_read, is_sent, is_sent_for, serves, has_no_error, serves_some, serves_well, may_ask, is_none, extended, rows_at, Stance, nowhere, stance_in, paths_over, stance_next, places_from, stances}
use Rattle.plan_steps.specs.Sent as sent
use Rattle.plan_steps.specs.Serves.{Basis, OnNothing, OnRow, OnList, OnPage, OnEdge, OnPayload, OnGiven}
use Rattle.plan_steps.specs.Under.{is_under, is_used}
use Rattle.plan_steps.specs.Values.{Moment, Path}
use Rattle.plan_steps.proofs.Bools.{or_right, and_both, and_not, not_false}
use Rattle.plan_steps.proofs.Checked.{any_some, any_out, fetch_from, item_checked, entry_checked}
use Rattle.plan_steps.proofs.Due.{no_fetch}
use Rattle.plan_steps.proofs.Running.{Running, before, parent_before}
use Rattle.plan_steps.proofs.Totals.{places_at, places_past}
use Rattle.plan_steps.proofs.Unders.{used_shown}
use Rattle.plan_steps.proofs.Vals.{built_here, built_past, get_take}

either_way : (b : Bool) (l : List Path) → l ≡ [] → cond b [] l ≡ l
either_way true l e = sym e
either_way false l e = refl

no_error : (o : Option (List ℕ)) → is_some o ≡ false → o ≡ None
no_error None h = refl
no_error (Some message) h = cc

module _ (m : Moment) (plan : Plan) (tree : Tree) (r : Root) (constraints : List Constraint) (run : Running m plan tree r constraints) where
  abbrev pub all : List Stance
  all = stances m tree plan r

  abbrev pub asked : ℕ → Bool
  asked k = (stance_in all k).asked

  abbrev pub paths : ℕ → List Path
  paths k = (stance_in all k).paths

  stance_is : (k : ℕ) (s : Step) → slice_get plan.steps k ≡ Some s → stance_in all k ≡ stance_next m tree plan r (take k all) k
  stance_is k s h = ap (λ o. unwrap_or o nowhere) (built_here (stance_next m tree plan r) (places_from 0 plan.steps) k k (places_at 0 plan.steps k s h ∙ ap (λ n. Some n) (zero-add k)))

  -- ---- each fetch is sent

  no_children : (o : Option Step) (g : ℕ) → slice_get plan.steps g ≡ o → children_of (fetch_in o) ≡ []
  no_children (Some (step.Fetch f)) g e = run.are.flat g f e
  no_children _ g e = refl

  none_at : (o : Option ℕ) → children_at plan.steps o ≡ []
  none_at None = refl
  none_at (Some g) = no_children (slice_get plan.steps g) g refl

  none_above : (o : Option ℕ) → children_above plan.steps o ≡ []
  none_above None = refl
  none_above (Some p) = none_at (item_at plan.steps p)

  pub fetch_sent : (k : ℕ) (f : FetchStep) → slice_get plan.steps k ≡ Some (step.Fetch f) → is_sent plan.steps k ≡ true
  fetch_sent k f at =
      ap (λ o. is_some (fetch_in o) && not (is_read_by plan.steps (fetch_in o))) at
      ∙ ap (λ l. not (list_any (same_fetch f) l)) (none_above (out-FetchStep f).parent)

  -- ---- what an asked step is

  pub record IsAsked (k : ℕ) : Type 0 where
    pub fetch : FetchStep
    pub is_step : slice_get plan.steps k ≡ Some (step.Fetch fetch)
    pub used : is_used tree plan r k ≡ true
    pub somewhere : is_none (paths k) ≡ false
    pub may : may_ask m tree r plan.out k ≡ true

  pub asked_is : (k : ℕ) → asked k ≡ true → IsAsked k
  asked_is k e = by_step (slice_get plan.steps k) refl where
    by_step : (o : Option Step) → slice_get plan.steps k ≡ o → IsAsked k
    by_step None at =
        let none = ap (λ o. (unwrap_or o nowhere).asked) (built_past (stance_next m tree plan r) (places_from 0 plan.steps) [] k (places_past 0 plan.steps k at) k (let z : k ≡ 0 + k = omega arith in z)) in
        let z = sym e ∙ none in cc
    by_step (Some s) at =
        let is = stance_is k s at in
        let parts = sym (ap (λ w. w.asked) is) ∙ e in
        let sent_used = first_so (is_sent_for tree plan r k) _ parts in
        let rest = second_so (is_sent_for tree plan r k) _ parts in
        let f = fetch_from plan.steps k (first_so (is_fetch plan.steps k) _ (first_so (is_sent plan.steps k) _ sent_used)) in
        record {
          fetch = f.0;
          is_step = f.1;
          used = second_so (is_sent plan.steps k) _ sent_used;
          somewhere = ap (λ w. is_none w.paths) is ∙ not_false _ (first_so _ _ rest);
          may = second_so _ (may_ask m tree r plan.out k) rest;
        }

  -- a fetch that is asked wherever its layer stands
  abbrev pub Live : ℕ → Type 0
  Live k = (is_sent_for tree plan r k ≡ true) × (may_ask m tree r plan.out k ≡ true)

  live_none : (k : ℕ) (s : Step) → slice_get plan.steps k ≡ Some s → Live k → asked k ≡ false → paths k ≡ []
  live_none k s at live e =
      let is = stance_is k s at in
      ap (λ w. w.paths) is ∙ by_none (is_sent_for tree plan r k) (paths_over m plan.steps (take k all) (over plan.layers k)) (may_ask m tree r plan.out k) live.0 live.1 (sym (ap (λ w. w.asked) is) ∙ e)
    where
      by_none : (a : Bool) (l : List Path) (c : Bool) → a ≡ true → c ≡ true → (a && (not (is_none l) && c)) ≡ false → l ≡ []
      by_none true [] c h k e = refl
      by_none true (x ∷ l) true h k e = cc
      by_none true (x ∷ l) false h k e = cc
      by_none false l c h k e = cc

  -- ---- where layers stand

  over_paths : (k : ℕ) (s : Step) → slice_get plan.steps k ≡ Some s → (o : Option ℕ) → over plan.layers k ≡ o → paths k ≡ paths_over m plan.steps (take k all) o
  over_paths k s at o e = ap (λ w. w.paths) (stance_is k s at) ∙ ap (paths_over m plan.steps (take k all)) e

  taken_stance : (k g : ℕ) → g < k → stance_in (take k all) g ≡ stance_in all g
  taken_stance k g lt = ap (λ o. unwrap_or o nowhere) (get_take all k g lt)

  -- the paths of a fetch over another one
  over_fetch : (k g : ℕ) (s : Step) → slice_get plan.steps k ≡ Some s → over plan.layers k ≡ Some g → g < k → paths k ≡ cond (is_sent plan.steps g && not (asked g)) [] (extended (rows_at m plan.steps g) g (paths g))
  over_fetch k g s at e lt = over_paths k s at (Some g) e ∙ ap (λ w. cond (is_sent plan.steps g && not w.asked) [] (extended (rows_at m plan.steps g) g w.paths)) (taken_stance k g lt)

  live_over : (k g : ℕ) (s t : Step) → slice_get plan.steps k ≡ Some s → slice_get plan.steps g ≡ Some t → over plan.layers k ≡ Some g → g < k → Live g → paths k ≡ extended (rows_at m plan.steps g) g (paths g)
  live_over k g s t at other e lt live = over_fetch k g s at e lt ∙ by_asked (asked g) refl where
    by_asked : (b : Bool) → asked g ≡ b → cond (is_sent plan.steps g && not (asked g)) [] (extended (rows_at m plan.steps g) g (paths g)) ≡ extended (rows_at m plan.steps g) g (paths g)
    by_asked true h = ap (λ b. cond (is_sent plan.steps g && not b) [] (extended (rows_at m plan.steps g) g (paths g))) h ∙ ap (λ b. cond b [] (extended (rows_at m plan.steps g) g (paths g))) (and_not (is_sent plan.steps g))
    by_asked false h = either_way (is_sent plan.steps g && not (asked g)) _ (ap (extended (rows_at m plan.steps g) g) (live_none g t other live h))

  item_over : (item g : ℕ) → slice_get plan.steps item ≡ Some (step.Item g) → (over plan.layers item ≡ Some g) × (g < item) × (f : FetchStep) × (slice_get plan.steps g ≡ Some (step.Fetch f))
  item_over item g at =
      let k = item_checked m.base tree plan run.checked item g at in
      (k.0, before m plan tree r constraints run item (step.Item g) at, k.1, k.2)

  stands_with : (k : ℕ) (f : FetchStep) (p : Option ℕ) → slice_get plan.steps k ≡ Some (step.Fetch f) → (out-FetchStep f).parent ≡ p → StandsWith plan.layers k p
  stands_with k f p at e = subst (StandsWith plan.layers k) e (run.are.stands k f at)

  -- the paths at which a place is met, by what it stands on
  abbrev pub MetAt : Basis → List Path → Type 0
  MetAt OnNothing ps = ps ≡ [] ∷ []
  MetAt (OnRow g) ps = Live g × (ps ≡ extended (rows_at m plan.steps g) g (paths g))
  MetAt (OnList g) ps = Live g × (ps ≡ paths g)
  MetAt (OnPage g) ps = Live g × (ps ≡ paths g)
  MetAt (OnEdge g) ps = Live g × (ps ≡ extended (rows_at m plan.steps g) g (paths g))
  MetAt OnPayload ps = ps ≡ [] ∷ []
  MetAt OnGiven ps = ps ≡ [] ∷ []

  -- a fetch stands where its field is met
  pub field_paths : (k : ℕ) (f : FetchStep) → slice_get plan.steps k ≡ Some (step.Fetch f) → (b : Basis) → HangsOn plan.steps b (out-FetchStep f).parent → (ps : List Path) → MetAt b ps → paths k ≡ ps
  field_paths k f at OnNothing hang ps there = over_paths k (step.Fetch f) at None (stands_with k f None at hang) ∙ sym there
  field_paths k f at OnGiven hang ps there = over_paths k (step.Fetch f) at None (stands_with k f (Some hang.0) at hang.1 ∙ run.are.given hang.0 hang.2) ∙ sym there
  field_paths k f at (OnRow g) hang ps there =
      let z = item_over hang.0 g hang.2 in
      let lt = parent_before m plan tree r constraints run k hang.0 f at hang.1 in
      live_over k g (step.Fetch f) (step.Fetch z.2) at z.3 (stands_with k f (Some hang.0) at hang.1 ∙ z.0) (let a = z.1 in omega (arith, a, lt)) there.0 ∙ sym there.1
  field_paths k f at _ hang ps there = absurd hang

  -- where a fetch is asked, those that it hangs on are
  abbrev pub Stood : Basis → Type 0
  Stood OnNothing = ⊤
  Stood (OnRow g) = asked g ≡ true
  Stood (OnList g) = asked g ≡ true
  Stood (OnPage g) = asked g ≡ true
  Stood (OnEdge g) = asked g ≡ true
  Stood OnPayload = ⊤
  Stood OnGiven = ⊤

  pub field_stood : (k : ℕ) → IsAsked k → (f : FetchStep) → slice_get plan.steps k ≡ Some (step.Fetch f) → (b : Basis) → HangsOn plan.steps b (out-FetchStep f).parent → Stood b
  field_stood k is f at OnNothing hang = tt
  field_stood k is f at OnGiven hang = tt
  field_stood k is f at (OnRow g) hang = by_asked (asked g) refl where
    by_asked : (b : Bool) → asked g ≡ b → b ≡ true
    by_asked true e = refl
    by_asked false e =
        let z = item_over hang.0 g hang.2 in
        let lt = parent_before m plan tree r constraints run k hang.0 f at hang.1 in
        let none = over_fetch k g (step.Fetch f) at (stands_with k f (Some hang.0) at hang.1 ∙ z.0) (let a = z.1 in omega (arith, a, lt))
        ∙ ap (λ b. cond (b && not (asked g)) [] (extended (rows_at m plan.steps g) g (paths g))) (fetch_sent g z.2 z.3)
        ∙ ap (λ b. cond (not b) [] (extended (rows_at m plan.steps g) g (paths g))) e in
        let some = is.somewhere in
        let q = sym some ∙ ap is_none none in cc
  field_stood k is f at _ hang = absurd hang

  -- ---- an asked fetch serves no field with an error

  asks : (i : ℕ) (p : Place) → slice_get tree.places i ≡ Some p → is_row_field (does_of m.base.schema p) ≡ true → sent.is_row_field (fetch_of m.base m.vars p) ≡ true
  asks i p at row = ap sent.is_row_field (run.over_tree.asks i p m.vars at row).1

  serves_here : (k i : ℕ) → IsFieldOf m.base tree plan k i → is_under tree r i ≡ true → (o : OutPlace) → o.place ≡ i → o.step ≡ k → serves m tree r k o (slice_get tree.places o.place) ≡ true
  serves_here k i field u o at is =
      ap (serves m tree r k o) (ap (slice_get tree.places) at ∙ field.is_place)
      ∙ and_both (o.step == k) _ (eq-eqb o.step k is) (and_both (is_under tree r o.place) _ (ap (is_under tree r) at ∙ u) (asks i field.place field.is_place field.is_field))

  serves_any : (k i : ℕ) → IsFieldOf m.base tree plan k i → is_under tree r i ≡ true → serves_some m tree r plan.out k ≡ true
  serves_any k i field u = any_out (λ o. serves m tree r k o (slice_get tree.places o.place)) plan.out i k field.is_out (serves_here k i field u)

  row_by : (p : Place) → sent.is_row_field (fetch_of m.base m.vars p) ≡ true → is_row_field (does_of m.base.schema p) ≡ true
  row_by p h = by_kind (is_row_field (does_of m.base.schema p)) refl where
    by_kind : (b : Bool) → is_row_field (does_of m.base.schema p) ≡ b → b ≡ true
    by_kind true e = refl
    by_kind false e = let none = ap sent.is_row_field (no_fetch m.base m.vars p e) in let z = sym h ∙ none in cc

  record IsWell (k : ℕ) : Type 0 where
    at : ℕ
    field : IsFieldOf m.base tree plan k at
    fine : argument_error m.base m.vars field.place ≡ None

  well_at : (k : ℕ) (o : OutPlace) → step_for plan.out o.place ≡ Some o.step → (p : Option Place) → slice_get tree.places o.place ≡ p → serves m tree r k o p ≡ true → has_no_error m p ≡ true → IsWell k
  well_at k o out None at s n = cc
  well_at k o out (Some p) at s n =
      let rest = second_so (o.step == k) _ s in
      let same = eqb-true o.step k (first_so _ _ s) in
      record {
        at = o.place;
        field = record { place = p; is_place = at; is_field = row_by p (second_so (is_under tree r o.place) _ rest); is_out = out ∙ ap (λ n. Some n) same };
        fine = no_error (argument_error m.base m.vars p) (not_false _ n);
      }

  well_served : (k : ℕ) → serves_well m tree r plan.out k ≡ true → IsWell k
  well_served k h =
      let z = any_some (λ o. serves m tree r k o (slice_get tree.places o.place) && has_no_error m (slice_get tree.places o.place)) plan.out h in
      let s = serves m tree r k z.1 (slice_get tree.places z.1.place) in
      well_at k z.1 (entry_checked m.base tree plan run.checked z.0 z.1 z.2) (slice_get tree.places z.1.place) refl (first_so s _ z.3) (second_so s _ z.3)

  pub fields_fine : (k : ℕ) → IsAsked k → (i : ℕ) (field : IsFieldOf m.base tree plan k i) → is_under tree r i ≡ true → argument_error m.base m.vars field.place ≡ None
  fields_fine k is i field u =
      let well : serves_well m tree r plan.out k ≡ true = sym (ap (λ b. not b || serves_well m tree r plan.out k) (serves_any k i field u)) ∙ is.may in
      let w = well_served k well in
      no_error _ (run.are.one_error m.vars run.fit run.hold k i w.at field w.field ∙ ap is_some w.fine)

  -- a fetch that serves a field without an error is asked wherever its layer stands
  pub field_live : (k i : ℕ) (f : FetchStep) → slice_get plan.steps k ≡ Some (step.Fetch f) → (field : IsFieldOf m.base tree plan k i) → is_under tree r i ≡ true → argument_error m.base m.vars field.place ≡ None → Live k
  field_live k i f at field u fine = (
    and_both (is_sent plan.steps k) _ (fetch_sent k f at) (used_shown tree plan r k i (slice_get_within plan.steps k (step.Fetch f) at) field.is_out u),
    or_right (not (serves_some m tree r plan.out k)) _
        (any_out (λ o. serves m tree r k o (slice_get tree.places o.place) && has_no_error m (slice_get tree.places o.place)) plan.out i k field.is_out
        (λ o at is. and_both (serves m tree r k o (slice_get tree.places o.place)) _ (serves_here k i field u o at is)
        (ap (has_no_error m) (ap (slice_get tree.places) at ∙ field.is_place) ∙ ap (λ e. not (is_some e)) fine))),
  )
