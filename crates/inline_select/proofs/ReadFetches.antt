-- Which fetches of an inlined plan are read, and which are sent.
use Rattle.std.proofs.Common.{◌≡◌, ℕ, zero, suc, List, [], ◌∷◌, ◌++◌, map, Option, Some, None, Bool, true, false, cond, refl, sym, ap, ◌∙◌, eq-eqb, inl, inr}
use Rattle.std.specs.Prelude.{slice_get, ◌&&◌, not, is_some, IsTrue}
use Rattle.std.specs.List.{list_any}
use Rattle.pg_base.specs.Base.{BaseParts}
use Rattle.place_tree.specs.Fold.{same_place}
use Rattle.place_tree.specs.declared.place.Tree.{Tree}
use Rattle.place_tree.proofs.Folds.{same_place_true}
use Rattle.plan_steps.specs.declared.plan.FetchStep.{FetchStep, out-FetchStep}
use Rattle.plan_steps.specs.declared.plan.Plan.{Plan}
use Rattle.plan_steps.specs.declared.plan.Step.{Step}
use Rattle.plan_steps.specs.declared.plan.Step.TheVariants as step
use Rattle.plan_steps.specs.Check.{is_checked}
use Rattle.plan_steps.specs.Fetches.{has_window}
use Rattle.plan_steps.specs.Named.{fetch_in, fetch_at, is_fetch, item_at}
use Rattle.plan_steps.specs.Same.{same_fetch}
use Rattle.plan_steps.specs.Sent.{children_of, children_at, children_above, is_read_by, is_read, is_sent}
use Rattle.plan_steps.proofs.Bools.{or_cases, or_left, or_right}
use Rattle.plan_steps.proofs.Checked.{item_checked}
use Rattle.inline_select.specs.Inlined.{with_more, row_above, target, target_at, joined, moves_to, moved_to, inlined}
use Rattle.inline_select.proofs.Bare.{out_with, bare_step, items_bare, fetches_bare}
use Rattle.inline_select.proofs.Fixed.{made_at, bare_is}
use Rattle.inline_select.proofs.Moved.{item_from, target_tells, target_with}
use Rattle.plan_steps.proofs.SameFetch.{fetch_tells}

-- ---- the fetches that move to one

-- what moves there stands among them
pub any_moved : (steps : List Step) (g : ℕ) (test : FetchStep → Bool) (xs : List Step) (k : ℕ) (f : FetchStep) → slice_get xs k ≡ Some (step.Fetch f) → moves_to steps g (Some f) ≡ true → test f ≡ true → list_any test (moved_to steps g xs) ≡ true
any_moved steps g test [] k f at m h = cc
any_moved steps g test (x ∷ xs) zero f at m h =
    let same : x ≡ step.Fetch f = cc in
    ap (λ s. list_any test (joined (moves_to steps g (fetch_in (Some s))) (fetch_in (Some s)) (moved_to steps g xs))) same
    ∙ ap (λ b. list_any test (joined b (Some f) (moved_to steps g xs))) m
    ∙ or_left (test f) _ h
any_moved steps g test (x ∷ xs) (suc k) f at m h = behind (moves_to steps g (fetch_in (Some x))) (fetch_in (Some x)) (any_moved steps g test xs k f at m h) where
  behind : (b : Bool) (o : Option FetchStep) → list_any test (moved_to steps g xs) ≡ true → list_any test (joined b o (moved_to steps g xs)) ≡ true
  behind true (Some c) e = or_right (test c) _ e
  behind true None e = e
  behind false o e = e

-- and each of them moves there
pub moved_there : (steps : List Step) (g : ℕ) (test : FetchStep → Bool) (xs : List Step) → list_any test (moved_to steps g xs) ≡ true → (c : FetchStep) × (test c ≡ true) × (target steps c ≡ Some g)
moved_there steps g test [] h = cc
moved_there steps g test (x ∷ xs) h = by_test (moves_to steps g (fetch_in (Some x))) (fetch_in (Some x)) refl h (moved_there steps g test xs) where
  by_test : (b : Bool) (o : Option FetchStep) → moves_to steps g o ≡ b → list_any test (joined b o (moved_to steps g xs)) ≡ true → (list_any test (moved_to steps g xs) ≡ true → (c : FetchStep) × (test c ≡ true) × (target steps c ≡ Some g)) → (c : FetchStep) × (test c ≡ true) × (target steps c ≡ Some g)
  by_test true (Some c) e h rest = elim (or_cases (test c) (list_any test (moved_to steps g xs)) h) [
    | inl t ↦ (c, t, same_place_true (target steps c) (Some g) e)
    | inr r ↦ rest r
  ]
  by_test true None e h rest = rest h
  by_test false o e h rest = rest h

place_refl : (o : Option ℕ) → same_place o o ≡ true
place_refl None = refl
place_refl (Some n) = eq-eqb n n refl

-- ---- reading

module _ (base : BaseParts) (plan : Plan) (tree : Tree) (ok : IsTrue (is_checked base tree plan)) (flat : (k : ℕ) (f : FetchStep) → slice_get plan.steps k ≡ Some (step.Fetch f) → (out-FetchStep f).children ≡ []) where
  abbrev pub made : List Step
  made = (inlined plan).steps

  abbrev pub below : ℕ → List FetchStep
  below k = moved_to plan.steps k made

  abbrev pub grown : ℕ → FetchStep → FetchStep
  grown k f = with_more (below k) f

  pub steps_made : map bare_step made ≡ plan.steps
  steps_made = ap (λ p. p.steps) (bare_is plan flat)

  pub items_made : item_at made ≡ item_at plan.steps
  items_made = sym (items_bare made) ∙ ap item_at steps_made

  pub fetches_made : is_fetch made ≡ is_fetch plan.steps
  fetches_made = sym (fetches_bare made) ∙ ap is_fetch steps_made

  pub fetch_made : (k : ℕ) (f : FetchStep) → slice_get plan.steps k ≡ Some (step.Fetch f) → fetch_at made k ≡ Some (grown k f)
  fetch_made k f at = ap fetch_in (made_at base plan tree ok k (step.Fetch f) at)

  -- its children are those that move to it
  pub children_made : (k : ℕ) (f : FetchStep) → slice_get plan.steps k ≡ Some (step.Fetch f) → (out-FetchStep (grown k f)).children ≡ below k
  children_made k f at = ap (λ o. o.children) (out_with ((out-FetchStep f).children ++ below k) f) ∙ ap (λ l. l ++ below k) (flat k f at)

  read_among : (k g : ℕ) (f : FetchStep) → slice_get plan.steps k ≡ Some (step.Fetch f) → row_above plan.steps (out-FetchStep f).parent ≡ Some g → (w : Bool) → has_window (out-FetchStep f).window ≡ w → list_any (same_fetch (grown k f)) (below g) ≡ is_some (target plan.steps f)
  read_among k g f at up false w =
      let there : target plan.steps f ≡ Some g = ap (λ b. cond b None (row_above plan.steps (out-FetchStep f).parent)) w ∙ up in
      any_moved plan.steps g (same_fetch (grown k f)) made k (grown k f) (made_at base plan tree ok k (step.Fetch f) at)
      (ap (λ o. same_place o (Some g)) (target_with plan.steps ((out-FetchStep f).children ++ below k) f ∙ there) ∙ place_refl (Some g))
      ((fetch_tells (grown k f) (grown k f)).1 refl)
      ∙ sym (ap is_some there)
  read_among k g f at up true w = by_any (list_any (same_fetch (grown k f)) (below g)) refl ∙ sym (ap (λ b. is_some (cond b None (row_above plan.steps (out-FetchStep f).parent))) w) where
    by_any : (b : Bool) → list_any (same_fetch (grown k f)) (below g) ≡ b → list_any (same_fetch (grown k f)) (below g) ≡ false
    by_any false e = e
    by_any true e =
        let c = moved_there plan.steps g (same_fetch (grown k f)) made e in
        let same : grown k f ≡ c.0 = (fetch_tells (grown k f) c.0).0 c.1 in
        let window = ap (λ o. has_window o.window) (out_with ((out-FetchStep f).children ++ below k) f) in
        let moved = (target_tells plan.steps c.0 g c.2).whole in
        let z : true ≡ false = sym w ∙ sym window ∙ ap (λ x. has_window (out-FetchStep x).window) same ∙ moved in cc

  read_above : (k : ℕ) (f : FetchStep) → slice_get plan.steps k ≡ Some (step.Fetch f) → (o : Option ℕ) → row_above plan.steps (out-FetchStep f).parent ≡ o → list_any (same_fetch (grown k f)) (children_at made o) ≡ is_some (target plan.steps f)
  read_above k f at None up = sym (by_window (has_window (out-FetchStep f).window)) where
    by_window : (w : Bool) → is_some (cond w None (row_above plan.steps (out-FetchStep f).parent)) ≡ false
    by_window true = refl
    by_window false = ap is_some up
  read_above k f at (Some g) up =
      let item = item_of (out-FetchStep f).parent up in
      let fits = item_checked base tree plan ok item.0 g item.1 in
      ap (λ o. list_any (same_fetch (grown k f)) (children_of o)) (fetch_made g fits.1 fits.2)
      ∙ ap (list_any (same_fetch (grown k f))) (children_made g fits.1 fits.2)
      ∙ read_among k g f at up (has_window (out-FetchStep f).window) refl
    where
      item_of : (p : Option ℕ) → row_above plan.steps p ≡ Some g → (item : ℕ) × (slice_get plan.steps item ≡ Some (step.Item g))
      item_of None e = cc
      item_of (Some item) e = (item, item_from (slice_get plan.steps item) g e)

  above_made : (p : Option ℕ) → children_above made p ≡ children_at made (row_above plan.steps p)
  above_made None = refl
  above_made (Some p) = ap (λ items. children_at made (items p)) items_made

  -- a fetch is read where it moves, and else not
  pub read_made : (k : ℕ) (f : FetchStep) → slice_get plan.steps k ≡ Some (step.Fetch f) → is_read made k ≡ is_some (target plan.steps f)
  read_made k f at =
      ap (is_read_by made) (fetch_made k f at)
      ∙ ap (λ o. list_any (same_fetch (grown k f)) (children_above made o.parent)) (out_with ((out-FetchStep f).children ++ below k) f)
      ∙ ap (list_any (same_fetch (grown k f))) (above_made (out-FetchStep f).parent)
      ∙ read_above k f at (row_above plan.steps (out-FetchStep f).parent) refl

  -- whether the step at k is a fetch that moves
  abbrev pub moves : ℕ → Bool
  moves k = is_some (target_at plan.steps (fetch_at plan.steps k))

  pub sent_made : (k : ℕ) → is_sent made k ≡ (is_fetch plan.steps k && not (moves k))
  sent_made k = by_step (slice_get plan.steps k) refl where
    no_fetch : fetch_at plan.steps k ≡ None → is_sent made k ≡ (is_fetch plan.steps k && not (moves k))
    no_fetch e =
        let none : is_fetch plan.steps k ≡ false = ap is_some e in
        ap (λ b. b && not (is_read made k)) (ap (λ f. f k) fetches_made ∙ none) ∙ sym (ap (λ b. b && not (moves k)) none)

    by_step : (o : Option Step) → slice_get plan.steps k ≡ o → is_sent made k ≡ (is_fetch plan.steps k && not (moves k))
    by_step (Some (step.Fetch f)) e =
        ap (λ t. t k && not (is_read made k)) fetches_made
        ∙ ap (λ b. is_fetch plan.steps k && not b) (read_made k f e ∙ sym (ap (λ o. is_some (target_at plan.steps (fetch_in o))) e))
    by_step None e = no_fetch (ap fetch_in e)
    by_step (Some (step.Const v)) e = no_fetch (ap fetch_in e)
    by_step (Some (step.Var path)) e = no_fetch (ap fetch_in e)
    by_step (Some step.Given) e = no_fetch (ap fetch_in e)
    by_step (Some (step.Item i)) e = no_fetch (ap fetch_in e)
    by_step (Some (step.Column i c)) e = no_fetch (ap fetch_in e)
    by_step (Some (step.Count i)) e = no_fetch (ap fetch_in e)
    by_step (Some (step.Page i part)) e = no_fetch (ap fetch_in e)
    by_step (Some (step.CursorOf i)) e = no_fetch (ap fetch_in e)
