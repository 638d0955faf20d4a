-- Each step of an inlined plan, by all of its steps.
use Rattle.std.proofs.Common.{◌≡◌, ℕ, zero, suc, ◌+◌, ◌<◌, List, [], ◌∷◌, map, length, drop, Option, Some, Bool, true, false, refl, sym, ap, ◌∙◌, arith, zero-add}
use Rattle.std.proofs.lemmas.Option.{slice_get_within}
use Rattle.std.specs.Prelude.{slice_get, IsTrue}
use Rattle.pg_base.specs.Base.{BaseParts}
use Rattle.place_tree.specs.Fold.{same_place}
use Rattle.place_tree.specs.declared.place.Tree.{Tree}
use Rattle.place_tree.proofs.Folds.{same_place_true}
use Rattle.plan_steps.specs.declared.plan.FetchStep.{FetchStep, out-FetchStep}
use Rattle.plan_steps.specs.declared.plan.Plan.{Plan}
use Rattle.plan_steps.specs.declared.plan.Step.{Step}
use Rattle.plan_steps.specs.declared.plan.Step.TheVariants as step
use Rattle.plan_steps.specs.Check.{is_checked}
use Rattle.plan_steps.specs.Named.{fetch_in}
use Rattle.plan_steps.proofs.Checked.{at_some}
use Rattle.inline_select.specs.Inlined.{step_with, target_at, joined, moves_to, moved_to, inlined_from, inlined}
use Rattle.inline_select.specs.Laws.{FetchesStandBelow}
use Rattle.inline_select.proofs.Bare.{with_none, bare_step, bare_plan}
use Rattle.inline_select.proofs.Moved.{target_earlier, moves_with, bare_with}

inlined_at : (steps : List Step) (k : ℕ) (later : List Step) (n : ℕ) (s : Step) → slice_get later n ≡ Some s →
    slice_get (inlined_from steps k later) n ≡ Some (step_with (moved_to steps (k + n) (drop (suc n) (inlined_from steps k later))) s)
inlined_at steps k [] n s at = cc
inlined_at steps k (t ∷ later) zero s at =
    let same : t ≡ s = cc in
    let rest = inlined_from steps (k + 1) later in
    let e : k ≡ k + 0 = omega arith in
    ap (λ x. Some (step_with (moved_to steps k rest) x)) same ∙ ap (λ n. Some (step_with (moved_to steps n rest) s)) e ∙ ap (λ l. Some (step_with (moved_to steps (k + 0) l) s)) (sym (drop_none rest))
  where
    drop_none : (xs : List Step) → drop 0 xs ≡ xs
    drop_none [] = refl
    drop_none (x ∷ xs) = refl
inlined_at steps k (t ∷ later) (suc n) s at =
    let rest = inlined_from steps (k + 1) later in
    let e : k + 1 + n ≡ k + suc n = omega arith in
    inlined_at steps (k + 1) later n s at ∙ ap (λ j. Some (step_with (moved_to steps j (drop (suc n) rest)) s)) e

-- what moves elsewhere may be left out
moved_drop : (steps : List Step) (g n : ℕ) (xs : List Step) → ((j : ℕ) (s : Step) → j < n → slice_get xs j ≡ Some s → moves_to steps g (fetch_in (Some s)) ≡ false) → moved_to steps g (drop n xs) ≡ moved_to steps g xs
moved_drop steps g zero [] h = refl
moved_drop steps g (suc n) [] h = refl
moved_drop steps g zero (x ∷ xs) h = refl
moved_drop steps g (suc n) (x ∷ xs) h =
    moved_drop steps g n xs (λ j s lt at. h (suc j) s (omega (arith, lt)) at)
    ∙ sym (ap (λ b. joined b (fetch_in (Some x)) (moved_to steps g xs)) (h zero x (omega arith) refl))

pub length_inlined : (steps : List Step) (k : ℕ) (later : List Step) → length (inlined_from steps k later) ≡ length later
length_inlined steps k [] = refl
length_inlined steps k (s ∷ later) = let z = length_inlined steps (k + 1) later in omega (arith, z)

elsewhere : (o : Option ℕ) (k : ℕ) → (o ≡ Some k → ⊥) → same_place o (Some k) ≡ false
elsewhere o k h = by_test (same_place o (Some k)) refl where
  by_test : (b : Bool) → same_place o (Some k) ≡ b → b ≡ false
  by_test true e = absurd (h (same_place_true o (Some k) e))
  by_test false e = refl

module _ (base : BaseParts) (plan : Plan) (tree : Tree) (ok : IsTrue (is_checked base tree plan)) where
  abbrev made : List Step
  made = (inlined plan).steps

  -- no step at k or before moves to it
  not_before : (k : ℕ) → k < length plan.steps → (j : ℕ) (s : Step) → j < suc k → slice_get made j ≡ Some s → moves_to plan.steps k (fetch_in (Some s)) ≡ false
  not_before k within j s lt at =
      let t = at_some plan.steps j (omega (arith, within, lt)) in
      let more = moved_to plan.steps (0 + j) (drop (suc j) made) in
      let is = inlined_at plan.steps 0 plan.steps j t.0 t.1 in
      let same : step_with more t.0 ≡ s = let z = sym is ∙ at in cc in
      ap (λ x. moves_to plan.steps k (fetch_in (Some x))) (sym same)
      ∙ ap (λ o. same_place o (Some k)) (moves_with plan.steps k more t.0)
      ∙ elsewhere (target_at plan.steps (fetch_in (Some t.0))) k (by_step t.0 t.1)
    where
      by_step : (x : Step) → slice_get plan.steps j ≡ Some x → target_at plan.steps (fetch_in (Some x)) ≡ Some k → ⊥
      by_step (step.Fetch f) is e = let less = target_earlier base tree plan ok j f is k e in absurd (omega (arith, lt, less))
      by_step (step.Const v) is e = cc
      by_step (step.Var path) is e = cc
      by_step step.Given is e = cc
      by_step (step.Item i) is e = cc
      by_step (step.Column i c) is e = cc
      by_step (step.Count i) is e = cc
      by_step (step.Page i part) is e = cc
      by_step (step.CursorOf i) is e = cc

  pub made_at : (k : ℕ) (s : Step) → slice_get plan.steps k ≡ Some s → slice_get made k ≡ Some (step_with (moved_to plan.steps k made) s)
  made_at k s at =
      let within = slice_get_within plan.steps k s at in
      inlined_at plan.steps 0 plan.steps k s at
      ∙ ap (λ n. Some (step_with (moved_to plan.steps n (drop (suc k) made)) s)) (zero-add k)
      ∙ ap (λ l. Some (step_with l s)) (moved_drop plan.steps k (suc k) made (not_before k within))

-- the law
pub fetches_stand : FetchesStandBelow
fetches_stand base plan tree ok k s at = made_at base plan tree ok k s at

-- ---- an inlined plan without what is below its fetches

bare_inlined : (steps : List Step) (k : ℕ) (later : List Step) → map bare_step (inlined_from steps k later) ≡ map bare_step later
bare_inlined steps k [] = refl
bare_inlined steps k (s ∷ later) =
    let rest = inlined_from steps (k + 1) later in
    ap (λ x. x ∷ map bare_step rest) (bare_with (moved_to steps k rest) s) ∙ ap (λ l. bare_step s ∷ l) (bare_inlined steps (k + 1) later)

bare_same : (s : Step) → ((f : FetchStep) → s ≡ step.Fetch f → (out-FetchStep f).children ≡ []) → bare_step s ≡ s
bare_same (step.Fetch f) h = ap step.Fetch (with_none f (h f refl))
bare_same (step.Const v) h = refl
bare_same (step.Var path) h = refl
bare_same step.Given h = refl
bare_same (step.Item i) h = refl
bare_same (step.Column i c) h = refl
bare_same (step.Count i) h = refl
bare_same (step.Page i part) h = refl
bare_same (step.CursorOf i) h = refl

bare_steps : (steps : List Step) → ((k : ℕ) (f : FetchStep) → slice_get steps k ≡ Some (step.Fetch f) → (out-FetchStep f).children ≡ []) → map bare_step steps ≡ steps
bare_steps [] h = refl
bare_steps (s ∷ steps) h =
    ap (λ x. x ∷ map bare_step steps) (bare_same s (λ f e. h zero f (ap (λ x. Some x) e))) ∙ ap (λ l. s ∷ l) (bare_steps steps (λ k f at. h (suc k) f at))

-- the law: it is the plan that was, where this had nothing below its fetches
pub bare_is : (plan : Plan) → ((k : ℕ) (f : FetchStep) → slice_get plan.steps k ≡ Some (step.Fetch f) → (out-FetchStep f).children ≡ []) → bare_plan (inlined plan) ≡ plan
bare_is plan flat = λ i. record {
  steps = (bare_inlined plan.steps 0 plan.steps ∙ bare_steps plan.steps flat) i;
  layers = plan.layers;
  out = plan.out;
}
