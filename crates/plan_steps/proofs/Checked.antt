-- What the check of a plan tells of a step, and of the entries of places.
use Rattle.std.proofs.Common.{◌≡◌, ℕ, zero, suc, ◌+◌, ◌<◌, List, [], ◌∷◌, length, Option, Some, None, Bool, true, false, cond, refl, sym, ap, ◌∙◌, subst, arith, inl, inr, eqb-true, eq-eqb}
use Rattle.std.specs.Prelude.{slice_get, ◌==◌, ◌&&◌, not, is_some, IsTrue}
use Rattle.std.specs.Cmp.{first_so, second_so}
use Rattle.std.specs.List.{list_all, list_any}
use Rattle.pg_base.specs.Base.{BaseParts}
use Rattle.pg_base.specs.Catalog.{CatalogParts}
use Rattle.place_tree.specs.declared.place.Tree.{Tree}
use Rattle.place_tree.proofs.Folds.{same_place_true}
use Rattle.plan_steps.specs.declared.plan.FetchStep.{FetchStep, out-FetchStep}
use Rattle.plan_steps.specs.declared.plan.OutPlace.{OutPlace}
use Rattle.plan_steps.specs.declared.plan.Plan.{Plan}
use Rattle.plan_steps.specs.declared.plan.Step.{Step}
use Rattle.plan_steps.specs.declared.plan.Step.TheVariants as step
use Rattle.plan_steps.specs.Check.{own_fits, children_fit, width_of, has_key, step_fits, name_fits, steps_fit, layers_fit, out_fits, places_differ, is_checked}
use Rattle.plan_steps.specs.Named.{named_by, fetch_in, is_fetch, over, step_for}
use Rattle.plan_steps.proofs.Bools.{or_cases, or_left, or_right, not_false}

-- ---- lists

pub at_some : {X : Type 0} (xs : List X) (k : ℕ) → k < length xs → (x : X) × (slice_get xs k ≡ Some x)
at_some [] k lt = absurd (omega (arith, lt))
at_some (x ∷ xs) zero lt = (x, refl)
at_some (x ∷ xs) (suc k) lt = at_some xs k (omega (arith, lt))

pub any_some : {X : Type 0} (test : X → Bool) (xs : List X) → list_any test xs ≡ true → (n : ℕ) × (x : X) × (slice_get xs n ≡ Some x) × (test x ≡ true)
any_some test [] h = cc
any_some test (x ∷ xs) h = elim (or_cases (test x) (list_any test xs) h) [ inl e ↦ (0, x, refl, e) | inr e ↦ let z = any_some test xs e in (suc z.0, z.1, z.2, z.3) ]

pub any_at : {X : Type 0} (test : X → Bool) (xs : List X) (n : ℕ) (x : X) → slice_get xs n ≡ Some x → test x ≡ true → list_any test xs ≡ true
any_at test [] n x at h = cc
any_at test (y ∷ xs) zero x at h = let same : y ≡ x = cc in or_left (test y) _ (ap test same ∙ h)
any_at test (y ∷ xs) (suc n) x at h = or_right (test y) _ (any_at test xs n x at h)

-- ---- steps

step_told : (catalog : CatalogParts) (plan : Plan) (from : ℕ) (steps : List Step) → steps_fit catalog plan from steps ≡ true → (i : ℕ) (s : Step) → slice_get steps i ≡ Some s → step_fits catalog plan (from + i) s ≡ true
step_told catalog plan from [] h i s at = cc
step_told catalog plan from (t ∷ steps) h zero s at =
    let same : t ≡ s = cc in
    let e : from ≡ from + 0 = omega arith in
    subst (λ n. step_fits catalog plan n s ≡ true) e (subst (λ x. step_fits catalog plan from x ≡ true) same (first_so (step_fits catalog plan from t) _ (first_so _ _ h)))
step_told catalog plan from (t ∷ steps) h (suc i) s at =
    let e : from + 1 + i ≡ from + suc i = omega arith in
    subst (λ n. step_fits catalog plan n s ≡ true) e (step_told catalog plan (from + 1) steps (second_so (step_fits catalog plan from t && name_fits plan from (named_by t)) _ h) i s at)

-- a step whose fetch is there
pub fetch_from : (steps : List Step) (k : ℕ) → is_fetch steps k ≡ true → (f : FetchStep) × (slice_get steps k ≡ Some (step.Fetch f))
fetch_from steps k h = by_step (slice_get steps k) refl h where
  by_step : (o : Option Step) → slice_get steps k ≡ o → is_some (fetch_in o) ≡ true → (f : FetchStep) × (slice_get steps k ≡ Some (step.Fetch f))
  by_step (Some (step.Fetch f)) e h = (f, e)
  by_step None e h = cc
  by_step _ e h = cc

-- ---- entries

pub out_split : (P : Type 0) (b : Bool) (k s : ℕ) (rest : Option ℕ) → cond b (Some s) rest ≡ Some k → (b ≡ true → s ≡ k → P) → (rest ≡ Some k → P) → P
out_split P true k s rest h f g = f refl (let e : s ≡ k = cc in e)
out_split P false k s rest h f g = g h

-- an entry of the place and the step passes what all such entries pass
pub any_out : (test : OutPlace → Bool) (out : List OutPlace) (i k : ℕ) → step_for out i ≡ Some k → ((o : OutPlace) → o.place ≡ i → o.step ≡ k → test o ≡ true) → list_any test out ≡ true
any_out test [] i k h f = cc
any_out test (o ∷ out) i k h f =
    out_split _ (o.place == i) k o.step (step_for out i) h
    (λ e same. or_left (test o) _ (f o (eqb-true o.place i e) same))
    (λ rest. or_right (test o) _ (any_out test out i k rest f))

first_out : (out : List OutPlace) → places_differ out ≡ true → (n : ℕ) (o : OutPlace) → slice_get out n ≡ Some o → step_for out o.place ≡ Some o.step
first_out [] d n o at = cc
first_out (x ∷ out) d zero o at =
    let same : x ≡ o = cc in
    ap (λ b. cond b (Some x.step) (step_for out o.place)) (eq-eqb x.place o.place (ap (λ z. z.place) same)) ∙ ap (λ z. Some z.step) same
first_out (x ∷ out) d (suc n) o at = by_test (x.place == o.place) refl (first_out out (second_so (not (list_any (λ p. p.place == x.place) out)) _ d) n o at) where
  by_test : (b : Bool) → (x.place == o.place) ≡ b → step_for out o.place ≡ Some o.step → cond b (Some x.step) (step_for out o.place) ≡ Some o.step
  by_test true e rest =
      let none = not_false (list_any (λ p. p.place == x.place) out) (first_so _ _ d) in
      let some = any_at (λ p. p.place == x.place) out n o at (eq-eqb o.place x.place (sym (eqb-true x.place o.place e))) in
      let z = sym none ∙ some in cc
  by_test false e rest = rest

module _ (base : BaseParts) (tree : Tree) (plan : Plan) (ok : IsTrue (is_checked base tree plan)) where
  pub step_checked : (k : ℕ) (s : Step) → slice_get plan.steps k ≡ Some s → step_fits base.catalog plan k s ≡ true
  step_checked k s at =
      let e : 0 + k ≡ k = omega arith in
      subst (λ n. step_fits base.catalog plan n s ≡ true) e (step_told base.catalog plan 0 plan.steps (first_so _ _ ok) k s at)

  pub key_checked : (k : ℕ) (f : FetchStep) → slice_get plan.steps k ≡ Some (step.Fetch f) → has_key f (out-FetchStep f).parent ≡ true
  key_checked k f at =
      let rest = second_so (own_fits base.catalog (out-FetchStep f)) _ (step_checked k (step.Fetch f) at) in
      first_so _ _ (second_so (children_fit base.catalog (width_of base.catalog (out-FetchStep f).table) (out-FetchStep f).children) _ rest)

  pub item_checked : (k g : ℕ) → slice_get plan.steps k ≡ Some (step.Item g) → (over plan.layers k ≡ Some g) × (f : FetchStep) × (slice_get plan.steps g ≡ Some (step.Fetch f))
  item_checked k g at =
      let fits = step_checked k (step.Item g) at in
      let f = fetch_from plan.steps g (first_so _ _ fits) in
      (same_place_true (over plan.layers k) (Some g) (second_so (is_fetch plan.steps g) _ fits), f.0, f.1)

  outs_apart : places_differ plan.out ≡ true
  outs_apart = second_so (list_all (out_fits base tree plan) plan.out) _ (second_so (layers_fit plan) _ (second_so (steps_fit base.catalog plan 0 plan.steps) _ ok))

  -- each entry is the one that counts for its place
  pub entry_checked : (n : ℕ) (o : OutPlace) → slice_get plan.out n ≡ Some o → step_for plan.out o.place ≡ Some o.step
  entry_checked n o at = first_out plan.out outs_apart n o at
