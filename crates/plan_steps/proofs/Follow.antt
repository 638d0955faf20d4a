-- Each fetch comes after the one over which its layer stands.
use Rattle.std.proofs.Common.{◌≡◌, ℕ, ◌<◌, List, Option, Some, None, sym, ap, ◌∙◌, subst, arith}
use Rattle.std.specs.Prelude.{slice_get, IfSome, IsTrue}
use Rattle.pg_base.specs.Base.{BaseParts}
use Rattle.place_tree.specs.declared.place.Tree.{Tree}
use Rattle.plan_constraints.specs.declared.constraint.Constraint.{Constraint}
use Rattle.plan_steps.specs.declared.plan.FetchStep.{FetchStep, out-FetchStep}
use Rattle.plan_steps.specs.declared.plan.Plan.{Plan}
use Rattle.plan_steps.specs.declared.plan.Step.TheVariants as step
use Rattle.plan_steps.specs.Check.{is_checked}
use Rattle.plan_steps.specs.Fetches.{AreFetches, HangsOn, IsFieldOf, StandsWith}
use Rattle.plan_steps.specs.Named.{is_fetch, over}
use Rattle.plan_steps.specs.Serves.{Basis, OnNothing, OnRow, OnList, OnPage, OnEdge, OnPayload, OnGiven, basis_above}
use Rattle.plan_steps.specs.Sound.{FetchesFollow}
use Rattle.plan_steps.proofs.Checked.{fetch_from, item_checked}
use Rattle.plan_steps.proofs.Earlier.{names_earlier}

module _ (base : BaseParts) (plan : Plan) (tree : Tree) (constraints : List Constraint) (ok : IsTrue (is_checked base tree plan)) (are : AreFetches base tree constraints plan) where
  -- what a fetch hangs on is earlier, and later than the fetch over which that stands
  hung_after : (k s p : ℕ) (b : Basis) → HangsOn plan.steps b (Some p) → p < k → over plan.layers p ≡ Some s → s < k
  hung_after k s p OnNothing h lt e = cc
  hung_after k s p (OnRow t) h lt e =
      let same : p ≡ h.0 = cc in
      let item = item_checked base tree plan ok h.0 t h.2 in
      let before : t < h.0 = names_earlier base tree plan ok h.0 (step.Item t) h.2 in
      let over_t : Some t ≡ Some s = sym item.0 ∙ ap (over plan.layers) (sym same) ∙ e in
      let is : t ≡ s = cc in
      omega (arith, same, before, is, lt)
  hung_after k s p (OnList t) h lt e = absurd h
  hung_after k s p (OnPage t) h lt e = absurd h
  hung_after k s p (OnEdge t) h lt e = absurd h
  hung_after k s p OnPayload h lt e = absurd h
  hung_after k s p OnGiven h lt e =
      let same : p ≡ h.0 = cc in
      let none = are.given h.0 h.2 in
      let over_s : None ≡ Some s = sym none ∙ ap (over plan.layers) (sym same) ∙ e in
      cc

  pub follows : FetchesFollow plan
  follows k s fetch e = by_parent (out-FetchStep f).parent hangs before stands where
    f : FetchStep
    f = (fetch_from plan.steps k fetch).0

    at : slice_get plan.steps k ≡ Some (step.Fetch f)
    at = (fetch_from plan.steps k fetch).1

    field : (i : ℕ) × IsFieldOf base tree plan k i
    field = are.only k f at

    hangs : HangsOn plan.steps (basis_above are.serves.bases field.1.place.parent) (out-FetchStep f).parent
    hangs = (are.hangs k field.0 f field.1 at).0

    before : IfSome (out-FetchStep f).parent (λ p. p < k)
    before = names_earlier base tree plan ok k (step.Fetch f) at

    stands : StandsWith plan.layers k (out-FetchStep f).parent
    stands = are.stands k f at

    by_parent : (o : Option ℕ) → HangsOn plan.steps (basis_above are.serves.bases field.1.place.parent) o → IfSome o (λ p. p < k) → StandsWith plan.layers k o → s < k
    by_parent None h lt st = let z : None ≡ Some s = sym st ∙ e in cc
    by_parent (Some p) h lt st = hung_after k s p (basis_above are.serves.bases field.1.place.parent) h lt (sym st ∙ e)
