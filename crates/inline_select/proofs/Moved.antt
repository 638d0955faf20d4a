-- Where fetches move, and what their steps become.
use Rattle.std.proofs.Common.{◌≡◌, ℕ, ◌<◌, List, [], ◌++◌, Option, Some, None, Bool, true, false, cond, refl, ap, ◌∙◌, subst, arith}
use Rattle.std.specs.Prelude.{slice_get, option_map, IfSome, IsTrue}
use Rattle.pg_base.specs.Base.{BaseParts}
use Rattle.place_tree.specs.declared.place.Tree.{Tree}
use Rattle.plan_steps.specs.declared.plan.FetchStep.{FetchStep, out-FetchStep}
use Rattle.plan_steps.specs.declared.plan.Plan.{Plan}
use Rattle.plan_steps.specs.declared.plan.Step.{Step}
use Rattle.plan_steps.specs.declared.plan.Step.TheVariants as step
use Rattle.plan_steps.specs.Check.{is_checked}
use Rattle.plan_steps.specs.Fetches.{has_window}
use Rattle.plan_steps.specs.Named.{fetch_in, item_in}
use Rattle.plan_steps.proofs.Earlier.{names_earlier}
use Rattle.inline_select.specs.Inlined.{with_children, with_more, step_with, row_above, target, target_at}
use Rattle.inline_select.proofs.Bare.{out_with, with_twice, bare_step}

-- it hangs on a row of the fetch at g, and asks for no part of a list
pub record Moves (steps : List Step) (f : FetchStep) (g : ℕ) : Type 0 where
  pub item : ℕ
  pub parent : (out-FetchStep f).parent ≡ Some item
  pub is_item : slice_get steps item ≡ Some (step.Item g)
  pub whole : has_window (out-FetchStep f).window ≡ false

pub item_from : (o : Option Step) (g : ℕ) → item_in o ≡ Some g → o ≡ Some (step.Item g)
item_from (Some (step.Item s)) g e = let same : s ≡ g = cc in ap (λ n. Some (step.Item n)) same
item_from _ g e = cc

module _ (steps : List Step) where
  pub target_tells : (f : FetchStep) (g : ℕ) → target steps f ≡ Some g → Moves steps f g
  target_tells f g e = by_window (has_window (out-FetchStep f).window) refl e where
    by_parent : has_window (out-FetchStep f).window ≡ false → (o : Option ℕ) → (out-FetchStep f).parent ≡ o → row_above steps o ≡ Some g → Moves steps f g
    by_parent w None p h = cc
    by_parent w (Some item) p h = record { item = item; parent = p; is_item = item_from (slice_get steps item) g h; whole = w }

    by_window : (b : Bool) → has_window (out-FetchStep f).window ≡ b → cond b None (row_above steps (out-FetchStep f).parent) ≡ Some g → Moves steps f g
    by_window true w h = cc
    by_window false w h = by_parent w (out-FetchStep f).parent refl h

  pub target_is : (f : FetchStep) (g : ℕ) → Moves steps f g → target steps f ≡ Some g
  target_is f g m =
      ap (λ b. cond b None (row_above steps (out-FetchStep f).parent)) m.whole
      ∙ ap (row_above steps) m.parent
      ∙ ap item_in m.is_item

  pub target_with : (children : List FetchStep) (f : FetchStep) → target steps (with_children children f) ≡ target steps f
  target_with children f = ap (λ o. cond (has_window o.window) None (row_above steps o.parent)) (out_with children f)

pub target_earlier : (base : BaseParts) (tree : Tree) (plan : Plan) → IsTrue (is_checked base tree plan) → (k : ℕ) (f : FetchStep) → slice_get plan.steps k ≡ Some (step.Fetch f) → (g : ℕ) → target plan.steps f ≡ Some g → g < k
target_earlier base tree plan ok k f at g e =
    let m = target_tells plan.steps f g e in
    let a = subst (λ o. IfSome o (λ j. j < k)) m.parent (names_earlier base tree plan ok k (step.Fetch f) at) in
    let b = names_earlier base tree plan ok m.item (step.Item g) m.is_item in
    omega (arith, a, b)

-- ---- steps

pub fetch_with : (more : List FetchStep) (s : Step) → fetch_in (Some (step_with more s)) ≡ option_map (with_more more) (fetch_in (Some s))
fetch_with more (step.Const v) = refl
fetch_with more (step.Var path) = refl
fetch_with more step.Given = refl
fetch_with more (step.Fetch f) = refl
fetch_with more (step.Item s) = refl
fetch_with more (step.Column i c) = refl
fetch_with more (step.Count s) = refl
fetch_with more (step.Page s part) = refl
fetch_with more (step.CursorOf i) = refl

-- it moves where it moved
pub moves_with : (steps : List Step) (k : ℕ) (more : List FetchStep) (s : Step) → target_at steps (fetch_in (Some (step_with more s))) ≡ target_at steps (fetch_in (Some s))
moves_with steps k more s = ap (target_at steps) (fetch_with more s) ∙ by_fetch (fetch_in (Some s)) where
  by_fetch : (o : Option FetchStep) → target_at steps (option_map (with_more more) o) ≡ target_at steps o
  by_fetch None = refl
  by_fetch (Some f) = target_with steps ((out-FetchStep f).children ++ more) f

pub bare_with : (more : List FetchStep) (s : Step) → bare_step (step_with more s) ≡ bare_step s
bare_with more (step.Const v) = refl
bare_with more (step.Var path) = refl
bare_with more step.Given = refl
bare_with more (step.Fetch f) = ap step.Fetch (with_twice ((out-FetchStep f).children ++ more) f [])
bare_with more (step.Item s) = refl
bare_with more (step.Column i c) = refl
bare_with more (step.Count s) = refl
bare_with more (step.Page s part) = refl
bare_with more (step.CursorOf i) = refl
