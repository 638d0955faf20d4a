-- The tests of a plan, layer by layer and step by step.
use Rattle.std.proofs.Common.{◌≡◌, ℕ, zero, suc, ◌+◌, ◌<◌, Bool, true, false, ◌&&◌, List, [], ◌∷◌, map, length, drop, refl, sym, ap, ◌∙◌, subst, arith}
use Rattle.std.specs.List.{list_all}
use Rattle.pg_base.specs.Catalog.{CatalogParts}
use Rattle.plan_steps.specs.declared.plan.FetchStep.{FetchStep, out-FetchStep, fold_out-FetchStep}
use Rattle.plan_steps.specs.declared.plan.Step.{Step}
use Rattle.plan_steps.specs.declared.plan.Layer.{Layer}
use Rattle.plan_steps.specs.Check.{key_below, own_fits, width_of, child_layer, child_fits, children_fit, is_laid, all_laid}

-- ---- fetches

all_below : (catalog : CatalogParts) (width : ℕ) (children : List FetchStep) → list_all (λ test. test width) (map (child_fits catalog) children) ≡ children_fit catalog width children
all_below catalog width [] = refl
all_below catalog width (f ∷ children) = ap (λ b. child_fits catalog f width && b) (all_below catalog width children)

pub child_is : (catalog : CatalogParts) (f : FetchStep) (width : ℕ) →
    child_fits catalog f width
    ≡ (key_below width (out-FetchStep f) && (own_fits catalog (out-FetchStep f) && children_fit catalog (width_of catalog (out-FetchStep f).table) (out-FetchStep f).children))
child_is catalog f width =
    ap (λ test. test width) (fold_out-FetchStep (ℕ → Bool) (child_layer catalog) f)
    ∙ ap (λ b. key_below width (out-FetchStep f) && (own_fits catalog (out-FetchStep f) && b)) (all_below catalog (width_of catalog (out-FetchStep f).table) (out-FetchStep f).children)

pub child_told : (catalog : CatalogParts) (f : FetchStep) (width : ℕ) (r : Bool) → key_below width (out-FetchStep f) ≡ true → own_fits catalog (out-FetchStep f) ≡ true → r ≡ children_fit catalog (width_of catalog (out-FetchStep f).table) (out-FetchStep f).children → r ≡ child_fits catalog f width
child_told catalog f width r key own below =
    let rest : Bool = children_fit catalog (width_of catalog (out-FetchStep f).table) (out-FetchStep f).children in
    below ∙ sym (child_is catalog f width ∙ ap (λ b. b && (own_fits catalog (out-FetchStep f) && rest)) key ∙ ap (λ b. b && rest) own)

-- ---- layers

laid_drop : (layers : List Layer) (n k : ℕ) (steps : List Step) → k < length steps → all_laid layers n (drop k steps) ≡ (is_laid layers n && all_laid layers (n + 1) (drop (suc k) steps))
laid_drop layers n k [] lt = absurd (omega (arith, lt))
laid_drop layers n zero (s ∷ steps) lt = refl
laid_drop layers n (suc k) (s ∷ steps) lt = laid_drop layers n k steps (omega (arith, lt))

pub not_laid : (layers : List Layer) (k : ℕ) (steps : List Step) (total : Bool) → k < length steps → is_laid layers k ≡ false → all_laid layers k (drop k steps) ≡ total → false ≡ total
not_laid layers k steps total lt h e = sym (laid_drop layers k k steps lt ∙ ap (λ b. b && all_laid layers (k + 1) (drop (suc k) steps)) h) ∙ e

pub laid_on : (layers : List Layer) (k : ℕ) (steps : List Step) (total : Bool) → k < length steps → is_laid layers k ≡ true → all_laid layers k (drop k steps) ≡ total → all_laid layers (k + 1) (drop (k + 1) steps) ≡ total
laid_on layers k steps total lt h e =
    let here : all_laid layers (k + 1) (drop (suc k) steps) ≡ total = sym (laid_drop layers k k steps lt ∙ ap (λ b. b && all_laid layers (k + 1) (drop (suc k) steps)) h) ∙ e in
    let next : suc k ≡ k + 1 = omega arith in
    subst (λ j. all_laid layers (k + 1) (drop j steps) ≡ total) next here
