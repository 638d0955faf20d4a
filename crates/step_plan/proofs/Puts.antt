-- A step in a layer.
use Rattle.std.proofs.Common.{◌≡◌, ℕ, ◌<◌, ◌≤◌, zero, suc, List, [], ◌∷◌, ◌++◌, length, get_or, set, refl, ap, ◌∙◌, arith}
use Rattle.plan_steps.specs.declared.plan.Layer.{Layer}
use Rattle.step_plan.specs.Drafted.{into}

pub put_is : (layers : List Layer) (l k : ℕ) (layer : Layer) (steps : List ℕ) → l < length layers → layer ≡ get_or layers l layer → steps ≡ layer.steps ++ k ∷ []
    → set layers l (record { over = layer.over; steps = steps }) ≡ into layers l k
put_is [] l k layer steps lt is e = absurd (omega (arith, lt))
put_is (x ∷ layers) zero k layer steps lt is e =
    ap (λ (s : List ℕ). record { over = layer.over; steps = s } ∷ layers) e ∙ ap (λ (y : Layer). record { over = y.over; steps = y.steps ++ k ∷ [] } ∷ layers) is
put_is (x ∷ layers) (suc l) k layer steps lt is e = let less : l < length layers = omega (arith, lt) in ap (λ ys. x ∷ ys) (put_is layers l k layer steps less is e)

pub put_past : (layers : List Layer) (l k : ℕ) → length layers ≤ l → layers ≡ into layers l k
put_past [] l k le = refl
put_past (x ∷ layers) zero k le = absurd (omega (arith, le))
put_past (x ∷ layers) (suc l) k le = let less : length layers ≤ l = omega (arith, le) in ap (λ ys. x ∷ ys) (put_past layers l k less)
