-- The plan in the making, place after place.
use Rattle.std.proofs.Common.{◌≡◌, ℕ, ◌+◌, ◌*◌, ◌<◌, ◌≤◌, zero, suc, Bool, List, [], ◌∷◌, ◌++◌, length, get_or, drop, refl, sym, ap, ◌∙◌, arith}
use Rattle.std.proofs.lemmas.List.{length-append}
use Rattle.std.specs.Prelude.{OnOk, Result, Ok, Err}
use Rattle.pg_base.specs.Base.{BaseParts}
use Rattle.pg_base.specs.declared.vars.Vars.{Vars}
use Rattle.pg_base.proofs.ListSteps.{drop-item}
use Rattle.place_tree.specs.Exec.{needs_rows}
use Rattle.place_tree.specs.declared.place.Place.{Place}
use Rattle.place_tree.specs.declared.place.Tree.{Tree}
use Rattle.plan_steps.specs.declared.plan.Layer.{Layer}
use Rattle.plan_steps.specs.declared.plan.Step.{Step}
use Rattle.step_plan.specs.Added.{added}
use Rattle.step_plan.specs.Drafted.{Making, out_of, below_with, below_of, grown, into, layer_over, layers_with, steps_added, with_shown, with_places}
use Rattle.step_plan.specs.declared.making.Added.{Added}
use Rattle.step_plan.specs.declared.making.Added.TheVariants as adds
use Rattle.step_plan.specs.declared.making.Below.{Below}

-- ---- one place more

pub places_turn : (base : BaseParts) (vars : Vars) (tree : Tree) (m after total : Making) (i : ℕ) (p : Place) (shown : Bool)
    → i < length tree.places → p ≡ get_or tree.places i p → shown ≡ needs_rows base.schema tree.places i
    → after ≡ with_shown base vars tree.places shown m i p
    → with_places base vars tree m i (drop i tree.places) ≡ total
    → with_places base vars tree after (i + 1) (drop (i + 1) tree.places) ≡ total
places_turn base vars tree m after total i p shown lt is told e h =
    let rest : List Place = drop (i + 1) tree.places in
    ap (λ n. with_places base vars tree n (i + 1) rest) (e ∙ ap (λ b. with_shown base vars tree.places b m i p) told)
    ∙ sym (ap (with_places base vars tree m i) (drop-item tree.places i p lt is))
    ∙ h

-- ---- how many steps and layers there are then

pub into_long : (layers : List Layer) (l k : ℕ) → length (into layers l k) ≡ length layers
into_long [] l k = refl
into_long (layer ∷ layers) zero k = refl
into_long (layer ∷ layers) (suc l) k = ap suc (into_long layers l k)

joined_long : (layers : List Layer) (more : Layer) (n : ℕ) → length layers ≡ n → length (layers ++ more ∷ []) ≡ n + 1
joined_long layers more n e = length-append layers (more ∷ []) ∙ ap (λ k. k + 1) e

layers_few : (layers : List Layer) (layer at : ℕ) (a : Added) → length (layers_with layers layer at a) ≤ length layers + 1
layers_few layers layer at (adds.Leaf s) = let e = into_long layers layer at in omega (arith, e)
layers_few layers layer at (adds.List f) = let e = into_long layers layer at in omega (arith, e)
layers_few layers layer at (adds.Row f) =
    let e = joined_long (into layers layer at) (layer_over at (at + 1)) (length layers) (into_long layers layer at) in omega (arith, e)
layers_few layers layer at (adds.Item edge fetch) = let e = joined_long layers (layer_over fetch at) (length layers) refl in omega (arith, e)
layers_few layers layer at (adds.Shows k footing) = omega arith
layers_few layers layer at adds.Given = let e = into_long layers layer at in omega (arith, e)

added_few : (at : ℕ) (a : Added) → length (steps_added at a) ≤ 2
added_few at (adds.Leaf s) = omega arith
added_few at (adds.List f) = omega arith
added_few at (adds.Row f) = omega arith
added_few at (adds.Item edge fetch) = omega arith
added_few at (adds.Shows k footing) = omega arith
added_few at adds.Given = omega arith

steps_few : (steps : List Step) (at : ℕ) (a : Added) → length (steps ++ steps_added at a) ≤ length steps + 2
steps_few steps at a = let e = length-append steps (steps_added at a) in let few = added_few at a in omega (arith, e, few)

pub steps_turn : (base : BaseParts) (vars : Vars) (places : List Place) (shown : Bool) (m after : Making) (i : ℕ) (p : Place)
    → after ≡ with_shown base vars places shown m i p → length m.steps ≤ 2 * i → length after.steps ≤ 2 * (i + 1)
steps_turn base vars places shown m after i p e few =
    let a : Added = added base vars places p shown (below_of m.belows p.parent).footing in
    let long : length after.steps ≡ length (m.steps ++ steps_added (length m.steps) a) = ap (λ (n : Making). length n.steps) e in
    let more = steps_few m.steps (length m.steps) a in
    omega (arith, long, more, few)

pub layers_turn : (base : BaseParts) (vars : Vars) (places : List Place) (shown : Bool) (m after : Making) (i : ℕ) (p : Place)
    → after ≡ with_shown base vars places shown m i p → length m.layers ≤ i + 1 → length after.layers ≤ (i + 1) + 1
layers_turn base vars places shown m after i p e few =
    let a : Added = added base vars places p shown (below_of m.belows p.parent).footing in
    let l : ℕ = (below_of m.belows p.parent).layer in
    let long : length after.layers ≡ length (layers_with m.layers l (length m.steps) a) = ap (λ (n : Making). length n.layers) e in
    let more = layers_few m.layers l (length m.steps) a in
    omega (arith, long, more, few)

-- ---- the parts of one place more

grown_by : (m after : Making) (place layer : ℕ) (a : Added) → after.steps ≡ m.steps ++ steps_added (length m.steps) a
    → after.layers ≡ layers_with m.layers layer (length m.steps) a → after.out ≡ m.out ++ out_of place layer (length m.steps) a ∷ []
    → after.belows ≡ m.belows ++ below_with layer (length m.layers) (length m.steps) a ∷ [] → after ≡ grown m place layer a
grown_by m after place layer a s l o b = λ i. record { steps = s i; layers = l i; out = o i; belows = b i }

pub place_added : {A E : Type 0} (r : Result A E) (base : BaseParts) (vars : Vars) (places : List Place) (shown : Bool) (m after : Making) (number : ℕ) (p : Place) (above : Below) (a : Added) (at new : ℕ)
    → above ≡ below_of m.belows p.parent → a ≡ added base vars places p shown above.footing → at ≡ length m.steps → new ≡ length m.layers
    → OnOk r (after.steps ≡ m.steps ++ steps_added at a) → OnOk r (after.layers ≡ layers_with m.layers above.layer at a)
    → OnOk r (after.out ≡ m.out ++ out_of number above.layer at a ∷ []) → OnOk r (after.belows ≡ m.belows ++ below_with above.layer new at a ∷ [])
    → OnOk r (after ≡ with_shown base vars places shown m number p)
place_added (Err e) base vars places shown m after number p above a at new up is first next_ s l o b = tt
place_added (Ok x) base vars places shown m after number p above a at new up is first next_ s l o b =
    let e : a ≡ added base vars places p shown (below_of m.belows p.parent).footing = is ∙ ap (λ (u : Below). added base vars places p shown u.footing) up in
    grown_by m after number above.layer a
    (s ∙ ap (λ k. m.steps ++ steps_added k a) first)
    (l ∙ ap (λ k. layers_with m.layers above.layer k a) first)
    (o ∙ ap (λ k. m.out ++ out_of number above.layer k a ∷ []) first)
    (b ∙ ap (λ k. m.belows ++ below_with above.layer new k a ∷ []) first ∙ ap (λ k. m.belows ++ below_with above.layer k (length m.steps) a ∷ []) next_)
    ∙ ap (λ (u : Below). grown m number u.layer a) up
    ∙ ap (λ c. grown m number (below_of m.belows p.parent).layer c) e
