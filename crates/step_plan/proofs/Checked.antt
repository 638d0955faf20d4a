-- The plan that planning makes is well formed, seen place by place.
use Rattle.std.proofs.Common.{◌≡◌, ◌≢◌, ℕ, zero, suc, ◌+◌, ◌<◌, ◌≤◌, List, [], ◌∷◌, ◌++◌, map, length, length-append, drop, Option, Some, None, Bool, true, false, cond, refl, sym, ap, ◌∙◌, subst, arith, zero-add, inl, inr, ◌⊎◌}
use Rattle.std.proofs.lemmas.Bool.{cases_lt}
use Rattle.std.specs.Prelude.{slice_get, unwrap_or, IsTrue, IsSomeAnd, IfSome, ◌==◌, ⊤}
use Rattle.pg_base.specs.Base.{BaseParts}
use Rattle.pg_base.specs.Lists.{Each, AreDistinct, AreBelow}
use Rattle.place_tree.specs.declared.place.Tree.{Tree}
use Rattle.plan_steps.specs.Chains.{is_in}
use Rattle.plan_steps.specs.Check.{step_fits, given_fits}
use Rattle.plan_steps.specs.Named.{named_by, is_fetch, layer_of, over_in, over}
use Rattle.plan_steps.specs.declared.plan.FetchStep.{FetchStep}
use Rattle.plan_steps.specs.declared.plan.Layer.{Layer}
use Rattle.plan_steps.specs.declared.plan.OutPlace.{OutPlace}
use Rattle.plan_steps.specs.declared.plan.Plan.{Plan}
use Rattle.plan_steps.specs.declared.plan.Step.{Step}
use Rattle.plan_steps.specs.declared.plan.Step.TheVariants as step
use Rattle.step_plan.specs.Drafted.{Making, at_root, below_of, into, layer_over, edge_or_row, steps_added, layers_with, step_shown, footing_with, layer_with, out_of, below_with, grown, nothing_made, plan_of}
use Rattle.step_plan.specs.declared.making.Added.{Added}
use Rattle.step_plan.specs.declared.making.Added.TheVariants as added
use Rattle.step_plan.specs.declared.making.Below.{Below}
use Rattle.step_plan.specs.declared.making.Footing.{Footing}
use Rattle.step_plan.specs.declared.making.Footing.TheVariants as footing
use Rattle.step_plan.proofs.Layers.{steps_in, Inserted, each_in, distinct_in, new_in, old_in, in_layer, in_new, not_in, layer_none, layer_at, layer_some, layer_into, layer_into_new, layer_push, layer_push_new, over_into, over_push, over_last, length_into}
use Rattle.step_plan.proofs.Places.{inside}

-- ---- what is kept of the layers, however the plan goes on

-- the layers after a plan keep those of its steps
pub record LayersGoOn (layers others : List Layer) : Type 0 where
  pub layer : (k l : ℕ) → layer_of layers k ≡ Some l → layer_of others k ≡ Some l
  pub over : (l : ℕ) → l < length layers → over_in (slice_get others l) ≡ over_in (slice_get layers l)
  pub longer : length layers ≤ length others

-- all steps stand in the layers, once
pub record AreLaid (n : ℕ) (layers : List Layer) : Type 0 where
  pub within : AreBelow n (steps_in layers)
  pub once : AreDistinct (steps_in layers)
  pub all : (k : ℕ) → k < n → is_in (steps_in layers) k ≡ true

pub each_more : (P Q : ℕ → Type 0) → ((x : ℕ) → P x → Q x) → (xs : List ℕ) → Each P xs → Each Q xs
each_more P Q f [] h = tt
each_more P Q f (x ∷ xs) h = (f x h.0, each_more P Q f xs h.1)

laid_in : (n : ℕ) (layers others : List Layer) → AreLaid n layers → Inserted n (steps_in layers) (steps_in others) → AreLaid (n + 1) others
laid_in n layers others h i = record {
  within = each_in (λ k. k < n + 1) n i (omega arith) (each_more (λ k. k < n) (λ k. k < n + 1) (λ k lt. omega arith) (steps_in layers) h.within);
  once = distinct_in n i h.once (each_more (λ k. k < n) (λ k. n ≢ k) (λ k lt e. omega arith) (steps_in layers) h.within);
  all = λ k lt. elim (cases_lt k n) [
    | inl q ↦ old_in n k i (h.all k q)
    | inr q ↦ let e : n ≡ k = omega arith in subst (λ j. is_in (steps_in others) j ≡ true) e (new_in n i)
  ];
}

-- a step that stands in a layer is one of those before
before_end : (n : ℕ) (layers : List Layer) → AreLaid n layers → (k l : ℕ) → layer_of layers k ≡ Some l → k < n
before_end n layers h k l e = elim (cases_lt k n) [
  | inl q ↦ q
  | inr q ↦
      let below : AreBelow k (steps_in layers) = each_more (λ j. j < n) (λ j. j < k) (λ j lt. omega arith) (steps_in layers) h.within in
      let none : layer_of layers k ≡ None = layer_none 0 layers k (not_in k (steps_in layers) below) in
      cc
]

into_goes : (n : ℕ) (layers : List Layer) (l : ℕ) → AreLaid n layers → LayersGoOn layers (into layers l n)
into_goes n layers l h = record {
  layer = λ k j e. layer_into 0 layers l n k j (λ q. let lt = before_end n layers h k j e in omega (arith, q, lt)) e;
  over = λ j lt. over_into layers l n j;
  longer = let e = length_into layers l n in omega (arith, e);
}

push_goes : (layers more : List Layer) → LayersGoOn layers (layers ++ more)
push_goes layers more = record {
  layer = λ k j e. layer_push 0 layers more k j e;
  over = λ j lt. over_push layers more j lt;
  longer = let e = length-append layers more in omega (arith, e);
}

pub goes_through : (a b c : List Layer) → LayersGoOn a b → LayersGoOn b c → LayersGoOn a c
goes_through a b c g h = record {
  layer = λ k l e. h.layer k l (g.layer k l e);
  over = λ l lt. h.over l (let e = g.longer in omega (arith, e, lt)) ∙ g.over l lt;
  longer = let e = g.longer in let f = h.longer in omega (arith, e, f);
}

-- the layers with what a place adds
pub with_laid : (layers : List Layer) (layer at : ℕ) (a : Added) → layer < length layers → AreLaid at layers → AreLaid (at + length (steps_added at a)) (layers_with layers layer at a)
with_laid layers layer at (added.Leaf s) lt h = laid_in at layers (into layers layer at) h (in_layer layers layer at lt)
with_laid layers layer at (added.List f) lt h = laid_in at layers (into layers layer at) h (in_layer layers layer at lt)
with_laid layers layer at (added.Row f) lt h =
    let one = laid_in at layers (into layers layer at) h (in_layer layers layer at lt) in
    let two = laid_in (at + 1) (into layers layer at) (into layers layer at ++ layer_over at (at + 1) ∷ []) one (in_new (into layers layer at) at (at + 1)) in
    let e : (at + 1) + 1 ≡ at + 2 = omega arith in
    subst (λ n. AreLaid n (into layers layer at ++ layer_over at (at + 1) ∷ [])) e two
with_laid layers layer at (added.Item edge fetch) lt h = laid_in at layers (layers ++ layer_over fetch at ∷ []) h (in_new layers fetch at)
with_laid layers layer at (added.Shows k g) lt h = let e : at ≡ at + 0 = omega arith in subst (λ n. AreLaid n layers) e h
with_laid layers layer at added.Given lt h = laid_in at layers (into layers layer at) h (in_layer layers layer at lt)

pub with_goes : (layers : List Layer) (layer at : ℕ) (a : Added) → AreLaid at layers → LayersGoOn layers (layers_with layers layer at a)
with_goes layers layer at (added.Leaf s) h = into_goes at layers layer h
with_goes layers layer at (added.List f) h = into_goes at layers layer h
with_goes layers layer at (added.Row f) h =
    goes_through layers (into layers layer at) (into layers layer at ++ layer_over at (at + 1) ∷ []) (into_goes at layers layer h) (push_goes (into layers layer at) (layer_over at (at + 1) ∷ []))
with_goes layers layer at (added.Item edge fetch) h = push_goes layers (layer_over fetch at ∷ [])
with_goes layers layer at (added.Shows k g) h = record { layer = λ k l e. e; over = λ l lt. refl; longer = omega arith }
with_goes layers layer at added.Given h = into_goes at layers layer h

pub fresh_in : (n : ℕ) (layers : List Layer) → AreLaid n layers → is_in (steps_in layers) n ≡ false
fresh_in n layers h = not_in n (steps_in layers) h.within

-- a fetch of a layer and its Item, in a new layer
pub item_layer : (layers : List Layer) (layer at : ℕ) → layer < length layers → AreLaid at layers → layer_of (into layers layer at ++ layer_over at (at + 1) ∷ []) (at + 1) ≡ Some (length layers)
item_layer layers layer at lt h =
    let one = laid_in at layers (into layers layer at) h (in_layer layers layer at lt) in
    layer_push_new 0 (into layers layer at) at (at + 1) (fresh_in (at + 1) (into layers layer at) one) ∙ ap Some (zero-add (length (into layers layer at)) ∙ length_into layers layer at)

pub fetch_layer : (layers more : List Layer) (layer at : ℕ) → layer < length layers → AreLaid at layers → layer_of (into layers layer at ++ more) at ≡ Some layer
fetch_layer layers more layer at lt h = layer_push 0 (into layers layer at) more at layer (layer_into_new 0 layers layer at (fresh_in at layers h) lt ∙ ap Some (zero-add layer))

-- ---- layers over layers

-- the second layer is the first one, or one over which that stands
pub data StandsUp (layers : List Layer) : ℕ → ℕ → Type 0 where
  itself : {l : ℕ} → StandsUp layers l l
  further : {l m : ℕ} (s up : ℕ) → over_in (slice_get layers l) ≡ Some s → layer_of layers s ≡ Some up → StandsUp layers up m → StandsUp layers l m

-- ---- beside the whole plan

module _ (base : BaseParts) (tree : Tree) (whole : Making) where
  abbrev plan : Plan
  plan = plan_of whole

  -- the step stands in the layer, or in one over which the layer stands
  abbrev pub From : ℕ → ℕ → Type 0
  From layer j = IsSomeAnd (layer_of whole.layers j) (λ m. StandsUp whole.layers layer m)

  -- what is named by a step of this number and layer
  abbrev pub IsNamed : ℕ → ℕ → Option ℕ → Type 0
  IsNamed at layer o = IfSome o (λ j. (j < at) × From layer j)

  abbrev pub Lies : ℕ → ℕ → Footing → Type 0
  Lies n layer footing.Nothing = ⊤
  Lies n layer (footing.List s) = (s < n) × From layer s
  Lies n layer (footing.Page s) = (s < n) × From layer s
  Lies n layer (footing.Row s item) = (s < n) × From layer s × (item < n) × From layer item
  Lies n layer (footing.Edge s item) = (s < n) × From layer s × (item < n) × From layer item
  Lies n layer (footing.Payload given) = (given < n) × From layer given
  Lies n layer (footing.Given given) = (given < n) × From layer given

  -- what a step names is of the kind that it takes
  abbrev pub IsKind : ℕ → Step → Type 0
  IsKind k s = step_fits base.catalog (plan_of whole) k s ≡ true

  -- what must hold of what a place adds, for its steps from a number on, below a layer
  abbrev pub IsAddable : ℕ → ℕ → Added → Type 0
  IsAddable at layer (added.Leaf s) = IsKind at s × IsNamed at layer (named_by s)
  IsAddable at layer (added.List f) = IsKind at (step.Fetch f) × IsNamed at layer (named_by (step.Fetch f))
  IsAddable at layer (added.Row f) = IsKind at (step.Fetch f) × IsNamed at layer (named_by (step.Fetch f))
  IsAddable at layer (added.Item edge fetch) = (is_fetch whole.steps fetch ≡ true) × (fetch < at) × From layer fetch
  IsAddable at layer (added.Shows k g) = (k < at) × From layer k × Lies at layer g
  IsAddable at layer added.Given = ⊤

  abbrev pub IsStepAt : ℕ → Step → Type 0
  IsStepAt k s = IsKind k s × IfSome (named_by s) (λ j. (j < k) × IsSomeAnd (layer_of whole.layers k) (λ l. From l j))

  abbrev pub IsOver : ℕ → Option ℕ → Type 0
  IsOver zero o = o ≡ None
  IsOver (suc l) o = IsSomeAnd o (λ s. (is_fetch whole.steps s ≡ true) × IsSomeAnd (layer_of whole.layers s) (λ m. m < suc l))

  pub record AreGood (m : Making) (n : ℕ) : Type 0 where
    pub laid : AreLaid (length m.steps) m.layers
    pub steps : (k : ℕ) (s : Step) → slice_get m.steps k ≡ Some s → IsStepAt k s
    pub overs : (l : ℕ) → l < length m.layers → IsOver l (over_in (slice_get m.layers l))
    pub belows : (j : ℕ) (b : Below) → slice_get m.belows j ≡ Some b → (b.layer < length m.layers) × Lies (length m.steps) b.layer b.footing
    pub places : Each (λ o. o.place < n) m.out
    pub outs : Each (λ o. (o.step < length m.steps) × (o.layer < length m.layers) × From o.layer o.step × (given_fits base tree.places whole.steps o ≡ true)) m.out
    pub once : AreDistinct (map (λ o. o.place) m.out)
    pub some : 0 < length m.layers

  from_itself : (layer k : ℕ) → layer_of whole.layers k ≡ Some layer → From layer k
  from_itself layer k e = subst (λ o. IsSomeAnd o (λ m. StandsUp whole.layers layer m)) (sym e) itself

  from_new : (new s m : ℕ) → over_in (slice_get whole.layers new) ≡ Some s → layer_of whole.layers s ≡ Some m → From new s
  from_new new s m o e = subst (λ o. IsSomeAnd o (λ m. StandsUp whole.layers new m)) (sym e) (further s m o e itself)

  named_here : (k layer : ℕ) → layer_of whole.layers k ≡ Some layer → (o : Option ℕ) → IsNamed k layer o → IfSome o (λ j. (j < k) × IsSomeAnd (layer_of whole.layers k) (λ l. From l j))
  named_here k layer e None h = tt
  named_here k layer e (Some j) h = (h.0, subst (λ o. IsSomeAnd o (λ l. From l j)) (sym e) h.1)

  over_here : (k new s : ℕ) → layer_of whole.layers k ≡ Some new → over_in (slice_get whole.layers new) ≡ Some s → over whole.layers k ≡ Some s
  over_here k new s e o = ap (Rattle.plan_steps.specs.Named.over_at whole.layers) e ∙ o

  item_kind : (k s : ℕ) → is_fetch whole.steps s ≡ true → over whole.layers k ≡ Some s → IsKind k (step.Item s)
  item_kind k s f o =
      ap (λ b. Rattle.std.specs.Prelude.◌&&◌ b (Rattle.place_tree.specs.Fold.same_place (over whole.layers k) (Some s))) f
      ∙ ap (λ q. Rattle.place_tree.specs.Fold.same_place q (Some s)) o ∙ Rattle.std.proofs.Common.eq-eqb s s refl

  item_at : (k new s m : ℕ) → layer_of whole.layers k ≡ Some new → over_in (slice_get whole.layers new) ≡ Some s → is_fetch whole.steps s ≡ true → s < k → layer_of whole.layers s ≡ Some m → IsStepAt k (step.Item s)
  item_at k new s m e o f lt es = (item_kind k s f (over_here k new s e o), named_here k new e (Some s) (lt, from_new new s m o es))

  over_at : (l s m : ℕ) → 0 < l → is_fetch whole.steps s ≡ true → layer_of whole.layers s ≡ Some m → m < l → IsOver l (Some s)
  over_at zero s m pos f e lt = absurd (omega arith)
  over_at (suc l) s m pos f e lt = (f, subst (λ o. IsSomeAnd o (λ m. m < suc l)) (sym e) lt)

  lies_more : (n k layer : ℕ) (g : Footing) → n ≤ k → Lies n layer g → Lies k layer g
  lies_more n k layer footing.Nothing lt h = tt
  lies_more n k layer (footing.List s) lt h = (let a = h.0 in omega (arith, a, lt), h.1)
  lies_more n k layer (footing.Page s) lt h = (let a = h.0 in omega (arith, a, lt), h.1)
  lies_more n k layer (footing.Row s item) lt h = (let a = h.0 in omega (arith, a, lt), h.1, let b = h.2 in omega (arith, b, lt), h.3)
  lies_more n k layer (footing.Edge s item) lt h = (let a = h.0 in omega (arith, a, lt), h.1, let b = h.2 in omega (arith, b, lt), h.3)
  lies_more n k layer (footing.Payload given) lt h = (let a = h.0 in omega (arith, a, lt), h.1)
  lies_more n k layer (footing.Given given) lt h = (let a = h.0 in omega (arith, a, lt), h.1)

  fetch_there : (s : ℕ) (f : FetchStep) → slice_get whole.steps s ≡ Some (step.Fetch f) → is_fetch whole.steps s ≡ true
  fetch_there s f e = ap (λ o. Rattle.std.specs.Prelude.is_some (Rattle.plan_steps.specs.Named.fetch_in o)) e

  module _ (layers : List Layer) (layer at : ℕ) (lt : layer < length layers) (laid : AreLaid at layers) (some : 0 < length layers) where
    abbrev new : ℕ
    new = length layers

    -- what the added steps and layers are in the whole plan
    pub record AreAdded (a : Added) : Type 0 where
      pub steps : (j : ℕ) (s : Step) → slice_get (steps_added at a) j ≡ Some s → IsStepAt (at + j) s
      pub over : new < length (layers_with layers layer at a) → IsOver new (over_in (slice_get (layers_with layers layer at a) new))
      pub one : length (layers_with layers layer at a) ≤ new + 1
      pub below : (layer_with layer new a < length (layers_with layers layer at a)) × Lies (at + length (steps_added at a)) (layer_with layer new a) (footing_with at a)
      pub shown : (step_shown at a < at + length (steps_added at a)) × From layer (step_shown at a)

    zeroth : (k : ℕ) (s t : Step) → IsStepAt k s → s ≡ t → IsStepAt (k + 0) t
    zeroth k s t h e = let z : k ≡ k + 0 = omega arith in subst (λ j. IsStepAt j t) z (subst (λ x. IsStepAt k x) e h)

    pub here : LayersGoOn (into layers layer at) whole.layers → layer_of whole.layers at ≡ Some layer
    here goes = goes.layer at layer (layer_into_new 0 layers layer at (fresh_in at layers laid) lt ∙ ap Some (zero-add layer))

    only_step : (s : Step) (j : ℕ) (t : Step) → slice_get (s ∷ []) j ≡ Some t → IsStepAt at s → IsStepAt (at + j) t
    only_step s zero t e h = zeroth at s t h (inside s t e)
    only_step s (suc j) t e h = cc

    leaf_added : (s : Step) → IsKind at s × IsNamed at layer (named_by s) → LayersGoOn (into layers layer at) whole.layers → AreAdded (added.Leaf s)
    leaf_added s ok goes =
        let same = length_into layers layer at in
        record {
          steps = λ j t e. only_step s j t e (ok.0, named_here at layer (here goes) (named_by s) ok.1);
          over = λ h. absurd (omega (arith, h, same));
          one = omega (arith, same);
          below = (omega (arith, lt, same), tt);
          shown = (omega arith, from_itself layer at (here goes));
        }

    list_added : (f : FetchStep) → IsKind at (step.Fetch f) × IsNamed at layer (named_by (step.Fetch f)) → LayersGoOn (into layers layer at) whole.layers → AreAdded (added.List f)
    list_added f ok goes =
        let a = leaf_added (step.Fetch f) ok goes in
        record { steps = a.steps; over = a.over; one = a.one; below = (a.below.0, (a.shown.0, a.shown.1)); shown = a.shown }

    given_added : LayersGoOn (into layers layer at) whole.layers → AreAdded added.Given
    given_added goes =
        let a = leaf_added step.Given (refl, tt) goes in
        record { steps = a.steps; over = a.over; one = a.one; below = (a.below.0, (a.shown.0, a.shown.1)); shown = a.shown }

    two_steps : (s u : Step) (j : ℕ) (t : Step) → slice_get (s ∷ u ∷ []) j ≡ Some t → IsStepAt at s → IsStepAt (at + 1) u → IsStepAt (at + j) t
    two_steps s u zero t e h k = zeroth at s t h (inside s t e)
    two_steps s u (suc zero) t e h k = subst (λ x. IsStepAt (at + 1) x) (inside u t e) k
    two_steps s u (suc (suc j)) t e h k = cc

    row_added : (f : FetchStep) → slice_get whole.steps at ≡ Some (step.Fetch f) → IsKind at (step.Fetch f) × IsNamed at layer (named_by (step.Fetch f)) → LayersGoOn (into layers layer at ++ layer_over at (at + 1) ∷ []) whole.layers → AreAdded (added.Row f)
    row_added f placed ok goes =
        let more : List Layer = layer_over at (at + 1) ∷ [] in
        let first = goes.layer at layer (fetch_layer layers more layer at lt laid) in
        let item = goes.layer (at + 1) new (item_layer layers layer at lt laid) in
        let same = length_into layers layer at in
        let long = length-append (into layers layer at) more in
        let there : over_in (slice_get (into layers layer at ++ more) new) ≡ Some at = ap (λ n. over_in (slice_get (into layers layer at ++ more) n)) (sym same) ∙ over_last (into layers layer at) at (at + 1) in
        let o : over_in (slice_get whole.layers new) ≡ Some at = goes.over new (omega (arith, same, long)) ∙ there in
        let is : is_fetch whole.steps at ≡ true = fetch_there at f placed in
        record {
          steps = λ j t e. two_steps (step.Fetch f) (step.Item at) j t e (ok.0, named_here at layer first (named_by (step.Fetch f)) ok.1) (item_at (at + 1) new at layer item o is (omega arith) first);
          over = λ h. subst (IsOver new) (sym there) (over_at new at layer some is first lt);
          one = omega (arith, same, long);
          below = (omega (arith, same, long), (omega arith, from_new new at layer o first, omega arith, from_itself new (at + 1) item));
          shown = (omega arith, from_itself layer at first);
        }

    either_lies : (edge : Bool) (n l s item : ℕ) → s < n → From l s → item < n → From l item → Lies n l (edge_or_row edge s item)
    either_lies true n l s item a b c d = (a, b, c, d)
    either_lies false n l s item a b c d = (a, b, c, d)

    item_added : (edge : Bool) (fetch : ℕ) → (is_fetch whole.steps fetch ≡ true) × (fetch < at) × From layer fetch → LayersGoOn (layers ++ layer_over fetch at ∷ []) whole.layers → AreAdded (added.Item edge fetch)
    item_added edge fetch ok goes =
        let more : List Layer = layer_over fetch at ∷ [] in
        let item = goes.layer at new (layer_push_new 0 layers fetch at (fresh_in at layers laid) ∙ ap Some (zero-add new)) in
        let long = length-append layers more in
        let there = over_last layers fetch at in
        let o : over_in (slice_get whole.layers new) ≡ Some fetch = goes.over new (omega (arith, long)) ∙ there in
        let first = layer_some 0 layers fetch (laid.all fetch ok.1) in
        let within = layer_at 0 layers fetch first.0 first.1 in
        let up = goes.layer fetch first.0 (layer_push 0 layers more fetch first.0 first.1) in
        record {
          steps = λ j t e. only_step (step.Item fetch) j t e (item_at at new fetch first.0 item o ok.0 ok.1 up);
          over = λ h. subst (IsOver new) (sym there) (over_at new fetch first.0 some ok.0 up (let a = within.1 in let b = within.2 in omega (arith, a, b)));
          one = omega (arith, long);
          below = (omega (arith, long), either_lies edge (at + 1) new fetch at (let a = ok.1 in omega (arith, a)) (from_new new fetch first.0 o up) (omega arith) (from_itself new at item));
          shown = (let a = ok.1 in omega (arith, a), ok.2);
        }

    pub are_added : (a : Added) → IsAddable at layer a → ((j : ℕ) (s : Step) → slice_get (steps_added at a) j ≡ Some s → slice_get whole.steps (at + j) ≡ Some s) → LayersGoOn (layers_with layers layer at a) whole.layers → AreAdded a
    are_added (added.Leaf s) ok placed goes = leaf_added s ok goes
    are_added (added.List f) ok placed goes = list_added f ok goes
    are_added (added.Row f) ok placed goes = let z : at + 0 ≡ at = omega arith in row_added f (subst (λ k. slice_get whole.steps k ≡ Some (step.Fetch f)) z (placed 0 (step.Fetch f) refl)) ok goes
    are_added (added.Item edge fetch) ok placed goes = item_added edge fetch ok goes
    are_added (added.Shows k g) ok placed goes = record {
      steps = λ j t e. cc;
      over = λ h. absurd (omega (arith, h));
      one = omega arith;
      below = (lt, lies_more at (at + 0) layer g (omega arith) ok.2);
      shown = (let a = ok.0 in omega (arith, a), ok.1);
    }
    are_added added.Given ok placed goes = given_added goes

  -- ---- the plan with one place more

  pub split : {X : Type 0} (xs ys : List X) (k : ℕ) (x : X) → slice_get (xs ++ ys) k ≡ Some x → (slice_get xs k ≡ Some x) ⊎ ((j : ℕ) × (k ≡ length xs + j) × (slice_get ys j ≡ Some x))
  split [] ys k x h = inr (k, omega arith, h)
  split (a ∷ xs) ys zero x h = inl h
  split (a ∷ xs) ys (suc k) x h = elim (split xs ys k x h) [ inl e ↦ inl e | inr e ↦ inr (e.0, omega (arith, e.1), e.2) ]

  pub each_last : {A : Type 0} (P Q : A → Type 0) → ((x : A) → P x → Q x) → (xs : List A) (x : A) → Each P xs → Q x → Each Q (xs ++ x ∷ [])
  each_last P Q f [] x h q = (q, tt)
  each_last P Q f (y ∷ xs) x h q = (f y h.0, each_last P Q f xs x h.1 q)

  differs_last : (n : ℕ) (out : List OutPlace) (o : OutPlace) → n ≢ o.place → Each (λ y. n ≢ y) (map (λ o. o.place) out) → Each (λ y. n ≢ y) (map (λ o. o.place) (out ++ o ∷ []))
  differs_last n [] o d h = (d, tt)
  differs_last n (x ∷ out) o d h = (h.0, differs_last n out o d h.1)

  once_last : (out : List OutPlace) (o : OutPlace) → Each (λ x. x.place < o.place) out → AreDistinct (map (λ o. o.place) out) → AreDistinct (map (λ o. o.place) (out ++ o ∷ []))
  once_last [] o h d = (tt, tt)
  once_last (x ∷ out) o h d = (differs_last x.place out o (λ e. let lt = h.0 in omega (arith, e, lt)) d.0, once_last out o h.1 d.1)

  last_below : (new layer : ℕ) (a : Added) (at total more : ℕ) (b : Below) (j : ℕ) → total ≡ at + length (steps_added at a) → slice_get (below_with layer new at a ∷ []) j ≡ Some b →
      (layer_with layer new a < more) × Lies (at + length (steps_added at a)) (layer_with layer new a) (footing_with at a) → (b.layer < more) × Lies total b.layer b.footing
  last_below new layer a at total more b zero long e h =
      let same = inside _ b e in
      subst (λ (x : Below). (x.layer < more) × Lies total x.layer x.footing) same (h.0, subst (λ n. Lies n (layer_with layer new a) (footing_with at a)) (sym long) h.1)
  last_below new layer a at total more b (suc j) long e h = cc

  abbrev pub IsOut : ℕ → ℕ → OutPlace → Type 0
  IsOut steps layers o = (o.step < steps) × (o.layer < layers) × From o.layer o.step × (given_fits base tree.places whole.steps o ≡ true)

  pub good_next : (m : Making) (n layer : ℕ) (a : Added) → AreGood m n → layer < length m.layers → IsAddable (length m.steps) layer a →
      ((j : ℕ) (s : Step) → slice_get (steps_added (length m.steps) a) j ≡ Some s → slice_get whole.steps (length m.steps + j) ≡ Some s) → LayersGoOn (layers_with m.layers layer (length m.steps) a) whole.layers
      → given_fits base tree.places whole.steps (out_of n layer (length m.steps) a) ≡ true → AreGood (grown m n layer a) (n + 1)
  good_next m n layer a good lt ok placed goes takes =
      let at : ℕ = length m.steps in
      let new = are_added m.layers layer at lt good.laid good.some a ok placed goes in
      let on = with_goes m.layers layer at a good.laid in
      let long : length (m.steps ++ steps_added at a) ≡ at + length (steps_added at a) = length-append m.steps _ in
      let back = sym long in
      let more = on.longer in
      record {
        laid = subst (λ k. AreLaid k (layers_with m.layers layer at a)) back (with_laid m.layers layer at a lt good.laid);
        steps = λ k s e. elim (split m.steps (steps_added at a) k s e) [
          | inl h ↦ good.steps k s h
          | inr h ↦ subst (λ j. IsStepAt j s) (sym h.1) (new.steps h.0 s h.2)
        ];
        overs = λ l h. elim (cases_lt l (length m.layers)) [
          | inl q ↦ subst (IsOver l) (sym (on.over l q)) (good.overs l q)
          | inr q ↦
              let one = new.one in
              let e : length m.layers ≡ l = omega (arith, one, h) in
              subst (λ j. IsOver j (over_in (slice_get (layers_with m.layers layer at a) j))) e (new.over (omega (arith, h, e)))
        ];
        belows = λ j b e. elim (split m.belows _ j b e) [
          | inl h ↦
              let old = good.belows j b h in
              (let x = old.0 in omega (arith, x, more), lies_more at (length (m.steps ++ steps_added at a)) b.layer b.footing (omega (arith, long)) old.1)
          | inr h ↦ last_below (length m.layers) layer a at (length (m.steps ++ steps_added at a)) (length (layers_with m.layers layer at a)) b h.0 long h.2 new.below
        ];
        places = each_last (λ (o : OutPlace). o.place < n) (λ (o : OutPlace). o.place < n + 1) (λ o q. omega arith) m.out _ good.places (omega arith);
        outs = each_last (IsOut at (length m.layers)) (IsOut (length (m.steps ++ steps_added at a)) (length (layers_with m.layers layer at a)))
            (λ o q. (let x = q.0 in omega (arith, x, long), let y = q.1 in omega (arith, y, more), q.2, q.3)) m.out _ good.outs (let x = new.shown.0 in omega (arith, x, long), omega (arith, lt, more), new.shown.1, takes);
        once = once_last m.out _ good.places good.once;
        some = let x = good.some in omega (arith, x, more);
      }

  root_over : (l : ℕ) → l < 1 → IsOver l (over_in (slice_get (Rattle.step_plan.specs.Drafted.root_layer ∷ []) l))
  root_over zero lt = refl
  root_over (suc l) lt = absurd (omega arith)

  pub good_nothing : AreGood nothing_made 0
  good_nothing = record {
    laid = record { within = tt; once = tt; all = λ k lt. absurd (omega arith) };
    steps = λ k s e. cc;
    overs = root_over;
    belows = λ j b e. cc;
    places = tt;
    outs = tt;
    once = tt;
    some = omega arith;
  }
