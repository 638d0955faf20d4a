-- The layers of a quotient are well formed.
use Rattle.std.proofs.Common.{◌≡◌, ◌≢◌, ℕ, suc, ◌+◌, ◌<◌, List, [], ◌∷◌, map, length, Option, Some, None, Bool, true, false, cond, not, refl, sym, ap, ◌∙◌, subst, arith, inl, inr, ne_eqb}
use Rattle.std.proofs.lemmas.List.{length-map}
use Rattle.std.proofs.lemmas.Bool.{cases_lt}
use Rattle.std.specs.Prelude.{slice_get, ◌==◌, ◌&&◌, ◌||◌, nat_lt, option_map, unwrap_or, is_some, IsTrue}
use Rattle.std.specs.Cmp.{first_so, second_so}
use Rattle.std.specs.List.{list_any, list_all}
use Rattle.place_tree.specs.Fold.{same_place}
use Rattle.place_tree.proofs.Folds.{same_place_true}
use Rattle.plan_steps.specs.declared.plan.Layer.{Layer}
use Rattle.plan_steps.specs.declared.plan.Plan.{Plan}
use Rattle.plan_steps.specs.declared.plan.Step.{Step}
use Rattle.plan_steps.specs.declared.plan.Step.TheVariants as step
use Rattle.plan_steps.specs.Chains.{is_in}
use Rattle.plan_steps.specs.Check.{are_below, is_before, over_fits, overs_fit, first_fits, is_laid, differ, are_apart, all_laid, layers_fit}
use Rattle.plan_steps.specs.Named.{is_fetch, layer_of, over_in}
use Rattle.plan_steps.proofs.Checked.{at_some, any_at}
use Rattle.dedupe_steps.specs.Numbered.{at}
use Rattle.dedupe_steps.specs.Quotient.{new_layer_of, steps_in, ground_at, new_layer, new_step}
use Rattle.dedupe_steps.proofs.Layers.{not_before, is_in_steps, layers_checked, laid_checked, layer_there, layer_moved}
use Rattle.dedupe_steps.proofs.Lists.{map_get, get_below}
use Rattle.dedupe_steps.proofs.Merging.{Merging, to, M, back}
use Rattle.dedupe_steps.proofs.Same.{both_so}
use Rattle.dedupe_steps.proofs.StepsFit.{less_so, numbered_before, IsGround, first_some, over_checked, ground_checked, fetch_stays}

-- ---- what is so of all

pub all_from : {A : Type 0} (test : A → Bool) (xs : List A) → ((i : ℕ) (x : A) → slice_get xs i ≡ Some x → test x ≡ true) → list_all test xs ≡ true
all_from test [] f = refl
all_from test (x ∷ xs) f = both_so _ _ (f 0 x refl) (all_from test xs (λ i y e. f (suc i) y e))

none_from : {A : Type 0} (test : A → Bool) (xs : List A) → ((i : ℕ) (x : A) → slice_get xs i ≡ Some x → test x ≡ false) → list_any test xs ≡ false
none_from test [] f = refl
none_from test (x ∷ xs) f = ap (λ b. b || list_any test xs) (f 0 x refl) ∙ none_from test xs (λ i y e. f (suc i) y e)

-- ---- the steps of a layer

-- what each step of a new layer passes
steps_pass : (layers : List Layer) (to_layer : List ℕ) (x m : ℕ) (firsts : List ℕ) (test : ℕ → Bool)
    → ((i j : ℕ) → slice_get firsts i ≡ Some j → same_place (new_layer_of layers to_layer j) (Some x) ≡ true → test (m + i) ≡ true) → list_all test (steps_in layers to_layer x m firsts) ≡ true
steps_pass layers to_layer x m [] test f = refl
steps_pass layers to_layer x m (k ∷ firsts) test f =
    let rest = steps_pass layers to_layer x (m + 1) firsts test (λ i j e pass.
    let next_ : m + suc i ≡ m + 1 + i = omega arith in
    sym (ap test next_) ∙ f (suc i) j e pass) in
    let here : m + 0 ≡ m = omega arith in
    by (same_place (new_layer_of layers to_layer k) (Some x)) refl (λ pass. sym (ap test here) ∙ f 0 k refl pass) rest where
      by : (b : Bool) → same_place (new_layer_of layers to_layer k) (Some x) ≡ b → (same_place (new_layer_of layers to_layer k) (Some x) ≡ true → test m ≡ true) → list_all test (steps_in layers to_layer x (m + 1) firsts) ≡ true
          → list_all test (cond b (m ∷ steps_in layers to_layer x (m + 1) firsts) (steps_in layers to_layer x (m + 1) firsts)) ≡ true
      by true e f rest = both_so _ _ (f e) rest
      by false e f rest = rest

steps_differ : (layers : List Layer) (to_layer : List ℕ) (x m : ℕ) (firsts : List ℕ) → differ (steps_in layers to_layer x m firsts) ≡ true
steps_differ layers to_layer x m [] = refl
steps_differ layers to_layer x m (k ∷ firsts) = by (same_place (new_layer_of layers to_layer k) (Some x)) (steps_differ layers to_layer x (m + 1) firsts) (not_before layers to_layer x (m + 1) firsts m (omega arith)) where
  by : (b : Bool) → differ (steps_in layers to_layer x (m + 1) firsts) ≡ true → is_in (steps_in layers to_layer x (m + 1) firsts) m ≡ false → differ (cond b (m ∷ steps_in layers to_layer x (m + 1) firsts) (steps_in layers to_layer x (m + 1) firsts)) ≡ true
  by true rest new = both_so _ _ (ap not new) rest
  by false rest new = rest

-- ---- the first layer and the others

overs_from : (plan : Plan) (n : ℕ) (layers : List Layer) → ((i : ℕ) (l : Layer) → slice_get layers i ≡ Some l → over_fits plan (n + i) l.over ≡ true) → overs_fit plan n layers ≡ true
overs_from plan n [] f = refl
overs_from plan n (l ∷ layers) f =
    let here : n + 0 ≡ n = omega arith in
    both_so _ _ (sym (ap (λ k. over_fits plan k l.over) here) ∙ f 0 l refl)
    (overs_from plan (n + 1) layers (λ i x e.
    let next_ : n + suc i ≡ n + 1 + i = omega arith in
    sym (ap (λ k. over_fits plan k x.over) next_) ∙ f (suc i) x e))

ground_none : (plan : Plan) (n : ℕ) (o : Option ℕ) → n ≡ 0 → IsGround plan n o → o ≡ None
ground_none plan n o e (inl z) = z.1
ground_none plan n o e (inr z) = let lt = z.0 in absurd (omega (arith, e, lt))

ground_over : (plan : Plan) (n : ℕ) (o : Option ℕ) → 0 < n → IsGround plan n o → over_fits plan n o ≡ true
ground_over plan n o lt (inl z) = let e = z.0 in absurd (omega (arith, lt, e))
ground_over plan n o lt (inr z) = z.1

first_from : (plan : Plan) (layers : List Layer) → 0 < length layers → ((i : ℕ) (l : Layer) → slice_get layers i ≡ Some l → IsGround plan i l.over) → first_fits plan layers ≡ true
first_from plan [] lt f = absurd (omega (arith, lt))
first_from plan (l ∷ layers) lt f =
    both_so _ _ (ap (λ o. not (is_some o)) (ground_none plan 0 l.over refl (f 0 l refl)))
    (overs_from plan 1 layers (λ i x e.
    let next_ : suc i ≡ 1 + i = omega arith in
    sym (ap (λ k. over_fits plan k x.over) next_) ∙ ground_over plan (suc i) x.over (omega arith) (f (suc i) x e)))

pub laid_from : (layers : List Layer) (k : ℕ) (steps : List Step) → ((i : ℕ) (s : Step) → slice_get steps i ≡ Some s → is_laid layers (k + i) ≡ true) → all_laid layers k steps ≡ true
laid_from layers k [] f = refl
laid_from layers k (s ∷ steps) f =
    let here : k + 0 ≡ k = omega arith in
    both_so _ _ (sym (ap (is_laid layers) here) ∙ f 0 s refl)
    (laid_from layers (k + 1) steps (λ i t e.
    let next_ : k + suc i ≡ k + 1 + i = omega arith in
    sym (ap (is_laid layers) next_) ∙ f (suc i) t e))

module _ (m : Merging) where
  abbrev lto : ℕ → ℕ
  lto = at m.l.to

  abbrev new : ℕ → Layer
  new = new_layer m.plan m.r m.l

  -- the first layer stays the first
  zero_first : (y : ℕ) → slice_get m.l.firsts 0 ≡ Some y → y ≡ 0
  zero_first y first =
      let f = m.laid.first 0 y first in
      let below = f.0 in
      let some : 0 < length m.plan.layers = omega (arith, below) in
      elim (cases_lt 0 y) [
        | inl lt ↦ absurd (let z = numbered_before (length m.plan.layers) (ground_at m.r.to m.plan.layers) m.l m.laid 0 y 0 first lt in omega (arith, z))
        | inr le ↦ omega (arith, le)
      ]

  later_first : (n y : ℕ) → 0 < n → slice_get m.l.firsts n ≡ Some y → 0 < y
  later_first n y lt first =
      let z = at_some m.l.firsts 0 (let b = get_below m.l.firsts n y first in omega (arith, b, lt)) in
      let rises = m.laid.rising 0 n z.0 y z.1 first lt in
      omega (arith, rises)

  over_made : (n y s : ℕ) → slice_get m.l.firsts n ≡ Some y → over_in (slice_get m.plan.layers y) ≡ Some s → over_fits (M m) n (Some (to m s)) ≡ true
  over_made n y s first e =
      let f = over_checked m y s e in
      let is = ap (λ o. Rattle.std.specs.Prelude.is_some (Rattle.plan_steps.specs.Named.fetch_in o)) f.is_fetch_ in
      both_so _ _ (fetch_stays m s is)
      (ap (λ o. is_before o n) (layer_moved m s (step.Fetch f.fetch) f.layer f.is_fetch_ f.is_layer)
      ∙ less_so (lto f.layer) n (numbered_before (length m.plan.layers) (ground_at m.r.to m.plan.layers) m.l m.laid n y f.layer first f.before))

  over_some : (y : ℕ) (l : Layer) → 0 < y → slice_get m.plan.layers y ≡ Some l → (s : ℕ) × (l.over ≡ Some s)
  over_some y l lt e = by l.over (ground_over m.plan y l.over lt (ground_checked m y l e)) where
    by : (o : Option ℕ) → over_fits m.plan y o ≡ true → (s : ℕ) × (o ≡ Some s)
    by None h = cc
    by (Some s) h = (s, refl)

  ground_new : (n : ℕ) (l : Layer) → slice_get (M m).layers n ≡ Some l → IsGround (M m) n l.over
  ground_new n l h =
      let y = map_get new m.l.firsts n l h in
      let f = m.laid.first n y.0 y.1 in
      let old = at_some m.plan.layers y.0 f.0 in
      subst (λ x. IsGround (M m) n x.over) y.2 (elim (cases_lt 0 n) [
        | inl lt ↦
            let s = over_some y.0 old.0 (later_first n y.0 lt y.1) old.1 in
            let is : over_in (slice_get m.plan.layers y.0) ≡ Some s.0 = ap over_in old.1 ∙ s.1 in
            inr (lt, ap (λ o. over_fits (M m) n (option_map (to m) o)) is ∙ over_made n y.0 s.0 y.1 is)
        | inr le ↦
            let none : n ≡ 0 = omega (arith, le) in
            let start = zero_first y.0 (sym (ap (slice_get m.l.firsts) none) ∙ y.1) in
            inl (none, ap (λ o. option_map (to m) (over_in o)) old.1 ∙ ap (option_map (to m)) (ground_none m.plan y.0 old.0.over start (ground_checked m y.0 old.0 old.1)))
      ])

  some_layers : 0 < length (M m).layers
  some_layers =
      let old = first_some m.plan m.plan.layers (first_so _ _ (layers_checked m.base m.tree m.plan m.checked)) in
      let named = m.laid.named 0 old in
      let e = length-map m.l.firsts new in
      omega (arith, e, named)

  -- ---- each step stands once

  all_within : list_all (λ l. are_below (length (M m).steps) l.steps) (M m).layers ≡ true
  all_within =
      all_from (λ l. are_below (length (M m).steps) l.steps) (M m).layers (λ n l h.
      let y = map_get new m.l.firsts n l h in
      ap (λ x. are_below (length (M m).steps) x.steps) (sym y.2)
      ∙ steps_pass m.plan.layers m.l.to (lto y.0) 0 m.r.firsts (λ c. nat_lt c (length (M m).steps)) (λ i j e pass.
      let below = get_below m.r.firsts i j e in
      let long = length-map m.r.firsts (new_step m.plan.steps m.r.to) in
      less_so (0 + i) (length (M m).steps) (omega (arith, below, long))))

  same_number : (o : Option ℕ) (x z : ℕ) → same_place o (Some x) ≡ true → x ≢ z → same_place o (Some z) ≡ false
  same_number o x z h apart =
      let is = same_place_true o (Some x) h in
      ap (λ q. same_place q (Some z)) is ∙ ne_eqb x z apart

  apart_from : (p : ℕ) (ys : List ℕ) → ((i y : ℕ) → slice_get ys i ≡ Some y → lto y ≡ p + i) → are_apart (map new ys) ≡ true
  apart_from p [] f = refl
  apart_from p (y ∷ ys) f =
      let here : p + 0 ≡ p = omega arith in
      let mine : lto y ≡ p = f 0 y refl ∙ here in
      both_so _ _ (steps_differ m.plan.layers m.l.to (lto y) 0 m.r.firsts)
      (both_so _ _
      (steps_pass m.plan.layers m.l.to (lto y) 0 m.r.firsts (λ k. not (is_laid (map new ys) k)) (λ i j e pass.
      ap not (none_from (λ l. is_in l.steps (0 + i)) (map new ys) (λ q l h.
      let z = map_get new ys q l h in
      let its = f (suc q) z.0 z.1 in
      let apart : lto y ≢ lto z.0 = λ same. absurd (omega (arith, its, mine, same)) in
      sym (ap (λ x. is_in x.steps (0 + i)) z.2)
      ∙ is_in_steps m.plan.layers m.l.to (lto z.0) 0 m.r.firsts i j e
      ∙ same_number (new_layer_of m.plan.layers m.l.to j) (lto y) (lto z.0) pass apart))))
      (apart_from (p + 1) ys (λ i z e. let q = f (suc i) z e in omega (arith, q))))

  apart : are_apart (M m).layers ≡ true
  apart = apart_from 0 m.l.firsts (λ i y e. let f = m.laid.first i y e in let is = f.1 in omega (arith, is))

  laid : all_laid (M m).layers 0 (M m).steps ≡ true
  laid =
      laid_from (M m).layers 0 (M m).steps (λ n x h.
      let b = back m n x h in
      let y = laid_checked m.base m.tree m.plan m.checked b.old b.step_ b.is_old in
      let is : layer_of (M m).layers n ≡ Some (lto y.0) = sym (ap (layer_of (M m).layers) b.to_) ∙ layer_moved m b.old b.step_ y.0 b.is_old y.1 in
      let z = layer_there (M m) n (lto y.0) is in
      let e : n ≡ 0 + n = omega arith in
      sym (ap (is_laid (M m).layers) e) ∙ any_at (λ l. is_in l.steps n) (M m).layers (lto y.0) z.0 z.1 z.2)

  pub layers_there : layers_fit (M m) ≡ true
  layers_there = both_so _ _ (first_from (M m) (M m).layers some_layers ground_new) (both_so _ _ all_within (both_so _ _ apart laid))
