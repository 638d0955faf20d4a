-- The steps of a quotient are well formed.
use Rattle.std.proofs.Common.{◌≡◌, ℕ, zero, suc, ◌+◌, ◌<◌, List, [], ◌∷◌, length, Option, Some, None, Bool, true, false, refl, sym, ap, ◌∙◌, subst, arith, inl, inr, ◌⊎◌, eq-eqb}
use Rattle.std.proofs.lemmas.Bool.{cases_lt}
use Rattle.std.proofs.lemmas.Bool.Decides.{nat_tests}
use Rattle.std.specs.Prelude.{slice_get, ◌==◌, ◌&&◌, nat_lt, option_map, is_some, IsTrue}
use Rattle.std.specs.Cmp.{first_so, second_so}
use Rattle.pg_base.specs.Base.{BaseParts}
use Rattle.pg_base.specs.Catalog.{CatalogParts}
use Rattle.place_tree.specs.Fold.{same_place}
use Rattle.place_tree.proofs.Folds.{same_place_true}
use Rattle.place_tree.specs.declared.place.Tree.{Tree}
use Rattle.plan_steps.specs.declared.plan.FetchStep.{FetchStep, out-FetchStep}
use Rattle.plan_steps.specs.declared.plan.Layer.{Layer}
use Rattle.plan_steps.specs.declared.plan.Plan.{Plan}
use Rattle.plan_steps.specs.declared.plan.Step.{Step}
use Rattle.plan_steps.specs.declared.plan.Step.TheVariants as step
use Rattle.plan_steps.specs.Chains.{chain, is_in}
use Rattle.plan_steps.specs.Check.{are_below, width_of, own_fits, children_fit, has_key, fetch_has, item_has, row_has, parent_has, fetch_fits, step_fits, is_above, stands_over, name_fits, steps_fit, is_before, over_fits, overs_fit, first_fits, is_checked}
use Rattle.plan_steps.specs.Named.{named_by, fetch_in, fetch_at, is_fetch, is_given_in, is_given, item_in, item_at, layer_of, over_in, over, layer_or_none, layer_above}
use Rattle.plan_steps.proofs.Bools.{or_cases, or_left, or_right}
use Rattle.plan_steps.proofs.Checked.{at_some, fetch_from, step_checked}
use Rattle.dedupe_steps.specs.Keys.{hung, moved}
use Rattle.dedupe_steps.specs.Numbered.{at, Renaming, IsNumbered}
use Rattle.dedupe_steps.specs.Quotient.{ground_at, new_layer}
use Rattle.dedupe_steps.proofs.Layers.{layers_checked, laid_checked, layer_there, layer_moved, over_new, over_moved}
use Rattle.dedupe_steps.proofs.Lists.{some_one, get_below}
use Rattle.dedupe_steps.proofs.Merging.{out_hung, given_from, Merging, to, M, rows_of, back, other_there, fetch_there}
use Rattle.dedupe_steps.proofs.Same.{both_so}
use Rattle.dedupe_steps.proofs.Serving.{new_as}
use Rattle.dedupe_steps.proofs.Used.{less_told, chain_cases, chain_itself, chain_on, mapped_some}

pub less_so : (a b : ℕ) → a < b → nat_lt a b ≡ true
less_so a b lt = grind (arith, nat_tests, lt)

-- ---- numbers

-- what comes before the first of a number has a smaller one
pub numbered_before : {K : Type 0} (count : ℕ) (key : ℕ → K) (r : Renaming) → IsNumbered count key r → (n j i : ℕ) → slice_get r.firsts n ≡ Some j → i < j → at r.to i < n
numbered_before count key r num n j i first lt =
    let f = num.first n j first in
    let j_in = f.0 in
    let i_in : i < count = omega (arith, lt, j_in) in
    let z = at_some r.firsts (at r.to i) (num.named i i_in) in
    let le = num.least (at r.to i) i z.0 z.1 i_in refl in
    elim (cases_lt (at r.to i) n) [
      | inl less ↦ less
      | inr more ↦ elim (cases_lt n (at r.to i)) [
        | inl above ↦ let rises = num.rising n (at r.to i) j z.0 first z.1 above in absurd (omega (arith, rises, le, lt))
        | inr same ↦
            let e : at r.to i ≡ n = omega (arith, more, same) in
            let low = num.least n i j first i_in e in
            absurd (omega (arith, low, lt))
      ]
    ]

-- ---- the names of a plan that is checked

named_told : (catalog : CatalogParts) (plan : Plan) (from : ℕ) (steps : List Step) → steps_fit catalog plan from steps ≡ true → (i : ℕ) (s : Step) → slice_get steps i ≡ Some s → name_fits plan (from + i) (named_by s) ≡ true
named_told catalog plan from [] h i s e = cc
named_told catalog plan from (t ∷ steps) h zero s e =
    let same : t ≡ s = some_one t s e in
    let here : from ≡ from + 0 = omega arith in
    subst (λ n. name_fits plan n (named_by s) ≡ true) here (subst (λ x. name_fits plan from (named_by x) ≡ true) same (second_so (step_fits catalog plan from t) _ (first_so _ _ h)))
named_told catalog plan from (t ∷ steps) h (suc i) s e =
    let next_ : from + 1 + i ≡ from + suc i = omega arith in
    subst (λ n. name_fits plan n (named_by s) ≡ true) next_ (named_told catalog plan (from + 1) steps (second_so (step_fits catalog plan from t && name_fits plan from (named_by t)) _ h) i s e)

name_checked : (base : BaseParts) (tree : Tree) (plan : Plan) → IsTrue (is_checked base tree plan) → (k : ℕ) (s : Step) → slice_get plan.steps k ≡ Some s → name_fits plan k (named_by s) ≡ true
name_checked base tree plan ok k s h =
    let e : 0 + k ≡ k = omega arith in
    subst (λ n. name_fits plan n (named_by s) ≡ true) e (named_told base.catalog plan 0 plan.steps (first_so _ _ ok) k s h)

pub all_steps_fit : (catalog : CatalogParts) (plan : Plan) (from : ℕ) (steps : List Step) → ((i : ℕ) (s : Step) → slice_get steps i ≡ Some s → (step_fits catalog plan (from + i) s ≡ true) × (name_fits plan (from + i) (named_by s) ≡ true)) → steps_fit catalog plan from steps ≡ true
all_steps_fit catalog plan from [] f = refl
all_steps_fit catalog plan from (s ∷ steps) f =
    let z : from + 0 ≡ from = omega arith in
    let here : (step_fits catalog plan from s ≡ true) × (name_fits plan from (named_by s) ≡ true) = subst (λ n. (step_fits catalog plan n s ≡ true) × (name_fits plan n (named_by s) ≡ true)) z (f 0 s refl) in
    both_so _ _ (both_so _ _ here.0 here.1)
    (all_steps_fit catalog plan (from + 1) steps (λ i t e.
    let next_ : from + suc i ≡ from + 1 + i = omega arith in
    subst (λ n. (step_fits catalog plan n t ≡ true) × (name_fits plan n (named_by t) ≡ true)) next_ (f (suc i) t e)))

-- ---- the layers of a plan that is checked

over_told : (plan : Plan) (n : ℕ) (layers : List Layer) → overs_fit plan n layers ≡ true → (i : ℕ) (l : Layer) → slice_get layers i ≡ Some l → over_fits plan (n + i) l.over ≡ true
over_told plan n [] h i l e = cc
over_told plan n (x ∷ layers) h zero l e =
    let same : x ≡ l = some_one x l e in
    let here : n ≡ n + 0 = omega arith in
    subst (λ k. over_fits plan k l.over ≡ true) here (subst (λ y. over_fits plan n y.over ≡ true) same (first_so (over_fits plan n x.over) _ h))
over_told plan n (x ∷ layers) h (suc i) l e =
    let next_ : n + 1 + i ≡ n + suc i = omega arith in
    subst (λ k. over_fits plan k l.over ≡ true) next_ (over_told plan (n + 1) layers (second_so (over_fits plan n x.over) _ h) i l e)

-- the first layer stands over nothing, any other over a fetch of an earlier layer
abbrev pub IsGround : Plan → ℕ → Option ℕ → Type 0
IsGround plan n o = ((n ≡ 0) × (o ≡ None)) ⊎ ((0 < n) × (over_fits plan n o ≡ true))

pub ground_told : (plan : Plan) (layers : List Layer) → first_fits plan layers ≡ true → (n : ℕ) (l : Layer) → slice_get layers n ≡ Some l → IsGround plan n l.over
ground_told plan [] h n l e = cc
ground_told plan (x ∷ layers) h zero l e = inl (refl, none_of l.over (ap (λ y. is_some y.over) (sym (some_one x l e)) ∙ Rattle.plan_steps.proofs.Bools.not_false (is_some x.over) (first_so _ _ h))) where
  none_of : (o : Option ℕ) → is_some o ≡ false → o ≡ None
  none_of None h = refl
  none_of (Some y) h = cc
ground_told plan (x ∷ layers) h (suc n) l e =
    let z : 1 + n ≡ suc n = omega arith in
    inr (omega arith, subst (λ k. over_fits plan k l.over ≡ true) z (over_told plan 1 layers (second_so _ _ h) n l e))

pub first_some : (plan : Plan) (layers : List Layer) → first_fits plan layers ≡ true → 0 < length layers
first_some plan [] h = cc
first_some plan (x ∷ layers) h = omega arith

pub record OverFetch (plan : Plan) (n s : ℕ) : Type 0 where
  pub fetch : FetchStep
  pub is_fetch_ : slice_get plan.steps s ≡ Some (step.Fetch fetch)
  pub layer : ℕ
  pub is_layer : layer_of plan.layers s ≡ Some layer
  pub before : layer < n

before_is : (o : Option ℕ) (n : ℕ) → is_before o n ≡ true → (l : ℕ) × (o ≡ Some l) × (l < n)
before_is None n h = cc
before_is (Some l) n h = (l, refl, less_told l n h)

over_fetch : (plan : Plan) (n s : ℕ) → over_fits plan n (Some s) ≡ true → OverFetch plan n s
over_fetch plan n s h =
    let f = fetch_from plan.steps s (first_so _ _ h) in
    let l = before_is (layer_of plan.layers s) n (second_so (is_fetch plan.steps s) _ h) in
    record { fetch = f.0; is_fetch_ = f.1; layer = l.0; is_layer = l.1; before = l.2 }

module _ (m : Merging) where
  abbrev lto : ℕ → ℕ
  lto = at m.l.to

  pub ground_checked : (y : ℕ) (l : Layer) → slice_get m.plan.layers y ≡ Some l → IsGround m.plan y l.over
  ground_checked y l e = ground_told m.plan m.plan.layers (first_so _ _ (layers_checked m.base m.tree m.plan m.checked)) y l e

  -- the fetch over which a layer stands
  pub over_checked : (y s : ℕ) → over_in (slice_get m.plan.layers y) ≡ Some s → OverFetch m.plan y s
  over_checked y s e = by (slice_get m.plan.layers y) refl e where
    by : (o : Option Layer) → slice_get m.plan.layers y ≡ o → over_in o ≡ Some s → OverFetch m.plan y s
    by None is e = cc
    by (Some l) is e = elim (ground_checked y l is) [
      | inl z ↦ let none = sym e ∙ z.1 in cc
      | inr z ↦ over_fetch m.plan y s (sym (ap (over_fits m.plan y) e) ∙ z.1)
    ]

  -- ---- kinds

  pub fetch_stays : (s : ℕ) → is_fetch m.plan.steps s ≡ true → is_fetch (M m).steps (to m s) ≡ true
  fetch_stays s h =
      let f = fetch_from m.plan.steps s h in
      ap (λ o. is_some (fetch_in o)) (fetch_there m s f.0 f.1).is

  item_stays : (k s : ℕ) → item_at m.plan.steps k ≡ Some s → item_at (M m).steps (to m k) ≡ Some (to m s)
  item_stays k s h = by (slice_get m.plan.steps k) refl h where
    by : (o : Option Step) → slice_get m.plan.steps k ≡ o → item_in o ≡ Some s → item_at (M m).steps (to m k) ≡ Some (to m s)
    by (Some (step.Item t)) e h = ap item_in (other_there m k (step.Item t) refl e) ∙ ap (λ n. Some (to m n)) (some_one t s h)
    by None e h = cc
    by (Some (step.Const v)) e h = cc
    by (Some (step.Var v)) e h = cc
    by (Some step.Given) e h = cc
    by (Some (step.Fetch f)) e h = cc
    by (Some (step.Column i c)) e h = cc
    by (Some (step.Count t)) e h = cc
    by (Some (step.Page t part)) e h = cc
    by (Some (step.CursorOf i)) e h = cc

  table_there : (columns : List ℕ) (s : ℕ) → fetch_has m.base.catalog columns (fetch_at m.plan.steps s) ≡ true → fetch_has m.base.catalog columns (fetch_at (M m).steps (to m s)) ≡ true
  table_there columns s h = by (fetch_at m.plan.steps s) refl h where
    by : (o : Option FetchStep) → fetch_at m.plan.steps s ≡ o → fetch_has m.base.catalog columns o ≡ true → fetch_has m.base.catalog columns (fetch_at (M m).steps (to m s)) ≡ true
    by None e h = cc
    by (Some f) e h =
        let g = fetch_from m.plan.steps s (ap is_some e) in
        let same : g.0 ≡ f = some_one g.0 f (sym (ap fetch_in g.1) ∙ e) in
        let t = fetch_there m s g.0 g.1 in
        ap (λ o. fetch_has m.base.catalog columns (fetch_in o)) t.is
        ∙ ap (λ x. are_below (width_of m.base.catalog x) columns) ((new_as m s g.0 t).table ∙ ap (λ z. (out-FetchStep z).table) same) ∙ h

  row_stays : (columns : List ℕ) (k : ℕ) → row_has m.base.catalog m.plan.steps columns k ≡ true → row_has m.base.catalog (M m).steps columns (to m k) ≡ true
  row_stays columns k h =
      elim (or_cases (is_given m.plan.steps k) (item_has m.base.catalog m.plan.steps columns (item_at m.plan.steps k)) h) [
        | inl e ↦ or_left (is_given (M m).steps (to m k)) _ (ap is_given_in (other_there m k step.Given refl (given_from (slice_get m.plan.steps k) e)))
        | inr e ↦ or_right (is_given (M m).steps (to m k)) _ (by (item_at m.plan.steps k) refl e)
      ] where
        by : (o : Option ℕ) → item_at m.plan.steps k ≡ o → item_has m.base.catalog m.plan.steps columns o ≡ true → item_has m.base.catalog (M m).steps columns (item_at (M m).steps (to m k)) ≡ true
        by None e h = cc
        by (Some s) e h = ap (item_has m.base.catalog (M m).steps columns) (item_stays k s e) ∙ table_there columns s h

  -- ---- steps

  has_parent : (f : FetchStep) (p : Option ℕ) (rows : Bool) → has_key f p ≡ true → has_key (hung (option_map (to m) p) rows f) (option_map (to m) p) ≡ true
  has_parent f None rows h = ap (λ z. length z.key == length z.by) (out_hung None rows f) ∙ h
  has_parent f (Some p) rows h = ap (λ z. length z.parent_columns == length z.by) (out_hung (Some (to m p)) rows f) ∙ h

  parent_stays : (f : FetchStep) (p : Option ℕ) (rows : Bool) → parent_has m.base.catalog m.plan.steps f p ≡ true → parent_has m.base.catalog (M m).steps (hung (option_map (to m) p) rows f) (option_map (to m) p) ≡ true
  parent_stays f None rows h = refl
  parent_stays f (Some p) rows h = ap (λ z. row_has m.base.catalog (M m).steps z.parent_columns (to m p)) (out_hung (Some (to m p)) rows f) ∙ row_stays (out-FetchStep f).parent_columns p h

  fetch_moved : (f : FetchStep) (rows : Bool) → fetch_fits m.base.catalog m.plan.steps f ≡ true → fetch_fits m.base.catalog (M m).steps (hung (option_map (to m) (out-FetchStep f).parent) rows f) ≡ true
  fetch_moved f rows h =
      let p = (out-FetchStep f).parent in
      let g = hung (option_map (to m) p) rows f in
      let o = out_hung (option_map (to m) p) rows f in
      let own = first_so (own_fits m.base.catalog (out-FetchStep f)) _ h in
      let rest = second_so (own_fits m.base.catalog (out-FetchStep f)) _ h in
      let below = first_so (children_fit m.base.catalog (width_of m.base.catalog (out-FetchStep f).table) (out-FetchStep f).children) _ rest in
      let last = second_so (children_fit m.base.catalog (width_of m.base.catalog (out-FetchStep f).table) (out-FetchStep f).children) _ rest in
      let is_parent : option_map (to m) p ≡ (out-FetchStep g).parent = sym (ap (λ z. z.parent) o) in
      both_so _ _ (ap (own_fits m.base.catalog) o ∙ own)
      (both_so _ _ (ap (λ z. children_fit m.base.catalog (width_of m.base.catalog z.table) z.children) o ∙ below)
      (both_so _ _ (subst (λ q. has_key g q ≡ true) is_parent (has_parent f p rows (first_so _ _ last)))
      (subst (λ q. parent_has m.base.catalog (M m).steps g q ≡ true) is_parent (parent_stays f p rows (second_so (has_key f p) _ last)))))

  over_here : (n j s : ℕ) → to m j ≡ n → slice_get m.plan.steps j ≡ Some (step.Item s) → same_place (over m.plan.layers j) (Some s) ≡ true → same_place (over (M m).layers n) (Some (to m s)) ≡ true
  over_here n j s e h same =
      let is : over (M m).layers n ≡ Some (to m s) = sym (ap (over (M m).layers) e) ∙ over_moved m j (step.Item s) h ∙ ap (option_map (to m)) (same_place_true (over m.plan.layers j) (Some s) same) in
      ap (λ o. same_place o (Some (to m s))) is ∙ eq-eqb (to m s) (to m s) refl

  item_is : (k : ℕ) → is_some (item_at m.plan.steps k) ≡ true → is_some (item_at (M m).steps (to m k)) ≡ true
  item_is k h = by (item_at m.plan.steps k) refl h where
    by : (o : Option ℕ) → item_at m.plan.steps k ≡ o → is_some o ≡ true → is_some (item_at (M m).steps (to m k)) ≡ true
    by None e h = cc
    by (Some s) e h = ap is_some (item_stays k s e)

  step_stays : (n j : ℕ) (t : Step) → to m j ≡ n → slice_get m.plan.steps j ≡ Some t → step_fits m.base.catalog m.plan j t ≡ true → step_fits m.base.catalog (M m) n (moved m.r.to (rows_of m n) t) ≡ true
  step_stays n j (step.Const v) e h fits = refl
  step_stays n j (step.Var v) e h fits = refl
  step_stays n j step.Given e h fits = refl
  step_stays n j (step.Fetch f) e h fits = fetch_moved f (rows_of m n) fits
  step_stays n j (step.Item s) e h fits = both_so _ _ (fetch_stays s (first_so _ _ fits)) (over_here n j s e h (second_so (is_fetch m.plan.steps s) _ fits))
  step_stays n j (step.Column i c) e h fits = row_stays (c ∷ []) i fits
  step_stays n j (step.Count s) e h fits = fetch_stays s fits
  step_stays n j (step.Page s part) e h fits = both_so _ _ (fetch_stays s (first_so _ _ fits)) (second_so (is_fetch m.plan.steps s) _ fits)
  step_stays n j (step.CursorOf i) e h fits = item_is i fits

  -- ---- layers above layers

  -- over which layer a new one stands
  pub above_moved : (y : ℕ) → y < length m.plan.layers → (o : Option ℕ) → layer_above m.plan.layers y ≡ o → layer_above (M m).layers (lto y) ≡ option_map lto o
  above_moved y lt o e = by (over_in (slice_get m.plan.layers y)) refl where
    by : (q : Option ℕ) → over_in (slice_get m.plan.layers y) ≡ q → layer_above (M m).layers (lto y) ≡ option_map lto o
    by None is =
        ap (layer_or_none (M m).layers) (over_new m y lt ∙ ap (option_map (to m)) is)
        ∙ ap (option_map lto) (sym (ap (layer_or_none m.plan.layers) is) ∙ e)
    by (Some s) is =
        let f = over_checked y s is in
        ap (layer_or_none (M m).layers) (over_new m y lt ∙ ap (option_map (to m)) is)
        ∙ layer_moved m s (step.Fetch f.fetch) f.layer f.is_fetch_ f.is_layer
        ∙ ap (option_map lto) (sym f.is_layer ∙ sym (ap (layer_or_none m.plan.layers) is) ∙ e)

  above_falls : (y w : ℕ) → layer_above m.plan.layers y ≡ Some w → w < y
  above_falls y w e = by (over_in (slice_get m.plan.layers y)) refl where
    by : (q : Option ℕ) → over_in (slice_get m.plan.layers y) ≡ q → w < y
    by None is = let none = sym (ap (layer_or_none m.plan.layers) is) ∙ e in cc
    by (Some s) is =
        let f = over_checked y s is in
        let same : f.layer ≡ w = some_one f.layer w (sym f.is_layer ∙ sym (ap (layer_or_none m.plan.layers) is) ∙ e) in
        let lt = f.before in
        omega (arith, lt, same)

  new_falls : (y w : ℕ) → y < length m.plan.layers → layer_above m.plan.layers y ≡ Some w → lto w < lto y
  new_falls y w lt e =
      let f = at_some m.l.firsts (lto y) (m.laid.named y lt) in
      let g = m.laid.first (lto y) f.0 f.1 in
      let here = above_moved y lt (Some w) e in
      let there = above_moved f.0 g.0 (layer_above m.plan.layers f.0) refl in
      let z = mapped_some lto (layer_above m.plan.layers f.0) (lto w) (sym there ∙ ap (layer_above (M m).layers) g.1 ∙ here) in
      let less = numbered_before (length m.plan.layers) (ground_at m.r.to m.plan.layers) m.l m.laid (lto y) f.0 z.0 f.1 (above_falls f.0 z.0 z.1) in
      let same = z.2 in
      omega (arith, less, same)

  chain_there : (f g y z : ℕ) → y < length m.plan.layers → lto y < g → is_in (chain (layer_above m.plan.layers) f y) z ≡ true → is_in (chain (layer_above (M m).layers) g (lto y)) (lto z) ≡ true
  chain_there zero g y z lt less h = cc
  chain_there (suc f) zero y z lt less h = absurd (omega (arith, less))
  chain_there (suc f) (suc g) y z lt less h =
      elim (chain_cases (layer_above m.plan.layers) f y z h) [
        | inl e ↦ chain_itself (layer_above (M m).layers) g (lto y) (lto z) (ap lto e)
        | inr w ↦
            let down = above_falls y w.0 w.1 in
            let fall = new_falls y w.0 lt w.1 in
            chain_on (layer_above (M m).layers) g (lto y) (lto w.0) (lto z) (above_moved y lt (Some w.0) w.1)
            (chain_there f g w.0 z (omega (arith, down, lt)) (omega (arith, fall, less)) w.2)
      ]

  pub stands_moved : (y z : ℕ) → y < length m.plan.layers → is_above m.plan.layers y z ≡ true → is_above (M m).layers (lto y) (lto z) ≡ true
  stands_moved y z lt h =
      let below = m.laid.named y lt in
      let long : lto y < length (M m).layers = let e = Rattle.std.proofs.lemmas.List.length-map m.l.firsts (new_layer m.plan m.r m.l) in omega (arith, e, below) in
      chain_there (length m.plan.layers) (length (M m).layers) y z lt long h

  pub layer_of_below : (k y : ℕ) → layer_of m.plan.layers k ≡ Some y → y < length m.plan.layers
  layer_of_below k y e = let z = layer_there m.plan k y e in get_below m.plan.layers y z.0 z.1

  -- ---- names

  named_moved : (rows : Bool) (t : Step) → named_by (moved m.r.to rows t) ≡ option_map (to m) (named_by t)
  named_moved rows (step.Const v) = refl
  named_moved rows (step.Var v) = refl
  named_moved rows step.Given = refl
  named_moved rows (step.Fetch f) = ap (λ z. z.parent) (out_hung (option_map (to m) (out-FetchStep f).parent) rows f)
  named_moved rows (step.Item s) = refl
  named_moved rows (step.Column i c) = refl
  named_moved rows (step.Count s) = refl
  named_moved rows (step.Page s part) = refl
  named_moved rows (step.CursorOf i) = refl

  name_stays : (n j : ℕ) (t : Step) (first : slice_get m.r.firsts n ≡ Some j) → to m j ≡ n → slice_get m.plan.steps j ≡ Some t → (o : Option ℕ) → name_fits m.plan j o ≡ true → name_fits (M m) n (option_map (to m) o) ≡ true
  name_stays n j t first e h None fits = refl
  name_stays n j t first e h (Some i) fits =
      let lt = less_told i j (first_so (nat_lt i j) _ fits) in
      let j_in = get_below m.plan.steps j t h in
      let s = at_some m.plan.steps i (omega (arith, lt, j_in)) in
      let y = laid_checked m.base m.tree m.plan m.checked j t h in
      let z = laid_checked m.base m.tree m.plan m.checked i s.0 s.1 in
      let over_ : is_above m.plan.layers y.0 z.0 ≡ true = sym (ap (λ o. stands_over m.plan.layers o (Some z.0)) y.1) ∙ sym (ap (stands_over m.plan.layers (layer_of m.plan.layers j)) z.1) ∙ second_so (nat_lt i j) _ fits in
      let mine : layer_of (M m).layers n ≡ Some (lto y.0) = sym (ap (layer_of (M m).layers) e) ∙ layer_moved m j t y.0 h y.1 in
      both_so _ _ (less_so (to m i) n (numbered_before (length m.plan.steps) _ m.r m.numbered n j i first lt))
      (ap (stands_over (M m).layers (layer_of (M m).layers n)) (layer_moved m i s.0 z.0 s.1 z.1)
      ∙ ap (λ o. stands_over (M m).layers o (Some (lto z.0))) mine
      ∙ stands_moved y.0 z.0 (layer_of_below j y.0 y.1) over_)

  pub steps_there : steps_fit m.base.catalog (M m) 0 (M m).steps ≡ true
  steps_there =
      all_steps_fit m.base.catalog (M m) 0 (M m).steps (λ n x h.
      let zero_ : n ≡ 0 + n = omega arith in
      let b = back m n x h in
      let fits = step_checked m.base m.tree m.plan m.checked b.old b.step_ b.is_old in
      let names = name_checked m.base m.tree m.plan m.checked b.old b.step_ b.is_old in
      subst (λ k. (step_fits m.base.catalog (M m) k x ≡ true) × (name_fits (M m) k (named_by x) ≡ true)) zero_ (
        ap (step_fits m.base.catalog (M m) n) b.is ∙ step_stays n b.old b.step_ b.to_ b.is_old fits,
        ap (λ z. name_fits (M m) n (named_by z)) b.is ∙ ap (name_fits (M m) n) (named_moved (rows_of m n) b.step_)
            ∙ name_stays n b.old b.step_ b.first b.to_ b.is_old (named_by b.step_) names,
      ))
