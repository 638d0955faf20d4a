-- The tests of a plan that is well formed place by place.
use Rattle.std.proofs.Common.{◌≡◌, ◌≢◌, ℕ, zero, suc, ◌+◌, ◌<◌, List, [], ◌∷◌, ◌++◌, ◌&&◌, ◌||◌, not, map, length, Option, Some, None, Bool, true, false, refl, sym, ap, ◌∙◌, subst, arith, eq-eqb, ne_eqb}
use Rattle.std.specs.Prelude.{slice_get, nat_lt, is_some, IsSomeAnd, IfSome, ◌==◌}
use Rattle.std.specs.List.{list_all, list_any}
use Rattle.pg_base.specs.Base.{BaseParts}
use Rattle.pg_base.specs.Lists.{Each, AreDistinct, AreBelow}
use Rattle.place_tree.specs.declared.place.Place.{Place}
use Rattle.place_tree.specs.declared.place.Tree.{Tree}
use Rattle.plan_steps.specs.Chains.{chain, or_nothing, is_in}
use Rattle.plan_steps.specs.Check.{are_below, step_fits, is_above, stands_over, name_fits, steps_fit, is_before, over_fits, overs_fit, first_fits, is_laid, differ, are_apart, all_laid, layers_fit, table_has, tables_have, column_takes, fetch_takes, takes_given, given_fits, out_fits, places_differ, outs_fit, is_checked}
use Rattle.plan_steps.specs.Named.{named_by, is_given, is_fetch, layer_of, over_in, layer_or_none, layer_above, used_by}
use Rattle.plan_steps.specs.Under.{above, mutated_at}
use Rattle.plan_steps.specs.declared.plan.FetchStep.{FetchStep, out-FetchStep}
use Rattle.plan_steps.specs.declared.plan.Layer.{Layer}
use Rattle.plan_steps.specs.declared.plan.OutPlace.{OutPlace}
use Rattle.plan_steps.specs.declared.plan.Step.{Step}
use Rattle.plan_steps.specs.declared.plan.Step.TheVariants as step
use Rattle.step_plan.specs.Drafted.{Making, plan_of}
use Rattle.step_plan.proofs.Checked.{StandsUp, itself, further, From, IsStepAt, IsOver, IsOut, AreGood}
use Rattle.step_plan.proofs.Givens.{TakesBy, TakesIn, IsTaken}
use Rattle.step_plan.proofs.Grown.{IsTableAbove}
use Rattle.step_plan.proofs.Layers.{steps_in, layer_at}
use Rattle.step_plan.proofs.Ranges.{below_test, both, are_below_test, all_test}

-- ---- what is taken from a row that is given

one_table : (base : BaseParts) (places : List Place) (table : Option ℕ) (columns : List ℕ) → IsSomeAnd table (λ t. AreBelow (Rattle.plan_steps.specs.Check.width_of base.catalog t) columns) → (o : Option ℕ) → ((t : ℕ) → o ≡ Some t → table ≡ Some t) → table_has base.catalog columns o ≡ true
one_table base places table columns h None f = refl
one_table base places table columns h (Some t) f =
    are_below_test (Rattle.plan_steps.specs.Check.width_of base.catalog t) columns (subst (λ o. IsSomeAnd o (λ t. AreBelow (Rattle.plan_steps.specs.Check.width_of base.catalog t) columns)) (f t refl) h)

tables_test : (base : BaseParts) (places : List Place) (table : Option ℕ) (columns : List ℕ) (i : ℕ) → IsSomeAnd table (λ t. AreBelow (Rattle.plan_steps.specs.Check.width_of base.catalog t) columns) → (parent : Option ℕ) → above places i ≡ parent → IsTableAbove base.schema places table parent → tables_have base places i columns ≡ true
tables_test base places table columns i h None e t = ap (λ o. list_all (λ j. table_has base.catalog columns (mutated_at base.schema places j)) (or_nothing (chain (above places) (length places)) o)) e
tables_test base places table columns i h (Some a) e t =
    ap (λ o. list_all (λ j. table_has base.catalog columns (mutated_at base.schema places j)) (or_nothing (chain (above places) (length places)) o)) e
    ∙ all_test (λ x. (t : ℕ) → mutated_at base.schema places x ≡ Some t → table ≡ Some t) (λ j. table_has base.catalog columns (mutated_at base.schema places j))
    (λ x f. one_table base places table columns h (mutated_at base.schema places x) f) (chain (above places) (length places) a) (t (length places))

not_or : (b c : Bool) → (b ≡ true → c ≡ true) → (not b || c) ≡ true
not_or true c f = f refl
not_or false c f = refl

module _ (base : BaseParts) (places : List Place) (steps : List Step) (table : Option ℕ) (i : ℕ) (parent : Option ℕ) (e : above places i ≡ parent) (t : IsTableAbove base.schema places table parent) where
  fetch_test : (f : FetchStep) (o : Option ℕ) → TakesBy base steps table f o → fetch_takes base places steps i f o ≡ true
  fetch_test f None h = refl
  fetch_test f (Some p) h = not_or (is_given steps p) (tables_have base places i (out-FetchStep f).parent_columns) (λ q. tables_test base places table (out-FetchStep f).parent_columns i (h q) parent e t)

  takes_test : (o : Option Step) → TakesIn base steps table o → takes_given base places steps i o ≡ true
  takes_test None h = refl
  takes_test (Some (step.Const v)) h = refl
  takes_test (Some (step.Var path)) h = refl
  takes_test (Some step.Given) h = refl
  takes_test (Some (step.Fetch f)) h = fetch_test f (out-FetchStep f).parent h
  takes_test (Some (step.Item s)) h = refl
  takes_test (Some (step.Column row c)) h = not_or (is_given steps row) (tables_have base places i (c ∷ [])) (λ q. tables_test base places table (c ∷ []) i (h q) parent e t)
  takes_test (Some (step.Count s)) h = refl
  takes_test (Some (step.Page s part)) h = refl
  takes_test (Some (step.CursorOf s)) h = refl

  pub given_test : (o : OutPlace) → o.place ≡ i → IsTaken base steps table o.step → given_fits base places steps o ≡ true
  given_test o same h =
      ap (λ n. list_all (λ k. takes_given base places steps n (slice_get steps k)) (used_by steps o.step)) same
      ∙ all_test (λ x. TakesIn base steps table (slice_get steps x)) (λ k. takes_given base places steps i (slice_get steps k)) (λ k q. takes_test (slice_get steps k) q) (used_by steps o.step) (h (length steps))

-- ---- the whole plan

or_later : (a b : Bool) → b ≡ true → (a || b) ≡ true
or_later true b h = refl
or_later false b h = h

module _ (base : BaseParts) (tree : Tree) (whole : Making) (good : AreGood base tree whole whole (length tree.places)) where
  abbrev layers : List Layer
  layers = whole.layers

  -- ---- layers over layers

  layer_there : (k l : ℕ) → layer_of layers k ≡ Some l → l < length layers
  layer_there k l e = let at = layer_at 0 layers k l e in let a = at.1 in let b = at.2 in omega (arith, a, b)

  over_earlier : (l s up : ℕ) → l < length layers → over_in (slice_get layers l) ≡ Some s → layer_of layers s ≡ Some up → up < l
  over_earlier zero s up lt o e = let none : over_in (slice_get layers 0) ≡ None = good.overs 0 lt in let q : None ≡ Some s = sym none ∙ o in cc
  over_earlier (suc l) s up lt o e =
      let h = subst (λ x. IsSomeAnd x (λ s. (is_fetch whole.steps s ≡ true) × IsSomeAnd (layer_of layers s) (λ m. m < suc l))) o (good.overs (suc l) lt) in
      subst (λ x. IsSomeAnd x (λ m. m < suc l)) e h.1

  above_is : (l s up : ℕ) → over_in (slice_get layers l) ≡ Some s → layer_of layers s ≡ Some up → layer_above layers l ≡ Some up
  above_is l s up o e = ap (layer_or_none layers) o ∙ e

  up_in : (n l m : ℕ) → StandsUp layers l m → l < n → l < length layers → is_in (chain (layer_above layers) n l) m ≡ true
  up_in zero l m u lt within = absurd (omega arith)
  up_in (suc n) l m (itself) lt within = ap (λ b. b || is_in (or_nothing (chain (layer_above layers) n) (layer_above layers l)) l) (eq-eqb l l refl)
  up_in (suc n) l m (further s up o e u) lt within =
      let less = over_earlier l s up within o e in
      or_later (l == m) (is_in (or_nothing (chain (layer_above layers) n) (layer_above layers l)) m)
      (ap (λ q. is_in (or_nothing (chain (layer_above layers) n) q) m) (above_is l s up o e) ∙ up_in n up m u (omega (arith, less, lt)) (omega (arith, less, within)))

  from_test : (l : ℕ) (o : Option ℕ) → l < length layers → IsSomeAnd o (λ m. StandsUp layers l m) → stands_over layers (Some l) o ≡ true
  from_test l None lt h = absurd h
  from_test l (Some m) lt h = up_in (length layers) l m h lt lt

  -- ---- steps

  name_test : (k : ℕ) (o : Option ℕ) → IfSome o (λ j. (j < k) × IsSomeAnd (layer_of layers k) (λ l. From base tree whole l j)) → name_fits (plan_of whole) k o ≡ true
  name_test k None h = refl
  name_test k (Some j) h =
      both (nat_lt j k) (stands_over layers (layer_of layers k) (layer_of layers j)) (below_test j k h.0) (by (layer_of layers k) refl h.1)
    where
      by : (o : Option ℕ) → layer_of layers k ≡ o → IsSomeAnd o (λ l. From base tree whole l j) → stands_over layers o (layer_of layers j) ≡ true
      by None e q = absurd q
      by (Some l) e q = from_test l (layer_of layers j) (layer_there k l e) q

  steps_test : (from : ℕ) (steps : List Step) → ((i : ℕ) (s : Step) → slice_get steps i ≡ Some s → IsStepAt base tree whole (from + i) s) → steps_fit base.catalog (plan_of whole) from steps ≡ true
  steps_test from [] h = refl
  steps_test from (s ∷ steps) h =
      let z : from + 0 ≡ from = omega arith in
      let first = subst (λ k. IsStepAt base tree whole k s) z (h 0 s refl) in
      both (step_fits base.catalog (plan_of whole) from s && name_fits (plan_of whole) from (named_by s)) _
      (both (step_fits base.catalog (plan_of whole) from s) (name_fits (plan_of whole) from (named_by s)) first.0 (name_test from (named_by s) first.1))
      (steps_test (from + 1) steps (λ i t e. let q : from + suc i ≡ (from + 1) + i = omega arith in subst (λ k. IsStepAt base tree whole k t) q (h (suc i) t e)))

  all_steps : steps_fit base.catalog (plan_of whole) 0 whole.steps ≡ true
  all_steps = steps_test 0 whole.steps (λ i s e. let z : i ≡ 0 + i = omega arith in subst (λ k. IsStepAt base tree whole k s) z (good.steps i s e))

  -- ---- layers

  before_test : (n : ℕ) (o : Option ℕ) → IsSomeAnd o (λ m. m < n) → is_before o n ≡ true
  before_test n None h = absurd h
  before_test n (Some m) h = below_test m n h

  over_test : (n : ℕ) (o : Option ℕ) → 0 < n → IsOver base tree whole n o → over_fits (plan_of whole) n o ≡ true
  over_test zero o pos h = absurd (omega arith)
  over_test (suc n) None pos h = absurd h
  over_test (suc n) (Some s) pos h = both (is_fetch whole.steps s) (is_before (layer_of layers s) (suc n)) h.0 (before_test (suc n) (layer_of layers s) h.1)

  overs_test : (n : ℕ) (rest : List Layer) → 0 < n → ((j : ℕ) → j < length rest → IsOver base tree whole (n + j) (over_in (slice_get rest j))) → overs_fit (plan_of whole) n rest ≡ true
  overs_test n [] pos h = refl
  overs_test n (l ∷ rest) pos h =
      let z : n + 0 ≡ n = omega arith in
      both (over_fits (plan_of whole) n l.over) _ (over_test n l.over pos (subst (λ k. IsOver base tree whole k l.over) z (h 0 (omega arith))))
      (overs_test (n + 1) rest (omega arith) (λ j lt. let q : n + suc j ≡ (n + 1) + j = omega arith in subst (λ k. IsOver base tree whole k (over_in (slice_get rest j))) q (h (suc j) (omega arith))))

  first_test : (all : List Layer) → 0 < length all → ((l : ℕ) → l < length all → IsOver base tree whole l (over_in (slice_get all l))) → first_fits (plan_of whole) all ≡ true
  first_test [] pos h = absurd (omega arith)
  first_test (l ∷ rest) pos h =
      let none : l.over ≡ None = h 0 (omega arith) in
      both (not (is_some l.over)) _ (ap (λ o. not (is_some o)) none)
      (overs_test 1 rest (omega arith) (λ j lt. let q : suc j ≡ 1 + j = omega arith in subst (λ k. IsOver base tree whole k (over_in (slice_get rest j))) q (h (suc j) (omega arith))))

  each_left : (P : ℕ → Type 0) (xs ys : List ℕ) → Each P (xs ++ ys) → Each P xs
  each_left P [] ys h = tt
  each_left P (x ∷ xs) ys h = (h.0, each_left P xs ys h.1)

  each_right : (P : ℕ → Type 0) (xs ys : List ℕ) → Each P (xs ++ ys) → Each P ys
  each_right P [] ys h = h
  each_right P (x ∷ xs) ys h = each_right P xs ys h.1

  within_test : (n : ℕ) (all : List Layer) → AreBelow n (steps_in all) → list_all (λ (l : Layer). are_below n l.steps) all ≡ true
  within_test n [] h = refl
  within_test n (l ∷ rest) h =
      both (are_below n l.steps) _ (are_below_test n l.steps (each_left (λ k. k < n) l.steps (steps_in rest) h)) (within_test n rest (each_right (λ k. k < n) l.steps (steps_in rest) h))

  any_append : (xs ys : List ℕ) (k : ℕ) → is_in (xs ++ ys) k ≡ (is_in xs k || is_in ys k)
  any_append [] ys k = refl
  any_append (x ∷ xs) ys k = ap (λ b. (x == k) || b) (any_append xs ys k) ∙ or_assoc (x == k) (is_in xs k) (is_in ys k)
    where
      or_assoc : (a b c : Bool) → (a || (b || c)) ≡ ((a || b) || c)
      or_assoc true b c = refl
      or_assoc false b c = refl

  laid_is : (all : List Layer) (k : ℕ) → is_laid all k ≡ is_in (steps_in all) k
  laid_is [] k = refl
  laid_is (l ∷ rest) k = ap (λ b. is_in l.steps k || b) (laid_is rest k) ∙ sym (any_append l.steps (steps_in rest) k)

  out_of_list : (k : ℕ) (ks : List ℕ) → Each (λ y. k ≢ y) ks → is_in ks k ≡ false
  out_of_list k [] h = refl
  out_of_list k (x ∷ ks) h = ap (λ b. b || is_in ks k) (ne_eqb x k (λ e. h.0 (sym e))) ∙ out_of_list k ks h.1

  differ_test : (ks : List ℕ) → AreDistinct ks → differ ks ≡ true
  differ_test [] h = refl
  differ_test (k ∷ ks) h = both (not (is_in ks k)) (differ ks) (ap not (out_of_list k ks h.0)) (differ_test ks h.1)

  distinct_left : (xs ys : List ℕ) → AreDistinct (xs ++ ys) → AreDistinct xs
  distinct_left [] ys h = tt
  distinct_left (x ∷ xs) ys h = (each_left (λ y. x ≢ y) xs ys h.0, distinct_left xs ys h.1)

  distinct_right : (xs ys : List ℕ) → AreDistinct (xs ++ ys) → AreDistinct ys
  distinct_right [] ys h = h
  distinct_right (x ∷ xs) ys h = distinct_right xs ys h.1

  none_laid : (rest : List Layer) (ks : List ℕ) → AreDistinct (ks ++ steps_in rest) → list_all (λ k. not (is_laid rest k)) ks ≡ true
  none_laid rest [] h = refl
  none_laid rest (k ∷ ks) h =
      both (not (is_laid rest k)) _ (ap not (laid_is rest k ∙ out_of_list k (steps_in rest) (each_right (λ y. k ≢ y) ks (steps_in rest) h.0))) (none_laid rest ks h.1)

  apart_test : (all : List Layer) → AreDistinct (steps_in all) → are_apart all ≡ true
  apart_test [] h = refl
  apart_test (l ∷ rest) h =
      both (differ l.steps) _ (differ_test l.steps (distinct_left l.steps (steps_in rest) h))
      (both (list_all (λ k. not (is_laid rest k)) l.steps) (are_apart rest) (none_laid rest l.steps h) (apart_test rest (distinct_right l.steps (steps_in rest) h)))

  laid_test : (from : ℕ) (steps : List Step) → ((k : ℕ) → k < from + length steps → is_in (steps_in layers) k ≡ true) → all_laid layers from steps ≡ true
  laid_test from [] h = refl
  laid_test from (s ∷ steps) h =
      both (is_laid layers from) _ (laid_is layers from ∙ h from (omega arith)) (laid_test (from + 1) steps (λ k lt. h k (omega (arith, lt))))

  all_layers : layers_fit (plan_of whole) ≡ true
  all_layers =
      both (first_fits (plan_of whole) layers) _ (first_test layers good.some good.overs)
      (both (list_all (λ (l : Layer). are_below (length whole.steps) l.steps) layers) _ (within_test (length whole.steps) layers good.laid.within)
      (both (are_apart layers) (all_laid layers 0 whole.steps) (apart_test layers good.laid.once) (laid_test 0 whole.steps (λ k lt. good.laid.all k (omega (arith, lt))))))

  -- ---- places

  out_test : (out : List OutPlace) → Each (λ (o : OutPlace). o.place < length tree.places) out → Each (IsOut base tree whole (length whole.steps) (length layers)) out → list_all (out_fits base tree (plan_of whole)) out ≡ true
  out_test [] p h = refl
  out_test (o ∷ out) p h =
      both (out_fits base tree (plan_of whole) o) _
      (both (nat_lt o.place (length tree.places)) _ (below_test o.place (length tree.places) p.0)
      (both (nat_lt o.step (length whole.steps)) _ (below_test o.step (length whole.steps) h.0.0)
      (both (nat_lt o.layer (length layers)) _ (below_test o.layer (length layers) h.0.1)
      (both (stands_over layers (Some o.layer) (layer_of layers o.step)) (given_fits base tree.places whole.steps o) (from_test o.layer (layer_of layers o.step) h.0.1 h.0.2) h.0.3))))
      (out_test out p.1 h.1)

  no_other : (n : ℕ) (out : List OutPlace) → Each (λ y. n ≢ y) (map (λ (o : OutPlace). o.place) out) → list_any (λ (o : OutPlace). o.place == n) out ≡ false
  no_other n [] h = refl
  no_other n (o ∷ out) h = ap (λ b. b || list_any (λ (o : OutPlace). o.place == n) out) (ne_eqb o.place n (λ e. h.0 (sym e))) ∙ no_other n out h.1

  places_test : (out : List OutPlace) → AreDistinct (map (λ (o : OutPlace). o.place) out) → places_differ out ≡ true
  places_test [] h = refl
  places_test (o ∷ out) h = both (not (list_any (λ (p : OutPlace). p.place == o.place) out)) (places_differ out) (ap not (no_other o.place out h.0)) (places_test out h.1)

  pub good_checked : is_checked base tree (plan_of whole) ≡ true
  good_checked =
      both (steps_fit base.catalog (plan_of whole) 0 whole.steps) _ all_steps
      (both (layers_fit (plan_of whole)) (outs_fit base tree (plan_of whole)) all_layers
      (both (list_all (out_fits base tree (plan_of whole)) whole.out) (places_differ whole.out) (out_test whole.out good.places good.outs) (places_test whole.out good.once)))
