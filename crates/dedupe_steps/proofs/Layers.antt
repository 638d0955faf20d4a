-- In the quotient of a plan, the layer of a step stands over what that of the old step stands over.
use Rattle.std.proofs.Common.{◌≡◌, ℕ, zero, suc, ◌+◌, ◌<◌, List, [], ◌∷◌, length, Option, Some, None, Bool, true, false, cond, refl, sym, ap, ◌∙◌, arith, eq-eqb, eqb-true, ne_eqb}
use Rattle.std.specs.Prelude.{slice_get, ◌==◌, ◌||◌, option_map, nat_lt, IsTrue}
use Rattle.std.specs.Cmp.{first_so, second_so}
use Rattle.std.specs.List.{list_any, list_all, position_from}
use Rattle.place_tree.specs.Fold.{same_place}
use Rattle.pg_base.specs.Base.{BaseParts}
use Rattle.place_tree.specs.declared.place.Tree.{Tree}
use Rattle.plan_steps.specs.declared.plan.Layer.{Layer}
use Rattle.plan_steps.specs.declared.plan.Plan.{Plan}
use Rattle.plan_steps.specs.declared.plan.Step.{Step}
use Rattle.plan_steps.specs.Chains.{is_in}
use Rattle.plan_steps.specs.Check.{steps_fit, first_fits, are_below, are_apart, is_laid, all_laid, layers_fit, is_checked}
use Rattle.plan_steps.specs.Named.{layer_of, over_in, over_at, over}
use Rattle.plan_steps.proofs.Bools.{or_left}
use Rattle.plan_steps.proofs.Checked.{at_some}
use Rattle.dedupe_steps.specs.Keys.{Ground, OverNothing, Numbered, Later, ground_of}
use Rattle.dedupe_steps.specs.Numbered.{at}
use Rattle.dedupe_steps.specs.Quotient.{new_layer_of, steps_in, ground_at, new_layer}
use Rattle.dedupe_steps.proofs.Lists.{some_one, get_map, map_get, get_below, position_one, found_at}
use Rattle.dedupe_steps.proofs.Merging.{Merging, to, M, there}

-- ---- the steps of a new layer

one_more_not : (m n : ℕ) (numbers : List ℕ) → n < m → is_in numbers n ≡ false → is_in (m ∷ numbers) n ≡ false
one_more_not m n numbers lt h = ap (λ b. b || is_in numbers n) (ne_eqb m n (λ e. absurd (omega (arith, e, lt)))) ∙ h

pub not_before : (layers : List Layer) (to_layer : List ℕ) (x m : ℕ) (firsts : List ℕ) (n : ℕ) → n < m → is_in (steps_in layers to_layer x m firsts) n ≡ false
not_before layers to_layer x m [] n lt = refl
not_before layers to_layer x m (k ∷ firsts) n lt =
    let rest = not_before layers to_layer x (m + 1) firsts n (omega (arith, lt)) in
    by (same_place (new_layer_of layers to_layer k) (Some x)) rest where
      by : (b : Bool) → is_in (steps_in layers to_layer x (m + 1) firsts) n ≡ false → is_in (cond b (m ∷ steps_in layers to_layer x (m + 1) firsts) (steps_in layers to_layer x (m + 1) firsts)) n ≡ false
      by true h = one_more_not m n (steps_in layers to_layer x (m + 1) firsts) lt h
      by false h = h

pub is_in_steps : (layers : List Layer) (to_layer : List ℕ) (x m : ℕ) (firsts : List ℕ) (n j : ℕ) → slice_get firsts n ≡ Some j → is_in (steps_in layers to_layer x m firsts) (m + n) ≡ same_place (new_layer_of layers to_layer j) (Some x)
is_in_steps layers to_layer x m [] n j h = cc
is_in_steps layers to_layer x m (k ∷ firsts) zero j h =
    let same = some_one k j h in
    let z : m + 0 ≡ m = omega arith in
    ap (is_in (cond (same_place (new_layer_of layers to_layer k) (Some x)) (m ∷ steps_in layers to_layer x (m + 1) firsts) (steps_in layers to_layer x (m + 1) firsts))) z
    ∙ by (same_place (new_layer_of layers to_layer k) (Some x))
    ∙ ap (λ i. same_place (new_layer_of layers to_layer i) (Some x)) same where
      by : (b : Bool) → is_in (cond b (m ∷ steps_in layers to_layer x (m + 1) firsts) (steps_in layers to_layer x (m + 1) firsts)) m ≡ b
      by true = or_left (m == m) _ (eq-eqb m m refl)
      by false = not_before layers to_layer x (m + 1) firsts m (omega arith)
is_in_steps layers to_layer x m (k ∷ firsts) (suc n) j h =
    let e : m + suc n ≡ m + 1 + n = omega arith in
    let rest = is_in_steps layers to_layer x (m + 1) firsts n j h in
    ap (is_in (cond (same_place (new_layer_of layers to_layer k) (Some x)) (m ∷ steps_in layers to_layer x (m + 1) firsts) (steps_in layers to_layer x (m + 1) firsts))) e
    ∙ by (same_place (new_layer_of layers to_layer k) (Some x)) ∙ rest where
      by : (b : Bool) → is_in (cond b (m ∷ steps_in layers to_layer x (m + 1) firsts) (steps_in layers to_layer x (m + 1) firsts)) (m + 1 + n) ≡ is_in (steps_in layers to_layer x (m + 1) firsts) (m + 1 + n)
      by true = ap (λ b. b || is_in (steps_in layers to_layer x (m + 1) firsts) (m + 1 + n)) (ne_eqb m (m + 1 + n) (λ e. absurd (omega (arith, e))))
      by false = refl

-- ---- the layers of the plan

any_position : {A : Type 0} (test : A → Bool) (n : ℕ) (xs : List A) → list_any test xs ≡ true → (p : ℕ) × (position_from test n xs ≡ Some p)
any_position test n [] h = cc
any_position test n (x ∷ xs) h = by (test x) (any_position test (n + 1) xs) h where
  by : (b : Bool) → (list_any test xs ≡ true → (p : ℕ) × (position_from test (n + 1) xs ≡ Some p)) → (b || list_any test xs) ≡ true → (p : ℕ) × (cond b (Some n) (position_from test (n + 1) xs) ≡ Some p)
  by true again h = (n, refl)
  by false again h = again h

laid_told : (layers : List Layer) (k : ℕ) (steps : List Step) (j : ℕ) (s : Step) → all_laid layers k steps ≡ true → slice_get steps j ≡ Some s → is_laid layers (k + j) ≡ true
laid_told layers k [] j s h at = cc
laid_told layers k (t ∷ steps) zero s h at = let e : k ≡ k + 0 = omega arith in sym (ap (is_laid layers) e) ∙ first_so (is_laid layers k) _ h
laid_told layers k (t ∷ steps) (suc j) s h at =
    let e : k + 1 + j ≡ k + suc j = omega arith in
    sym (ap (is_laid layers) e) ∙ laid_told layers (k + 1) steps j s (second_so (is_laid layers k) _ h) at

pub layers_checked : (base : BaseParts) (tree : Tree) (plan : Plan) → IsTrue (is_checked base tree plan) → layers_fit plan ≡ true
layers_checked base tree plan ok = first_so (layers_fit plan) _ (second_so (steps_fit base.catalog plan 0 plan.steps) _ ok)

pub laid_checked : (base : BaseParts) (tree : Tree) (plan : Plan) → IsTrue (is_checked base tree plan) → (k : ℕ) (s : Step) → slice_get plan.steps k ≡ Some s → (y : ℕ) × (layer_of plan.layers k ≡ Some y)
laid_checked base tree plan ok k s h =
    let rest = second_so (list_all (λ l. are_below (length plan.steps) l.steps) plan.layers) _ (second_so (first_fits plan plan.layers) _ (layers_checked base tree plan ok)) in
    let all = second_so (are_apart plan.layers) _ rest in
    let e : 0 + k ≡ k = omega arith in
    any_position (λ l. is_in l.steps k) 0 plan.layers (sym (ap (is_laid plan.layers) e) ∙ laid_told plan.layers 0 plan.steps k s all h)

pub layer_there : (plan : Plan) (k y : ℕ) → layer_of plan.layers k ≡ Some y → (layer : Layer) × (slice_get plan.layers y ≡ Some layer) × (is_in layer.steps k ≡ true)
layer_there plan k y h =
    let z = found_at (λ l. is_in l.steps k) 0 plan.layers y h in
    let e : y ≡ z.0 = let s = z.2 in omega (arith, s) in
    (z.1, ap (slice_get plan.layers) e ∙ z.3, z.4)

-- ---- grounds

abbrev number_in : Ground → ℕ → ℕ
number_in OverNothing d = d
number_in (Numbered n) d = n
number_in (Later n) d = d

abbrev later_in : Ground → ℕ → ℕ
later_in OverNothing d = d
later_in (Numbered n) d = d
later_in (Later n) d = n

pub ground_same : (to_ : List ℕ) (j k : ℕ) (a b : Option ℕ) → ground_of to_ j a ≡ ground_of to_ k b → option_map (at to_) a ≡ option_map (at to_) b
ground_same to_ j k None None e = refl
ground_same to_ j k None (Some t) e = by (nat_lt t k) e where
  by : (b : Bool) → OverNothing ≡ cond b (Numbered (at to_ t)) (Later t) → None ≡ Some (at to_ t)
  by true e = cc
  by false e = cc
ground_same to_ j k (Some s) None e = by (nat_lt s j) e where
  by : (b : Bool) → cond b (Numbered (at to_ s)) (Later s) ≡ OverNothing → Some (at to_ s) ≡ None
  by true e = cc
  by false e = cc
ground_same to_ j k (Some s) (Some t) e = by (nat_lt s j) (nat_lt t k) e where
  by : (b c : Bool) → cond b (Numbered (at to_ s)) (Later s) ≡ cond c (Numbered (at to_ t)) (Later t) → Some (at to_ s) ≡ Some (at to_ t)
  by true true e = ap (λ g. Some (number_in g (at to_ s))) e
  by true false e = cc
  by false true e = cc
  by false false e = ap (λ g. Some (at to_ (later_in g s))) e

module _ (m : Merging) where
  -- over what the layer of a step stands, by the layer's number
  over_layer : (k y : ℕ) → layer_of m.plan.layers k ≡ Some y → over m.plan.layers k ≡ over_in (slice_get m.plan.layers y)
  over_layer k y e = ap (over_at m.plan.layers) e

  layer_below : (k y : ℕ) → layer_of m.plan.layers k ≡ Some y → y < length m.plan.layers
  layer_below k y e = let z = layer_there m.plan k y e in get_below m.plan.layers y z.0 z.1

  -- the layer of a new step is the new one of the old step's
  pub layer_moved : (k : ℕ) (s : Step) (y : ℕ) → slice_get m.plan.steps k ≡ Some s → layer_of m.plan.layers k ≡ Some y → layer_of (M m).layers (to m k) ≡ Some (at m.l.to y)
  layer_moved k s y h e =
      let t = there m k s h in
      let z = laid_checked m.base m.tree m.plan m.checked t.old t.step_ t.is_old in
      let lt = layer_below k y e in
      let less = layer_below t.old z.0 z.1 in
      let grounds = ground_same m.r.to t.old k (over m.plan.layers t.old) (over m.plan.layers k) (ap (λ q. q.stand) t.same) in
      let same : ground_at m.r.to m.plan.layers z.0 ≡ ground_at m.r.to m.plan.layers y =
      sym (ap (option_map (at m.r.to)) (over_layer t.old z.0 z.1)) ∙ grounds ∙ ap (option_map (at m.r.to)) (over_layer k y e) in
      let one = m.laid.one_number z.0 y less lt same in
      let new : new_layer_of m.plan.layers m.l.to t.old ≡ Some (at m.l.to y) = ap (option_map (at m.l.to)) z.1 ∙ ap (λ n. Some n) one in
      let has : (x : ℕ) → is_in (steps_in m.plan.layers m.l.to x 0 m.r.firsts) (to m k) ≡ (at m.l.to y == x) = λ x.
      (let zero_ : to m k ≡ 0 + to m k = omega arith in
      ap (is_in (steps_in m.plan.layers m.l.to x 0 m.r.firsts)) zero_ ∙ is_in_steps m.plan.layers m.l.to x 0 m.r.firsts (to m k) t.old t.first ∙ ap (λ o. same_place o (Some x)) new) in
      let f = at_some m.l.firsts (at m.l.to y) (m.laid.named y lt) in
      let g = m.laid.first (at m.l.to y) f.0 f.1 in
      let zero_ : 0 + at m.l.to y ≡ at m.l.to y = omega arith in
      position_one (λ l. is_in l.steps (to m k)) 0 (M m).layers (at m.l.to y) (new_layer m.plan m.r m.l f.0)
      (get_map (new_layer m.plan m.r m.l) m.l.firsts (at m.l.to y) f.0 f.1)
      (has (at m.l.to f.0) ∙ eq-eqb (at m.l.to y) (at m.l.to f.0) (sym g.1))
      (λ i layer there_ pass.
      let from = map_get (new_layer m.plan m.r m.l) m.l.firsts i layer there_ in
      let back = m.laid.first i from.0 from.1 in
      let yes : is_in (steps_in m.plan.layers m.l.to (at m.l.to from.0) 0 m.r.firsts) (to m k) ≡ true = ap (λ x. is_in x.steps (to m k)) from.2 ∙ pass in
      sym (eqb-true (at m.l.to y) (at m.l.to from.0) (sym (has (at m.l.to from.0)) ∙ yes) ∙ back.1))
      ∙ ap (λ n. Some n) zero_

  -- over what a new layer stands
  pub over_new : (y : ℕ) → y < length m.plan.layers → over_in (slice_get (M m).layers (at m.l.to y)) ≡ ground_at m.r.to m.plan.layers y
  over_new y lt =
      let f = at_some m.l.firsts (at m.l.to y) (m.laid.named y lt) in
      let g = m.laid.first (at m.l.to y) f.0 f.1 in
      ap over_in (get_map (new_layer m.plan m.r m.l) m.l.firsts (at m.l.to y) f.0 f.1) ∙ m.laid.one_key f.0 y g.0 lt g.1

  pub over_moved : (k : ℕ) (s : Step) → slice_get m.plan.steps k ≡ Some s → over (M m).layers (to m k) ≡ option_map (at m.r.to) (over m.plan.layers k)
  over_moved k s h =
      let z = laid_checked m.base m.tree m.plan m.checked k s h in
      ap (over_at (M m).layers) (layer_moved k s z.0 h z.1) ∙ over_new z.0 (layer_below k z.0 z.1) ∙ sym (ap (option_map (at m.r.to)) (over_layer k z.0 z.1))
