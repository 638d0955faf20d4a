-- An inlined plan is well formed.
use Rattle.std.proofs.Common.{◌≡◌, ℕ, zero, suc, ◌+◌, ◌≤◌, List, [], ◌∷◌, ◌++◌, map, length, Option, Some, None, Bool, true, false, refl, sym, ap, ◌∙◌, subst, arith, zero-add}
use Rattle.std.proofs.lemmas.Option.{slice_get_within}
use Rattle.std.specs.Prelude.{slice_get, option_map, nat_lt, ◌==◌, ◌&&◌, ◌||◌, not, is_some, IsTrue}
use Rattle.std.specs.Cmp.{first_so, second_so}
use Rattle.std.specs.List.{list_all}
use Rattle.pg_base.specs.Base.{BaseParts}
use Rattle.pg_base.specs.Catalog.{CatalogParts}
use Rattle.place_tree.specs.Fold.{same_place}
use Rattle.place_tree.specs.declared.place.Place.{Place}
use Rattle.place_tree.specs.declared.place.Tree.{Tree}
use Rattle.place_tree.proofs.Folds.{same_place_true}
use Rattle.plan_steps.specs.declared.plan.FetchStep.{FetchStep, FetchStep-F, out-FetchStep, fold_out-FetchStep}
use Rattle.plan_steps.specs.declared.plan.Layer.{Layer}
use Rattle.plan_steps.specs.declared.plan.OutPlace.{OutPlace}
use Rattle.plan_steps.specs.declared.plan.Plan.{Plan}
use Rattle.plan_steps.specs.declared.plan.Step.{Step}
use Rattle.plan_steps.specs.declared.plan.Step.TheVariants as step
use Rattle.plan_steps.specs.Check as check
use Rattle.plan_steps.specs.Check.{are_below, width_of, own_fits, key_below, child_layer, child_fits, children_fit, has_key, fetch_has, item_has, row_has, parent_has, fetch_fits, item_fits, step_fits, name_fits, steps_fit, over_fits, overs_fit, first_fits, all_laid, is_laid, layers_fit, tables_have, column_takes, fetch_takes, takes_given, given_fits, out_fits, outs_fit, is_checked}
use Rattle.plan_steps.specs.Named.{named_by, fetch_in, fetch_at, is_fetch, is_given, is_given_in, item_in, item_at, over, layer_of, used_by}
use Rattle.plan_steps.proofs.Bools.{and_both}
use Rattle.plan_steps.proofs.Checked.{at_some, step_checked}
use Rattle.inline_select.specs.Inlined.{with_more, step_with, target, joined, moves_to, moved_to, inlined}
use Rattle.inline_select.proofs.Bare.{get_map, out_with, named_with, bare, bare_step, bare_plan, length_bare, fetch_at_bare, items_bare, givens_bare, fetches_bare, used_bare}
use Rattle.inline_select.proofs.Fixed.{made_at, length_inlined, bare_is}
use Rattle.inline_select.proofs.Moved.{Moves, target_tells, target_with, target_earlier}

-- ---- a plan without what is below its fetches

overs_bare : (plan : Plan) (n : ℕ) (layers : List Layer) → overs_fit (bare_plan plan) n layers ≡ overs_fit plan n layers
overs_bare plan n [] = refl
overs_bare plan n (l ∷ layers) = ap (λ b. b && overs_fit (bare_plan plan) (n + 1) layers) (by_over l.over) ∙ ap (λ b. over_fits plan n l.over && b) (overs_bare plan (n + 1) layers) where
  by_over : (o : Option ℕ) → over_fits (bare_plan plan) n o ≡ over_fits plan n o
  by_over None = refl
  by_over (Some s) = ap (λ is. is s && check.is_before (layer_of plan.layers s) n) (fetches_bare plan.steps)

first_bare : (plan : Plan) (layers : List Layer) → first_fits (bare_plan plan) layers ≡ first_fits plan layers
first_bare plan [] = refl
first_bare plan (l ∷ layers) = ap (λ b. not (is_some l.over) && b) (overs_bare plan 1 layers)

laid_bare : (layers : List Layer) (k : ℕ) (steps : List Step) → all_laid layers k (map bare_step steps) ≡ all_laid layers k steps
laid_bare layers k [] = refl
laid_bare layers k (s ∷ steps) = ap (λ b. is_laid layers k && b) (laid_bare layers (k + 1) steps)

layers_bare : (plan : Plan) → layers_fit (bare_plan plan) ≡ layers_fit plan
layers_bare plan =
    ap (λ b. b && (list_all (λ l. are_below (length (map bare_step plan.steps)) l.steps) plan.layers && (check.are_apart plan.layers && all_laid plan.layers 0 (map bare_step plan.steps)))) (first_bare plan plan.layers)
    ∙ ap (λ n. first_fits plan plan.layers && (list_all (λ l. are_below n l.steps) plan.layers && (check.are_apart plan.layers && all_laid plan.layers 0 (map bare_step plan.steps)))) (length_bare plan.steps)
    ∙ ap (λ b. first_fits plan plan.layers && (list_all (λ l. are_below (length plan.steps) l.steps) plan.layers && (check.are_apart plan.layers && b))) (laid_bare plan.layers 0 plan.steps)

fetch_takes_bare : (base : BaseParts) (places : List Place) (steps : List Step) (i : ℕ) (f : FetchStep) →
    fetch_takes base places (map bare_step steps) i (bare f) (out-FetchStep (bare f)).parent ≡ fetch_takes base places steps i f (out-FetchStep f).parent
fetch_takes_bare base places steps i f =
    by_view (bare f) (out-FetchStep (bare f)).parent
    ∙ ap (λ o. taken o o.parent) (out_with [] f)
    ∙ sym (by_steps f (out-FetchStep f).parent)
  where
    taken : FetchStep-F FetchStep → Option ℕ → Bool
    taken o None = true
    taken o (Some p) = not (is_given (map bare_step steps) p) || tables_have base places i o.parent_columns

    by_view : (g : FetchStep) (p : Option ℕ) → fetch_takes base places (map bare_step steps) i g p ≡ taken (out-FetchStep g) p
    by_view g None = refl
    by_view g (Some p) = refl

    by_steps : (g : FetchStep) (p : Option ℕ) → fetch_takes base places steps i g p ≡ taken (record (out-FetchStep g) { children = [] }) p
    by_steps g None = refl
    by_steps g (Some p) = ap (λ given. not (given p) || tables_have base places i (out-FetchStep g).parent_columns) (sym (givens_bare steps))

takes_bare : (base : BaseParts) (places : List Place) (steps : List Step) (i : ℕ) (o : Option Step) → takes_given base places (map bare_step steps) i (option_map bare_step o) ≡ takes_given base places steps i o
takes_bare base places steps i None = refl
takes_bare base places steps i (Some (step.Column row column)) = ap (λ given. not (given row) || tables_have base places i (column ∷ [])) (givens_bare steps)
takes_bare base places steps i (Some (step.Fetch f)) = fetch_takes_bare base places steps i f
takes_bare base places steps i (Some (step.Const v)) = refl
takes_bare base places steps i (Some (step.Var path)) = refl
takes_bare base places steps i (Some step.Given) = refl
takes_bare base places steps i (Some (step.Item s)) = refl
takes_bare base places steps i (Some (step.Count s)) = refl
takes_bare base places steps i (Some (step.Page s part)) = refl
takes_bare base places steps i (Some (step.CursorOf s)) = refl

given_bare : (base : BaseParts) (places : List Place) (steps : List Step) → given_fits base places (map bare_step steps) ≡ given_fits base places steps
given_bare base places steps =
    ap (λ (used : ℕ → List ℕ). λ (o : OutPlace). list_all (λ k. takes_given base places (map bare_step steps) o.place (slice_get (map bare_step steps) k)) (used o.step)) (used_bare steps)
    ∙ (λ j o. list_all (λ k. (ap (takes_given base places (map bare_step steps) o.place) (get_map bare_step steps k) ∙ takes_bare base places steps o.place (slice_get steps k)) j) (used_by steps o.step))

outs_bare : (base : BaseParts) (tree : Tree) (plan : Plan) → outs_fit base tree (bare_plan plan) ≡ outs_fit base tree plan
outs_bare base tree plan =
    ap (λ (fits : OutPlace → Bool). list_all (λ o. nat_lt o.place (length tree.places) && (nat_lt o.step (length (map bare_step plan.steps))
    && (nat_lt o.layer (length plan.layers) && (check.stands_over plan.layers (Some o.layer) (layer_of plan.layers o.step) && fits o)))) plan.out && check.places_differ plan.out) (given_bare base tree.places plan.steps)
    ∙ ap (λ n. list_all (λ o. nat_lt o.place (length tree.places) && (nat_lt o.step n
    && (nat_lt o.layer (length plan.layers) && (check.stands_over plan.layers (Some o.layer) (layer_of plan.layers o.step) && given_fits base tree.places plan.steps o)))) plan.out && check.places_differ plan.out) (length_bare plan.steps)

-- ---- steps

named_step : (more : List FetchStep) (s : Step) → named_by (step_with more s) ≡ named_by s
named_step more (step.Fetch f) = named_with ((out-FetchStep f).children ++ more) f
named_step more (step.Const v) = refl
named_step more (step.Var path) = refl
named_step more step.Given = refl
named_step more (step.Item s) = refl
named_step more (step.Column i c) = refl
named_step more (step.Count s) = refl
named_step more (step.Page s part) = refl
named_step more (step.CursorOf i) = refl

name_same : (p q : Plan) → p.layers ≡ q.layers → (k : ℕ) (o : Option ℕ) → name_fits p k o ≡ name_fits q k o
name_same p q e k None = refl
name_same p q e k (Some j) = ap (λ layers. nat_lt j k && check.stands_over layers (layer_of layers k) (layer_of layers j)) e

-- what holds of each step holds of all
steps_all : (catalog : CatalogParts) (plan : Plan) (from : ℕ) (steps : List Step) → ((i : ℕ) (s : Step) → slice_get steps i ≡ Some s → (step_fits catalog plan (from + i) s && name_fits plan (from + i) (named_by s)) ≡ true) → steps_fit catalog plan from steps ≡ true
steps_all catalog plan from [] h = refl
steps_all catalog plan from (s ∷ steps) h =
    let e : from + 0 ≡ from = omega arith in
    let n : (i : ℕ) → from + suc i ≡ from + 1 + i = λ i. omega arith in
    and_both _ _ (subst (λ k. (step_fits catalog plan k s && name_fits plan k (named_by s)) ≡ true) e (h zero s refl))
    (steps_all catalog plan (from + 1) steps (λ i t at. subst (λ k. (step_fits catalog plan k t && name_fits plan k (named_by t)) ≡ true) (n i) (h (suc i) t at)))

name_told : (catalog : CatalogParts) (plan : Plan) (from : ℕ) (steps : List Step) → steps_fit catalog plan from steps ≡ true → (i : ℕ) (s : Step) → slice_get steps i ≡ Some s → name_fits plan (from + i) (named_by s) ≡ true
name_told catalog plan from [] h i s at = cc
name_told catalog plan from (t ∷ steps) h zero s at =
    let same : t ≡ s = cc in
    let e : from ≡ from + 0 = omega arith in
    subst (λ n. name_fits plan n (named_by s) ≡ true) e (subst (λ x. name_fits plan from (named_by x) ≡ true) same (second_so (step_fits catalog plan from t) _ (first_so _ _ h)))
name_told catalog plan from (t ∷ steps) h (suc i) s at =
    let e : from + 1 + i ≡ from + suc i = omega arith in
    subst (λ n. name_fits plan n (named_by s) ≡ true) e (name_told catalog plan (from + 1) steps (second_so (step_fits catalog plan from t && name_fits plan from (named_by t)) _ h) i s at)

-- ---- children

-- what holds of each fetch that moves to one holds of all of these
all_moved : (steps : List Step) (g : ℕ) (test : FetchStep → Bool) (xs : List Step) → ((j : ℕ) (c : FetchStep) → slice_get xs j ≡ Some (step.Fetch c) → target steps c ≡ Some g → test c ≡ true) → list_all test (moved_to steps g xs) ≡ true
all_moved steps g test [] h = refl
all_moved steps g test (x ∷ xs) h = by_test (moves_to steps g (fetch_in (Some x))) refl (fetch_in (Some x)) refl (all_moved steps g test xs (λ j c at. h (suc j) c at)) where
  fetch_is : (s : Step) (c : FetchStep) → fetch_in (Some s) ≡ Some c → s ≡ step.Fetch c
  fetch_is (step.Fetch d) c e = let z : d ≡ c = cc in ap step.Fetch z
  fetch_is _ c e = cc

  by_test : (b : Bool) → moves_to steps g (fetch_in (Some x)) ≡ b → (o : Option FetchStep) → fetch_in (Some x) ≡ o → list_all test (moved_to steps g xs) ≡ true → list_all test (joined b o (moved_to steps g xs)) ≡ true
  by_test true m (Some c) e rest =
      and_both (test c) _ (h zero c (ap (λ s. Some s) (fetch_is x c e)) (same_place_true (target steps c) (Some g) (sym (ap (moves_to steps g) e) ∙ m))) rest
  by_test true m None e rest = rest
  by_test false m o e rest = rest

key_from_parent : (f : FetchStep) (o : Option ℕ) (p : ℕ) → o ≡ Some p → has_key f o ≡ true → (length (out-FetchStep f).parent_columns == length (out-FetchStep f).by) ≡ true
key_from_parent f None p e h = cc
key_from_parent f (Some q) p e h = h

child_is : (catalog : CatalogParts) (f : FetchStep) (width : ℕ) → child_fits catalog f width ≡ (key_below width (out-FetchStep f) && (own_fits catalog (out-FetchStep f) && children_fit catalog (width_of catalog (out-FetchStep f).table) (out-FetchStep f).children))
child_is catalog f width = ap (λ test. test width) (fold_out-FetchStep (ℕ → Bool) (child_layer catalog) f) ∙ ap (λ b. key_below width (out-FetchStep f) && (own_fits catalog (out-FetchStep f) && b)) (all_map (out-FetchStep f).children) where
  all_map : (kids : List FetchStep) → list_all (λ test. test (width_of catalog (out-FetchStep f).table)) (map (child_fits catalog) kids) ≡ children_fit catalog (width_of catalog (out-FetchStep f).table) kids
  all_map [] = refl
  all_map (c ∷ kids) = ap (λ b. child_fits catalog c (width_of catalog (out-FetchStep f).table) && b) (all_map kids)

module _ (base : BaseParts) (plan : Plan) (tree : Tree) (ok : IsTrue (is_checked base tree plan)) (flat : (k : ℕ) (f : FetchStep) → slice_get plan.steps k ≡ Some (step.Fetch f) → (out-FetchStep f).children ≡ []) where
  abbrev made : List Step
  made = (inlined plan).steps

  abbrev kids : ℕ → List FetchStep
  kids k = moved_to plan.steps k made

  abbrev grown : ℕ → FetchStep → FetchStep
  grown k f = with_more (kids k) f

  out_grown : (k : ℕ) (f : FetchStep) → slice_get plan.steps k ≡ Some (step.Fetch f) → out-FetchStep (grown k f) ≡ record (out-FetchStep f) { children = kids k }
  out_grown k f at = out_with ((out-FetchStep f).children ++ kids k) f ∙ ap (λ l. record (out-FetchStep f) { children = l ++ kids k }) (flat k f at)

  fits_at : (k : ℕ) (f : FetchStep) → slice_get plan.steps k ≡ Some (step.Fetch f) → fetch_fits base.catalog plan.steps f ≡ true
  fits_at k f at = step_checked base tree plan ok k (step.Fetch f) at

  own_at : (k : ℕ) (f : FetchStep) → slice_get plan.steps k ≡ Some (step.Fetch f) → own_fits base.catalog (out-FetchStep f) ≡ true
  own_at k f at = first_so _ _ (fits_at k f at)

  rest_at : (k : ℕ) (f : FetchStep) → slice_get plan.steps k ≡ Some (step.Fetch f) → (has_key f (out-FetchStep f).parent && parent_has base.catalog plan.steps f (out-FetchStep f).parent) ≡ true
  rest_at k f at = second_so (children_fit base.catalog (width_of base.catalog (out-FetchStep f).table) (out-FetchStep f).children) _ (second_so (own_fits base.catalog (out-FetchStep f)) _ (fits_at k f at))

  -- the key of a fetch that moves is in the columns of the one to which it moves
  columns_below : (g : ℕ) (above : FetchStep) → slice_get plan.steps g ≡ Some (step.Fetch above) → (f : FetchStep) (o : Option ℕ) → parent_has base.catalog plan.steps f o ≡ true → (item : ℕ) → o ≡ Some item → slice_get plan.steps item ≡ Some (step.Item g) →
      are_below (width_of base.catalog (out-FetchStep above).table) (out-FetchStep f).parent_columns ≡ true
  columns_below g above at f None h item e is = cc
  columns_below g above at f (Some p) h item e is =
      let same : p ≡ item = cc in
      let has = subst (λ n. row_has base.catalog plan.steps (out-FetchStep f).parent_columns n ≡ true) same h in
      sym (ap (λ o. is_given_in o || item_has base.catalog plan.steps (out-FetchStep f).parent_columns (item_in o)) is ∙ ap (λ o. fetch_has base.catalog (out-FetchStep f).parent_columns (fetch_in o)) at) ∙ has

  key_moved : (g : ℕ) (above : FetchStep) → slice_get plan.steps g ≡ Some (step.Fetch above) → (j : ℕ) (f : FetchStep) → slice_get plan.steps j ≡ Some (step.Fetch f) → Moves plan.steps f g → key_below (width_of base.catalog (out-FetchStep above).table) (out-FetchStep f) ≡ true
  key_moved g above at j f there mv =
      let rest = rest_at j f there in
      and_both (length (out-FetchStep f).parent_columns == length (out-FetchStep f).by) _
      (key_from_parent f (out-FetchStep f).parent mv.item mv.parent (first_so _ _ rest))
      (columns_below g above at f (out-FetchStep f).parent (second_so (has_key f (out-FetchStep f).parent) _ rest) mv.item mv.parent mv.is_item)

  -- a step of the inlined plan is one of the plan, with more below
  fetch_back : (j : ℕ) (c : FetchStep) → slice_get made j ≡ Some (step.Fetch c) → (f : FetchStep) × (slice_get plan.steps j ≡ Some (step.Fetch f)) × (c ≡ grown j f)
  fetch_back j c at =
      let lt = slice_get_within made j (step.Fetch c) at in
      let len = length_inlined plan.steps 0 plan.steps in
      let t = at_some plan.steps j (omega (arith, lt, len)) in
      by_step t.0 t.1 (sym (made_at base plan tree ok j t.0 t.1) ∙ at)
    where
      by_step : (s : Step) → slice_get plan.steps j ≡ Some s → Some (step_with (kids j) s) ≡ Some (step.Fetch c) → (f : FetchStep) × (slice_get plan.steps j ≡ Some (step.Fetch f)) × (c ≡ grown j f)
      by_step (step.Fetch f) is e = (f, is, (let z : grown j f ≡ c = cc in sym z))
      by_step (step.Const v) is e = cc
      by_step (step.Var path) is e = cc
      by_step step.Given is e = cc
      by_step (step.Item i) is e = cc
      by_step (step.Column i d) is e = cc
      by_step (step.Count i) is e = cc
      by_step (step.Page i part) is e = cc
      by_step (step.CursorOf i) is e = cc

  -- the children of each fetch fit, by those of what comes later
  kids_fit : (n k : ℕ) (f : FetchStep) → length plan.steps ≤ k + n → slice_get plan.steps k ≡ Some (step.Fetch f) → children_fit base.catalog (width_of base.catalog (out-FetchStep f).table) (kids k) ≡ true
  kids_fit zero k f le at = let lt = slice_get_within plan.steps k (step.Fetch f) at in absurd (omega (arith, le, lt))
  kids_fit (suc n) k f le at =
      let width = width_of base.catalog (out-FetchStep f).table in
      all_moved plan.steps k (λ c. child_fits base.catalog c width) made (λ j c there to.
      let b = fetch_back j c there in
      let goes : target plan.steps b.0 ≡ Some k = sym (target_with plan.steps ((out-FetchStep b.0).children ++ kids j) b.0) ∙ ap (target plan.steps) (sym b.2) ∙ to in
      let later = target_earlier base tree plan ok j b.0 b.1 k goes in
      let mv = target_tells plan.steps b.0 k goes in
      ap (λ x. child_fits base.catalog x width) b.2
      ∙ child_is base.catalog (grown j b.0) width
      ∙ ap (λ o. key_below width o && (own_fits base.catalog o && children_fit base.catalog (width_of base.catalog o.table) o.children)) (out_grown j b.0 b.1)
      ∙ and_both (key_below width (out-FetchStep b.0)) _ (key_moved k f at j b.0 b.1 mv)
      (and_both (own_fits base.catalog (out-FetchStep b.0)) _ (own_at j b.0 b.1) (kids_fit n j b.0 (omega (arith, le, later)) b.1)))

  -- ---- each step

  steps_made : map bare_step made ≡ plan.steps
  steps_made = ap (λ p. p.steps) (bare_is plan flat)

  has_bare : (columns : List ℕ) (o : Option FetchStep) → fetch_has base.catalog columns (option_map bare o) ≡ fetch_has base.catalog columns o
  has_bare columns None = refl
  has_bare columns (Some f) = ap (λ o. are_below (width_of base.catalog o.table) columns) (out_with [] f)

  fetch_has_made : (columns : List ℕ) (s : ℕ) → fetch_has base.catalog columns (fetch_at made s) ≡ fetch_has base.catalog columns (fetch_at plan.steps s)
  fetch_has_made columns s =
      sym (has_bare columns (fetch_at made s)) ∙ ap (fetch_has base.catalog columns) (sym (fetch_at_bare made s) ∙ ap (λ l. fetch_at l s) steps_made)

  items_made : item_at made ≡ item_at plan.steps
  items_made = sym (items_bare made) ∙ ap item_at steps_made

  givens_made : is_given made ≡ is_given plan.steps
  givens_made = sym (givens_bare made) ∙ ap is_given steps_made

  fetches_made : is_fetch made ≡ is_fetch plan.steps
  fetches_made = sym (fetches_bare made) ∙ ap is_fetch steps_made

  item_has_made : (columns : List ℕ) (o : Option ℕ) → item_has base.catalog made columns o ≡ item_has base.catalog plan.steps columns o
  item_has_made columns None = refl
  item_has_made columns (Some s) = fetch_has_made columns s

  row_has_made : (columns : List ℕ) (k : ℕ) → row_has base.catalog made columns k ≡ row_has base.catalog plan.steps columns k
  row_has_made columns k =
      ap (λ given. given k || item_has base.catalog made columns (item_at made k)) givens_made
      ∙ ap (λ items. is_given plan.steps k || item_has base.catalog made columns (items k)) items_made
      ∙ ap (λ b. is_given plan.steps k || b) (item_has_made columns (item_at plan.steps k))

  abbrev KeyIn : FetchStep-F FetchStep → Option ℕ → Bool
  KeyIn o None = length o.key == length o.by
  KeyIn o (Some p) = length o.parent_columns == length o.by

  key_in : (f : FetchStep) (o : Option ℕ) → has_key f o ≡ KeyIn (out-FetchStep f) o
  key_in f None = refl
  key_in f (Some p) = refl

  abbrev ParentIn : FetchStep-F FetchStep → Option ℕ → Bool
  ParentIn o None = true
  ParentIn o (Some p) = row_has base.catalog plan.steps o.parent_columns p

  parent_in : (f : FetchStep) (o : Option ℕ) → parent_has base.catalog plan.steps f o ≡ ParentIn (out-FetchStep f) o
  parent_in f None = refl
  parent_in f (Some p) = refl

  parent_made : (f : FetchStep) (o : Option ℕ) → parent_has base.catalog made f o ≡ ParentIn (out-FetchStep f) o
  parent_made f None = refl
  parent_made f (Some p) = row_has_made (out-FetchStep f).parent_columns p

  key_more : (o : FetchStep-F FetchStep) (l : List FetchStep) (p : Option ℕ) → KeyIn (record o { children = l }) p ≡ KeyIn o p
  key_more o l None = refl
  key_more o l (Some p) = refl

  parent_more : (o : FetchStep-F FetchStep) (l : List FetchStep) (p : Option ℕ) → ParentIn (record o { children = l }) p ≡ ParentIn o p
  parent_more o l None = refl
  parent_more o l (Some p) = refl

  fetch_made_fits : (k : ℕ) (f : FetchStep) → slice_get plan.steps k ≡ Some (step.Fetch f) → fetch_fits base.catalog made (grown k f) ≡ true
  fetch_made_fits k f at =
      let g = grown k f in
      let rest = rest_at k f at in
      let o = out-FetchStep f in
      ap (λ b. own_fits base.catalog (out-FetchStep g) && (children_fit base.catalog (width_of base.catalog (out-FetchStep g).table) (out-FetchStep g).children && (b && parent_has base.catalog made g (out-FetchStep g).parent))) (key_in g (out-FetchStep g).parent)
      ∙ ap (λ b. own_fits base.catalog (out-FetchStep g) && (children_fit base.catalog (width_of base.catalog (out-FetchStep g).table) (out-FetchStep g).children && (KeyIn (out-FetchStep g) (out-FetchStep g).parent && b))) (parent_made g (out-FetchStep g).parent)
      ∙ ap (λ o. own_fits base.catalog o && (children_fit base.catalog (width_of base.catalog o.table) o.children && (KeyIn o o.parent && ParentIn o o.parent))) (out_grown k f at)
      ∙ and_both (own_fits base.catalog o) _ (own_at k f at)
      (and_both (children_fit base.catalog (width_of base.catalog o.table) (kids k)) _ (kids_fit (length plan.steps) k f (omega arith) at)
      (and_both _ _
      (key_more o (kids k) o.parent ∙ sym (key_in f o.parent) ∙ first_so _ _ rest)
      (parent_more o (kids k) o.parent ∙ sym (parent_in f o.parent) ∙ second_so (has_key f o.parent) _ rest)))

  step_made : (k : ℕ) (s : Step) → slice_get plan.steps k ≡ Some s → step_fits base.catalog plan k s ≡ true → step_fits base.catalog (inlined plan) k (step_with (kids k) s) ≡ true
  step_made k (step.Const v) at h = refl
  step_made k (step.Var path) at h = refl
  step_made k step.Given at h = refl
  step_made k (step.Fetch f) at h = fetch_made_fits k f at
  step_made k (step.Item s) at h = ap (λ is. is s && same_place (over plan.layers k) (Some s)) fetches_made ∙ h
  step_made k (step.Column i c) at h = row_has_made (c ∷ []) i ∙ h
  step_made k (step.Count s) at h = ap (λ is. is s) fetches_made ∙ h
  step_made k (step.Page s part) at h = ap (λ is. is s && nat_lt part 4) fetches_made ∙ h
  step_made k (step.CursorOf i) at h = ap (λ items. is_some (items i)) items_made ∙ h

  each_made : (k : ℕ) (s : Step) → slice_get made k ≡ Some s → (step_fits base.catalog (inlined plan) k s && name_fits (inlined plan) k (named_by s)) ≡ true
  each_made k s at =
      let lt = slice_get_within made k s at in
      let len = length_inlined plan.steps 0 plan.steps in
      let t = at_some plan.steps k (omega (arith, lt, len)) in
      let same : step_with (kids k) t.0 ≡ s = let z = sym (made_at base plan tree ok k t.0 t.1) ∙ at in cc in
      let named = name_told base.catalog plan 0 plan.steps (first_so _ _ ok) k t.0 t.1 in
      subst (λ x. (step_fits base.catalog (inlined plan) k x && name_fits (inlined plan) k (named_by x)) ≡ true) same
      (and_both _ _ (step_made k t.0 t.1 (step_checked base tree plan ok k t.0 t.1))
      (ap (name_fits (inlined plan) k) (named_step (kids k) t.0) ∙ name_same (inlined plan) plan refl k (named_by t.0) ∙ ap (λ n. name_fits plan n (named_by t.0)) (sym (zero-add k)) ∙ named))

  -- the law
  pub inlined_checked : is_checked base tree (inlined plan) ≡ true
  inlined_checked =
      let layers_outs = second_so (steps_fit base.catalog plan 0 plan.steps) _ ok in
      and_both _ _ (steps_all base.catalog (inlined plan) 0 made (λ i s at. subst (λ k. (step_fits base.catalog (inlined plan) k s && name_fits (inlined plan) k (named_by s)) ≡ true) (sym (zero-add i)) (each_made i s at)))
      (and_both _ _
      (sym (layers_bare (inlined plan)) ∙ ap layers_fit (bare_is plan flat) ∙ first_so (layers_fit plan) _ layers_outs)
      (sym (outs_bare base tree (inlined plan)) ∙ ap (outs_fit base tree) (bare_is plan flat) ∙ second_so (layers_fit plan) _ layers_outs))
