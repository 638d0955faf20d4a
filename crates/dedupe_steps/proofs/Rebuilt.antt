-- The parts of the new plan, as the code makes them.
use Rattle.std.proofs.Common.{inl, inr, ◌≡◌, ℕ, zero, suc, ◌+◌, ◌<◌, ◌≤◌, List, [], ◌∷◌, ◌++◌, map, drop, get_or, length, Option, Some, None, Bool, true, false, cond, refl, sym, ap, ◌∙◌, subst, arith, append_assoc}
use Rattle.std.specs.Prelude.{slice_get, slice_set, option_map, ◌==◌, ◌||◌, ◌&&◌, if◌then◌else◌, unwrap_or}
use Rattle.std.proofs.lemmas.Bool.Decides.{eqb_tells}
use Rattle.place_tree.specs.Fold.{same_place}
use Rattle.plan_steps.specs.declared.plan.Layer.{Layer}
use Rattle.plan_steps.specs.declared.plan.OutPlace.{OutPlace}
use Rattle.plan_steps.specs.declared.plan.Plan.{Plan}
use Rattle.plan_steps.specs.declared.plan.Step.{Step}
use Rattle.plan_steps.specs.Named.{layer_of}
use Rattle.dedupe_steps.specs.Keys.{moved, step_at}
use Rattle.dedupe_steps.specs.Made.{AreWithin, AreBelow, AreInOrder, laid_in, layers_made}
use Rattle.dedupe_steps.specs.Numbered.{at, Renaming}
use Rattle.dedupe_steps.specs.Quotient.{asks, some_asks, new_step, steps_in, new_layer, new_out, quotient, ground_at}
use Rattle.dedupe_steps.specs.Sights.{at_or}
use Rattle.pg_base.proofs.ListSteps.{drop-item}
use Rattle.dedupe_steps.proofs.Lists.{get_below}

-- ---- which ask for rows

or_on : (b c old rest : Bool) → (cond b (old || c) old || rest) ≡ (old || ((b && c) || rest))
or_on true true true rest = refl
or_on true true false rest = refl
or_on true false true rest = refl
or_on true false false rest = refl
or_on false c old rest = refl

pub asks_on : (to : List ℕ) (m k : ℕ) (s : Step) (steps rest : List Step) (old new whole : Bool) → steps ≡ s ∷ rest
    → new ≡ (if at to k == m then old || asks s else old)
    → (old || some_asks to m k steps) ≡ whole → (new || some_asks to m (k + 1) rest) ≡ whole
asks_on to m k s steps rest old new whole d e h =
    ap (λ b. b || some_asks to m (k + 1) rest) e ∙ or_on (at to k == m) (asks s) old (some_asks to m (k + 1) rest)
    ∙ sym (ap (λ l. old || some_asks to m k l) d) ∙ h

-- ---- layers

pub lists_on : (laid : List (Option ℕ)) (to : List ℕ) (x m k : ℕ) (firsts rest : List ℕ) (old new whole : List ℕ) → firsts ≡ k ∷ rest
    → new ≡ (if same_place (option_map (at to) (at_or None laid k)) (Some x) then old ++ m ∷ [] else old)
    → old ++ laid_in laid to x m firsts ≡ whole → new ++ laid_in laid to x (m + 1) rest ≡ whole
lists_on laid to x m k firsts rest old new whole d e h =
    ap (λ l. l ++ laid_in laid to x (m + 1) rest) e
    ∙ by (same_place (option_map (at to) (at_or None laid k)) (Some x))
    ∙ sym (ap (λ l. old ++ laid_in laid to x m l) d) ∙ h where
      by : (b : Bool) → cond b (old ++ m ∷ []) old ++ laid_in laid to x (m + 1) rest ≡ old ++ cond b (m ∷ laid_in laid to x (m + 1) rest) (laid_in laid to x (m + 1) rest)
      by true = append_assoc old (m ∷ []) (laid_in laid to x (m + 1) rest)
      by false = refl

laid_is : (laid : List (Option ℕ)) (layers : List Layer) (to : List ℕ) (x m : ℕ) (firsts : List ℕ)
    → ((i k : ℕ) → slice_get firsts i ≡ Some k → at_or None laid k ≡ layer_of layers k) → laid_in laid to x m firsts ≡ steps_in layers to x m firsts
laid_is laid layers to x m [] h = refl
laid_is laid layers to x m (k ∷ firsts) h =
    let rest = laid_is laid layers to x (m + 1) firsts (λ i j e. h (suc i) j e) in
    ap (λ o. cond (same_place (option_map (at to) o) (Some x)) (m ∷ laid_in laid to x (m + 1) firsts) (laid_in laid to x (m + 1) firsts)) (h 0 k refl)
    ∙ ap (λ l. cond (same_place (option_map (at to) (layer_of layers k)) (Some x)) (m ∷ l) l) rest

layers_are : (plan : Plan) (r l : Renaming) (lists : List (List ℕ)) (m : ℕ) (firsts : List ℕ)
    → ((i y : ℕ) → slice_get firsts i ≡ Some y → (at l.to y ≡ m + i) × (at_or [] lists (m + i) ≡ steps_in plan.layers l.to (m + i) 0 r.firsts))
    → layers_made r.to plan.layers lists m firsts ≡ map (new_layer plan r l) firsts
layers_are plan r l lists m [] h = refl
layers_are plan r l lists m (y ∷ firsts) h =
    let here = h 0 y refl in
    let e : m + 0 ≡ m = omega arith in
    let list = sym (ap (at_or [] lists) e) ∙ here.1 ∙ ap (λ x. steps_in plan.layers l.to x 0 r.firsts) (sym here.0) in
    let one : (i : ℕ) → m + 1 + i ≡ m + suc i = λ i. omega arith in
    let rest = layers_are plan r l lists (m + 1) firsts (λ i z at_i. (let t = h (suc i) z at_i in
    (t.0 ∙ sym (one i), subst (λ n. at_or [] lists n ≡ steps_in plan.layers l.to n 0 r.firsts) (sym (one i)) t.1))) in
    λ i. record { over = ground_at r.to plan.layers y; steps = list i } ∷ rest i

pub rebuilt : (plan new : Plan) (laid : List (Option ℕ)) (to firsts to_layer layer_firsts : List ℕ) (lists slice : List (List ℕ)) (steps : List Step) (under over : List Layer) (out : List OutPlace) (n m : ℕ)
    → AreBelow (length plan.steps) firsts → AreInOrder to_layer layer_firsts
    → n ≡ length plan.steps → under ≡ plan.layers → ((k : ℕ) → k < n → at_or None laid k ≡ layer_of under k)
    → m ≡ length layer_firsts → ((x : ℕ) → x < m → at_or [] lists x ≡ laid_in laid to_layer x 0 firsts)
    → steps ≡ plan.steps → new.steps ≡ map (new_step steps to) firsts
    → over ≡ plan.layers → slice ≡ lists → new.layers ≡ layers_made to over slice 0 layer_firsts
    → out ≡ plan.out → new.out ≡ map (new_out to to_layer) out
    → new ≡ quotient plan (record { to = to; firsts = firsts }) (record { to = to_layer; firsts = layer_firsts })
rebuilt plan new laid to firsts to_layer layer_firsts lists slice steps under over out n m within numbers count u laid_at long listed s_is s o_is l_is l out_is o =
    let r : Renaming = record { to = to; firsts = firsts } in
    let q : Renaming = record { to = to_layer; firsts = layer_firsts } in
    let laid_there : (k : ℕ) → k < length plan.steps → at_or None laid k ≡ layer_of plan.layers k =
    λ k lt. laid_at k (omega (arith, count, lt)) ∙ ap (λ ls. layer_of ls k) u in
    let in_firsts : (i y : ℕ) → slice_get layer_firsts i ≡ Some y → i < m = λ i y e. (let lt = get_below layer_firsts i y e in omega (arith, lt, long)) in
    let zero_more : (i : ℕ) → 0 + i ≡ i = λ i. omega arith in
    let made = layers_are plan r q lists 0 layer_firsts (λ i y e. (
      numbers i y e ∙ sym (zero_more i),
      subst (λ j. at_or [] lists j ≡ steps_in plan.layers to_layer j 0 firsts) (sym (zero_more i))
          (listed i (in_firsts i y e) ∙ laid_is laid plan.layers to_layer i 0 firsts (λ j k at_j. laid_there k (within j k at_j))),
    )) in
    let new_steps = s ∙ ap (λ x. map (new_step x to) firsts) s_is in
    let new_layers = l ∙ ap (λ x. layers_made to x slice 0 layer_firsts) o_is ∙ ap (λ x. layers_made to plan.layers x 0 layer_firsts) l_is ∙ made in
    let new_places = o ∙ ap (map (new_out to to_layer)) out_is in
    λ i. record { steps = new_steps i; layers = new_layers i; out = new_places i }

-- ---- one step more

any_other : (xs : List ℕ) (i d e : ℕ) → i < length xs → get_or xs i d ≡ get_or xs i e
any_other [] i d e lt = absurd (omega arith)
any_other (x ∷ xs) zero d e lt = refl
any_other (x ∷ xs) (suc i) d e lt = any_other xs i d e (omega arith)

got : (xs : List ℕ) (i : ℕ) → i < length xs → slice_get xs i ≡ Some (get_or xs i 0)
got [] i lt = absurd (omega arith)
got (x ∷ xs) zero lt = refl
got (x ∷ xs) (suc i) lt = got xs i (omega arith)

pub new_on : (to firsts : List ℕ) (steps : List Step) (flags : List Bool) (i r : ℕ) (rows : Bool) (s : Step) (new after whole : List Step) → i < length firsts
    → AreWithin to (length firsts) firsts → ((m : ℕ) → m < length firsts → at_or false flags m ≡ some_asks to m 0 steps)
    → r ≡ at to (get_or firsts i 0) → rows ≡ at_or false flags r → s ≡ moved to rows (step_at steps (get_or firsts i 0)) → after ≡ new ++ s ∷ []
    → new ++ map (new_step steps to) (drop i firsts) ≡ whole → after ++ map (new_step steps to) (drop (i + 1) firsts) ≡ whole
new_on to firsts steps flags i r rows s new after whole lt within flagged r_is rows_is s_is after_is h =
    let f = get_or firsts i 0 in
    let rest = map (new_step steps to) (drop (i + 1) firsts) in
    let asked : rows ≡ some_asks to (at to f) 0 steps = rows_is ∙ ap (at_or false flags) r_is ∙ flagged (at to f) (within i f (got firsts i lt)) in
    ap (λ l. l ++ rest) after_is ∙ append_assoc new (s ∷ []) rest
    ∙ ap (λ x. new ++ (x ∷ rest)) (s_is ∙ ap (λ b. moved to b (step_at steps f)) asked)
    ∙ ap (λ l. new ++ map (new_step steps to) l) (sym (drop-item firsts i f lt (any_other firsts i 0 f lt))) ∙ h
