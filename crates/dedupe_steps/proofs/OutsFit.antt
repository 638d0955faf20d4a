-- The entries of a quotient are well formed, and so is the quotient.
use Rattle.std.proofs.Common.{◌≡◌, ℕ, ◌<◌, List, [], ◌∷◌, map, length, Option, Some, None, Bool, true, false, cond, not, refl, sym, ap, ◌∙◌, subst, arith, inl, inr, eq-eqb, eqb-true}
use Rattle.std.proofs.lemmas.List.{length-map}
use Rattle.std.specs.Prelude.{slice_get, ◌==◌, ◌&&◌, ◌||◌, nat_lt, option_map, is_some, IfSome, IsTrue}
use Rattle.std.specs.Cmp.{first_so, second_so}
use Rattle.std.specs.List.{list_any, list_all}
use Rattle.plan_steps.specs.declared.plan.FetchStep.{FetchStep, out-FetchStep}
use Rattle.plan_steps.specs.declared.plan.OutPlace.{OutPlace}
use Rattle.plan_steps.specs.declared.plan.Step.{Step}
use Rattle.plan_steps.specs.declared.plan.Step.TheVariants as step
use Rattle.plan_steps.specs.Chains.{is_in}
use Rattle.plan_steps.specs.Check.{is_above, stands_over, tables_have, fetch_takes, takes_given, given_fits, out_fits, places_differ, outs_fit, is_checked}
use Rattle.plan_steps.specs.Named.{named_by, used_by, fetch_in, is_given_in, is_given, layer_of}
use Rattle.plan_steps.proofs.Bools.{or_cases, or_left, or_right}
use Rattle.plan_steps.proofs.Checked.{at_some}
use Rattle.plan_steps.proofs.Earlier.{names_earlier}
use Rattle.dedupe_steps.specs.Keys.{content, OnGivenRow, OnRowOf, hook_on}
use Rattle.dedupe_steps.specs.Numbered.{at}
use Rattle.dedupe_steps.specs.Quotient.{new_out, new_layer, new_step}
use Rattle.dedupe_steps.proofs.Layers.{laid_checked, layer_moved}
use Rattle.dedupe_steps.proofs.LayersFit.{all_from, layers_there}
use Rattle.dedupe_steps.proofs.Lists.{map_get, get_below}
use Rattle.dedupe_steps.proofs.Merging.{hook_row, given_from, Merging, to, M, other_there, fetch_there}
use Rattle.dedupe_steps.proofs.Same.{both_so}
use Rattle.dedupe_steps.proofs.Serving.{new_fetch, new_parent, new_as, hangs_none, hangs_given, hooks}
use Rattle.dedupe_steps.proofs.StepsFit.{less_so, stands_moved, steps_there}
use Rattle.dedupe_steps.proofs.Used.{less_told, out_checked, outs_checked, out_step, used_back}

in_all : (test : ℕ → Bool) (numbers : List ℕ) (k : ℕ) → list_all test numbers ≡ true → is_in numbers k ≡ true → test k ≡ true
in_all test [] k h i = cc
in_all test (n ∷ numbers) k h i = elim (or_cases (n == k) (is_in numbers k) i) [
  | inl e ↦ sym (ap test (eqb-true n k e)) ∙ first_so (test n) _ h
  | inr e ↦ in_all test numbers k (second_so (test n) _ h) e
]

all_in : (test : ℕ → Bool) (numbers : List ℕ) → ((k : ℕ) → is_in numbers k ≡ true → test k ≡ true) → list_all test numbers ≡ true
all_in test [] f = refl
all_in test (n ∷ numbers) f = both_so _ _ (f n (or_left (n == n) _ (eq-eqb n n refl))) (all_in test numbers (λ k e. f k (or_right (n == k) _ e)))

differ_still : (to_ to_layer : List ℕ) (out : List OutPlace) (place : ℕ) → list_any (λ p. p.place == place) (map (new_out to_ to_layer) out) ≡ list_any (λ p. p.place == place) out
differ_still to_ to_layer [] place = refl
differ_still to_ to_layer (o ∷ out) place = ap (λ b. (o.place == place) || b) (differ_still to_ to_layer out place)

places_still : (to_ to_layer : List ℕ) (out : List OutPlace) → places_differ (map (new_out to_ to_layer) out) ≡ places_differ out
places_still to_ to_layer [] = refl
places_still to_ to_layer (o ∷ out) =
    ap (λ b. not b && places_differ (map (new_out to_ to_layer) out)) (differ_still to_ to_layer out o.place)
    ∙ ap (λ b. not (list_any (λ p. p.place == o.place) out) && b) (places_still to_ to_layer out)

content_given : (to_ : List ℕ) (s : Step) → is_given_in (Some (content to_ s)) ≡ is_given_in (Some s)
content_given to_ (step.Const v) = refl
content_given to_ (step.Var v) = refl
content_given to_ step.Given = refl
content_given to_ (step.Fetch f) = refl
content_given to_ (step.Item s) = refl
content_given to_ (step.Column i c) = refl
content_given to_ (step.Count s) = refl
content_given to_ (step.Page s part) = refl
content_given to_ (step.CursorOf i) = refl

module _ (m : Merging) where
  abbrev lto : ℕ → ℕ
  lto = at m.l.to

  given_other : (k : ℕ) (s : Step) → is_some (fetch_in (Some s)) ≡ false → slice_get m.plan.steps k ≡ Some s → is_given (M m).steps (to m k) ≡ is_given m.plan.steps k
  given_other k s none h = ap is_given_in (other_there m k s none h) ∙ content_given m.r.to s ∙ sym (ap is_given_in h)

  -- a step stands for the row that a mutation gave where it is one
  given_stays : (k : ℕ) (s : Step) → slice_get m.plan.steps k ≡ Some s → is_given (M m).steps (to m k) ≡ is_given m.plan.steps k
  given_stays k (step.Fetch f) h = ap is_given_in (fetch_there m k f h).is ∙ sym (ap is_given_in h)
  given_stays k (step.Const v) h = given_other k (step.Const v) refl h
  given_stays k (step.Var v) h = given_other k (step.Var v) refl h
  given_stays k step.Given h = given_other k step.Given refl h
  given_stays k (step.Item s) h = given_other k (step.Item s) refl h
  given_stays k (step.Column i c) h = given_other k (step.Column i c) refl h
  given_stays k (step.Count s) h = given_other k (step.Count s) refl h
  given_stays k (step.Page s part) h = given_other k (step.Page s part) refl h
  given_stays k (step.CursorOf i) h = given_other k (step.CursorOf i) refl h

  named_step : (k j : ℕ) (s : Step) → slice_get m.plan.steps k ≡ Some s → named_by s ≡ Some j → (t : Step) × (slice_get m.plan.steps j ≡ Some t)
  named_step k j s h e =
      let lt : j < k = subst (λ o. IfSome o (λ x. x < k)) e (names_earlier m.base m.tree m.plan m.checked k s h) in
      let below = get_below m.plan.steps k s h in
      at_some m.plan.steps j (omega (arith, lt, below))

  -- ---- what is taken from the row that a mutation gave

  taken_fetch : (i k : ℕ) (f : FetchStep) → slice_get m.plan.steps k ≡ Some (step.Fetch f) → fetch_takes m.base m.tree.places m.plan.steps i f (out-FetchStep f).parent ≡ true
      → takes_given m.base m.tree.places (M m).steps i (slice_get (M m).steps (to m k)) ≡ true
  taken_fetch i k f h takes =
      ap (takes_given m.base m.tree.places (M m).steps i) (fetch_there m k f h).is
      ∙ by (out-FetchStep f).parent refl takes where
        g : FetchStep
        g = new_fetch m k f (fetch_there m k f h)

        row : (p : ℕ) → (out-FetchStep f).parent ≡ Some p → (b : Bool) → is_given m.plan.steps p ≡ b → (not b || tables_have m.base m.tree.places i (out-FetchStep f).parent_columns) ≡ true
            → fetch_takes m.base m.tree.places (M m).steps i (new_fetch m k f (fetch_there m k f h)) (out-FetchStep (new_fetch m k f (fetch_there m k f h))).parent ≡ true
        row p e true is takes =
            let t = fetch_there m k f h in
            let z = hangs_given m k f t p e (given_from (slice_get m.plan.steps p) is) in
            ap (fetch_takes m.base m.tree.places (M m).steps i (new_fetch m k f t)) z.1
            ∙ or_right (not (is_given (M m).steps z.0)) _ (ap (tables_have m.base m.tree.places i) (new_as m k f t).parent_columns ∙ takes)
        row p e false is takes =
            let t = fetch_there m k f h in
            let hook_ = hooks m k f t ∙ ap (hook_on m.r.to m.plan.steps) e ∙ ap (λ b. cond b OnGivenRow (OnRowOf (to m p))) is in
            let z = hook_row m.r.to m.plan.steps (out-FetchStep t.fetch).parent (to m p) hook_ in
            let parent = new_parent m k f t ∙ ap (option_map (to m)) z.1 ∙ ap (λ n. Some n) z.3 in
            let s = named_step k p (step.Fetch f) h e in
            ap (fetch_takes m.base m.tree.places (M m).steps i (new_fetch m k f t)) parent
            ∙ or_left (not (is_given (M m).steps (to m p))) _ (ap not (given_stays p s.0 s.1 ∙ is))

        by : (o : Option ℕ) → (out-FetchStep f).parent ≡ o → fetch_takes m.base m.tree.places m.plan.steps i f o ≡ true → fetch_takes m.base m.tree.places (M m).steps i (new_fetch m k f (fetch_there m k f h)) (out-FetchStep (new_fetch m k f (fetch_there m k f h))).parent ≡ true
        by None e takes = ap (fetch_takes m.base m.tree.places (M m).steps i (new_fetch m k f (fetch_there m k f h))) (hangs_none m k f (fetch_there m k f h) e)
        by (Some p) e takes = row p e (is_given m.plan.steps p) refl takes

  taken_other : (i k : ℕ) (s : Step) → is_some (fetch_in (Some s)) ≡ false → slice_get m.plan.steps k ≡ Some s → takes_given m.base m.tree.places (M m).steps i (Some (content m.r.to s)) ≡ true → takes_given m.base m.tree.places (M m).steps i (slice_get (M m).steps (to m k)) ≡ true
  taken_other i k s none h takes = ap (takes_given m.base m.tree.places (M m).steps i) (other_there m k s none h) ∙ takes

  taken : (i k : ℕ) (s : Step) → slice_get m.plan.steps k ≡ Some s → takes_given m.base m.tree.places m.plan.steps i (Some s) ≡ true → takes_given m.base m.tree.places (M m).steps i (slice_get (M m).steps (to m k)) ≡ true
  taken i k (step.Fetch f) h takes = taken_fetch i k f h takes
  taken i k (step.Column row column) h takes =
      let s = named_step k row (step.Column row column) h refl in
      taken_other i k (step.Column row column) refl h (ap (λ b. not b || tables_have m.base m.tree.places i (column ∷ [])) (given_stays row s.0 s.1) ∙ takes)
  taken i k (step.Const v) h takes = taken_other i k (step.Const v) refl h refl
  taken i k (step.Var v) h takes = taken_other i k (step.Var v) refl h refl
  taken i k step.Given h takes = taken_other i k step.Given refl h refl
  taken i k (step.Item s) h takes = taken_other i k (step.Item s) refl h refl
  taken i k (step.Count s) h takes = taken_other i k (step.Count s) refl h refl
  taken i k (step.Page s part) h takes = taken_other i k (step.Page s part) refl h refl
  taken i k (step.CursorOf j) h takes = taken_other i k (step.CursorOf j) refl h refl

  given_is : (i n : ℕ) → (o : Option Step) → slice_get (M m).steps n ≡ o → (is_given_in o ≡ false → takes_given m.base m.tree.places (M m).steps i o ≡ true) → takes_given m.base m.tree.places (M m).steps i o ≡ true
  given_is i n (Some step.Given) e f = refl
  given_is i n None e f = f refl
  given_is i n (Some (step.Const v)) e f = refl
  given_is i n (Some (step.Var v)) e f = refl
  given_is i n (Some (step.Fetch g)) e f = f refl
  given_is i n (Some (step.Item s)) e f = refl
  given_is i n (Some (step.Column r c)) e f = f refl
  given_is i n (Some (step.Count s)) e f = refl
  given_is i n (Some (step.Page s part)) e f = refl
  given_is i n (Some (step.CursorOf j)) e f = refl

  given_moved : (o : OutPlace) (s : Step) → slice_get m.plan.steps o.step ≡ Some s → given_fits m.base m.tree.places m.plan.steps o ≡ true → given_fits m.base m.tree.places (M m).steps (new_out m.r.to m.l.to o) ≡ true
  given_moved o s h fits =
      all_in (λ k. takes_given m.base m.tree.places (M m).steps o.place (slice_get (M m).steps k)) (used_by (M m).steps (to m o.step)) (λ n i.
      given_is o.place n (slice_get (M m).steps n) refl (λ other.
      let not_given : slice_get (M m).steps n ≡ Some step.Given → ⊥ = λ given. (let z = sym (ap is_given_in given) ∙ other in cc) in
      let b = used_back m (length (M m).steps) o.step (length m.plan.steps) n s (get_below m.plan.steps o.step s h) h not_given i in
      let takes = in_all (λ k. takes_given m.base m.tree.places m.plan.steps o.place (slice_get m.plan.steps k)) (used_by m.plan.steps o.step) b.old fits b.used in
      sym (ap (λ k. takes_given m.base m.tree.places (M m).steps o.place (slice_get (M m).steps k)) b.to_)
      ∙ taken o.place b.old b.step_ b.is_old (sym (ap (takes_given m.base m.tree.places m.plan.steps o.place) b.is_old) ∙ takes)))

  -- ---- entries

  out_moved : (n : ℕ) (o : OutPlace) → slice_get m.plan.out n ≡ Some o → out_fits m.base m.tree (M m) (new_out m.r.to m.l.to o) ≡ true
  out_moved n o h =
      let fits = out_checked m.base m.tree m.plan m.checked n o h in
      let s = out_step m.base m.tree m.plan m.checked n o h in
      let in_tree = first_so (nat_lt o.place (length m.tree.places)) _ fits in
      let rest = second_so (nat_lt o.place (length m.tree.places)) _ fits in
      let more = second_so (nat_lt o.step (length m.plan.steps)) _ rest in
      let layer_in = less_told o.layer (length m.plan.layers) (first_so (nat_lt o.layer (length m.plan.layers)) _ more) in
      let last = second_so (nat_lt o.layer (length m.plan.layers)) _ more in
      let y = laid_checked m.base m.tree m.plan m.checked o.step s.0 s.1 in
      let over_ : is_above m.plan.layers o.layer y.0 ≡ true = sym (ap (stands_over m.plan.layers (Some o.layer)) y.1) ∙ first_so (stands_over m.plan.layers (Some o.layer) (layer_of m.plan.layers o.step)) _ last in
      let named = m.numbered.named o.step (get_below m.plan.steps o.step s.0 s.1) in
      let laid = m.laid.named o.layer layer_in in
      let long = length-map m.r.firsts (new_step m.plan.steps m.r.to) in
      let wide = length-map m.l.firsts (new_layer m.plan m.r m.l) in
      both_so _ _ in_tree
      (both_so _ _ (less_so (to m o.step) (length (M m).steps) (omega (arith, named, long)))
      (both_so _ _ (less_so (lto o.layer) (length (M m).layers) (omega (arith, laid, wide)))
      (both_so _ _ (ap (stands_over (M m).layers (Some (lto o.layer))) (layer_moved m o.step s.0 y.0 s.1 y.1) ∙ stands_moved m o.layer y.0 layer_in over_)
      (given_moved o s.0 s.1 (second_so (stands_over m.plan.layers (Some o.layer) (layer_of m.plan.layers o.step)) _ last)))))

  outs_there : outs_fit m.base m.tree (M m) ≡ true
  outs_there =
      both_so _ _
      (all_from (out_fits m.base m.tree (M m)) (M m).out (λ n x h.
      let o = map_get (new_out m.r.to m.l.to) m.plan.out n x h in
      sym (ap (out_fits m.base m.tree (M m)) o.2) ∙ out_moved n o.0 o.1))
      (places_still m.r.to m.l.to m.plan.out ∙ second_so (list_all (out_fits m.base m.tree m.plan) m.plan.out) _ (outs_checked m.base m.tree m.plan m.checked))

  -- the quotient is well formed
  pub well_formed : IsTrue (is_checked m.base m.tree (M m))
  well_formed = both_so _ _ (steps_there m) (both_so _ _ (layers_there m) outs_there)
