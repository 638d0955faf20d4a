-- Each place that a walk over a plan's places meets, and at most what these cost is found.
use Rattle.std.proofs.Common.{◌≡◌, ℕ, ◌+◌, ◌≤◌, List, [], ◌∷◌, ◌++◌, Option, Some, None, Bool, true, false, cond, refl, sym, ap, ◌∙◌, arith, eqb-true}
use Rattle.std.specs.Prelude.{◌==◌, ◌&&◌, if◌then◌else◌}
use Rattle.place_tree.specs.declared.place.Tree.{Tree}
use Rattle.place_tree.specs.declared.answer.Answer.{Answer}
use Rattle.place_tree.specs.declared.answer.Answer.TheVariants.{Shows, Fails, One, Many}
use Rattle.place_tree.specs.Fold.{fold}
use Rattle.plan_steps.specs.declared.plan.Plan.{Plan}
use Rattle.plan_steps.specs.declared.plan.Root.{Root}
use Rattle.plan_steps.specs.Denoted.{denoted}
use Rattle.plan_steps.specs.Named.{step_for}
use Rattle.plan_steps.specs.Sent.{Stance, stance_in, stances, trees_at, trees_if, rows_by, rows_found, total, places_from}
use Rattle.plan_steps.specs.Under.{root_place}
use Rattle.plan_steps.specs.Values.{Moment, Path}
use Rattle.plan_steps.proofs.Totals.{total_same, total_sum, total_zero, total_one}

-- a place, with the path at which it is met
pub record Visit : Type 0 where
  pub place : ℕ
  pub path : Path

abbrev pub joined : List (List Visit) → List Visit
joined [] = []
joined (vs ∷ more) = vs ++ joined more

abbrev pub visits_in : Answer (List Visit) → List Visit
visits_in (Shows l) = []
visits_in (Fails message) = []
visits_in (One vs) = vs
visits_in (Many vss) = joined vss

-- each place that is met, in the order of the walk
abbrev pub visits : Moment → Plan → Tree → Root → List Visit
visits m plan tree r = fold (denoted m plan) (λ i p path a rest. record { place = i; path = path } ∷ (visits_in a ++ rest)) [] tree.places 0 (root_place r) []

-- the paths at which one place is met
abbrev pub met : ℕ → List Visit → List Path
met i [] = []
met i (v ∷ vs) = if v.place == i then v.path ∷ met i vs else met i vs

-- each asked step is met at a place of its own, wherever its layer stands, and finds there no more than the place costs
pub record AreMet (m : Moment) (tree : Tree) (plan : Plan) (r : Root) (cost : Visit → ℕ) : Type 0 where
  pub place_of : ℕ → ℕ
  pub own : (k : ℕ) → (stance_in (stances m tree plan r) k).asked ≡ true → step_for plan.out (place_of k) ≡ Some k
  pub paths : (k : ℕ) → (stance_in (stances m tree plan r) k).asked ≡ true → (stance_in (stances m tree plan r) k).paths ≡ met (place_of k) (visits m plan tree r)
  pub costs : (k : ℕ) (path : Path) → (stance_in (stances m tree plan r) k).asked ≡ true → trees_at m plan.steps k path ≤ cost (record { place = place_of k; path = path })

module _ (m : Moment) (tree : Tree) (plan : Plan) (r : Root) (cost : Visit → ℕ) (are : AreMet m tree plan r cost) where
  abbrev S : List Stance
  S = stances m tree plan r

  -- what a step finds at a visit, where it is asked and this is its place
  abbrev here : Visit → ℕ → ℕ
  here v k = cond ((stance_in S k).asked && (v.place == are.place_of k)) (trees_at m plan.steps k v.path) 0

  here_off : (v : Visit) (k : ℕ) → ((stance_in S k).asked ≡ true → v.place ≡ are.place_of k → ⊥) → here v k ≡ 0
  here_off v k h = by_test (stance_in S k).asked refl (v.place == are.place_of k) refl where
    by_test : (b : Bool) → (stance_in S k).asked ≡ b → (c : Bool) → (v.place == are.place_of k) ≡ c → cond (b && c) (trees_at m plan.steps k v.path) 0 ≡ 0
    by_test true eb true ec = absurd (h eb (eqb-true v.place (are.place_of k) ec))
    by_test true eb false ec = refl
    by_test false eb c ec = refl

  here_cost : (v : Visit) (k : ℕ) → here v k ≤ cost v
  here_cost v k = by_test (stance_in S k).asked refl (v.place == are.place_of k) refl where
    by_test : (b : Bool) → (stance_in S k).asked ≡ b → (c : Bool) → (v.place == are.place_of k) ≡ c → cond (b && c) (trees_at m plan.steps k v.path) 0 ≤ cost v
    by_test true eb true ec =
        let at = eqb-true v.place (are.place_of k) ec in
        let le = are.costs k v.path eb in
        let same : cost (record { place = are.place_of k; path = v.path }) ≡ cost v = let f : ℕ → ℕ = λ i. cost (record { place = i; path = v.path }) in ap f (sym at) in
        omega (arith, le, same)
    by_test true eb false ec = omega arith
    by_test false eb c ec = omega arith

  -- at one visit at most one step finds anything
  at_visit : (v : Visit) → total (here v) (places_from 0 plan.steps) ≤ cost v
  at_visit v = by_step (step_for plan.out v.place) refl where
    by_step : (o : Option ℕ) → step_for plan.out v.place ≡ o → total (here v) (places_from 0 plan.steps) ≤ cost v
    by_step None e = let z = total_zero (here v) 0 plan.steps (λ j le. here_off v j (λ asked at. let q = sym (are.own j asked) ∙ ap (step_for plan.out) (sym at) ∙ e in cc)) in omega (arith, z)
    by_step (Some k) e = total_one (here v) k (cost v) 0 plan.steps (λ j n. here_off v j (λ asked at. n (let q = sym (are.own j asked) ∙ ap (step_for plan.out) (sym at) ∙ e in cc))) (here_cost v k)

  -- what a step finds at all visits of its place
  abbrev found : List Visit → ℕ → ℕ
  found vs k = trees_if (stance_in S k).asked (trees_at m plan.steps k) (met (are.place_of k) vs)

  found_step : (v : Visit) (vs : List Visit) (k : ℕ) → found (v ∷ vs) k ≡ here v k + found vs k
  found_step v vs k = by_test (stance_in S k).asked (v.place == are.place_of k) where
    by_test : (b c : Bool) → trees_if b (trees_at m plan.steps k) (cond c (v.path ∷ met (are.place_of k) vs) (met (are.place_of k) vs)) ≡ cond (b && c) (trees_at m plan.steps k v.path) 0 + trees_if b (trees_at m plan.steps k) (met (are.place_of k) vs)
    by_test true true = refl
    by_test true false = omega arith
    by_test false c = omega arith

  found_none : (k : ℕ) → found [] k ≡ 0
  found_none k = by_test (stance_in S k).asked where
    by_test : (b : Bool) → trees_if b (trees_at m plan.steps k) [] ≡ 0
    by_test true = refl
    by_test false = refl

  all_found : (vs : List Visit) → total (found vs) (places_from 0 plan.steps) ≤ total cost vs
  all_found [] = let z = total_zero (found []) 0 plan.steps (λ j le. found_none j) in omega (arith, z)
  all_found (v ∷ vs) =
      let a = total_same _ _ (found_step v vs) (places_from 0 plan.steps) ∙ total_sum (here v) (found vs) (places_from 0 plan.steps) in
      let b = at_visit v in
      let c = all_found vs in
      omega (arith, a, b, c)

  rows_are : (k : ℕ) → rows_by m plan.steps S k ≡ found (visits m plan tree r) k
  rows_are k = by_asked (stance_in S k).asked refl where
    by_asked : (b : Bool) → (stance_in S k).asked ≡ b → rows_by m plan.steps S k ≡ found (visits m plan tree r) k
    by_asked true e =
        let both = are.paths k e in
        ap (λ ps. trees_if (stance_in S k).asked (trees_at m plan.steps k) ps) both
    by_asked false e = ap (λ b. trees_if b (trees_at m plan.steps k) (stance_in S k).paths) e ∙ sym (ap (λ b. trees_if b (trees_at m plan.steps k) (met (are.place_of k) (visits m plan tree r))) e)

  -- the law
  pub found_within : rows_found m tree plan r ≤ total cost (visits m plan tree r)
  found_within = let e = total_same _ _ rows_are (places_from 0 plan.steps) in let l = all_found (visits m plan tree r) in omega (arith, e, l)
