-- What stands in the tables that are laid out.
use Rattle.std.proofs.Common.{◌≡◌, ℕ, zero, suc, ◌+◌, ◌<◌, ◌≤◌, List, [], ◌∷◌, map, drop, get_or, length, Option, Some, None, Bool, true, false, cond, refl, sym, ap, ◌∙◌, arith}
use Rattle.std.specs.Prelude.{slice_get, option_map}
use Rattle.json_out.specs.JsonText.{json_key}
use Rattle.pg_base.proofs.ListSteps.{drop-item}
use Rattle.pg_base.specs.Base.{BaseParts}
use Rattle.pg_base.specs.declared.vars.Vars.{Vars}
use Rattle.place_tree.specs.declared.place.Place.{Place}
use Rattle.place_tree.proofs.Lists.{get_drop}
use Rattle.place_tree.specs.Fold.{same_place}
use Rattle.plan_steps.specs.declared.plan.OutPlace.{OutPlace}
use Rattle.plan_steps.specs.declared.plan.Step.{Step}
use Rattle.plan_steps.specs.Named.{fetch_in, step_for}
use Rattle.batch_execute.specs.Nexts.{next_from, nexts_from, next_or}
use Rattle.batch_execute.specs.Roles.{role_of, roles_from, roles_of, steps_from, steps_of}
use Rattle.batch_execute.specs.Ways.{way_in, way_of, ways_from, ways_of}
use Rattle.output_plan.specs.Laid.{way_or, role_or, show_or}
use Rattle.output_plan.specs.Layout.{IsLaidOut, label_of}
use Rattle.output_plan.specs.Leaves.{text_or}

pub get_map : {A B : Type 0} (f : A → B) (xs : List A) (i : ℕ) → slice_get (map f xs) i ≡ option_map f (slice_get xs i)
get_map f [] i = refl
get_map f (x ∷ xs) zero = refl
get_map f (x ∷ xs) (suc i) = get_map f xs i

-- the item at a place
pub there : {A : Type 0} (xs : List A) (i : ℕ) (x : A) → i < length xs → x ≡ get_or xs i x → slice_get xs i ≡ Some x
there xs i x lt is = get_drop xs (drop (i + 1) xs) i x (drop-item xs i x lt is)

-- ---- the next place

pub next_least : (parent : Option ℕ) (k : ℕ) (ps : List Place) → k ≤ next_from parent k ps
next_least parent k [] = omega arith
next_least parent k (p ∷ ps) = by (same_place p.parent parent) (next_least parent (k + 1) ps) where
  by : (b : Bool) → k + 1 ≤ next_from parent (k + 1) ps → k ≤ cond b k (next_from parent (k + 1) ps)
  by true h = omega arith
  by false h = omega (arith, h)

pub next_at : (ps : List Place) (k j n : ℕ) (p : Place) → n ≡ k + j + 1 → slice_get ps j ≡ Some p → slice_get (nexts_from k ps) j ≡ Some (next_from p.parent n (drop (suc j) ps))
next_at [] k j n p e at = cc
next_at (q ∷ ps) k zero n p e at =
    let same : q ≡ p = cc in
    let more : k + 1 ≡ n = omega (arith, e) in
    ap (λ (r : Place). Some (next_from r.parent (k + 1) ps)) same ∙ ap (λ m. Some (next_from p.parent m ps)) more
next_at (q ∷ ps) k (suc j) n p e at = next_at ps (k + 1) j n p (omega (arith, e)) at

module _ (places : List Place) (labels : List (List ℕ)) (nexts : List ℕ) (laid : IsLaidOut places labels nexts) (i : ℕ) (p : Place) (lt : i < length places) (is : p ≡ get_or places i p) where
  pub label_is : text_or (slice_get labels i) ≡ json_key p.key
  label_is =
      ap (λ l. text_or (slice_get l i)) laid.labelled
      ∙ ap text_or (get_map label_of places i ∙ ap (option_map label_of) (there places i p lt is))

  pub next_is : next_or i (slice_get nexts i) ≡ next_from p.parent (i + 1) (drop (i + 1) places)
  next_is =
      let e : suc i ≡ i + 1 = omega arith in
      ap (λ l. next_or i (slice_get l i)) laid.linked
      ∙ ap (next_or i) (next_at places 0 i (i + 1) p (omega arith) (there places i p lt is))
      ∙ ap (λ n. next_from p.parent (i + 1) (drop n places)) e

  pub next_after : (n : ℕ) → n ≡ next_or i (slice_get nexts i) → i + 1 ≤ n
  next_after n e = let l = next_least p.parent (i + 1) (drop (i + 1) places) in omega (arith, l, e, next_is)

-- ---- roles, steps and ways

module _ (base : BaseParts) (vars : Vars) (all : List Place) where
  role_from : (ps : List Place) (k j n : ℕ) (p : Place) → n ≡ k + j → slice_get ps j ≡ Some p → slice_get (roles_from base vars all k ps) j ≡ Some (role_of base vars all n p)
  role_from [] k j n p e at = cc
  role_from (q ∷ ps) k zero n p e at =
      let same : q ≡ p = cc in
      let more : k ≡ n = omega (arith, e) in
      ap (λ r. Some (role_of base vars all k r)) same ∙ ap (λ m. Some (role_of base vars all m p)) more
  role_from (q ∷ ps) k (suc j) n p e at = role_from ps (k + 1) j n p (omega (arith, e)) at

  pub role_at : (i : ℕ) (p : Place) → slice_get all i ≡ Some p → role_or (slice_get (roles_of base vars all) i) ≡ role_of base vars all i p
  role_at i p at = ap role_or (role_from all 0 i i p (omega arith) at)

module _ (out : List OutPlace) where
  step_from : (ps : List Place) (k j n : ℕ) (p : Place) → n ≡ k + j → slice_get ps j ≡ Some p → slice_get (steps_from out k ps) j ≡ Some (step_for out n)
  step_from [] k j n p e at = cc
  step_from (q ∷ ps) k zero n p e at = let more : k ≡ n = omega (arith, e) in ap (λ m. Some (step_for out m)) more
  step_from (q ∷ ps) k (suc j) n p e at = step_from ps (k + 1) j n p (omega (arith, e)) at

  pub show_at : (all : List Place) (i : ℕ) (p : Place) → slice_get all i ≡ Some p → show_or (slice_get (steps_of out all) i) ≡ step_for out i
  show_at all i p at = ap show_or (step_from all 0 i i p (omega arith) at)

module _ (all : List Step) where
  way_from : (ss : List Step) (k j n : ℕ) (s : Step) → n ≡ k + j → slice_get ss j ≡ Some s → slice_get (ways_from all k ss) j ≡ Some (way_of all n)
  way_from [] k j n s e at = cc
  way_from (q ∷ ss) k zero n s e at = let more : k ≡ n = omega (arith, e) in ap (λ m. Some (way_of all m)) more
  way_from (q ∷ ss) k (suc j) n s e at = way_from ss (k + 1) j n s (omega (arith, e)) at

  no_way : (ss : List Step) (k j : ℕ) → slice_get ss j ≡ None → slice_get (ways_from all k ss) j ≡ None
  no_way [] k j at = refl
  no_way (q ∷ ss) k zero at = cc
  no_way (q ∷ ss) k (suc j) at = no_way ss (k + 1) j at

  pub way_at : (k : ℕ) → way_or (slice_get (ways_of all) k) ≡ way_of all k
  way_at k = by (slice_get all k) refl where
    by : (o : Option Step) → slice_get all k ≡ o → way_or (slice_get (ways_of all) k) ≡ way_of all k
    by None at = ap way_or (no_way all 0 k at) ∙ sym (ap (λ o. way_in all (fetch_in o)) at)
    by (Some s) at = ap way_or (way_from all 0 k k s (omega arith) at)
