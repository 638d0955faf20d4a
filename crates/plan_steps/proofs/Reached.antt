-- Places that are met wherever the place above them is, and where they are met.
use Rattle.std.proofs.Common.{◌≡◌, ℕ, zero, suc, ◌+◌, ◌<◌, ◌≤◌, List, [], ◌∷◌, ◌++◌, drop, Option, Some, None, Bool, true, false, refl, sym, ap, ◌∙◌, subst, arith, eq-eqb, ne_eqb, zero-add}
use Rattle.std.specs.Prelude.{slice_get, ⊤}
use Rattle.pg_base.specs.Base.{BaseParts}
use Rattle.pg_base.specs.declared.vars.Vars.{Vars}
use Rattle.place_tree.specs.declared.place.Place.{Place}
use Rattle.place_tree.specs.declared.place.Tree.{Tree}
use Rattle.place_tree.specs.Fetch.{argument_error}
use Rattle.place_tree.specs.Fields.{does_of, is_row_field}
use Rattle.place_tree.specs.declared.answer.Answer.{Answer}
use Rattle.place_tree.specs.Fold.{same_place, when, fold}
use Rattle.plan_steps.specs.declared.plan.Plan.{Plan}
use Rattle.plan_steps.specs.declared.plan.Root.{Root}
use Rattle.plan_steps.specs.declared.plan.Root.TheVariants as root
use Rattle.plan_steps.specs.Denoted.{denoted}
use Rattle.plan_steps.specs.Fetches.{has_fields, IsTreeOver}
use Rattle.plan_steps.specs.Under.{root_place, is_under}
use Rattle.plan_steps.specs.Values.{Moment}
use Rattle.plan_steps.proofs.Meetings.{flat, states, V, Outside, met_once, met_below}
use Rattle.plan_steps.proofs.Unders.{under_top, under_more}
use Rattle.plan_steps.proofs.Visits.{visits_in, visits, met}

-- a row field without an error, or another field
abbrev pub NoError : BaseParts → Vars → Place → Type 0
NoError base vars p = is_row_field (does_of base.schema p) ≡ true → argument_error base vars p ≡ None

-- below the root, or below a place that is reached, has fields and has no error
pub data Reached (base : BaseParts) (vars : Vars) (tree : Tree) (r : Root) : ℕ → Type 0 where
  at_top : {i : ℕ} (p : Place) → slice_get tree.places i ≡ Some p → p.parent ≡ root_place r → Reached base vars tree r i
  under : {i : ℕ} (a : ℕ) (p q : Place) → slice_get tree.places i ≡ Some p → p.parent ≡ Some a → slice_get tree.places a ≡ Some q
      → has_fields (does_of base.schema q) ≡ true → NoError base vars q → Reached base vars tree r a → Reached base vars tree r i

passed_over : {M : Type 0} (b : Bool) (f : ⊤ → M) (m : M) → b ≡ false → when b f m ≡ m
passed_over true f m h = cc
passed_over false f m h = refl

skips : {S M : Type 0} (ask : ℕ → Place → S → Answer S) (see : ℕ → Place → S → Answer M → M → M) (none_ : M) (n : ℕ) (places : List Place) (k : ℕ) (parent : Option ℕ) (s : S) → ((j : ℕ) (p : Place) → j < n → slice_get places j ≡ Some p → same_place p.parent parent ≡ false) → fold ask see none_ places k parent s ≡ fold ask see none_ (drop n places) (k + n) parent s
skips ask see none_ zero places k parent s h = let e : k ≡ k + 0 = omega arith in ap (λ i. fold ask see none_ places i parent s) e
skips ask see none_ (suc n) [] k parent s h = refl
skips ask see none_ (suc n) (p ∷ places) k parent s h =
    let e : k + 1 + n ≡ k + suc n = omega arith in
    passed_over (same_place p.parent parent) _ _ (h zero p (omega arith) refl)
    ∙ skips ask see none_ n places (k + 1) parent s (λ j q lt at. h (suc j) q (omega (arith, lt)) at)
    ∙ ap (λ i. fold ask see none_ (drop n places) i parent s) e

same_refl : (o : Option ℕ) → same_place o o ≡ true
same_refl None = refl
same_refl (Some n) = eq-eqb n n refl

-- from which place on the places under a root stand
abbrev start : Root → ℕ
start root.Query = 0
start (root.Field place row) = place + 1

start_outside : (r : Root) → Outside (start r) (root_place r)
start_outside root.Query = tt
start_outside (root.Field place row) = let e : place < place + 1 = omega arith in e

far_from : (o : Option ℕ) (i : ℕ) → ((a : ℕ) → o ≡ Some a → a < i) → same_place o (Some i) ≡ false
far_from None i h = refl
far_from (Some a) i h = ne_eqb a i (λ e. let lt = h a refl in absurd (omega (arith, e, lt)))

module _ (m : Moment) (plan : Plan) (tree : Tree) (r : Root) (over_tree : IsTreeOver m.base tree) where
  not_before : (x : Root) (j : ℕ) (p : Place) → j < start x → slice_get tree.places j ≡ Some p → same_place p.parent (root_place x) ≡ false
  not_before root.Query j p lt at = absurd (omega (arith, lt))
  not_before (root.Field place row) j p lt at = far_from p.parent place (λ a e. let l = over_tree.earlier j p a at e in omega (arith, l, lt))

  from_start : visits m plan tree r ≡ V (denoted m plan) tree.places over_tree.earlier (drop (start r) tree.places) (start r) (root_place r) []
  from_start =
      skips (denoted m plan) (λ i p path a rest. record { place = i; path = path } ∷ (visits_in a ++ rest)) [] (start r) tree.places 0 (root_place r) [] (not_before r)
      ∙ ap (λ i. V (denoted m plan) tree.places over_tree.earlier (drop (start r) tree.places) i (root_place r) []) (zero-add (start r))

  start_le : (x : Root) (i : ℕ) (p : Place) → slice_get tree.places i ≡ Some p → p.parent ≡ root_place x → start x ≤ i
  start_le root.Query i p at e = omega arith
  start_le (root.Field place row) i p at e = let lt = over_tree.earlier i p place at e in omega (arith, lt)

  pub meets_top : (i : ℕ) (p : Place) → slice_get tree.places i ≡ Some p → p.parent ≡ root_place r → met i (visits m plan tree r) ≡ [] ∷ []
  meets_top i p at e =
      ap (met i) from_start
      ∙ met_once (denoted m plan) tree.places over_tree.earlier i p at (drop (start r) tree.places) (start r) refl (root_place r) []
      (subst (Outside (start r)) (sym e) (start_outside r)) (ap (λ o. same_place o (root_place r)) e ∙ same_refl (root_place r)) (start_le r i p at e)

  reached_start : (i : ℕ) → Reached m.base m.vars tree r i → start r ≤ i
  reached_start i (at_top p at e) = start_le r i p at e
  reached_start i (under a p q at e above has fine re) = let lt = over_tree.earlier i p a at e in let le = reached_start a re in omega (arith, lt, le)

  pub meets_under : (i : ℕ) (p : Place) (a : ℕ) (q : Place) → slice_get tree.places i ≡ Some p → p.parent ≡ Some a → slice_get tree.places a ≡ Some q → Reached m.base m.vars tree r a → met i (visits m plan tree r) ≡ flat (λ t. states (denoted m plan a q t)) (met a (visits m plan tree r))
  meets_under i p a q at e above re =
      ap (met i) from_start
      ∙ met_below (denoted m plan) tree.places over_tree.earlier a q above i p at e (drop (start r) tree.places) (start r) refl (root_place r) [] (start_outside r) (reached_start a re)
      ∙ ap (λ vs. flat (λ t. states (denoted m plan a q t)) (met a vs)) (sym from_start)

  pub reached_under : (i : ℕ) → Reached m.base m.vars tree r i → is_under tree r i ≡ true
  reached_under i (at_top p at e) = under_top m.base tree over_tree r i p at e
  reached_under i (under a p q at e above has fine re) = under_more m.base tree over_tree r i p a at e (reached_under a re)
