-- What a place shows that is met without an error may be sent.
use Rattle.std.proofs.Common.{◌≡◌, ℕ, zero, suc, ◌<◌, ◌≤◌, List, [], ◌∷◌, length, Option, Some, Bool, true, false, cond, refl, ap, ◌∙◌, subst, arith, eq-eqb, eqb-true}
use Rattle.std.specs.Prelude.{slice_get, ◌==◌, ◌&&◌, ◌||◌, IfSome}
use Rattle.std.specs.List.{list_any}
use Rattle.std.proofs.lemmas.Option.{slice_get_within}
use Rattle.pg_base.specs.Base.{BaseParts}
use Rattle.pg_base.specs.declared.vars.Vars.{Vars}
use Rattle.rel_model.specs.declared.tables.Row.{Row}
use Rattle.rel_model.specs.declared.tables.Tables.{Tables}
use Rattle.place_tree.specs.declared.place.Place.{Place}
use Rattle.place_tree.specs.declared.place.Tree.{Tree}
use Rattle.plan_constraints.specs.declared.constraint.Constraint.{Constraint}
use Rattle.plan_steps.specs.declared.plan.OutPlace.{OutPlace}
use Rattle.plan_steps.specs.declared.plan.Plan.{Plan}
use Rattle.plan_steps.specs.declared.plan.Root.{Root}
use Rattle.plan_steps.specs.declared.plan.Root.TheVariants as root
use Rattle.plan_steps.specs.declared.plan.Step.{Step}
use Rattle.plan_steps.specs.declared.plan.Step.TheVariants as step
use Rattle.plan_steps.specs.Chains.{chain, or_nothing, is_in}
use Rattle.plan_steps.specs.Denoted.{moment}
use Rattle.plan_steps.specs.Named.{named_by, named_in, named_at, used_by, step_for}
use Rattle.plan_steps.specs.Sent.{may_ask}
use Rattle.plan_steps.specs.Sound.{MayRun}
use Rattle.plan_steps.specs.Under.{parent_in, above, is_under, is_used}
use Rattle.batch_execute.specs.Entries.{may_send}
use Rattle.batch_execute.specs.Ready.{IsClear, at_top, below, fetch_shown, reads, IsReady}
use Rattle.batch_execute.specs.Roles.{role_of}

or_left : (a b : Bool) → a ≡ true → (a || b) ≡ true
or_left true b h = refl
or_left false b h = cc

pub or_right : (a b : Bool) → b ≡ true → (a || b) ≡ true
or_right true b h = refl
or_right false b h = h

pub and_both : (a b : Bool) → a ≡ true → b ≡ true → (a && b) ≡ true
and_both true b h k = k
and_both false b h k = cc

-- ---- places

module _ (base : BaseParts) (vars : Vars) (tree : Tree) (before : (i : ℕ) (p : Place) (j : ℕ) → slice_get tree.places i ≡ Some p → p.parent ≡ Some j → j < i) where
  above_is : (i : ℕ) (p : Place) (o : Option ℕ) → slice_get tree.places i ≡ Some p → p.parent ≡ o → above tree.places i ≡ o
  above_is i p o at e = ap parent_in at ∙ e

  -- the root stands among the places above a clear place
  root_above : (place : ℕ) (row : Row) (i : ℕ) → IsClear base vars tree (root.Field place row) i → (n : ℕ) → i ≤ n → is_in (or_nothing (chain (above tree.places) n) (above tree.places i)) place ≡ true
  root_above place row i (at_top p at e clear) n le = by_count n le where
    by_count : (n : ℕ) → i ≤ n → is_in (or_nothing (chain (above tree.places) n) (above tree.places i)) place ≡ true
    by_count zero le = absurd (let lt = before i p place at e in omega (arith, lt, le))
    by_count (suc n) le =
        ap (λ o. is_in (or_nothing (chain (above tree.places) (suc n)) o) place) (above_is i p (Some place) at e)
        ∙ or_left (place == place) _ (eq-eqb place place refl)
  root_above place row i (below p j at e clear none) n le = by_count n le (λ k q. root_above place row j clear k q) where
    by_count : (n : ℕ) → i ≤ n → ((k : ℕ) → j ≤ k → is_in (or_nothing (chain (above tree.places) k) (above tree.places j)) place ≡ true) → is_in (or_nothing (chain (above tree.places) n) (above tree.places i)) place ≡ true
    by_count zero le rest = absurd (let lt = before i p j at e in omega (arith, lt, le))
    by_count (suc n) le rest =
        ap (λ o. is_in (or_nothing (chain (above tree.places) (suc n)) o) place) (above_is i p (Some j) at e)
        ∙ or_right (j == place) _ (rest n (let lt = before i p j at e in omega (arith, lt, le)))

  clear_there : (r : Root) (i : ℕ) → IsClear base vars tree r i → i < length tree.places
  clear_there r i (at_top p at e none) = slice_get_within tree.places i p at
  clear_there r i (below p j at e clear none) = slice_get_within tree.places i p at

  pub clear_under : (r : Root) (i : ℕ) → IsClear base vars tree r i → is_under tree r i ≡ true
  clear_under root.Query i clear = refl
  clear_under (root.Field place row) i clear =
      root_above place row i clear (length tree.places) (let lt = clear_there (root.Field place row) i clear in omega (arith, lt))

-- ---- steps

module _ (steps : List Step) (earlier : (k : ℕ) (s : Step) → slice_get steps k ≡ Some s → IfSome (named_by s) (λ j. j < k)) where
  first_used : (n k : ℕ) → is_in (chain (named_at steps) (suc n) k) k ≡ true
  first_used n k = or_left (k == k) _ (eq-eqb k k refl)

  next_used : (n k s : ℕ) → named_at steps k ≡ Some s → is_in (chain (named_at steps) (suc (suc n)) k) s ≡ true
  next_used n k s e = or_right (k == s) _ (ap (λ o. is_in (or_nothing (chain (named_at steps) (suc n)) o) s) e ∙ first_used n s)

  own_used : (n k : ℕ) → k < n → is_in (chain (named_at steps) n k) k ≡ true
  own_used zero k lt = absurd (omega (arith, lt))
  own_used (suc n) k lt = first_used n k

  named_used : (n k s : ℕ) → s < k → k < n → named_at steps k ≡ Some s → is_in (chain (named_at steps) n k) s ≡ true
  named_used zero k s less lt e = absurd (omega (arith, lt))
  named_used (suc zero) k s less lt e = absurd (omega (arith, less, lt))
  named_used (suc (suc n)) k s less lt e = next_used n k s e

  -- what shows a step uses the fetch of which it shows something
  pub shown_used : (k s : ℕ) → fetch_shown k (slice_get steps k) ≡ Some s → is_in (used_by steps k) s ≡ true
  shown_used k s e = by (slice_get steps k) refl e where
    within : (x : Step) → slice_get steps k ≡ Some x → k < length steps
    within x at = slice_get_within steps k x at

    by_name : (x : Step) → slice_get steps k ≡ Some x → named_by x ≡ Some s → is_in (used_by steps k) s ≡ true
    by_name x at n =
        let less : s < k = subst (λ o. IfSome o (λ j. j < k)) n (earlier k x at) in
        named_used (length steps) k s less (within x at) (ap named_in at ∙ n)

    by : (o : Option Step) → slice_get steps k ≡ o → fetch_shown k o ≡ Some s → is_in (used_by steps k) s ≡ true
    by (Some (step.Fetch f)) at e = let same : k ≡ s = cc in subst (λ j. is_in (used_by steps k) j ≡ true) same (own_used (length steps) k (within (step.Fetch f) at))
    by (Some (step.Count t)) at e = let same : t ≡ s = cc in by_name (step.Count t) at (ap (λ j. Some j) same)
    by (Some (step.Page t part)) at e = let same : t ≡ s = cc in by_name (step.Page t part) at (ap (λ j. Some j) same)
    by _ at e = cc

-- an entry that shows the step of a place
pub any_shows : (test : OutPlace → Bool) (out : List OutPlace) (i k : ℕ) → step_for out i ≡ Some k → ((o : OutPlace) → o.place ≡ i → o.step ≡ k → test o ≡ true) → list_any test out ≡ true
any_shows test [] i k e each = cc
any_shows test (o ∷ out) i k e each = by (o.place == i) refl e (λ h. any_shows test out i k h each) where
  by : (b : Bool) → (o.place == i) ≡ b → cond b (Some o.step) (step_for out i) ≡ Some k → (step_for out i ≡ Some k → list_any test out ≡ true) → (test o || list_any test out) ≡ true
  by true t e later = let same : o.step ≡ k = cc in or_left (test o) (list_any test out) (each o (eqb-true o.place i t) same)
  by false t e later = or_right (test o) (list_any test out) (later e)

-- ---- the law

pub clear_sent : (base : BaseParts) (plan : Plan) (tree : Tree) (constraints : List Constraint) → IsReady base plan tree constraints →
    ((k : ℕ) (s : Step) → slice_get plan.steps k ≡ Some s → IfSome (named_by s) (λ j. j < k)) →
    (tables : Tables) (vars : Vars) (r : Root) → MayRun base tree constraints tables vars r → (i : ℕ) (p : Place) (k s : ℕ) → slice_get tree.places i ≡ Some p → IsClear base vars tree r i →
    reads (role_of base vars tree.places i p) ≡ true → step_for plan.out i ≡ Some k →
    fetch_shown k (slice_get plan.steps k) ≡ Some s → may_send (moment base tables vars r) tree plan r s ≡ true
clear_sent base plan tree constraints ready earlier tables vars r may i p k s at clear uses shows fetch =
    let under = clear_under base vars tree ready.earlier r i clear in
    let used : is_used tree plan r s ≡ true =
    any_shows (λ o. is_under tree r o.place && is_in (used_by plan.steps o.step) s) plan.out i k shows
    (λ o place step_is. and_both (is_under tree r o.place) (is_in (used_by plan.steps o.step) s)
    (ap (is_under tree r) place ∙ under)
    (ap (λ j. is_in (used_by plan.steps j) s) step_is ∙ shown_used plan.steps earlier k s fetch)) in
    and_both (is_used tree plan r s) (may_ask (moment base tables vars r) tree r plan.out s) used (ready.asks tables vars r may i p k s at clear uses shows fetch)
