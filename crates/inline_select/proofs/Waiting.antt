-- What waits for a step that isn't made yet is what moves to it.
use Rattle.std.proofs.Common.{◌≡◌, ◌≢◌, ℕ, zero, suc, ◌+◌, ◌<◌, ◌≤◌, List, [], ◌∷◌, ◌++◌, length, drop, Option, Some, None, Bool, true, false, refl, sym, ap, ◌∙◌, subst, arith, set, length-set, length-append, inl, inr, eq-eqb, ne_eqb, get_or}
use Rattle.std.proofs.lemmas.List.{reverse-append}
use Rattle.std.proofs.Math.Seq.{drop-length}
use Rattle.std.specs.Prelude.{slice_get, reverse}
use Rattle.place_tree.specs.Fold.{same_place}
use Rattle.plan_steps.specs.declared.plan.FetchStep.{FetchStep}
use Rattle.plan_steps.specs.declared.plan.Step.{Step}
use Rattle.plan_steps.specs.Named.{fetch_in}
use Rattle.plan_steps.proofs.Bools.{same_or}
use Rattle.inline_select.specs.Inlined.{step_with, target, joined, moves_to, moved_to, inlined_from}
use Rattle.inline_select.specs.Lists.{empty_lists, put_at, with_child, with_moved, with_step}

-- the steps from one on are made, and the fetches among them wait, for each earlier step those that move to it
pub record AreWaiting (steps : List Step) (below : List (List FetchStep)) (made : List Step) : Type 0 where
  pub within : length below ≤ length steps
  pub all : reverse made ≡ inlined_from steps (length below) (drop (length below) steps)
  pub wait : (k : ℕ) (list : List FetchStep) → slice_get below k ≡ Some list → reverse list ≡ moved_to steps k (reverse made)

-- ---- lists

length_empty : (steps : List Step) → length (empty_lists steps) ≡ length steps
length_empty [] = refl
length_empty (s ∷ steps) = let z = length_empty steps in omega (arith, z)

empty_at : (steps : List Step) (k : ℕ) (list : List FetchStep) → slice_get (empty_lists steps) k ≡ Some list → list ≡ []
empty_at [] k list e = cc
empty_at (s ∷ steps) zero list e = cc
empty_at (s ∷ steps) (suc k) list e = empty_at steps k list e

get_set : {X : Type 0} (xs : List X) (k : ℕ) (x y : X) → slice_get xs k ≡ Some x → slice_get (set xs k y) k ≡ Some y
get_set [] k x y h = cc
get_set (a ∷ xs) zero x y h = refl
get_set (a ∷ xs) (suc k) x y h = get_set xs k x y h

get_other : {X : Type 0} (xs : List X) (k j : ℕ) (y : X) → k ≢ j → slice_get (set xs k y) j ≡ slice_get xs j
get_other [] k j y h = refl
get_other (a ∷ xs) zero zero y h = absurd (h refl)
get_other (a ∷ xs) zero (suc j) y h = refl
get_other (a ∷ xs) (suc k) zero y h = refl
get_other (a ∷ xs) (suc k) (suc j) y h = get_other xs k j y (λ e. h (ap suc e))

get_first : {X : Type 0} (xs ys : List X) (k : ℕ) (x : X) → slice_get xs k ≡ Some x → slice_get (xs ++ ys) k ≡ Some x
get_first [] ys k x h = cc
get_first (a ∷ xs) ys zero x h = h
get_first (a ∷ xs) ys (suc k) x h = get_first xs ys k x h

get_last : {X : Type 0} (xs : List X) (x : X) → slice_get (xs ++ x ∷ []) (length xs) ≡ Some x
get_last [] x = refl
get_last (a ∷ xs) x = get_last xs x

drop_at : {X : Type 0} (xs : List X) (k : ℕ) (x : X) → slice_get xs k ≡ Some x → drop k xs ≡ x ∷ drop (k + 1) xs
drop_at [] k x h = cc
drop_at (a ∷ xs) zero x h = let same : a ≡ x = cc in ap (λ y. y ∷ xs) same ∙ ap (λ l. x ∷ l) (drop_none xs) where
  drop_none : {X : Type 0} (xs : List X) → xs ≡ drop 0 xs
  drop_none [] = refl
  drop_none (x ∷ xs) = refl
drop_at (a ∷ xs) (suc k) x h = let e : suc (k + 1) ≡ suc k + 1 = omega arith in drop_at xs k x h ∙ ap (λ n. x ∷ drop n (a ∷ xs)) e

at_or : {X : Type 0} (xs : List X) (n : ℕ) (x : X) → n < length xs → x ≡ get_or xs n x → slice_get xs n ≡ Some x
at_or [] n x lt e = absurd (omega (arith, lt))
at_or (a ∷ xs) zero x lt e = ap (λ y. Some y) (sym e)
at_or (a ∷ xs) (suc n) x lt e = at_or xs n x (omega (arith, lt)) e

reverse_last : {X : Type 0} (xs : List X) (x : X) → reverse (xs ++ x ∷ []) ≡ x ∷ reverse xs
reverse_last xs x = reverse-append xs (x ∷ [])

-- ---- one step more

length_put : (lists : List (List FetchStep)) (place : ℕ) (o : Option (List FetchStep)) (f : FetchStep) → length (put_at lists place o f) ≡ length lists
length_put lists place None f = refl
length_put lists place (Some list) f = length-set lists place (list ++ f ∷ [])

length_moved : (o : Option ℕ) (f : FetchStep) (lists : List (List FetchStep)) → length (with_moved o f lists) ≡ length lists
length_moved None f lists = refl
length_moved (Some place) f lists = length_put lists place (slice_get lists place) f

length_step : (steps : List Step) (o : Option FetchStep) (lists : List (List FetchStep)) → length (with_step steps o lists) ≡ length lists
length_step steps None lists = refl
length_step steps (Some f) lists = length_moved (target steps f) f lists

module _ (steps : List Step) where
  none_joined : (b : Bool) (others : List FetchStep) → joined b None others ≡ others
  none_joined true others = refl
  none_joined false others = refl

  -- the list of a fetch that a fetch more moves to, and of any other
  put_same : (lists : List (List FetchStep)) (g : ℕ) (f : FetchStep) (o : Option (List FetchStep)) → slice_get lists g ≡ o → (list : List FetchStep) → slice_get (put_at lists g o f) g ≡ Some list → (before : List FetchStep) × (slice_get lists g ≡ Some before) × (list ≡ before ++ f ∷ [])
  put_same lists g f None e list h = let z = sym e ∙ h in cc
  put_same lists g f (Some before) e list h =
      (before, e, (let z = sym (get_set lists g before (before ++ f ∷ []) e) ∙ h in cc))

  put_other : (lists : List (List FetchStep)) (g k : ℕ) (f : FetchStep) (o : Option (List FetchStep)) → g ≢ k → slice_get (put_at lists g o f) k ≡ slice_get lists k
  put_other lists g k f None n = refl
  put_other lists g k f (Some before) n = get_other lists g k (before ++ f ∷ []) n

  module _ (lists : List (List FetchStep)) (rest : List Step) (wait : (k : ℕ) (list : List FetchStep) → slice_get lists k ≡ Some list → reverse list ≡ moved_to steps k rest) where
    wait_moved : (f : FetchStep) (o : Option ℕ) (k : ℕ) (list : List FetchStep) → slice_get (with_moved o f lists) k ≡ Some list → reverse list ≡ joined (same_place o (Some k)) (Some f) (moved_to steps k rest)
    wait_moved f None k list at = wait k list at
    wait_moved f (Some g) k list at = elim (same_or g k) [
      | inl e ↦
          let z = put_same lists k f (slice_get lists k) refl list (subst (λ n. slice_get (with_child lists n f) k ≡ Some list) e at) in
          ap reverse z.2 ∙ reverse_last z.0 f ∙ ap (λ l. f ∷ l) (wait k z.0 z.1)
          ∙ ap (λ b. joined b (Some f) (moved_to steps k rest)) (sym (eq-eqb g k e))
      | inr n ↦
          wait k list (sym (put_other lists g k f (slice_get lists g) n) ∙ at)
          ∙ ap (λ b. joined b (Some f) (moved_to steps k rest)) (sym (ne_eqb g k n))
    ]

    wait_step : (o : Option FetchStep) (k : ℕ) (list : List FetchStep) → slice_get (with_step steps o lists) k ≡ Some list → reverse list ≡ joined (moves_to steps k o) o (moved_to steps k rest)
    wait_step None k list at = wait k list at ∙ sym (none_joined (moves_to steps k None) (moved_to steps k rest))
    wait_step (Some f) k list at = wait_moved f (target steps f) k list at

  -- ---- the loop

  pub waiting_first : AreWaiting steps (empty_lists steps) []
  waiting_first = record {
    within = let z = length_empty steps in omega (arith, z);
    all = sym (ap (λ n. inlined_from steps n (drop n steps)) (length_empty steps) ∙ ap (inlined_from steps (length steps)) (drop-length steps));
    wait = λ k list at. ap reverse (empty_at steps k list at);
  }

  pub waiting_bound : (lists below : List (List FetchStep)) (more : List FetchStep) (made : List Step) → lists ≡ below ++ more ∷ [] → AreWaiting steps lists made → length below < length steps
  waiting_bound lists below more made is w =
      let a = w.within in let b = ap length is in let c = length-append below (more ∷ []) in omega (arith, a, b, c)

  pub waiting_next : (lists below : List (List FetchStep)) (more : List FetchStep) (made : List Step) → lists ≡ below ++ more ∷ [] → AreWaiting steps lists made →
      (s : Step) → slice_get steps (length below) ≡ Some s → (t : Step) → t ≡ step_with (reverse more) s → (after : List (List FetchStep)) → after ≡ with_step steps (fetch_in (Some t)) below → AreWaiting steps after (made ++ t ∷ [])
  waiting_next lists below more made is w s at t made_is after after_is =
      let k = length below in
      let len : length lists ≡ k + 1 = ap length is ∙ length-append below (more ∷ []) in
      let same : length after ≡ k = ap length after_is ∙ length_step steps (fetch_in (Some t)) below in
      let rest = reverse made in
      let kids = w.wait k more (ap (λ l. slice_get l k) is ∙ get_last below more) in
      let later : rest ≡ inlined_from steps (k + 1) (drop (k + 1) steps) = w.all ∙ ap (λ n. inlined_from steps n (drop n steps)) len in
      record {
        within = (let a = w.within in omega (arith, a, len, same));
        all =
            reverse_last made t
            ∙ ap (λ x. x ∷ rest) (made_is ∙ ap (λ l. step_with l s) kids)
            ∙ ap (λ l. step_with (moved_to steps k l) s ∷ l) later
            ∙ ap (inlined_from steps k) (sym (drop_at steps k s at))
            ∙ ap (λ n. inlined_from steps n (drop n steps)) (sym same);
        wait = λ j list there.
            wait_step below rest (λ j list e. w.wait j list (ap (λ l. slice_get l j) is ∙ get_first below (more ∷ []) j list e)) (fetch_in (Some t)) j list (ap (λ l. slice_get l j) (sym after_is) ∙ there)
            ∙ ap (moved_to steps j) (sym (reverse_last made t));
      }

  pub waiting_turn : (lists below : List (List FetchStep)) (more : List FetchStep) (made : List Step) → lists ≡ below ++ more ∷ [] → AreWaiting steps lists made →
      (n : ℕ) → n ≡ length below → (s : Step) → s ≡ get_or steps n s → (t : Step) → t ≡ step_with (reverse more) s → (after : List (List FetchStep)) → after ≡ with_step steps (fetch_in (Some t)) below → AreWaiting steps after (made ++ t ∷ [])
  waiting_turn lists below more made is w n n_is s s_is t made_is after after_is =
      waiting_next lists below more made is w s (at_or steps (length below) s (waiting_bound lists below more made is w) (subst (λ k. s ≡ get_or steps k s) n_is s_is)) t made_is after after_is

  drop_start : (xs : List Step) → drop 0 xs ≡ xs
  drop_start [] = refl
  drop_start (x ∷ xs) = refl

  pub waiting_end : (made : List Step) → AreWaiting steps [] made → reverse made ≡ inlined_from steps 0 steps
  waiting_end made w = w.all ∙ ap (inlined_from steps 0) (drop_start steps)
