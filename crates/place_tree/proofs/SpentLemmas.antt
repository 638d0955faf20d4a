-- A turn of the loop that counts.
use Rattle.std.proofs.Common.{◌≡◌, ℕ, ◌+◌, ◌<◌, List, [], ◌∷◌, map, length, get_or, drop, Option, Some, Bool, true, false, refl, ap, ◌∙◌, subst, arith, Result, Err}
use Rattle.std.specs.Prelude.{⊤}
use Rattle.pg_base.proofs.ListSteps.{drop-item}
use Rattle.place_tree.specs.declared.place.Place.{Place}
use Rattle.place_tree.specs.declared.counting.CountFault.{CountFault}
use Rattle.place_tree.specs.declared.counting.CountFault.TheVariants.{TooMany, Memory}
use Rattle.place_tree.specs.Fold.{Answer, Shows, Fails, One, Many, below, same_place, when}
use Rattle.place_tree.specs.Spent.{total, answer_cost, spent, state_spent, states_spent, answer_spent, member_spent, Spends}

when_true : {M : Type 0} (b : Bool) (f : ⊤ → M) (m : M) → b ≡ true → when b f m ≡ f tt
when_true true f m h = refl
when_true false f m h = cc

module _ {S : Type 0} (ask : ℕ → Place → S → Answer S) (cost : ℕ → Place → Answer S → ℕ) where
  states_same : (behind : List Place) (i : ℕ) (ss : List S) → total (map (spent ask cost behind (i + 1) (Some i)) ss) ≡ states_spent ask cost behind i ss
  states_same behind i [] = refl
  states_same behind i (s ∷ ss) = ap (λ n. state_spent ask cost behind i s + n) (states_same behind i ss)

  answer_same : (behind : List Place) (i : ℕ) (a : Answer S) → answer_cost (below (spent ask cost behind (i + 1) (Some i)) a) ≡ answer_spent ask cost behind i a
  answer_same behind i (Shows l) = refl
  answer_same behind i (Fails m) = refl
  answer_same behind i (One s) = refl
  answer_same behind i (Many ss) = states_same behind i ss

  module _ (places : List Place) (i : ℕ) (p : Place) (lt : i < length places) (is : p ≡ get_or places i p) (parent : Option ℕ) (s : S) (under : same_place p.parent parent ≡ true) where
    spent_here : spent ask cost (drop i places) i parent s ≡ member_spent ask cost (drop (i + 1) places) i p s + spent ask cost (drop (i + 1) places) (i + 1) parent s
    spent_here =
        let behind = drop (i + 1) places in
        let rest = spent ask cost behind (i + 1) parent s in
        ap (λ l. spent ask cost l i parent s) (drop-item places i p lt is)
        ∙ when_true (same_place p.parent parent) (λ _. cost i p (ask i p s) + answer_cost (below (spent ask cost behind (i + 1) (Some i)) (ask i p s)) + rest) rest under
        ∙ ap (λ n. cost i p (ask i p s) + n + rest) (answer_same behind i (ask i p s))

    module _ (first left all : ℕ) (same : first + spent ask cost (drop i places) i parent s ≡ left + all) where
      pub spent_goes : (now : ℕ) → now + member_spent ask cost (drop (i + 1) places) i p s ≡ left → first + spent ask cost (drop (i + 1) places) (i + 1) parent s ≡ now + all
      spent_goes now h = omega (arith, spent_here, same, h)

      pub spent_stops : {A : Type 0} (now : ℕ) (r : Result A CountFault) (e : CountFault) → Spends left now (member_spent ask cost (drop (i + 1) places) i p s) r → r ≡ Err e → Spends {A = A} first now all (Err e)
      spent_stops {A} now r e h is_ = by e (subst (Spends {A = A} left now (member_spent ask cost (drop (i + 1) places) i p s)) is_ h)
        where
          by : (e : CountFault) → Spends {A = A} left now (member_spent ask cost (drop (i + 1) places) i p s) (Err e) → Spends {A = A} first now all (Err e)
          by TooMany h = omega (arith, spent_here, same, h)
          by Memory h = tt
