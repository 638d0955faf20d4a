-- A turn of the loops that count the rows of places.
use Rattle.std.proofs.Common.{◌≡◌, ℕ, ◌+◌, ◌<◌, List, [], ◌∷◌, map, length, get_or, drop, Option, Some, Bool, true, false, Result, Err, cond, refl, sym, ap, ◌∙◌, subst, arith}
use Rattle.std.specs.Prelude.{⊤, slice_get}
use Rattle.pg_base.proofs.ListSteps.{drop-item}
use Rattle.place_tree.specs.declared.answer.Answer.{Answer}
use Rattle.place_tree.specs.declared.answer.Answer.TheVariants.{Shows, Fails, One, Many}
use Rattle.place_tree.specs.declared.counting.CountFault.{CountFault}
use Rattle.place_tree.specs.declared.counting.CountFault.TheVariants.{TooMany, Memory}
use Rattle.place_tree.specs.declared.place.Place.{Place}
use Rattle.place_tree.specs.Fold.{below, same_place, when}
use Rattle.place_tree.proofs.Folds.{same_place_true}
use Rattle.place_tree.proofs.Lists.{drop_next}
use Rattle.place_tree.specs.Spent.{total, answer_cost, Spends}
use Rattle.batch_execute.specs.Counted.{counted, state_counted, states_counted, answer_counted, place_counted}
use Rattle.batch_execute.specs.Nexts.{next_from, nexts_from, next_or}
use Rattle.batch_execute.proofs.NextPlaces.{next_is}

pub spends_on : (first left all here rest now : ℕ) → first + (here + rest) ≡ left + all → now + here ≡ left → first + rest ≡ now + all
spends_on first left all here rest now same h = omega (arith, same, h)

pub spends_stops : (A B : Type 0) (first left all here rest now : ℕ) → first + (here + rest) ≡ left + all → (r : Result A CountFault) (e : CountFault) → Spends left now here r → r ≡ Err e → Spends {A = B} first now all (Err e)
spends_stops A B first left all here rest now same r e h is = by e (subst (Spends {A = A} left now here) is h)
  where
    by : (e : CountFault) → Spends {A = A} left now here (Err e) → Spends {A = B} first now all (Err e)
    by TooMany h = omega (arith, same, h)
    by Memory h = tt

when_is : {M : Type 0} (b : Bool) (f : ⊤ → M) (m : M) → b ≡ true → when b f m ≡ f tt
when_is true f m h = refl
when_is false f m h = cc

when_not : {M : Type 0} (b : Bool) (f : ⊤ → M) (m : M) → b ≡ false → when b f m ≡ m
when_not true f m h = cc
when_not false f m h = refl

module _ {S : Type 0} (ask : ℕ → Place → S → Answer S) (cost : ℕ → Place → S → ℕ) where
  states_same : (after : List Place) (i : ℕ) (ss : List S) → total (map (counted ask cost after (i + 1) (Some i)) ss) ≡ states_counted ask cost after i ss
  states_same after i [] = refl
  states_same after i (s ∷ ss) = ap (λ n. state_counted ask cost after i s + n) (states_same after i ss)

  -- at one state, and at those after it
  pub states_here : {X : Type 0} (after : List Place) (i : ℕ) (f : X → S) (xs : List X) (k : ℕ) (x : X) → k < length xs → x ≡ get_or xs k x →
      states_counted ask cost after i (map f (drop k xs)) ≡ state_counted ask cost after i (f x) + states_counted ask cost after i (map f (drop (k + 1) xs))
  states_here after i f xs k x lt is = ap (λ l. states_counted ask cost after i (map f l)) (drop-item xs k x lt is)

  answer_same : (after : List Place) (i : ℕ) (a : Answer S) → answer_cost (below (counted ask cost after (i + 1) (Some i)) a) ≡ answer_counted ask cost after i a
  answer_same after i (Shows l) = refl
  answer_same after i (Fails m) = refl
  answer_same after i (One s) = refl
  answer_same after i (Many ss) = states_same after i ss

  module _ (places : List Place) (i : ℕ) (p : Place) (lt : i < length places) (is : p ≡ get_or places i p) (parent : Option ℕ) (s : S) where
    -- a place of this parent
    pub counted_here : same_place p.parent parent ≡ true → counted ask cost (drop i places) i parent s ≡ place_counted ask cost (drop (i + 1) places) i p s + counted ask cost (drop (i + 1) places) (i + 1) parent s
    counted_here under =
        let after = drop (i + 1) places in
        let rest = counted ask cost after (i + 1) parent s in
        ap (λ l. counted ask cost l i parent s) (drop-item places i p lt is)
        ∙ when_is (same_place p.parent parent) (λ _. cost i p s + answer_cost (below (counted ask cost after (i + 1) (Some i)) (ask i p s)) + rest) rest under
        ∙ ap (λ n. cost i p s + n + rest) (answer_same after i (ask i p s))

    -- another one
    pub counted_past : same_place p.parent parent ≡ false → counted ask cost (drop i places) i parent s ≡ counted ask cost (drop (i + 1) places) (i + 1) parent s
    counted_past apart =
        let after = drop (i + 1) places in
        let rest = counted ask cost after (i + 1) parent s in
        ap (λ l. counted ask cost l i parent s) (drop-item places i p lt is)
        ∙ when_not (same_place p.parent parent) (λ _. cost i p s + answer_cost (below (counted ask cost after (i + 1) (Some i)) (ask i p s)) + rest) rest apart

  module _ (places : List Place) (parent : Option ℕ) (s : S) where
    passed : (k : ℕ) (p : Place) (ps : List Place) → same_place p.parent parent ≡ false → counted ask cost (p ∷ ps) k parent s ≡ counted ask cost ps (k + 1) parent s
    passed k p ps h = when_not (same_place p.parent parent) (λ _. cost k p s + answer_cost (below (counted ask cost ps (k + 1) (Some k)) (ask k p s)) + counted ask cost ps (k + 1) parent s) (counted ask cost ps (k + 1) parent s) h

    -- places up to the next one below the parent
    pub counted_from : (ps : List Place) (k : ℕ) → drop k places ≡ ps → counted ask cost ps k parent s ≡ counted ask cost (drop (next_from parent k ps) places) (next_from parent k ps) parent s
    counted_from [] k e = ap (λ l. counted ask cost l k parent s) (sym e)
    counted_from (p ∷ ps) k e = by (same_place p.parent parent) refl (counted_from ps (k + 1) (drop_next places ps k p e)) where
      by : (b : Bool) → same_place p.parent parent ≡ b → counted ask cost ps (k + 1) parent s ≡ counted ask cost (drop (next_from parent (k + 1) ps) places) (next_from parent (k + 1) ps) parent s
          → counted ask cost (p ∷ ps) k parent s ≡ counted ask cost (drop (next_from parent k (p ∷ ps)) places) (next_from parent k (p ∷ ps)) parent s
      by true h later =
          ap (λ l. counted ask cost l k parent s) (sym e)
          ∙ ap (λ n. counted ask cost (drop n places) n parent s) (sym (ap (λ b. cond b k (next_from parent (k + 1) ps)) h))
      by false h later =
          passed k p ps h ∙ later
          ∙ ap (λ n. counted ask cost (drop n places) n parent s) (sym (ap (λ b. cond b k (next_from parent (k + 1) ps)) h))

  -- a place of this parent, and those from the next one on
  pub counted_next : (places : List Place) (nexts : List ℕ) (linked : nexts ≡ nexts_from 0 places) (i : ℕ) (p : Place) (lt : i < length places) (is : p ≡ get_or places i p) (parent : Option ℕ) (s : S)
      → same_place p.parent parent ≡ true → (n : ℕ) → n ≡ next_or i (slice_get nexts i)
      → counted ask cost (drop i places) i parent s ≡ place_counted ask cost (drop (i + 1) places) i p s + counted ask cost (drop n places) n parent s
  counted_next places nexts linked i p lt is parent s under n next =
      let so : next_from parent (i + 1) (drop (i + 1) places) ≡ n =
      sym (next ∙ next_is places nexts linked i p lt is ∙ ap (λ q. next_from q (i + 1) (drop (i + 1) places)) (same_place_true p.parent parent under)) in
      counted_here places i p lt is parent s under
      ∙ ap (λ m. place_counted ask cost (drop (i + 1) places) i p s + m)
      (counted_from places parent s (drop (i + 1) places) (i + 1) refl ∙ ap (λ k. counted ask cost (drop k places) k parent s) so)
