-- A turn of the loop that writes members.
use Rattle.std.proofs.Common.{◌≡◌, ℕ, ◌+◌, ◌<◌, List, [], ◌∷◌, ◌++◌, map, length, get_or, drop, Option, Some, Bool, true, false, refl, sym, ap, ◌∙◌, subst, append_assoc}
use Rattle.std.specs.Prelude.{⊤}
use Rattle.pg_base.proofs.ListSteps.{drop-item}
use Rattle.place_tree.specs.declared.place.Place.{Place}
use Rattle.place_tree.specs.declared.event.Event.{Event}
use Rattle.place_tree.specs.declared.event.Event.TheVariants as event
use Rattle.place_tree.specs.Fold.{Answer, Shows, Fails, One, Many, below, same_place, when}
use Rattle.place_tree.specs.Response.{Members, no_members, member, objects, value_of, members_of}
use Rattle.place_tree.specs.Events.{leaf_event, value_events, element_events, member_events}
use Rattle.place_tree.proofs.Folds.{Paired, Agree, folds_related}
use Rattle.place_tree.specs.Written.{object_events, objects_events, answer_events, written, object_written, objects_written, answer_written, member_written}

when_true : {M : Type 0} (b : Bool) (f : ⊤ → M) (m : M) → b ≡ true → when b f m ≡ f tt
when_true true f m h = refl
when_true false f m h = cc

when_false : {M : Type 0} (b : Bool) (f : ⊤ → M) (m : M) → b ≡ false → when b f m ≡ m
when_false true f m h = cc
when_false false f m h = refl

module _ {S : Type 0} (ask : ℕ → Place → S → Answer S) where
  objects_same : (behind : List Place) (i : ℕ) (ss : List S) → objects_events (map (written ask behind (i + 1) (Some i)) ss) ≡ objects_written ask behind i ss
  objects_same behind i [] = refl
  objects_same behind i (s ∷ ss) = ap (λ l. object_written ask behind i s ++ l) (objects_same behind i ss)

  answer_same : (behind : List Place) (i : ℕ) (p : Place) (a : Answer S) → answer_events p (below (written ask behind (i + 1) (Some i)) a) ≡ answer_written ask behind i p a
  answer_same behind i p (Shows l) = refl
  answer_same behind i p (Fails m) = refl
  answer_same behind i p (One s) = refl
  answer_same behind i p (Many ss) = ap (λ l. event.OpenList ∷ (l ++ event.CloseList ∷ [])) (objects_same behind i ss)

  module _ (places : List Place) (i : ℕ) (p : Place) (lt : i < length places) (is : p ≡ get_or places i p) (parent : Option ℕ) (s : S) (so_far total : List Event)
      (same : so_far ++ written ask (drop i places) i parent s ≡ total) where
    pub written_below : same_place p.parent parent ≡ true → (out : List Event) → out ≡ so_far ++ member_written ask (drop (i + 1) places) i p s → out ++ written ask (drop (i + 1) places) (i + 1) parent s ≡ total
    written_below h out e =
        let behind = drop (i + 1) places in
        let rest = written ask behind (i + 1) parent s in
        ap (λ o. o ++ rest) e
        ∙ append_assoc so_far (member_written ask behind i p s) rest
        ∙ ap (λ l. so_far ++ (event.Key p.key ∷ (l ++ rest))) (sym (answer_same behind i p (ask i p s)))
        ∙ ap (λ l. so_far ++ l) (sym (when_true (same_place p.parent parent) (λ _. event.Key p.key ∷ (answer_events p (below (written ask behind (i + 1) (Some i)) (ask i p s)) ++ rest)) rest h))
        ∙ ap (λ l. so_far ++ written ask l i parent s) (sym (drop-item places i p lt is))
        ∙ same

    pub written_elsewhere : same_place p.parent parent ≡ false → so_far ++ written ask (drop (i + 1) places) (i + 1) parent s ≡ total
    written_elsewhere h =
        let behind = drop (i + 1) places in
        let rest = written ask behind (i + 1) parent s in
        ap (λ l. so_far ++ l) (sym (when_false (same_place p.parent parent) (λ _. event.Key p.key ∷ (answer_events p (below (written ask behind (i + 1) (Some i)) (ask i p s)) ++ rest)) rest h))
        ∙ ap (λ l. so_far ++ written ask l i parent s) (sym (drop-item places i p lt is))
        ∙ same

-- ---- what is written is the response, event by event

abbrev Written : Members → List Event → Type 0
Written ms es = member_events ms ≡ es

objects_pair : (ms : List Members) (es : List (List Event)) → Paired Written ms es → element_events (objects ms) ≡ objects_events es
objects_pair [] [] h = refl
objects_pair [] (e ∷ es) h = absurd h
objects_pair (m ∷ ms) [] h = absurd h
objects_pair (m ∷ ms) (e ∷ es) h =
    ap (λ l. object_events l ++ element_events (objects ms)) h.0 ∙ ap (λ l. object_events e ++ l) (objects_pair ms es h.1)

value_pair : (p : Place) (a : Answer Members) (b : Answer (List Event)) → Agree Written a b → value_events (value_of p a) ≡ answer_events p b
value_pair p (Shows l) (Shows m) h = ap (λ x. leaf_event x ∷ []) h
value_pair p (Fails d) (Fails e) h = ap (λ x. event.Failed x p.pos ∷ []) h
value_pair p (One m) (One e) h = ap object_events h
value_pair p (Many ms) (Many es) h = ap (λ l. event.OpenList ∷ (l ++ event.CloseList ∷ [])) (objects_pair ms es h)
value_pair p (Shows l) (Fails e) h = absurd h
value_pair p (Shows l) (One t) h = absurd h
value_pair p (Shows l) (Many ts) h = absurd h
value_pair p (Fails d) (Shows m) h = absurd h
value_pair p (Fails d) (One t) h = absurd h
value_pair p (Fails d) (Many ts) h = absurd h
value_pair p (One s) (Shows m) h = absurd h
value_pair p (One s) (Fails e) h = absurd h
value_pair p (One s) (Many ts) h = absurd h
value_pair p (Many ss) (Shows m) h = absurd h
value_pair p (Many ss) (Fails e) h = absurd h
value_pair p (Many ss) (One t) h = absurd h

module _ {S : Type 0} (ask : ℕ → Place → S → Answer S) where
  states_pair : (ss : List S) → Paired (λ s t. s ≡ t) ss ss
  states_pair [] = tt
  states_pair (s ∷ ss) = (refl, states_pair ss)

  answer_pair : (a : Answer S) → Agree (λ s t. s ≡ t) a a
  answer_pair (Shows l) = refl
  answer_pair (Fails e) = refl
  answer_pair (One s) = refl
  answer_pair (Many ss) = states_pair ss

  -- asked at equal states
  same_answers : (i : ℕ) (p : Place) (s t : S) → s ≡ t → Agree (λ s t. s ≡ t) (ask i p s) (ask i p t)
  same_answers i p s t e = subst (λ v. Agree (λ s t. s ≡ t) (ask i p s) (ask i p v)) e (answer_pair (ask i p s))

  pub written_is : (places : List Place) (parent : Option ℕ) (s : S) → member_events (members_of ask places 0 parent s) ≡ written ask places 0 parent s
  written_is places parent s =
      folds_related (λ _ s t. s ≡ t) Written ask ask
      (λ i p s a rest. member p.key (value_of p a) rest) (λ i p s a rest. event.Key p.key ∷ (answer_events p a ++ rest)) no_members [] places
      (λ i p s t at e. same_answers i p s t e)
      (λ i p s t a b m n at r h q. ap (λ l. event.Key p.key ∷ (l ++ member_events m)) (value_pair p a b h) ∙ ap (λ l. event.Key p.key ∷ (answer_events p b ++ l)) q)
      refl places 0 refl parent s s refl
