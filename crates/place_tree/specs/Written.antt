-- The events that the places of a tree give, as code appends them.
use Rattle.std.specs.Prelude.{ℕ, ◌+◌, List, [], ◌∷◌, ◌++◌, Option, Some}
use Rattle.place_tree.specs.declared.place.Place.{Place}
use Rattle.place_tree.specs.declared.event.Event.{Event}
use Rattle.place_tree.specs.declared.event.Event.TheVariants as event
use Rattle.place_tree.specs.Fold.{Answer, Shows, Fails, One, Many, fold}
use Rattle.place_tree.specs.Events.{leaf_event}

abbrev pub object_events : List Event → List Event
object_events members = event.OpenObject ∷ (members ++ event.CloseObject ∷ [])

abbrev pub objects_events : List (List Event) → List Event
objects_events [] = []
objects_events (m ∷ ms) = object_events m ++ objects_events ms

-- the events of a place's value, from those of the members below
abbrev pub answer_events : Place → Answer (List Event) → List Event
answer_events p (Shows l) = leaf_event l ∷ []
answer_events p (Fails message) = event.Failed message p.pos ∷ []
answer_events p (One members) = object_events members
answer_events p (Many members) = event.OpenList ∷ (objects_events members ++ event.CloseList ∷ [])

abbrev pub written : {S : Type 0} → (ℕ → Place → S → Answer S) → List Place → ℕ → Option ℕ → S → List Event
written ask places i parent s =
    fold ask (λ i p s a rest. event.Key p.key ∷ (answer_events p a ++ rest)) [] places i parent s

-- ---- parts of it: of the place at i, with the places behind it

abbrev pub object_written : {S : Type 0} → (ℕ → Place → S → Answer S) → List Place → ℕ → S → List Event
object_written ask behind i s = object_events (written ask behind (i + 1) (Some i) s)

abbrev pub objects_written : {S : Type 0} → (ℕ → Place → S → Answer S) → List Place → ℕ → List S → List Event
objects_written ask behind i [] = []
objects_written ask behind i (s ∷ ss) = object_written ask behind i s ++ objects_written ask behind i ss

abbrev pub list_written : {S : Type 0} → (ℕ → Place → S → Answer S) → List Place → ℕ → List S → List Event
list_written ask behind i ss = event.OpenList ∷ (objects_written ask behind i ss ++ event.CloseList ∷ [])

abbrev pub answer_written : {S : Type 0} → (ℕ → Place → S → Answer S) → List Place → ℕ → Place → Answer S → List Event
answer_written ask behind i p (Shows l) = leaf_event l ∷ []
answer_written ask behind i p (Fails message) = event.Failed message p.pos ∷ []
answer_written ask behind i p (One s) = object_written ask behind i s
answer_written ask behind i p (Many ss) = list_written ask behind i ss

abbrev pub member_written : {S : Type 0} → (ℕ → Place → S → Answer S) → List Place → ℕ → Place → S → List Event
member_written ask behind i p s = event.Key p.key ∷ answer_written ask behind i p (ask i p s)
