-- What the places of a tree give, by one recursion over them.
use Rattle.std.specs.Prelude.{ℕ, ◌+◌, Bool, true, false, ◌==◌, List, [], ◌∷◌, map, Option, Some, None, ⊤}
use Rattle.place_tree.specs.declared.place.Place.{Place}
pub use Rattle.place_tree.specs.declared.answer.Leaf.{Leaf}
pub use Rattle.place_tree.specs.declared.answer.Leaf.TheVariants.{Null as null, Int as int, Truth as truth, Text as text}
pub use Rattle.place_tree.specs.declared.answer.Answer.{Answer}
pub use Rattle.place_tree.specs.declared.answer.Answer.TheVariants.{Shows, Fails, One, Many}

abbrev pub below : {S M : Type 0} → (S → M) → Answer S → Answer M
below f (Shows l) = Shows l
below f (Fails m) = Fails m
below f (One s) = One (f s)
below f (Many ss) = Many (map f ss)

abbrev pub same_place : Option ℕ → Option ℕ → Bool
same_place None None = true
same_place None (Some y) = false
same_place (Some x) None = false
same_place (Some x) (Some y) = x == y

-- the first where the test holds, which is not looked at elsewhere
abbrev pub when : {M : Type 0} → Bool → (⊤ → M) → M → M
when true f m = f tt
when false f m = m

-- A result for the places of this parent at a state, where the list has the places from i on; those below a place come
-- after it. `ask` is what a place gives at a state. `see` makes a result from that, with the results of the places
-- below in place of their states, and from the result of the places that follow.
abbrev pub fold : {S M : Type 0} → (ℕ → Place → S → Answer S) → (ℕ → Place → S → Answer M → M → M) → M
    → List Place → ℕ → Option ℕ → S → M
fold ask see nothing [] i parent s = nothing
fold ask see nothing (p ∷ places) i parent s =
    when (same_place p.parent parent)
    (λ _. see i p s (below (fold ask see nothing places (i + 1) (Some i)) (ask i p s))
    (fold ask see nothing places (i + 1) parent s))
    (fold ask see nothing places (i + 1) parent s)
