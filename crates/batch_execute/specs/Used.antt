-- Which steps the places under a root use, in a table.
use Rattle.std.specs.Prelude.{◌≡◌, ◌<◌, ℕ, nat_lt, Bool, true, false, ◌==◌, ◌&&◌, if◌then◌else◌, List, length, Option, Some, None, IfSome, slice_get, slice_set}
use Rattle.std.specs.List.{list_any}
use Rattle.place_tree.specs.declared.place.Place.{Place}
use Rattle.plan_steps.specs.declared.plan.OutPlace.{OutPlace}
use Rattle.plan_steps.specs.declared.plan.Root.{Root}
use Rattle.plan_steps.specs.declared.plan.Step.{Step}
use Rattle.plan_steps.specs.Chains.{chain, is_in}
use Rattle.plan_steps.specs.Named.{named_at}
use Rattle.plan_steps.specs.Under.{is_below, is_used}
use Rattle.plan_steps.specs.View.{Planned}

abbrev pub mark_or : Option Bool → Bool
mark_or None = false
mark_or (Some mark) = mark

-- whether the step at k is marked
abbrev pub mark_at : List Bool → ℕ → Bool
mark_at marks k = mark_or (slice_get marks k)

-- the steps that the places under a root use are marked
abbrev pub AreUsed : Planned → Root → List Bool → Type 0
AreUsed p r marks = (k : ℕ) → k < length p.plan.steps → mark_at marks k ≡ is_used p.tree p.plan r k

-- each step names an earlier one, if any
abbrev pub NameEarlier : List Step → Type 0
NameEarlier steps = (k : ℕ) → IfSome (named_at steps k) (λ j. j < k)

-- ---- one pass, from the last step to the first

-- an entry under the root shows the step
abbrev pub is_shown : List Place → Option ℕ → ℕ → OutPlace → Bool
is_shown places root k o = is_below places root o.place && (o.step == k)

abbrev pub with_shown : List Bool → Bool → OutPlace → List Bool
with_shown marks under o = if under then slice_set marks o.step true else marks

-- a step that is marked marks the one that it names
abbrev pub with_named : List Bool → Bool → Option ℕ → List Bool
with_named marks marked None = marks
with_named marks marked (Some j) = if marked then slice_set marks j true else marks

-- the step that a step names, where the pass has come to it
abbrev pub named_from : List Step → ℕ → ℕ → Option ℕ
named_from steps n k = if nat_lt k n then None else named_at steps k

-- whether a step is used where another one is shown, by what the pass has come to
abbrev pub is_reached : List Step → ℕ → ℕ → ℕ → Bool
is_reached steps n shown k = is_in (chain (named_from steps n) (length steps) shown) k

-- an entry under the root uses the step, by what the pass has come to
abbrev pub is_used_from : List Place → List Step → Option ℕ → ℕ → ℕ → OutPlace → Bool
is_used_from places steps root n k o = is_below places root o.place && is_reached steps n o.step k

abbrev pub ArePassed : List Place → List Step → List OutPlace → Option ℕ → ℕ → List Bool → Type 0
ArePassed places steps out root n marks =
    (k : ℕ) → k < length steps → mark_at marks k ≡ list_any (is_used_from places steps root n k) out
