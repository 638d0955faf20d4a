-- The check of small plans, computed.
use Rattle.std.proofs.Common.{◌≡◌, ℕ, List, [], ◌∷◌, None, true, false, refl}
use Rattle.pg_base.specs.Base.{BaseParts}
use Rattle.pg_base.specs.declared.value.Value.TheVariants as value
use Rattle.place_tree.specs.declared.place.Place.{Place}
use Rattle.place_tree.specs.declared.place.Tree.{Tree}
use Rattle.plan_steps.specs.declared.plan.Layer.{Layer}
use Rattle.plan_steps.specs.declared.plan.OutPlace.{OutPlace}
use Rattle.plan_steps.specs.declared.plan.Plan.{Plan}
use Rattle.plan_steps.specs.declared.plan.Step.{Step}
use Rattle.plan_steps.specs.declared.plan.Step.TheVariants as step
use Rattle.plan_steps.specs.Check.{is_checked}

abbrev one_place : Place → Tree
one_place p = record { places = p ∷ []; asked = [] }

abbrev first_layer : List ℕ → Layer
first_layer steps = record { over = None; steps = steps }

abbrev shows : ℕ → OutPlace
shows k = record { place = 0; layer = 0; step = k }

abbrev plan_with : List Step → List Layer → List OutPlace → Plan
plan_with steps layers out = record { steps = steps; layers = layers; out = out }

module _ (base : BaseParts) (p : Place) where
  constant_shown : is_checked base (one_place p) (plan_with (step.Const value.Null ∷ []) (first_layer (0 ∷ []) ∷ []) (shows 0 ∷ [])) ≡ true
  constant_shown = refl

  shown_twice : is_checked base (one_place p) (plan_with (step.Const value.Null ∷ []) (first_layer (0 ∷ []) ∷ []) (shows 0 ∷ shows 0 ∷ [])) ≡ false
  shown_twice = refl

  no_layer : is_checked base (one_place p) (plan_with (step.Const value.Null ∷ []) [] []) ≡ false
  no_layer = refl

  step_in_no_layer : is_checked base (one_place p) (plan_with (step.Const value.Null ∷ step.Given ∷ []) (first_layer (0 ∷ []) ∷ []) (shows 0 ∷ [])) ≡ false
  step_in_no_layer = refl

  step_stands_twice : is_checked base (one_place p) (plan_with (step.Const value.Null ∷ []) (first_layer (0 ∷ 0 ∷ []) ∷ []) (shows 0 ∷ [])) ≡ false
  step_stands_twice = refl

  count_of_no_fetch : is_checked base (one_place p) (plan_with (step.Const value.Null ∷ step.Count 0 ∷ []) (first_layer (0 ∷ 1 ∷ []) ∷ []) (shows 1 ∷ [])) ≡ false
  count_of_no_fetch = refl

  step_not_there : is_checked base (one_place p) (plan_with (step.Const value.Null ∷ []) (first_layer (0 ∷ []) ∷ []) (shows 1 ∷ [])) ≡ false
  step_not_there = refl
