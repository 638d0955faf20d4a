-- The draft with an inlined plan is sound and lean.
use Rattle.std.proofs.Common.{◌≡◌, List, sym, subst}
use Rattle.pg_base.specs.Base.{BaseParts}
use Rattle.place_tree.specs.declared.place.Tree.{Tree}
use Rattle.plan_constraints.specs.declared.constraint.Constraint.{Constraint}
use Rattle.plan_steps.specs.declared.plan.Plan.{Plan}
use Rattle.plan_steps.specs.Fetches.{IsTreeOver, IsMerged}
use Rattle.plan_steps.specs.Sound.{IsSound, IsLean}
use Rattle.inline_select.specs.Inlined.{inlined}
use Rattle.inline_select.specs.Laws.{CanBeInlined}
use Rattle.inline_select.proofs.Lean.{inlined_lean}
use Rattle.inline_select.proofs.Whole.{inlined_sound}

module _ (base : BaseParts) (plan : Plan) (tree : Tree) (constraints : List Constraint) (over_tree : IsTreeOver base tree) (merged : IsMerged base tree constraints plan) (sound : IsSound base plan tree constraints) where
  ready : CanBeInlined base plan tree constraints
  ready = record { over_tree = over_tree; checked = sound.checked; merged = merged }

  pub stays_sound : (made : Plan) → made ≡ inlined plan → IsSound base made tree constraints
  stays_sound made is = subst (λ p. IsSound base p tree constraints) (sym is) (inlined_sound base plan tree constraints ready)

  pub is_lean : (made : Plan) → made ≡ inlined plan → IsLean base made tree constraints
  is_lean made is = subst (λ p. IsLean base p tree constraints) (sym is) (inlined_lean base plan tree constraints ready)
